-- What names of a graph do, and ties of names that do the same. (Mohri 2009, section 3.4, minimization: two states of
-- a pushed deterministic acceptor are equivalent where the same paths lead from them to final states, by labels and
-- weights.)
use Rattle.std.specs.Prelude.{◌≡◌, ◌↔◌, ℕ, List, Some, slice_get}
use Rattle.fst_semiring.specs.Cost.{Cost, infinite}
use Rattle.fst_machine.specs.Machine.{Arc}
use Rattle.fst_machine.specs.Graph.{Graph}
use Rattle.fst_machine.specs.Letters.{Letter, letter_of}
use Rattle.fst_machine.specs.Paths.{Transition, IsPath, letters}
use Rattle.fst_machine.specs.Cycles.{IsCoaccessible}

-- Some path from p to a final name has these labels and weights, and w is the final weight there.
pub record Behaves {N : Type 0} (g : Graph N) (p : N) (ls : List Letter) (w : Cost) : Type 0 where
  pub path : List (Transition N)
  pub last : N
  pub leads : IsPath g p path last
  pub final : g.final last ≡ infinite → ⊥
  pub spells : ls ≡ letters path
  pub ends : w ≡ g.final last

-- p in the one graph and q in the other have the same behaviour
abbrev pub Alike : {N M : Type 0} → Graph N → Graph M → N → M → Type 0
Alike g h p q = (ls : List Letter) (w : Cost) → Behaves g p ls w ↔ Behaves h q ls w

-- each arc leads to a name from which a path goes on to a final one
abbrev pub GoesOn : {N : Type 0} → Graph N → Type 0
GoesOn {N} g = (p : N) (k : ℕ) (a : Arc Cost N) → slice_get (g.arcs p) k ≡ Some a → IsCoaccessible g a.next

-- An arc of the list has the letter of a, and its end is tied to that of a.
pub record Follows {N M : Type 0} (R : N → M → Type 0) (a : Arc Cost N) (arcs : List (Arc Cost M)) : Type 0 where
  pub place : ℕ
  pub arc : Arc Cost M
  pub has : slice_get arcs place ≡ Some arc
  pub same : letter_of a ≡ letter_of arc
  pub tied : R a.next arc.next

-- R ties names with the same final weight, and for each arc of the one there is an arc of the other with the same
-- labels and weight whose ends are tied.
pub record IsStable {N M : Type 0} (g : Graph N) (h : Graph M) (R : N → M → Type 0) : Type 0 where
  pub final : (p : N) (q : M) → R p q → g.final p ≡ h.final q
  pub there : (p : N) (q : M) (k : ℕ) (a : Arc Cost N) → R p q → slice_get (g.arcs p) k ≡ Some a → Follows R a (h.arcs q)
  pub back : (p : N) (q : M) (k : ℕ) (b : Arc Cost M) → R p q → slice_get (h.arcs q) k ≡ Some b → Follows (λ m n. R n m) b (g.arcs p)
