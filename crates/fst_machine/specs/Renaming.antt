-- One graph inside another under other names.
use Rattle.std.specs.Prelude.{◌≡◌, ℕ, List, Some, map, slice_get}
use Rattle.fst_semiring.specs.Cost.{Cost}
use Rattle.fst_machine.specs.Machine.{Arc}
use Rattle.fst_machine.specs.Graph.{Graph, renamed}
use Rattle.fst_machine.specs.Paths.{Transition}

-- a path with each name renamed
abbrev pub moved : {N M : Type 0} → (N → M) → List (Transition N) → List (Transition M)
moved f path = map (λ t. record { state = f t.state; place = t.place; arc = renamed f t.arc }) path

-- Each name of the domain has in h, under its other name, the same arcs, renamed, and the same final weight;
-- arcs do not leave the domain.
pub record Renames {N M : Type 0} (f : N → M) (g : Graph N) (h : Graph M) (Domain : N → Type 0) : Type 0 where
  pub arcs : (n : N) → Domain n → h.arcs (f n) ≡ map (renamed f) (g.arcs n)
  pub final : (n : N) → Domain n → h.final (f n) ≡ g.final n
  pub within : (n : N) (k : ℕ) (a : Arc Cost N) → Domain n → slice_get (g.arcs n) k ≡ Some a → Domain a.next
