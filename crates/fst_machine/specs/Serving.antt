-- Graphs whose arcs serve for the arcs of another, as where arcs are dropped, sorted or moved.
use Rattle.std.specs.Prelude.{◌≡◌, ℕ, Some, slice_get}
use Rattle.fst_semiring.specs.Cost.{Cost}
use Rattle.fst_machine.specs.Machine.{Arc}
use Rattle.fst_machine.specs.Graph.{Graph}
use Rattle.fst_machine.specs.Letters.{letter_of}
use Rattle.fst_machine.specs.Cycles.{IsCoaccessible}

-- R ties names of g to names of h. Tied names have the same final weight, and for each arc of g whose end can
-- reach a final name there is an arc of h with the same labels and weight, whose ends are tied too.
pub record Serves {N M : Type 0} (R : N → M → Type 0) (g : Graph N) (h : Graph M) : Type 0 where
  pub start : (n : N) → g.start ≡ Some n → IsCoaccessible g n → (m : M) × (h.start ≡ Some m) × R n m
  pub arcs : (n : N) (m : M) (k : ℕ) (a : Arc Cost N) → R n m → slice_get (g.arcs n) k ≡ Some a → IsCoaccessible g a.next
      → (j : ℕ) × (b : Arc Cost M) × (slice_get (h.arcs m) j ≡ Some b) × (letter_of b ≡ letter_of a) × R a.next b.next
  pub final : (n : N) (m : M) → R n m → h.final m ≡ g.final n
