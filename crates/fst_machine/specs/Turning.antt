-- Graphs whose arcs lead back where the arcs of another lead. (Mohri 2009, section 3.1: reversal.)
use Rattle.std.specs.Prelude.{◌≡◌, ℕ, Some, slice_get}
use Rattle.fst_semiring.specs.Cost.{Cost}
use Rattle.fst_machine.specs.Machine.{Arc}
use Rattle.fst_machine.specs.Graph.{Graph}
use Rattle.fst_machine.specs.Letters.{letter_of}

-- R ties names of g to names of h. For each arc of g from a name of the domain, and each name of h tied to
-- its end, an arc of h with the same labels and weight leads back from that name to one tied to its
-- beginning; arcs do not leave the domain.
pub record Turns {N M : Type 0} (R : N → M → Type 0) (g : Graph N) (h : Graph M) (Domain : N → Type 0) : Type 0 where
  pub arcs : (n : N) (m : M) (k : ℕ) (a : Arc Cost N) → Domain n → slice_get (g.arcs n) k ≡ Some a → R a.next m
      → (j : ℕ) × (b : Arc Cost M) × (slice_get (h.arcs m) j ≡ Some b) × (letter_of b ≡ letter_of a) × R n b.next
  pub within : (n : N) (k : ℕ) (a : Arc Cost N) → Domain n → slice_get (g.arcs n) k ≡ Some a → Domain a.next
