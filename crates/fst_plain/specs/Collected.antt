-- Paths collected in their order.
use Rattle.std.specs.Prelude.{ℕ, suc, Bool, true, false, List, [], ◌∷◌}
use Rattle.std.specs.declared.cmp.Ordering.{Ordering}
use Rattle.std.specs.declared.cmp.Ordering.TheVariants.{Less, Equal, Greater}
use Rattle.fst_semiring.specs.Cost.{Cost, best, finite, infinite}
use Rattle.fst_semiring.specs.declared.arc_type.ArcType.{ArcType}
use Rattle.fst_semiring.specs.Semiring.{times}
use Rattle.fst_machine.specs.Graph.{Graph}
use Rattle.fst_machine.specs.PathOrder.{WeightedPath, path_cmp}
use Rattle.fst_plain.specs.PlainPaths.{Part}

-- how many of the first paths come before this one
abbrev pub advance : Ordering → ℕ → ℕ
advance Less n = n
advance Equal n = 0
advance Greater n = 0

abbrev pub place_in : List (WeightedPath ℕ) → WeightedPath ℕ → ℕ
place_in [] a = 0
place_in (b ∷ bs) a = advance (path_cmp b a) (suc (place_in bs a))

-- whether the first path that does not come before this one ties with it
abbrev pub ties_by : Ordering → Bool → Bool
ties_by Less rest = rest
ties_by Equal rest = true
ties_by Greater rest = false

abbrev pub ties_in : List (WeightedPath ℕ) → WeightedPath ℕ → Bool
ties_in [] a = false
ties_in (b ∷ bs) a = ties_by (path_cmp b a) (ties_in bs a)

-- the path in its place among those in order; one that ties with another is not taken
abbrev pub placed : Ordering → WeightedPath ℕ → List (WeightedPath ℕ) → WeightedPath ℕ → List (WeightedPath ℕ) → List (WeightedPath ℕ)
placed Less b bs a rest = b ∷ rest
placed Equal b bs a rest = b ∷ bs
placed Greater b bs a rest = a ∷ (b ∷ bs)

abbrev pub inserted : List (WeightedPath ℕ) → WeightedPath ℕ → List (WeightedPath ℕ)
inserted [] a = a ∷ []
inserted (b ∷ bs) a = placed (path_cmp b a) b bs a (inserted bs a)

-- a path is kept where it ends at a final state, with that final weight
abbrev pub kept : ArcType → Cost → Part → List (WeightedPath ℕ) → List (WeightedPath ℕ)
kept kind infinite a found = found
kept kind best a found = inserted found (record { path = a.path; weight = times kind a.product best })
kept kind (finite x y) a found = inserted found (record { path = a.path; weight = times kind a.product (finite x y) })

-- those that are kept, one after the other
abbrev pub collected : ArcType → Graph ℕ → List Part → List (WeightedPath ℕ) → List (WeightedPath ℕ)
collected kind g [] found = found
collected kind g (a ∷ parts) found = collected kind g parts (kept kind (g.final a.end) a found)
