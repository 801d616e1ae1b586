-- The machine without epsilon arcs. (OpenFst manual, "RmEpsilon".) Each state that the start reaches gets the arcs that
-- are not epsilon of the states that epsilon arcs reach from it: its own first, then those of the others by number, each
-- with the distance of its state before its weight. Arcs with equal labels and next state are one, with the best weight, in
-- the place of the first.
use Rattle.std.specs.Prelude.{◌≡◌, ℕ, ◌<◌, ◌&&◌, Bool, cond, nat_eq, List, [], ◌∷◌, Some, slice_get}
use Rattle.std.specs.List.{flat_map}
use Rattle.fst_semiring.specs.Cost.{Cost, infinite, plus}
use Rattle.fst_semiring.specs.declared.arc_type.ArcType.{ArcType}
use Rattle.fst_semiring.specs.Semiring.{times, IsCost}
use Rattle.fst_machine.specs.BreadthFirst.{Has}
use Rattle.fst_machine.specs.Cycles.{IsAccessible}
use Rattle.fst_machine.specs.Distance.{EpsilonArc, IsDistance, Reaches}
use Rattle.fst_machine.specs.Graph.{Graph}
use Rattle.fst_machine.specs.Machine.{Arc}

-- whether both labels are 0
abbrev pub is_silent : Arc Cost ℕ → Bool
is_silent a = nat_eq a.ilabel 0 && nat_eq a.olabel 0

-- the arc with this before its weight
abbrev pub behind_arc : ArcType → Cost → Arc Cost ℕ → Arc Cost ℕ
behind_arc kind c a = record { ilabel = a.ilabel; olabel = a.olabel; weight = times kind c a.weight; next = a.next }

-- those of these arcs that are not epsilon, with this before their weights
abbrev pub spoken : ArcType → Cost → List (Arc Cost ℕ) → List (Arc Cost ℕ)
spoken kind c [] = []
spoken kind c (a ∷ arcs) = cond (is_silent a) (spoken kind c arcs) (behind_arc kind c a ∷ spoken kind c arcs)

-- the arcs that a state gets, before equal ones are one
abbrev pub collected : ArcType → Graph ℕ → List (ℕ × Cost) → List (Arc Cost ℕ)
collected kind g closure = flat_map (λ e. spoken kind e.1 (g.arcs e.0)) closure

-- whether two arcs have equal labels and next states
abbrev pub is_alike : Arc Cost ℕ → Arc Cost ℕ → Bool
is_alike a b = nat_eq a.ilabel b.ilabel && (nat_eq a.olabel b.olabel && nat_eq a.next b.next)

-- an arc is put after the others, or its weight into the first that is like it, where it is better
abbrev pub put_arc : List (Arc Cost ℕ) → Arc Cost ℕ → List (Arc Cost ℕ)
put_arc [] b = b ∷ []
put_arc (a ∷ arcs) b = cond (is_alike a b) (record a { weight = plus a.weight b.weight } ∷ arcs) (a ∷ put_arc arcs b)

abbrev pub merged : List (Arc Cost ℕ) → List (Arc Cost ℕ) → List (Arc Cost ℕ)
merged done [] = done
merged done (b ∷ arcs) = merged (put_arc done b) arcs

-- the best of the final weights, each with the distance of its state before it
abbrev pub best_final : ArcType → Graph ℕ → List (ℕ × Cost) → Cost
best_final kind g [] = infinite
best_final kind g (e ∷ closure) = plus (times kind e.1 (g.final e.0)) (best_final kind g closure)

-- The states that epsilon arcs reach from q with their distances: q first, then the others by number.
pub record IsClosureList (kind : ArcType) (g : Graph ℕ) (q : ℕ) (closure : List (ℕ × Cost)) : Type 0 where
  pub own : Cost
  pub others : List (ℕ × Cost)
  pub first : closure ≡ (q, own) ∷ others
  pub apart : (c : Cost) → Has others (q, c) → ⊥
  pub ascending : (i j p r : ℕ) (c d : Cost) → i < j → slice_get others i ≡ Some (p, c) → slice_get others j ≡ Some (r, d) → p < r
  pub distances : (p : ℕ) (c : Cost) → Has closure (p, c) → IsDistance kind g EpsilonArc q p c
  pub finite : (p : ℕ) (c : Cost) → Has closure (p, c) → c ≡ infinite → ⊥
  pub kinds : (p : ℕ) (c : Cost) → Has closure (p, c) → IsCost kind c
  pub all : (p : ℕ) (c : Cost) → Reaches kind g EpsilonArc q p c → (d : Cost) × Has closure (p, d)

-- h is g without epsilon arcs.
pub record IsRemoved (kind : ArcType) (g h : Graph ℕ) : Type 0 where
  pub start : h.start ≡ g.start
  pub closure : (q : ℕ) → IsAccessible g q → List (ℕ × Cost)
  pub closes : (q : ℕ) (near : IsAccessible g q) → IsClosureList kind g q (closure q near)
  pub arcs : (q : ℕ) (near : IsAccessible g q) → h.arcs q ≡ merged [] (collected kind g (closure q near))
  pub final : (q : ℕ) (near : IsAccessible g q) → h.final q ≡ best_final kind g (closure q near)
  pub no_arcs : (q : ℕ) → (IsAccessible g q → ⊥) → h.arcs q ≡ []
  pub not_final : (q : ℕ) → (IsAccessible g q → ⊥) → h.final q ≡ infinite
