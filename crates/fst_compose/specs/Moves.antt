-- Moves: how two paths go side by side. (Mohri 2009, section 4.1: the epsilon filter orders the moves of the
-- two machines between two matches, first those of the first machine alone, then those of the second alone.)
use Rattle.std.specs.Prelude.{◌≡◌, ◌≢◌, ℕ, List, [], ◌∷◌, ◌++◌, cond, nat_eq, suc}
use Rattle.std.specs.List.{flat_map}
use Rattle.fst_semiring.specs.Cost.{Cost}
use Rattle.fst_semiring.specs.declared.arc_type.ArcType.{ArcType}
use Rattle.fst_machine.specs.Machine.{Arc}
use Rattle.fst_machine.specs.Graph.{Graph}
use Rattle.fst_machine.specs.Paths.{Transition}
use Rattle.fst_compose.specs.Names.{Name}
use Rattle.fst_compose.specs.Composition.{by_label, both_arc, first_alone, second_alone}

-- A move of two machines: both go, or one goes alone.
pub data Move (X Y : Type 0) : Type 0 where
  both : X → Y → Move X Y
  first_only : X → Move X Y
  second_only : Y → Move X Y

-- what the first machine goes by
abbrev pub firsts : {X Y : Type 0} → List (Move X Y) → List X
firsts [] = []
firsts (both x y ∷ ms) = x ∷ firsts ms
firsts (first_only x ∷ ms) = x ∷ firsts ms
firsts (second_only y ∷ ms) = firsts ms

-- what the second machine goes by
abbrev pub seconds : {X Y : Type 0} → List (Move X Y) → List Y
seconds [] = []
seconds (both x y ∷ ms) = y ∷ seconds ms
seconds (first_only x ∷ ms) = seconds ms
seconds (second_only y ∷ ms) = y ∷ seconds ms

-- the filter's state after a move
abbrev pub filter_after : {X Y : Type 0} → Move X Y → ℕ
filter_after (both x y) = 0
filter_after (first_only x) = 0
filter_after (second_only y) = 1

module _ {X Y : Type 0} (writes : X → ℕ) (reads : Y → ℕ) where
  -- A move that the filter lets through: both by one label that is not epsilon, the first alone by epsilon and
  -- with the filter at 0, the second alone by epsilon.
  abbrev pub Fits : ℕ → Move X Y → Type 0
  Fits f (both x y) = (writes x ≡ reads y) × (writes x ≢ 0)
  Fits f (first_only x) = (writes x ≡ 0) × (f ≡ 0)
  Fits f (second_only y) = reads y ≡ 0

  -- moves that the filter lets through one after the other
  abbrev pub IsMerge : ℕ → List (Move X Y) → Type 0
  IsMerge f [] = Unit {0}
  IsMerge f (m ∷ ms) = Fits f m × IsMerge (filter_after m) ms

-- the arcs of a name with their places, from a place on
abbrev pub transitions_from : {N : Type 0} → N → ℕ → List (Arc Cost N) → List (Transition N)
transitions_from p k [] = []
transitions_from p k (a ∷ arcs) = record { state = p; place = k; arc = a } ∷ transitions_from p (suc k) arcs

-- the transitions that leave a name, in order
abbrev pub transitions : {N : Type 0} → Graph N → N → List (Transition N)
transitions g p = transitions_from p 0 (g.arcs p)

module _ {N M : Type 0} where
  -- both go, where the first writes what the second reads
  abbrev pub both_moves : Transition N → Transition M → List (Move (Transition N) (Transition M))
  both_moves s t = cond (nat_eq s.arc.olabel t.arc.ilabel) (both s t ∷ []) []

  -- the moves in which the first machine goes by this transition
  abbrev pub first_moves : ℕ → List (Transition M) → Transition N → List (Move (Transition N) (Transition M))
  first_moves f ts s = by_label s.arc.olabel (by_label f (first_only s ∷ []) []) (flat_map (both_moves s) ts)

  -- the moves in which the second machine goes alone by this transition
  abbrev pub second_moves : Transition M → List (Move (Transition N) (Transition M))
  second_moves t = by_label t.arc.ilabel (second_only t ∷ []) []

  -- the moves at a name of the composition, in the order of its arcs
  abbrev pub moves_at : Graph N → Graph M → Name N M → List (Move (Transition N) (Transition M))
  moves_at a b n = flat_map (first_moves n.filter (transitions b n.second)) (transitions a n.first) ++ flat_map second_moves (transitions b n.second)

  -- the arc of the composition that a move makes
  abbrev pub arc_by : ArcType → Name N M → Move (Transition N) (Transition M) → Arc Cost (Name N M)
  arc_by kind n (both s t) = both_arc kind s.arc t.arc
  arc_by kind n (first_only s) = first_alone n s.arc
  arc_by kind n (second_only t) = second_alone n t.arc
