-- Names of a composition keep their parts in range.
use Rattle.std.proofs.Common.{ℕ, ◌<◌, ◌≤◌, List, [], ◌∷◌, slice_get, sym, ap, ◌∙◌, subst, arith}
use Rattle.fst_semiring.specs.Cost.{Cost}
use Rattle.fst_semiring.specs.declared.arc_type.ArcType.{ArcType}
use Rattle.fst_machine.specs.Machine.{Arc}
use Rattle.fst_machine.specs.Graph.{Graph}
use Rattle.fst_machine.specs.Paths.{Transition, IsPath}
use Rattle.fst_machine.specs.BreadthFirst.{Has, IsBreadthFirst}
use Rattle.fst_machine.proofs.Arcs.{mapped_at}
use Rattle.fst_machine.proofs.BreadthFirst.{walked_of_breadth_first}
use Rattle.fst_machine.proofs.Elements.{at_Has}
use Rattle.fst_machine.proofs.Walks.{walked_reached}
use Rattle.fst_compose.specs.Names.{Name}
use Rattle.fst_compose.specs.NameLaws.{IsNameBelow, Keeps}
use Rattle.fst_compose.specs.Composition.{composed}
use Rattle.fst_compose.specs.Moves.{Move, both, first_only, second_only, moves_at, arc_by}
use Rattle.fst_compose.proofs.Moves.{composed_arcs, IsMove, listed_is_move}

module _ {N M : Type 0} (P : N → Type 0) (Q : M → Type 0) where
  -- P and Q hold of the parts, and the filter is 0 or 1
  abbrev pub PartsHold : Name N M → Type 0
  PartsHold n = P n.first × Q n.second × (n.filter ≤ 1)

  move_keeps : (kind : ArcType) (a : Graph N) (b : Graph M) → Keeps P a → Keeps Q b → (n : Name N M) (m : Move (Transition N) (Transition M)) → PartsHold n → IsMove a b n m → PartsHold (arc_by kind n m).next
  move_keeps kind a b first second n (both s t) holds is = (first n.first s.place s.arc holds.0 is.0.0.1, second n.second t.place t.arc holds.1 is.0.1.1, omega arith)
  move_keeps kind a b first second n (first_only s) holds is = (first n.first s.place s.arc holds.0 is.0.1, holds.1, omega arith)
  move_keeps kind a b first second n (second_only t) holds is = (holds.0, second n.second t.place t.arc holds.1 is.0.1, omega arith)

  -- what arcs of both keep, arcs of the composition keep
  pub composed_keeps : (kind : ArcType) (a : Graph N) (b : Graph M) → Keeps P a → Keeps Q b → Keeps PartsHold (composed kind a b)
  composed_keeps kind a b first second n k c holds has =
      let from = mapped_at (arc_by kind n) (moves_at a b n) k c (ap (λ arcs. slice_get arcs k) (sym (composed_arcs kind a b n)) ∙ has) in
      let is : IsMove a b n from.0 = listed_is_move a b n from.0 (at_Has (moves_at a b n) k from.0 from.1) in
      subst (λ (z : Arc Cost (Name N M)). PartsHold z.next) from.2 (move_keeps kind a b first second n from.0 holds is)

-- what arcs keep holds at the end of a path
pub keeps_path : {N : Type 0} (g : Graph N) (P : N → Type 0) → Keeps P g → (path : List (Transition N)) (p q : N) → P p → IsPath g p path q → P q
keeps_path g P keeps [] p q holds here = subst P here holds
keeps_path g P keeps (t ∷ path) p q holds leads = keeps_path g P keeps path t.arc.next q (keeps p t.place t.arc holds leads.0.1) leads.1

-- what arcs keep holds of each name of a finished list
pub keeps_listed : {N : Type 0} (g : Graph N) (P : N → Type 0) → Keeps P g → (start : N) (names : List N) → P start → IsBreadthFirst g start names → (z : N) → Has names z → P z
keeps_listed g P keeps start names holds listed z h =
    let r = walked_reached g start names (walked_of_breadth_first g start names listed) z h in
    keeps_path g P keeps r.0 start z holds r.1

-- names below keep below
pub composed_below : (kind : ArcType) (a b : Graph ℕ) (states others : ℕ) → Keeps (λ p. p < states) a → Keeps (λ p. p < others) b → Keeps (IsNameBelow states others) (composed kind a b)
composed_below kind a b states others = composed_keeps (λ p. p < states) (λ p. p < others) kind a b
