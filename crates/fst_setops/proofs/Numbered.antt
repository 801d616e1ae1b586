-- A machine that numbers the names of a difference has its successful paths.
use Rattle.std.proofs.Common.{◌≡◌, ℕ, List, [], ◌∷◌, sym, ap, ◌∙◌, subst}
use Rattle.std.proofs.lemmas.Option.{same_Some}
use Rattle.fst_semiring.specs.Cost.{Cost}
use Rattle.fst_semiring.specs.declared.arc_type.ArcType.{ArcType}
use Rattle.fst_machine.specs.Machine.{Machine}
use Rattle.fst_machine.specs.Graph.{Graph, graph_of}
use Rattle.fst_machine.specs.Numbering.{IsNumbered}
use Rattle.fst_machine.specs.Paths.{Transition}
use Rattle.fst_machine.specs.Relation.{IsSuccessful}
use Rattle.fst_trim.specs.OneToOne.{IsOneToOne}
use Rattle.fst_compose.specs.Reading.{GoesThrough}
use Rattle.fst_compose.proofs.Numbered.{numbered_one_to_one}
use Rattle.fst_trim.specs.WordWeights.{IsSingle}
use Rattle.fst_setops.specs.Difference.{Rest, difference, IsEpsilonFree}
use Rattle.fst_setops.specs.Subtracting.{FirstParts, IsFirstAt, NumberedParts, Subtracts}
use Rattle.fst_setops.proofs.Lifting.{same_successful, subtracts, tied_places}

module _ {N M : Type 0} (a : Graph N) (b : Graph M) (names : List (Rest N M)) where
  -- names between two paths
  between : (path : List (Transition (Rest N M))) (numbers : List (Transition ℕ)) (other : List (Transition N)) → GoesThrough names path numbers → FirstParts path other → NumberedParts names numbers other
  between [] [] [] r q = tt
  between [] [] (u ∷ other) r q = absurd q
  between [] (i ∷ numbers) other r q = absurd r
  between (t ∷ path) [] other r q = absurd r
  between (t ∷ path) (i ∷ numbers) [] r q = absurd q
  between (t ∷ path) (i ∷ numbers) (u ∷ other) r q = (record { name = t.state; there = r.0; first = q.0 }, sym r.1 ∙ q.1, between path numbers other r.2 q.2)

  -- and back: the names of the numbers are those of the path that goes through them
  behind : (path : List (Transition (Rest N M))) (numbers : List (Transition ℕ)) (other : List (Transition N)) → GoesThrough names path numbers → NumberedParts names numbers other → FirstParts path other
  behind [] [] [] r q = tt
  behind [] [] (u ∷ other) r q = absurd q
  behind [] (i ∷ numbers) other r q = absurd r
  behind (t ∷ path) [] other r q = absurd r
  behind (t ∷ path) (i ∷ numbers) [] r q = absurd q
  behind (t ∷ path) (i ∷ numbers) (u ∷ other) r q =
      let n = q.0 in
      let same : t.state ≡ n.name = same_Some t.state n.name (sym r.0 ∙ n.there) in
      (ap (λ (z : Rest N M). z.first) same ∙ n.first, r.1 ∙ q.1, behind path numbers other r.2 q.2)

  module _ (kind : ArcType) (single : IsSingle b) (free : IsEpsilonFree b) (m : Machine Cost) (h : IsNumbered (difference a b) names m) where
    is : Subtracts kind a b (difference a b) FirstParts
    is = subtracts a b kind single free

    keeps : IsOneToOne kind (difference a b) (graph_of m) (GoesThrough names)
    keeps = numbered_one_to_one (difference a b) names m h kind

    pub numbered_subtracts : Subtracts kind a b (graph_of m) (NumberedParts names)
    numbered_subtracts = record {
      there = λ numbers w s.
          let path = keeps.back numbers w s in
          let other = is.there path.0 w path.1 in
          (other.0, other.1, between path.0 numbers other.0 path.2 other.2, other.3 ∙ sym path.3, other.4);
      back = λ other w s none.
          let path = is.back other w s none in
          let numbers = keeps.there path.0 w path.1 in
          (numbers.0, numbers.1, between path.0 numbers.0 other numbers.2 path.2, path.3 ∙ sym numbers.3);
      once = λ numbers one other r q v w s t. once numbers one other r q v w s t;
      only = λ one other path r q v w s t.
          let first = keeps.back one v s in
          let second = keeps.back other w t in
          let same : first.0 ≡ second.0 = is.only first.0 second.0 path (behind first.0 one path first.2 r) (behind second.0 other path second.2 q) v w first.1 second.1 in
          keeps.once first.0 one other v w s t first.2 (subst (λ (ts : List (Transition (Rest N M))). GoesThrough names ts other) (sym same) second.2);
    }
      where
        once : (numbers : List (Transition ℕ)) (one other : List (Transition N)) → NumberedParts names numbers one → NumberedParts names numbers other → (v w : Cost) → IsSuccessful kind a one v → IsSuccessful kind a other w → one ≡ other
        once numbers one other r q v w s t = same_successful kind a one other v w s t (sym (tied_places (IsFirstAt names) numbers one r) ∙ tied_places (IsFirstAt names) numbers other q)
