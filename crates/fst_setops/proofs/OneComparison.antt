-- One cause refuses a comparison.
use Rattle.std.proofs.Common.{◌≡◌, ℕ, Bool, true, false, true≢false, Ok, Err, refl, sym, ap, ◌∙◌}
use Rattle.fst_semiring.specs.Cost.{Cost}
use Rattle.fst_semiring.specs.declared.arc_type.ArcType.{ArcType}
use Rattle.fst_machine.specs.Machine.{Machine}
use Rattle.fst_trim.specs.FirstArcs.{Repeats}
use Rattle.fst_setops.specs.Answers.{IsExactly}
use Rattle.fst_setops.specs.Verdicts.{AreComparable, AreDeterministic, HasMoreConnectedPairs, IsRepeated, RefusesComparison}
use Rattle.fst_setops.specs.declared.equivalent_fault.EquivalentFault.{EquivalentFault}
use Rattle.fst_setops.specs.declared.equivalent_fault.EquivalentFault.TheVariants.{NotAcceptor, NotDeterministic, NotCancelling, StateLimit, Memory}
use Rattle.fst_setops.proofs.Answering.{made_exactly, refused_exactly}
use Rattle.fst_setops.proofs.OneAnswer.{one_first, one_split, unsplit}

module _ (a b : Machine Cost) where
  -- an arc with the label of an earlier one stands against deterministic machines
  unrepeated : (second : Bool) (s p : ℕ) → IsRepeated a b second s p → AreDeterministic a b → ⊥
  unrepeated false s p r both = both.1 s p r.0
  unrepeated true s p r both = both.2 s p r.1.0

  -- and there is one first
  one_repeated : {F : Type 0} (f : Bool → ℕ → ℕ → F) (c d : Bool) (s p t q : ℕ) → IsRepeated a b c s p → IsRepeated a b d t q → f c s p ≡ f d t q
  one_repeated f false false s p t q one two = one_first Repeats a (f false) s p t q one two
  one_repeated f false true s p t q one two = absurd (two.0 s p one.0)
  one_repeated f true false s p t q one two = absurd (one.0 t q two.0)
  one_repeated f true true s p t q one two = one_first Repeats b (f true) s p t q one.1 two.1

  module _ (kind : ArcType) (most : ℕ) where
    pub one_comparison : (f h : EquivalentFault) → RefusesComparison kind a b most f → RefusesComparison kind a b most h → f ≡ h
    one_comparison (NotAcceptor c s p) (NotAcceptor d t q) one two = one_split a b NotAcceptor c d s p t q one two
    one_comparison (NotAcceptor c s p) (NotDeterministic d t q) one two = absurd (unsplit a b c s p one two.0)
    one_comparison (NotAcceptor c s p) NotCancelling one two = absurd (unsplit a b c s p one two.0.0)
    one_comparison (NotAcceptor c s p) (StateLimit m) one two = absurd (unsplit a b c s p one two.0.0.0)
    one_comparison (NotAcceptor c s p) Memory one two = absurd two
    one_comparison (NotDeterministic c s p) (NotAcceptor d t q) one two = absurd (unsplit a b d t q two one.0)
    one_comparison (NotDeterministic c s p) (NotDeterministic d t q) one two = one_repeated NotDeterministic c d s p t q one.1 two.1
    one_comparison (NotDeterministic c s p) NotCancelling one two = absurd (unrepeated c s p one.1 two.0)
    one_comparison (NotDeterministic c s p) (StateLimit m) one two = absurd (unrepeated c s p one.1 two.0.0)
    one_comparison (NotDeterministic c s p) Memory one two = absurd two
    one_comparison NotCancelling (NotAcceptor d t q) one two = absurd (unsplit a b d t q two one.0.0)
    one_comparison NotCancelling (NotDeterministic d t q) one two = absurd (unrepeated d t q two.1 one.0)
    one_comparison NotCancelling NotCancelling one two = refl
    one_comparison NotCancelling (StateLimit m) one two = absurd (true≢false (sym two.0.1 ∙ one.1))
    one_comparison NotCancelling Memory one two = absurd two
    one_comparison (StateLimit n) (NotAcceptor d t q) one two = absurd (unsplit a b d t q two one.0.0.0)
    one_comparison (StateLimit n) (NotDeterministic d t q) one two = absurd (unrepeated d t q two.1 one.0.0)
    one_comparison (StateLimit n) NotCancelling one two = absurd (true≢false (sym one.0.1 ∙ two.1))
    one_comparison (StateLimit n) (StateLimit m) one two = ap StateLimit (one.1 ∙ sym two.1)
    one_comparison (StateLimit n) Memory one two = absurd two
    one_comparison Memory h one two = absurd one

    -- a fault that stands against the comparison is the answer
    pub refuses_comparison : {X : Type 0} (f : EquivalentFault) → RefusesComparison kind a b most f → IsExactly {X = X} (RefusesComparison kind a b most) Memory (Err f)
    refuses_comparison f r = refused_exactly (RefusesComparison kind a b most) Memory f r (λ h s. one_comparison f h r s)

    -- where none does, there is a verdict
    pub compared_exactly : {X : Type 0} (x : X) → AreComparable kind a b → (HasMoreConnectedPairs a b most → ⊥) → IsExactly {X = X} (RefusesComparison kind a b most) Memory (Ok x)
    compared_exactly x fit fits = made_exactly (RefusesComparison kind a b most) Memory x none
      where
        none : (h : EquivalentFault) → RefusesComparison kind a b most h → ⊥
        none (NotAcceptor d t q) r = unsplit a b d t q r fit.0.0
        none (NotDeterministic d t q) r = unrepeated d t q r.1 fit.0
        none NotCancelling r = true≢false (sym fit.1 ∙ r.1)
        none (StateLimit m) r = fits r.2
        none Memory r = r
