-- `minimize` has one outcome.
use Rattle.std.proofs.Common.{◌≡◌, ◌⊎◌, inl, inr, ℕ, Result, Err, refl, ap, subst}
use Rattle.fst_semiring.specs.declared.arc_type.ArcType.{ArcType}
use Rattle.fst_semiring.specs.Cost.{Cost}
use Rattle.fst_machine.specs.Machine.{Machine}
use Rattle.fst_machine.specs.Narrowing.{IsFirstPast}
use Rattle.fst_machine.specs.declared.narrow.NarrowFault.{NarrowFault}
use Rattle.fst_machine.specs.declared.narrow.NarrowFault.TheVariants as narrows
use Rattle.fst_machine.proofs.Narrowing.{cause_exact}
use Rattle.fst_trim.specs.FirstArcs.{HasTwoLabels, Repeats}
use Rattle.fst_minimize.specs.Faults.{minimize_text}
use Rattle.fst_minimize.specs.declared.fault.MinimizeFault.{MinimizeFault}
use Rattle.fst_minimize.specs.declared.fault.MinimizeFault.TheVariants.{NotAcceptor, NotDeterministic, ImprovingCycle, Overflow, Memory}
use Rattle.fst_minimize.proofs.OneAnswer.{one_minimized}
use Rattle.fst_setops.proofs.OneAnswer.{one_first}
use Rattle.fst_verbs.specs.Minimizing.{IsUnminimized, Minimizes}
use Rattle.fst_verbs.specs.OneMeaning.{One}

-- one state is the first with a number past the range
one_first_past : (m : Machine Cost) (i j : ℕ) → IsFirstPast m i → IsFirstPast m j → i ≡ j
one_first_past m i j one two = by ((cause_exact m {X = ℕ} (narrows.Overflow i) one j).1 two)
  where
    by : (◌≡◌ {A = Result ℕ NarrowFault} (Err (narrows.Overflow i)) (Err (narrows.Overflow j))) ⊎ (◌≡◌ {A = Result ℕ NarrowFault} (Err (narrows.Overflow i)) (Err narrows.Memory)) → i ≡ j
    by (inl e) = cc
    by (inr e) = absurd cc

module _ (kind : ArcType) (m : Machine Cost) where
  -- one line is told of what stands against it; the cycle is not told
  pub one_unminimized : (f h : MinimizeFault) → IsUnminimized kind m f → IsUnminimized kind m h → minimize_text f ≡ minimize_text h
  one_unminimized (NotAcceptor s p) (NotAcceptor t q) one two = one_first HasTwoLabels m (λ s p. minimize_text (NotAcceptor s p)) s p t q one.1 two.1
  one_unminimized (NotAcceptor s p) (NotDeterministic t q) one two = absurd (two.1.0 s p one.1.0)
  one_unminimized (NotAcceptor s p) (ImprovingCycle c) one two = absurd (two.1.0 s p one.1.0)
  one_unminimized (NotAcceptor s p) (Overflow t) one two = absurd (two.1.0 s p one.1.0)
  one_unminimized (NotDeterministic s p) (NotAcceptor t q) one two = absurd (one.1.0 t q two.1.0)
  one_unminimized (NotDeterministic s p) (NotDeterministic t q) one two = one_first Repeats m (λ s p. minimize_text (NotDeterministic s p)) s p t q one.1.1 two.1.1
  one_unminimized (NotDeterministic s p) (ImprovingCycle c) one two = absurd (two.1.1 s p one.1.1.0)
  one_unminimized (NotDeterministic s p) (Overflow t) one two = absurd (two.1.1 s p one.1.1.0)
  one_unminimized (ImprovingCycle c) (NotAcceptor t q) one two = absurd (one.1.0 t q two.1.0)
  one_unminimized (ImprovingCycle c) (NotDeterministic t q) one two = absurd (one.1.1 t q two.1.1.0)
  one_unminimized (ImprovingCycle c) (ImprovingCycle d) one two = refl
  one_unminimized (ImprovingCycle c) (Overflow t) one two = absurd (two.1.2 one.1.2.state one.1.2.cycle one.1.2.counts one.1.2.improves)
  one_unminimized (Overflow s) (NotAcceptor t q) one two = absurd (one.1.0 t q two.1.0)
  one_unminimized (Overflow s) (NotDeterministic t q) one two = absurd (one.1.1 t q two.1.1.0)
  one_unminimized (Overflow s) (ImprovingCycle d) one two = absurd (one.1.2 two.1.2.state two.1.2.cycle two.1.2.counts two.1.2.improves)
  one_unminimized (Overflow s) (Overflow t) one two =
      let same = one_minimized kind m two.1.3.machine one.1.3.machine two.1.3.minimized one.1.3.minimized in
      ap (λ (n : ℕ). minimize_text (Overflow n)) (one_first_past one.1.3.machine s t one.1.3.first (subst (λ (c : Machine Cost). IsFirstPast c t) same two.1.3.first))
  one_unminimized Memory h one two = absurd (one.0 refl)
  one_unminimized (NotAcceptor s p) Memory one two = absurd (two.0 refl)
  one_unminimized (NotDeterministic s p) Memory one two = absurd (two.0 refl)
  one_unminimized (ImprovingCycle c) Memory one two = absurd (two.0 refl)
  one_unminimized (Overflow s) Memory one two = absurd (two.0 refl)

  pub one_minimizing : One (Minimizes kind m)
  one_minimizing r q one two = one_minimized kind m r q one.minimized two.minimized
