-- `rmepsilon` has one outcome.
use Rattle.std.proofs.Common.{◌≡◌, ℕ, List, Bool, true, false, sym, ap, ◌∙◌, subst}
use Rattle.fst_semiring.specs.declared.arc_type.ArcType.{ArcType}
use Rattle.fst_semiring.specs.Cost.{Cost}
use Rattle.fst_machine.specs.Connected.{IsConnected}
use Rattle.fst_machine.specs.Machine.{Machine}
use Rattle.fst_machine.proofs.OneMachine.{one_connected}
use Rattle.fst_epsilon.specs.Answers.{Stops}
use Rattle.fst_epsilon.specs.Faults.{epsilon_text}
use Rattle.fst_epsilon.specs.declared.fault.EpsilonFault.{EpsilonFault}
use Rattle.fst_epsilon.proofs.OneAnswer.{one_removed, one_text}
use Rattle.fst_words.specs.declared.options.Options.{Options}
use Rattle.fst_verbs.specs.Causes.{Fault, unmade}
use Rattle.fst_verbs.specs.Composing.{IsLeft, connects}
use Rattle.fst_verbs.specs.OneMeaning.{One}
use Rattle.fst_verbs.specs.Removing.{RemovesEpsilons}

pub one_unremoved : (kind : ArcType) (m : Machine Cost) → One (λ (fault : Fault). (why : EpsilonFault) × Stops kind m why × (fault ≡ unmade (epsilon_text why)))
one_unremoved kind m f h one two = one.2 ∙ (ap (λ (text : List ℕ). unmade text) (one_text kind m one.0 two.0 one.1 two.1) ∙ sym two.2)

pub one_removed_machine : (o : Options) (kind : ArcType) (m : Machine Cost) → One (RemovesEpsilons o kind m)
one_removed_machine o kind m r q one two = by (connects o) one.left two.left
  where
    whole : one.whole ≡ two.whole
    whole = one_removed kind m one.whole two.whole one.removed two.removed

    by : (connected : Bool) → IsLeft connected one.whole r → IsLeft connected two.whole q → r ≡ q
    by true first second = one_connected one.whole r q first (subst (λ (n : Machine Cost). IsConnected n q) (sym whole) second)
    by false first second = first ∙ (whole ∙ sym second)
