-- `compose` makes one machine.
use Rattle.std.proofs.Common.{◌≡◌, Bool, true, false, sym, subst, ◌∙◌}
use Rattle.fst_semiring.specs.declared.arc_type.ArcType.{ArcType}
use Rattle.fst_semiring.specs.Cost.{Cost}
use Rattle.fst_machine.specs.Connected.{IsConnected}
use Rattle.fst_machine.specs.Graph.{graph_of}
use Rattle.fst_machine.specs.Machine.{Machine}
use Rattle.fst_machine.proofs.OneMachine.{one_connected}
use Rattle.fst_compose.specs.Composition.{composed}
use Rattle.fst_walk.proofs.OneAnswer.{one_named}
use Rattle.fst_words.specs.declared.options.Options.{Options}
use Rattle.fst_verbs.specs.Composing.{IsComposed, IsGiven, connects}
use Rattle.fst_verbs.specs.OneMeaning.{One}

pub one_composed : (o : Options) (kind : ArcType) (a b : Machine Cost) → One (IsComposed o kind a b)
one_composed o kind a b r q one two = by (connects o) one.given two.given
  where
    whole : one.whole ≡ two.whole
    whole = (one_named (composed kind (graph_of a) (graph_of b)) one.names two.names one.whole two.whole one.named two.named).1

    by : (connected : Bool) → IsGiven kind a b one.names one.whole connected r → IsGiven kind a b two.names two.whole connected q → r ≡ q
    by true first second = one_connected one.whole r q first.0 (subst (λ (m : Machine Cost). IsConnected m q) (sym whole) second.0)
    by false first second = first.0 ∙ (whole ∙ sym second.0)
