-- `difference`: what it makes is a difference, and one.
use Rattle.std.proofs.Common.{◌≡◌, ◌↔◌, ℕ, Bool, true, false, List, sym, ◌∙◌, subst}
use Rattle.fst_semiring.specs.declared.arc_type.ArcType.{ArcType}
use Rattle.fst_semiring.specs.Cost.{Cost}
use Rattle.fst_machine.specs.Connected.{IsConnected}
use Rattle.fst_machine.specs.Graph.{graph_of}
use Rattle.fst_machine.specs.Machine.{Machine}
use Rattle.fst_machine.specs.Relation.{Rel}
use Rattle.fst_machine.proofs.OneMachine.{one_connected}
use Rattle.fst_trim.proofs.KeptPaths.{connected_keeps}
use Rattle.fst_walk.proofs.OneAnswer.{one_named}
use Rattle.fst_setops.specs.Difference.{difference}
use Rattle.fst_setops.specs.Named.{HasNames}
use Rattle.fst_setops.specs.Subtracting.{NumberedParts, Remains, Subtracts}
use Rattle.fst_setops.proofs.Through.{connected_subtracts}
use Rattle.fst_words.specs.declared.options.Options.{Options}
use Rattle.fst_verbs.specs.Composing.{IsLeft, connects}
use Rattle.fst_verbs.specs.OneMeaning.{One}
use Rattle.fst_verbs.specs.Subtracting.{IsDifference, IsGiven}

module _ (o : Options) (kind : ArcType) (a b : Machine Cost) where
  pub is_difference : (whole made : Machine Cost) (n : HasNames (difference (graph_of a) (graph_of b)) whole) → Subtracts kind (graph_of a) (graph_of b) (graph_of whole) (NumberedParts n.names)
      → ((x z : List ℕ) (w : Cost) → Rel kind (graph_of whole) x z w ↔ Remains kind (graph_of a) (graph_of b) x z w)
      → IsLeft (connects o) whole made → ((x z : List ℕ) (w : Cost) → Rel kind (graph_of whole) x z w ↔ Rel kind (graph_of made) x z w) → IsDifference o kind a b made
  is_difference whole made n subtracts says left same = record {
    names = n.names;
    whole = whole;
    named = n.named;
    given = by (connects o) left;
    denotes = λ x z w. (λ r. (says x z w).0 ((same x z w).1 r), λ r. (same x z w).0 ((says x z w).1 r));
  }
    where
      by : (connected : Bool) → IsLeft connected whole made → IsGiven kind a b n.names whole connected made
      by true h = (h, connected_subtracts kind (graph_of a) (graph_of b) n.names whole made h.kept subtracts (connected_keeps whole made h kind))
      by false is = (is, subtracts)

  pub one_subtracted : One (IsDifference o kind a b)
  one_subtracted r q one two = by (connects o) one.given two.given
    where
      whole : one.whole ≡ two.whole
      whole = (one_named (difference (graph_of a) (graph_of b)) one.names two.names one.whole two.whole one.named two.named).1

      by : (connected : Bool) → IsGiven kind a b one.names one.whole connected r → IsGiven kind a b two.names two.whole connected q → r ≡ q
      by true first second = one_connected one.whole r q first.0 (subst (λ (m : Machine Cost). IsConnected m q) (sym whole) second.0)
      by false first second = first.0 ∙ (whole ∙ sym second.0)
