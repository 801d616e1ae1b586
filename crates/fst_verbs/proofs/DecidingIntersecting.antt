-- `intersect`: what it makes is an intersection, and one.
use Rattle.std.proofs.Common.{◌↔◌, ℕ, List}
use Rattle.fst_semiring.specs.declared.arc_type.ArcType.{ArcType}
use Rattle.fst_semiring.specs.Cost.{Cost}
use Rattle.fst_machine.specs.Graph.{graph_of}
use Rattle.fst_machine.specs.Machine.{Machine}
use Rattle.fst_machine.specs.Relation.{Rel}
use Rattle.fst_compose.specs.Composition.{composed}
use Rattle.fst_compose.specs.Theorem.{IsComposition}
use Rattle.fst_setops.specs.Intersecting.{Intersects}
use Rattle.fst_setops.specs.Named.{HasNames}
use Rattle.fst_words.specs.declared.options.Options.{Options}
use Rattle.fst_verbs.specs.Composing.{IsLeft, connects}
use Rattle.fst_verbs.specs.Intersecting.{IsIntersection}
use Rattle.fst_verbs.specs.OneMeaning.{One}
use Rattle.fst_verbs.proofs.Composed.{composed-left}
use Rattle.fst_verbs.proofs.DecidingComposing.{one_composed}

module _ (o : Options) (kind : ArcType) (a b : Machine Cost) where
  pub is_intersection : (whole made : Machine Cost) (n : HasNames (composed kind (graph_of a) (graph_of b)) whole) → IsComposition kind (graph_of a) (graph_of b) n.names whole
      → ((x z : List ℕ) (w : Cost) → Rel kind (graph_of whole) x z w ↔ Intersects kind (graph_of a) (graph_of b) x z w)
      → IsLeft (connects o) whole made → ((x z : List ℕ) (w : Cost) → Rel kind (graph_of whole) x z w ↔ Rel kind (graph_of made) x z w) → IsIntersection o kind a b made
  is_intersection whole made n composes says left same = record {
    composed = composed-left o kind a b whole made n.names n.named composes left;
    denotes = λ x z w. (λ r. (says x z w).0 ((same x z w).1 r), λ r. (same x z w).0 ((says x z w).1 r));
  }

  pub one_intersected : One (IsIntersection o kind a b)
  one_intersected r q one two = one_composed o kind a b r q one.composed two.composed
