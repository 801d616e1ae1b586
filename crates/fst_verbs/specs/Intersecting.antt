-- `intersect`: the intersection of two acceptors, connected or as it is. (OpenFst manual, "Intersect"; Mohri 2009, section 4.1.)
use Rattle.std.specs.Prelude.{◌≡◌, ◌↔◌, ℕ, List}
use Rattle.fst_semiring.specs.declared.arc_type.ArcType.{ArcType}
use Rattle.fst_semiring.specs.Cost.{Cost}
use Rattle.fst_machine.specs.Graph.{graph_of}
use Rattle.fst_machine.specs.Machine.{Machine}
use Rattle.fst_rational.specs.Relations.{Triple}
use Rattle.fst_setops.specs.Answers.{RefusesIntersection}
use Rattle.fst_setops.specs.Faults.{intersect_text}
use Rattle.fst_setops.specs.Intersecting.{Intersects}
use Rattle.fst_setops.specs.declared.fault.IntersectFault.{IntersectFault}
use Rattle.fst_words.specs.declared.options.Options.{Options}
use Rattle.fst_verbs.specs.Causes.{unmade}
use Rattle.fst_verbs.specs.Composing.{IsComposed, state_limit}
use Rattle.fst_verbs.specs.Meaning.{IsMachine, Meaning, for_two}

-- The machine is the composition of the two acceptors, as `compose` makes it: its successful paths are the matching pairs of
-- paths, one to one. It has the strings that both have, each with the products of their weights.
pub record IsIntersection (options : Options) (kind : ArcType) (first second made : Machine Cost) : Type 0 where
  pub composed : IsComposed options kind first second made
  pub denotes : (x z : List ℕ) (w : Cost) → Triple kind made x z w ↔ Intersects kind (graph_of first) (graph_of second) x z w

abbrev pub intersect_meaning : Options → Meaning
intersect_meaning o = record {
  stops = λ given fault. for_two given.machines (λ a b.
      (why : IntersectFault) × RefusesIntersection given.kind a b (state_limit o) why × (fault ≡ unmade (intersect_text why)));
  makes = λ given made. for_two given.machines (λ a b. IsMachine given.kind (λ r. IsIntersection o given.kind a b r) made);
}
