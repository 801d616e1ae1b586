-- `rmepsilon`: the machine without epsilon arcs, connected or as it is. (OpenFst manual, "RmEpsilon"; Mohri 2002, "Generic
-- epsilon-removal".)
use Rattle.std.specs.Prelude.{◌≡◌, ◌↔◌, ℕ, List}
use Rattle.fst_semiring.specs.declared.arc_type.ArcType.{ArcType}
use Rattle.fst_semiring.specs.Cost.{Cost}
use Rattle.fst_machine.specs.Graph.{graph_of}
use Rattle.fst_machine.specs.Machine.{Machine}
use Rattle.fst_machine.specs.Relation.{IsWeight}
use Rattle.fst_epsilon.specs.Answers.{HasNoEpsilons, IsRemovedMachine, Stops}
use Rattle.fst_epsilon.specs.Faults.{epsilon_text}
use Rattle.fst_epsilon.specs.declared.fault.EpsilonFault.{EpsilonFault}
use Rattle.fst_words.specs.declared.options.Options.{Options}
use Rattle.fst_verbs.specs.Causes.{unmade}
use Rattle.fst_verbs.specs.Composing.{IsLeft, connects}
use Rattle.fst_verbs.specs.Meaning.{IsMachine, Meaning, for_one}

-- The machine is what is left without epsilon arcs, connected or as it is. It has none, and each pair of strings has the
-- weight that it had.
pub record RemovesEpsilons (options : Options) (kind : ArcType) (m made : Machine Cost) : Type 0 where
  pub whole : Machine Cost
  pub removed : IsRemovedMachine kind m whole
  pub left : IsLeft (connects options) whole made
  pub none : HasNoEpsilons whole.states
  pub weights : (x y : List ℕ) (w : Cost) → IsWeight kind (graph_of m) x y w ↔ IsWeight kind (graph_of made) x y w

abbrev pub rmepsilon_meaning : Options → Meaning
rmepsilon_meaning o = record {
  stops = λ given fault. for_one given.machines (λ m.
      (why : EpsilonFault) × Stops given.kind m why × (fault ≡ unmade (epsilon_text why)));
  makes = λ given made. for_one given.machines (λ m. IsMachine given.kind (λ r. RemovesEpsilons o given.kind m r) made);
}
