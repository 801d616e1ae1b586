-- `push`: weights toward the start. (OpenFst manual, "Push"; Mohri 2009, weight pushing.)
use Rattle.std.specs.Prelude.{◌≡◌, ◌↔◌, ℕ, ◌<◌, Bool, true, false, List, length}
use Rattle.fst_semiring.specs.declared.arc_type.ArcType.{ArcType}
use Rattle.fst_semiring.specs.Cost.{Cost}
use Rattle.fst_semiring.specs.Semiring.{one_of}
use Rattle.fst_machine.specs.Distance.{IsFinalDistance}
use Rattle.fst_machine.specs.Graph.{graph_of}
use Rattle.fst_machine.specs.Machine.{Machine}
use Rattle.fst_machine.specs.Relation.{Rel}
use Rattle.fst_distance.specs.Pushing.{IsPushed}
use Rattle.fst_distance.specs.Totals.{IsPushFault, IsTotalled, RelatesBy, push_text}
use Rattle.fst_distance.specs.declared.fault.PushFault.{PushFault}
use Rattle.fst_words.specs.declared.options.Options.{Options}
use Rattle.fst_verbs.specs.Causes.{unmade}
use Rattle.fst_verbs.specs.Meaning.{IsMachine, Meaning, for_one}

-- The machine is the pushed one with its total weight put on its start, and relates the same; or with the total removed,
-- and then the total Times what it relates is what the machine relates, and from each of its states the distance to the
-- final states is One.
pub record Pushes (kind : ArcType) (removed : Bool) (m r : Machine Cost) : Type 0 where
  pub totalled : IsTotalled kind removed m r
  pub keeps : removed ≡ false → (x y : List ℕ) (w : Cost) → Rel kind (graph_of m) x y w ↔ Rel kind (graph_of r) x y w
  pub removes : removed ≡ true → (total : Cost) × IsPushed kind m r total × RelatesBy kind total m r
  pub one : removed ≡ true → (p : ℕ) → p < length r.states → IsFinalDistance kind (graph_of r) p (one_of kind)

abbrev pub push_meaning : Options → Meaning
push_meaning o = record {
  stops = λ given fault. for_one given.machines (λ m.
      (why : PushFault) × IsPushFault given.kind o.remove_total_weight m why × (fault ≡ unmade (push_text why)));
  makes = λ given made. for_one given.machines (λ m. IsMachine given.kind (λ r. Pushes given.kind o.remove_total_weight m r) made);
}
