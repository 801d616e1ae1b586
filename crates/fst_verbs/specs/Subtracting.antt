-- `difference`: the paths of an acceptor whose string another acceptor does not have, connected or as they are. (OpenFst manual,
-- "Difference"; Mohri 2009, section 3.5.)
use Rattle.std.specs.Prelude.{◌≡◌, ◌↔◌, ℕ, Bool, true, false, List}
use Rattle.fst_semiring.specs.declared.arc_type.ArcType.{ArcType}
use Rattle.fst_semiring.specs.Cost.{Cost}
use Rattle.fst_machine.specs.Connected.{IsConnected}
use Rattle.fst_machine.specs.Graph.{graph_of}
use Rattle.fst_machine.specs.Machine.{Machine}
use Rattle.fst_rational.specs.Relations.{Triple}
use Rattle.fst_trim.specs.KeptPaths.{IsRenumbered}
use Rattle.fst_walk.specs.Answers.{IsNamed}
use Rattle.fst_setops.specs.Answers.{RefusesDifference}
use Rattle.fst_setops.specs.Difference.{Rest, difference}
use Rattle.fst_setops.specs.Faults.{difference_text}
use Rattle.fst_setops.specs.Subtracting.{NumberedParts, ReadsBy, Remains, Subtracts}
use Rattle.fst_setops.specs.declared.fault.DifferenceFault.{DifferenceFault}
use Rattle.fst_words.specs.declared.options.Options.{Options}
use Rattle.fst_verbs.specs.Causes.{unmade}
use Rattle.fst_verbs.specs.Composing.{connects, state_limit}
use Rattle.fst_verbs.specs.Meaning.{IsMachine, Meaning, for_two}

module _ (kind : ArcType) (first second : Machine Cost) (names : List (Rest ℕ ℕ)) (whole : Machine Cost) where
  -- The machine is the difference, connected or as it is. Reading off the first parts of the names is a one-to-one map from its
  -- successful paths onto those of the first machine whose string the second does not have.
  abbrev pub IsGiven : Bool → Machine Cost → Type 0
  IsGiven true made = (h : IsConnected whole made)
      × Subtracts kind (graph_of first) (graph_of second) (graph_of made) (ReadsBy kind (graph_of whole) (IsRenumbered whole h.kept) (NumberedParts names))
  IsGiven false made = (made ≡ whole) × Subtracts kind (graph_of first) (graph_of second) (graph_of whole) (NumberedParts names)

-- The machine is the difference of the two, whose states stand for these names. It relates what the first does, where the
-- string that is read is none of the second.
pub record IsDifference (options : Options) (kind : ArcType) (first second made : Machine Cost) : Type 0 where
  pub names : List (Rest ℕ ℕ)
  pub whole : Machine Cost
  pub named : IsNamed (difference (graph_of first) (graph_of second)) names whole
  pub given : IsGiven kind first second names whole (connects options) made
  pub denotes : (x z : List ℕ) (w : Cost) → Triple kind made x z w ↔ Remains kind (graph_of first) (graph_of second) x z w

abbrev pub difference_meaning : Options → Meaning
difference_meaning o = record {
  stops = λ given fault. for_two given.machines (λ a b.
      (why : DifferenceFault) × RefusesDifference given.kind a b (state_limit o) why × (fault ≡ unmade (difference_text why)));
  makes = λ given made. for_two given.machines (λ a b. IsMachine given.kind (λ r. IsDifference o given.kind a b r) made);
}
