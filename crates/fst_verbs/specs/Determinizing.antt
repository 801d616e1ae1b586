-- `determinize`: the deterministic machine of an acceptor, by weighted subsets. (OpenFst manual, "Determinize"; Mohri 2009,
-- weighted determinization.)
use Rattle.std.specs.Prelude.{◌≡◌, ℕ, List}
use Rattle.fst_semiring.specs.declared.arc_type.ArcType.{ArcType}
use Rattle.fst_semiring.specs.Cost.{Cost}
use Rattle.fst_machine.specs.Graph.{graph_of}
use Rattle.fst_machine.specs.Machine.{Machine}
use Rattle.fst_determinize.specs.Answers.{Refuses}
use Rattle.fst_determinize.specs.Faults.{determinize_text}
use Rattle.fst_determinize.specs.Subsets.{Member}
use Rattle.fst_determinize.specs.Theorem.{AreSubsets, IsDeterminized}
use Rattle.fst_trim.specs.Weighed.{IsWeighted}
use Rattle.fst_determinize.specs.Ways.{subsets}
use Rattle.fst_determinize.specs.declared.fault.DeterminizeFault.{DeterminizeFault}
use Rattle.fst_walk.specs.Answers.{IsNamed}
use Rattle.fst_words.specs.declared.options.Options.{Options}
use Rattle.fst_verbs.specs.Causes.{unmade}
use Rattle.fst_verbs.specs.Composing.{state_limit}
use Rattle.fst_verbs.specs.Meaning.{IsMachine, Meaning, for_one}

-- The states of the machine stand for the subsets of label words, in the order of the least words that have them. It has
-- at most one successful path for each label word, and each pair of strings has the weight that it had.
pub record Determinizes (kind : ArcType) (m r : Machine Cost) : Type 0 where
  pub names : List (List Member)
  pub named : IsNamed (subsets kind (graph_of m)) names r
  pub listed : AreSubsets kind (graph_of m) names
  pub determinizes : IsDeterminized kind (graph_of m) (graph_of r)

-- The weights of the machine are those of its arc type, and not Zero on an arc, as in every machine that is read; and the
-- fault stands against it.
abbrev pub IsUndetermined : ArcType → ℕ → Machine Cost → DeterminizeFault → Type 0
IsUndetermined kind limit m why = IsWeighted kind (graph_of m) × Refuses kind (λ w. w) m limit why

abbrev pub determinize_meaning : Options → Meaning
determinize_meaning o = record {
  stops = λ given fault. for_one given.machines (λ m.
      (why : DeterminizeFault) × IsUndetermined given.kind (state_limit o) m why × (fault ≡ unmade (determinize_text why)));
  makes = λ given made. for_one given.machines (λ m. IsMachine given.kind (λ r. Determinizes given.kind m r) made);
}
