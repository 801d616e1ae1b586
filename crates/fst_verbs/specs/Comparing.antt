-- `equivalent`: whether each word has the same weight in two deterministic acceptors, and else the least word that has not.
-- (OpenFst manual, "Equivalent", whose program ends with the same statuses; Mohri 2009, section 3.5. That the word is told is
-- this project's own.)
use Rattle.std.specs.Prelude.{◌≡◌, ◌⊎◌, ℕ, List, [], ◌∷◌, ◌++◌, codes}
use Rattle.std.specs.Fmt.{decimal}
use Rattle.std.specs.List.{concat, flat_map}
use Rattle.fst_semiring.specs.declared.arc_type.ArcType.{ArcType}
use Rattle.fst_semiring.specs.Cost.{Cost}
use Rattle.fst_semiring.specs.WeightText.{text_of_cost}
use Rattle.fst_machine.specs.Graph.{graph_of}
use Rattle.fst_machine.specs.Machine.{Machine}
use Rattle.fst_trim.specs.WordWeights.{IsSingle, SameWords}
use Rattle.fst_setops.specs.EquivalentFaults.{equivalent_text}
use Rattle.fst_setops.specs.Separating.{IsSeparating}
use Rattle.fst_setops.specs.Verdicts.{RefusesComparison}
use Rattle.fst_setops.specs.declared.equivalent_fault.EquivalentFault.{EquivalentFault}
use Rattle.fst_words.specs.declared.options.Options.{Options}
use Rattle.fst_verbs.specs.Causes.{unmade}
use Rattle.fst_verbs.specs.Composing.{state_limit}
use Rattle.fst_verbs.specs.Meaning.{Made, Meaning, for_two, separation, text}

-- ---- the text

-- a label behind another
abbrev pub next_label_text : ℕ → List ℕ
next_label_text label = codes " " ++ decimal label

-- the labels of a word, with a space between each two
abbrev pub labels_text : List ℕ → List ℕ
labels_text [] = []
labels_text (label ∷ labels) = decimal label ++ flat_map next_label_text labels

-- the text that tells two machines apart: the weight of a word in each, and the word
abbrev pub separation_text : ArcType → Cost → Cost → List ℕ → List ℕ
separation_text kind first second word =
    concat (codes "separated\t" ∷ text_of_cost kind first ∷ codes "\t" ∷ text_of_cost kind second ∷ codes "\t" ∷ labels_text word ∷ codes "\n" ∷ [])

abbrev pub same_text : List ℕ
same_text = codes "equivalent\n"

-- ---- the command

module _ (kind : ArcType) (a b : Machine Cost) (made : Made) where
  -- some word has not the same weight in both, and the least such word is told with its two weights
  pub record IsSeparation : Type 0 where
    pub word : List ℕ
    pub first_weight : Cost
    pub second_weight : Cost
    pub separating : IsSeparating kind (graph_of a) (graph_of b) word first_weight second_weight
    pub is : made ≡ separation (separation_text kind first_weight second_weight word)

  -- The arcs of each state have different labels, so that a word has one weight. Each word has the same weight in both, and that
  -- is told; or some word has not.
  pub record IsCompared : Type 0 where
    pub first : IsSingle (graph_of a)
    pub second : IsSingle (graph_of b)
    pub says : (SameWords kind (graph_of a) (graph_of b) × (made ≡ text same_text)) ⊎ IsSeparation

abbrev pub equivalent_meaning : Options → Meaning
equivalent_meaning o = record {
  stops = λ given fault. for_two given.machines (λ a b.
      (why : EquivalentFault) × RefusesComparison given.kind a b (state_limit o) why × (fault ≡ unmade (equivalent_text why)));
  makes = λ given made. for_two given.machines (λ a b. IsCompared given.kind a b made);
}
