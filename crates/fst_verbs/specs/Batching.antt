-- `batch`: the answers of lines that go through a cascade of two machines. (This project's own command: OpenFst
-- composes a machine for each line with the first and the second, and asks for its best paths.)
use Rattle.std.specs.Prelude.{◌≡◌, ℕ, suc, ◌++◌, List, [], ◌∷◌, codes, length, map, if◌then◌else◌}
use Rattle.std.specs.Fmt.{decimal}
use Rattle.std.specs.List.{AllZip}
use Rattle.fst_fields.specs.Lines.{lines_of}
use Rattle.fst_semiring.specs.Cost.{Cost}
use Rattle.fst_semiring.specs.declared.arc_type.ArcType.{ArcType}
use Rattle.fst_machine.specs.Graph.{graph_of}
use Rattle.fst_machine.specs.Machine.{Machine}
use Rattle.fst_compose.specs.Answers.{IsSorted}
use Rattle.fst_compose.specs.Composition.{composed}
use Rattle.fst_compose.specs.Faults.{compose_text}
use Rattle.fst_compose.specs.declared.fault.ComposeFault.TheVariants.{NotSorted}
use Rattle.fst_lattice.specs.Expansions.{IsExpansions}
use Rattle.fst_batch.specs.Answers.{IsAnswer}
use Rattle.fst_batch.specs.AnswerText.{answer_text}
use Rattle.fst_batch.specs.BestPaths.{valued_told}
use Rattle.fst_batch.specs.declared.answer.LineAnswer.{LineAnswer}
use Rattle.fst_batch.specs.declared.answer.LineAnswer.TheVariants.{Listed, Refused}
use Rattle.fst_words.specs.declared.options.Options.{Options}
use Rattle.fst_verbs.specs.Causes.{unmade}
use Rattle.fst_verbs.specs.Composing.{state_limit}
use Rattle.fst_verbs.specs.Listing.{path_count}
use Rattle.fst_verbs.specs.Meaning.{Made, Meaning, answered, for_two}

-- an answer with its weights as values
abbrev pub valued_answer : {V : Type 0} → (V → Cost) → LineAnswer V → LineAnswer Cost
valued_answer value (Listed told) = Listed (map (valued_told value) told)
valued_answer value (Refused fault) = Refused fault

-- the lines, each by the composition of the two machines, have these answers, and need so many of its states; how many
-- workers answer them is not said, for it changes nothing
pub record AreAnswered (kind : ArcType) (a b : Machine Cost) (options : Options) (lines : List (List ℕ)) (answers : List (LineAnswer Cost)) (expansions : ℕ) : Type 0 where
  pub each : AllZip (λ line answer. IsAnswer kind (composed kind (graph_of a) (graph_of b)) (path_count options) (state_limit options) line (λ w. w) answer) lines answers
  pub needed : IsExpansions lines (composed kind (graph_of a) (graph_of b)) (state_limit options) expansions

-- the lines of answers, which are numbered from this number on
abbrev pub lines_from : ArcType → ℕ → List (LineAnswer Cost) → List ℕ
lines_from kind number [] = []
lines_from kind number (answer ∷ answers) = answer_text kind (λ w. w) number answer ++ lines_from kind (suc number) answers

-- the last line: how many lines there were, and how many states they needed
abbrev pub summary_line : ℕ → ℕ → List ℕ
summary_line lines expansions = codes "#\t" ++ (decimal lines ++ (codes "\t" ++ (decimal expansions ++ codes "\n")))

abbrev pub batch_text : ArcType → Options → List (List ℕ) → List (LineAnswer Cost) → ℕ → List ℕ
batch_text kind options lines answers expansions =
    lines_from kind 1 answers ++ (if options.summary then summary_line (length lines) expansions else [])

-- the two machines are answered by the text
pub record IsBatch (kind : ArcType) (a b : Machine Cost) (options : Options) (lines : List (List ℕ)) (made : Made) : Type 0 where
  pub answers : List (LineAnswer Cost)
  pub expansions : ℕ
  pub are : AreAnswered kind a b options lines answers expansions
  pub is : made ≡ answered (batch_text kind options lines answers expansions) expansions

abbrev pub batch_meaning : Options → Meaning
batch_meaning o = record {
  stops = λ given fault. for_two given.machines (λ a b. (IsSorted a b → ⊥) × (fault ≡ unmade (compose_text NotSorted)));
  makes = λ given made. for_two given.machines (λ a b. IsBatch given.kind a b o (lines_of given.lines) made);
}
