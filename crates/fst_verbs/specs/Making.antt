-- `make`: two machines and lines are drawn from a seed, the lines are answered as `batch` answers them, and six totals of that
-- are told. (This project's own command: a large input from a number, to measure batches by.)
use Rattle.std.specs.Prelude.{◌≡◌, ℕ, ℤ, pos, ◌+ℤ◌, List, [], ◌∷◌, Option, Some, None, codes, fold, length, unwrap_or}
use Rattle.std.specs.Fmt.{decimal, signed_decimal}
use Rattle.std.specs.List.{concat, filter_map}
use Rattle.fst_semiring.specs.Cost.{Cost, first_of}
use Rattle.fst_semiring.specs.declared.arc_type.ArcType.TheVariants.{Tropical}
use Rattle.fst_machine.specs.Machine.{Machine, arc_total}
use Rattle.fst_lattice.specs.Cascade.{behind_second, drawn_lines, first_machine, second_machine}
use Rattle.fst_batch.specs.declared.answer.LineAnswer.{LineAnswer}
use Rattle.fst_batch.specs.declared.answer.LineAnswer.TheVariants.{Listed, Refused}
use Rattle.fst_words.specs.declared.options.Options.{Options}
use Rattle.fst_verbs.specs.Batching.{AreAnswered}
use Rattle.fst_verbs.specs.Descriptions.{named_line}
use Rattle.fst_verbs.specs.Meaning.{Made, Meaning, answered, never}

-- the number that is drawn from, and how many lines are drawn
abbrev pub seed_of : Options → ℕ
seed_of options = unwrap_or options.seed 1

abbrev pub line_count : Options → ℕ
line_count options = unwrap_or options.lines 1000

-- ---- the totals

-- the weight of the first path that an answer lists, if it lists one; a tropical weight has one number
abbrev pub first_weight : LineAnswer Cost → Option ℤ
first_weight (Listed []) = None
first_weight (Listed (t ∷ told)) = Some (first_of t.weight)
first_weight (Refused fault) = None

-- those of the answers that list a path, in order
abbrev pub first_weights : List (LineAnswer Cost) → List ℤ
first_weights answers = filter_map first_weight answers

-- the line of a machine: how many states and how many arcs it has
abbrev pub size_line : List ℕ → Machine Cost → List ℕ
size_line name m = concat (name ∷ codes "\t" ∷ decimal (length m.states) ∷ codes "\t" ∷ decimal (arc_total m.states) ∷ codes "\n" ∷ [])

-- the six lines: the sizes of both machines, how many lines there were, how many of them list a path, the sum of the weights of
-- their first paths, and how many states of the composition they needed
abbrev pub total_lines : Machine Cost → Machine Cost → (lines listed : ℕ) → (weights : ℤ) → (expansions : ℕ) → List (List ℕ)
total_lines first second lines listed weights expansions =
    size_line (codes "first") first ∷
    size_line (codes "second") second ∷
    named_line (codes "lines") (decimal lines) ∷
    named_line (codes "answered") (decimal listed) ∷
    named_line (codes "weights") (signed_decimal weights) ∷
    named_line (codes "expansions") (decimal expansions) ∷
    []

abbrev pub total_text : Machine Cost → Machine Cost → List (List ℕ) → List (LineAnswer Cost) → ℕ → List ℕ
total_text first second lines answers expansions =
    concat (total_lines first second (length lines) (length (first_weights answers)) (fold ◌+ℤ◌ (pos 0) (first_weights answers)) expansions)

-- ---- the command

abbrev pub lines_drawn : Options → List (List ℕ)
lines_drawn options = drawn_lines (behind_second (seed_of options)) (line_count options)

-- these are the totals of what is drawn
pub record IsCascade (options : Options) (made : Made) : Type 0 where
  pub answers : List (LineAnswer Cost)
  pub expansions : ℕ
  pub are : AreAnswered Tropical (first_machine (seed_of options)) (second_machine (seed_of options)) options (lines_drawn options) answers expansions
  pub is : made ≡ answered (total_text (first_machine (seed_of options)) (second_machine (seed_of options)) (lines_drawn options) answers expansions) expansions

-- nothing is read, and nothing stops it
abbrev pub make_meaning : Options → Meaning
make_meaning o = record { stops = λ given. never; makes = λ given made. IsCascade o made }
