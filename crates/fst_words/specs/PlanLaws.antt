-- What holds of every plan that words ask for.
use Rattle.std.specs.Prelude.{◌≡◌, ◌≤◌, ℕ, true, List, ◌∷◌, ◌++◌, length, Option, Some, IfSome, codes}
use Rattle.fst_words.specs.declared.options.Options.{Options}
use Rattle.fst_words.specs.declared.plan.Plan.{Plan}
use Rattle.fst_words.specs.declared.verb.Verb.{Verb}
use Rattle.fst_words.specs.Commands.{all_names, least_names}
use Rattle.fst_words.specs.Plans.{is_allowed, plan_of}
use Rattle.fst_words.specs.Verbs.{name_of, verb_of}

-- a number that stands lies in the range
abbrev pub LiesIn : ℕ → ℕ → Option ℕ → Type 0
LiesIn low high number = IfSome number (λ n. (low ≤ n) × (n ≤ high))

pub record HasNumbersInRange (o : Options) : Type 0 where
  pub max_states : LiesIn 1 4194304 o.max_states
  pub nshortest : LiesIn 1 100000 o.nshortest
  pub workers : LiesIn 1 64 o.workers
  pub seed : LiesIn 0 18446744073709551615 o.seed
  pub lines : LiesIn 0 10000 o.lines

-- the plan has the names of its command, and the rules hold
pub record IsWhole (plan : Plan) : Type 0 where
  pub least : least_names plan.command ≤ length plan.names
  pub all : length plan.names ≡ all_names plan.command (length plan.names)
  pub numbers : HasNumbersInRange plan.options
  pub rules : is_allowed plan ≡ true

-- words that ask for a plan ask for a whole one
abbrev pub PlansAreWhole : Type 0
PlansAreWhole = (words : List (List ℕ)) (plan : Plan) → plan_of words ≡ Some plan → IsWhole plan

-- each command is found by its name, so that no row is missing where names are looked for
abbrev pub NamesAreKnown : Type 0
NamesAreKnown = (verb : Verb) → verb_of (name_of verb) ≡ Some verb

-- `fst` in front of a command's name changes nothing
abbrev pub PrefixIsFree : Type 0
PrefixIsFree = (verb : Verb) (rest : List (List ℕ)) → plan_of ((codes "fst" ++ name_of verb) ∷ rest) ≡ plan_of (name_of verb ∷ rest)
