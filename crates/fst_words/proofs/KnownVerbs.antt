-- What holds of each command, found by computing it for all of them.
use Rattle.std.proofs.Common.{◌≡◌, ◌++◌, true, false, Some, refl, codes}
use Rattle.clap.specs.Faults.{is_simple_and_free}
use Rattle.clap.proofs.OnLiterals.{clap_on_literals}
use Rattle.fst_words.specs.Commands.{app_of_verb}
use Rattle.fst_words.specs.Verbs.{name_of, verb_named, verb_of}
use Rattle.fst_words.specs.declared.verb.Verb.{Verb}
use Rattle.fst_words.specs.declared.verb.Verb.TheVariants.{Compile}

-- Its name names it, with and without `fst` in front; to `clap`, too, the first word is its name; and its arguments are
-- of the kinds of which `clap` states what it takes.
pub record IsKnown (verb : Verb) : Type 0 where
  pub named : verb_of (name_of verb) ≡ Some verb
  pub named_with_prefix : verb_of (codes "fst" ++ name_of verb) ≡ Some verb
  pub has_name : (app_of_verb verb).top.no_binary_name ≡ false
  pub is_simple : is_simple_and_free (app_of_verb verb) ≡ true

pub is_known : (verb : Verb) → IsKnown verb
unfolding app_of_verb verb_named clap_on_literals
is_known Compile = record { named = refl; named_with_prefix = refl; has_name = refl; is_simple = refl }
is_known _ = record { named = refl; named_with_prefix = refl; has_name = refl; is_simple = refl }
