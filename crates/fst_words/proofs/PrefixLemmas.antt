-- `fst` in front of a command's name.
use Rattle.std.proofs.Common.{◌≡◌, ◌∙◌, ◌++◌, ℕ, List, ◌∷◌, Option, Some, None, refl, sym, ap, codes, if◌then◌else◌}
use Rattle.std.specs.Prelude.{option_and_then}
use Rattle.clap.specs.Faults.{built_fault}
use Rattle.clap.specs.Simple.{argument_words, built, names_of}
use Rattle.clap.specs.Walk.{Row, is_empty, nothing_held, rows_after}
use Rattle.fst_words.specs.Commands.{app_of_verb, found_in}
use Rattle.fst_words.specs.Plans.{plan_by, plan_found, plan_of}
use Rattle.fst_words.specs.Verbs.{name_of}
use Rattle.fst_words.specs.declared.verb.Verb.{Verb}
use Rattle.fst_words.proofs.KnownVerbs.{is_known}

after_name : (verb : Verb) (word : List ℕ) (rest : List (List ℕ)) → argument_words (app_of_verb verb) (word ∷ rest) ≡ rest
after_name verb word rest = rw (is_known verb).has_name refl

abbrev found_after : Verb → List (List ℕ) → Option (List Row)
found_after verb words =
    if is_empty (built_fault (built (app_of_verb verb)) nothing_held words)
    then Some (rows_after (built (app_of_verb verb)).top.rules (names_of (built (app_of_verb verb))) words) else None

same_found : (verb : Verb) (word other : List ℕ) (rest : List (List ℕ)) → found_in verb (word ∷ rest) ≡ found_in verb (other ∷ rest)
unfolding found_in
same_found verb word other rest =
    ap (λ (words : List (List ℕ)). found_after verb words) (after_name verb word rest ∙ sym (after_name verb other rest))

same_plan : (verb : Verb) (word other : List ℕ) (rest : List (List ℕ)) → plan_by verb (word ∷ rest) ≡ plan_by verb (other ∷ rest)
unfolding plan_by
same_plan verb word other rest = ap (option_and_then (plan_found verb)) (same_found verb word other rest)

-- `fst` in front of a command's name changes nothing
pub prefix_is_free : (verb : Verb) (rest : List (List ℕ)) → plan_of ((codes "fst" ++ name_of verb) ∷ rest) ≡ plan_of (name_of verb ∷ rest)
unfolding plan_of
prefix_is_free verb rest =
    ap (option_and_then (λ v. plan_by v ((codes "fst" ++ name_of verb) ∷ rest))) (is_known verb).named_with_prefix
    ∙ (same_plan verb _ _ rest ∙ sym (ap (option_and_then (λ v. plan_by v (name_of verb ∷ rest))) (is_known verb).named))
