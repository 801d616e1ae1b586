-- What holds of every plan that words ask for.
use Rattle.std.proofs.Common.{◌≡◌, ◌∙◌, ◌≤◌, ◌-◌, ◌&&◌, ℕ, Bool, cond, true, false, List, [], ◌∷◌, length, Option, Some, None, IfOk, Result, Ok, Err, refl, sym, ap, subst, arith, codes, replicate, nat_le}
use Rattle.std.specs.Prelude.{option_and_then}
use Rattle.std.proofs.lemmas.List.{length-append, length-replicate}
use Rattle.clap.specs.Walk.{Row, first_of}
use Rattle.fst_fields.specs.Decimal.{natural_of_text}
use Rattle.fst_words.specs.declared.fault.WordsFault.{WordsFault}
use Rattle.fst_words.specs.declared.plan.Plan.{Plan}
use Rattle.fst_words.specs.declared.verb.Verb.{Verb}
use Rattle.fst_words.specs.declared.form.Shape.{Shape}
use Rattle.fst_words.specs.declared.form.Shape.TheVariants.{NoInput, Text, One, Two, Three, Rules, Codex}
use Rattle.fst_words.specs.Forms.{all_of, form_of}
use Rattle.fst_words.specs.Commands.{all_names, found_in, least_names, takes_names}
use Rattle.fst_words.specs.Plans.{Answers, filled, is_allowed, plan_by, plan_found, plan_of, plan_with}
use Rattle.fst_words.specs.PlanLaws.{HasNumbersInRange, IsWhole, LiesIn}
use Rattle.fst_words.specs.Values.{names_in, number_in, options_in, value_in, values_stand, within}
use Rattle.fst_words.specs.Verbs.{verb_of}

-- ---- numbers

lies_in : (low high : ℕ) (number : Option ℕ) → LiesIn low high (option_and_then (within low high) number)
lies_in low high None = tt
lies_in low high (Some n) = go (nat_le low n && nat_le n high) refl
  where
    go : (b : Bool) → (nat_le low n && nat_le n high) ≡ b → LiesIn low high (cond b (Some n) None)
    go false e = tt
    go true e = (grind arith, grind arith)

lies : (low high : ℕ) (id : List ℕ) (rows : List Row) → LiesIn low high (value_in (number_in low high) id rows)
unfolding number_in
lies low high id rows = go (first_of id rows)
  where
    go : (text : Option (List ℕ)) → LiesIn low high (option_and_then (λ t. option_and_then (within low high) (natural_of_text 20 t)) text)
    go None = tt
    go (Some t) = lies_in low high (natural_of_text 20 t)

numbers_lie : (rows : List Row) → HasNumbersInRange (options_in rows)
unfolding options_in
numbers_lie rows = record {
  max_states = lies 1 4194304 (codes "max_states") rows;
  nshortest = lies 1 100000 (codes "nshortest") rows;
  workers = lies 1 64 (codes "workers") rows;
  seed = lies 0 18446744073709551615 (codes "seed") rows;
  lines = lies 0 10000 (codes "lines") rows;
}

-- ---- names

length_filled : (verb : Verb) (names : List (List ℕ)) → length names ≤ all_names verb (length names)
    → length (filled verb names) ≡ all_names verb (length names)
unfolding filled
length_filled verb names few =
    omega (
      arith,
      length-append names (replicate (all_names verb (length names) - length names) (codes "-")),
      length-replicate (all_names verb (length names) - length names) (codes "-"),
    )

-- nothing is missing after all the names
all_of_all : (shape : Shape) (n : ℕ) → all_of shape (all_of shape n) ≡ all_of shape n
all_of_all NoInput n = refl
all_of_all Text n = refl
all_of_all One n = refl
all_of_all Two n = refl
all_of_all Three n = refl
all_of_all Rules n = omega arith
all_of_all Codex n = refl

-- ---- the plan

both : (a b : Bool) → (a && b) ≡ true → (a ≡ true) × (b ≡ true)
both true b e = (refl, e)
both false b e = cc

-- the plan of what was found
whole_found : (verb : Verb) (rows : List Row) (plan : Plan) → plan_found verb rows ≡ Some plan → IsWhole plan
unfolding plan_found
whole_found verb rows plan e = go (takes_names verb (length (names_in rows)) && (values_stand rows && is_allowed (plan_with verb rows))) refl e
  where
    fact : takes_names verb (length (names_in rows)) ≡ true → is_allowed (plan_with verb rows) ≡ true → IsWhole (plan_with verb rows)
    fact fits rules =
        let parts = both (nat_le (least_names verb) (length (names_in rows))) (nat_le (length (names_in rows)) (all_names verb (length (names_in rows)))) fits in
        let least : least_names verb ≤ length (names_in rows) = grind arith in
        let most : length (names_in rows) ≤ all_names verb (length (names_in rows)) = grind arith in
        let count = length_filled verb (names_in rows) most in
        record {
          least = omega arith;
          all = count ∙ (sym (all_of_all (form_of verb).shape (length (names_in rows))) ∙ ap (all_names verb) (sym count));
          numbers = numbers_lie rows;
          rules = rules;
        }

    go : (b : Bool) → (takes_names verb (length (names_in rows)) && (values_stand rows && is_allowed (plan_with verb rows))) ≡ b
        → cond b (Some (plan_with verb rows)) None ≡ Some plan → IsWhole plan
    go false t e = cc
    go true t e =
        let outer = both (takes_names verb (length (names_in rows))) (values_stand rows && is_allowed (plan_with verb rows)) t in
        let same : plan_with verb rows ≡ plan = cc in
        subst IsWhole same (fact outer.0 (both (values_stand rows) (is_allowed (plan_with verb rows)) outer.1).1)

whole_by : (verb : Verb) (words : List (List ℕ)) (plan : Plan) → plan_by verb words ≡ Some plan → IsWhole plan
unfolding plan_by
whole_by verb words plan e = go (found_in verb words) e
  where
    go : (found : Option (List Row)) → option_and_then (plan_found verb) found ≡ Some plan → IsWhole plan
    go None e = cc
    go (Some rows) e = whole_found verb rows plan e

-- words that ask for a plan ask for a whole one
pub plan_is_whole : (words : List (List ℕ)) (plan : Plan) → plan_of words ≡ Some plan → IsWhole plan
unfolding plan_of
plan_is_whole [] plan e = cc
plan_is_whole (word ∷ rest) plan e = go (verb_of word) e
  where
    go : (verb : Option Verb) → option_and_then (λ v. plan_by v (word ∷ rest)) verb ≡ Some plan → IsWhole plan
    go None e = cc
    go (Some verb) e = whole_by verb (word ∷ rest) plan e

-- and so is the plan of an answer
pub answer_is_whole : (words : List (List ℕ)) (result : Result Plan WordsFault) → Answers (plan_of words) result → IfOk result IsWhole
answer_is_whole words (Ok plan) h = plan_is_whole words plan h
answer_is_whole words (Err fault) h = tt
