-- Each run has one outcome.
use Rattle.std.proofs.Common.{◌≡◌, ◌⊎◌, inl, inr, ℕ, List, [], ◌∷◌, Some, Result, Ok, Err, refl, sym, ap, ◌∙◌, subst}
use Rattle.fst_desk.specs.Seen.{Files}
use Rattle.fst_words.specs.declared.plan.Plan.{Plan}
use Rattle.fst_words.specs.Inputs.{Input, plan_inputs}
use Rattle.fst_words.specs.Plans.{outputs_of, rule_labels}
use Rattle.fst_verbs.specs.Causes.{Cause, Fault, faulty}
use Rattle.fst_verbs.specs.Commands.{meaning_for}
use Rattle.fst_verbs.specs.Given.{Given, given_of}
use Rattle.fst_verbs.specs.Meaning.{Made, bytes_of, ending_of}
use Rattle.fst_verbs.specs.Tabling.{tables_for}
use Rattle.fst_verbs.specs.OneMeaning.{HasOneOutcome, One}
use Rattle.fst_command.specs.OneOutcome.{EndsWith, OneOutcome}
use Rattle.fst_command.specs.Outcome.{Agrees, AreNamed, IsCause, Makes, Output, Prescribes, Refuses}
use Rattle.fst_verbs.proofs.Deciding.{one_error, one_value}
use Rattle.fst_verbs.proofs.Lawful.{one_meaning}

one_reading : (files : Files) (inputs : List Input) → One (Agrees (Some files) inputs)
one_reading files [] [] [] one two = refl
one_reading files [] [] (d ∷ ds) one two = absurd two
one_reading files [] (c ∷ cs) ds one two = absurd one
one_reading files (i ∷ is) [] ds one two = absurd one
one_reading files (i ∷ is) (c ∷ cs) [] one two = absurd two
one_reading files (i ∷ is) (c ∷ cs) (d ∷ ds) one two = rw (one.0, two.0, one_reading files is cs ds one.1 two.1) refl

one_naming : (names made : List (List ℕ)) → One (AreNamed names made)
one_naming [] [] x y one two = one ∙ sym two
one_naming [] (b ∷ made) x y one two = absurd one
one_naming (n ∷ names) [] x y one two = absurd one
one_naming (n ∷ names) (b ∷ made) x y one two = one.1 ∙ (ap (λ (rest : List Output). (n, b) ∷ rest) (one_naming names made one.0 two.0 one.2 two.2) ∙ sym two.1)

module _ (plan : Plan) (files : Files) where
  one_given : (contents others : List (List ℕ)) → Agrees (Some files) (plan_inputs plan) contents → Agrees (Some files) (plan_inputs plan) others → given_of plan contents ≡ given_of plan others
  one_given contents others one two = ap (given_of plan) (one_reading files (plan_inputs plan) contents others one two)

  one_stop : (given : Given) → HasOneOutcome (meaning_for plan) given
  one_stop given = one_meaning plan.command (rule_labels plan) plan.options given

  same_given : (a b : Made) (one : Makes plan (Some files) a) (two : Makes plan (Some files) b) → one.given ≡ two.given
  same_given a b one two = one_value (given_of plan two.contents) one.given two.given (sym (one_given one.contents two.contents one.agrees two.agrees) ∙ one.reads) two.reads

  one_making : One (Makes plan (Some files))
  one_making a b one two = (one_stop two.given).made a b (subst (λ (g : Given). (meaning_for plan).makes g a) (same_given a b one two) one.is) two.is

  one_status : One (EndsWith plan (Some files))
  one_status x y one two = one.2 ∙ (ap ending_of (one_making one.0 two.0 one.1 two.1) ∙ sym two.2)

  one_list_of_outputs : One (Prescribes plan (Some files))
  one_list_of_outputs a b one two =
      let made : one.made ≡ two.made = one_making one.made two.made one.makes two.makes in
      let given : one.makes.given ≡ two.makes.given = same_given one.made two.made one.makes two.makes in
      let bytes : bytes_of (tables_for plan one.makes.given.tables) one.made ≡ bytes_of (tables_for plan two.makes.given.tables) two.made =
      ap (λ (g : Given). bytes_of (tables_for plan g.tables) one.made) given ∙ ap (bytes_of (tables_for plan two.makes.given.tables)) made in
      one_naming (outputs_of plan) (bytes_of (tables_for plan two.makes.given.tables) two.made) a b (subst (λ (written : List (List ℕ)). AreNamed (outputs_of plan) written a) bytes one.named) two.named

  one_fault : (contents : List (List ℕ)) → One (IsCause plan contents)
  one_fault contents c d (inl one) (inl two) = one_error (given_of plan contents) c d one two
  one_fault contents c d (inl one) (inr two) = absurd (never (given_of plan contents) one two.1)
    where
      never : (read : Result Given Cause) → read ≡ Err c → read ≡ Ok two.0 → ⊥
      never read e f = let same = sym e ∙ f in cc
  one_fault contents c d (inr one) (inl two) = absurd (never (given_of plan contents) two one.1)
    where
      never : (read : Result Given Cause) → read ≡ Err d → read ≡ Ok one.0 → ⊥
      never read e f = let same = sym e ∙ f in cc
  one_fault contents c d (inr one) (inr two) =
      let given : one.0 ≡ two.0 = one_value (given_of plan contents) one.0 two.0 one.1 two.1 in
      let fault : one.2 ≡ two.2 = (one_stop two.0).stopped one.2 two.2 (subst (λ (g : Given). (meaning_for plan).stops g one.2) given one.3) two.3 in
      one.4 ∙ (ap faulty fault ∙ sym two.4)

  one_refused : One (Refuses plan (Some files))
  one_refused c d one two =
      one_fault two.contents c d (subst (λ (cs : List (List ℕ)). IsCause plan cs c) (one_reading files (plan_inputs plan) one.contents two.contents one.agrees two.agrees) one.is) two.is

  never_both : (a : List Output) (c : Cause) → Prescribes plan (Some files) a → Refuses plan (Some files) c → ⊥
  never_both a c one two = by (given_of plan does.contents) does.reads (subst (λ (cs : List (List ℕ)). IsCause plan cs c) (sym (one_reading files (plan_inputs plan) does.contents two.contents does.agrees two.agrees)) two.is)
    where
      does : Makes plan (Some files) one.made
      does = one.makes

      by : (read : Result Given Cause) → read ≡ Ok does.given → (read ≡ Err c) ⊎ ((given : Given) × (read ≡ Ok given) × (fault : Fault) × (meaning_for plan).stops given fault × (c ≡ faulty fault)) → ⊥
      by read e (inl f) = let same = sym e ∙ f in cc
      by read e (inr stops) = does.passes stops.2 (subst (λ (g : Given). (meaning_for plan).stops g stops.2) (one_value read stops.0 does.given stops.1 e) stops.3)

pub one_outcome : (plan : Plan) (files : Files) → OneOutcome plan files
one_outcome plan files = record { outputs = one_list_of_outputs plan files; status = one_status plan files; cause = one_refused plan files; apart = never_both plan files }
