-- A run completes: from what it promises by its answer.
use Rattle.std.proofs.Common.{◌≡◌, ◌⊎◌, ℕ, List, [], ◌∷◌, ◌++◌, length, Option, Some, refl, sym, ap, ◌∙◌, subst, inl, inr, arith}
use Rattle.std.proofs.lemmas.List.{length-append}
use Rattle.fst_desk.specs.Seen.{Files, Seen}
use Rattle.fst_words.specs.declared.plan.Plan.{Plan}
use Rattle.fst_words.specs.Inputs.{Input, plan_inputs}
use Rattle.fst_verbs.specs.Causes.{Cause, Answer, done, usage, refused, no_memory, unread, unwritten, status_of}
use Rattle.fst_verbs.specs.Meaning.{Made, ending_of}
use Rattle.fst_command.specs.Outcome.{Agrees, Answers, Completes, IsCause, Makes, Refuses, Runs}

-- told contents are one list
same_contents : (files : Files) (is : List Input) (cs ds : List (List ℕ)) → Agrees (Some files) is cs → Agrees (Some files) is ds → cs ≡ ds
same_contents files [] [] [] h k = refl
same_contents files [] (c ∷ cs) ds h k = absurd h
same_contents files [] [] (d ∷ ds) h k = absurd k
same_contents files (i ∷ is) [] ds h k = absurd h
same_contents files (i ∷ is) (c ∷ cs) [] h k = absurd k
same_contents files (i ∷ is) (c ∷ cs) (d ∷ ds) h k =
    ap (λ x. x ∷ cs) (h.0 ∙ sym k.0) ∙ ap (λ xs. d ∷ xs) (same_contents files is cs ds h.1 k.1)

pub completes : (words : List (List ℕ)) (old new : Seen) (status : ℕ) → Runs words old new status → Completes words old new status
completes words old new status runs plan files contents planned told agrees passes missed faults =
    go runs.answer runs.status_is (subst (λ (p : Option Plan). Answers p old.filed new.filed runs.answer) planned runs.answers) where
      refuted : (cause : Cause) → Refuses plan old.filed.told cause → ⊥
      refuted cause r =
          let agrees' = subst (λ (t : Option Files). Agrees t (plan_inputs plan) r.contents) told r.agrees in
          let same : r.contents ≡ contents = same_contents files (plan_inputs plan) r.contents contents agrees' agrees in
          passes cause (subst (λ (cs : List (List ℕ)). IsCause plan cs cause) same r.is)

      longer : (name : List ℕ) → new.filed.missed ≡ old.filed.missed ++ name ∷ [] → ⊥
      longer name grew =
          let e : length old.filed.missed ≡ length (old.filed.missed ++ name ∷ []) = ap length (sym missed ∙ grew) in
          omega (arith, length-append old.filed.missed (name ∷ []))

      go : (answer : Answer) → status ≡ status_of answer → Answers (Some plan) old.filed new.filed answer
          → ((made : Made) × Makes plan (Some files) made × (status ≡ ending_of made)) ⊎ (status ≡ 3)
      go (done s) is answers = inl (answers.1.made, subst (λ (t : Option Files). Makes plan t answers.1.made) told answers.1.makes, is ∙ answers.2)
      go usage is answers = absurd answers
      go (refused cause) is answers = absurd (refuted cause answers.0)
      go no_memory is answers = inr is
      go (unread name) is answers = absurd (longer name answers.0.missed)
      go (unwritten name) is answers = absurd (faults answers.rises)
