-- Two runs of the same words, over the same contents, end alike.
use Rattle.std.proofs.Common.{◌≡◌, ◌≢◌, ◌⊎◌, inl, inr, ℕ, Bool, true, false, List, [], ◌∷◌, Option, Some, None, refl, sym, ap, ◌∙◌, subst}
use Rattle.std.specs.Str.{bytes_eq}
use Rattle.std.proofs.lemmas.Slice.Eq.{bytes_eq-Decides}
use mathlib.Core.Path.{fun_ext}
use Rattle.fst_desk.specs.Seen.{Files, Filed, Seen}
use Rattle.fst_desk.specs.Desk.{Holds, ToldHolds}
use Rattle.fst_words.specs.declared.plan.Plan.{Plan}
use Rattle.fst_words.specs.Plans.{plan_of}
use Rattle.fst_verbs.specs.Causes.{Answer, Cause, done, line_of, no_memory, refused, status_of, unread, unwritten, usage}
use Rattle.fst_command.specs.Outcome.{Answers, Leaves, Makes, Output, Prescribes, Refuses, Runs, ShowsLine}
use Rattle.fst_command.specs.OneOutcome.{EndsWith}
use Rattle.fst_command.specs.OneResult.{EndAlike, IsDecided}
use Rattle.fst_command.proofs.OneOutcome.{one_outcome}

-- ---- what is told of the files

untrue : false ≡ true → ⊥
untrue e = cc

-- one content under one name makes one set of files
one_holding : (name content : List ℕ) (old new later : Files) → Holds name content old new → Holds name content old later → new ≡ later
one_holding name content old new later one two = fun_ext at where
  by : (other : List ℕ) (same : Bool) → bytes_eq other name ≡ same → new other ≡ later other
  by other true e =
      let here : other ≡ name = (bytes_eq-Decides other name).0 e in
      ap new here ∙ (one.here ∙ sym two.here) ∙ sym (ap later here)
  by other false e =
      let apart : other ≢ name = λ is. untrue (sym e ∙ (bytes_eq-Decides other name).1 is) in
      one.elsewhere other apart ∙ sym (two.elsewhere other apart)

  at : (other : List ℕ) → new other ≡ later other
  at other = by other (bytes_eq other name) refl

one_told : (name content : List ℕ) (old new later : Option Files) → ToldHolds name content old new → ToldHolds name content old later → new ≡ later
one_told name content None None None one two = refl
one_told name content None None (Some later) one two = absurd two
one_told name content None (Some new) later one two = absurd one
one_told name content (Some old) None later one two = absurd one
one_told name content (Some old) (Some new) None one two = absurd two
one_told name content (Some old) (Some new) (Some later) one two = ap Some (one_holding name content old new later one two)

-- and so do the same outputs, one after the other
one_leaving : (outputs : List Output) (old new other later : Option Files) → old ≡ other → Leaves outputs old new → Leaves outputs other later → new ≡ later
one_leaving [] old new other later same one two = one ∙ (same ∙ sym two)
one_leaving (o ∷ os) old new other later same one two =
    let first : one.0 ≡ two.0 = one_told o.0 o.1 other one.0 two.0 (subst (λ (t : Option Files). ToldHolds o.0 o.1 t one.0) same one.1) two.1 in
    one_leaving os one.0 new two.0 later first one.2 two.2

-- ---- what a run has answered

-- the outputs stand
abbrev Stands : Plan → Files → Filed → Filed → Answer → Type 0
Stands plan files old new answer = (outputs : List Output) × (status : ℕ) × Prescribes plan (Some files) outputs
    × EndsWith plan (Some files) status × (answer ≡ done status) × Leaves outputs old.told new.told

-- a cause was told, and no file has changed
abbrev Tells : Plan → Files → Filed → Filed → Answer → Type 0
Tells plan files old new answer = (cause : Cause) × Refuses plan (Some files) cause × (answer ≡ refused cause) × (new.told ≡ old.told)

settled : (plan : Plan) (files : Files) (old new : Filed) (answer : Answer) → old.told ≡ Some files → IsDecided (status_of answer)
    → Answers (Some plan) old new answer → Stands plan files old new answer ⊎ Tells plan files old new answer
settled plan files old new (done s) told decided h =
    let ends : EndsWith plan (Some files) s = (h.1.made, subst (λ (t : Option Files). Makes plan t h.1.made) told h.1.makes, h.2) in
    inl (h.0, s, subst (λ (t : Option Files). Prescribes plan t h.0) told h.1, ends, refl, h.3)
settled plan files old new usage told decided h = absurd h
settled plan files old new (refused c) told decided h = inr (c, subst (λ (t : Option Files). Refuses plan t c) told h.0, refl, h.2)
settled plan files old new no_memory told decided h = absurd (decided.0 refl)
settled plan files old new (unread name) told decided h = absurd (decided.1 refl)
settled plan files old new (unwritten name) told decided h = absurd (decided.2 refl)

-- other words are told to be so, and no file has changed
unsettled : (old new : Filed) (answer : Answer) → IsDecided (status_of answer) → Answers None old new answer → (answer ≡ usage) × (new.told ≡ old.told)
unsettled old new (done s) decided h = absurd h
unsettled old new usage decided h = (refl, ap (λ (f : Filed). f.told) h)
unsettled old new (refused c) decided h = absurd h
unsettled old new no_memory decided h = absurd (decided.0 refl)
unsettled old new (unread name) decided h = absurd h
unsettled old new (unwritten name) decided h = absurd h

-- ---- both runs

-- equal answers, of runs that have stored the same outputs
module _ (words : List (List ℕ)) (files : Files) (old new other later : Seen) (status also : ℕ)
    (one : Runs words old new status) (two : Runs words other later also) (told : old.filed.told ≡ Some files) (tells : other.filed.told ≡ Some files) where
  alike : (outputs : List Output) → one.answer ≡ two.answer → Leaves outputs old.filed.told new.filed.told
      → Leaves outputs other.filed.told later.filed.told → EndAlike old new status other later also
  alike outputs same first second = record {
    status = one.status_is ∙ (ap status_of same ∙ sym two.status_is);
    told = one_leaving outputs old.filed.told new.filed.told other.filed.told later.filed.told (told ∙ sym tells) first second;
    outputs = outputs;
    stores = (first, second);
    line = line_of two.answer;
    shows = (subst (λ (a : Answer). ShowsLine (line_of a) old.showing new.showing) same one.shows, two.shows);
  }

  both : (plan : Plan) → Stands plan files old.filed new.filed one.answer ⊎ Tells plan files old.filed new.filed one.answer
      → Stands plan files other.filed later.filed two.answer ⊎ Tells plan files other.filed later.filed two.answer
      → EndAlike old new status other later also
  both plan (inl a) (inl b) =
      let outputs : a.0 ≡ b.0 = (one_outcome plan files).outputs a.0 b.0 a.2 b.2 in
      let ends : a.1 ≡ b.1 = (one_outcome plan files).status a.1 b.1 a.3 b.3 in
      alike b.0 (a.4 ∙ (ap done ends ∙ sym b.4)) (subst (λ (os : List Output). Leaves os old.filed.told new.filed.told) outputs a.5) b.5
  both plan (inl a) (inr b) = absurd ((one_outcome plan files).apart a.0 b.0 a.2 b.1)
  both plan (inr a) (inl b) = absurd ((one_outcome plan files).apart b.0 a.0 b.2 a.1)
  both plan (inr a) (inr b) =
      let cause : a.0 ≡ b.0 = (one_outcome plan files).cause a.0 b.0 a.1 b.1 in
      alike [] (a.2 ∙ (ap refused cause ∙ sym b.2)) a.3 b.3

  pub one_result : IsDecided status → IsDecided also → EndAlike old new status other later also
  one_result decided settles = by (plan_of words) one.answers two.answers where
    first : IsDecided (status_of one.answer)
    first = subst IsDecided one.status_is decided

    second : IsDecided (status_of two.answer)
    second = subst IsDecided two.status_is settles

    by : (p : Option Plan) → Answers p old.filed new.filed one.answer → Answers p other.filed later.filed two.answer
        → EndAlike old new status other later also
    by None a b =
        let x = unsettled old.filed new.filed one.answer first a in
        let y = unsettled other.filed later.filed two.answer second b in
        alike [] (x.0 ∙ sym y.0) x.1 y.1
    by (Some plan) a b =
        let x = settled plan files old.filed new.filed one.answer told first a in
        let y = settled plan files other.filed later.filed two.answer tells second b in
        both plan x y
