-- A command that ended with outputs is a run; so is one that ended with a refusal, with the line that was then shown.
use Rattle.std.proofs.Common.{◌≡◌, ◌⊎◌, ℕ, List, [], Option, Some, None, Result, Ok, Err, refl, sym, ap, ◌∙◌, subst, inl, inr}
use Rattle.std.proofs.lemmas.List.{append-nil}
use Rattle.fst_desk.specs.Seen.{Filed, Showing, Seen}
use Rattle.fst_desk.specs.Desk.{ToldAppends, ShowAnswer, DeskShows}
use Rattle.fst_desk.specs.declared.edge.StoreFault.{StoreFault}
use Rattle.fst_desk.specs.declared.edge.StoreFault.TheVariants as storing
use Rattle.fst_verbs.specs.declared.refusal.Refusal.{Refusal}
use Rattle.fst_verbs.specs.Causes.{Answer, line_of, status_of}
use Rattle.fst_words.specs.Plans.{plan_of}
use Rattle.fst_command.specs.Outcome.{Answers, ShowsFront, ShowsLine, Runs}
use Rattle.fst_verbs.specs.Told.{told_line, told_status}
use Rattle.fst_command.specs.Steps.{Works}

-- nothing is the front of any line
appends_nothing : (old new : Option (List ℕ)) → new ≡ old → ToldAppends [] old new
appends_nothing None new e = subst (λ (t : Option (List ℕ)). ToldAppends [] None t) (sym e) tt
appends_nothing (Some shown) new e = subst (λ (t : Option (List ℕ)). ToldAppends [] (Some shown) t) (sym e) (sym (append-nil shown))

-- what was shown of a line
pub shows : (line : List ℕ) (old new : Showing) (result : Result (Unit {0}) StoreFault) → ShowAnswer line old new result → ToldAppends line old.shown new.shown ⊎ ShowsFront line old new
shows line old new (Ok u) h = inl h.shown
shows line old new (Err storing.Failed) h = inr (record { rises = inl h.show_faults; front = h.front; rest = h.rest; splits = h.splits; shown = h.shown })
shows line old new (Err storing.Memory) h = inr (record {
  rises = inr h.show_starved;
  front = [];
  rest = line;
  splits = refl;
  shown = appends_nothing old.shown new.shown h.shown;
})

pub runs-done : (words : List (List ℕ)) (old new : Seen) (status : ℕ) → Works (plan_of words) old new (Ok status) → Runs words old new status
runs-done words old new status w = record {
  answer = w.answer;
  status_is = sym (ap (λ (a : Answer). status_of a) w.ends);
  answers = w.answers;
  shows = subst (λ (a : Answer). ShowsLine (line_of a) old.showing new.showing) (sym w.ends) w.showing;
}

pub runs-refused : (words : List (List ℕ)) (old mid new : Seen) (refusal : Refusal) (line : List ℕ) (shown : Result (Unit {0}) StoreFault) (status : ℕ) → Works (plan_of words) old mid (Err refusal) → line ≡ told_line refusal → DeskShows line mid new shown → status ≡ told_status refusal → Runs words old new status
runs-refused words old mid new refusal line shown status w e s t = record {
  answer = w.answer;
  status_is = t ∙ w.ends.status;
  answers = subst (λ (f : Filed). Answers (plan_of words) old.filed f w.answer) (sym s.filed) w.answers;
  shows = subst (λ (l : Option (List ℕ)). ShowsLine l old.showing new.showing) (ap Some e ∙ w.ends.line)
      (subst (λ (h : Showing). ShowsLine (Some line) h new.showing) w.showing (s.shows, shows line mid.showing new.showing shown s.answer));
}
