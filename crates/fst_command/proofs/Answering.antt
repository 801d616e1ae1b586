-- From what the steps of a command give to its answer.
use Rattle.std.proofs.Common.{◌≡◌, ◌⊎◌, ℕ, ◌<◌, List, [], ◌∷◌, ◌++◌, length, Option, Some, None, IfSome, Result, Ok, Err, refl, sym, ap, ◌∙◌, subst, inl, inr, suc, arith}
use Rattle.std.specs.Prelude.{replicate}
use Rattle.std.proofs.lemmas.List.{length-append, length-replicate}
use Rattle.fst_desk.specs.Seen.{Files, Seen, raised}
use Rattle.fst_desk.specs.Desk.{content_of}
use Rattle.fst_words.specs.declared.plan.Plan.{Plan}
use Rattle.fst_words.specs.Inputs.{Input, plan_inputs}
use Rattle.fst_verbs.specs.declared.refusal.Refusal.{Refusal}
use Rattle.fst_verbs.specs.Causes.{Fault, faulty, no_memory, refused, too_long, unread}
use Rattle.fst_verbs.specs.Given.{Held, given_by, nothing, put, read_limit}
use Rattle.fst_command.specs.Outcome.{Agrees, Calls, IsCause, OnlyFetches, TakesMore, raised_by}
use Rattle.fst_verbs.specs.Told.{Fails, IsMemory, Tells}
use Rattle.fst_command.specs.Steps.{Decides, IsFault, NotRead, Progress, Reads, ReadsTooLong, StepAnswer, Works}
use Rattle.fst_command.proofs.InTurn.{Agrees-append, contents_of, given_all, given_apart, given_cause, given_fault, given_long, given_more}
use Rattle.fst_verbs.proofs.Refusing.{memory_tells}

-- one input more is one call more
raised_by-more : {A : Type 0} (xs : List A) (x : A) (n : ℕ) → raised_by (length (xs ++ x ∷ [])) n ≡ raised (raised_by (length xs) n)
raised_by-more [] x n = refl
raised_by-more (y ∷ xs) x n = ap (λ k. raised k) (raised_by-more xs x n)

-- after the inputs in front, one fetch more
calls-more : (plan : Plan) (front : List Input) (held : Held) (old mid new : Seen) (name : List ℕ) (result : Result (List ℕ) Refusal) →
    Progress plan front held old mid → Reads name mid new result → Calls (suc (length front)) 0 old.filed new.filed
calls-more plan front held old mid new name result p r = record {
  fetches = r.fetches ∙ ap (λ k. raised k) p.calls.fetches;
  stores = r.stores ∙ p.calls.stores;
}

-- which is at most one for each input
only_fetches : (plan : Plan) (front after : List Input) (held : Held) (old mid new : Seen) (i : Input) (result : Result (List ℕ) Refusal) →
    plan_inputs plan ≡ front ++ i ∷ after → Progress plan front held old mid → Reads i.name mid new result → OnlyFetches plan old.filed new.filed
only_fetches plan front after held old mid new i result one p r = record {
  write_faults = r.write_faults ∙ p.write_faults;
  fetched = suc (length front);
  few = let e : length (plan_inputs plan) ≡ length (front ++ i ∷ after) = ap length one in omega (arith, length-append front (i ∷ after));
  calls = calls-more plan front held old mid new i.name result p r;
}

-- where all inputs are read, there was one fetch for each
pub all_fetched : (plan : Plan) (held : Held) (old now : Seen) → Progress plan (plan_inputs plan) held old now → OnlyFetches plan old.filed now.filed
all_fetched plan held old now p = record { write_faults = p.write_faults; fetched = length (plan_inputs plan); few = omega arith; calls = p.calls }

-- nothing is read
pub none_read : (plan : Plan) (old : Seen) → Progress plan [] nothing old old
none_read plan old = record {
  contents = [];
  agrees = tt;
  reads = refl;
  told = refl;
  write_faults = refl;
  missed = refl;
  starved = refl;
  calls = record { fetches = refl; stores = refl };
  showing = refl;
}

-- one input more is read
pub one_read : (plan : Plan) (front : List Input) (held more : Held) (old mid new : Seen) (i : Input) → Progress plan front held old mid
    → StepAnswer i plan.options held more mid new (Ok tt) → Progress plan (front ++ i ∷ []) more old new
one_read plan front held more old mid new i p (content, r, is) = record {
  contents = p.contents ++ content ∷ [];
  agrees = Agrees-append old.filed.told front (i ∷ []) p.contents (content ∷ []) p.agrees (subst (λ (t : Option Files). IfSome t (λ files. content ≡ content_of files i.name)) p.told r.answer.whole, tt);
  reads = given_more old.filed.told plan.options front p.contents i content held more p.agrees p.reads r.answer.short is;
  told = r.told ∙ p.told;
  write_faults = r.write_faults ∙ p.write_faults;
  missed = r.answer.missed ∙ p.missed;
  starved = r.starved ∙ p.starved;
  calls = record {
    fetches = (calls-more plan front held old mid new i.name (Ok content) p r).fetches ∙ sym (raised_by-more front i old.filed.fetches);
    stores = r.stores ∙ p.calls.stores;
  };
  showing = r.showing ∙ p.showing;
}

-- there is a longer list than any number
longer_list : (n : ℕ) → (xs : List ℕ) × (n < length xs)
longer_list n = (replicate (suc n) 0, omega (arith, length-replicate {A = ℕ} (suc n) 0))

-- a content that is too long, and is the one that is told where contents are told
long_content : (told : Option Files) (name : List ℕ) → IfSome told (λ files. read_limit < length (content_of files name)) → (content : List ℕ) × IfSome told (λ files. content ≡ content_of files name) × (read_limit < length content)
long_content None name longer = let l = longer_list read_limit in (l.0, tt, l.1)
long_content (Some files) name longer = (content_of files name, refl, longer)

-- a fault says nothing of what was taken
takes_nothing : (fault : Fault) (taken : ℕ) → TakesMore (faulty fault) taken
takes_nothing fault taken name e = absurd cc

-- there was no memory to begin with
pub starved_first : (plan : Plan) (old : Seen) (refusal : Refusal) → IsMemory refusal → Works (Some plan) old old (Err refusal)
starved_first plan old refusal memory = record {
  answer = no_memory;
  ends = memory_tells refusal memory;
  answers = inl (refl, record { write_faults = refl; fetched = 0; few = omega arith; calls = record { fetches = refl; stores = refl } });
  showing = refl;
}

-- an input was not read
works_unread : (plan : Plan) (front after : List Input) (held : Held) (old mid new : Seen) (i : Input) (refusal : Refusal) → plan_inputs plan ≡ front ++ i ∷ after → Progress plan front held old mid → Reads i.name mid new (Err refusal) → Works (Some plan) old new (Err refusal)
works_unread plan front after held old mid new i refusal one p r = go r.answer where
  told : new.filed.told ≡ old.filed.told
  told = r.told ∙ p.told

  showing : new.showing ≡ old.showing
  showing = r.showing ∙ p.showing

  unread_by : NotRead i.name mid.filed new.filed refusal → Works (Some plan) old new (Err refusal)
  unread_by n = record {
    answer = unread i.name;
    ends = n.tells;
    answers = (
      record {
        missed = n.missed ∙ ap (λ names. names ++ i.name ∷ []) p.missed;
        before = front;
        input = i;
        after = after;
        inputs = one;
        named = refl;
        contents = p.contents;
        agrees = p.agrees;
        held = held;
        reads = p.reads;
        calls = calls-more plan front held old mid new i.name (Err refusal) p r;
      },
      told,
    );
    showing = showing;
  }

  long_by : ReadsTooLong i.name mid.filed new.filed refusal → Works (Some plan) old new (Err refusal)
  long_by n =
      let l = long_content old.filed.told i.name (subst (λ (t : Option Files). IfSome t (λ files. read_limit < length (content_of files i.name))) p.told n.longer) in
      let rest = contents_of old.filed.told after in
      let contents = p.contents ++ l.0 ∷ rest.0 in
      record {
        answer = refused (too_long i.name);
        ends = n.tells;
        answers = (
          record {
            contents = contents;
            agrees = subst (λ (is : List Input). Agrees old.filed.told is contents) (sym one) (Agrees-append old.filed.told front (i ∷ after) p.contents (l.0 ∷ rest.0) p.agrees (l.1, rest.1));
            is = inl (given_cause plan contents (too_long i.name)
                (ap (λ (is : List Input). given_by plan.options is contents nothing) one ∙ given_long old.filed.told plan.options front after p.contents rest.0 i l.0 held p.agrees p.reads l.2));
          },
          (λ name e. n.taken),
          told,
          only_fetches plan front after held old mid new i (Err refusal) one p r,
        );
        showing = showing;
      }

  go : Tells no_memory refusal ⊎ (NotRead i.name mid.filed new.filed refusal ⊎ ReadsTooLong i.name mid.filed new.filed refusal) → Works (Some plan) old new (Err refusal)
  go (inl tells) = record { answer = no_memory; ends = tells; answers = inl (told, only_fetches plan front after held old mid new i (Err refusal) one p r); showing = showing }
  go (inr (inl n)) = unread_by n
  go (inr (inr n)) = long_by n

-- an input was read, and it has a fault
works_fault : (plan : Plan) (front after : List Input) (held : Held) (old mid new : Seen) (i : Input) (content : List ℕ) (refusal : Refusal) → plan_inputs plan ≡ front ++ i ∷ after → Progress plan front held old mid → Reads i.name mid new (Ok content)
    → Fails refusal (put plan.options i.role i.name content held) → Works (Some plan) old new (Err refusal)
works_fault plan front after held old mid new i content refusal one p r (inl memory) = record {
  answer = no_memory;
  ends = memory_tells refusal memory;
  answers = inl (r.told ∙ p.told, only_fetches plan front after held old mid new i (Ok content) one p r);
  showing = r.showing ∙ p.showing;
}
works_fault plan front after held old mid new i content refusal one p r (inr (fault, is, tells)) =
    let rest = contents_of old.filed.told after in
    let contents = p.contents ++ content ∷ rest.0 in
    let whole = subst (λ (t : Option Files). IfSome t (λ files. content ≡ content_of files i.name)) p.told r.answer.whole in
    record {
      answer = refused (faulty fault);
      ends = tells;
      answers = (
        record {
          contents = contents;
          agrees = subst (λ (is : List Input). Agrees old.filed.told is contents) (sym one) (Agrees-append old.filed.told front (i ∷ after) p.contents (content ∷ rest.0) p.agrees (whole, rest.1));
          is = inl (given_cause plan contents (faulty fault)
              (ap (λ (is : List Input). given_by plan.options is contents nothing) one ∙ given_fault old.filed.told plan.options front after p.contents rest.0 i content held fault p.agrees p.reads r.answer.short is));
        },
        takes_nothing fault new.filed.taken,
        r.told ∙ p.told,
        only_fetches plan front after held old mid new i (Ok content) one p r,
      );
      showing = r.showing ∙ p.showing;
    }

-- an input was not read, or has a fault
pub works_stopped : (plan : Plan) (front after : List Input) (held more : Held) (old mid new : Seen) (i : Input) (refusal : Refusal) → plan_inputs plan ≡ front ++ i ∷ after → Progress plan front held old mid
    → StepAnswer i plan.options held more mid new (Err refusal) → Works (Some plan) old new (Err refusal)
works_stopped plan front after held more old mid new i refusal one p (inl r) = works_unread plan front after held old mid new i refusal one p r
works_stopped plan front after held more old mid new i refusal one p (inr (content, r, fails)) = works_fault plan front after held old mid new i content refusal one p r fails

-- all inputs were read, and the command refuses
pub works_refused : (plan : Plan) (held : Held) (old now : Seen) (refusal : Refusal) → Progress plan (plan_inputs plan) held old now → Decides plan held (Err refusal) → Works (Some plan) old now (Err refusal)
works_refused plan held old now refusal p (inl memory) = record {
  answer = no_memory;
  ends = memory_tells refusal memory;
  answers = inl (p.told, all_fetched plan held old now p);
  showing = p.showing;
}
works_refused plan held old now refusal p (inr (fault, is, tells)) = record {
  answer = refused (faulty fault);
  ends = tells;
  answers = (
    record { contents = p.contents; agrees = p.agrees; is = caused is },
    takes_nothing fault now.filed.taken,
    p.told,
    all_fetched plan held old now p,
  );
  showing = p.showing;
} where
  caused : IsFault plan held fault → IsCause plan p.contents (faulty fault)
  caused (inl apart) = inl (given_apart plan p.contents held fault p.reads apart)
  caused (inr (given, reads, stops)) = inr (given, given_all plan p.contents held given p.reads reads, fault, stops, refl)
