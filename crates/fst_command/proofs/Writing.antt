-- From what the desk did with the outputs to the answer of a command.
use Rattle.std.proofs.Common.{◌≡◌, ◌⊎◌, ℕ, suc, List, [], ◌∷◌, ◌++◌, length, Option, Some, Result, Ok, Err, refl, sym, ap, ◌∙◌, subst, inl, inr}
use Rattle.fst_desk.specs.Seen.{Files, Filed, Seen, Rises, raised}
use Rattle.fst_desk.specs.Desk.{ToldHolds}
use Rattle.fst_words.specs.declared.plan.Plan.{Plan}
use Rattle.fst_words.specs.Inputs.{plan_inputs}
use Rattle.fst_words.specs.Plans.{outputs_of}
use Rattle.fst_verbs.specs.declared.refusal.Refusal.{Refusal}
use Rattle.fst_verbs.specs.Causes.{done, no_memory, unwritten}
use Rattle.fst_verbs.specs.Given.{Held}
use Rattle.fst_verbs.specs.Meaning.{Product, ending_of}
use Rattle.fst_command.specs.Outcome.{AreNamed, Calls, Leaves, Makes, OnlyFetches, Output, Prescribes}
use Rattle.fst_command.specs.Steps.{BothAnswer, IsReady, IsWorked, NoRoom, NotWritten, Progress, Starves, StopsAfter, StoresOnce, Works, WriteAnswer, WritesBoth, WritesOutput, WrittenWhole, ended}
use Rattle.fst_command.proofs.InTurn.{given_all}
use Rattle.fst_command.proofs.Answering.{all_fetched}

-- what is worked of all inputs is what the command makes
pub makes-ready : (plan : Plan) (held : Held) (product : Product) (old now : Seen) → Progress plan (plan_inputs plan) held old now → (w : IsWorked plan held product) → Makes plan old.filed.told w.made
makes-ready plan held product old now p w = record {
  contents = p.contents;
  agrees = p.agrees;
  given = w.given;
  reads = given_all plan p.contents held w.given p.reads w.reads;
  passes = w.passes;
  is = w.makes;
}

-- these outputs are prescribed, and the status is that of what the command makes
abbrev Hands : Plan → Option Files → ℕ → List Output → Type 0
Hands plan told status outputs = (p : Prescribes plan told outputs) × (status ≡ ending_of p.made)

-- outputs that are ready are prescribed, under the names of the command
prescribes-ready : (plan : Plan) (product : Product) (outputs : List Output) (old now : Seen) → IsReady plan product old now → AreNamed (outputs_of plan) product.bytes outputs
    → Hands plan old.filed.told product.status outputs
unfolding makes-ready
prescribes-ready plan product outputs old now is named = (
  record {
    made = is.worked.made;
    makes = makes-ready plan is.held product old now is.progress is.worked;
    named = subst (λ (bytes : List (List ℕ)). AreNamed (outputs_of plan) bytes outputs) is.worked.spells named;
  },
  is.worked.ends,
)

-- one store more
stored : (fetches stores : ℕ) (old mid new : Filed) → Calls fetches stores old mid → StoresOnce mid new → Calls fetches (suc stores) old new
stored fetches stores old mid new calls once = record { fetches = once.fetches ∙ calls.fetches; stores = once.stores ∙ ap (λ k. raised k) calls.stores }

-- the outputs were ready, and there was no memory for the line of a write fault
no_room : (plan : Plan) (product : Product) (old read new : Seen) (refusal : Refusal) → IsReady plan product old read → new.showing ≡ read.showing → NoRoom read.filed new.filed refusal → Works (Some plan) old new (Err refusal)
no_room plan product old read new refusal is showing n = record {
  answer = no_memory;
  ends = n.tells;
  answers = inl (subst (λ (f : Filed). (f.told ≡ old.filed.told) × OnlyFetches plan old.filed f) (sym n.same) (is.progress.told, all_fetched plan is.held old read is.progress));
  showing = showing ∙ is.progress.showing;
}

-- the bytes of the output are there, and were handed to the desk
pub Works-written : (plan : Plan) (out bytes : List ℕ) (status : ℕ) (old read new : Seen) (result : Result (Unit {0}) Refusal) → outputs_of plan ≡ out ∷ [] → IsReady plan (record { status = status; bytes = bytes ∷ [] }) old read
    → WritesOutput out bytes read new result → Works (Some plan) old new (ended status result)
Works-written plan out bytes status old read new result single is w = go result w.answer where
  showing : new.showing ≡ old.showing
  showing = w.showing ∙ is.progress.showing

  calls : StoresOnce read.filed new.filed → Calls (length (plan_inputs plan)) 1 old.filed new.filed
  calls once = stored (length (plan_inputs plan)) 0 old.filed read.filed new.filed is.progress.calls once

  prescribes : (bs : List ℕ) → bytes ≡ bs → Hands plan old.filed.told status ((out, bs) ∷ [])
  prescribes bs e = prescribes-ready plan (record { status = status; bytes = bs ∷ [] }) ((out, bs) ∷ []) old read (subst (λ (b : List ℕ). IsReady plan (record { status = status; bytes = b ∷ [] }) old read) e is)
      (subst (λ (names : List (List ℕ)). AreNamed names (bs ∷ []) ((out, bs) ∷ [])) (sym single) ([], refl, refl))

  holds : (bs : List ℕ) → ToldHolds out bs read.filed.told new.filed.told → Leaves ((out, bs) ∷ []) old.filed.told new.filed.told
  holds bs h = (new.filed.told, subst (λ (t : Option Files). ToldHolds out bs t new.filed.told) is.progress.told h, refl)

  failed : (refusal : Refusal) → NotWritten out bytes read.filed new.filed refusal → Works (Some plan) old new (Err refusal)
  failed refusal n = record {
    answer = unwritten out;
    ends = n.tells;
    answers = record {
      rises = subst (λ (k : ℕ). Rises k new.filed.write_faults) is.progress.write_faults n.rises;
      before = [];
      front = n.front;
      rest = n.rest;
      after = [];
      prescribes = (prescribes (n.front ++ n.rest) n.splits).0;
      leaves = holds n.front n.told;
      calls = calls n.once;
    };
    showing = showing;
  }

  starved : (refusal : Refusal) → Starves read.filed new.filed refusal → Works (Some plan) old new (Err refusal)
  starved refusal s = record {
    answer = no_memory;
    ends = s.tells;
    answers = inr (record {
      rises = subst (λ (k : ℕ). Rises k new.filed.starved) is.progress.starved s.rises;
      before = [];
      output = (out, bytes);
      after = [];
      prescribes = (prescribes bytes refl).0;
      leaves = s.told ∙ is.progress.told;
      calls = calls s.once;
    });
    showing = showing;
  }

  go : (result : Result (Unit {0}) Refusal) → WriteAnswer out bytes read.filed new.filed result → Works (Some plan) old new (ended status result)
  go (Ok u) h =
      let hands = prescribes bytes refl in
      record { answer = done status; ends = refl; answers = ((out, bytes) ∷ [], hands.0, hands.1, holds bytes h.told, calls h.once); showing = showing }
  go (Err refusal) (inl n) = no_room plan (record { status = status; bytes = bytes ∷ [] }) old read new refusal is w.showing n
  go (Err refusal) (inr (inl s)) = starved refusal s
  go (Err refusal) (inr (inr n)) = failed refusal n

-- the bytes of two outputs are there, and were handed to the desk
pub Works-both : (plan : Plan) (name bytes other more : List ℕ) (status : ℕ) (old read new : Seen) (result : Result (Unit {0}) Refusal) → outputs_of plan ≡ name ∷ other ∷ []
    → IsReady plan (record { status = status; bytes = bytes ∷ more ∷ [] }) old read → WritesBoth name bytes other more read new result → Works (Some plan) old new (ended status result)
Works-both plan name bytes other more status old read new result both is w = go result w.answer where
  showing : new.showing ≡ old.showing
  showing = w.showing ∙ is.progress.showing

  calls : (now : Filed) → StoresOnce read.filed now → Calls (length (plan_inputs plan)) 1 old.filed now
  calls now once = stored (length (plan_inputs plan)) 0 old.filed read.filed now is.progress.calls once

  calls-both : (mid : Filed) → StoresOnce read.filed mid → StoresOnce mid new.filed → Calls (length (plan_inputs plan)) 2 old.filed new.filed
  calls-both mid once again = stored (length (plan_inputs plan)) 1 old.filed mid new.filed (calls mid once) again

  prescribes : (bs ms : List ℕ) → bytes ≡ bs → more ≡ ms → Hands plan old.filed.told status ((name, bs) ∷ (other, ms) ∷ [])
  prescribes bs ms e f = prescribes-ready plan (record { status = status; bytes = bs ∷ ms ∷ [] }) ((name, bs) ∷ (other, ms) ∷ []) old read
      (subst (λ (m : List ℕ). IsReady plan (record { status = status; bytes = bs ∷ m ∷ [] }) old read) f (subst (λ (b : List ℕ). IsReady plan (record { status = status; bytes = b ∷ more ∷ [] }) old read) e is))
      (subst (λ (names : List (List ℕ)). AreNamed names (bs ∷ ms ∷ []) ((name, bs) ∷ (other, ms) ∷ [])) (sym both) ((other, ms) ∷ [], refl, ([], refl, refl)))

  first : (bs : List ℕ) (mid : Option Files) → ToldHolds name bs read.filed.told mid → ToldHolds name bs old.filed.told mid
  first bs mid h = subst (λ (t : Option Files). ToldHolds name bs t mid) is.progress.told h

  failed : (refusal : Refusal) → NotWritten name bytes read.filed new.filed refusal → Works (Some plan) old new (Err refusal)
  failed refusal n = record {
    answer = unwritten name;
    ends = n.tells;
    answers = record {
      rises = subst (λ (k : ℕ). Rises k new.filed.write_faults) is.progress.write_faults n.rises;
      before = [];
      front = n.front;
      rest = n.rest;
      after = (other, more) ∷ [];
      prescribes = (prescribes (n.front ++ n.rest) more n.splits refl).0;
      leaves = (new.filed.told, first n.front new.filed.told n.told, refl);
      calls = calls new.filed n.once;
    };
    showing = showing;
  }

  starved-first : (refusal : Refusal) → Starves read.filed new.filed refusal → Works (Some plan) old new (Err refusal)
  starved-first refusal s = record {
    answer = no_memory;
    ends = s.tells;
    answers = inr (record {
      rises = subst (λ (k : ℕ). Rises k new.filed.starved) is.progress.starved s.rises;
      before = [];
      output = (name, bytes);
      after = (other, more) ∷ [];
      prescribes = (prescribes bytes more refl refl).0;
      leaves = s.told ∙ is.progress.told;
      calls = calls new.filed s.once;
    });
    showing = showing;
  }

  starved : (refusal : Refusal) (mid : Filed) → WrittenWhole name bytes read.filed mid → Starves mid new.filed refusal → Works (Some plan) old new (Err refusal)
  starved refusal mid stands s = record {
    answer = no_memory;
    ends = s.tells;
    answers = inr (record {
      rises = subst (λ (k : ℕ). Rises k new.filed.starved) (stands.starved ∙ is.progress.starved) s.rises;
      before = (name, bytes) ∷ [];
      output = (other, more);
      after = [];
      prescribes = (prescribes bytes more refl refl).0;
      leaves = (mid.told, first bytes mid.told stands.told, s.told);
      calls = calls-both mid stands.once s.once;
    });
    showing = showing;
  }

  stopped : (refusal : Refusal) (mid : Filed) → WrittenWhole name bytes read.filed mid → NotWritten other more mid new.filed refusal → Works (Some plan) old new (Err refusal)
  stopped refusal mid stands n = record {
    answer = unwritten other;
    ends = n.tells;
    answers = record {
      rises = subst (λ (k : ℕ). Rises k new.filed.write_faults) (stands.write_faults ∙ is.progress.write_faults) n.rises;
      before = (name, bytes) ∷ [];
      front = n.front;
      rest = n.rest;
      after = [];
      prescribes = (prescribes bytes (n.front ++ n.rest) refl n.splits).0;
      leaves = (mid.told, first bytes mid.told stands.told, (new.filed.told, n.told, refl));
      calls = calls-both mid stands.once n.once;
    };
    showing = showing;
  }

  after_first : (refusal : Refusal) → StopsAfter name bytes other more read.filed new.filed refusal → Works (Some plan) old new (Err refusal)
  after_first refusal s = choose s.stops where
    choose : Starves s.mid new.filed refusal ⊎ NotWritten other more s.mid new.filed refusal → Works (Some plan) old new (Err refusal)
    choose (inl n) = starved refusal s.mid s.stands n
    choose (inr n) = stopped refusal s.mid s.stands n

  go : (result : Result (Unit {0}) Refusal) → BothAnswer name bytes other more read.filed new.filed result → Works (Some plan) old new (ended status result)
  go (Ok u) (mid, stands, also) = record {
    answer = done status;
    ends = refl;
    answers = (
      (name, bytes) ∷ (other, more) ∷ [],
      (prescribes bytes more refl refl).0,
      (prescribes bytes more refl refl).1,
      (mid.told, first bytes mid.told stands.told, (new.filed.told, also.told, refl)),
      calls-both mid stands.once also.once,
    );
    showing = showing;
  }
  go (Err refusal) (inl n) = no_room plan (record { status = status; bytes = bytes ∷ more ∷ [] }) old read new refusal is w.showing n
  go (Err refusal) (inr (inl (inl s))) = starved-first refusal s
  go (Err refusal) (inr (inl (inr n))) = failed refusal n
  go (Err refusal) (inr (inr s)) = after_first refusal s
