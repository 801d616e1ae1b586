use Rattle.std.proofs.Common.{◌≡◌, ◌∷◌, ◌++◌, [], List, sym, ap, subst, ◌∙◌, append-nil, rules}
use Rattle.fst_nbest.proofs.Searches.{all_popped}
use Rattle.fst_select.specs.declared.entry.Entry.{Entry}
use Rattle.fst_select.specs.Entries.{CanCompare, words_of}
use Rattle.fst_select.specs.Outlook.{IsDue}
use Rattle.fst_select.specs.Tables.{ArePut}
use Rattle.fst_select.proofs.Puts.{none_put, put_done, put_next}
use Rattle.fst_select.proofs.putting.put_left.Goals as goal

pub loop-entry-init : goal.loop-entry-init
loop-entry-init g c =
    let w = g.W.Weight in
    let table = c.args.table.now in
    record {
      ready = c.requires.ready;
      later = c.requires.later;
      compare = c.requires.compare;
      left = c.requires.left;
      put = ([], sym (append-nil c.args.left.now.items), none_put (λ (e : Entry _). IsDue w.KIND c.args.outlook.now.due (w.wide_value e.total)) table.ready.items table.later.items);
    }

pub put_one-requires-clause-entry : goal.put_one-requires-clause-entry
put_one-requires-clause-entry g c =
    let can = CanCompare (words_of c.args.listed.now) in
    (all_popped can c.loop-entry.left.items c.pop.new.self.items c.in-Some.entry c.in-Some.ensures.items c.loop-entry.invariant.left).1

pub loop-entry-preserved : goal.loop-entry-preserved
loop-entry-preserved g c =
    let w = g.W.Weight in
    let passes : Entry _ → Type 0 = λ (e : Entry _). IsDue w.KIND c.args.outlook.now.due (w.wide_value e.total) in
    let start = c.args.table.now in
    let mid = c.loop-entry.table in
    let new = c.put_one.new.table in
    let popped = all_popped (CanCompare (words_of c.args.listed.now)) c.loop-entry.left.items c.pop.new.self.items c.in-Some.entry c.in-Some.ensures.items c.loop-entry.invariant.left in
    let done = c.loop-entry.invariant.put in
    record {
      ready = c.in_ok-put_one.ensures.ready;
      later = c.in_ok-put_one.ensures.later;
      compare = c.in_ok-put_one.ensures.compare;
      left = popped.0;
      put = (
        c.in-Some.entry ∷ done.0,
        put_next c.args.left.now.items c.loop-entry.left.items c.pop.new.self.items c.in-Some.entry done.0 c.in-Some.ensures.items done.1,
        put_done passes c.in-Some.entry done.0 start.ready.items start.later.items mid.ready.items mid.later.items new.ready.items new.later.items done.2 c.in_ok-put_one.ensures.put,
      );
    }

pub returns-clause-put : goal.returns-clause-put
returns-clause-put g c =
    let w = g.W.Weight in
    let passes : Entry _ → Type 0 = λ (e : Entry _). IsDue w.KIND c.args.outlook.now.due (w.wide_value e.total) in
    let start = c.args.table.now in
    let table = c.loop-entry.table in
    let done = c.loop-entry.invariant.put in
    let none : c.loop-entry.left.items ≡ [] = search rules in
    subst (λ (l : List (Entry _)). ArePut passes l start.ready.items start.later.items table.ready.items table.later.items) (sym (done.1 ∙ ap (λ (l : List (Entry _)). l ++ done.0) none)) done.2
