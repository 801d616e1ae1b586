use Rattle.std.proofs.Common.{◌∷◌, true≢false, sym, ◌∙◌}
use Rattle.std.proofs.lemmas.List.Elements.{All-cons}
use Rattle.std.proofs.lemmas.List.Sorted.{All-permutation}
use Rattle.fst_determinize.proofs.Machines.{on_ok}
use Rattle.fst_select.specs.declared.entry.Entry.{Entry}
use Rattle.fst_select.specs.Entries.{CanCompare, words_of}
use Rattle.fst_select.specs.Outlook.{IsDue}
use Rattle.fst_select.proofs.Puts.{other_put, passing_put}
use Rattle.fst_select.proofs.putting.put_one.Goals as goal

pub returns-then-is_due : goal.returns-then-is_due
returns-then-is_due g c =
    let w = g.W.Weight in
    let can = CanCompare (words_of c.args.listed.now) in
    let e = c.args.entry in
    let ready = c.args.table.now.ready.items in
    let later = c.args.table.now.later.items in
    let new = c.put.new.items.items in
    let put = c.put.ensures in
    record {
      ready = put.heap;
      later = on_ok c.put.result _ _ (λ same. c.requires.later) put.same;
      compare = on_ok c.put.result _ _ (λ same. All-permutation can (e ∷ ready) new same (All-cons can e ready c.requires.entry c.requires.compare)) put.same;
      put = on_ok c.put.result _ _
          (λ same. passing_put (λ (x : Entry _). IsDue w.KIND c.args.outlook.now.due (w.wide_value x.total)) e ready later new (c.is_due.ensures.0 c.if-is_due.true) same) put.same;
    }

pub returns-else-is_due : goal.returns-else-is_due
returns-else-is_due g c =
    let w = g.W.Weight in
    let ready = c.args.table.now.ready.items in
    let later = c.args.table.now.later.items in
    let new = c.put-else-is_due.new.items.items in
    let put = c.put-else-is_due.ensures in
    record {
      ready = on_ok c.put-else-is_due.result _ _ (λ same. c.requires.ready) put.same;
      later = put.heap;
      compare = on_ok c.put-else-is_due.result _ _ (λ same. c.requires.compare) put.same;
      put = on_ok c.put-else-is_due.result _ _
          (λ same. other_put (λ (x : Entry _). IsDue w.KIND c.args.outlook.now.due (w.wide_value x.total)) c.args.entry ready later new
          (λ due. true≢false (sym (c.is_due.ensures.1 due) ∙ c.if-is_due.false)) same) put.same;
    }
