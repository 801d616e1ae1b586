use Rattle.std.proofs.Common.{◌≡◌, ◌∷◌, inl, inr, List, false, refl, sym, subst, ◌∙◌, arith}
use Rattle.std.proofs.Common.{Less}
use Rattle.std.specs.Prelude.{All}
use Rattle.std.specs.Ordering.{is_gt}
use Rattle.std.proofs.lemmas.List.Elements.{All-cons, All-nil, All-tail}
use Rattle.std.proofs.lemmas.List.Sorted.{All-permutation, length_permutation}
use Rattle.fst_semiring.specs.Cost.{Cost, cost_cmp}
use Rattle.fst_machine.specs.Graph.{graph_of}
use Rattle.fst_machine.specs.Machine.{Machine, valued}
use Rattle.fst_nbest.specs.Heap.{IsHeap}
use Rattle.fst_select.specs.declared.entry.Entry.{Entry}
use Rattle.fst_select.specs.Entries.{CanCompare, IsEntry, entry_cmp, words_of}
use Rattle.fst_select.specs.Frontier.{Front, IsKey}
use Rattle.fst_select.specs.Strings.{IsSpelled}
use Rattle.fst_select.specs.Tables.{StandFor}
use Rattle.fst_select.proofs.Moving.{IsMoving, known_compare, moving_end, moving_front, moving_on, moving_start, no_heap, some_ready}
use Rattle.fst_select.proofs.class_beginning.begin_class.Goals as goal

pub best_waiting-total-requires-clause-fronts : goal.best_waiting-total-requires-clause-fronts
best_waiting-total-requires-clause-fronts g c = (words_of c.args.listed.now, c.args.subsets.now.items, c.args.outlook.now.due, c.requires.fronts.0, c.requires.fronts.1)

pub loop-entry-init : goal.loop-entry-init
loop-entry-init g c =
    let w = g.W.Weight in
    let words = words_of c.args.listed.now in
    let total = w.wide_value c.best_waiting-total.result in
    let old = c.args.outlook.now in
    record {
      ready = subst (IsHeap (entry_cmp w.wide_value words)) (sym c.requires.clear) (no_heap (entry_cmp w.wide_value words));
      later = c.requires.heap;
      compare = subst (All (CanCompare words)) (sym c.requires.clear) (All-nil (CanCompare words));
      least = c.best_waiting-total.ensures.least;
      total = subst (All (λ (e : Entry _). w.wide_value e.total ≡ total)) (sym c.requires.clear) (All-nil (λ (e : Entry _). w.wide_value e.total ≡ total));
      moved = inr refl;
      moving = λ fs keyed. subst (λ (l : List (Entry _)). IsMoving w.KIND
          (graph_of (valued w.value old.machine)) w.wide_value old.due total words c.args.subsets.now.items l c.args.table.now.later.items fs) (sym c.requires.clear)
          (moving_start w.KIND (graph_of (valued w.value old.machine)) w.wide_value old.due total words c.args.subsets.now.items c.args.table.now.later.items fs keyed.entries);
    }

pub long_of-long-requires-clause-due : goal.long_of-long-requires-clause-due
long_of-long-requires-clause-due g c = inr (c.in-Some.ensures.taken.1 ∙ sym c.in_ok-make_due.ensures.due)

pub long_of-long-requires-clause-front : goal.long_of-long-requires-clause-front
long_of-long-requires-clause-front g c =
    let w = g.W.Weight in
    let words = words_of c.args.listed.now in
    let old = c.args.outlook.now in
    let front = moving_front w.KIND (graph_of (valued w.value old.machine)) w.wide_value old.due
    (w.wide_value c.best_waiting-total.result) words c.args.subsets.now.items c.loop-entry.table.ready.items c.loop-entry.table.later.items c.take_class.new.later.items
    c.requires.fronts.0 c.in-Some.entry c.in-Some.ensures.taken.0 (c.loop-entry.invariant.moving c.requires.fronts.0 c.requires.fronts.1) c.requires.fronts.1.keys in (
      old.due,
      front.0,
      subst (λ (m : Machine _). IsEntry w.KIND (graph_of (valued w.value m)) w.wide_value old.due words c.args.subsets.now.items c.in-Some.entry front.0) (sym c.make_due.ensures.machine) front.1,
      subst (λ (m : Machine _). IsKey (IsSpelled w.KIND (graph_of (valued w.value m))) front.0) (sym c.make_due.ensures.machine) front.2,
    )

pub put-requires-clause-heap : goal.put-requires-clause-heap
put-requires-clause-heap g c = c.loop-entry.invariant.ready

pub put-requires-clause-fits : goal.put-requires-clause-fits
put-requires-clause-fits g c = c.loop-entry.invariant.compare

pub put-requires-clause-item : goal.put-requires-clause-item
put-requires-clause-item g c =
    let w = g.W.Weight in
    let words = words_of c.args.listed.now in
    let old = c.args.outlook.now in
    let front = moving_front w.KIND (graph_of (valued w.value old.machine)) w.wide_value old.due
    (w.wide_value c.best_waiting-total.result) words c.args.subsets.now.items c.loop-entry.table.ready.items c.loop-entry.table.later.items c.take_class.new.later.items
    c.requires.fronts.0 c.in-Some.entry c.in-Some.ensures.taken.0 (c.loop-entry.invariant.moving c.requires.fronts.0 c.requires.fronts.1) c.requires.fronts.1.keys in
    known_compare words c.in-Some.entry c.long_of-long.result front.1.compare

pub loop-entry-preserved : goal.loop-entry-preserved
loop-entry-preserved g c =
    let w = g.W.Weight in
    let words = words_of c.args.listed.now in
    let old = c.args.outlook.now in
    let total = w.wide_value c.best_waiting-total.result in
    let e = c.in-Some.entry in
    let n = c.long_of-long.result in
    let known : Entry _ = record e { long = n } in
    let ready = c.loop-entry.table.ready.items in
    let later = c.loop-entry.table.later.items in
    let rest = c.take_class.new.later.items in
    let new = c.put.new.items.items in
    let inv = c.loop-entry.invariant in
    let taken = c.in-Some.ensures.taken in
    let put = c.in_ok-put.ensures.same in
    let fronts = c.requires.fronts in
    let front = moving_front w.KIND (graph_of (valued w.value old.machine)) w.wide_value old.due total words c.args.subsets.now.items ready later rest fronts.0 e taken.0
    (inv.moving fronts.0 fronts.1) fronts.1.keys in
    let no_better : Entry _ → Type 0 = λ (x : Entry _). is_gt (cost_cmp total (w.wide_value x.total)) ≡ false in
    let same : Entry _ → Type 0 = λ (x : Entry _). w.wide_value x.total ≡ total in
    let long = subst (λ (m : Machine _). (due : Cost) (f : Front) → IsEntry w.KIND (graph_of (valued w.value m)) w.wide_value due words c.args.subsets.now.items e f
    → IsKey (IsSpelled w.KIND (graph_of (valued w.value m))) f → f.long ≡ n)
    c.make_due.ensures.machine c.long_of-long.ensures in
    record {
      ready = c.in_ok-put.ensures.heap;
      later = c.take_class.ensures.heap;
      compare = All-permutation (CanCompare words) (known ∷ ready) new put (All-cons (CanCompare words) known ready (known_compare words e n front.1.compare) inv.compare);
      least = All-tail no_better e rest (All-permutation no_better later (e ∷ rest) taken.0 inv.least);
      total = All-permutation same (known ∷ ready) new put (All-cons same known ready taken.1 inv.total);
      moved = inl (let count = length_permutation (known ∷ ready) new put in omega (arith, count));
      moving = λ fs keyed. moving_on w.KIND (graph_of (valued w.value old.machine)) w.wide_value old.due total words c.args.subsets.now.items ready later rest new fs e n taken.0 put
          (λ f has h. long old.due f h (keyed.keys f has)) (inv.moving fs keyed);
    }

pub loop-entry-smaller : goal.loop-entry-smaller
loop-entry-smaller g c = let count = length_permutation c.loop-entry.table.later.items (c.in-Some.entry ∷ c.take_class.new.later.items) c.in-Some.ensures.taken.0 in omega (arith, count)

pub returns-clause-begun : goal.returns-clause-begun
returns-clause-begun g c is =
    let w = g.W.Weight in
    let words = words_of c.args.listed.now in
    let total = w.wide_value c.best_waiting-total.result in
    let due = c.in_ok-make_due.ensures.due in
    let inv = c.loop-entry.invariant in
    let worse = c.in_default.ensures.taken.1 in
    record {
      some = some_ready w.wide_value total c.loop-entry.table.ready.items c.loop-entry.table.later.items c.args.table.now.later.items c.best_waiting-total.ensures.reached worse inv.moved;
      ready_heap = inv.ready;
      later_heap = c.take_class.ensures.heap;
      compare = inv.compare;
      total = subst (λ (d : Cost). All (λ (e : Entry _). w.wide_value e.total ≡ d) c.loop-entry.table.ready.items) (sym due) inv.total;
      worse = subst (λ (d : Cost). All (λ (e : Entry _). cost_cmp d (w.wide_value e.total) ≡ Less) c.take_class.new.later.items) (sym due)
          (subst (All (λ (e : Entry _). cost_cmp total (w.wide_value e.total) ≡ Less)) (sym c.in_default.ensures.taken.0) worse);
    }

pub returns-clause-fronts : goal.returns-clause-fronts
returns-clause-fronts g c is fs keyed =
    let w = g.W.Weight in
    let words = words_of c.args.listed.now in
    let old = c.args.outlook.now in
    let total = w.wide_value c.best_waiting-total.result in
    let ready = c.loop-entry.table.ready.items in
    let later = c.loop-entry.table.later.items in
    let stand = moving_end w.KIND (graph_of (valued w.value old.machine)) w.wide_value old.due total words c.args.subsets.now.items ready later fs c.in_default.ensures.taken.1
    (c.loop-entry.invariant.moving fs keyed) in
    subst (λ (m : Machine _). StandFor w.KIND (graph_of (valued w.value m)) w.wide_value c.make_due.new.self.due words c.args.subsets.now.items ready c.take_class.new.later.items fs)
    (sym c.make_due.ensures.machine)
    (subst (λ (d : Cost). StandFor w.KIND (graph_of (valued w.value old.machine)) w.wide_value d words c.args.subsets.now.items ready c.take_class.new.later.items fs)
    (sym c.in_ok-make_due.ensures.due)
    (subst (λ (l : List (Entry _)). StandFor w.KIND (graph_of (valued w.value old.machine)) w.wide_value total words c.args.subsets.now.items ready l fs) (sym c.in_default.ensures.taken.0) stand))
