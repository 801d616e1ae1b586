use Rattle.std.proofs.Common.{◌≡◌, List, [], sym, ap, subst, ◌∙◌, eqb-true, arith}
use Rattle.std.proofs.lemmas.List.{nil_from_length}
use Rattle.std.specs.Prelude.{IfSome, map}
use Rattle.fst_machine.specs.Graph.{graph_of}
use Rattle.fst_machine.specs.Machine.{Machine, valued}
use Rattle.fst_nbest.specs.Heap.{FirstLeaves}
use Rattle.fst_select.specs.declared.entry.Entry.{Entry}
use Rattle.fst_select.specs.Entries.{entry_cmp, words_of}
use Rattle.fst_select.specs.Searching.{IsSearch}
use Rattle.fst_select.specs.Strings.{weighted}
use Rattle.fst_select.specs.Tables.{StandFor}
use Rattle.fst_select.proofs.SearchSteps.{class_on, some_taken, waiting_keyed}
use Rattle.fst_select.proofs.listing.next_entry.Goals as goal

pub returns-clause-some : goal.returns-clause-some
returns-clause-some g c =
    let w = g.W.Weight in
    let o = c.args.outlook.now in
    let graph = graph_of (valued w.value o.machine) in
    let words = words_of c.args.listed.now in
    let listed = map (weighted w.wide_value) c.args.listed.now in
    let subsets = c.args.subsets.now.items in
    let later = c.args.table.now.later.items in
    let next = c.begin_class.new.outlook.due in
    let zero_len = eqb-true _ 0 (sym c.is_empty.ensures ∙ c.if-not-is_empty.false) in
    let none : c.args.table.now.ready.items ≡ [] = nil_from_length c.args.table.now.ready.items (omega (arith, zero_len, c.args.table.now.ready.ok)) in
    let s : IsSearch w.KIND graph w.wide_value o.due listed words subsets [] later = subst (λ (es : List (Entry g.row.W-Wide.Denot)). IsSearch w.KIND graph w.wide_value o.due listed words subsets es later) none c.requires.search in
    let ready = c.begin_class.new.table.ready.items in
    let behind = c.begin_class.new.table.later.items in
    let stands : StandFor w.KIND graph w.wide_value next words subsets ready behind s.fronts =
    subst (λ (z : Machine g.row.W.Denot). StandFor w.KIND (graph_of (valued w.value z)) w.wide_value next words subsets ready behind s.fronts) c.in_ok-begin_class.ensures.machine
    (c.in_ok-begin_class.ensures.fronts c.if-not-branch.false s.fronts (waiting_keyed w.KIND graph w.wide_value o.due next listed words subsets later ready behind s)) in
    let on = class_on w.KIND graph w.wide_value o.due next listed words subsets later ready behind s (c.in_ok-begin_class.ensures.begun c.if-not-branch.false) stands in
    subst (λ (es : List (Entry g.row.W-Wide.Denot)). IfSome c.take_ready-2.result (λ entry. (xs : List (Entry g.row.W-Wide.Denot)) × IsSearch w.KIND graph w.wide_value next listed words subsets xs es
    × FirstLeaves (entry_cmp w.wide_value words) xs entry c.take_ready-2.new.table.ready.items)) (sym (ap (λ v. v.items) c.take_ready-2.ensures.later))
    (some_taken w.KIND graph w.wide_value next listed words subsets ready behind c.take_ready-2.new.table.ready.items c.take_ready-2.result on c.take_ready-2.ensures.taken)
