use Rattle.std.proofs.Common.{List, [], map, sym, subst, ◌∙◌, arith}
use Rattle.std.specs.Prelude.{IfNone, IfSome, Option}
use Rattle.std.proofs.lemmas.List.{length-map}
use Rattle.fst_machine.specs.Graph.{graph_of}
use Rattle.fst_machine.specs.Machine.{Machine, valued}
use Rattle.fst_nbest.specs.Heap.{FirstLeaves}
use Rattle.fst_select.specs.declared.entry.Entry.{Entry}
use Rattle.fst_select.specs.Entries.{entry_cmp, words_of}
use Rattle.fst_select.specs.Searching.{IsSearch}
use Rattle.fst_select.specs.Strings.{IsPlain, weighted}
use Rattle.fst_select.proofs.SearchSteps.{all_listed, full_listed}
use Rattle.fst_select.proofs.listing.list_strings.Goals as goal

pub next_entry-requires : goal.next_entry-requires
next_entry-requires g c =
    let w = g.W.Weight in
    record {
      search = subst (λ (z : Machine g.row.W.Denot). IsSearch w.KIND (graph_of (valued w.value z)) w.wide_value c.strings.outlook.due (map (weighted w.wide_value) c.strings.listed) (words_of c.strings.listed)
          c.strings.subsets.items c.strings.table.ready.items c.strings.table.later.items) (sym c.strings.invariant.machine) c.strings.invariant.search;
    }

pub returns-in_default-clause-first : goal.returns-in_default-clause-first
returns-in_default-clause-first g c =
    let w = g.W.Weight in
    let listed = map (weighted w.wide_value) c.strings.listed in
    let words = words_of c.strings.listed in
    let subsets = c.strings.subsets.items in
    let due = c.next_entry.new.outlook.due in
    let there : IsSearch w.KIND (graph_of (valued w.value c.strings.outlook.machine)) w.wide_value due listed words subsets [] []
    = subst (λ (o : Option (Entry g.row.W-Wide.Denot)). IfNone o (IsSearch w.KIND (graph_of (valued w.value c.strings.outlook.machine)) w.wide_value due listed words subsets [] [])) c.in_default.is c.in_ok-entry.ensures.none in
    let here = subst (λ (z : Machine g.row.W.Denot). IsSearch w.KIND (graph_of (valued w.value z)) w.wide_value due listed words subsets [] []) (c.strings.invariant.machine ∙ c.in_ok-table.ensures.machine) there in
    all_listed w.KIND (graph_of (valued w.value c.args.outlook.now.machine)) w.wide_value due c.requires.plain listed words subsets c.args.n
    (omega (arith, c.strings.invariant.few, length-map c.strings.listed (weighted w.wide_value))) here

pub list_one-requires-clause-plain : goal.list_one-requires-clause-plain
list_one-requires-clause-plain g c =
    let w = g.W.Weight in
    subst (λ (z : Machine g.row.W.Denot). IsPlain (graph_of (valued w.value z))) (sym (c.in_ok-entry.ensures.machine ∙ (c.strings.invariant.machine ∙ c.in_ok-table.ensures.machine))) c.requires.plain

pub list_one-requires-clause-taken : goal.list_one-requires-clause-taken
list_one-requires-clause-taken g c =
    let w = g.W.Weight in
    let listed = map (weighted w.wide_value) c.strings.listed in
    let words = words_of c.strings.listed in
    let subsets = c.strings.subsets.items in
    let due = c.next_entry.new.outlook.due in
    let later = c.next_entry.new.table.later.items in
    let rest = c.next_entry.new.table.ready.items in
    let some = subst (λ (o : Option (Entry g.row.W-Wide.Denot)). IfSome o (λ entry. (ready : List (Entry g.row.W-Wide.Denot))
    × IsSearch w.KIND (graph_of (valued w.value c.strings.outlook.machine)) w.wide_value due listed words subsets ready later × FirstLeaves (entry_cmp w.wide_value words) ready entry rest)) c.in-Some.is c.in_ok-entry.ensures.some in
    subst (λ (z : Machine g.row.W.Denot). (ready : List (Entry g.row.W-Wide.Denot)) × IsSearch w.KIND (graph_of (valued w.value z)) w.wide_value due listed words subsets ready later
    × FirstLeaves (entry_cmp w.wide_value words) ready c.in-Some.entry rest) (sym c.in_ok-entry.ensures.machine) some

pub strings-preserved : goal.strings-preserved
strings-preserved g c =
    let w = g.W.Weight in
    record {
      search = subst (λ (z : Machine g.row.W.Denot). IsSearch w.KIND (graph_of (valued w.value z)) w.wide_value c.next_entry.new.outlook.due (map (weighted w.wide_value) c.list_one.new.listed) (words_of c.list_one.new.listed)
          c.list_one.new.subsets.items c.list_one.new.table.ready.items c.list_one.new.table.later.items) (c.in_ok-entry.ensures.machine ∙ c.strings.invariant.machine) c.in_ok-list_one.ensures.search;
      machine = c.in_ok-entry.ensures.machine ∙ c.strings.invariant.machine;
      clear = c.in_ok-list_one.ensures.clear;
      few = omega (arith, c.in_ok-list_one.ensures.listed, c.strings-test.true, c.len.ensures);
      ticked = omega (arith, c.in_ok-list_one.ensures.listed, c.tick.ensures, c.strings.invariant.ticked);
    }

pub returns-clause-first : goal.returns-clause-first
returns-clause-first g c =
    let w = g.W.Weight in
    let s = subst (λ (z : Machine g.row.W.Denot). IsSearch w.KIND (graph_of (valued w.value z)) w.wide_value c.strings.outlook.due (map (weighted w.wide_value) c.strings.listed) (words_of c.strings.listed)
    c.strings.subsets.items c.strings.table.ready.items c.strings.table.later.items) c.in_ok-table.ensures.machine c.strings.invariant.search in
    full_listed w.KIND (graph_of (valued w.value c.args.outlook.now.machine)) w.wide_value c.strings.outlook.due c.requires.plain (map (weighted w.wide_value) c.strings.listed) (words_of c.strings.listed)
    c.strings.subsets.items c.args.n c.strings.table.ready.items c.strings.table.later.items
    (omega (arith, c.strings.invariant.few, c.strings-test.false, c.len.ensures, length-map c.strings.listed (weighted w.wide_value))) s
