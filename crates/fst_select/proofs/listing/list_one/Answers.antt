use Rattle.std.proofs.Common.{ℕ, List, [], ◌∷◌, ◌++◌, map, sym, subst}
use Rattle.std.specs.List.{All}
use Rattle.fst_machine.specs.Graph.{graph_of}
use Rattle.fst_machine.specs.Machine.{valued}
use Rattle.fst_nbest.specs.Heap.{IsHeap}
use Rattle.fst_nbest.specs.Words.{WeightedWord}
use Rattle.fst_select.specs.Entries.{CanCompare, entry_cmp, words_of}
use Rattle.fst_select.specs.Searching.{IsSearch}
use Rattle.fst_select.specs.Strings.{weighted}
use Rattle.fst_select.proofs.EntryLists.{compares_kept, heap_kept, keeps_listed}
use Rattle.fst_select.proofs.SearchSteps.{entries_compare, listed_on, on_ok_three, rest_compare, taken_due, taken_entry, taken_key, weighted_more, words_more}
use Rattle.fst_select.proofs.listing.list_one.Goals as goal

pub walk-requires-clause-entry : goal.walk-requires-clause-entry
walk-requires-clause-entry g c =
    let w = g.W.Weight in
    let t = c.requires.taken in
    taken_entry w.KIND (graph_of (valued w.value c.args.outlook.now.machine)) w.wide_value c.args.outlook.now.due (map (weighted w.wide_value) c.args.listed.now) (words_of c.args.listed.now) c.args.subsets.now.items
    t.0 c.args.table.now.later.items c.args.table.now.ready.items c.args.entry t.1 t.2

pub walk-requires-clause-key : goal.walk-requires-clause-key
walk-requires-clause-key g c =
    let w = g.W.Weight in
    let t = c.requires.taken in
    taken_key w.KIND (graph_of (valued w.value c.args.outlook.now.machine)) w.wide_value c.args.outlook.now.due (map (weighted w.wide_value) c.args.listed.now) (words_of c.args.listed.now) c.args.subsets.now.items
    t.0 c.args.table.now.later.items c.args.table.now.ready.items c.args.entry t.1 t.2

pub walk-requires-clause-due : goal.walk-requires-clause-due
walk-requires-clause-due g c =
    let w = g.W.Weight in
    let t = c.requires.taken in
    taken_due w.KIND (graph_of (valued w.value c.args.outlook.now.machine)) w.wide_value c.args.outlook.now.due (map (weighted w.wide_value) c.args.listed.now) (words_of c.args.listed.now) c.args.subsets.now.items
    t.0 c.args.table.now.later.items c.args.table.now.ready.items c.args.entry t.1 t.2

pub put_left-requires-clause-ready : goal.put_left-requires-clause-ready
put_left-requires-clause-ready g c =
    let w = g.W.Weight in
    let t = c.requires.taken in
    let words = words_of c.args.listed.now in
    let rest = c.args.table.now.ready.items in
    let compare = rest_compare w.KIND (graph_of (valued w.value c.args.outlook.now.machine)) w.wide_value c.args.outlook.now.due (map (weighted w.wide_value) c.args.listed.now) words c.args.subsets.now.items
    t.0 c.args.table.now.later.items rest c.args.entry t.1 t.2 in
    subst (λ (ws : List (List ℕ)). IsHeap (entry_cmp w.wide_value ws) rest) (words_more c.args.listed.now c.push.new.self c.in_ok-found.found c.in_ok-push.ensures.ok)
    (heap_kept words (words ++ c.in_ok-found.found.word ∷ []) (keeps_listed words c.in_ok-found.found.word) w.wide_value rest compare t.2.heap)

pub put_left-requires-clause-compare : goal.put_left-requires-clause-compare
put_left-requires-clause-compare g c =
    let w = g.W.Weight in
    let t = c.requires.taken in
    let words = words_of c.args.listed.now in
    let rest = c.args.table.now.ready.items in
    let compare = rest_compare w.KIND (graph_of (valued w.value c.args.outlook.now.machine)) w.wide_value c.args.outlook.now.due (map (weighted w.wide_value) c.args.listed.now) words c.args.subsets.now.items
    t.0 c.args.table.now.later.items rest c.args.entry t.1 t.2 in
    subst (λ (ws : List (List ℕ)). All (CanCompare ws) rest) (words_more c.args.listed.now c.push.new.self c.in_ok-found.found c.in_ok-push.ensures.ok)
    (compares_kept words (words ++ c.in_ok-found.found.word ∷ []) (keeps_listed words c.in_ok-found.found.word) rest compare)

pub put_left-requires-clause-left : goal.put_left-requires-clause-left
put_left-requires-clause-left g c =
    let w = g.W.Weight in
    let walked = c.in_ok-found.ensures.walked in
    let words = words_of c.args.listed.now ++ c.in_ok-found.found.word ∷ [] in
    subst (λ (ws : List (List ℕ)). All (CanCompare ws) c.walk.new.left.items) (words_more c.args.listed.now c.push.new.self c.in_ok-found.found c.in_ok-push.ensures.ok)
    (entries_compare w.KIND (graph_of (valued w.value c.args.outlook.now.machine)) w.wide_value c.args.outlook.now.due words c.walk.new.subsets.items c.walk.new.left.items walked.fronts walked.entries)

pub returns-clause-search : goal.returns-clause-search
returns-clause-search g c =
    let w = g.W.Weight in
    let o = c.args.outlook.now in
    let graph = graph_of (valued w.value o.machine) in
    let t = c.requires.taken in
    let found = weighted w.wide_value c.in_ok-found.found in
    let listed = map (weighted w.wide_value) c.args.listed.now in
    let words = words_of c.args.listed.now in
    let same_words = words_more c.args.listed.now c.push.new.self c.in_ok-found.found c.in_ok-push.ensures.ok in
    let same_listed = weighted_more w.wide_value c.args.listed.now c.push.new.self c.in_ok-found.found c.in_ok-push.ensures.ok in
    on_ok_three c.put_left.result
    (λ put heap later.
    subst (λ (ls : List WeightedWord). IsSearch w.KIND graph w.wide_value o.due ls (words_of c.push.new.self) c.walk.new.subsets.items c.put_left.new.table.ready.items c.put_left.new.table.later.items) same_listed
    (subst (λ (ws : List (List ℕ)). IsSearch w.KIND graph w.wide_value o.due (listed ++ found ∷ []) ws c.walk.new.subsets.items c.put_left.new.table.ready.items c.put_left.new.table.later.items) same_words
    (listed_on w.KIND graph w.wide_value o.due listed words c.args.subsets.now.items t.0 c.args.table.now.later.items c.args.table.now.ready.items c.args.entry t.1 t.2
    c.walk.new.subsets.items c.walk.new.left.items c.put_left.new.table.ready.items c.put_left.new.table.later.items found c.in_ok-found.ensures.walked put
    (subst (λ (ws : List (List ℕ)). IsHeap (entry_cmp w.wide_value ws) c.put_left.new.table.ready.items) (sym same_words) heap) later)))
    c.put_left.ensures.put c.put_left.ensures.ready c.put_left.ensures.later
