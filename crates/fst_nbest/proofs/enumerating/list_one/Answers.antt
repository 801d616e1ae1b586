use Rattle.std.proofs.Common.{◌++◌, ◌∷◌, [], List, ℕ, sym, subst}
use Rattle.std.specs.Prelude.{All}
use Rattle.fst_nbest.specs.Heap.{IsHeap}
use Rattle.fst_nbest.specs.Entries.{CanCompare, IsSearching, entry_cmp}
use Rattle.fst_nbest.proofs.Searches.{kept_compare, lefts_kept, listed_on, on_ok_two, rest_heap, rests_kept, taken_kept}
use Rattle.fst_nbest.proofs.enumerating.list_one.Goals as goal

pub walk-requires-clause-entry : goal.walk-requires-clause-entry
walk-requires-clause-entry g c =
    let s = g.S.System in
    let system = c.args.system.now in
    let h = c.requires.taken in
    (taken_kept s.kind (s.words system) (s.dist system) (s.count system) s.value s.bounded c.name_count-names.ensures.cancel c.name_count-names.ensures.good h.0 c.args.listed.now c.args.orders.now h.1 c.args.table.now.items c.args.entry h.2 h.3).entry

pub walk-requires-clause-depth : goal.walk-requires-clause-depth
walk-requires-clause-depth g c =
    let s = g.S.System in
    let system = c.args.system.now in
    let h = c.requires.taken in
    (taken_kept s.kind (s.words system) (s.dist system) (s.count system) s.value s.bounded c.name_count-names.ensures.cancel c.name_count-names.ensures.good h.0 c.args.listed.now c.args.orders.now h.1 c.args.table.now.items c.args.entry h.2 h.3).depth

pub walk-requires-clause-orders : goal.walk-requires-clause-orders
walk-requires-clause-orders g c = c.requires.taken.2.sorted

pub put_all-requires-clause-heap : goal.put_all-requires-clause-heap
put_all-requires-clause-heap g c =
    let s = g.S.System in
    let system = c.args.system.now in
    let h = c.requires.taken in
    subst (λ (ws : List (List ℕ)). IsHeap (entry_cmp s.value ws c.walk.new.orders) c.args.table.now.items) (sym c.in_ok-push.ensures.ok)
    (rest_heap s.kind (s.words system) (s.dist system) (s.count system) s.value s.bounded c.name_count-names.ensures.cancel c.name_count-names.ensures.good h.0 c.args.listed.now c.args.orders.now h.1 c.args.table.now.items c.args.entry h.2 h.3 c.walk.new.orders c.in_ok-word.word c.walk.new.left.items [] c.in_ok-word.ensures.walked)

pub put_all-requires-clause-table : goal.put_all-requires-clause-table
put_all-requires-clause-table g c =
    let s = g.S.System in
    let system = c.args.system.now in
    let h = c.requires.taken in
    subst (λ (ws : List (List ℕ)). All (CanCompare ws c.walk.new.orders) c.args.table.now.items) (sym c.in_ok-push.ensures.ok)
    (kept_compare s.kind (s.words system) (s.dist system) (s.count system) s.value s.bounded h.0 (c.args.listed.now ++ c.in_ok-word.word ∷ []) c.walk.new.orders c.args.table.now.items
    (rests_kept s.kind (s.words system) (s.dist system) (s.count system) s.value s.bounded c.name_count-names.ensures.cancel c.name_count-names.ensures.good h.0 c.args.listed.now c.args.orders.now h.1 c.args.table.now.items c.args.entry h.2 h.3 c.walk.new.orders c.in_ok-word.word c.walk.new.left.items [] c.in_ok-word.ensures.walked))

pub put_all-requires-clause-left : goal.put_all-requires-clause-left
put_all-requires-clause-left g c =
    let s = g.S.System in
    let system = c.args.system.now in
    let h = c.requires.taken in
    subst (λ (ws : List (List ℕ)). All (CanCompare ws c.walk.new.orders) c.walk.new.left.items) (sym c.in_ok-push.ensures.ok)
    (kept_compare s.kind (s.words system) (s.dist system) (s.count system) s.value s.bounded h.0 (c.args.listed.now ++ c.in_ok-word.word ∷ []) c.walk.new.orders c.walk.new.left.items
    (lefts_kept s.kind (s.words system) (s.dist system) (s.count system) s.value s.bounded c.name_count-names.ensures.cancel c.name_count-names.ensures.good h.0 c.args.listed.now c.args.orders.now h.1 c.args.table.now.items c.args.entry h.2 h.3 c.walk.new.orders c.in_ok-word.word c.walk.new.left.items [] c.in_ok-word.ensures.walked))

pub returns-clause-search : goal.returns-clause-search
returns-clause-search g c =
    let s = g.S.System in
    let system = c.args.system.now in
    on_ok_two c.put_all.result
    (λ heap same start before h t.
    subst (λ (ws : List (List ℕ)). IsSearching s.kind (s.words system) (s.dist system) (s.count system) s.value s.bounded start ws c.walk.new.orders c.put_all.new.table.items) (sym c.in_ok-push.ensures.ok)
    (listed_on s.kind (s.words system) (s.dist system) (s.count system) s.value s.bounded c.name_count-names.ensures.cancel c.name_count-names.ensures.good start c.args.listed.now c.args.orders.now before c.args.table.now.items c.args.entry h t c.walk.new.orders c.in_ok-word.word c.walk.new.left.items
    c.put_all.new.table.items c.in_ok-word.ensures.walked same (subst (λ (ws : List (List ℕ)). IsHeap (entry_cmp s.value ws c.walk.new.orders) c.put_all.new.table.items) c.in_ok-push.ensures.ok heap)))
    c.put_all.ensures.heap c.put_all.ensures.same
