use Rattle.std.proofs.Common.{◌≡◌, ◌⊎◌, inl, inr, ◌<◌, ◌+◌, ℕ, List, [], ◌∷◌, ◌++◌, length, get_or, take, sym, subst, arith, rules}
use Rattle.std.proofs.lemmas.List.{take_more}
use Rattle.fst_machine.specs.BreadthFirst.{Has}
use Rattle.fst_machine.proofs.Elements.{Has-append_left, Has-append_right}
use Rattle.fst_search.proofs.Nodes.{one_more, read_number}
use Rattle.fst_search.proofs.searching.put_all.Goals as goal

still : (before members done : List ℕ) (state q : ℕ) → (Has members q → Has before q ⊎ Has done q) → Has members q ⊎ (q ≡ state) → Has before q ⊎ Has (done ++ state ∷ []) q
still before members done state q old (inl h) = by_part (old h)
  where
    by_part : Has before q ⊎ Has done q → Has before q ⊎ Has (done ++ state ∷ []) q
    by_part (inl b) = inl b
    by_part (inr d) = inr (Has-append_left done (state ∷ []) q d)
still before members done state q old (inr e) = inr (Has-append_right done (state ∷ []) q (inl (sym e)))

either : (members done : List ℕ) (state q : ℕ) → (Has done q → Has members q) → Has done q ⊎ (q ≡ state) → Has members q ⊎ (q ≡ state)
either members done state q old (inl h) = inl (old h)
either members done state q old (inr e) = inr e

low_still : (n : ℕ) (members : List ℕ) (state q : ℕ) → state < n → (Has members q → q < n) → Has members q ⊎ (q ≡ state) → q < n
low_still n members state q low old (inl h) = old h
low_still n members state q low old (inr e) = omega arith

pub index-requires : goal.index-requires
index-requires g c =
    let items = c.deref-state-items.result.now in
    let has : Has items (get_or items c.loop-state.state-index 0) = read_number items c.loop-state.state-index c.loop-state-test.true in
    let low : get_or items c.loop-state.state-index 0 < length c.args.table.now.nodes.items = c.requires.low _ (subst (λ (xs : List ℕ). Has xs (get_or items c.loop-state.state-index 0)) c.deref-state-items.ensures.value has) in
    search rules

pub loop-state-preserved : goal.loop-state-preserved
loop-state-preserved g c =
    let items = c.deref-state-items.result.now in
    let i = c.loop-state.state-index in
    let state = get_or items i 0 in
    let ok = c.in_ok-put.ensures.ok in
    let v = c.loop-state.invariant in
    let more : take (i + 1) items ≡ take i items ++ state ∷ [] = take_more items i 0 c.loop-state-test.true in
    let has : Has items state = read_number items i c.loop-state-test.true in
    let low : state < length c.args.table.now.nodes.items = c.requires.low state (subst (λ (xs : List ℕ). Has xs state) c.deref-state-items.ensures.value has) in
    record {
      only = λ q h. subst (λ (xs : List ℕ). Has (g.Q.StateQueue.members c.args.queue.now) q ⊎ Has xs q) (sym more) (still (g.Q.StateQueue.members c.args.queue.now) (g.Q.StateQueue.members c.loop-state.queue) (take i items) state q (v.only q) ((ok q).0 h));
      all = λ q h. (ok q).1 (either (g.Q.StateQueue.members c.loop-state.queue) (take i items) state q (v.all q) (one_more (take i items) state q (subst (λ (xs : List ℕ). Has xs q) more h)));
      below = λ old q h. low_still (length c.args.table.now.nodes.items) (g.Q.StateQueue.members c.loop-state.queue) state q low (v.below old q) ((ok q).0 h);
    }
