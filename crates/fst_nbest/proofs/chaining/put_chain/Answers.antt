use Rattle.std.proofs.Common.{◌≡◌, ◌+◌, ◌<◌, ◌++◌, ◌∷◌, [], ℕ, List, length, map, refl, ap, ◌∙◌, arith}
use Rattle.std.proofs.lemmas.Result.{on_ok_weaker}
use Rattle.std.proofs.lemmas.List.Sums.{sum_by-cons, sum_by-append}
use Rattle.fst_semiring.specs.Cost.{Cost, infinite}
use Rattle.fst_machine.specs.Letters.{letter_of}
use Rattle.fst_machine.specs.Machine.{Arc, State, arc_total, valued_arc, valued_state}
use Rattle.fst_machine.proofs.Valued.{arc_total-valued}
use Rattle.fst_nbest.specs.Chains.{chain_at, letter_at, lettered}
use Rattle.fst_nbest.proofs.Remaining.{bare_put, one_put, own_begins, tail_done, tail_more}
use Rattle.fst_nbest.proofs.chaining.put_chain.Goals as goal

pub loop-place-preserved : goal.loop-place-preserved
loop-place-preserved g c =
    let value = g.W.Weight.value in
    let chain = chain_at (g.C.ChainSource.chains c.args.source.now) c.args.chain in
    let letter = letter_at chain.letters c.loop-place.place in
    let low : c.loop-place.place < length chain.letters = omega arith in
    let a : Arc _ ℕ = record { ilabel = c.arc.inside.ilabel; olabel = c.arc.inside.olabel; weight = c.arc.inside.weight; next = c.arc.inside.next } in
    let put : map (valued_state value) c.push-in-loop-place.new.self ≡ map (valued_state value) c.loop-place.states ++ record { final = infinite; arcs = lettered (c.loop-place.state + 1) letter ∷ [] } ∷ [] =
    one_put value c.loop-place.states c.push-in-loop-place.new.self c.zero.result c.clear.new.self.items c.push.new.self.items c.deref.result.now a letter (c.loop-place.state + 1)
    c.zero.ensures c.clear.ensures.items c.in_ok-push.ensures.items c.deref.ensures.value (ap (λ (b : Arc _ ℕ). letter_of (valued_arc value b)) c.arc.view_is ∙ c.arc-arc.ensures) c.in_ok-push-2.ensures.ok in
    let total : arc_total (map (valued_state value) c.push-in-loop-place.new.self) ≡ arc_total (map (valued_state value) c.loop-place.states ++ record { final = infinite; arcs = lettered (c.loop-place.state + 1) letter ∷ [] } ∷ []) = ap arc_total put in
    let both = sum_by-append (λ (t : State Cost). length t.arcs) (map (valued_state value) c.loop-place.states) (record { final = infinite; arcs = lettered (c.loop-place.state + 1) letter ∷ [] } ∷ []) in
    let one = sum_by-cons (λ (t : State Cost). length t.arcs) (record { final = infinite; arcs = lettered (c.loop-place.state + 1) letter ∷ [] }) [] in
    record {
      put = tail_more c.loop-place.state (c.loop-place.state + 1) c.loop-place.place chain.last chain.letters (map (valued_state value) c.loop-place.states) (map (valued_state value) c.push-in-loop-place.new.self) _ (omega arith) low
          c.loop-place.invariant.put put;
      number = omega (arith, c.loop-place.invariant.number);
      room = omega (arith, c.loop-place.invariant.room, total, both, one, arc_total-valued value c.push-in-loop-place.new.self, arc_total-valued value c.loop-place.states);
    }

pub loop-place-init : goal.loop-place-init
loop-place-init g c =
    let value = g.W.Weight.value in
    let chain = chain_at (g.C.ChainSource.chains c.args.source.now) c.args.chain in
    let some : length chain.letters ≡ 0 → ⊥ = λ e. c.if-len-eq0.false (c.letter_count-len.ensures ∙ e) in
    record {
      put = ap (λ (states : List (State Cost)). map (valued_state value) c.args.states.now ++ states) (own_begins c.args.first chain.last chain.letters some);
      number = refl;
      room = omega arith;
    }

pub returns : goal.returns
returns g c =
    let value = g.W.Weight.value in
    let chain = chain_at (g.C.ChainSource.chains c.args.source.now) c.args.chain in
    on_ok_weaker c.push-2.result
    (λ put. tail_done value c.loop-place.states c.push-2.new.self c.loop-place.state c.loop-place.place chain.last chain.letters _ (omega (arith, c.letter_count-len.ensures, c.loop-place-test.false)) c.loop-place.invariant.put
    (bare_put value c.loop-place.states c.push-2.new.self c.last.result c.clear-2.new.self.items c.deref-2.result.now chain.last c.last.ensures c.clear-2.ensures.items c.deref-2.ensures.value put))
    c.push-2.ensures.ok
