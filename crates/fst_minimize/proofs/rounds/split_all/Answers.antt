use Rattle.std.proofs.Common.{◌≡◌, ℕ, ◌<◌, List, [], ◌∷◌, ◌++◌, length, map, ap, ap₂, ◌∙◌, subst, arith}
use Rattle.std.proofs.lemmas.Grind.{get_or_default_zero}
use Rattle.fst_minimize.specs.Numbered.{SeenRows, number_in}
use Rattle.fst_minimize.specs.Numberers.{HasSeen}
use Rattle.fst_minimize.proofs.Splitting.{seen_none, seen_push, seen_splits}
use Rattle.fst_minimize.proofs.rounds.split_all.Goals as goal

pub loop-state-init : goal.loop-state-init
loop-state-init c = ([], seen_none c.args.current.now.numbers.items c.args.rows.now, c.in_ok-numberer.ensures)

pub loop-state-preserved : goal.loop-state-preserved
loop-state-preserved c =
    let inv = c.loop-state.invariant in
    let numbers = c.args.current.now.numbers.items in
    let r = c.row.result.now in
    let seen = seen_push numbers c.args.rows.now c.loop-state.state inv.0 r c.row.ensures inv.1 in
    let added = c.in_ok-add.ensures.seen inv.0 inv.2 in
    let low : c.loop-state.state < length numbers = let n = c.len-states.ensures in let m = c.requires.size in omega arith in
    let head : c.index.result.now ≡ number_in numbers c.loop-state.state = c.index.ensures ∙ get_or_default_zero numbers c.loop-state.state c.index.result.now low in
    let ends : c.deref-in-loop-state.result.now ≡ map (number_in numbers) r = c.deref-in-loop-state.ensures.value ∙ (c.in_ok-put_numbers.ensures ∙ ap (λ (ns : List ℕ). map (number_in ns) r) c.deref.ensures.value) in
    (inv.0 ++ (number_in numbers c.loop-state.state, map (number_in numbers) r) ∷ [], seen, subst (λ (x : ℕ × List ℕ). HasSeen (inv.0 ++ x ∷ []) c.add.new.self) (ap₂ (λ h e. (h, e)) head ends) added)

pub returns-clause-splits : goal.returns-clause-splits
returns-clause-splits c =
    let inv = c.loop-state.invariant in
    let rows = c.args.rows.now in
    let numbers = c.args.current.now.numbers.items in
    let all : c.loop-state.state ≡ length rows = let n = c.len-states.ensures in omega arith in
    seen_splits numbers _ rows inv.0 (subst (λ (k : ℕ). SeenRows numbers rows k inv.0) all inv.1) (c.finish.ensures.tells inv.0 inv.2)
