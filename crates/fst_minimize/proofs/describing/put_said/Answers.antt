use Rattle.std.proofs.Common.{◌≡◌, ◌<◌, ◌++◌, ◌∷◌, [], ℕ, List, Some, length, get_or, ap, ◌∙◌}
use Rattle.fst_machine.specs.Machine.{Arc}
use Rattle.fst_machine.proofs.Changes.{read_as}
use Rattle.fst_minimize.proofs.Said.{grows_extends, grows_apart, said_step}
use Rattle.fst_minimize.proofs.describing.put_said.Goals as goal

pub loop-arc-preserved : goal.loop-arc-preserved
loop-arc-preserved g c =
    let w = g.W.Weight in
    let inside = c.arc.inside in
    let i = c.loop-arc.arc-index in
    let low : i < length c.args.arcs.now = c.loop-arc-test.true in
    let y : Arc _ ℕ = record { ilabel = inside.ilabel; olabel = inside.olabel; weight = inside.weight; next = inside.next } in
    let read : y ≡ get_or c.args.arcs.now i y = read_as c.args.arcs.now i y c.arc-item.result c.arc.view_is c.arc-item.is in
    let keys = c.loop-arc.keys in
    let more = c.number_weight.new.keys in
    let extends = grows_extends keys more c.key_of.result c.in_ok-weight.ensures.grown in
    let put : c.push-in-loop-arc.new.self.items ≡ (c.loop-arc.said.items ++ inside.ilabel ∷ []) ++ c.in_ok-weight.weight ∷ [] =
    c.in_ok-push-2.ensures.items ∙ ap (λ (xs : List ℕ). xs ++ c.in_ok-weight.weight ∷ []) c.in_ok-push.ensures.items in
    record {
      says = said_step w.wide_value keys more c.args.arcs.now i y c.loop-arc.said.items c.push-in-loop-arc.new.self.items c.in_ok-weight.weight low read extends c.loop-arc.invariant.says (c.in_ok-weight.ensures.there ∙ ap Some c.key_of.ensures) put;
      apart = grows_apart keys more c.key_of.result c.loop-arc.invariant.apart c.in_ok-weight.ensures.grown;
      more = λ k x e. extends k x (c.loop-arc.invariant.more k x e);
    }
