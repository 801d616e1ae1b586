use Rattle.std.proofs.Common.{◌≡◌, All, true, false, get_or, take, sym, subst, arith}
use Rattle.std.proofs.lemmas.List.{take_all, take_more}
use Rattle.std.proofs.lemmas.List.Elements.{All-push}
use Rattle.fst_minimize.proofs.along.all_marked.Goals as goal

pub loop-state-preserved : goal.loop-state-preserved
loop-state-preserved c =
    let states = c.args.states.now in
    let i = c.loop-state.state-index in
    let marks = c.args.marks.now in
    let mark : get_or marks (get_or states i 0) false ≡ true = c.if-not-marks-state.false in
    subst (All (λ q. get_or marks q false ≡ true)) (sym (take_more states i 0 (omega arith))) (All-push (λ q. get_or marks q false ≡ true) (take i states) (get_or states i 0) c.loop-state.invariant mark)

pub returns : goal.returns
returns c = λ e. subst (All (λ q. get_or c.args.marks.now q false ≡ true)) (take_all c.loop-state.state-index c.args.states.now (omega arith)) c.loop-state.invariant
