use Rattle.std.proofs.Common.{◌<◌, ℕ, List, ◌∷◌, [], get_or, take, length, sym, ◌∙◌, subst, arith}
use Rattle.std.proofs.lemmas.List.{take_more}
use Rattle.fst_machine.specs.BreadthFirst.{Grows}
use Rattle.fst_machine.proofs.Walks.{Grows-then}
use Rattle.fst_trim.proofs.useful.find_each.Goals as goal

pub loop-state-preserved : goal.loop-state-preserved
loop-state-preserved c =
    let i = c.loop-state.state-index in
    let states = c.args.states.now in
    let f = c.in_ok-find.ensures in
    let low : i < length states = omega arith in
    record {
      grows = subst (λ (xs : List ℕ). Grows c.args.names.now.items xs c.find.new.names.items) (sym (take_more states i 0 low)) (Grows-then (take i states) (get_or states i 0 ∷ []) c.args.names.now.items c.loop-state.names.items c.find.new.names.items c.loop-state.invariant.grows f.grows);
      marks = f.marks;
      size = f.size ∙ c.loop-state.invariant.size;
    }
