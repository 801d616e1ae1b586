use Rattle.std.proofs.Common.{◌*◌, ◌++◌, [], ◌∷◌, List, length, map, sym, ap, ◌∙◌, subst}
use Rattle.fst_machine.specs.Graph.{graph_of}
use Rattle.fst_machine.specs.Machine.{valued}
use Rattle.fst_search.specs.Closure.{IsClosure, Reached, valued_reached}
use Rattle.fst_search.proofs.Silent.{silent_alone}
use Rattle.fst_search.proofs.closing.alone.Goals as goal

pub returns : goal.returns
returns g c =
    let wide = g.W.Weight.wide_value in
    let own : Reached g.row.W-Wide.Denot = record { state = c.args.state; distance = c.widen-distance.result } in
    subst (λ (items : List (Reached g.row.W-Wide.Denot)). IsClosure g.W.Weight.KIND (graph_of (valued g.W.Weight.value c.args.fst.now)) c.args.state (length c.args.fst.now.states * 1000000000000000000) (map (valued_reached wide) items))
    (sym (c.in_ok-push.ensures.items ∙ ap (λ (items : List (Reached g.row.W-Wide.Denot)). items ++ own ∷ []) c.in_ok-list.ensures.items))
    (silent_alone g.W.Weight.KIND g.W.Weight.value c.args.fst.now c.states-states.ensures.machine c.args.state c.requires.none (wide c.widen-distance.result) (c.widen-distance.ensures.same ∙ c.one.ensures) c.requires.state)
