use Rattle.std.proofs.Common.{◌≤◌, ◌+◌, [], List, ℕ, Option, get_or, map, sym, ap, subst, subst₂}
use Rattle.std.proofs.lemmas.Option.{slice_get-get_or}
use Rattle.fst_machine.specs.Machine.{most_arcs, valued_arc, valued_state}
use Rattle.fst_walk.specs.Making.{IsMaking, IsTaking}
use Rattle.fst_walk.specs.Names.{left_from}
use Rattle.fst_walk.proofs.Parts.{none_so_far, taking_begins, taking_ends, taking_near, taking_within}
use Rattle.fst_walk.proofs.walking.follow.Goals as goal

pub loop-next-init : goal.loop-next-init
loop-next-init g c =
    let o = c.args.output.now in
    let graph = g.N.Names.graph c.args.graph.now in
    let rest = g.N.Names.rest c.args.graph.now in
    let key = get_or o.names c.args.place c.requires.making.start in
    record {
      taking = taking_begins graph c.args.limit c.args.place o.names (map (valued_state g.W.Weight.value) o.states.states) (map (valued_arc g.W.Weight.value) o.states.arcs) o.total o.overflow c.still_fits-fits.result (λ n. rest n 0) key c.requires.making (slice_get-get_or o.names c.args.place c.requires.making.start c.requires.place) (g.met.N.Names.whole c.args.graph.now key)
          (λ none low. ap (map (valued_arc g.W.Weight.value)) (c.requires.closed none low))
          (none_so_far o.overflow c.is_none.result c.still_fits-fits.result (o.total ≤ most_arcs) c.is_none.ensures c.still_fits-fits.ensures);
      total = c.requires.total;
    }

pub item-requires : goal.item-requires
item-requires g c =
    let o = c.loop-next.output in
    let rest = g.N.Names.rest c.args.graph.now in
    taking_within (g.N.Names.graph c.args.graph.now) c.args.limit c.args.place o.names (map (valued_state g.W.Weight.value) o.states.states) (map (valued_arc g.W.Weight.value) o.states.arcs) o.total o.overflow c.loop-next.fits (λ n. left_from (rest n) c.loop-next.next) c.loop-next.invariant.taking

pub final_weight-last-requires-clause-near : goal.final_weight-last-requires-clause-near
final_weight-last-requires-clause-near g c =
    let o = c.loop-next.output in
    let rest = g.N.Names.rest c.args.graph.now in
    taking_near (g.N.Names.graph c.args.graph.now) c.args.limit c.args.place o.names (map (valued_state g.W.Weight.value) o.states.states) (map (valued_arc g.W.Weight.value) o.states.arcs) o.total o.overflow c.loop-next.fits (λ n. left_from (rest n) c.loop-next.next) c.loop-next.invariant.taking c.requires.few c.item.result.now c.item.ensures

pub returns-clause-goes : goal.returns-clause-goes
returns-clause-goes g c =
    let o = c.loop-next.output in
    let graph = g.N.Names.graph c.args.graph.now in
    let rest = g.N.Names.rest c.args.graph.now in
    let states = map (valued_state g.W.Weight.value) o.states.states in
    let out = map (valued_arc g.W.Weight.value) o.states.arcs in
    let more = map (valued_state g.W.Weight.value) c.put_state.new.output.states.states in
    let taken : IsTaking graph c.args.limit c.args.place (λ n. []) o.names states out o.total o.overflow c.loop-next.fits = subst (λ (next : Option ℕ). IsTaking graph c.args.limit c.args.place (λ n. left_from (rest n) next) o.names states out o.total o.overflow c.loop-next.fits) c.in_default.is c.loop-next.invariant.taking in
    let goes = taking_ends graph c.args.limit c.args.place o.names states out o.total o.overflow c.loop-next.fits c.item.result.now (g.W.Weight.wide_value c.final_weight-last.result) c.put_state.new.output.overflow more taken c.item.ensures c.final_weight-last.ensures c.in_ok-put_state.ensures.put in
    λ yes. subst₂ (λ (ns : List g.row.N-Key.Denot) (total : ℕ). IsMaking graph c.args.limit ns more total c.put_state.new.output.overflow (c.args.place + 1)) (sym c.put_state.ensures.names) (sym c.put_state.ensures.total) goes
