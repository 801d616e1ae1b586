use Rattle.std.proofs.Common.{ap, ◌∙◌, arith}
use Rattle.fst_machine.specs.Machine.{valued}
use Rattle.fst_nbest.proofs.Building.{built_good, built_is, first_total, firsts_few, no_arcs}
use Rattle.fst_nbest.proofs.chaining.build.Goals as goal

pub push-requires : goal.push-requires
push-requires g c =
    let few = firsts_few g.W.Weight.value (g.C.ChainSource.chains c.args.source.now) c.put_first_arcs.new.own.items c.in_ok-put_first_arcs.ensures in
    let none = no_arcs c.in_ok-states.states c.in_ok-states.ensures in
    omega (arith, few, none, c.deref.ensures.len, c.requires.few, c.requires.count)

pub put_chains-requires-clause-room : goal.put_chains-requires-clause-room
put_chains-requires-clause-room g c =
    let few = firsts_few g.W.Weight.value (g.C.ChainSource.chains c.args.source.now) c.put_first_arcs.new.own.items c.in_ok-put_first_arcs.ensures in
    let total = first_total c.start_final.result c.deref.result.now c.put_first_arcs.new.own.items c.in_ok-states.states c.push.new.self c.in_ok-states.ensures c.deref.ensures.value c.in_ok-push.ensures.ok in
    omega (arith, few, total, c.requires.few, c.requires.count)

pub into_machine-requires : goal.into_machine-requires
into_machine-requires g c =
    built_good g.W.Weight.value (g.C.ChainSource.chains c.args.source.now) c.start_final.result c.put_first_arcs.new.own.items c.deref.result.now c.in_ok-states.states c.push.new.self c.put_chains.new.states c.start_final.ensures c.in_ok-put_first_arcs.ensures
    c.in_ok-states.ensures c.deref.ensures.value c.in_ok-push.ensures.ok c.in_ok-put_chains.ensures c.requires.some c.chain_count-chains.ensures.letters (omega (arith, c.requires.few, c.requires.count))

pub returns : goal.returns
returns g c =
    let value = g.W.Weight.value in
    ap (valued value) c.into_machine.ensures ∙ built_is value (g.C.ChainSource.chains c.args.source.now) c.start_final.result c.put_first_arcs.new.own.items c.deref.result.now c.in_ok-states.states c.push.new.self c.put_chains.new.states c.start_final.ensures c.in_ok-put_first_arcs.ensures
    c.in_ok-states.ensures c.deref.ensures.value c.in_ok-push.ensures.ok c.in_ok-put_chains.ensures c.requires.some
