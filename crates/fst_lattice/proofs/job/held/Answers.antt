use Rattle.fst_machine.proofs.Elements.{Has-append_left}
use Rattle.fst_lattice.proofs.Caching.{held_second}
use Rattle.fst_lattice.proofs.job.held.Goals as goal

pub returns-in-Some-clause-arcs : goal.returns-in-Some-clause-arcs
returns-in-Some-clause-arcs g c = Has-append_left c.args.cache.now c.args.own.now (c.args.key, c.in-Some.found.0.now) c.in-Some.ensures.arcs

pub returns-in-None-clause-arcs : goal.returns-in-None-clause-arcs
returns-in-None-clause-arcs g c = held_second c.args.cache.now c.args.own.now c.args.key (λ r. r.0.now) c.find-in-None.result c.in-None.ensures.arcs c.find-in-None.ensures.arcs
