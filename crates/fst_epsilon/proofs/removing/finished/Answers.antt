use Rattle.fst_epsilon.proofs.Whole.{ends_fine, ends_graph, ends_keeps, ends_machine, ends_many, ends_out}
use Rattle.fst_epsilon.proofs.removing.finished.Goals as goal

pub returns-then-output-clause-cause : goal.returns-then-output-clause-cause
returns-then-output-clause-cause g c = ends_many g.W.Weight.value g.W.Weight.KIND c.args.fst.now c.states-states.ensures.machine c.args.output.states c.args.output.total c.args.output.overflow c.requires c.if-output.true

pub returns-in-Some-clause-cause : goal.returns-in-Some-clause-cause
returns-in-Some-clause-cause g c = ends_out g.W.Weight.value g.W.Weight.KIND c.args.fst.now c.states-states.ensures.machine c.args.output.states c.args.output.total c.args.output.overflow c.requires c.in-Some.state c.in-Some.is c.if-output.false

pub into_machine-requires : goal.into_machine-requires
into_machine-requires g c = ends_machine g.W.Weight.value g.W.Weight.KIND c.args.fst.now c.states-states.ensures.machine c.args.output.states c.args.output.total c.args.output.overflow c.requires c.in-None.is c.if-output.false c.start.result c.start.ensures.value

pub returns-in-None-clause-fine : goal.returns-in-None-clause-fine
returns-in-None-clause-fine g c = ends_fine g.W.Weight.value g.W.Weight.KIND c.args.fst.now c.states-states.ensures.machine c.args.output.states c.args.output.total c.args.output.overflow c.requires c.in-None.is c.if-output.false c.start.result c.start.ensures.value c.into_machine.result c.into_machine.ensures

pub returns-in-None-clause-keeps : goal.returns-in-None-clause-keeps
returns-in-None-clause-keeps g c = ends_keeps g.W.Weight.value g.W.Weight.KIND c.args.fst.now c.states-states.ensures.machine c.args.output.states c.args.output.total c.args.output.overflow c.requires c.in-None.is c.if-output.false c.start.result c.start.ensures.value c.into_machine.result c.into_machine.ensures

pub returns-in-None-clause-graph : goal.returns-in-None-clause-graph
returns-in-None-clause-graph g c = ends_graph g.W.Weight.value g.W.Weight.KIND c.args.fst.now c.states-states.ensures.machine c.args.output.states c.args.output.total c.args.output.overflow c.requires c.in-None.is c.if-output.false c.start.result c.start.ensures.value c.into_machine.result c.into_machine.ensures
