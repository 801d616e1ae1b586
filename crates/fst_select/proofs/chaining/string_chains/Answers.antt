use Rattle.std.proofs.Common.{map}
use Rattle.fst_machine.specs.Machine.{valued}
use Rattle.fst_select.specs.Strings.{weighted}
use Rattle.fst_select.proofs.StringChains.{have_letters, none_out, relates_listed}
use Rattle.fst_select.proofs.chaining.string_chains.Goals as goal

pub invariant_of-source : goal.invariant_of-source
invariant_of-source g c = (have_letters g.W.Weight.KIND g.W.Weight.wide_value c.args.strings.now c.requires.labels, c.in_default.ensures)

pub returns-in-Ok-clause-relates : goal.returns-in-Ok-clause-relates
returns-in-Ok-clause-relates g c =
    relates_listed g.W.Weight.KIND g.W.Weight.wide_value c.args.strings.now c.requires.labels c.requires.apart (valued g.W.Weight.value c.in-Ok.made) c.in-Ok.ensures.machine

pub returns-in-Ok-clause-fits : goal.returns-in-Ok-clause-fits
returns-in-Ok-clause-fits g c = λ state. none_out (map (weighted g.W.Weight.wide_value) c.args.strings.now) 0 state c.in_default.ensures
