use Rattle.fst_machine.specs.Machine.{valued}
use Rattle.fst_binary.proofs.Encoded.{is_again_tabled, is_named}
use Rattle.fst_binary.proofs.encoding.encode_tabled_joined.Goals as goal

pub returns-clause-again : goal.returns-clause-again
returns-clause-again g c = is_again_tabled g.W.Weight.KIND (valued g.W.Weight.value c.args.joined) c.args.tables.now (λ bytes. bytes.items) c.write_joined.result c.write_joined.ensures.fits c.write_joined.ensures.sides c.write_joined.ensures.spelled

pub returns-clause-named : goal.returns-clause-named
returns-clause-named g c = is_named g.W.Weight.KIND (valued g.W.Weight.value c.args.joined) c.args.tables.now (λ bytes. bytes.items) c.write_joined.result c.write_joined.ensures.spelled
