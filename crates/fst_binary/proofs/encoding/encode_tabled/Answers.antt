use Rattle.fst_binary.specs.Seeing.{tabled_seen}
use Rattle.fst_binary.proofs.Encoded.{is_again_tabled, is_named}
use Rattle.fst_binary.proofs.encoding.encode_tabled.Goals as goal

pub returns-clause-again : goal.returns-clause-again
returns-clause-again g c = is_again_tabled g.W.Weight.KIND (tabled_seen g.W.Weight.value c.args.tabled.now).machine (tabled_seen g.W.Weight.value c.args.tabled.now).sides (λ bytes. bytes.items) c.write_tabled.result c.write_tabled.ensures.fits c.write_tabled.ensures.sides c.write_tabled.ensures.spelled

pub returns-clause-named : goal.returns-clause-named
returns-clause-named g c = is_named g.W.Weight.KIND (tabled_seen g.W.Weight.value c.args.tabled.now).machine (tabled_seen g.W.Weight.value c.args.tabled.now).sides (λ bytes. bytes.items) c.write_tabled.result c.write_tabled.ensures.spelled
