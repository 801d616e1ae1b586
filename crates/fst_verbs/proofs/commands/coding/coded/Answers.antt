use Rattle.std.specs.Result.{result_map_both}
use Rattle.fst_verbs.specs.Seeing.{made_seen}
use Rattle.fst_verbs.proofs.Coded.{settles_decoded, settles_encoded}
use Rattle.fst_verbs.proofs.commands.coding.coded.Goals as goal

pub returns-then-not-options : goal.returns-then-not-options
returns-then-not-options g c =
    let kind = g.W.Weight.KIND in
    let value = g.W.Weight.value in
    settles_encoded c.args.options.now kind value c.args.given c.one-machine.result (result_map_both (made_seen kind value) (λ e. e) c.encoded.result) c.if-not-options.true c.one-machine.ensures c.encoded.ensures

pub returns : goal.returns
returns g c =
    let kind = g.W.Weight.KIND in
    let value = g.W.Weight.value in
    settles_decoded c.args.options.now kind value c.args.given c.one-machine.result c.in-Some.codex (result_map_both (made_seen kind value) (λ e. e) c.decoded.result) c.if-not-options.false c.one-machine.ensures c.in-Some.is c.decoded.ensures
