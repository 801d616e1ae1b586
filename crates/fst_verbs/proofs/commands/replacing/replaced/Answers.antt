use Rattle.std.proofs.Common.{sym}
use Rattle.std.specs.Result.{result_map_both}
use Rattle.fst_words.specs.Plans.{rule_labels}
use Rattle.fst_verbs.specs.Seeing.{made_seen}
use Rattle.fst_verbs.proofs.Replaced.{settles_replaced}
use Rattle.fst_verbs.proofs.commands.replacing.replaced.Goals as goal

pub returns : goal.returns
returns g c =
    let kind = g.W.Weight.KIND in
    let value = g.W.Weight.value in
    settles_replaced (rule_labels c.args.plan.now) kind value c.args.given c.as_slice.result.now (result_map_both (made_seen kind value) (λ e. e) c.expanded.result) (sym c.as_slice.ensures.value) c.expanded.ensures
