use Rattle.std.proofs.Common.{◌∙◌}
use Rattle.fst_select.proofs.StringChains.{count_seen, string_low}
use Rattle.fst_select.proofs.chaining.StringChainsChainSource.letter_count.Goals as goal

pub item-requires : goal.item-requires
item-requires g c = string_low g.W.Weight.KIND g.W.Weight.wide_value c.self.inside.strings.now c.args.self.now c.args.chain c.self.view_is c.requires

pub returns : goal.returns
returns g c = c.len.ensures ∙ count_seen g.W.Weight.KIND g.W.Weight.wide_value c.self.inside.strings.now c.args.self.now c.args.chain c.item.result.now c.self.view_is c.item.ensures
