use Rattle.std.proofs.Common.{ap, arith, ◌∙◌}
use Rattle.fst_semiring.specs.Cost.{Cost}
use Rattle.fst_select.proofs.StringChains.{count_seen, letter_seen, string_low}
use Rattle.fst_select.proofs.chaining.StringChainsChainSource.arc.Goals as goal

pub item-requires : goal.item-requires
item-requires g c = string_low g.W.Weight.KIND g.W.Weight.wide_value c.self.inside.strings.now c.args.self.now c.args.chain c.self.view_is c.requires.chain

pub item-label-requires : goal.item-label-requires
item-label-requires g c =
    let count = count_seen g.W.Weight.KIND g.W.Weight.wide_value c.self.inside.strings.now c.args.self.now c.args.chain c.item.result.now c.self.view_is c.item.ensures in
    omega (arith, count, c.requires.place)

pub returns : goal.returns
returns g c =
    let label = c.item-label.result.now in
    ap (λ (w : Cost). record { ilabel = label; olabel = label; weight = w }) c.one.ensures
    ∙ letter_seen g.W.Weight.KIND g.W.Weight.wide_value c.self.inside.strings.now c.args.self.now c.args.chain c.args.place label c.item.result.now c.self.view_is c.item.ensures c.item-label.ensures
