use Rattle.std.proofs.Common.{ap, ◌∙◌}
use Rattle.fst_nbest.specs.Chains.{Chain}
use Rattle.fst_select.proofs.StringChains.{chain_seen, string_fits, string_low}
use Rattle.fst_select.proofs.chaining.StringChainsChainSource.last.Goals as goal

pub item-requires : goal.item-requires
item-requires g c = string_low g.W.Weight.KIND g.W.Weight.wide_value c.self.inside.strings.now c.args.self.now c.args.chain c.self.view_is c.requires

pub returns : goal.returns
returns g c =
    c.in-Some.ensures.found
    ∙ ap (λ (d : Chain). d.last) (chain_seen g.W.Weight.KIND g.W.Weight.wide_value c.self.inside.strings.now c.args.self.now c.args.chain c.item.result.now c.self.view_is c.item.ensures)

pub unreachable-requires : goal.unreachable-requires
unreachable-requires g c =
    let none = rw c.in_default.is at c.narrow.ensures.none in
    none (string_fits g.W.Weight.wide_value c.self.inside.strings.now c.args.chain c.item.result.now c.item.ensures c.self.invariant.1)
