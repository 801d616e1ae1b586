use Rattle.std.proofs.Common.{true≢false, refl, sym, ◌∙◌, arith}
use Rattle.fst_select.proofs.PrefixBounds.{prefix_kind, prefix_members, prefix_range}
use Rattle.fst_select.proofs.parting.open_part.Goals.{Start}
use Rattle.fst_select.proofs.parting.open_part.Goals as goal

pub total-total-requires-clause-members : goal.total-total-requires-clause-members
total-total-requires-clause-members g c =
    let w = g.W.Weight in
    let r = c.requires.subset in
    prefix_members w.KIND w.value c.args.outlook.now.machine c.requires.weighed r.0 (w.wide_value c.args.by) c.args.subset.now r.2 (omega (arith, r.1, c.requires.depth))

pub total-total-requires-clause-range : goal.total-total-requires-clause-range
total-total-requires-clause-range g c =
    let w = g.W.Weight in
    let r = c.requires.subset in
    prefix_range w.KIND w.value c.args.outlook.now.machine c.requires.weighed r.0 (w.wide_value c.args.by) c.args.subset.now r.2 (omega (arith, r.1, c.requires.depth))

pub total-total-requires-clause-kind : goal.total-total-requires-clause-kind
total-total-requires-clause-kind g c =
    let w = g.W.Weight in
    let r = c.requires.subset in
    prefix_kind w.KIND w.value c.args.outlook.now.machine c.requires.weighed r.0 (w.wide_value c.args.by) c.args.subset.now r.2

pub known_length-long-requires-clause-members : goal.known_length-long-requires-clause-members
known_length-long-requires-clause-members g c = total-total-requires-clause-members g (goal.at.known_length-long-requires-clause-members g c).Start

pub known_length-long-requires-clause-range : goal.known_length-long-requires-clause-range
known_length-long-requires-clause-range g c = total-total-requires-clause-range g (goal.at.known_length-long-requires-clause-range g c).Start

pub known_length-long-requires-clause-kind : goal.known_length-long-requires-clause-kind
known_length-long-requires-clause-kind g c = total-total-requires-clause-kind g (goal.at.known_length-long-requires-clause-kind g c).Start

pub known_length-long-requires-clause-subset : goal.known_length-long-requires-clause-subset
known_length-long-requires-clause-subset g c = (c.requires.subset.0, c.requires.subset.2)

pub known_length-long-requires-clause-solid : goal.known_length-long-requires-clause-solid
known_length-long-requires-clause-solid g c = λ none. true≢false (sym (c.is_zero_wide.ensures.zero.1 none) ∙ c.if-is_zero_wide.false)

pub returns-clause-some : goal.returns-clause-some
returns-clause-some g c = record {
  closed = refl;
  same_owner = refl;
  same_depth = refl;
  total = c.total-total.ensures;
  solid = λ none. true≢false (sym (c.is_zero_wide.ensures.zero.1 none) ∙ c.if-is_zero_wide.false);
  long = c.known_length-long.ensures;
}
