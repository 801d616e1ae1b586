use Rattle.std.proofs.Common.{sym, ap₂, ◌∙◌}
use Rattle.std.specs.Cmp.Derive.Mapped.{pointwise-map}
use Rattle.fst_determinize.specs.Kept.{member_as, same_member, same_members}
use Rattle.fst_determinize.proofs.subset.SubsetOfPartialEq.eq.Goals as goal

pub returns : goal.returns
returns g c =
    c.eq.ensures ∙ (sym (pointwise-map (member_as g.R.Kept.value) same_member c.members.result.now c.members-2.result.now) ∙ ap₂ same_members c.members.ensures c.members-2.ensures)
