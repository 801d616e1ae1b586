use Rattle.std.proofs.Common.{◌+◌, sym, subst, ◌∙◌, arith}
use Rattle.fst_select.specs.Entries.{sibling_cmp, sibling_total}
use Rattle.fst_select.proofs.Leasts.{IsLeastOfFirst, least_first, least_kept, least_new, least_taken}
use Rattle.fst_select.proofs.siblings.take_least.Goals as goal
use Rattle.fst_select.proofs.siblings.take_least.Goals.{then-is_before_at, else-is_before_at}

pub loop-i-preserved : goal.loop-i-preserved
loop-i-preserved g c =
    let wide = g.W.Weight.wide_value in
    let items = c.args.parts.now.items in
    elim c.if-is_before_at.branch [
      | then-is_before_at w ↦ record {
        within = omega (arith, w.least-is);
        first = subst (IsLeastOfFirst (sibling_cmp wide) (sibling_total wide) items (c.loop-i.i + 1)) (sym w.least-is)
            (least_new (sibling_cmp wide) (sibling_total wide) items c.loop-i.i c.loop-i.least (λ d. sym w.if-is_before_at.true ∙ c.is_before_at.ensures d) c.loop-i.invariant.first);
      }
      | else-is_before_at w ↦ record {
        within = omega (arith, w.least-is, c.loop-i.invariant.within);
        first = subst (IsLeastOfFirst (sibling_cmp wide) (sibling_total wide) items (c.loop-i.i + 1)) (sym w.least-is)
            (least_kept (sibling_cmp wide) (sibling_total wide) items c.loop-i.i c.loop-i.least (λ d. sym w.if-is_before_at.false ∙ c.is_before_at.ensures d) c.loop-i.invariant.first);
      }
    ]

pub returns-clause-same : goal.returns-clause-same
returns-clause-same g c =
    let wide = g.W.Weight.wide_value in
    least_taken (sibling_cmp wide) (sibling_total wide) c.args.parts.now.items c.loop-i.least c.swap_remove.result c.swap_remove.new.self.items c.loop-i.invariant.within
    c.swap_remove.ensures.value c.swap_remove.ensures.items

pub returns-clause-least : goal.returns-clause-least
returns-clause-least g c =
    let wide = g.W.Weight.wide_value in
    least_first (sibling_cmp wide) (sibling_total wide) c.args.parts.now.items c.loop-i.least c.loop-i.i c.swap_remove.result c.swap_remove.new.self.items c.loop-i.invariant.within
    c.swap_remove.ensures.value c.swap_remove.ensures.items (omega arith) c.loop-i.invariant.first
