use Rattle.std.proofs.Common.{◌≡◌, ◌⊎◌, inl, inr, ℕ, ◌<◌, ◌≤◌, true, false, sym, ◌∙◌, subst, arith}
use Rattle.std.proofs.lemmas.Bool.{cases_lt}
use Rattle.fst_replace.specs.Calls.{IsRecursive}
use Rattle.fst_replace.specs.Walks.{at_place}
use Rattle.fst_replace.proofs.Marking.{recursive_within}
use Rattle.fst_replace.proofs.recursion.first_recursive.Goals as goal

pub loop-rule-preserved : goal.loop-rule-preserved
loop-rule-preserved c j low h = by_order (cases_lt j c.loop-rule.rule)
  where
    by_order : (j < c.loop-rule.rule) ⊎ (c.loop-rule.rule ≤ j) → ⊥
    by_order (inl old) = c.loop-rule.invariant j old h
    by_order (inr new) =
        let same : j ≡ c.loop-rule.rule = omega arith in
        let found : c.in_ok-is_recursive.field-0 ≡ true = c.in_ok-is_recursive.ensures.1 (subst (λ (i : ℕ). IsRecursive (at_place c.args.calls.now) i) same h) in
        absurd (let wrong : false ≡ true = sym c.if-branch.false ∙ found in cc)

pub returns-clause-first : goal.returns-clause-first
returns-clause-first c i h = c.loop-rule.invariant i (let low = recursive_within c.args.calls.now i h.1 in omega (arith, low)) h
