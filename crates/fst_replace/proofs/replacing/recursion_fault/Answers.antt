use Rattle.std.proofs.Common.{List, ℕ, slice_get, ap, ◌∙◌, subst}
use Rattle.std.specs.Prelude.{MatchOption}
use Rattle.fst_replace.specs.Calls.{HasNoRecursion, IsFirstRecursive}
use Rattle.fst_replace.specs.Walks.{at_place}
use Rattle.fst_replace.proofs.Answering.{none_is}
use Rattle.fst_replace.proofs.Totalling.{calls_kept_all}
use Rattle.fst_replace.proofs.Valuing.{labels_valued}
use Rattle.fst_replace.proofs.replacing.recursion_fault.Goals as goal

pub returns : goal.returns
returns g c =
    let value = g.W.Weight.value in
    let rules = c.args.rules.now in
    let calls = c.args.calls.now in
    let found : IsFirstRecursive (at_place calls) c.in-Some.rule = subst (λ o. MatchOption o (HasNoRecursion (at_place calls)) (λ i. IsFirstRecursive (at_place calls) i)) c.in-Some.is c.in_ok-rule.ensures.first in
    (c.in-Some.rule, ap (λ (ls : List ℕ). slice_get ls c.in-Some.rule) (labels_valued value rules) ∙ c.label.ensures, subst (λ f. IsFirstRecursive f c.in-Some.rule) (calls_kept_all value rules calls c.requires.calls) found)

pub unreachable-requires : goal.unreachable-requires
unreachable-requires g c =
    let calls = c.args.calls.now in
    let free = none_is (HasNoRecursion (at_place calls)) (λ i. IsFirstRecursive (at_place calls) i) c.in_ok-rule.field-0 c.in-None.is c.in_ok-rule.ensures.first in
    free c.requires.recursive.0 c.requires.recursive.1
