use Rattle.std.proofs.Common.{◌≡◌, ◌∙◌, ◌++◌, ◌∷◌, [], ℕ, List, get_or, length, sym, take, subst, arith}
use Rattle.std.proofs.lemmas.List.{take_more}
use Rattle.fst_minimize.specs.Along.{IsAlong, Renumbers}
use Rattle.fst_minimize.proofs.OnePass.{both_some, renumbered_tells, whole_tells}
use Rattle.fst_minimize.proofs.along.refine_along.Goals as goal

pub loop-state-init : goal.loop-state-init
loop-state-init c = record {
  size = c.in_ok-pass.ensures.size ∙ c.len.ensures;
  sizes = c.in_ok-pass.ensures.sizes ∙ c.len.ensures;
  along = c.in_ok-pass.ensures.along c.args.first.now.numbers.items c.args.rows.now (sym c.len.ensures);
}

pub loop-state-preserved : goal.loop-state-preserved
loop-state-preserved c =
    let first = c.args.first.now.numbers.items in
    let rows = c.args.rows.now in
    let items = c.as_slice-state-items.result.now in
    let i = c.loop-state.state-index in
    let same : c.deref.result.now ≡ first = c.deref.ensures.value in
    let before = subst (λ (f : List ℕ). IsAlong f rows (take i items) c.loop-state.pass) (sym same) c.loop-state.invariant.along in
    let after = subst (λ (f : List ℕ). IsAlong f rows (take i items ++ get_or items i 0 ∷ []) c.put.new.self) same (c.in_ok-put.ensures.along c.if-not-branch.false (take i items) before) in
    record {
      size = c.in_ok-put.ensures.size;
      sizes = c.in_ok-put.ensures.sizes;
      along = subst (λ (o : List ℕ). IsAlong first rows o c.put.new.self) (sym (take_more items i 0 (omega arith))) after;
    }

pub returns-clause-behaviour : goal.returns-clause-behaviour
returns-clause-behaviour c =
    let first = c.args.first.now.numbers.items in
    let rows = c.args.rows.now in
    let numbers = c.loop-state.pass.numbers.items in
    let order = take c.loop-state.state-index c.as_slice-state-items.result.now in
    both_some c.finish.result _ _ _
    (λ n whole again g are r.
    renumbered_tells g (length rows) numbers n.numbers.items (subst (λ (k : ℕ). Renumbers k numbers n.numbers.items) c.loop-state.invariant.size again)
    (whole_tells g first rows order numbers are c.requires.below (whole first rows order c.loop-state.invariant.along) r))
    c.finish.ensures.whole c.finish.ensures.renumbers

pub returns-clause-size : goal.returns-clause-size
returns-clause-size c =
    both_some c.finish.result _ _ _ (λ n again more. again.size ∙ c.loop-state.invariant.size) c.finish.ensures.renumbers c.finish.ensures.numbering
