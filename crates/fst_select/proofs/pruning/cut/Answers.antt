use Rattle.std.proofs.Common.{◌≡◌, Result, Ok, Err, ap₂, ◌∙◌, subst}
use Rattle.std.specs.Prelude.{IfOk}
use Rattle.fst_semiring.specs.Cost.{Cost, infinite}
use Rattle.fst_machine.specs.Connected.{IsConnected}
use Rattle.fst_machine.specs.Machine.{Machine, valued}
use Rattle.fst_distance.specs.Values.{value_in}
use Rattle.fst_select.specs.Thinned.{thinned}
use Rattle.fst_select.proofs.ThinnedMachine.{thin}
use Rattle.fst_select.proofs.ThinnedPaths.{thinned_pruned}
use Rattle.fst_select.proofs.pruning.cut.Goals as goal

-- what follows of what was made
if_ok : {T E : Type 0} (r : Result T E) (P Q : T → Type 0) → ((x : T) → P x → Q x) → IfOk r P → IfOk r Q
if_ok (Ok x) P Q more h = more x h
if_ok (Err e) P Q more h = tt

pub returns : goal.returns
returns g c =
    let w = g.W.Weight in
    let m = valued w.value c.args.fst.now in
    let s = value_in w.wide_value c.args.survey.from_start.items in
    let d = value_in w.wide_value c.args.survey.to_finals.items in
    let left : valued w.value c.in_ok-left.left ≡ thin w.KIND (w.wide_value c.args.survey.bound) s d m = c.in_ok-left.ensures
    ∙ ap₂ (λ xs ys. thinned (λ v. v) w.KIND (w.wide_value c.args.survey.bound) infinite (value_in w.wide_value xs) (value_in w.wide_value ys) m) c.deref.ensures.value c.deref-2.ensures.value in
    if_ok c.into_connected.result (λ n. IsConnected (valued w.value c.in_ok-left.left) (valued w.value n)) _
    (λ n h. thinned_pruned w.KIND (w.value c.args.threshold) m (valued w.value n) s d c.requires.survey (w.wide_value c.args.survey.bound) c.requires.bound (subst (λ (k : Machine Cost). IsConnected k (valued w.value n)) left h)) c.into_connected.ensures.machine
