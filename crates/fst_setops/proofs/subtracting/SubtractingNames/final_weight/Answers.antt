use Rattle.std.proofs.Common.{◌≡◌, ℕ, false, cond, sym, ap, ◌∙◌, subst}
use Rattle.fst_semiring.specs.Cost.{infinite}
use Rattle.fst_machine.specs.Graph.{graph_of}
use Rattle.fst_machine.specs.Machine.{valued}
use Rattle.fst_trim.proofs.Weighed.{graph_final}
use Rattle.fst_setops.specs.Difference.{Rest, is_final}
use Rattle.fst_setops.specs.Good.{IsInside, near_inside}
use Rattle.fst_setops.proofs.subtracting.SubtractingNames.final_weight.Goals as goal

pub ends-requires : goal.ends-requires
ends-requires g c =
    let s = c.args.self.now in
    (subst (IsInside s.a.now s.b.now) (sym c.key.view_is) (near_inside g.W.Weight.value s.a.now s.b.now c.requires.holds.0 c.requires.holds.1 c.args.key.now c.requires.near)).1

pub final_weight-requires : goal.final_weight-requires
final_weight-requires g c =
    let s = c.args.self.now in
    (subst (IsInside s.a.now s.b.now) (sym c.key.view_is) (near_inside g.W.Weight.value s.a.now s.b.now c.requires.holds.0 c.requires.holds.1 c.args.key.now c.requires.near)).0

pub returns : goal.returns
returns g c =
    let value = g.W.Weight.value in
    let s = c.args.self.now in
    let last = (graph_of (valued value s.a.now)).final in
    let end = λ (n : Rest ℕ ℕ). is_final (graph_of (valued value s.b.now)) n.second in
    let not : end c.args.key.now ≡ false = sym (ap end c.key.view_is) ∙ (sym c.ends.ensures ∙ c.if-ends.false) in
    let here = graph_final value s.a.now c.key.inside.first c.final_weight.result c.final_weight.ensures in
    c.widen-2.ensures.same ∙ (sym here ∙ (ap (λ (n : Rest ℕ ℕ). last n.first) c.key.view_is ∙ sym (ap (λ t. cond t infinite (last c.args.key.now.first)) not)))
