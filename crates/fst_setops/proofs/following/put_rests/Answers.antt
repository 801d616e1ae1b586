use Rattle.std.proofs.Common.{◌≡◌, ◌++◌, List, ℕ, map, refl, ap, ◌∙◌, subst}
use Rattle.std.specs.Result.{OnOk}
use Rattle.fst_semiring.specs.Cost.{Cost}
use Rattle.fst_machine.specs.Machine.{Arc}
use Rattle.fst_walk.specs.Names.{key_arc}
use Rattle.fst_setops.specs.Difference.{Rest, subtraction}
use Rattle.fst_setops.proofs.Leading.{put_none, put_some}
use Rattle.fst_setops.proofs.following.put_rests.Goals as goal

pub returns-in-Some : goal.returns-in-Some
returns-in-Some g c =
    let value = g.W.Weight.value in
    let wide = map (key_arc {N = Rest ℕ ℕ} g.W.Weight.wide_value) in
    let a = c.args.a.now in
    let b = c.args.b.now in
    let key : Rest ℕ ℕ = record { first = c.key.inside.first; second = c.key.inside.second } in
    let put = put_some value a b key c.arcs-arcs.result.now c.arcs.result.now c.arcs-arcs.ensures c.in-Some.state c.in-Some.is c.arcs.ensures in
    subst (λ (ys : List (Arc Cost (Rest ℕ ℕ))). OnOk c.put_led.result (wide c.put_led.new.out.items ≡ wide c.args.out.now.items ++ ys))
    (put ∙ ap (subtraction value a b).arcs c.key.view_is) c.put_led.ensures

pub returns-in-None : goal.returns-in-None
returns-in-None g c =
    let value = g.W.Weight.value in
    let wide = map (key_arc {N = Rest ℕ ℕ} g.W.Weight.wide_value) in
    let a = c.args.a.now in
    let b = c.args.b.now in
    let key : Rest ℕ ℕ = record { first = c.key.inside.first; second = c.key.inside.second } in
    let put = put_none value a b key c.arcs-arcs.result.now _ c.arcs-arcs.ensures c.in-None.is refl in
    subst (λ (ys : List (Arc Cost (Rest ℕ ℕ))). OnOk c.put_led-in-None.result (wide c.put_led-in-None.new.out.items ≡ wide c.args.out.now.items ++ ys))
    (put ∙ ap (subtraction value a b).arcs c.key.view_is) c.put_led-in-None.ensures
