use Rattle.std.proofs.Common.{◌≡◌, ◌++◌, ◌∷◌, [], All, List, Some, length, map, slice_get, take, refl, sym, ap, ◌∙◌, subst, arith}
use Rattle.std.proofs.lemmas.List.{map-append}
use Rattle.std.proofs.lemmas.List.Elements.{All-append, All-cons, All-nil}
use Rattle.std.proofs.lemmas.Option.{slice_get_read}
use Rattle.fst_semiring.specs.Cost.{Cost}
use Rattle.fst_semiring.specs.Semiring.{InRange, IsWide}
use Rattle.fst_semiring.proofs.Ranges.{Within-more}
use Rattle.fst_machine.proofs.Narrowing.{taken}
use Rattle.fst_search.specs.Closure.{Reached, valued_reached}
use Rattle.fst_epsilon.proofs.gathering.widened.Goals as goal

pub loop-item-preserved : goal.loop-item-preserved
loop-item-preserved g c =
    let value = g.W.Weight.value in
    let wide = g.W.Weight.wide_value in
    let closure = c.args.closure.now in
    let i = c.loop-item.item-index in
    let b : Reached g.row.W.Denot = record { state = c.item.inside.state; distance = c.item.inside.distance } in
    let w : Reached g.row.W-Wide.Denot = record { state = c.item.inside.state; distance = c.widen.result } in
    let there : slice_get closure i ≡ Some b = slice_get_read closure (length closure) i c.item-item.result refl c.loop-item-test.true c.item-item.is ∙ ap Some (sym c.item.view_is) in
    let same : valued_reached wide w ≡ valued_reached value b = λ j. record { state = c.item.inside.state; distance = c.widen.ensures.same j } in
    let own : IsWide (wide w.distance) = Within-more 1000000000000000000 1329227995784915872903807060280344575 (wide w.distance) (omega arith) (subst InRange (sym c.widen.ensures.same) c.widen.ensures.range) in
    let pushed : c.push.new.self.items ≡ c.loop-item.wide.items ++ w ∷ [] = c.in_ok-push.ensures.items in
    record {
      same = ap (map (valued_reached wide)) pushed
          ∙ (map-append (valued_reached wide) c.loop-item.wide.items (w ∷ [])
          ∙ (ap (λ (zs : List (Reached Cost)). zs ++ valued_reached wide w ∷ []) c.loop-item.invariant.same
          ∙ (ap (λ (z : Reached Cost). take i (map (valued_reached value) closure) ++ z ∷ []) same
          ∙ sym (taken (valued_reached value) closure i b there))));
      range = subst (All (λ (r : Reached g.row.W-Wide.Denot). IsWide (wide r.distance))) (sym pushed)
          (All-append (λ (r : Reached g.row.W-Wide.Denot). IsWide (wide r.distance)) c.loop-item.wide.items (w ∷ []) c.loop-item.invariant.range
          (All-cons (λ (r : Reached g.row.W-Wide.Denot). IsWide (wide r.distance)) w [] own (All-nil (λ (r : Reached g.row.W-Wide.Denot). IsWide (wide r.distance)))));
    }
