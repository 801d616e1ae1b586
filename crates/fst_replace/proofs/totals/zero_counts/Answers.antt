use Rattle.std.proofs.Common.{ℕ, ◌<◌, ◌++◌, ◌∷◌, [], length, sym, ap, ◌∙◌, arith}
use Rattle.std.proofs.lemmas.List.{map_more}
use Rattle.fst_machine.specs.Machine.{no_states}
use Rattle.fst_replace.specs.Rules.{Labelled}
use Rattle.fst_replace.proofs.totals.zero_counts.Goals as goal

pub loop-place-preserved : goal.loop-place-preserved
loop-place-preserved g c =
    let rules = c.args.rules.now in
    let low : c.loop-place.place < length rules = omega (arith, c.count-count.ensures.value) in
    let none : Labelled g.row.W.Denot → ℕ = λ r. 0 in
    c.in_ok-push.ensures.items ∙ (ap (λ zs. zs ++ 0 ∷ []) c.loop-place.invariant ∙ sym (map_more none rules c.loop-place.place (record { label = 0; machine = no_states }) low))
