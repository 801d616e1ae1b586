use Rattle.std.proofs.Common.{◌+◌, ◌≤◌, ◌∷◌, ℕ, List, Option, length, map, drop, sym, subst, arith}
use Rattle.std.proofs.lemmas.List.{drop_all, length-map}
use Rattle.fst_nbest.specs.Words.{WeightedWord}
use Rattle.fst_select.specs.StringChains.{lesser}
use Rattle.fst_select.specs.Strings.{weighted}
use Rattle.fst_select.proofs.StringChains.{IsLeastBefore, labels_drop, least_begins, least_ends, least_next, string_drop}
use Rattle.fst_select.proofs.chaining.least_end_out.Goals as goal

pub loop-i-init : goal.loop-i-init
loop-i-init g c = record { counted = omega arith; least = least_begins (map (weighted g.W.Weight.wide_value) c.args.strings.now) }

pub end_out-requires : goal.end_out-requires
end_out-requires g c =
    let more = labels_drop g.W.Weight.wide_value c.args.strings.now c.loop-i.i c.item-string.result.now c.item-string.ensures in
    omega (arith, more)

pub overflow_cast-labels : goal.overflow_cast-labels
overflow_cast-labels g c =
    let more = labels_drop g.W.Weight.wide_value c.args.strings.now c.loop-i.i c.item-string.result.now c.item-string.ensures in
    omega (arith, more)

pub overflow_add-labels : goal.overflow_add-labels
overflow_add-labels g c =
    let more = labels_drop g.W.Weight.wide_value c.args.strings.now c.loop-i.i c.item-string.result.now c.item-string.ensures in
    omega (arith, more)

pub loop-i-preserved : goal.loop-i-preserved
loop-i-preserved g c =
    let value = g.W.Weight.wide_value in
    let strings = map (weighted value) c.args.strings.now in
    let a = weighted value c.item-string.result.now in
    let rest = drop (c.loop-i.i + 1) strings in
    let more = labels_drop value c.args.strings.now c.loop-i.i c.item-string.result.now c.item-string.ensures in
    let begins = string_drop value c.args.strings.now c.loop-i.i c.item-string.result.now c.item-string.ensures in
    let here : IsLeastBefore strings (a ∷ rest) c.loop-i.labels c.loop-i.least =
    subst (λ (ws : List WeightedWord). IsLeastBefore strings ws c.loop-i.labels c.loop-i.least) begins c.loop-i.invariant.least in
    let next : IsLeastBefore strings rest (c.loop-i.labels + length a.word) (lesser c.loop-i.least c.end_out.result) =
    least_next strings rest a c.loop-i.labels c.loop-i.least c.end_out.result here c.end_out.ensures.out c.end_out.ensures.fits in
    record {
      counted = omega (arith, more, c.len.ensures);
      least =
          subst (λ (n : ℕ). IsLeastBefore strings rest (c.loop-i.labels + n) c.lesser-least.result) (sym c.len.ensures)
          (subst (λ (o : Option ℕ). IsLeastBefore strings rest (c.loop-i.labels + length a.word) o) (sym c.lesser-least.ensures) next);
    }

pub returns : goal.returns
returns g c =
    let strings = map (weighted g.W.Weight.wide_value) c.args.strings.now in
    let done : length strings ≤ c.loop-i.i = omega (arith, length-map c.args.strings.now (weighted g.W.Weight.wide_value)) in
    least_ends strings c.loop-i.labels c.loop-i.least
    (subst (λ (ws : List WeightedWord). IsLeastBefore strings ws c.loop-i.labels c.loop-i.least) (drop_all c.loop-i.i strings done) c.loop-i.invariant.least)
