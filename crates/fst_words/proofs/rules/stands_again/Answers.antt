use Rattle.std.proofs.Common.{◌≡◌, ◌∙◌, [], List, ℕ, arith, sym, ap, true, false}
use Rattle.std.proofs.Math.ListN.{drop_of_length-le}
use Rattle.std.specs.List.{list_any}
use Rattle.std.specs.Str.{bytes_eq}
use Rattle.std.proofs.lemmas.Option.{get_or_from_slice_get}
use Rattle.fst_words.proofs.Loops.{any_at}
use Rattle.fst_words.proofs.rules.stands_again.Goals as goal

pub returns-then-eq : goal.returns-then-eq
returns-then-eq c =
    let names = c.args.names.now in
    let here = get_or_from_slice_get names c.args.place c.item-name.result.now [] c.item-name.ensures in
    let same : bytes_eq c.item.result.now c.item-name.result.now ≡ true = cc in
    let step = any_at (λ (other : List ℕ). bytes_eq other c.item-name.result.now) names c.loop-other.other c.item.result.now true c.item.ensures same in
    rw here (sym (c.loop-other.invariant ∙ step))

pub loop-other-preserved : goal.loop-other-preserved
loop-other-preserved c =
    let names = c.args.names.now in
    let other : bytes_eq c.item.result.now c.item-name.result.now ≡ false = cc in
    c.loop-other.invariant
    ∙ any_at (λ (other : List ℕ). bytes_eq other c.item-name.result.now) names c.loop-other.other c.item.result.now false c.item.ensures other

pub returns : goal.returns
returns c =
    let names = c.args.names.now in
    let here = get_or_from_slice_get names c.args.place c.item-name.result.now [] c.item-name.ensures in
    rw here (sym (c.loop-other.invariant ∙ ap (list_any (λ (other : List ℕ). bytes_eq other c.item-name.result.now)) (drop_of_length-le names (omega arith))))
