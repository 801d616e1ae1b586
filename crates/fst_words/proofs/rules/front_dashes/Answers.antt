use Rattle.std.proofs.Common.{◌≡◌, ◌∙◌, [], arith, sym, ap}
use Rattle.std.proofs.lemmas.List.Sums.{count_by_more_no, count_by_more_yes}
use Rattle.std.proofs.lemmas.Option.{get_or_from_slice_get}
use Rattle.fst_words.specs.Plans.{is_dash}
use Rattle.fst_words.proofs.rules.front_dashes.Goals as goal
use Rattle.fst_words.proofs.rules.front_dashes.Goals.{then-is_dash, else-is_dash}

pub loop-place-preserved : goal.loop-place-preserved
loop-place-preserved c =
    let names = c.args.names.now in
    let place = c.loop-place.place in
    let here = get_or_from_slice_get names place c.item.result.now [] c.item.ensures in
    let test : is_dash c.item.result.now ≡ c.is_dash.result = sym c.is_dash.ensures in
    elim c.if-is_dash.branch [
      | then-is_dash w ↦
          let more = count_by_more_yes is_dash names place [] (omega arith) (ap is_dash here ∙ (test ∙ w.if-is_dash.true)) in
          (omega arith, omega arith)
      | else-is_dash w ↦
          let more = count_by_more_no is_dash names place [] (omega arith) (ap is_dash here ∙ (test ∙ w.if-is_dash.false)) in
          (omega arith, omega arith)
    ]
