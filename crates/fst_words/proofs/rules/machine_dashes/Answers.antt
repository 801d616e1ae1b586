use Rattle.std.proofs.Common.{◌∙◌, ◌*◌, [], arith, sym, ap, true, false}
use Rattle.std.proofs.lemmas.Option.{get_or_from_slice_get}
use Rattle.fst_words.specs.Plans.{is_dash}
use Rattle.fst_words.proofs.Pairs.{machine_at, pairs_end}
use Rattle.fst_words.proofs.rules.machine_dashes.Goals as goal
use Rattle.fst_words.proofs.rules.machine_dashes.Goals.{then-is_dash, else-is_dash}

pub loop-pair-preserved : goal.loop-pair-preserved
loop-pair-preserved c =
    let names = c.args.names.now in
    let pair = c.loop-pair.pair in
    let here = get_or_from_slice_get names (2 * pair) c.item.result.now [] c.item.ensures in
    let test = ap is_dash here ∙ sym c.is_dash.ensures in
    elim c.if-is_dash.branch [
      | then-is_dash w ↦
          let more = machine_at is_dash names pair true (omega arith) (test ∙ w.if-is_dash.true) in
          (omega arith, omega arith)
      | else-is_dash w ↦
          let more = machine_at is_dash names pair false (omega arith) (test ∙ w.if-is_dash.false) in
          (omega arith, omega arith)
    ]

pub returns-clause-value : goal.returns-clause-value
returns-clause-value c =
    let none = (pairs_end c.args.names.now c.loop-pair.pair (omega arith)).0 in
    let counted = rw none at c.loop-pair.invariant.0 in
    omega arith
