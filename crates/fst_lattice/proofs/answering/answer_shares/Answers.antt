use Rattle.std.proofs.Common.{◌<◌, length, get_or, ◌∙◌, arith}
use Rattle.std.proofs.lemmas.Option.{get_or_from_slice_get, slice_get-get_or, slice_get_within}
use Rattle.fst_lattice.specs.Runs.{IsAnswerAt}
use Rattle.fst_lattice.proofs.Shares.{share_says}
use Rattle.fst_lattice.proofs.answering.answer_shares.Goals as goal

pub returns : goal.returns
returns g c =
    let h = c.for_each_mut.ensures in
    let R = IsAnswerAt (g.A.Answering.answers c.args.reader.now.answering.now c.args.reader.now.delayed.now) c.args.reader.now.lines.now in
    record {
      size = c.for_each_mut.auto.s;
      each = λ k w at.
          let low : k < length c.args.shares.now = omega (arith, slice_get_within c.for_each_mut.new.s k w at, c.for_each_mut.auto.s) in
          let call = (h k w low).1 in (
            get_or c.args.shares.now k w,
            slice_get-get_or c.args.shares.now k w low,
            share_says _ (get_or c.args.shares.now k w) _ w call.argument_is (call.left ∙ get_or_from_slice_get c.for_each_mut.new.s k w w at) R (λ s. s.jobs.now) (λ s. s.answers) call.call,
          );
    }
