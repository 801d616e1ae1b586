use Rattle.std.proofs.Common.{◌<◌, ℕ, List, get_or, take, length, sym, ◌∙◌, subst, arith}
use Rattle.std.proofs.lemmas.List.{take_more}
use Rattle.fst_nbest.specs.Counts.{MeetsAll}
use Rattle.fst_nbest.proofs.Counted.{meets_then}
use Rattle.fst_nbest.proofs.counting.meet_all.Goals as goal

pub loop-name-preserved : goal.loop-name-preserved
loop-name-preserved c =
    let i = c.loop-name.name-index in
    let sources = c.args.sources.now in
    let low : i < length sources = omega arith in
    record {
      met = subst (λ (xs : List ℕ). MeetsAll c.args.count c.args.counts.now.items c.args.names.now.items xs c.meet.new.counts.items c.meet.new.names.items) (sym (take_more sources i 0 low))
          (meets_then c.args.count (take i sources) (get_or sources i 0) c.args.counts.now.items c.args.names.now.items c.loop-name.counts.items c.loop-name.names.items c.meet.new.counts.items c.meet.new.names.items c.loop-name.invariant.met c.in_ok-meet.ensures.met);
      size = c.in_ok-meet.ensures.size ∙ c.loop-name.invariant.size;
    }
