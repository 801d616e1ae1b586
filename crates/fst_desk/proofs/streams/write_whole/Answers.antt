use Rattle.std.proofs.Common.{arith, subst, sym}
use Rattle.std.proofs.Math.Seq.{take-add}
use Rattle.std.proofs.lemmas.Grind.{common_steps}
use Rattle.std.proofs.lemmas.List.{take_rest}
use Rattle.std.proofs.KnownBytes.{Appends-trans}
use Rattle.std.specs.Io.KnownBytes.{Appends}
use Rattle.fst_desk.proofs.streams.write_whole.Goals as goal

-- what this write took follows what the writes before it took
pub loop-at-preserved : goal.loop-at-preserved
loop-at-preserved g c =
    let bytes = c.args.bytes.now in
    let at = c.loop-at.at in
    let count = c.in_ok-count.count in
    let this = rw (take_rest bytes at) at c.in_ok-count.ensures.bytes in
    (grind (arith, common_steps), subst (Appends _ _) (sym (take-add at count bytes)) (Appends-trans _ _ _ _ _ c.loop-at.invariant.1 this))
