use Rattle.std.proofs.Common.{ℕ, None, Some, length, ap, subst}
use Rattle.fst_trim.specs.FirstArcs.{IsFirstArc}
use Rattle.fst_codex.specs.Decoded.{IsOutside}
use Rattle.fst_codex.proofs.TurnedBack.{outside_valued}
use Rattle.fst_codex.proofs.decoding.label_fault.Goals as goal

pub returns-in-Some-outside_at-clause-fault : goal.returns-in-Some-outside_at-clause-fault
returns-in-Some-outside_at-clause-fault g c =
    ((λ e. absurd (cc)), (c.in_default.ensures, c.in-Some-outside_at.step, outside_valued g.W.Weight.value c.args.codex.now.entries c.entries.result.now c.args.fst.now (Some c.in-Some-outside_at.step) c.entries.ensures.value c.in-Some-outside_at.ensures, c.label_at-label.ensures))

pub returns-clause-fault : goal.returns-clause-fault
returns-clause-fault g c = (c.in_default.ensures, subst (λ (n : ℕ). IsFirstArc (IsOutside n) c.args.fst.now None) (ap length c.entries.ensures.value) c.in_default-outside_at.ensures)
