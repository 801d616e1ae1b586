use Rattle.std.proofs.Common.{None, length, sym, subst}
use Rattle.fst_machine.specs.Machine.{Machine}
use Rattle.fst_trim.specs.FirstArcs.{HasTwoLabels, IsFirstArc}
use Rattle.fst_codex.specs.Decoded.{IsOutside}
use Rattle.fst_codex.proofs.decoding.into_decoded.Goals as goal

pub decode_given-requires-clause-two : goal.decode_given-requires-clause-two
decode_given-requires-clause-two g c = subst (λ (m : Machine g.row.W.Denot). IsFirstArc HasTwoLabels m None) (sym c.in-Ok.ensures.machine) c.in_default.ensures.fault.0

pub decode_given-requires-clause-inside : goal.decode_given-requires-clause-inside
decode_given-requires-clause-inside g c = subst (λ (m : Machine g.row.W.Denot). IsFirstArc (IsOutside (length c.args.codex.now.entries)) m None) (sym c.in-Ok.ensures.machine) c.in_default.ensures.fault.1
