use Rattle.std.proofs.Common.{refl}
use Rattle.fst_binary.specs.Reading.{header_at}
use Rattle.fst_binary.proofs.header.read_header.Goals as goal

pub returns-clause-value : goal.returns-clause-value
unfolding header_at
returns-clause-value c = rw (← c.in_ok-flags.ensures.value, ← c.in_ok-start_offset.ensures.value, ← c.in_ok-start.ensures.value, ← c.in_ok-states.ensures.value, ← c.is_start_of.ensures.value, c.if-not-is_start_of.false, ← c.in_ok-arcs.ensures.value) refl
