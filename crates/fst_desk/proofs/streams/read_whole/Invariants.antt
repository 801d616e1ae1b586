use Rattle.std.proofs.Common.{◌≤◌, ◌-◌, ◌+◌, vec_len}
use Rattle.std.specs.Io.KnownBytes.{Consumes}
use Rattle.fst_desk.proofs.streams.read_whole.Given as goal

-- what is read so far is within the limit, and is what the reader lost
abbrev pub invariant-loop-bytes : goal.invariant-loop-bytes
invariant-loop-bytes g l = (vec_len l.bytes ≤ l.limit) × Consumes (g.I.Read.remaining l.initial.input) (g.I.Read.remaining l.input) l.bytes.items

-- each turn that goes on adds a byte
abbrev pub decreases-loop-bytes : goal.decreases-loop-bytes
decreases-loop-bytes g l = l.limit + 1 - vec_len l.bytes
