use Rattle.std.proofs.Common.{◌≡◌, None, drop}
use Rattle.std.specs.Option.{option_copied}
use Rattle.std.specs.Str.{bytes_eq}
use Rattle.fst_desk.specs.Kept.{last_of}
use Rattle.fst_desk.proofs.writes.last_written.Given as goal

-- what is found so far and the rest of the writes give what all writes give
abbrev pub invariant-loop-write : goal.invariant-loop-write
invariant-loop-write l =
    last_of bytes_eq (option_copied l.found) (drop l.write-index l.writes) l.name ≡ last_of bytes_eq None l.writes l.name
