use Rattle.std.proofs.Common.{◌≡◌, false, map, take}
use Rattle.std.specs.List.{list_any}
use Rattle.fst_epsilon.specs.Merging.{key_of, same_key}
use Rattle.fst_epsilon.proofs.few.place_of.Given as goal

abbrev pub invariant-loop-place : goal.invariant-loop-place
invariant-loop-place g l = list_any (same_key l.key) (take l.place (map key_of l.arcs)) ≡ false
