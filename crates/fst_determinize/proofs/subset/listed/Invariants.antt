use Rattle.std.proofs.Common.{◌≡◌, take}
use Rattle.fst_determinize.specs.Listing.{listed_of}
use Rattle.fst_determinize.proofs.subset.listed.Given as goal

abbrev pub invariant-loop-place : goal.invariant-loop-place
invariant-loop-place g l = l.members.items ≡ listed_of (take l.place l.subset)
