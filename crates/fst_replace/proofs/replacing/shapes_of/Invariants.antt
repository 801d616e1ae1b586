use Rattle.std.proofs.Common.{◌≡◌, ◌<◌, ℕ, None, get_or, length}
use Rattle.fst_replace.specs.Rules.{machine_at}
use Rattle.fst_replace.proofs.replacing.shapes_of.Given as goal

abbrev pub invariant-loop-place : goal.invariant-loop-place
invariant-loop-place g l = record {
  size : length l.shapes.items ≡ l.place;
  shapes : (i : ℕ) → i < l.place → get_or l.shapes.items i (record { start = None; size = 0 }) ≡ record { start = (machine_at l.rules i).start; size = get_or l.sizes i 0 };
}
