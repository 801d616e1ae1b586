use Rattle.std.proofs.Common.{ℕ, ◌≡◌, ◌<◌, ◌≤◌, ◌&&◌, false, length, get_or}
use Rattle.fst_trim.proofs.useful.keep_both.Given as goal

abbrev pub invariant-loop-place : goal.invariant-loop-place
invariant-loop-place l = record {
  size : length l.marks.items ≡ length l.fn.marks.items;
  done : (p : ℕ) → p < l.place → get_or l.marks.items p false ≡ (get_or l.fn.marks.items p false && get_or l.others p false);
  left : (p : ℕ) → l.place ≤ p → get_or l.marks.items p false ≡ get_or l.fn.marks.items p false;
}
