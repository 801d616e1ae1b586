-- Counting arcs that pass a test.
use Rattle.std.proofs.Common.{◌≡◌, ℕ, ◌+◌, ◌<◌, ◌≤◌, Bool, cond, List, Some, length, get_or, take, slice_get, sum_by, sym, ap, ◌∙◌, arith}
use Rattle.std.specs.List.{count_by}
use Rattle.std.specs.Option.{option_map}
use Rattle.std.proofs.lemmas.List.{length-take-le}
use Rattle.std.proofs.lemmas.List.Sums.{sum_by_more, sum_by_more_le_part, count_by-le-length}
use Rattle.std.proofs.lemmas.Option.{slice_get_within, get_or_from_slice_get}
use Rattle.fst_machine.specs.Machine.{Arc, State, arc_total}
use Rattle.fst_machine.proofs.Arcs.{mapped_some}

module _ {V : Type 0} (test : Arc V ℕ → Bool) where
  -- one arc more
  pub test_more : (arcs : List (Arc V ℕ)) (i : ℕ) (x : Arc V ℕ) → i < length arcs → x ≡ get_or arcs i x → count_by test (take (i + 1) arcs) ≡ count_by test (take i arcs) + cond (test x) 1 0
  test_more arcs i x low read = sum_by_more (λ (a : Arc V ℕ). cond (test a) 1 0) arcs i x low ∙ ap (λ (a : Arc V ℕ). count_by test (take i arcs) + cond (test a) 1 0) (sym read)

  pub test_few : (arcs : List (Arc V ℕ)) (i : ℕ) → i ≤ length arcs → count_by test (take i arcs) ≤ i
  test_few arcs i low =
      let few = count_by-le-length test (take i arcs) in
      let cut = length-take-le i arcs low in
      omega arith

  -- one state more
  pub state_more : (states : List (State V)) (k : ℕ) (arcs : List (Arc V ℕ)) → option_map (λ s. s.arcs) (slice_get states k) ≡ Some arcs → sum_by (λ s. count_by test s.arcs) (take (k + 1) states) ≡ sum_by (λ s. count_by test s.arcs) (take k states) + count_by test arcs
  state_more states k arcs there =
      let s = mapped_some (λ (s : State V). s.arcs) (slice_get states k) arcs there in
      let at : get_or states k s.0 ≡ s.0 = get_or_from_slice_get states k s.0 s.0 s.1 in
      sum_by_more (λ (t : State V). count_by test t.arcs) states k s.0 (slice_get_within states k s.0 s.1) ∙ ap (λ (n : ℕ). sum_by (λ s. count_by test s.arcs) (take k states) + n) (ap (λ (t : State V). count_by test t.arcs) at ∙ ap (count_by test) s.2)

  -- there are no more than all arcs
  pub state_room : (states : List (State V)) (k n : ℕ) (arcs : List (Arc V ℕ)) → option_map (λ s. s.arcs) (slice_get states k) ≡ Some arcs → arc_total states ≤ n → sum_by (λ s. count_by test s.arcs) (take k states) + length arcs ≤ n
  state_room states k n arcs there few =
      let s = mapped_some (λ (s : State V). s.arcs) (slice_get states k) arcs there in
      let at : get_or states k s.0 ≡ s.0 = get_or_from_slice_get states k s.0 s.0 s.1 in
      let count : length (get_or states k s.0).arcs ≡ length arcs = ap (λ (t : State V). length t.arcs) at ∙ ap length s.2 in
      let sum = sum_by_more_le_part (λ (t : State V). count_by test t.arcs) (λ (t : State V). length t.arcs) states k s.0 (slice_get_within states k s.0 s.1) (λ t. count_by-le-length test t.arcs) in
      omega arith
