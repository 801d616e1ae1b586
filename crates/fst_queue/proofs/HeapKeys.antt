-- The order of a heap by key.
use Rattle.std.proofs.Common.{◌≡◌, ◌≢◌, ℕ, true, false, List, get_or, ap}
use Rattle.std.specs.Cmp.{IsTotalOrder}
use Rattle.std.specs.Ordering.{is_lt}
use Rattle.std.proofs.lemmas.Cmp.{then_total, on_total, nat_cmp_total, int_cmp_total}
use Rattle.fst_semiring.specs.declared.key.Key.{Key}
use Rattle.fst_semiring.specs.Keys.{key_cmp}
use Rattle.fst_queue.specs.Heap.{key_at, key_in, NoWorse}
use Rattle.fst_queue.proofs.HeapOrder.{Exchanged, NotAfter-trans, before_NotAfter, not_after_along, not_before_NotAfter}

pub key_total : IsTotalOrder key_cmp
key_total = then_total (on_total (λ (k : Key). k.class) nat_cmp_total) (then_total (on_total (λ (k : Key). k.first) int_cmp_total) (on_total (λ (k : Key). k.second) int_cmp_total))

pub NoWorse-trans : (a b c : Key) → NoWorse a b → NoWorse b c → NoWorse a c
NoWorse-trans = NotAfter-trans key_cmp key_total

pub better_NoWorse : (a b : Key) → true ≡ is_lt (key_cmp a b) → NoWorse a b
better_NoWorse = before_NotAfter key_cmp key_total

pub not_better_NoWorse : (a b : Key) → false ≡ is_lt (key_cmp a b) → NoWorse b a
not_better_NoWorse = not_before_NotAfter key_cmp key_total

-- along equations of both keys
pub along : (a b c d : Key) → a ≡ c → b ≡ d → NoWorse c d → NoWorse a b
along = not_after_along key_cmp key_total

-- the keys go with the states
pub keys_exchanged : (keys : List Key) (heap new : List ℕ) (a b : ℕ) → get_or new a 0 ≡ get_or heap b 0 → get_or new b 0 ≡ get_or heap a 0 → ((i : ℕ) → i ≢ a → i ≢ b → get_or new i 0 ≡ get_or heap i 0) → Exchanged (key_in keys heap) (key_in keys new) a b
keys_exchanged keys heap new a b at_a at_b others = record { above = ap (key_at keys) at_a; below = ap (key_at keys) at_b; others = λ i na nb. ap (key_at keys) (others i na nb) }
