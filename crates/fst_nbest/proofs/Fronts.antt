-- The numbers of the weights with which paths begin.
use Rattle.std.proofs.Common.{◌≡◌, ℕ, ◌+◌, ◌*◌, ◌≤◌, sym, subst, arith}
use Rattle.std.proofs.Math.Nat.{mul-le-mul_right}
use Rattle.fst_semiring.specs.Cost.{Cost}
use Rattle.fst_semiring.specs.declared.arc_type.ArcType.{ArcType}
use Rattle.fst_semiring.specs.Semiring.{times, IsCost, IsWide, Within}
use Rattle.fst_semiring.proofs.Ranges.{Within-more, Within-times}
use Rattle.fst_nbest.specs.Entries.{most_long}
use Rattle.fst_nbest.specs.Ready.{IsBounded, most_weight}

pub front_wide : {D : Type 0} (wide : D → Cost) (kind : ArcType) (t : D) → (depth : ℕ) × IsBounded wide kind depth t × (depth ≤ most_long) → IsWide (wide t)
front_wide wide kind t (depth, bounded, few) =
    let most = mul-le-mul_right most_weight few in
    Within-more (depth * most_weight) 1329227995784915872903807060280344575 (wide t) (omega (arith, most)) bounded.0

pub front_next : {D : Type 0} (wide : D → Cost) (kind : ArcType) (front next : D) (w : Cost) (bound depth : ℕ) → wide next ≡ times kind (wide front) w → IsCost kind (wide next) → bound ≤ most_weight → Within bound w → IsBounded wide kind depth front → IsBounded wide kind (depth + 1) next
front_next wide kind front next w bound depth same is few within bounded = (
  subst (λ (v : Cost). Within ((depth + 1) * most_weight) v) (sym same)
      (Within-more (depth * most_weight + most_weight) ((depth + 1) * most_weight) (times kind (wide front) w) (omega arith)
      (Within-times kind (depth * most_weight) most_weight (wide front) w bounded.0 (Within-more bound most_weight w few within))),
  is,
)
