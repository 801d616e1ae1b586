-- The closure of a state in order: what stands in it, and where.
use Rattle.std.proofs.Common.{◌≡◌, ◌⊎◌, inl, inr, ℕ, ◌+◌, ◌<◌, ◌≤◌, zero, suc, Bool, true, false, List, [], ◌∷◌, Option, None, Some, if◌then◌else◌, eqb, eqb-true, eq-eqb, map, get_or, slice_get, sum_by, refl, sym, ap, ◌∙◌, subst, arith}
use Rattle.std.specs.List.{All}
use Rattle.std.specs.List.Sorted.{IsPermutation}
use Rattle.std.proofs.lemmas.Bool.{cases_Bool, cases_eq, cases_lt}
use Rattle.std.proofs.lemmas.List.Sums.{sum_by-cons}
use Rattle.std.proofs.lemmas.List.Sorted.{All-permutation, sum_by-IsPermutation}
use Rattle.std.proofs.lemmas.Option.{same_Some, slice_get-get_or}
use Rattle.fst_semiring.specs.Cost.{Cost, infinite}
use Rattle.fst_semiring.specs.declared.arc_type.ArcType.{ArcType}
use Rattle.fst_semiring.specs.Semiring.{IsCost, Within}
use Rattle.fst_machine.specs.BreadthFirst.{Apart, Has}
use Rattle.fst_machine.specs.Distance.{EpsilonArc, IsDistance, Reaches}
use Rattle.fst_machine.specs.Graph.{Graph}
use Rattle.fst_machine.proofs.Arcs.{at_mapped, mapped_at}
use Rattle.fst_machine.proofs.Elements.{at_Has, Has_at}
use Rattle.fst_machine.proofs.Narrowing.{all_at}
use Rattle.fst_search.specs.Closure.{IsClosure, Reached, states_of, valued_reached}
use Rattle.fst_epsilon.specs.Construction.{IsClosureList}
use Rattle.fst_epsilon.specs.Gathering.{pairs_of, rank}
use Rattle.fst_epsilon.proofs.Theorem.{silent_here}

-- how often a state stands there
abbrev one_if : ℕ → Reached Cost → ℕ
one_if y r = if eqb r.state y then 1 else 0

abbrev times_in : ℕ → List (Reached Cost) → ℕ
times_in y list = sum_by (one_if y) list

more : (y : ℕ) (r : Reached Cost) (list : List (Reached Cost)) → eqb r.state y ≡ true → times_in y (r ∷ list) ≡ 1 + times_in y list
more y r list e = sum_by-cons (one_if y) r list ∙ ap (λ (t : Bool). (if t then 1 else 0) + times_in y list) e

more_not : (y : ℕ) (r : Reached Cost) (list : List (Reached Cost)) → eqb r.state y ≡ false → times_in y (r ∷ list) ≡ times_in y list
more_not y r list e = let one = sum_by-cons (one_if y) r list in let none : one_if y r ≡ 0 = ap (λ (t : Bool). if t then 1 else 0) e in omega (arith, one, none)

never : (y : ℕ) (list : List (Reached Cost)) → (Has (states_of list) y → ⊥) → times_in y list ≡ 0
never y [] none = refl
never y (r ∷ list) none = by (cases_Bool (eqb r.state y)) (never y list (λ h. none (inr h)))
  where
    by : (eqb r.state y ≡ true) ⊎ (eqb r.state y ≡ false) → times_in y list ≡ 0 → times_in y (r ∷ list) ≡ 0
    by (inl e) rest = absurd (none (inl (eqb-true r.state y e)))
    by (inr e) rest = let here = more_not y r list e in omega (arith, here, rest)

-- once in a list without repetitions
once : (y : ℕ) (list : List (Reached Cost)) → Apart (states_of list) → times_in y list ≤ 1
once y [] apart = omega arith
once y (r ∷ list) apart = by (cases_Bool (eqb r.state y)) (once y list apart.1)
  where
    by : (eqb r.state y ≡ true) ⊎ (eqb r.state y ≡ false) → times_in y list ≤ 1 → times_in y (r ∷ list) ≤ 1
    by (inl e) rest =
        let none = never y list (λ h. apart.0 (subst (Has (states_of list)) (sym (eqb-true r.state y e)) h)) in
        let here = more y r list e in
        omega (arith, none, here)
    by (inr e) rest = let here = more_not y r list e in omega (arith, rest, here)

-- and where it stands
met_once : (y : ℕ) (list : List (Reached Cost)) → Has (states_of list) y → 1 ≤ times_in y list
met_once y [] h = absurd h
met_once y (r ∷ list) (inl e) = let here = more y r list (eq-eqb r.state y e) in omega (arith, here)
met_once y (r ∷ list) (inr h) = let rest = met_once y list h in let here = sum_by-cons (one_if y) r list in omega (arith, rest, here)

at_once : (list : List (Reached Cost)) (k : ℕ) (r : Reached Cost) (y : ℕ) → slice_get list k ≡ Some r → r.state ≡ y → 1 ≤ times_in y list
at_once [] k r y e is = absurd (let wrong : ◌≡◌ {A = Option (Reached Cost)} None (Some r) = e in cc)
at_once (x ∷ list) zero r y e is = let here = more y x list (eq-eqb x.state y (ap (λ (z : Reached Cost). z.state) (same_Some x r e) ∙ is)) in omega (arith, here)
at_once (x ∷ list) (suc k) r y e is = let rest = at_once list k r y e is in let here = sum_by-cons (one_if y) x list in omega (arith, rest, here)

twice : (list : List (Reached Cost)) (i j : ℕ) (r s : Reached Cost) → i < j → slice_get list i ≡ Some r → slice_get list j ≡ Some s → r.state ≡ s.state → 2 ≤ times_in s.state list
twice [] i j r s low e f is = absurd (let wrong : ◌≡◌ {A = Option (Reached Cost)} None (Some r) = e in cc)
twice (x ∷ list) zero zero r s low e f is = absurd (omega (arith, low))
twice (x ∷ list) zero (suc j) r s low e f is =
    let here = more s.state x list (eq-eqb x.state s.state (ap (λ (z : Reached Cost). z.state) (same_Some x r e) ∙ is)) in
    let rest = at_once list j s s.state f refl in
    omega (arith, here, rest)
twice (x ∷ list) (suc i) zero r s low e f is = absurd (omega (arith, low))
twice (x ∷ list) (suc i) (suc j) r s low e f is = let rest = twice list i j r s (omega (arith, low)) e f is in let here = sum_by-cons (one_if s.state) x list in omega (arith, rest, here)

found : (y : ℕ) (list : List (Reached Cost)) → 1 ≤ times_in y list → (k : ℕ) × (r : Reached Cost) × (slice_get list k ≡ Some r) × (r.state ≡ y)
found y [] some = absurd (omega (arith, some))
found y (x ∷ list) some = by (cases_Bool (eqb x.state y)) (found y list)
  where
    by : (eqb x.state y ≡ true) ⊎ (eqb x.state y ≡ false) → (1 ≤ times_in y list → (k : ℕ) × (r : Reached Cost) × (slice_get list k ≡ Some r) × (r.state ≡ y))
        → (k : ℕ) × (r : Reached Cost) × (slice_get (x ∷ list) k ≡ Some r) × (r.state ≡ y)
    by (inl e) rest = (0, x, refl, eqb-true x.state y e)
    by (inr e) rest =
        let here = more_not y x list e in
        let f = rest (omega (arith, here, some)) in
        (suc f.0, f.1, f.2, f.3)

-- the rank of the state itself, and of others
rank_own : (q : ℕ) → rank q q ≡ 0
rank_own q = ap (λ (t : Bool). if t then 0 else q + 1) (eq-eqb q q refl)

rank_other : (q p : ℕ) → (p ≡ q → ⊥) → rank q p ≡ p + 1
rank_other q p other = by (cases_Bool (eqb p q))
  where
    by : (eqb p q ≡ true) ⊎ (eqb p q ≡ false) → rank q p ≡ p + 1
    by (inl e) = absurd (other (eqb-true p q e))
    by (inr e) = ap (λ (t : Bool). if t then 0 else p + 1) e

rank_none : (q p : ℕ) → rank q p ≡ 0 → p ≡ q
rank_none q p e = by (cases_eq p q)
  where
    by : (p ≡ q) ⊎ (p ≡ q → ⊥) → p ≡ q
    by (inl is) = is
    by (inr other) = let high = rank_other q p other in absurd (omega (arith, high, e))

strictly : (a b : ℕ) → a ≤ b → (a ≡ b → ⊥) → a < b
strictly a b most differ = by_order (cases_lt a b)
  where
    by_order : (a < b) ⊎ (b ≤ a) → a < b
    by_order (inl low) = low
    by_order (inr high) = absurd (differ (omega (arith, most, high)))

-- what holds of all that stands in a list
pub all_from : {X : Type 0} (P : X → Type 0) (xs : List X) → ((x : X) → Has xs x → P x) → All P xs
all_from P xs each k d low = each (get_or xs k d) (at_Has xs k (get_or xs k d) (slice_get-get_or xs k d low))

pub all_has : {X : Type 0} (P : X → Type 0) (xs : List X) (x : X) → All P xs → Has xs x → P x
all_has P xs x all h = let at = Has_at xs x h in all_at P xs at.0 x at.1 all

abbrev pub pair : Reached Cost → ℕ × Cost
pair r = (r.state, r.distance)

pub pairs_same : {D : Type 0} (value : D → Cost) (list : List (Reached D)) → pairs_of value list ≡ map pair (map (valued_reached value) list)
pairs_same value [] = refl
pairs_same value (r ∷ list) = ap (λ (zs : List (ℕ × Cost)). (r.state, value r.distance) ∷ zs) (pairs_same value list)

pub Has_map : {X Y : Type 0} (f : X → Y) (xs : List X) (y : Y) → Has (map f xs) y → (x : X) × Has xs x × (f x ≡ y)
Has_map f [] y h = absurd h
Has_map f (x ∷ xs) y (inl e) = (x, inl refl, e)
Has_map f (x ∷ xs) y (inr h) = let rest = Has_map f xs y h in (rest.0, inr rest.1, rest.2)

module _ (kind : ArcType) (g : Graph ℕ) (q bound : ℕ) (list sorted : List (Reached Cost)) (c : IsClosure kind g q bound list) (same : IsPermutation list sorted)
    (ranked : (i j : ℕ) (r s : Reached Cost) → i ≤ j → slice_get sorted i ≡ Some r → slice_get sorted j ≡ Some s → rank q r.state ≤ rank q s.state) where
  pub record Stands (r : Reached Cost) : Type 0 where
    pub distance : IsDistance kind g EpsilonArc q r.state r.distance
    pub finite : r.distance ≡ infinite → ⊥
    pub within : Within bound r.distance
    pub kind_of : IsCost kind r.distance

  pub all_stand : All Stands sorted
  all_stand = All-permutation Stands list sorted same (all_from Stands list (λ r h. record { distance = c.distances r h; finite = c.finite r h; within = c.numbers r h; kind_of = c.kinds r h }))

  counted : (y : ℕ) → times_in y sorted ≡ times_in y list
  counted y = sum_by-IsPermutation (one_if y) list sorted same

  met : (p : ℕ) (d : Cost) → Reaches kind g EpsilonArc q p d → (k : ℕ) × (r : Reached Cost) × (slice_get sorted k ≡ Some r) × (r.state ≡ p)
  met p d way = let some = met_once p list (c.all p d way) in let e = counted p in found p sorted (omega (arith, some, e))

  alone : (i j : ℕ) (r s : Reached Cost) → i < j → slice_get sorted i ≡ Some r → slice_get sorted j ≡ Some s → r.state ≡ s.state → ⊥
  alone i j r s low e f is =
      let two = twice sorted i j r s low e f is in
      let few = once s.state list c.apart in
      let n = counted s.state in
      omega (arith, two, few, n)

  ordered : (x : Reached Cost) (rest : List (Reached Cost)) → sorted ≡ x ∷ rest → (x.state ≡ q) × ((k : ℕ) (r : Reached Cost) → slice_get rest k ≡ Some r → r.state ≡ q → ⊥) × ((i j : ℕ) (r s : Reached Cost) → i < j → slice_get rest i ≡ Some r → slice_get rest j ≡ Some s → r.state < s.state)
  ordered x rest is = (first, other, later)
    where
      at : (k : ℕ) (r : Reached Cost) → slice_get rest k ≡ Some r → slice_get sorted (suc k) ≡ Some r
      at k r e = ap (λ (l : List (Reached Cost)). slice_get l (suc k)) is ∙ e

      head : slice_get sorted 0 ≡ Some x
      head = ap (λ (l : List (Reached Cost)). slice_get l 0) is

      first : x.state ≡ q
      first =
          let own = met q _ (silent_here kind g q) in
          let low = ranked 0 own.0 x own.1 (omega arith) head own.2 in
          let zero_there : rank q own.1.state ≡ 0 = ap (rank q) own.3 ∙ rank_own q in
          rank_none q x.state (omega (arith, low, zero_there))

      other : (k : ℕ) (r : Reached Cost) → slice_get rest k ≡ Some r → r.state ≡ q → ⊥
      other k r e own = alone 0 (suc k) x r (omega arith) head (at k r e) (first ∙ sym own)

      later : (i j : ℕ) (r s : Reached Cost) → i < j → slice_get rest i ≡ Some r → slice_get rest j ≡ Some s → r.state < s.state
      later i j r s low e f = by (cases_eq r.state s.state)
        where
          by : (r.state ≡ s.state) ⊎ (r.state ≡ s.state → ⊥) → r.state < s.state
          by (inl is_same) = absurd (alone (suc i) (suc j) r s (omega (arith, low)) (at i r e) (at j s f) is_same)
          by (inr differ) =
              let below = ranked (suc i) (suc j) r s (omega (arith, low)) (at i r e) (at j s f) in
              let one = rank_other q r.state (other i r e) in
              let two = rank_other q s.state (other j s f) in
              let not_more : r.state ≤ s.state = omega (arith, below, one, two) in
              strictly r.state s.state not_more differ

  pub closure_list : IsClosureList kind g q (map pair sorted)
  closure_list = by sorted refl
    where
      stand : (p : ℕ) (d : Cost) → Has (map pair sorted) (p, d) → (r : Reached Cost) × Stands r × (pair r ≡ (p, d))
      stand p d h = let from = Has_map pair sorted (p, d) h in (from.0, all_has Stands sorted from.0 all_stand from.1, from.2)

      by : (l : List (Reached Cost)) → sorted ≡ l → IsClosureList kind g q (map pair sorted)
      by [] is = absurd (let own = met q _ (silent_here kind g q) in let wrong : ◌≡◌ {A = Option (Reached Cost)} None (Some own.1) = ap (λ (l : List (Reached Cost)). slice_get l own.0) (sym is) ∙ own.2 in cc)
      by (x ∷ rest) is =
          let o = ordered x rest is in
          record {
            own = x.distance;
            others = map pair rest;
            first = ap (map pair) is ∙ ap (λ (s : ℕ). (s, x.distance) ∷ map pair rest) o.0;
            apart = λ d h. let from = Has_map pair rest (q, d) h in let at = Has_at rest from.0 from.1 in o.1 at.0 from.0 at.1 (ap (λ (z : ℕ × Cost). z.0) from.2);
            ascending = λ i j p r c d low e f.
                let a = mapped_at pair rest i (p, c) e in
                let b = mapped_at pair rest j (r, d) f in
                let less = o.2 i j a.0 b.0 low a.1 b.1 in
                let left : a.0.state ≡ p = ap (λ (z : ℕ × Cost). z.0) a.2 in
                let right : b.0.state ≡ r = ap (λ (z : ℕ × Cost). z.0) b.2 in
                omega (arith, less, left, right);
            distances = λ p d h. let s = stand p d h in subst (λ (z : ℕ × Cost). IsDistance kind g EpsilonArc q z.0 z.1) s.2 s.1.distance;
            finite = λ p d h. let s = stand p d h in subst (λ (z : ℕ × Cost). z.1 ≡ infinite → ⊥) s.2 s.1.finite;
            kinds = λ p d h. let s = stand p d h in subst (λ (z : ℕ × Cost). IsCost kind z.1) s.2 s.1.kind_of;
            all = λ p d way. let m = met p d way in (m.1.distance, subst (λ (z : ℕ). Has (map pair sorted) (z, m.1.distance)) m.3 (at_Has (map pair sorted) m.0 (pair m.1) (at_mapped pair sorted m.0 m.1 m.2)));
          }
