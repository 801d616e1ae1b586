-- Lists in order, cut into runs of elements with one key.
use Rattle.std.proofs.Common.{◌≡◌, ◌≢◌, ◌⊎◌, inl, inr, ℕ, ◌<◌, ◌≤◌, zero, suc, List, [], ◌∷◌, ◌++◌, Some, length, take, drop, get_or, slice_get, refl, sym, ap, ◌∙◌, subst, append-nil, append_assoc, take-append-drop, arith}
use Rattle.std.specs.List.{All, Contains}
use Rattle.std.specs.List.Sorted.{IsNonDecreasingBy, IsPermutation}
use Rattle.std.proofs.lemmas.Bool.{cases_order}
use Rattle.std.proofs.lemmas.List.{length-append, map-append}
use Rattle.std.proofs.lemmas.List.Sorted.{Contains-permutation, IsPermutation-sym}
use Rattle.std.proofs.lemmas.Option.{get_or_from_slice_get, slice_get-get_or}
use Rattle.fst_semiring.specs.Cost.{Cost, infinite, plus}
use Rattle.fst_semiring.specs.Semiring.{IsWide}
use Rattle.fst_semiring.proofs.Order.{plus_infinite}
use Rattle.fst_machine.specs.BreadthFirst.{Has}
use Rattle.fst_machine.proofs.Elements.{Has-append_left, Has-append_right, Has_at, at_Has}
use Rattle.fst_determinize.specs.Kept.{AreDivided, AreGoodWays, IsGoodWay, RisesBy, WayAs, rank, way_as, ways_as}
use Rattle.fst_determinize.specs.Ways.{Way, best_of, grouped}
use Rattle.fst_determinize.proofs.Elements.{Alike, Has_map, map_Has}
use Rattle.fst_determinize.proofs.Best.{best_holds, best_no_worse}
use Rattle.fst_determinize.proofs.Grouped.{grouped_split}

module _ {X : Type 0} where
  -- what holds of each place holds of what stands in the list
  pub All_Has : (P : X → Type 0) (xs : List X) (x : X) → All P xs → Has xs x → P x
  All_Has P xs x all h = let at = Has_at xs x h in subst P (get_or_from_slice_get xs at.0 x x at.1) (all at.0 x at.2)

  pub Has_All : (P : X → Type 0) (xs : List X) → ((x : X) → Has xs x → P x) → All P xs
  Has_All P xs all k d low = all (get_or xs k d) (at_Has xs k (get_or xs k d) (slice_get-get_or xs k d low))

  -- lists that are permuted have the same elements
  pub permuted : (xs ys : List X) → IsPermutation xs ys → Alike xs ys
  permuted xs ys p = record { there = λ x h. move xs ys p x h; back = λ x h. move ys xs (IsPermutation-sym xs ys p) x h }
    where
      move : (us vs : List X) → IsPermutation us vs → (x : X) → Has us x → Has vs x
      move us vs q x h =
          let at = Has_at us x h in
          let there : Contains vs x = Contains-permutation us vs x q (at.0, at.2, get_or_from_slice_get us at.0 x x at.1) in
          at_Has vs there.0 x (slice_get-get_or vs there.0 x there.1 ∙ ap Some there.2)

  -- lists in order, by what stands behind
  pub rises_from : (n : X → ℕ) (xs : List X) → IsNonDecreasingBy n xs → RisesBy n xs
  rises_from n [] h = tt
  rises_from n (x ∷ xs) h = ((λ y k. first y (Has_at xs y k)), rises_from n xs (λ i j d le low. h (suc i) (suc j) d (omega (arith, le)) (omega (arith, low))))
    where
      first : (y : X) → (k : ℕ) × (slice_get xs k ≡ Some y) × (k < length xs) → n x ≤ n y
      first y at = subst (λ (z : X). n x ≤ n z) (get_or_from_slice_get xs at.0 y x at.1) (h 0 (suc at.0) x (omega arith) (let low = at.2 in omega (arith, low)))

  rises_weaker : (n m : X → ℕ) (xs : List X) → ((x y : X) → Has xs x → Has xs y → n x ≤ n y → m x ≤ m y) → RisesBy n xs → RisesBy m xs
  rises_weaker n m [] weaker h = tt
  rises_weaker n m (x ∷ xs) weaker h = ((λ y k. weaker x y (inl refl) (inr k) (h.0 y k)), rises_weaker n m xs (λ y z i j le. weaker y z (inr i) (inr j) le) h.1)

  pub rises_parts : (n : X → ℕ) (xs ys : List X) → RisesBy n (xs ++ ys) → RisesBy n xs × RisesBy n ys × ((x y : X) → Has xs x → Has ys y → n x ≤ n y)
  rises_parts n [] ys h = (tt, h, λ x y none. absurd none)
  rises_parts n (x ∷ xs) ys h =
      let rest = rises_parts n xs ys h.1 in
      (((λ y k. h.0 y (Has-append_left xs ys y k)), rest.0), rest.1, λ y z i j. by_part y z i j rest.2)
    where
      by_part : (y z : X) → Has (x ∷ xs) y → Has ys z → ((u v : X) → Has xs u → Has ys v → n u ≤ n v) → n y ≤ n z
      by_part y z (inl e) j more = subst (λ (u : X). n u ≤ n z) e (h.0 z (Has-append_right xs ys z j))
      by_part y z (inr i) j more = more y z i j

  -- The first elements, with one key, and the others, whose keys are greater.
  pub record IsRun (n : X → ℕ) (xs : List X) (count : ℕ) (x : X) : Type 0 where
    pub rest : List X
    pub first : take count xs ≡ x ∷ rest
    pub parts : xs ≡ take count xs ++ drop count xs
    pub here : (y : X) → Has (take count xs) y → n y ≡ n x
    pub later : (y : X) → Has (drop count xs) y → n x < n y

  pub run_of : (n : X → ℕ) (xs : List X) (count : ℕ) (x : X) → RisesBy n xs → slice_get xs 0 ≡ Some x → count ≤ length xs → All (λ y. n y ≡ n x) (take count xs) → ((y : X) → slice_get xs count ≡ Some y → n y ≢ n x) → IsRun n xs count x
  run_of n [] count x h start few same next = absurd (cc)
  run_of n (z ∷ xs) zero x h start few same next = absurd (next x start refl)
  run_of n (z ∷ xs) (suc count) x h start few same next =
      let e : z ≡ x = cc in
      let parts : z ∷ xs ≡ take (suc count) (z ∷ xs) ++ drop (suc count) (z ∷ xs) = sym (take-append-drop (suc count) (z ∷ xs)) in
      record {
        rest = take count xs;
        first = ap (λ (y : X). y ∷ take count xs) e;
        parts = parts;
        here = λ y k. All_Has (λ y. n y ≡ n x) (take (suc count) (z ∷ xs)) y same k;
        later = λ y k. behind (drop (suc count) (z ∷ xs)) refl (subst (λ (zs : List X). RisesBy n zs) parts h) e y k;
      }
    where
      behind : (others : List X) → drop (suc count) (z ∷ xs) ≡ others → RisesBy n (take (suc count) (z ∷ xs) ++ drop (suc count) (z ∷ xs)) → z ≡ x → (y : X) → Has (drop (suc count) (z ∷ xs)) y → n x < n y
      behind [] e up here y k = absurd (subst (λ (zs : List X). Has zs y) e k)
      behind (u ∷ others) e up here y k =
          let up_parts = rises_parts n (take (suc count) (z ∷ xs)) (drop (suc count) (z ∷ xs)) up in
          let there : Has (drop (suc count) (z ∷ xs)) u = subst (λ (zs : List X). Has zs u) (sym e) (inl refl) in
          let low : n z ≤ n u = up_parts.2 z u (inl refl) there in
          let at : slice_get (z ∷ xs) (suc count) ≡ Some u = drop_at (z ∷ xs) (suc count) u others e in
          let other = next u at in
          let same : n z ≡ n x = ap n here in
          let less : n x < n u = order (n x) (n u) (omega (arith, low, same)) other in
          let more : n u ≤ n y = onward u others (subst (λ (zs : List X). RisesBy n zs) e up_parts.1) y (subst (λ (zs : List X). Has zs y) e k) in
          omega (arith, less, more)
        where
          drop_at : (ys : List X) (k : ℕ) (u : X) (others : List X) → drop k ys ≡ u ∷ others → slice_get ys k ≡ Some u
          drop_at [] zero u others e = absurd (cc)
          drop_at [] (suc k) u others e = absurd (cc)
          drop_at (v ∷ ys) zero u others e = let same : v ≡ u = cc in ap Some same
          drop_at (v ∷ ys) (suc k) u others e = drop_at ys k u others e

          order : (a b : ℕ) → a ≤ b → b ≢ a → a < b
          order a b le other = by_order (cases_order a b)
            where
              by_order : (a ≡ b) ⊎ ((a < b) ⊎ (b < a)) → a < b
              by_order (inl e) = absurd (other (sym e))
              by_order (inr (inl less)) = less
              by_order (inr (inr more)) = absurd (omega (arith, le, more))

          onward : (u : X) (others : List X) → RisesBy n (u ∷ others) → (y : X) → Has (u ∷ others) y → n u ≤ n y
          onward u others up y (inl e) = let same : n u ≡ n y = ap n e in omega (arith, same)
          onward u others up y (inr k) = up.0 y k

module _ {V : Type 0} where
  -- ways in the order of their ranks stand by label, and those with one label by state
  pub rank_labels : (ys : List (WayAs V)) → ((y : WayAs V) → Has ys y → y.state < 4294967296) → RisesBy rank ys → RisesBy (λ y. y.label) ys
  rank_labels ys small h = rises_weaker rank (λ (y : WayAs V). y.label) ys (λ x y i j le. let low = small x i in let high = small y j in omega (arith, le, low, high)) h

  pub rank_states : (label : ℕ) (ys : List (WayAs V)) → ((y : WayAs V) → Has ys y → y.label ≡ label) → RisesBy rank ys → RisesBy (λ y. y.state) ys
  rank_states label ys one h = rises_weaker rank (λ (y : WayAs V). y.state) ys (λ x y i j le. let e = one x i in let f = one y j in omega (arith, le, e, f)) h

  -- The first run gives the first of what is made of ways by key.
  module _ {A : Type 0} (value : V → Cost) (key : Way → ℕ) (own : WayAs V → ℕ) (same : (y : WayAs V) → key (way_as value y) ≡ own y) (make : ℕ → List Way → A) where
    pub first_group : (ys : List (WayAs V)) (count : ℕ) (x : WayAs V) → IsRun own ys count x
        → grouped key make (ways_as value ys) ≡ make (own x) (ways_as value (take count ys)) ∷ grouped key make (ways_as value (drop count ys))
    first_group ys count x run =
        ap (λ (zs : List (WayAs V)). grouped key make (ways_as value zs)) run.parts
        ∙ (ap (grouped key make) (map-append (way_as value) (take count ys) (drop count ys))
        ∙ subst (λ (zs : List (WayAs V)). grouped key make (ways_as value zs ++ ways_as value (drop count ys)) ≡ make (own x) (ways_as value zs) ∷ grouped key make (ways_as value (drop count ys))) (sym run.first)
        (grouped_split key make (own x) (way_as value x) (ways_as value run.rest) (ways_as value (drop count ys)) here later))
      where
        here : (z : Way) → Has (ways_as value (x ∷ run.rest)) z → key z ≡ own x
        here z h =
            let from = map_Has (way_as value) (x ∷ run.rest) z h in
            ap key (sym from.2) ∙ (same from.0 ∙ run.here from.0 (subst (λ (zs : List (WayAs V)). Has zs from.0) (sym run.first) from.1))

        later : (z : Way) → Has (ways_as value (drop count ys)) z → own x < key z
        later z h =
            let from = map_Has (way_as value) (drop count ys) z h in
            let less = run.later from.0 from.1 in
            let e : key z ≡ own from.0 = ap key (sym from.2) ∙ same from.0 in
            omega (arith, less, e)

    -- so what was put, and what is still to be put, is as before
    pub group_put : (old so_far new : List A) (all ys : List (WayAs V)) (count : ℕ) (x : WayAs V) → IsRun own ys count x
        → so_far ++ grouped key make (ways_as value ys) ≡ old ++ grouped key make (ways_as value all)
        → new ≡ so_far ++ make (own x) (ways_as value (take count ys)) ∷ []
        → new ++ grouped key make (ways_as value (drop count ys)) ≡ old ++ grouped key make (ways_as value all)
    group_put old so_far new all ys count x run before put =
        ap (λ zs. zs ++ grouped key make (ways_as value (drop count ys))) put
        ∙ (append_assoc so_far (make (own x) (ways_as value (take count ys)) ∷ []) (grouped key make (ways_as value (drop count ys)))
        ∙ (ap (λ zs. so_far ++ zs) (sym (first_group ys count x run)) ∙ before))

    -- and nothing is to be put where no ways are left
    pub group_all : (old new : List A) (all ys : List (WayAs V)) → ys ≡ [] → new ++ grouped key make (ways_as value ys) ≡ old ++ grouped key make (ways_as value all) → new ≡ old ++ grouped key make (ways_as value all)
    group_all old new all ys none h = sym (ap (λ (zs : List (WayAs V)). new ++ grouped key make (ways_as value zs)) none ∙ append-nil new) ∙ h

-- The best of ways that are divided, and of good ways.
module _ {V : Type 0} (value : V → Cost) where
  best_as : (P : Cost → Type 0) → P infinite → (ys : List (WayAs V)) → ((y : WayAs V) → Has ys y → P (value y.weight)) → P (best_of (ways_as value ys))
  best_as P none ys all = best_holds (λ (y : Way). y.weight) P none (ways_as value ys) (λ z h. let from = map_Has (way_as value) ys z h in subst (λ (y : Way). P y.weight) from.2 (all from.0 from.1))

  pub divided_best : (by : Cost) (ys : List (WayAs V)) → AreDivided value by ys → (plus by (best_of (ways_as value ys)) ≡ by) × IsWide (best_of (ways_as value ys))
  divided_best by ys h = (best_as (λ v. plus by v ≡ by) (plus_infinite by) ys h.no_better, best_as (λ v. IsWide v) tt ys h.wide)

  -- parts of ways that are divided
  pub divided_parts : (by : Cost) (xs ys zs : List (WayAs V)) → xs ≡ ys ++ zs → AreDivided value by xs → AreDivided value by ys × AreDivided value by zs
  divided_parts by xs ys zs e h =
      let up = rises_parts (λ (y : WayAs V). y.state) ys zs (subst (λ (us : List (WayAs V)). RisesBy (λ y. y.state) us) e h.ranked) in (
        record { ranked = up.0; wide = λ y k. h.wide y (own y (Has-append_left ys zs y k)); no_better = λ y k. h.no_better y (own y (Has-append_left ys zs y k)) },
        record { ranked = up.1; wide = λ y k. h.wide y (own y (Has-append_right ys zs y k)); no_better = λ y k. h.no_better y (own y (Has-append_right ys zs y k)) },
      )
    where
      own : (y : WayAs V) → Has (ys ++ zs) y → Has xs y
      own y k = subst (λ (us : List (WayAs V)). Has us y) (sym e) k

  -- of good ways, of which there are some, each is divided by the best, which can be divided by
  pub good_best : (ys : List (WayAs V)) → RisesBy (λ y. y.state) ys → ((y : WayAs V) → Has ys y → IsGoodWay value y) → ((y : WayAs V) × Has ys y)
      → AreDivided value (best_of (ways_as value ys)) ys × (best_of (ways_as value ys) ≢ infinite) × IsWide (best_of (ways_as value ys))
  good_best ys up good some =
      let no_worse : (y : WayAs V) → Has ys y → (best_of (ways_as value ys) ≢ infinite) × (plus (best_of (ways_as value ys)) (value y.weight) ≡ best_of (ways_as value ys)) =
      λ y h. best_no_worse (λ (z : Way). z.weight) (ways_as value ys) (way_as value y) (Has_map (way_as value) ys y h) (good y h).not_zero in
      (record { ranked = up; wide = λ y h. (good y h).wide; no_better = λ y h. (no_worse y h).1 }, (no_worse some.0 some.1).0, best_as (λ v. IsWide v) tt ys (λ y h. (good y h).wide))

  -- parts of good ways
  pub good_parts : (xs ys zs : List (WayAs V)) → xs ≡ ys ++ zs → AreGoodWays value xs → AreGoodWays value ys × AreGoodWays value zs
  good_parts xs ys zs e h =
      let up = rises_parts rank ys zs (subst (λ (us : List (WayAs V)). RisesBy rank us) e h.ranked) in
      (record { ranked = up.0; good = λ y k. h.good y (own y (Has-append_left ys zs y k)) }, record { ranked = up.1; good = λ y k. h.good y (own y (Has-append_right ys zs y k)) })
    where
      own : (y : WayAs V) → Has (ys ++ zs) y → Has xs y
      own y k = subst (λ (us : List (WayAs V)). Has us y) (sym e) k

  -- a run by state
  pub state_run : (by : Cost) (ys : List (WayAs V)) (count : ℕ) (x : WayAs V) → AreDivided value by ys → slice_get ys 0 ≡ Some x → count ≤ length ys → All (λ y. y.state ≡ x.state) (take count ys) → ((y : WayAs V) → slice_get ys count ≡ Some y → y.state ≢ x.state)
      → IsRun (λ (y : WayAs V). y.state) ys count x
  state_run by ys count x h start few same next = run_of (λ (y : WayAs V). y.state) ys count x h.ranked start few same next

  -- a run by label
  pub label_run : (ys : List (WayAs V)) (count : ℕ) (x : WayAs V) → AreGoodWays value ys → slice_get ys 0 ≡ Some x → count ≤ length ys → All (λ y. y.label ≡ x.label) (take count ys) → ((y : WayAs V) → slice_get ys count ≡ Some y → y.label ≢ x.label)
      → IsRun (λ (y : WayAs V). y.label) ys count x
  label_run ys count x h start few same next = run_of (λ (y : WayAs V). y.label) ys count x (rank_labels ys (λ y k. (h.good y k).state) h.ranked) start few same next

-- the rest of a run is shorter
pub run_shorter : {X : Type 0} (n : X → ℕ) (xs : List X) (count : ℕ) (x : X) → IsRun n xs count x → length (drop count xs) < length xs
run_shorter n xs count x run =
    let whole = ap length run.parts in
    let front = ap length run.first in
    omega (arith, whole, front, length-append (take count xs) (drop count xs))
