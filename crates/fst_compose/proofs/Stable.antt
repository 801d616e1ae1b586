-- The arcs of a name when those of its second state are put in order.
use Rattle.std.proofs.Common.{◌≡◌, ℕ, zero, suc, Bool, true, false, cond, not, ◌&&◌, List, [], ◌∷◌, ◌++◌, filter, length, map, nat_eq, is_lt, nat_cmp, refl, sym, ap, ap₂, ◌∙◌, arith}
use Rattle.std.proofs.Common.{true≢false}
use Rattle.std.proofs.lemmas.Bool.{eq-eqb, ne_eqb}
use Rattle.std.proofs.lemmas.List.Sorted.{length_permutation}
use Rattle.std.specs.List.{flat_map}
use Rattle.fst_semiring.specs.Cost.{Cost}
use Rattle.fst_semiring.specs.declared.arc_type.ArcType.{ArcType}
use Rattle.fst_machine.specs.Machine.{Arc, valued_arc}
use Rattle.fst_trim.specs.declared.side.Side.TheVariants.{Input}
use Rattle.fst_trim.specs.Sorting.{IsStableSort}
use Rattle.fst_trim.proofs.Ranks.{ties_is}
use Rattle.fst_compose.specs.Composition.{both_arc, by_label, first_alone, first_arcs, match_arcs, second_alone, second_arcs}
use Rattle.fst_compose.specs.Matching.{name_arcs}
use Rattle.fst_compose.specs.Names.{Name}

-- what only elements that pass a test bring, those of them bring
flat_filter : {X Z : Type 0} (f : X → List Z) (p : X → Bool) → ((x : X) → p x ≡ false → f x ≡ []) → (xs : List X) → flat_map f xs ≡ flat_map f (filter p xs)
flat_filter f p none [] = refl
flat_filter {X} {Z} f p none (x ∷ xs) = by_test (p x) refl (flat_filter f p none xs)
  where
    by_test : (b : Bool) → p x ≡ b → flat_map f xs ≡ flat_map f (filter p xs) → f x ++ flat_map f xs ≡ flat_map f (cond b (x ∷ filter p xs) (filter p xs))
    by_test true e rest = ap (λ zs. f x ++ zs) rest
    by_test false e rest = ap (λ zs. zs ++ flat_map f xs) (none x e) ∙ rest

same_filter : {X : Type 0} (p q : X → Bool) → ((x : X) → p x ≡ q x) → (xs : List X) → filter p xs ≡ filter q xs
same_filter p q same [] = refl
same_filter p q same (x ∷ xs) = ap₂ (λ (b : Bool) zs. cond b (x ∷ zs) zs) (same x) (same_filter p q same xs)

flat_mapped : {X Y Z : Type 0} (f : Y → List Z) (v : X → Y) (xs : List X) → flat_map f (map v xs) ≡ flat_map (λ x. f (v x)) xs
flat_mapped f v [] = refl
flat_mapped f v (x ∷ xs) = ap (λ zs. f (v x) ++ zs) (flat_mapped f v xs)

module _ {V : Type 0} (ys zs : List (Arc V ℕ)) (h : IsStableSort Input ys zs) where
  -- those with one label stand in one order
  one_label : (a : Arc V ℕ) → filter (λ y. nat_eq y.ilabel a.ilabel) ys ≡ filter (λ y. nat_eq y.ilabel a.ilabel) zs
  one_label a =
      let tie = λ (y : Arc V ℕ). not (is_lt (nat_cmp a.ilabel y.ilabel)) && not (is_lt (nat_cmp y.ilabel a.ilabel)) in
      let test = λ (y : Arc V ℕ). nat_eq y.ilabel a.ilabel in
      same_filter test tie (λ y. sym (ties_is a.ilabel y.ilabel)) ys ∙ (sym (h.stable a) ∙ same_filter tie test (λ y. ties_is a.ilabel y.ilabel) zs)

  -- so what arcs with one label alone bring is the same
  pub same_brought : {Z : Type 0} (f : Arc Cost ℕ → List Z) (value : V → Cost) (a : Arc V ℕ) → ((y : Arc V ℕ) → nat_eq y.ilabel a.ilabel ≡ false → f (valued_arc value y) ≡ []) → flat_map f (map (valued_arc value) ys) ≡ flat_map f (map (valued_arc value) zs)
  same_brought {Z} f value a none =
      let g = λ (y : Arc V ℕ). f (valued_arc value y) in
      let test = λ (y : Arc V ℕ). nat_eq y.ilabel a.ilabel in
      flat_mapped f (valued_arc value) ys ∙ (flat_filter g test none ys ∙ (ap (flat_map g) (one_label a) ∙ (sym (flat_filter g test none zs) ∙ sym (flat_mapped f (valued_arc value) zs))))

-- an arc with this label
abbrev labelled : {V : Type 0} → ℕ → Arc V ℕ → Arc V ℕ
labelled label a = record { ilabel = label; olabel = a.olabel; weight = a.weight; next = a.next }

tests_symmetric : (m n : ℕ) → nat_eq m n ≡ false → nat_eq n m ≡ false
tests_symmetric m n e = ne_eqb n m (λ same. true≢false (sym (eq-eqb m n (sym same)) ∙ e))

module _ {V : Type 0} (kind : ArcType) (value : V → Cost) (n : Name ℕ ℕ) where
  first_same : (x : Arc V ℕ) (ys zs : List (Arc V ℕ)) → IsStableSort Input ys zs → first_arcs kind n (map (valued_arc value) ys) (valued_arc value x) ≡ first_arcs kind n (map (valued_arc value) zs) (valued_arc value x)
  first_same x ys zs h =
      ap (λ ws. by_label x.olabel (by_label n.filter (first_alone n (valued_arc value x) ∷ []) []) ws)
      (same_brought ys zs h (match_arcs {N = ℕ} {M = ℕ} kind (valued_arc value x)) value (labelled x.olabel x) (λ y other. ap (λ b. cond b (both_arc kind (valued_arc value x) (valued_arc value y) ∷ []) []) (tests_symmetric y.ilabel x.olabel other)))

  firsts_same : (xs ys zs : List (Arc V ℕ)) → IsStableSort Input ys zs → flat_map (first_arcs kind n (map (valued_arc value) ys)) (map (valued_arc value) xs) ≡ flat_map (first_arcs kind n (map (valued_arc value) zs)) (map (valued_arc value) xs)
  firsts_same [] ys zs h = refl
  firsts_same (x ∷ xs) ys zs h = ap₂ (λ (us ws : List (Arc Cost (Name ℕ ℕ))). us ++ ws) (first_same x ys zs h) (firsts_same xs ys zs h)

  alone_none : (y : Arc V ℕ) → nat_eq y.ilabel 0 ≡ false → second_arcs n (valued_arc value y) ≡ []
  alone_none y other = by_number y.ilabel other
    where
      by_number : (k : ℕ) → nat_eq k 0 ≡ false → by_label k (second_alone n (valued_arc value y) ∷ []) [] ≡ []
      by_number zero e = absurd (cc)
      by_number (suc k) e = refl

  seconds_same : (ys zs : List (Arc V ℕ)) → IsStableSort Input ys zs → flat_map (second_arcs n) (map (valued_arc value) ys) ≡ flat_map (second_arcs n) (map (valued_arc value) zs)
  seconds_same [] [] h = refl
  seconds_same [] (z ∷ zs) h = let size : length (z ∷ zs) ≡ length {A = Arc V ℕ} [] = length_permutation [] (z ∷ zs) h.same in absurd (omega (arith, size))
  seconds_same (y ∷ ys) zs h = same_brought (y ∷ ys) zs h (second_arcs n) value (labelled 0 y) alone_none

  -- the arcs of a name are the same
  pub sorted_same : (xs ys zs : List (Arc V ℕ)) → IsStableSort Input ys zs → name_arcs kind n (map (valued_arc value) xs) (map (valued_arc value) zs) ≡ name_arcs kind n (map (valued_arc value) xs) (map (valued_arc value) ys)
  sorted_same xs ys zs h = sym (ap₂ (λ (us ws : List (Arc Cost (Name ℕ ℕ))). us ++ ws) (firsts_same xs ys zs h) (seconds_same ys zs h))
