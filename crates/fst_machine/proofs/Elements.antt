-- What stands in a list, and lists in which nothing stands twice.
use Rattle.std.proofs.Common.{◌≡◌, ◌⊎◌, inl, inr, ℕ, ◌<◌, ◌≤◌, ◌||◌, Bool, true, false, true≢false, zero, suc, List, [], ◌∷◌, ◌++◌, Some, length, slice_get, sym, refl, ap, subst, arith}
use Rattle.std.specs.Bool.{Decides}
use Rattle.std.specs.List.{list_any}
use Rattle.std.proofs.lemmas.List.{length-append}
use Rattle.std.proofs.lemmas.Bool.{cases_eq}
use Rattle.fst_machine.specs.BreadthFirst.{Has, Apart}

pub Has-append_left : {X : Type 0} (xs ys : List X) (x : X) → Has xs x → Has (xs ++ ys) x
Has-append_left [] ys x h = absurd h
Has-append_left (z ∷ xs) ys x (inl e) = inl e
Has-append_left (z ∷ xs) ys x (inr h) = inr (Has-append_left xs ys x h)

pub Has-append_right : {X : Type 0} (xs ys : List X) (x : X) → Has ys x → Has (xs ++ ys) x
Has-append_right [] ys x h = h
Has-append_right (z ∷ xs) ys x h = inr (Has-append_right xs ys x h)

pub Has-append_cases : {X : Type 0} (xs ys : List X) (x : X) → Has (xs ++ ys) x → Has xs x ⊎ Has ys x
Has-append_cases [] ys x h = inr h
Has-append_cases (z ∷ xs) ys x (inl e) = inl (inl e)
Has-append_cases {X} (z ∷ xs) ys x (inr h) = by_rest (Has-append_cases xs ys x h)
  where
    by_rest : Has xs x ⊎ Has ys x → Has (z ∷ xs) x ⊎ Has ys x
    by_rest (inl r) = inl (inr r)
    by_rest (inr r) = inr r

-- what stands in the list, as a test of equality finds it
module _ {X : Type 0} (eq : X → X → Bool) (same : (x y : X) → Decides (eq x y) (x ≡ y)) where
  pub Has-any : (xs : List X) (x : X) → Has xs x → list_any (eq x) xs ≡ true
  Has-any [] x h = absurd h
  Has-any (z ∷ xs) x (inl e) = ap (λ b. b || list_any (eq x) xs) ((same x z).1 (sym e))
  Has-any (z ∷ xs) x (inr h) = by (eq x z) (Has-any xs x h)
    where
      by : (b : Bool) → list_any (eq x) xs ≡ true → (b || list_any (eq x) xs) ≡ true
      by true e = refl
      by false e = e

  pub any-Has : (xs : List X) (x : X) → list_any (eq x) xs ≡ true → Has xs x
  any-Has [] x e = absurd (true≢false (sym e))
  any-Has (z ∷ xs) x e = by (eq x z) refl e (any-Has xs x)
    where
      by : (b : Bool) → eq x z ≡ b → (b || list_any (eq x) xs) ≡ true → (list_any (eq x) xs ≡ true → Has xs x) → Has (z ∷ xs) x
      by true here e more = inl (sym ((same x z).0 here))
      by false there e more = inr (more e)

-- what is in a place stands in the list
pub at_Has : {X : Type 0} (xs : List X) (k : ℕ) (x : X) → slice_get xs k ≡ Some x → Has xs x
at_Has [] k x e = absurd (cc)
at_Has (z ∷ xs) zero x e = inl (cc)
at_Has (z ∷ xs) (suc k) x e = inr (at_Has xs k x e)

-- what stands in the list is in some place
pub Has_at : {X : Type 0} (xs : List X) (x : X) → Has xs x → (k : ℕ) × (slice_get xs k ≡ Some x) × (k < length xs)
Has_at [] x h = absurd h
Has_at (z ∷ xs) x (inl e) = (0, ap Some e, omega arith)
Has_at (z ∷ xs) x (inr h) = let rest = Has_at xs x h in (suc rest.0, rest.1, omega (arith, rest.2))

-- the list around one of its elements
pub Has_around : {X : Type 0} (xs : List X) (x : X) → Has xs x → (before : List X) × (after : List X) × (xs ≡ before ++ (x ∷ after))
Has_around [] x h = absurd h
Has_around (z ∷ xs) x (inl e) = ([], xs, ap (λ y. y ∷ xs) e)
Has_around (z ∷ xs) x (inr h) = let rest = Has_around xs x h in (z ∷ rest.0, rest.1, ap (λ ys. z ∷ ys) rest.2)

-- another element stands around it
pub Has_beside : {X : Type 0} (before after : List X) (x y : X) → Has (before ++ (x ∷ after)) y → (x ≡ y) ⊎ Has (before ++ after) y
Has_beside before after x y h = by_part (Has-append_cases before (x ∷ after) y h)
  where
    by_part : Has before y ⊎ Has (x ∷ after) y → (x ≡ y) ⊎ Has (before ++ after) y
    by_part (inl front) = inr (Has-append_left before after y front)
    by_part (inr (inl e)) = inl e
    by_part (inr (inr back)) = inr (Has-append_right before after y back)

-- a list in which nothing stands twice is no longer than one in which all of it stands
pub Apart_within : {X : Type 0} (xs ys : List X) → Apart xs → ((x : X) → Has xs x → Has ys x) → length xs ≤ length ys
Apart_within [] ys apart within = omega arith
Apart_within {X} (x ∷ xs) ys apart within =
    let around = Has_around ys x (within x (inl refl)) in
    let others : (y : X) → Has xs y → Has (around.0 ++ around.1) y = λ y h. other y h around.0 around.1 (subst (λ zs. Has zs y) around.2 (within y (inr h))) in
    let fewer : length xs ≤ length (around.0 ++ around.1) = Apart_within xs (around.0 ++ around.1) apart.1 others in
    let long : length ys ≡ length (around.0 ++ (x ∷ around.1)) = ap length around.2 in
    omega (arith, fewer, long, length-append around.0 around.1, length-append around.0 (x ∷ around.1))
  where
    other : (y : X) → Has xs y → (before after : List X) → Has (before ++ (x ∷ after)) y → Has (before ++ after) y
    other y h before after there = by_case (Has_beside before after x y there)
      where
        by_case : (x ≡ y) ⊎ Has (before ++ after) y → Has (before ++ after) y
        by_case (inl e) = absurd (apart.0 (subst (λ z. Has xs z) (sym e) h))
        by_case (inr r) = r

-- the numbers below n
upto : ℕ → List ℕ
upto zero = []
upto (suc n) = n ∷ upto n

upto-length : (n : ℕ) → length (upto n) ≡ n
unfolding upto
upto-length zero = refl
upto-length (suc n) = ap suc (upto-length n)

upto-Has : (n k : ℕ) → k < n → Has (upto n) k
unfolding upto
upto-Has zero k low = absurd (omega arith)
upto-Has (suc n) k low = by_case (cases_eq n k) (λ less. upto-Has n k less)
  where
    by_case : (n ≡ k) ⊎ (n ≡ k → ⊥) → (k < n → Has (upto n) k) → Has (n ∷ upto n) k
    by_case (inl e) less = inl e
    by_case (inr other) less = inr (less (omega arith))

-- different numbers below n are at most n
pub Apart_below : (n : ℕ) (xs : List ℕ) → Apart xs → ((k : ℕ) → Has xs k → k < n) → length xs ≤ n
Apart_below n xs apart low = subst (λ (m : ℕ). length xs ≤ m) (upto-length n) (Apart_within xs (upto n) apart (λ k h. upto-Has n k (low k h)))

-- whether a number stands in a list
pub find_number : (xs : List ℕ) (k : ℕ) → Has xs k ⊎ (Has xs k → ⊥)
find_number [] k = inr (λ h. h)
find_number (x ∷ xs) k = by_head (cases_eq x k) (find_number xs k)
  where
    by_head : (x ≡ k) ⊎ (x ≡ k → ⊥) → Has xs k ⊎ (Has xs k → ⊥) → Has (x ∷ xs) k ⊎ (Has (x ∷ xs) k → ⊥)
    by_head (inl e) rest = inl (inl e)
    by_head (inr other) (inl h) = inl (inr h)
    by_head (inr other) (inr none) = inr (λ h. neither h)
      where
        neither : Has (x ∷ xs) k → ⊥
        neither (inl e) = other e
        neither (inr h) = none h

-- one element stands in one place
pub Apart_at : {X : Type 0} (xs : List X) (i j : ℕ) (x : X) → Apart xs → slice_get xs i ≡ Some x → slice_get xs j ≡ Some x → i ≡ j
Apart_at [] i j x apart e f = absurd (cc)
Apart_at (z ∷ xs) zero zero x apart e f = refl
Apart_at (z ∷ xs) zero (suc j) x apart e f = let here : z ≡ x = cc in absurd (apart.0 (subst (λ y. Has xs y) (sym here) (at_Has xs j x f)))
Apart_at (z ∷ xs) (suc i) zero x apart e f = let here : z ≡ x = cc in absurd (apart.0 (subst (λ y. Has xs y) (sym here) (at_Has xs i x e)))
Apart_at (z ∷ xs) (suc i) (suc j) x apart e f = ap suc (Apart_at xs i j x apart.1 e f)

-- a new element behind the others
pub Apart-push : {X : Type 0} (xs : List X) (x : X) → Apart xs → (Has xs x → ⊥) → Apart (xs ++ x ∷ [])
Apart-push [] x apart new = ((λ h. h), tt)
Apart-push {X} (z ∷ xs) x apart new = ((λ h. by_part (Has-append_cases xs (x ∷ []) z h)), Apart-push xs x apart.1 (λ h. new (inr h)))
  where
    by_part : Has xs z ⊎ Has (x ∷ []) z → ⊥
    by_part (inl front) = apart.0 front
    by_part (inr (inl e)) = new (inl (sym e))
    by_part (inr (inr none)) = none
