-- How often a number stands in a list, and sums over views.
use Rattle.std.proofs.Common.{◌≡◌, ◌≢◌, ℕ, zero, suc, ◌+◌, ◌<◌, ◌≤◌, Bool, cond, List, [], ◌∷◌, ◌++◌, length, set, get_or, refl, sym, ap, ◌∙◌, subst, eq-eqb, ne_eqb, arith}
use Rattle.std.specs.List.{AllPairs, Contains}
use mathlib.Core.Logic.{dite}
use mathlib.Core.Option.{some, some-ne-none, some-injective}
use native.Mathlib.Decide.{ℕ_discrete}
use lib.ListN.{get_elem?}
use Rattle.fst_claims.specs.Counts.{one_if, times, total}

pub one_same : (c : ℕ) → one_if c c ≡ 1
one_same c = subst (λ (b : Bool). ◌≡◌ {A = ℕ} (cond b 1 0) 1) (sym (eq-eqb c c refl)) refl

pub one_other : (c x : ℕ) → c ≢ x → one_if c x ≡ 0
one_other c x n = subst (λ (b : Bool). ◌≡◌ {A = ℕ} (cond b 1 0) 0) (sym (ne_eqb c x n)) refl

pub times-append : (c : ℕ) (xs ys : List ℕ) → times c (xs ++ ys) ≡ times c xs + times c ys
times-append c [] ys = omega arith
times-append c (x ∷ xs) ys = omega (arith, times-append c xs ys)

pub times-one : (c x : ℕ) (xs : List ℕ) → times c (xs ++ x ∷ []) ≡ times c xs + one_if c x
times-one c x xs = omega (arith, times-append c xs (x ∷ []))

pub times-set : (c : ℕ) (xs : List ℕ) (i y : ℕ) → i < length xs → times c (set xs i y) + one_if c (get_or xs i 0) ≡ times c xs + one_if c y
times-set c [] i y lt = absurd (omega arith)
times-set c (x ∷ xs) zero y lt = omega arith
times-set c (x ∷ xs) (suc i) y lt = omega (arith, times-set c xs i y (omega arith))

-- a number that stands in a place
pub times-here : (c : ℕ) (xs : List ℕ) (i : ℕ) → i < length xs → get_or xs i 0 ≡ c → 0 < times c xs
times-here c [] i lt e = absurd (omega arith)
times-here c (x ∷ xs) zero lt e = omega (arith, subst (λ (y : ℕ). one_if c y ≡ 1) (sym e) (one_same c))
times-here c (x ∷ xs) (suc i) lt e = omega (arith, times-here c xs i (omega arith) e)

pub times-none : (c : ℕ) (xs : List ℕ) → ((i : ℕ) → i < length xs → get_or xs i 0 ≢ c) → times c xs ≡ 0
times-none c [] none = refl
times-none c (x ∷ xs) none = omega (arith, one_other c x (λ e. none 0 (omega arith) (sym e)), times-none c xs (λ i lt. none (suc i) (omega (arith, lt))))

-- a number that stands in one place at most
pub times-once : (c : ℕ) (xs : List ℕ) → ((i j : ℕ) → i < length xs → j < length xs → get_or xs i 0 ≡ c → get_or xs j 0 ≡ c → i ≡ j) → times c xs ≤ 1
times-once c [] once = omega arith
times-once c (x ∷ xs) once = dite (ℕ_discrete c x)
    (λ same. let rest : times c xs ≡ 0 = times-none c xs (λ i lt e. let wrong : 0 ≡ suc i = once 0 (suc i) (omega arith) (omega (arith, lt)) (sym same) e in omega (arith, wrong)) in
    omega (arith, rest, subst (λ (y : ℕ). one_if c y ≡ 1) same (one_same c)))
    (λ other. let rest : times c xs ≤ 1 = times-once c xs (λ i j lt lt' e e'. let s : suc i ≡ suc j = once (suc i) (suc j) (omega (arith, lt)) (omega (arith, lt')) e e' in omega (arith, s)) in
    omega (arith, rest, one_other c x other))

-- where it stands
pub times-at : (c : ℕ) (xs : List ℕ) → 0 < times c xs → (i : ℕ) × (i < length xs) × (get_or xs i 0 ≡ c)
times-at c [] more = absurd (omega arith)
times-at c (x ∷ xs) more = dite (ℕ_discrete c x)
    (λ same. (0, omega arith, sym same))
    (λ other. let rest = times-at c xs (omega (arith, one_other c x other)) in (suc rest.0, omega (arith, rest.1), rest.2))

get_or-default : (xs : List ℕ) (i c d : ℕ) → i < length xs → get_or xs i c ≡ get_or xs i d
get_or-default [] i c d lt = absurd (omega arith)
get_or-default (x ∷ xs) zero c d lt = refl
get_or-default (x ∷ xs) (suc i) c d lt = get_or-default xs i c d (omega arith)

pub times-Contains : (c : ℕ) (xs : List ℕ) → 0 < times c xs → Contains xs c
times-Contains c xs more = let at = times-at c xs more in (at.0, at.1, get_or-default xs at.0 c 0 at.1 ∙ at.2)

pub Contains-times : (c : ℕ) (xs : List ℕ) → Contains xs c → 0 < times c xs
Contains-times c xs h = times-here c xs h.0 h.1 (get_or-default xs h.0 0 c h.1 ∙ h.2)

-- numbers of which none stands twice
pub pairs : (xs : List ℕ) → ((c : ℕ) → times c xs ≤ 1) → AllPairs (λ a b. a ≢ b) xs
pairs [] once i j d lt within = absurd (omega (arith, within))
pairs (x ∷ xs) once zero zero d lt within = absurd (omega (arith, lt))
pairs (x ∷ xs) once zero (suc j) d lt within =
    λ e. let l : j < length xs = omega (arith, within) in
    let there : 0 < times x xs = times-here x xs j l (get_or-default xs j 0 d l ∙ sym e) in
    omega (arith, once x, there, one_same x)
pairs (x ∷ xs) once (suc i) zero d lt within = absurd (omega (arith, lt))
pairs (x ∷ xs) once (suc i) (suc j) d lt within = pairs xs (λ c. omega (arith, once c)) i j d (omega (arith, lt)) (omega (arith, within))

-- the one list is the other without this number in one of its places
Without : ℕ → List ℕ → List ℕ → Type 0
Without x ys zs = (length ys ≡ suc (length zs)) × ((c : ℕ) → times c zs + one_if c x ≡ times c ys)

is_without : (x : ℕ) (ys : List ℕ) → 0 < times x ys → (zs : List ℕ) × Without x ys zs
unfolding Without
is_without x [] more = absurd (omega arith)
is_without x (y ∷ ys) more = dite (ℕ_discrete x y)
    (λ same. (ys, (refl, λ c. let e : one_if c x ≡ one_if c y = ap (one_if c) same in omega (arith, e))))
    (λ other. let rest = is_without x ys (omega (arith, one_other x y other)) in (y ∷ rest.0, (ap suc rest.1.0, λ c. omega (arith, rest.1.1 c))))

-- a list that has nothing more often than another is no longer
pub fewer : (xs ys : List ℕ) → ((c : ℕ) → times c xs ≤ times c ys) → length xs ≤ length ys
unfolding Without
fewer [] ys less = omega arith
fewer (x ∷ xs) ys less =
    let w = is_without x ys (omega (arith, less x, one_same x)) in
    let rest : length xs ≤ length w.0 = fewer xs w.0 (λ c. omega (arith, less c, w.1.1 c)) in
    omega (arith, rest, w.1.0)

module _ {X : Type 0} (f : X → ℕ) where
  pub total-set : (xs : List X) (i : ℕ) (x y : X) → get_elem? xs i ≡ some x → total f (set xs i y) + f x ≡ total f xs + f y
  total-set [] i x y e = absurd (some-ne-none x (sym e))
  total-set (z ∷ xs) zero x y e = let s : f z ≡ f x = ap f (some-injective z x e) in omega (arith, s)
  total-set (z ∷ xs) (suc i) x y e = omega (arith, total-set xs i x y e)

  pub total-snoc : (xs : List X) (x : X) → total f (xs ++ x ∷ []) ≡ total f xs + f x
  total-snoc [] x = omega arith
  total-snoc (z ∷ xs) x = omega (arith, total-snoc xs x)

  pub total-here : (xs : List X) (i : ℕ) (x : X) → get_elem? xs i ≡ some x → f x ≤ total f xs
  total-here [] i x e = absurd (some-ne-none x (sym e))
  total-here (z ∷ xs) zero x e = let s : f z ≡ f x = ap f (some-injective z x e) in omega (arith, s)
  total-here (z ∷ xs) (suc i) x e = omega (arith, total-here xs i x e)

  -- two different ones have no more than all
  pub total-two : (xs : List X) (i j : ℕ) (x y : X) → get_elem? xs i ≡ some x → get_elem? xs j ≡ some y → i ≢ j → f x + f y ≤ total f xs
  total-two [] i j x y e e' n = absurd (some-ne-none x (sym e))
  total-two (z ∷ xs) zero zero x y e e' n = absurd (n refl)
  total-two (z ∷ xs) zero (suc j) x y e e' n = let s : f z ≡ f x = ap f (some-injective z x e) in omega (arith, s, total-here xs j y e')
  total-two (z ∷ xs) (suc i) zero x y e e' n = let s : f z ≡ f y = ap f (some-injective z y e') in omega (arith, s, total-here xs i x e)
  total-two (z ∷ xs) (suc i) (suc j) x y e e' n = omega (arith, total-two xs i j x y e e' (λ s. n (ap suc s)))

  -- somewhere there is one with something
  pub total-some : (xs : List X) → 0 < total f xs → (i : ℕ) × (x : X) × (get_elem? xs i ≡ some x) × (0 < f x)
  total-some [] some' = absurd (omega arith)
  total-some (z ∷ xs) some' = dite (ℕ_discrete (f z) 0)
      (λ none. let rest = total-some xs (omega (arith, none)) in (suc rest.0, rest.1, rest.2, rest.3))
      (λ more. (0, z, refl, omega (arith, more)))

  -- where all but one have none, that one has all
  pub total-alone : (xs : List X) (i : ℕ) (x : X) → get_elem? xs i ≡ some x → ((j : ℕ) (y : X) → get_elem? xs j ≡ some y → j ≢ i → f y ≡ 0) → total f xs ≡ f x
  total-alone [] i x e none = absurd (some-ne-none x (sym e))
  total-alone (z ∷ xs) zero x e none =
      let s : f z ≡ f x = ap f (some-injective z x e) in
      let rest : total f xs ≡ 0 = nothing xs (λ j y there. none (suc j) y there (λ w. omega (arith, w))) in
      omega (arith, s, rest)
    where
      nothing : (ys : List X) → ((j : ℕ) (y : X) → get_elem? ys j ≡ some y → f y ≡ 0) → total f ys ≡ 0
      nothing [] none' = refl
      nothing (y ∷ ys) none' = omega (arith, none' 0 y refl, nothing ys (λ j u there. none' (suc j) u there))
  total-alone (z ∷ xs) (suc i) x e none =
      let first : f z ≡ 0 = none 0 z refl (λ w. omega (arith, w)) in
      omega (arith, first, total-alone xs i x e (λ j y there n. none (suc j) y there (λ w. n (omega (arith, w)))))
