-- What the rule says of views, where words and views change.
use Rattle.std.proofs.Common.{◌≡◌, ◌≢◌, ⊎_elim, ℕ, ◌<◌, List, [], ◌∷◌, ◌++◌, length, set, get_or, length-set, get_or-set_other, refl, sym, ap, ◌∙◌, subst, arith}
use Rattle.std.specs.List.{Contains}
use Rattle.std.proofs.lemmas.List.Elements.{Contains-append_cases, Contains-push_cases}
use mathlib.Core.Option.{some}
use lib.ListN.{get_elem?}
use Rattle.atomic_table.specs.Table.{State}
use Rattle.atomic_table.proofs.Lists.{at_set}
use Rattle.fst_claims.specs.declared.view.View.{View}
use Rattle.fst_claims.specs.Counts.{times, total}
use Rattle.fst_claims.specs.Rule.{Fits, Kept, Stands}
use Rattle.fst_claims.specs.Plays.{finds}
use Rattle.fst_claims.proofs.Counts.{total-set}

-- what stands in words that are set still stands when a word that is 0 changes
pub stands_set : (words : List ℕ) (i n : ℕ) (found : List (ℕ × ℕ)) → get_or words i 0 ≡ 0 → Stands words found → Stands (set words i n) found
stands_set words i n found blank st place code h =
    let s = st place code h in
    let far : place ≢ i = λ e. let z : code ≡ 0 = sym s.2 ∙ (ap (λ (j : ℕ). get_or words j 0) e ∙ blank) in omega (arith, z, s.1) in
    (omega (arith, s.0, length-set words i n), s.1, get_or-set_other words i place n 0 far ∙ s.2)

pub stands_one : (words : List ℕ) (found : List (ℕ × ℕ)) (i : ℕ) → i < length words → 0 < get_or words i 0 → Stands words found → Stands words (found ++ (i, get_or words i 0) ∷ [])
stands_one words found i lt full st place code h = ⊎_elim
    (λ (old : Contains found (place, code)). st place code old)
    (λ (same : (i, get_or words i 0) ≡ (place, code)). subst (λ (x : ℕ × ℕ). (x.0 < length words) × (0 < x.1) × (get_or words x.0 0 ≡ x.1)) same (lt, full, refl))
    (Contains-push_cases found (i, get_or words i 0) (place, code) h)

pub stands_both : (words : List ℕ) (xs ys : List (ℕ × ℕ)) → Stands words xs → Stands words ys → Stands words (xs ++ ys)
stands_both words xs ys sx sy place code h = ⊎_elim (λ (l : Contains xs (place, code)). sx place code l) (λ (r : Contains ys (place, code)). sy place code r) (Contains-append_cases xs ys (place, code) h)

pub stands_none : (words : List ℕ) → Stands words []
stands_none words place code h = absurd (omega (arith, h.1))

-- the views fit where one is changed for another that fits
pub fits_all : (p : ℕ) (words : List ℕ) (vs : List View) (id : ℕ) (w : View) → ((j : ℕ) (u : View) → get_elem? vs j ≡ some u → Fits p words u) → Fits p words w
    → (j : ℕ) (u : View) → get_elem? (set vs id w) j ≡ some u → Fits p words u
fits_all p words vs id w others mine j u e = ⊎_elim
    (λ (x : (j ≡ id) × (w ≡ u)). subst (Fits p words) x.1 mine)
    (λ (x : (j ≢ id) × (get_elem? vs j ≡ some u)). others j u x.1)
    (at_set vs id j w u e)

pub fits_find : (p : ℕ) (words : List ℕ) (v : View) (i : ℕ) → 0 < v.parts → i < length words → 0 < get_or words i 0 → Fits p words v → Fits p words (finds v i (get_or words i 0))
fits_find p words v i has lt full f = record { stands = stands_one words v.found i lt full f.stands; idle = λ e. absurd (omega (arith, e)); sized = f.sized }

total_same : {X : Type 0} (f : X → ℕ) (xs : List X) (i : ℕ) (x y : X) → get_elem? xs i ≡ some x → f y ≡ f x → total f (set xs i y) ≡ total f xs
total_same f xs i x y at e = omega (arith, total-set f xs i x y at, e)

-- a view changes in its finds alone
pub keep_view : (p : ℕ) (s : State (Unit {0}) View) → Kept p s → (id : ℕ) (v w : View) → get_elem? s.views id ≡ some v → w.won ≡ v.won → w.parts ≡ v.parts → Fits p s.words w
    → Kept p (record { words = s.words; homes = s.homes; views = set s.views id w })
keep_view p s k id v w at won parts fits = record {
  sized = k.sized;
  won_once = λ c pos. total_same (λ u. times c u.won) s.views id v w at (ap (times c) won) ∙ k.won_once c pos;
  codes = total_same (λ u. times 0 u.won) s.views id v w at (ap (times 0) won) ∙ k.codes;
  probed = k.probed;
  parts = total_same (λ u. u.parts) s.views id v w at parts ∙ k.parts;
  each = fits_all p s.words s.views id w k.each fits;
}
