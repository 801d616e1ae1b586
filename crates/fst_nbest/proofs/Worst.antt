-- The worse of two weights, and the one total of paths whose weight is the worst of their arcs.
use Rattle.std.proofs.Common.{◌≡◌, ◌⊎◌, inl, inr, Bool, true, false, true≢false, refl, sym, ap, subst, ◌∙◌}
use Rattle.std.proofs.Common.{Ordering, Less, Equal, Greater}
use Rattle.std.specs.Ordering.{is_eq, is_le, ordering_reverse}
use Rattle.std.proofs.lemmas.Bool.{cases_Bool}
use Rattle.fst_semiring.specs.Cost.{Cost, infinite, cost_cmp, cost_total, plus, ranked, worse}
use Rattle.fst_semiring.proofs.Order.{cost_cmp_equal, cost_cmp_same, plus_comm, plus_infinite, plus_least, plus_less, plus_same, plus_trans, worse_comm, worse_picks}
use Rattle.fst_nbest.specs.Classes.{fits, reached_by}

-- what is no better is the worse
pub worse_second : (a b : Cost) → plus a b ≡ a → worse a b ≡ b
worse_second a b low = by (cost_cmp a b) low
  where
    by : (o : Ordering) → ranked o a b ≡ a → ranked o b a ≡ b
    by Less h = refl
    by Equal h = refl
    by Greater h = sym h

pub worse_above : (a b : Cost) → plus a (worse a b) ≡ a
worse_above a b = by (cost_cmp a b) refl
  where
    by : (o : Ordering) → cost_cmp a b ≡ o → plus a (ranked o b a) ≡ a
    by Less e = plus_less a b e
    by Equal e = subst (λ (c : Cost). plus a c ≡ a) (cost_cmp_equal a b e) (plus_same a)
    by Greater e = plus_same a

pub worse_above_right : (a b : Cost) → plus b (worse a b) ≡ b
worse_above_right a b = subst (λ (c : Cost). plus b c ≡ b) (worse_comm b a) (worse_above b a)

-- both are no worse than a bound where the worse is
pub worse_under : (a b c : Cost) → plus a c ≡ a → plus b c ≡ b → plus (worse a b) c ≡ worse a b
worse_under a b c one two = by (worse_picks a b)
  where
    by : (worse a b ≡ a) ⊎ (worse a b ≡ b) → plus (worse a b) c ≡ worse a b
    by (inl e) = subst (λ (w : Cost). plus w c ≡ w) (sym e) one
    by (inr e) = subst (λ (w : Cost). plus w c ≡ w) (sym e) two

-- the tests of the order
pub le_plus : (a b : Cost) → is_le (cost_cmp a b) ≡ true → plus a b ≡ a
le_plus a b holds = by (cost_cmp a b) holds
  where
    by : (o : Ordering) → is_le o ≡ true → ranked o a b ≡ a
    by Less e = refl
    by Equal e = refl
    by Greater e = absurd (true≢false (sym e))

pub plus_le : (a b : Cost) → plus a b ≡ a → is_le (cost_cmp a b) ≡ true
plus_le a b low = by (cost_cmp a b) refl
  where
    by : (o : Ordering) → cost_cmp a b ≡ o → is_le o ≡ true
    by Less e = refl
    by Equal e = refl
    by Greater e = absurd (plus_least a b low (cost_total.antisymm b a ∙ ap ordering_reverse e))

pub eq_same : (a b : Cost) → is_eq (cost_cmp a b) ≡ true → a ≡ b
eq_same a b holds = cost_cmp_equal a b (by (cost_cmp a b) holds)
  where
    by : (o : Ordering) → is_eq o ≡ true → o ≡ Equal
    by Less e = absurd (true≢false (sym e))
    by Equal e = refl
    by Greater e = absurd (true≢false (sym e))

pub same_eq : (a b : Cost) → a ≡ b → is_eq (cost_cmp a b) ≡ true
same_eq a b e = ap is_eq (subst (λ (c : Cost). cost_cmp a c ≡ Equal) e (cost_cmp_same a))

-- a path may have a rest with this weight
abbrev pub Meant : Cost → Bool → Cost → Type 0
Meant total true v = plus v total ≡ v
Meant total false v = v ≡ total

pub fits_meant : (total : Cost) (reached : Bool) (v : Cost) → fits total reached v ≡ true → Meant total reached v
fits_meant total true v holds = le_plus v total holds
fits_meant total false v holds = eq_same v total holds

pub meant_fits : (total : Cost) (reached : Bool) (v : Cost) → Meant total reached v → fits total reached v ≡ true
meant_fits total true v low = plus_le v total low
meant_fits total false v same = same_eq v total same

-- no rest weighs more than the total
pub meant_low : (total : Cost) (reached : Bool) (v : Cost) → Meant total reached v → plus v total ≡ v
meant_low total true v low = low
meant_low total false v same = subst (λ (w : Cost). plus v w ≡ v) same (plus_same v)

pub meant_solid : (total : Cost) (reached : Bool) (v : Cost) → (total ≡ infinite → ⊥) → Meant total reached v → v ≡ infinite → ⊥
meant_solid total reached v solid meant none = solid (sym (plus_infinite total) ∙ (plus_comm total infinite ∙ (ap (λ (w : Cost). plus w total) (sym none) ∙ (meant_low total reached v meant ∙ none))))

-- the first weight of a rest, and what is left behind it
pub meant_step : (total : Cost) (reached : Bool) (w v : Cost) → Meant total reached (worse w v) → (plus w total ≡ w) × Meant total (reached_by total reached w) v
meant_step total true w v low = (plus_trans w (worse w v) total (worse_above w v) low, plus_trans v (worse w v) total (worse_above_right w v) low)
meant_step total false w v same = (under, by (cases_Bool (is_eq (cost_cmp w total))))
  where
    under : plus w total ≡ w
    under = subst (λ (c : Cost). plus w c ≡ w) same (worse_above w v)

    by : (is_eq (cost_cmp w total) ≡ true) ⊎ (is_eq (cost_cmp w total) ≡ false) → Meant total (is_eq (cost_cmp w total)) v
    by (inl holds) = subst (λ (b : Bool). Meant total b v) (sym holds) (subst (λ (c : Cost). plus v c ≡ v) same (worse_above_right w v))
    by (inr other) = subst (λ (b : Bool). Meant total b v) (sym other) (picked (worse_picks w v))
      where
        picked : (worse w v ≡ w) ⊎ (worse w v ≡ v) → v ≡ total
        picked (inl e) = absurd (true≢false (sym (same_eq w total (sym e ∙ same)) ∙ other))
        picked (inr e) = sym e ∙ same

pub step_meant : (total : Cost) (reached : Bool) (w v : Cost) → plus w total ≡ w → Meant total (reached_by total reached w) v → Meant total reached (worse w v)
step_meant total true w v low rest = worse_under w v total low rest
step_meant total false w v low rest = by (cases_Bool (is_eq (cost_cmp w total)))
  where
    by : (is_eq (cost_cmp w total) ≡ true) ⊎ (is_eq (cost_cmp w total) ≡ false) → worse w v ≡ total
    by (inl holds) =
        let is : w ≡ total = eq_same w total holds in
        let under : plus v total ≡ v = subst (λ (b : Bool). Meant total b v) holds rest in
        worse_comm w v ∙ (worse_second v w (subst (λ (c : Cost). plus v c ≡ v) (sym is) under) ∙ is)
    by (inr other) =
        let is : v ≡ total = subst (λ (b : Bool). Meant total b v) other rest in
        worse_second w v (subst (λ (c : Cost). plus w c ≡ w) (sym is) low) ∙ is
