-- The best weight of the elements of a list is the least value of what they weigh.
use Rattle.std.proofs.Common.{◌≡◌, ◌≢◌, ◌⊎◌, inl, inr, List, [], ◌∷◌, refl, sym, ap, ◌∙◌, subst}
use Rattle.fst_semiring.specs.Cost.{Cost, infinite, plus}
use Rattle.fst_semiring.specs.Semiring.{times}
use Rattle.fst_semiring.specs.declared.arc_type.ArcType.{ArcType}
use Rattle.fst_semiring.proofs.Laws.{times_keeps, times_zero}
use Rattle.fst_semiring.proofs.Order.{plus_comm, plus_infinite, plus_picks, plus_trans}
use Rattle.fst_machine.specs.BreadthFirst.{Has}
use Rattle.fst_machine.specs.Distance.{IsLeast}
use Rattle.fst_machine.proofs.Least.{least_either, least_one, least_same}
use Rattle.fst_machine.proofs.Weights.{one_least}
use Rattle.fst_determinize.specs.Ways.{best_by}
use Rattle.fst_determinize.proofs.Elements.{Alike}

-- a least value that is not Zero is reached
pub least_reached : (A : Cost → Type 0) (d : Cost) → IsLeast A d → d ≢ infinite → A d × ((v : Cost) → A v → plus d v ≡ d)
least_reached A d (inl none) n = absurd (n none.1)
least_reached A d (inr some) n = some

-- where a value that is not Zero is reached, the least is not Zero
pub least_some : (A : Cost → Type 0) (d w : Cost) → IsLeast A d → A w → w ≢ infinite → A d × (d ≢ infinite) × (plus d w ≡ d)
least_some A d w (inl none) h n = absurd (none.0 w h)
least_some A d w (inr some) h n = (some.0, (λ e. n (sym (plus_infinite w) ∙ (plus_comm w infinite ∙ (ap (λ z. plus z w) (sym e) ∙ (some.1 w h ∙ e))))), some.1 w h)

-- what is reached is just c Times what another property reaches, or no better than such a value
pub least_through : (kind : ArcType) (c : Cost) (A B : Cost → Type 0) (d : Cost) → IsLeast B d → ((w : Cost) → B w → A (times kind c w))
    → ((w : Cost) → A w → (v : Cost) × B v × (plus (times kind c v) w ≡ times kind c v)) → IsLeast A (times kind c d)
least_through kind c A B d (inl none) to back = inl ((λ w h. let b = back w h in none.0 b.0 b.1), ap (times kind c) none.1 ∙ times_zero kind c)
least_through kind c A B d (inr some) to back = inr (to d some.0, λ w h. let b = back w h in plus_trans (times kind c d) (times kind c b.0) w (times_keeps kind c d b.0 (some.1 b.0 b.1)) b.2)

module _ {X : Type 0} (weigh : X → Cost) where
  -- some element weighs this
  abbrev pub Weighs : List X → Cost → Type 0
  Weighs xs w = (x : X) × Has xs x × (w ≡ weigh x)

  pub best_least : (xs : List X) → IsLeast (Weighs xs) (best_by weigh xs)
  best_least [] = inl ((λ w h. h.1), refl)
  best_least (x ∷ xs) =
      least_same (λ w. (w ≡ weigh x) ⊎ Weighs xs w) (Weighs (x ∷ xs)) (best_by weigh (x ∷ xs)) there back
      (least_either (λ w. w ≡ weigh x) (Weighs xs) (weigh x) (best_by weigh xs) (least_one (λ w. w ≡ weigh x) (weigh x) refl (λ w e. e)) (best_least xs))
    where
      there : (w : Cost) → (w ≡ weigh x) ⊎ Weighs xs w → Weighs (x ∷ xs) w
      there w (inl e) = (x, inl refl, e)
      there w (inr h) = (h.0, inr h.1, h.2)

      by_part : (w : Cost) (z : X) → Has (x ∷ xs) z → w ≡ weigh z → (w ≡ weigh x) ⊎ Weighs xs w
      by_part w z (inl same) e = inl (e ∙ ap weigh (sym same))
      by_part w z (inr more) e = inr (z, more, e)

      back : (w : Cost) → Weighs (x ∷ xs) w → (w ≡ weigh x) ⊎ Weighs xs w
      back w h = by_part w h.0 h.1 h.2

  pub best_alike : (xs ys : List X) → Alike xs ys → best_by weigh xs ≡ best_by weigh ys
  best_alike xs ys h =
      one_least (Weighs ys) (best_by weigh xs) (best_by weigh ys)
      (least_same (Weighs xs) (Weighs ys) (best_by weigh xs) (λ w k. (k.0, h.there k.0 k.1, k.2)) (λ w k. (k.0, h.back k.0 k.1, k.2)) (best_least xs)) (best_least ys)

  -- what holds of Zero and of what each element weighs holds of the best
  pub best_holds : (P : Cost → Type 0) → P infinite → (xs : List X) → ((x : X) → Has xs x → P (weigh x)) → P (best_by weigh xs)
  best_holds P zero [] all = zero
  best_holds P zero (x ∷ xs) all = by_part (plus_picks (weigh x) (best_by weigh xs)) (best_holds P zero xs (λ z h. all z (inr h)))
    where
      by_part : (plus (weigh x) (best_by weigh xs) ≡ weigh x) ⊎ (plus (weigh x) (best_by weigh xs) ≡ best_by weigh xs) → P (best_by weigh xs) → P (plus (weigh x) (best_by weigh xs))
      by_part (inl e) rest = subst P (sym e) (all x (inl refl))
      by_part (inr e) rest = subst P (sym e) rest

  -- the best is no worse than what an element weighs, and is not Zero where that is not
  pub best_no_worse : (xs : List X) (x : X) → Has xs x → weigh x ≢ infinite → (best_by weigh xs ≢ infinite) × (plus (best_by weigh xs) (weigh x) ≡ best_by weigh xs)
  best_no_worse xs x h n = let l = least_some (Weighs xs) (best_by weigh xs) (weigh x) (best_least xs) (x, h, refl) n in (l.1, l.2)
