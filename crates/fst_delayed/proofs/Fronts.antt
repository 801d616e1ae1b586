-- The first names of a list, and names that are put after others.
use Rattle.std.proofs.Common.{◌≡◌, ◌⊎◌, inl, inr, ℕ, zero, suc, ◌+◌, ◌<◌, Bool, List, [], ◌∷◌, ◌++◌, Option, None, Some, slice_get, take, sym, ap, ◌∙◌, subst, append_assoc, arith}
use Rattle.std.specs.Bool.{Decides}
use Rattle.std.proofs.lemmas.List.{take_more}
use Rattle.std.proofs.lemmas.Option.{get_or_from_slice_get, same_Some, slice_get_within}
use Rattle.fst_keys.specs.Keys.{with_key}
use Rattle.fst_machine.specs.BreadthFirst.{Apart, Grows, Has}
use Rattle.fst_machine.proofs.Elements.{Apart-push, Apart_at, Has-append_cases, at_Has}
use Rattle.fst_walk.proofs.Keys.{put_grows}

module _ {N : Type 0} where
  pub front_has : (ns : List N) (count i : ℕ) (n : N) → i < count → slice_get ns i ≡ Some n → Has (take count ns) n
  front_has ns zero i n low at = absurd (omega (arith, low))
  front_has [] (suc c) i n low at = absurd (let wrong : ◌≡◌ {A = Option N} None (Some n) = at in cc)
  front_has (m ∷ ns) (suc c) zero n low at = inl (same_Some m n at)
  front_has (m ∷ ns) (suc c) (suc i) n low at = inr (front_has ns c i n (omega (arith, low)) at)

  pub front_at : (ns : List N) (count : ℕ) (n : N) → Has (take count ns) n → (i : ℕ) × (slice_get ns i ≡ Some n) × (i < count)
  front_at ns zero n h = absurd h
  front_at [] (suc c) n h = absurd h
  front_at (m ∷ ns) (suc c) n (inl e) = (0, ap Some e, omega arith)
  front_at (m ∷ ns) (suc c) n (inr h) = let r = front_at ns c n h in (suc r.0, r.1, omega (arith, r.2))

  pub Apart-take : (ns : List N) (count : ℕ) → Apart ns → Apart (take count ns)
  Apart-take ns zero apart = tt
  Apart-take [] (suc c) apart = tt
  Apart-take (m ∷ ns) (suc c) apart = ((λ h. let r = front_at ns c m h in apart.0 (at_Has ns r.0 m r.1)), Apart-take ns c apart.1)

  module _ (eq : N → N → Bool) (same : (x y : N) → Decides (eq x y) (x ≡ y)) where
    -- a name that is not there is put after the others
    pub put_new : (names new : List N) (n : N) → (Has names n → ⊥) → new ≡ with_key eq names n → new ≡ names ++ n ∷ []
    put_new names new n absent put = by (put_grows eq same names new n put)
      where
        by : Grows names (n ∷ []) new → new ≡ names ++ n ∷ []
        by (inl old) = absurd (absent old.0)
        by (inr fresh) = sym fresh.1

    -- and so is the next one of other names
    pub put_next : (old more names new : List N) (count i : ℕ) (n : N) → Apart more → ((m : N) → Has old m → Has (take count more) m → ⊥) → i < count → slice_get more i ≡ Some n
        → names ≡ old ++ take i more → Apart names → new ≡ with_key eq names n → (new ≡ old ++ take (i + 1) more) × Apart new
    put_next old more names new count i n once far low at is apart put =
        let behind : new ≡ names ++ n ∷ [] = put_new names new n absent put in (
          behind ∙ (ap (λ (ns : List N). ns ++ n ∷ []) is ∙ (append_assoc old (take i more) (n ∷ []) ∙ ap (λ (ns : List N). old ++ ns) (sym longer))),
          subst Apart (sym behind) (Apart-push names n apart absent),
        )
      where
        longer : take (i + 1) more ≡ take i more ++ n ∷ []
        longer = take_more more i n (slice_get_within more i n at) ∙ ap (λ (m : N). take i more ++ m ∷ []) (get_or_from_slice_get more i n n at)

        by_part : Has old n ⊎ Has (take i more) n → ⊥
        by_part (inl h) = far n h (front_has more count i n low at)
        by_part (inr h) = let r = front_at more i n h in let one = Apart_at more r.0 i n once r.1 at in omega (arith, r.2, one)

        absent : Has names n → ⊥
        absent h = by_part (Has-append_cases old (take i more) n (subst (λ (ns : List N). Has ns n) is h))
