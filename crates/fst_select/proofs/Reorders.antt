-- A frontier does not ask in which order its fronts stand.
use Rattle.std.proofs.Common.{◌≡◌, ◌⊎◌, inl, inr, ℕ, ◌<◌, zero, suc, List, [], ◌∷◌, ◌++◌, Some, length, slice_get, refl, ap, subst, arith}
use Rattle.std.specs.List.{swap}
use Rattle.std.specs.List.Sorted.{IsPermutation}
use Rattle.std.proofs.lemmas.List.Sorted.{IsPermutation-append, IsPermutation-keeps, IsPermutation-sym}
use Rattle.std.proofs.lemmas.Option.{same_Some}
use Rattle.fst_semiring.specs.Cost.{Cost}
use Rattle.fst_machine.specs.BreadthFirst.{Has}
use Rattle.fst_machine.proofs.Elements.{Has_at, at_Has}
use Rattle.fst_nbest.specs.Words.{WeightedWord}
use Rattle.fst_nbest.proofs.Covering.{Has-permutation, moved_from, moved_once}
use Rattle.fst_select.specs.Frontier.{AllDisjoint, Covers, Disjoint, Front, IsFrontier}

-- those in two places are disjoint
abbrev PlacesDisjoint : List Front → Type 0
PlacesDisjoint es = (i j : ℕ) (e f : Front) → slice_get es i ≡ Some e → slice_get es j ≡ Some f → (i ≡ j → ⊥) → Disjoint e f

to_places : (es : List Front) → AllDisjoint es → PlacesDisjoint es
to_places [] h i j e f at_i at_j other = absurd (cc)
to_places (x ∷ es) h zero zero e f at_i at_j other = absurd (other refl)
to_places (x ∷ es) h zero (suc j) e f at_i at_j other = subst (λ (z : Front). Disjoint z f) (same_Some x e at_i) (h.0 f (at_Has es j f at_j))
to_places (x ∷ es) h (suc i) zero e f at_i at_j other = λ z in_e in_f. subst (λ (y : Front). Disjoint y e) (same_Some x f at_j) (h.0 e (at_Has es i e at_i)) z in_f in_e
to_places (x ∷ es) h (suc i) (suc j) e f at_i at_j other = to_places es h.1 i j e f at_i at_j (λ s. other (ap suc s))

from_places : (es : List Front) → PlacesDisjoint es → AllDisjoint es
from_places [] h = tt
from_places (x ∷ es) h = (
  (λ f has. let at = Has_at es f has in h 0 (suc at.0) x f refl at.1 (λ s. cc)),
  from_places es (λ i j e f at_i at_j other. h (suc i) (suc j) e f at_i at_j (λ s. other (omega (arith, s)))),
)

pub disjoint_permuted : (xs ys : List Front) → IsPermutation xs ys → AllDisjoint xs → AllDisjoint ys
disjoint_permuted xs ys p apart = from_places ys (IsPermutation-keeps xs PlacesDisjoint (to_places xs apart) step ys p)
  where
    step : (l : List Front) (a b : ℕ) → a < length l → b < length l → PlacesDisjoint l → PlacesDisjoint (swap l a b)
    step l a b low_a low_b h i j e f at_i at_j other =
        let one = moved_from l a b i e low_a low_b at_i in
        let two = moved_from l a b j f low_a low_b at_j in
        h one.0 two.0 e f one.2 two.2 (λ same. other (moved_once a b i j one.0 two.0 one.1 two.1 same))

module _ (Weighs : List ℕ → Cost → Type 0) where
  pub frontier_permuted : (listed : List WeightedWord) (xs ys : List Front) → IsPermutation xs ys → IsFrontier Weighs listed xs → IsFrontier Weighs listed ys
  frontier_permuted listed xs ys p h = record {
    ascends = h.ascends;
    says = h.says;
    keys = λ e has. h.keys e (Has-permutation xs ys e p has);
    apart = disjoint_permuted xs ys p h.apart;
    after = λ e b a has. h.after e b a (Has-permutation xs ys e p has);
    all = λ b says. by_part b (h.all b says);
  }
    where
      by_part : (b : WeightedWord) → Has listed b ⊎ ((e : Front) × Has xs e × Covers e b.word) → Has listed b ⊎ ((e : Front) × Has ys e × Covers e b.word)
      by_part b (inl has) = inl has
      by_part b (inr (e, has, inside)) = inr (e, Has-permutation ys xs e (IsPermutation-sym xs ys p) has, inside)

  -- nor does one whose fronts stand in two lists
  pub frontier_of_two : (listed : List WeightedWord) (xs ys us vs : List Front) → IsPermutation xs ys → IsPermutation us vs → IsFrontier Weighs listed (xs ++ us) → IsFrontier Weighs listed (ys ++ vs)
  frontier_of_two listed xs ys us vs p q h = frontier_permuted listed (xs ++ us) (ys ++ vs) (IsPermutation-append xs ys us vs p q) h
