-- A search begins.
use Rattle.std.proofs.Common.{◌≡◌, ◌⊎◌, inl, inr, ℕ, ◌<◌, ◌≤◌, zero, suc, Bool, false, List, [], ◌∷◌, ◌++◌, Option, None, Some, IfSome, length, slice_get, refl, sym, ap, ◌∙◌, subst, arith}
use Rattle.std.specs.List.{list_any}
use Rattle.std.proofs.lemmas.Option.{same_Some}
use Rattle.fst_keys.specs.Keys.{with_key}
use Rattle.fst_semiring.specs.Cost.{Cost}
use Rattle.fst_semiring.specs.declared.arc_type.ArcType.{ArcType}
use Rattle.fst_machine.specs.BreadthFirst.{Has}
use Rattle.fst_machine.specs.Graph.{Graph}
use Rattle.fst_setops.specs.Closing.{IsNowhere}
use Rattle.fst_setops.specs.Kept.{AreSlots, IsKnown, IsKnownTwice, IsPutOrCovered, Node, Slot, word_total}
use Rattle.fst_setops.specs.Led.{begin_of}
use Rattle.fst_setops.specs.PairNumbers.{same_pair}
use Rattle.fst_setops.specs.Separating.{Pair}
use Rattle.fst_setops.specs.Sought.{AreWords, HasWord, IsSought}
use Rattle.fst_setops.proofs.Searching.{search_begins}

-- the first pair is put
pub first_pair : (limit : ℕ) (old new : List (Pair ℕ ℕ)) (key : Pair ℕ ℕ) (o : Option (ℕ × Bool)) → 0 < limit → old ≡ [] → IfSome o (λ r. new ≡ with_key same_pair old key) → (o ≡ None → (limit ≤ length old) × (list_any (same_pair key) old ≡ false)) → new ≡ key ∷ []
first_pair limit old new key None some empty put full = absurd (let f = (full refl).0 in omega (arith, f, some, ap length empty))
first_pair limit old new key (Some r) some empty put full = put ∙ ap (λ ps. with_key same_pair ps key) empty

-- and the first word
pub first_put : {V : Type 0} (kind : ArcType) (value : V → Cost) (old new : List (Node V)) (n : Node V) → old ≡ [] → IsPutOrCovered kind value old new n → new ≡ n ∷ []
first_put kind value old new n empty (inl h) = h ∙ ap (λ ns. ns ++ n ∷ []) empty
first_put {V} kind value old new n empty (inr h) = absurd (by h.1)
  where
    never : (i : ℕ) (m : Node V) → slice_get old i ≡ Some m → ⊥
    never i m at = let f : None ≡ Some m = sym (ap (λ ns. slice_get ns i) empty) ∙ at in cc

    by : IsKnown kind value old n.pair n.first n.second ⊎ IsKnownTwice kind value old n.pair → ⊥
    by (inl k) = never k.place k.at.node k.at.there
    by (inr t) = never t.one t.apart.first.node t.apart.first.there

pub sought_begins : {V : Type 0} (kind : ArcType) (value : V → Cost) (g h : Graph ℕ) (limit : ℕ) (pairs : List (Pair ℕ ℕ)) (slots : List Slot) (nodes : List (Node V)) (n : Node V) → 0 < limit → nodes ≡ n ∷ [] → n.pair ≡ 0 → pairs ≡ record { first = g.start; second = h.start } ∷ []
    → value n.first ≡ begin_of kind g.start → value n.second ≡ begin_of kind h.start → AreSlots kind value nodes slots → length slots ≡ 1 → word_total slots ≡ length nodes → IsSought kind value g h limit pairs slots nodes 0 0
sought_begins {V} kind value g h limit pairs slots nodes n some one zeroth pair first second kept size total =
    subst (λ ps. IsSought kind value g h limit ps slots nodes 0 0) (sym pair) (subst (λ ns. IsSought kind value g h limit (record { first = g.start; second = h.start } ∷ []) slots ns 0 0) (sym one) (record {
      searching = search_begins kind g h;
      sound = record { kept = subst (λ ns. AreSlots kind value ns slots) one kept; size = size; total = total ∙ ap length one; few = omega (arith, some) };
      apart = ((λ never. never), tt);
      nowhere = λ p has z. by_has p has z;
      words = words;
    }))
  where
    by_has : (p : Pair ℕ ℕ) → Has (record { first = g.start; second = h.start } ∷ []) p → IsNowhere p → (g.start ≡ None) × (h.start ≡ None)
    by_has p (inl e) z = (ap (λ (q : Pair ℕ ℕ). q.first) e ∙ z.0, ap (λ (q : Pair ℕ ℕ). q.second) e ∙ z.1)
    by_has p (inr never) z = absurd never

    words : AreWords kind value g h (record { first = g.start; second = h.start } ∷ []) (n ∷ [])
    words zero m at =
        subst (HasWord kind value g h (record { first = g.start; second = h.start } ∷ []) (n ∷ []) 0) (same_Some n m at) (record {
          word = [];
          there = refl;
          is = record { pair = ap (slice_get (record { first = g.start; second = h.start } ∷ [])) zeroth; first = first; second = second };
          short = omega arith;
          parent = λ low. absurd (omega (arith, low));
        })
    words (suc i) m at = absurd (cc)
