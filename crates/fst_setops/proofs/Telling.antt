-- What a search that has ended tells.
use Rattle.std.proofs.Common.{◌≡◌, inl, inr, ℕ, ◌<◌, ◌≤◌, zero, suc, true, List, [], ◌∷◌, ◌++◌, Option, None, Some, get_or, length, slice_get, sym, ap, ◌∙◌, subst, arith}
use Rattle.std.proofs.lemmas.Option.{get_or_from_slice_get, same_Some, slice_get_within}
use Rattle.fst_semiring.specs.Cost.{Cost}
use Rattle.fst_semiring.specs.Semiring.{cancels}
use Rattle.fst_semiring.specs.declared.arc_type.ArcType.{ArcType}
use Rattle.fst_machine.specs.BreadthFirst.{Has}
use Rattle.fst_machine.specs.Graph.{Graph}
use Rattle.fst_machine.specs.Machine.{most_states}
use Rattle.fst_machine.proofs.Elements.{Apart_within, Has_at, at_Has}
use Rattle.fst_trim.specs.Weighed.{IsWeighted}
use Rattle.fst_trim.specs.WordWeights.{IsSingle, SameWords}
use Rattle.fst_trim.proofs.Rearranged.{read_inside}
use Rattle.fst_setops.specs.Closing.{IsClosed, IsFirstApart, pair_of}
use Rattle.fst_setops.specs.Kept.{Node, Slot, most_words}
use Rattle.fst_setops.specs.Led.{weight_of}
use Rattle.fst_setops.specs.Separating.{HasMorePairs, IsSeparating, Pair}
use Rattle.fst_setops.specs.Sought.{AreParents, AreWeights, IsEnded, IsNoted, words_of}
use Rattle.fst_setops.proofs.Pairs.{pair_listed}
use Rattle.fst_setops.proofs.Searching.{search_ends}
use Rattle.fst_setops.proofs.Separation.{same_words, separating}
use Rattle.fst_setops.proofs.SoughtTaking.{few_words}
use Rattle.fst_setops.proofs.SoughtWords.{words_size}

-- A list at a place: what stands before it, and behind it.
record Around {X : Type 0} (xs : List X) (i : ℕ) (x : X) : Type 0 where
  before : List X
  behind : List X
  parts : xs ≡ before ++ x ∷ behind
  early : (y : X) → Has before y → (j : ℕ) × (j < i) × (slice_get xs j ≡ Some y)

around : {X : Type 0} (xs : List X) (i : ℕ) (x : X) → slice_get xs i ≡ Some x → Around xs i x
around [] i x at = absurd (cc)
around (z ∷ xs) zero x at = record { before = []; behind = xs; parts = ap (λ y. y ∷ xs) (same_Some z x at); early = λ y h. absurd h }
around {X} (z ∷ xs) (suc i) x at = by (around xs i x at)
  where
    by : Around xs i x → Around (z ∷ xs) (suc i) x
    by r = record { before = z ∷ r.before; behind = r.behind; parts = ap (λ ys. z ∷ ys) r.parts; early = λ y h. by_has y h }
      where
        by_has : (y : X) → Has (z ∷ r.before) y → (j : ℕ) × (j < suc i) × (slice_get (z ∷ xs) j ≡ Some y)
        by_has y (inl e) = (0, omega arith, ap Some e)
        by_has y (inr h) = let k = r.early y h in (suc k.0, (let l = k.1 in omega (arith, l)), k.2)

module _ {V : Type 0} (kind : ArcType) (value : V → Cost) (g h : Graph ℕ) (most : ℕ) (pairs : List (Pair ℕ ℕ)) (slots : List Slot) (nodes : List (Node V)) (noted : Option ℕ) (e : IsEnded kind value g h most pairs slots nodes noted) where
  closed : IsClosed kind g h (words_of nodes)
  closed = let size = words_size nodes in let all = e.all in search_ends kind g h (words_of nodes) e.taken (omega (arith, size, all)) e.sought.searching

  -- the limit may be greater
  pub ended_more : (limit : ℕ) → most ≤ limit → IsEnded kind value g h limit pairs slots nodes noted
  ended_more limit low = record {
    taken = e.taken;
    sought = record {
      searching = e.sought.searching;
      sound = record { kept = e.sought.sound.kept; size = e.sought.sound.size; total = e.sought.sound.total; few = (let f = e.sought.sound.few in omega (arith, f, low)) };
      apart = e.sought.apart;
      nowhere = e.sought.nowhere;
      words = e.sought.words;
    };
    all = e.all;
    noted = e.noted;
  }

  pub ended_few : most ≤ most_states → length nodes ≤ most_words
  ended_few low = few_words kind value most pairs slots nodes e.sought.sound low

  pub ended_parents : AreParents nodes
  ended_parents i n at some = (e.sought.words i n at).parent some

  -- the word that is noted is one of those there are
  pub noted_low : (place : ℕ) → noted ≡ Some place → place < length nodes
  noted_low place is =
      let n : IsNoted kind g h (words_of nodes) e.taken (Some place) = subst (IsNoted kind g h (words_of nodes) e.taken) is e.noted in
      let low = slice_get_within (words_of nodes) place n.0 n.1 in
      let size = words_size nodes in
      omega (arith, low, size)

  module _ (single_g : IsSingle g) (single_h : IsSingle h) (weighted_g : IsWeighted kind g) (weighted_h : IsWeighted kind h) (cancel : cancels kind ≡ true) where
    -- no word separates
    pub ended_same : noted ≡ None → SameWords kind g h
    ended_same is = same_words kind g h weighted_g weighted_h cancel (words_of nodes) closed e.sought.searching.begins single_g single_h (λ y has. by (Has_at (words_of nodes) y has))
      where
        all : IsNoted kind g h (words_of nodes) e.taken None
        all = subst (IsNoted kind g h (words_of nodes) e.taken) is e.noted

        by : {y : List ℕ} → (i : ℕ) × (slice_get (words_of nodes) i ≡ Some y) × (i < length (words_of nodes)) → weight_of kind g y ≡ weight_of kind h y
        by {y} at = let size = words_size nodes in let low = at.2 in let taken = e.all in all at.0 y (omega (arith, low, size, taken)) at.1

    -- or this one does, first
    pub ended_separates : (place : ℕ) → noted ≡ Some place → (word : List ℕ) (one other : V) → word ≡ get_or (words_of nodes) place [] → AreWeights kind value g h (words_of nodes) place one other → IsSeparating kind g h word (value one) (value other)
    ended_separates place is word one other spelled weights =
        let n : IsNoted kind g h (words_of nodes) e.taken (Some place) = subst (IsNoted kind g h (words_of nodes) e.taken) is e.noted in
        let a = around (words_of nodes) place n.0 n.1 in
        let first : IsFirstApart kind g h (words_of nodes) n.0 = record { before = a.before; behind = a.behind; parts = a.parts; same = λ y has. (let k = a.early y has in n.3 k.0 y k.1 k.2); differs = n.2 } in
        let found = separating kind g h weighted_g weighted_h cancel (words_of nodes) closed e.sought.searching.begins single_g single_h e.sought.searching.ascend n.0 first in
        let same : n.0 ≡ word = sym (spelled ∙ get_or_from_slice_get (words_of nodes) place n.0 [] n.1) in
        let w = weights n.0 n.1 in
        subst (λ x. IsSeparating kind g h x (value one) (value other)) same (subst (λ v. IsSeparating kind g h n.0 v (value other)) (sym w.0) (subst (λ v. IsSeparating kind g h n.0 (weight_of kind g n.0) v) (sym w.1) found))

    -- words lead to no more pairs than the limit
    pub ended_pairs : HasMorePairs g h most → ⊥
    ended_pairs m =
        let low = Apart_within m.pairs pairs m.apart (λ p has. by p (pair_listed kind g h single_g single_h weighted_g weighted_h cancel (words_of nodes) closed e.sought.searching.begins p (m.led p has))) in
        let more = m.more in
        let few = e.sought.sound.few in
        absurd (omega (arith, low, more, few))
      where
        by : (p : Pair ℕ ℕ) → (w : List ℕ) × Has (words_of nodes) w × (pair_of kind g h w ≡ p) → Has pairs p
        by p w =
            let at = Has_at (words_of nodes) w.0 w.1 in
            let size = words_size nodes in
            let n = read_inside nodes at.0 (let l = at.2 in omega (arith, l, size)) in
            let k = e.sought.words at.0 n.0 n.1 in
            let same : k.word ≡ w.0 = same_Some k.word w.0 (sym k.there ∙ at.1) in
            at_Has pairs n.0.pair p (k.is.pair ∙ ap Some (ap (pair_of kind g h) same ∙ w.2))
