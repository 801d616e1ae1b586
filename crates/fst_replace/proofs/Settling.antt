-- Rules from which calls come to an end.
use Rattle.std.proofs.Common.{◌≡◌, inl, inr, ℕ, ◌<◌, ◌≤◌, zero, suc, List, [], ◌∷◌, Some, length, take, slice_get, refl, subst, arith}
use Rattle.fst_machine.specs.BreadthFirst.{Apart, Has}
use Rattle.fst_machine.proofs.Elements.{Apart_below, Has_at, at_Has}
use Rattle.fst_replace.specs.Calls.{CanCall, HasNoRecursion, IsChain}
use Rattle.fst_replace.specs.Walks.{IsOrdered}
use Rattle.fst_replace.proofs.Chains.{chain_can, IsChain-split}
use Rattle.fst_replace.proofs.Searching.{cut}

-- no chain from the rule has so many calls
abbrev pub Settled : (ℕ → List ℕ) → ℕ → ℕ → Type 0
Settled calls zero i = ⊥
Settled calls (suc k) i = (j : ℕ) → Has (calls i) j → Settled calls k j

take_at : (xs : List ℕ) (i j x : ℕ) → slice_get (take i xs) j ≡ Some x → (slice_get xs j ≡ Some x) × (j < i)
take_at xs zero j x e = absurd (cc)
take_at [] (suc i) j x e = absurd (cc)
take_at (y ∷ xs) (suc i) zero x e = (e, omega arith)
take_at (y ∷ xs) (suc i) (suc j) x e = let rest = take_at xs i j x e in (rest.0, omega (arith, rest.1))

module _ (calls : ℕ → List ℕ) where
  pub settled_longer : (k m i : ℕ) → k ≤ m → Settled calls k i → Settled calls m i
  settled_longer zero m i low h = absurd h
  settled_longer (suc k) zero i low h = absurd (omega (arith, low))
  settled_longer (suc k) (suc m) i low h = λ j has. settled_longer k m j (omega (arith, low)) (h j has)

  -- such a rule cannot call itself
  pub settled_ends : (k i : ℕ) → Settled calls k i → CanCall calls i i → ⊥
  settled_ends zero i h can = h
  settled_ends (suc k) i h can = settled_ends k can.0 (h can.0 can.1) (chain_can calls can.0 can.2.0 i can.0 can.2.1 can.1)

  -- rules that stand behind those that they call are such rules
  ordered_until : (order : List ℕ) → IsOrdered calls order → (n p i : ℕ) → p < n → slice_get order p ≡ Some i → Settled calls n i
  ordered_until order ordered zero p i low there = absurd (omega (arith, low))
  ordered_until order ordered (suc n) p i low there = λ j has.
      let earlier = Has_at (take p order) j (ordered p i j there has) in
      let at = take_at order p earlier.0 j earlier.1 in
      ordered_until order ordered n earlier.0 j (omega (arith, low, at.1)) at.0

  pub ordered_settled : (order : List ℕ) → IsOrdered calls order → (i : ℕ) → Has order i → (n : ℕ) × Settled calls n i
  ordered_settled order ordered i h = let place = Has_at order i h in (suc place.0, ordered_until order ordered (suc place.0) place.0 i (omega arith) place.1)

  -- the order has each rule that a rule of it reaches
  pub ordered_reaches : (order : List ℕ) → IsOrdered calls order → (i : ℕ) (chain : List ℕ) (j : ℕ) → Has order i → IsChain calls i chain j → Has order j
  ordered_reaches order ordered i [] j h here = subst (λ z. Has order z) here h
  ordered_reaches order ordered i (k ∷ chain) j h goes =
      let place = Has_at order i h in
      let earlier = Has_at (take place.0 order) k (ordered place.0 i k place.1 goes.0) in
      let at = take_at order place.0 earlier.0 k earlier.1 in
      ordered_reaches order ordered k chain j (at_Has order earlier.0 k at.0) goes.1

  -- so none of them can call itself
  pub ordered_free : (order : List ℕ) → IsOrdered calls order → Has order 0 → HasNoRecursion calls
  ordered_free order ordered root i h =
      let s = ordered_settled order ordered i (ordered_reaches order ordered 0 h.0.0 i root h.0.1) in
      settled_ends s.0 i s.1 h.1

  -- a chain from such a rule meets no rule twice
  chain_apart : (k i : ℕ) (chain : List ℕ) (j : ℕ) → Settled calls k i → IsChain calls i chain j → Apart (i ∷ chain)
  chain_apart k i [] j h goes = ((λ none. none), tt)
  chain_apart zero i (x ∷ chain) j h goes = absurd h
  chain_apart (suc k) i (x ∷ chain) j h goes = ((λ has. again has), chain_apart k x chain j (h x goes.0) goes.1)
    where
      again : Has (x ∷ chain) i → ⊥
      again has =
          let parts = cut (x ∷ chain) i has in
          let split = IsChain-split calls i parts.0 (i ∷ parts.1) j (subst (λ zs. IsChain calls i zs j) parts.2 goes) in
          settled_ends (suc k) i h (chain_can calls i parts.0 split.0 i split.1 split.2.0)

  module _ (n : ℕ) (closed : (i j : ℕ) → Has (calls i) j → j < n) where
    chain_within : (i : ℕ) (chain : List ℕ) (j : ℕ) → i < n → IsChain calls i chain j → (x : ℕ) → Has (i ∷ chain) x → x < n
    chain_within i chain j low goes x (inl e) = subst (λ (z : ℕ). z < n) e low
    chain_within i [] j low goes x (inr none) = absurd none
    chain_within i (y ∷ chain) j low goes x (inr h) = chain_within y chain j (closed i y goes.0) goes.1 x h

    -- and has no more calls than there are rules
    chain_short : (k i : ℕ) (chain : List ℕ) (j : ℕ) → Settled calls k i → i < n → IsChain calls i chain j → length chain < n
    chain_short k i chain j h low goes = let few = Apart_below n (i ∷ chain) (chain_apart k i chain j h goes) (chain_within i chain j low goes) in omega (arith, few)

    short_settled : (m i : ℕ) → ((chain : List ℕ) (j : ℕ) → IsChain calls i chain j → length chain < m) → Settled calls m i
    short_settled zero i short = let none = short [] i refl in omega (arith, none)
    short_settled (suc m) i short = λ j has. short_settled m j (λ chain k goes. let low = short (j ∷ chain) k (has, goes) in omega (arith, low))

    pub settled_soon : (k i : ℕ) → Settled calls k i → i < n → Settled calls n i
    settled_soon k i h low = short_settled n i (λ chain j goes. chain_short k i chain j h low goes)
