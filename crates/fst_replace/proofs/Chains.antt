-- Chains of calls.
use Rattle.std.proofs.Common.{◌≡◌, ℕ, List, [], ◌∷◌, ◌++◌, length, refl, sym, ap, ◌∙◌, subst, arith}
use Rattle.std.proofs.lemmas.List.{length-append}
use Rattle.fst_machine.specs.BreadthFirst.{Has}
use Rattle.fst_replace.specs.Calls.{CanCall, IsChain}

tail_is : (x y : ℕ) (xs ys : List ℕ) → x ∷ xs ≡ y ∷ ys → xs ≡ ys
tail_is x y xs ys e = cc

module _ (calls : ℕ → List ℕ) where
  -- one chain behind the other
  pub IsChain-append : (i : ℕ) (xs : List ℕ) (j : ℕ) (ys : List ℕ) (k : ℕ) → IsChain calls i xs j → IsChain calls j ys k → IsChain calls i (xs ++ ys) k
  IsChain-append i [] j ys k one two = subst (λ z. IsChain calls z ys k) (sym one) two
  IsChain-append i (x ∷ xs) j ys k one two = (one.0, IsChain-append x xs j ys k one.1 two)

  -- a chain in two parts
  pub IsChain-split : (i : ℕ) (xs ys : List ℕ) (k : ℕ) → IsChain calls i (xs ++ ys) k → (j : ℕ) × IsChain calls i xs j × IsChain calls j ys k
  IsChain-split i [] ys k h = (i, refl, h)
  IsChain-split i (x ∷ xs) ys k h = let rest = IsChain-split x xs ys k h.1 in (rest.0, (h.0, rest.1), rest.2)

  -- one call more
  pub chain_call : (i : ℕ) (xs : List ℕ) (j k : ℕ) → IsChain calls i xs j → Has (calls j) k → IsChain calls i (xs ++ k ∷ []) k
  chain_call i xs j k h has = IsChain-append i xs j (k ∷ []) k h (has, refl)

  pub chain_can : (i : ℕ) (xs : List ℕ) (j k : ℕ) → IsChain calls i xs j → Has (calls j) k → CanCall calls i k
  chain_can i [] j k h has = (k, subst (λ z. Has (calls z) k) (sym h) has, ([], refl))
  chain_can i (x ∷ xs) j k h has = (x, h.0, (xs ++ k ∷ [], chain_call x xs j k h.1 has))

  -- the end of a chain is its last rule
  pub chain_last : (i : ℕ) (xs : List ℕ) (j : ℕ) → IsChain calls i xs j → (front : List ℕ) (r : ℕ) → i ∷ xs ≡ front ++ r ∷ [] → j ≡ r
  chain_last i [] j h [] r e = let same : i ≡ r = cc in sym h ∙ same
  chain_last i [] j h (x ∷ front) r e = absurd (let size : length (i ∷ []) ≡ length ((x ∷ front) ++ r ∷ []) = ap length e in omega (arith, size, length-append front (r ∷ [])))
  chain_last i (x ∷ xs) j h [] r e = absurd (cc)
  chain_last i (x ∷ xs) j h (y ∷ front) r e = chain_last x xs j h.1 front r (tail_is i y (x ∷ xs) (front ++ r ∷ []) e)
