-- A label that is followed from the pair of a word.
use Rattle.std.proofs.Common.{◌≡◌, inl, inr, ℕ, ◌<◌, Bool, true, false, not, true≢false, List, [], ◌∷◌, ◌++◌, length, if◌then◌else◌, refl, sym, ap, ◌∙◌, arith}
use Rattle.std.specs.List.{list_any}
use Rattle.fst_keys.specs.Keys.{with_key}
use Rattle.fst_machine.specs.BreadthFirst.{Has}
use Rattle.fst_machine.proofs.Elements.{Has-any}
use Rattle.fst_setops.specs.Followed.{ArePut}
use Rattle.fst_setops.specs.PairNumbers.{pair_decides, same_pair}
use Rattle.fst_setops.specs.Separating.{Pair}

-- a pair that is not found is none of those there are
pub not_listed : (old : List (Pair ℕ ℕ)) (key : Pair ℕ ℕ) → list_any (same_pair key) old ≡ false → Has old key → ⊥
not_listed old key none h = true≢false (sym (Has-any same_pair pair_decides old key h) ∙ none)

-- a pair that is put is new, and there were fewer than the limit; or it was there
pub pair_put : (most : ℕ) (old new : List (Pair ℕ ℕ)) (key : Pair ℕ ℕ) (place : ℕ) (added : Bool) → new ≡ with_key same_pair old key → added ≡ not (list_any (same_pair key) old) → (added ≡ true → (place ≡ length old) × (place < most)) → ArePut most key old new
pair_put most old new key place added put told last = by (list_any (same_pair key) old) refl
  where
    by : (b : Bool) → list_any (same_pair key) old ≡ b → ArePut most key old new
    by true e = inl (put ∙ ap (λ c. if c then old else old ++ key ∷ []) e)
    by false e = let at = last (told ∙ ap not e) in inr (put ∙ ap (λ c. if c then old else old ++ key ∷ []) e, not_listed old key e, omega (arith, at.0, at.1))
