-- What a claim says of the codes that are blocked.
use Rattle.std.proofs.Common.{◌≡◌, inl, inr, ℕ, List, [], ◌∷◌, ◌++◌, length, sym, subst, arith}
use Rattle.std.specs.List.{Contains}
use Rattle.std.proofs.lemmas.List.Elements.{Contains-append_left, Contains-append_right, Contains-push}
use Rattle.fst_claims.specs.declared.view.View.{View}
use Rattle.fst_claims.specs.Claimed.{IsFull, IsTaken, IsWon}
use Rattle.fst_claims.specs.Rule.{place_of}
use Rattle.fst_lattice.specs.Serving.{IsBlocked}

-- what is blocked stays so
pub blocked_later : (places : ℕ) (found seen : List (ℕ × ℕ)) (code : ℕ) → IsBlocked places found code → IsBlocked places (found ++ seen) code
blocked_later places found seen code (inl (place, there)) = inl (place, Contains-append_left found seen (place, code) there)
blocked_later places found seen code (inr all) = inr (λ i low. let a = all i low in (a.0, Contains-append_left found seen (i, a.0) a.1))

module _ (places code : ℕ) (v w : View) where
  -- a code that is won was not blocked
  pub won_free : v.places ≡ places → IsWon places code v w → IsBlocked places v.found code → ⊥
  won_free size h (inl (place, there)) = h.new.not_found place (Contains-append_left v.found h.seen (place, code) there)
  won_free size h (inr all) =
      let n = h.new.had_none in
      let a = all n.free (omega (arith, n.inside, n.sized, size)) in
      let stands = n.found n.free a.0 (Contains-append_left v.found h.seen (n.free, a.0) a.1) in
      omega (arith, stands.1, stands.2, n.unset)

  pub taken_blocked : IsTaken places code v w → IsBlocked places w.found code
  taken_blocked h = inl (
    place_of places code (length h.seen),
    subst (λ (xs : List (ℕ × ℕ)). Contains xs (place_of places code (length h.seen), code)) (sym h.found)
        (Contains-append_right v.found (h.seen ++ (place_of places code (length h.seen), code) ∷ []) (place_of places code (length h.seen), code) (Contains-push h.seen (place_of places code (length h.seen), code))),
  )

  pub full_blocked : IsFull places code v w → IsBlocked places w.found code
  full_blocked h = inr (λ i low. let a = h.everywhere i low in (a.0, subst (λ (xs : List (ℕ × ℕ)). Contains xs (i, a.0)) (sym h.found) (Contains-append_right v.found h.seen (i, a.0) a.1)))
