use Rattle.std.proofs.Common.{◌≡◌, ℕ, List, zero, suc, get_or, replicate, refl, ap, ◌∙◌}
use Rattle.fst_claims.proofs.Steps.{opens}
use Rattle.fst_claims.proofs.table.Claims.new.Goals as goal

blank : (n i : ℕ) → ◌≡◌ {A = ℕ} (get_or (replicate {A = ℕ} n 0) i 0) 0
blank zero i = refl
blank (suc n) zero = refl
blank (suc n) (suc i) = blank n i

pub of_words-requires : goal.of_words-requires
of_words-requires c =
    let words : c.as_slice.result.now ≡ replicate {A = ℕ} c.args.places 0 = c.as_slice.ensures.value ∙ c.in_ok-words.ensures.items_if_clones_equal (λ y e. e) in
    opens c.args.places c.as_slice.result.now (c.as_slice.ensures.len ∙ c.in_ok-words.ensures.len) (λ i. ap (λ (xs : List ℕ). get_or xs i 0) words ∙ blank c.args.places i)
