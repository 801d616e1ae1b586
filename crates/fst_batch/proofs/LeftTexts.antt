-- What is left to be told.
use Rattle.std.proofs.Common.{◌≡◌, ℕ, ◌+◌, List, ◌++◌, Some, drop, slice_get, sym, ap, ◌∙◌, append_assoc}
use Rattle.std.specs.List.{flat_map}
use Rattle.fst_nbest.proofs.Remaining.{drop_at}

-- one more is told
pub texts_more : {X : Type 0} (f : X → List ℕ) (xs : List X) (i : ℕ) (x : X) (old new whole : List ℕ) → slice_get xs i ≡ Some x → old ++ flat_map f (drop i xs) ≡ whole → new ≡ old ++ f x
    → new ++ flat_map f (drop (i + 1) xs) ≡ whole
texts_more {X} f xs i x old new whole there so_far put =
    let rest = flat_map f (drop (i + 1) xs) in
    ap (λ (o : List ℕ). o ++ rest) put ∙ (append_assoc old (f x) rest ∙ (ap (λ (ys : List X). old ++ flat_map f ys) (sym (drop_at xs i x there)) ∙ so_far))
