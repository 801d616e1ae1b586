-- That keys of weights can be compared, and the number by which one is found. (The laws of an impl cite specs alone, so the
-- lemmas stand here.)
use Rattle.std.proofs.Common.{◌≡◌, ◌&&◌, ◌++◌, ℕ, eqb, int_eq, Bool, true, refl, sym, ap, ◌∙◌}
use Rattle.std.specs.Bool.{Decides}
use Rattle.std.specs.Hash as fed
use Rattle.std.proofs.lemmas.Bool.{and_parts, eq-eqb, eqb-true}
use Rattle.std.proofs.lemmas.Bool.Decides.{Decides-int_eq}
use Rattle.fst_keys.specs.Hashing.{hash_number}
use Rattle.fst_minimize.specs.declared.weights.WeightKey.{WeightKey}

-- the number of a key, which others may have
abbrev pub key_number : WeightKey → ℕ
key_number k = hash_number (fed.u8 k.class ++ (fed.i128 k.first ++ fed.i128 k.second))

-- what `==` answers of keys
abbrev pub same_key : WeightKey → WeightKey → Bool
same_key a b = eqb a.class b.class && (int_eq a.first b.first && int_eq a.second b.second)

same_tells : (a b : WeightKey) → same_key a b ≡ true → a ≡ b
same_tells a b e =
    let one = and_parts _ _ e in
    let two = and_parts _ _ one.1 in
    let first : a.first ≡ b.first = (Decides-int_eq a.first b.first).0 two.0 in
    let second : a.second ≡ b.second = (Decides-int_eq a.second b.second).0 two.1 in
    λ i. record { class = eqb-true a.class b.class one.0 i; first = first i; second = second i }

same_own : (a : WeightKey) → same_key a a ≡ true
same_own a = rw (eq-eqb a.class a.class refl, (Decides-int_eq a.first a.first).1 refl, (Decides-int_eq a.second a.second).1 refl) refl

-- keys that compare as equal are one
pub key_decides : (a b : WeightKey) → Decides (same_key a b) (a ≡ b)
key_decides a b = (same_tells a b, λ e. ap (same_key a) (sym e) ∙ same_own a)
