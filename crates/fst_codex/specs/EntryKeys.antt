-- That keys of entries can be compared, and the number by which one is found. (The laws of an impl cite specs alone, so
-- the lemmas stand here.)
use Rattle.std.proofs.Common.{◌≡◌, ◌&&◌, ◌++◌, ℕ, ℤ, zero, suc, eqb, int_eq, Bool, true, refl, sym, ap, ◌∙◌}
use Rattle.std.specs.Bool.{Decides}
use Rattle.std.specs.Cmp.{IsEquivalence, decided}
use Rattle.std.specs.Hash as fed
use Rattle.std.proofs.lemmas.Bool.{and_parts, eq-eqb, eqb-true}
use Rattle.std.proofs.lemmas.Bool.Decides.{Decides-int_eq}
use Rattle.fst_keys.specs.Hashing.{hash_number}
use Rattle.fst_semiring.specs.Cost.{Cost, best, class_of, finite, first_of, infinite, second_of}
use Rattle.fst_codex.specs.declared.entry_key.EntryKey.{EntryKey}
use Rattle.fst_codex.specs.Coding.{entry_key}
use Rattle.fst_codex.specs.Table.{Entry, valued_entry}

-- the number of a key, which others may have
abbrev pub key_number : EntryKey → ℕ
key_number k = hash_number (fed.u32 k.ilabel ++ (fed.u32 k.olabel ++ (fed.u8 k.class ++ (fed.i64 k.first ++ fed.i64 k.second))))

-- what `==` answers of keys
abbrev pub same_key : EntryKey → EntryKey → Bool
same_key a b = eqb a.ilabel b.ilabel && (eqb a.olabel b.olabel && (eqb a.class b.class && (int_eq a.first b.first && int_eq a.second b.second)))

same_tells : (a b : EntryKey) → same_key a b ≡ true → a ≡ b
same_tells a b e =
    let one = and_parts _ _ e in
    let two = and_parts _ _ one.1 in
    let three = and_parts _ _ two.1 in
    let four = and_parts _ _ three.1 in
    let first : a.first ≡ b.first = (Decides-int_eq a.first b.first).0 four.0 in
    let second : a.second ≡ b.second = (Decides-int_eq a.second b.second).0 four.1 in
    let ilabel = eqb-true a.ilabel b.ilabel one.0 in
    let olabel = eqb-true a.olabel b.olabel two.0 in
    let class = eqb-true a.class b.class three.0 in
    λ i. record { ilabel = ilabel i; olabel = olabel i; class = class i; first = first i; second = second i }

same_own : (a : EntryKey) → same_key a a ≡ true
same_own a =
    let first = (Decides-int_eq a.first a.first).1 refl in
    let second = (Decides-int_eq a.second a.second).1 refl in
    rw (eq-eqb a.ilabel a.ilabel refl, eq-eqb a.olabel a.olabel refl, eq-eqb a.class a.class refl, first, second) refl

-- keys that compare as equal are one
pub key_decides : (a b : EntryKey) → Decides (same_key a b) (a ≡ b)
key_decides a b = (same_tells a b, λ e. ap (same_key a) (sym e) ∙ same_own a)

pub key_laws : IsEquivalence same_key
key_laws = decided same_key key_decides

-- the entry of a key
cost_of : ℕ → ℤ → ℤ → Cost
cost_of zero a b = best
cost_of (suc zero) a b = finite a b
cost_of (suc (suc n)) a b = infinite

entry_back : EntryKey → Entry Cost
entry_back k = record { ilabel = k.ilabel; olabel = k.olabel; weight = cost_of k.class k.first k.second }

cost_is : (v : Cost) → cost_of (class_of v) (first_of v) (second_of v) ≡ v
unfolding cost_of
cost_is best = refl
cost_is (finite a b) = refl
cost_is infinite = refl

back_is : (e : Entry Cost) → entry_back (entry_key e) ≡ e
unfolding entry_back
back_is e = λ i. record { ilabel = e.ilabel; olabel = e.olabel; weight = cost_is e.weight i }

pub key_tells : (a b : Entry Cost) → entry_key a ≡ entry_key b → a ≡ b
key_tells a b e = sym (back_is a) ∙ (ap entry_back e ∙ back_is b)

-- the key of an entry whose weight has this value
abbrev pub key_in : {V : Type 0} → (V → Cost) → Entry V → EntryKey
key_in value e = entry_key (valued_entry value e)

-- weights with one value are one, so entries with one key are one
module _ {V : Type 0} (value : V → Cost) (one : (x y : V) → value x ≡ value y → x ≡ y) where
  pub valued_apart : (a b : Entry V) → valued_entry value a ≡ valued_entry value b → a ≡ b
  valued_apart a b e =
      let weight = one a.weight b.weight (ap (λ (x : Entry Cost). x.weight) e) in
      let ilabel : a.ilabel ≡ b.ilabel = ap (λ (x : Entry Cost). x.ilabel) e in
      let olabel : a.olabel ≡ b.olabel = ap (λ (x : Entry Cost). x.olabel) e in
      λ i. record { ilabel = ilabel i; olabel = olabel i; weight = weight i }

  pub entry_apart : (a b : Entry V) → key_in value a ≡ key_in value b → a ≡ b
  entry_apart a b e = valued_apart a b (key_tells (valued_entry value a) (valued_entry value b) e)

  pub entry_decides : (a b : Entry V) → Decides (same_key (key_in value a) (key_in value b)) (a ≡ b)
  entry_decides a b = (
    (λ e. entry_apart a b ((key_decides (key_in value a) (key_in value b)).0 e)),
    (λ e. (key_decides (key_in value a) (key_in value b)).1 (ap (key_in value) e)),
  )
