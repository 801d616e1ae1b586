-- Arcs beside what makes them alike.
use Rattle.std.proofs.Common.{refl, subst}
use Rattle.std.specs.Prelude.{◌≡◌, ◌<◌, ◌+◌, ◌*◌, ◌%◌, ◌^◌, ◌&&◌, ℕ, Bool, false, true, All, List, get_or, length, map, nat_eq, set}
use Rattle.std.specs.Bool.{Decides}
use Rattle.std.specs.List.{list_any, position_or_len}
use Rattle.std.proofs.lemmas.Bool.{and_parts, eq-eqb, eqb-true}
use Rattle.fst_semiring.specs.Cost.{Cost, plus}
use Rattle.fst_machine.specs.BreadthFirst.{Apart}
use Rattle.fst_machine.specs.Machine.{Arc}
use Rattle.fst_epsilon.specs.declared.merged.ArcKey.{ArcKey}

-- the labels and the next state of an arc
abbrev pub key_of : {V : Type 0} → Arc V ℕ → ArcKey
key_of a = record { ilabel = a.ilabel; olabel = a.olabel; next = a.next }

-- the keys are those of the arcs, in order, each once
abbrev pub ArePaired : {V : Type 0} → List ArcKey → List (Arc V ℕ) → Type 0
ArePaired keys arcs = (keys ≡ map key_of arcs) × Apart keys

-- one of 64 spots for a key
abbrev pub spot_of : ArcKey → ℕ
spot_of key = (key.ilabel + 5 * key.olabel + 9 * key.next) % 64

-- the spot of each arc is marked
abbrev pub AreMarked : {V : Type 0} → List Bool → List (Arc V ℕ) → Type 0
AreMarked spots arcs = All (λ a. get_or spots (spot_of (key_of a)) false ≡ true) arcs

-- what `==` answers of keys
abbrev pub same_key : ArcKey → ArcKey → Bool
same_key a b = nat_eq a.ilabel b.ilabel && (nat_eq a.olabel b.olabel && nat_eq a.next b.next)

-- keys that compare as equal are one (the laws of an impl cite specs alone, so this stands here)
pub key_decides : (a b : ArcKey) → Decides (same_key a b) (a ≡ b)
key_decides a b = (tells, λ e. subst (λ (k : ArcKey). same_key a k ≡ true) e own)
  where
    tells : same_key a b ≡ true → a ≡ b
    tells e =
        let one = and_parts _ _ e in
        let two = and_parts _ _ one.1 in
        λ i. record { ilabel = eqb-true a.ilabel b.ilabel one.0 i; olabel = eqb-true a.olabel b.olabel two.0 i; next = eqb-true a.next b.next two.1 i }

    own : same_key a a ≡ true
    own = rw (eq-eqb a.ilabel a.ilabel refl, eq-eqb a.olabel a.olabel refl, eq-eqb a.next a.next refl) refl

-- a number of a key, which others may have
unfoldable pub key_number : ArcKey → ℕ
key_number k = (k.ilabel + k.olabel * 4294967296 + k.next * 11400714819323198485 % 2 ^ 64) % 2 ^ 64

-- no arc has this key
abbrev pub HasNoKey : {V : Type 0} → ArcKey → List (Arc V ℕ) → Type 0
HasNoKey key arcs = list_any (same_key key) (map key_of arcs) ≡ false

-- The arc in this place is the first that has this key.
pub record IsFirstWithKey {V : Type 0} (key : ArcKey) (arcs : List (Arc V ℕ)) (place : ℕ) : Type 0 where
  pub low : place < length arcs
  pub met : list_any (same_key key) (map key_of arcs) ≡ true
  pub first : place ≡ position_or_len (same_key key) (map key_of arcs)

-- The arc in this place has the better of its own weight and this one.
pub record Betters {V : Type 0} (value : V → Cost) (place : ℕ) (other : Cost) (old new : List (Arc V ℕ)) : Type 0 where
  pub arc : Arc V ℕ
  pub items : new ≡ set old place arc
  pub same : key_of arc ≡ key_of (get_or old place arc)
  pub weight : value arc.weight ≡ plus (value (get_or old place arc).weight) other
