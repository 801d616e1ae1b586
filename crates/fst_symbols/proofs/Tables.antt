-- A table with one symbol more.
use Rattle.std.proofs.Common.{◌≡◌, ℕ, ◌≤◌, ◌==◌, ◌||◌, Bool, true, false, cond, List, [], ◌∷◌, ◌++◌, map, None, Some, refl, sym, subst}
use Rattle.std.specs.Prelude.{nat_eq}
use Rattle.std.specs.List.{IsDistinct, list_any}
use Rattle.std.specs.Str.{bytes_eq}
use Rattle.std.specs.Cmp.{nat_eq_equiv}
use Rattle.std.proofs.lemmas.Cmp.{nat_list_eq_equiv}
use Rattle.std.proofs.lemmas.List.{map-append}
use Rattle.std.proofs.lemmas.List.Elements.{All-nil, All-push}
use Rattle.std.proofs.lemmas.Map.Keys.{IsDistinct-push}
use Rattle.fst_fields.specs.Decimal.{greatest_label}
use Rattle.fst_symbols.specs.Symbols.{IsName, IsTable, Symbol, name_of, number_of}

-- a name that has no number is no symbol's
names_apart : (symbols : List Symbol) (name : List ℕ) → number_of symbols name ≡ None → list_any (bytes_eq name) (map (λ s. s.name) symbols) ≡ false
names_apart [] name none = refl
names_apart (s ∷ symbols) name none = go (bytes_eq name s.name) none (names_apart symbols name) where
  go : (same : Bool) → cond same (Some s.number) (number_of symbols name) ≡ None → (number_of symbols name ≡ None → list_any (bytes_eq name) (map (λ s. s.name) symbols) ≡ false) → (same || list_any (bytes_eq name) (map (λ s. s.name) symbols)) ≡ false
  go true e more = absurd (cc)
  go false e more = more e

-- a number that has no name is no symbol's
numbers_apart : (symbols : List Symbol) (number : ℕ) → name_of symbols number ≡ None → list_any (nat_eq number) (map (λ s. s.number) symbols) ≡ false
numbers_apart [] number none = refl
numbers_apart (s ∷ symbols) number none = go (number == s.number) none (numbers_apart symbols number) where
  go : (same : Bool) → cond same (Some s.name) (name_of symbols number) ≡ None → (name_of symbols number ≡ None → list_any (nat_eq number) (map (λ s. s.number) symbols) ≡ false) → (same || list_any (nat_eq number) (map (λ s. s.number) symbols)) ≡ false
  go true e more = absurd (cc)
  go false e more = more e

-- no symbols are a table
pub IsTable-nil : IsTable []
unfolding IsDistinct
IsTable-nil = record { names = tt; numbers = tt; fields = All-nil (λ s. IsName s.name); small = All-nil (λ s. s.number ≤ greatest_label) }

-- a table with a new name and a new number is a table
pub IsTable-push : (symbols : List Symbol) (s : Symbol) → IsTable symbols → IsName s.name → s.number ≤ greatest_label → number_of symbols s.name ≡ None → name_of symbols s.number ≡ None → IsTable (symbols ++ s ∷ [])
IsTable-push symbols s h name small none free = record {
  names = subst (IsDistinct bytes_eq) (sym (map-append (λ (s : Symbol). s.name) symbols (s ∷ []))) (IsDistinct-push nat_list_eq_equiv (map (λ s. s.name) symbols) s.name h.names (names_apart symbols s.name none));
  numbers = subst (IsDistinct nat_eq) (sym (map-append (λ (s : Symbol). s.number) symbols (s ∷ []))) (IsDistinct-push nat_eq_equiv (map (λ s. s.number) symbols) s.number h.numbers (numbers_apart symbols s.number free));
  fields = All-push (λ s. IsName s.name) symbols s h.fields name;
  small = All-push (λ s. s.number ≤ greatest_label) symbols s h.small small;
}
