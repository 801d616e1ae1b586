-- What is found in a symbol table, and the names that are printed.
use Rattle.std.proofs.Common.{◌≡◌, ℕ, ◌≤◌, ◌==◌, Bool, true, false, cond, List, [], ◌∷◌, map, Some, refl, sym, ap, ◌∙◌, subst, arith}
use Rattle.std.specs.List.{AllByRecursion, IsDistinct}
use Rattle.std.specs.Str.{bytes_eq}
use Rattle.std.specs.Cmp.Lexicographic.{bytes_decides, nat_list_eq_equiv}
use Rattle.std.proofs.lemmas.List.Elements.{recursion_from_All}
use Rattle.fst_fields.specs.Decimal.{greatest_label}
use Rattle.fst_symbols.specs.Symbols.{IsName, IsTable, Symbol, name_of, number_of}
use Rattle.fst_text.proofs.Numbers.{equal_is}

small-among : (symbols : List Symbol) (name : List ℕ) (n : ℕ) → AllByRecursion (λ s. s.number ≤ greatest_label) symbols → number_of symbols name ≡ Some n → n ≤ greatest_label
small-among [] name n h e = absurd (cc)
small-among (s ∷ symbols) name n h e = go (bytes_eq name s.name) e (small-among symbols name n h.1) where
  go : (here : Bool) → cond here (Some s.number) (number_of symbols name) ≡ Some n → (number_of symbols name ≡ Some n → n ≤ greatest_label) → n ≤ greatest_label
  go true e more = let same : s.number ≡ n = cc in let low = h.0 in omega arith
  go false e more = more e

-- a number that is found is a label
pub number_of-small : (symbols : List Symbol) (name : List ℕ) (n : ℕ) → IsTable symbols → number_of symbols name ≡ Some n → n ≤ greatest_label
number_of-small symbols name n table e = small-among symbols name n (recursion_from_All (λ s. s.number ≤ greatest_label) symbols table.small) e

name-among : (symbols : List Symbol) (n : ℕ) (name : List ℕ) → AllByRecursion (λ s. IsName s.name) symbols → name_of symbols n ≡ Some name → IsName name
name-among [] n name h e = absurd (cc)
name-among (s ∷ symbols) n name h e = go (n == s.number) e (name-among symbols n name h.1) where
  go : (here : Bool) → cond here (Some s.name) (name_of symbols n) ≡ Some name → (name_of symbols n ≡ Some name → IsName name) → IsName name
  go true e more = let same : s.name ≡ name = cc in subst IsName same h.0
  go false e more = more e

-- a name that is found is a name
pub name_of-name : (symbols : List Symbol) (n : ℕ) (name : List ℕ) → IsTable symbols → name_of symbols n ≡ Some name → IsName name
name_of-name symbols n name table e = name-among symbols n name (recursion_from_All (λ s. IsName s.name) symbols table.fields) e

-- a name that is found is none that all the names are apart from
apart-found : (symbols : List Symbol) (other : List ℕ) (n : ℕ) (name : List ℕ) → AllByRecursion (λ y. bytes_eq other y ≡ false) (map (λ s. s.name) symbols) → name_of symbols n ≡ Some name → bytes_eq other name ≡ false
apart-found [] other n name h e = absurd (cc)
apart-found (s ∷ symbols) other n name h e = go (n == s.number) e (apart-found symbols other n name h.1) where
  go : (here : Bool) → cond here (Some s.name) (name_of symbols n) ≡ Some name → (name_of symbols n ≡ Some name → bytes_eq other name ≡ false) → bytes_eq other name ≡ false
  go true e more = let same : s.name ≡ name = cc in ap (bytes_eq other) (sym same) ∙ h.0
  go false e more = more e

number-among : (symbols : List Symbol) (n : ℕ) (name : List ℕ) → IsDistinct bytes_eq (map (λ s. s.name) symbols) → name_of symbols n ≡ Some name → number_of symbols name ≡ Some n
unfolding IsDistinct
number-among [] n name h e = absurd (cc)
number-among (s ∷ symbols) n name h e = go (n == s.number) refl e (number-among symbols n name h.1) where
  go : (here : Bool) → (n == s.number) ≡ here → cond here (Some s.name) (name_of symbols n) ≡ Some name → (name_of symbols n ≡ Some name → number_of symbols name ≡ Some n) → cond (bytes_eq name s.name) (Some s.number) (number_of symbols name) ≡ Some n
  go true at e more =
      let same : s.name ≡ name = cc in
      let own : bytes_eq name s.name ≡ true = (bytes_decides name s.name).1 (sym same) in
      ap (λ b. cond b (Some s.number) (number_of symbols name)) own ∙ ap (λ (k : ℕ). Some k) (sym (equal_is n s.number at))
  go false at e more =
      let apart : bytes_eq name s.name ≡ false = nat_list_eq_equiv.symm name s.name ∙ apart-found symbols s.name n name h.0 e in
      ap (λ b. cond b (Some s.number) (number_of symbols name)) apart ∙ more e

-- the number of the name of a number
pub number_of-name_of : (symbols : List Symbol) (n : ℕ) (name : List ℕ) → IsTable symbols → name_of symbols n ≡ Some name → number_of symbols name ≡ Some n
number_of-name_of symbols n name table e = number-among symbols n name table.names e
