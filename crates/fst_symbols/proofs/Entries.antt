-- The entries of a table, looked up and with one more.
use Rattle.std.proofs.Common.{◌≡◌, ℕ, ◌+◌, ◌<◌, ◌≤◌, ◌==◌, ◌||◌, suc, zero, Bool, true, false, cond, not, eqb, List, [], ◌∷◌, ◌++◌, length, map, is_some, position, slice_get, Option, None, Some, Err, refl, sym, ap, ◌∙◌, subst, arith}
use Rattle.std.specs.Prelude.{nat_eq, nat_lt, sum_by}
use Rattle.std.specs.Option.{option_and_then, option_map}
use Rattle.std.specs.List.{AllByRecursion, list_any, position_or_len}
use Rattle.std.specs.Str.{bytes_eq}
use Rattle.std.proofs.lemmas.Bool.{eqb-true}
use Rattle.std.proofs.lemmas.Bool.Decides.{nat_tests}
use Rattle.std.proofs.lemmas.List.{length-map, map-append}
use Rattle.std.proofs.lemmas.List.Elements.{recursion_from_All}
use Rattle.std.proofs.lemmas.List.Sums.{sum_by-cons, sum_by_push}
use Rattle.std.proofs.lemmas.Map.Steps.{length-le_from_distinct_below}
use Rattle.std.proofs.lemmas.Option.{same_Some, slice_get-map}
use Rattle.indexmap.specs.IndexSet.{insert_key}
use Rattle.fst_fields.specs.Decimal.{greatest_label}
use Rattle.fst_symbols.specs.declared.fault.AddSymbolFault.{AddSymbolFault}
use Rattle.fst_symbols.specs.declared.fault.AddSymbolFault.TheVariants.{SymbolTaken, NumberTaken, Memory}
use Rattle.fst_symbols.specs.declared.name.Name.{Name}
use Rattle.fst_symbols.specs.Adding.{Adds}
use Rattle.fst_symbols.specs.Symbols.{IsName, IsTable, Symbol, name_of, number_of}
use Rattle.fst_symbols.specs.Kept.{IsKept, Puts, found_in, symbols_of}
use Rattle.fst_symbols.proofs.Tables.{IsTable-nil, IsTable-push}

-- what a map tells of a name is its number
pub found_number : (entries : List (Name × ℕ)) (name : List ℕ) → found_in entries name ≡ number_of (symbols_of entries) name
found_number [] name = refl
found_number (e ∷ entries) name = ap (λ r. cond (bytes_eq name e.0.bytes.items) (Some e.1) r) (found_number entries name)

is_some-cond : {X : Type 0} (b : Bool) (x : X) (r : Option X) → is_some (cond b (Some x) r) ≡ (b || is_some r)
is_some-cond true x r = refl
is_some-cond false x r = refl

-- a number is among the numbers exactly where it has a name
pub any_name : (entries : List (Name × ℕ)) (n : ℕ) → list_any (nat_eq n) (map (λ e. e.1) entries) ≡ is_some (name_of (symbols_of entries) n)
any_name [] n = refl
any_name (e ∷ entries) n =
    ap (λ b. nat_eq n e.1 || b) (any_name entries n) ∙ sym (is_some-cond (n == e.1) e.0.bytes.items (name_of (symbols_of entries) n))

-- the name of the symbol in a place
abbrev pub name_in : List Symbol → Option ℕ → Option (List ℕ)
name_in symbols place = option_map (λ s. s.name) (option_and_then (slice_get symbols) place)

nat_lt-zero : (n : ℕ) → nat_lt 0 (suc n) ≡ true
nat_lt-zero n = grind (arith, nat_tests)

nat_lt-suc : (p n : ℕ) → nat_lt (1 + p) (suc n) ≡ nat_lt p n
nat_lt-suc p n = grind (arith, nat_tests)

name_in-cons : (s : Symbol) (symbols : List Symbol) (p n : ℕ) → name_in (s ∷ symbols) (cond (nat_lt (1 + p) (suc n)) (Some (1 + p)) None) ≡ name_in symbols (cond (nat_lt p n) (Some p) None)
name_in-cons s symbols p n = rw (nat_lt-suc p n) (go (nat_lt p n)) where
  one : 1 + p ≡ suc p
  one = omega arith

  next : slice_get (s ∷ symbols) (1 + p) ≡ slice_get symbols p
  next = ap (slice_get (s ∷ symbols)) one

  go : (b : Bool) → name_in (s ∷ symbols) (cond b (Some (1 + p)) None) ≡ name_in symbols (cond b (Some p) None)
  go true = ap (option_map (λ (s : Symbol). s.name)) next
  go false = refl

-- the name in the place of a number is its name
pub placed_name : (entries : List (Name × ℕ)) (n : ℕ) → name_in (symbols_of entries) (position (nat_eq n) (map (λ e. e.1) entries)) ≡ name_of (symbols_of entries) n
placed_name [] n = refl
placed_name (e ∷ entries) n = go (nat_eq n e.1) (placed_name entries n) where
  before : ℕ
  before = position_or_len (nat_eq n) (map (λ e. e.1) entries)

  among : ℕ
  among = length (map (λ (e : Name × ℕ). e.1) entries)

  go : (b : Bool) → name_in (symbols_of entries) (position (nat_eq n) (map (λ e. e.1) entries)) ≡ name_of (symbols_of entries) n → name_in (symbols_of (e ∷ entries)) (cond (nat_lt (cond (not b) (1 + before) 0) (suc among)) (Some (cond (not b) (1 + before) 0)) None) ≡ cond b (Some e.0.bytes.items) (name_of (symbols_of entries) n)
  go true more = ap (λ (b : Bool). name_in (symbols_of (e ∷ entries)) (cond b (Some 0) None)) (nat_lt-zero among)
  go false more = name_in-cons _ (symbols_of entries) before among ∙ more

pub none_of : {X : Type 0} (o : Option X) → is_some o ≡ false → o ≡ None
none_of None e = refl
none_of (Some x) e = absurd (cc)

module _ (entries : List (Name × ℕ)) (numbers : List ℕ) (total : ℕ) (kept : IsKept entries numbers total) (number : ℕ) where
  -- a number that is not among the numbers has no name
  pub free_number : list_any (nat_eq number) numbers ≡ false → name_of (symbols_of entries) number ≡ None
  free_number free = none_of _ (sym (any_name entries number) ∙ ap (list_any (nat_eq number)) (sym kept.placed) ∙ free)

  -- and one that is has one
  pub taken_number : list_any (nat_eq number) numbers ≡ true → is_some (name_of (symbols_of entries) number) ≡ true
  taken_number taken = sym (any_name entries number) ∙ ap (list_any (nat_eq number)) (sym kept.placed) ∙ taken

-- a name and a number that are new stand last
pub symbols_of-push : (entries : List (Name × ℕ)) (name : Name) (number : ℕ) → symbols_of (entries ++ (name, number) ∷ []) ≡ symbols_of entries ++ record { name = name.bytes.items; number = number } ∷ []
symbols_of-push entries name number = map-append (λ (e : Name × ℕ). record { name = e.0.bytes.items; number = e.1 }) entries ((name, number) ∷ [])

pub IsKept-push : (entries : List (Name × ℕ)) (numbers : List ℕ) (total : ℕ) (name : Name) (number : ℕ) → IsKept entries numbers total → IsName name.bytes.items → number ≤ greatest_label → found_in entries name.bytes.items ≡ None → list_any (nat_eq number) numbers ≡ false → (sum : ℕ) → sum ≡ total + length name.bytes.items → sum < 4294967296 → IsKept (entries ++ (name, number) ∷ []) (numbers ++ number ∷ []) sum
IsKept-push entries numbers total name number kept named small none free sum is fits = record {
  table = subst IsTable (sym (symbols_of-push entries name number)) (IsTable-push (symbols_of entries) (record { name = name.bytes.items; number = number }) kept.table named small (sym (found_number entries name.bytes.items) ∙ none) (free_number entries numbers total kept number free));
  placed = ap (λ (ns : List ℕ). ns ++ number ∷ []) kept.placed ∙ sym (map-append (λ (e : Name × ℕ). e.1) entries ((name, number) ∷ []));
  counted = is ∙ sym (ap (sum_by (λ (s : Symbol). length s.name)) (symbols_of-push entries name number) ∙ sum_by_push (λ (s : Symbol). length s.name) (symbols_of entries) (record { name = name.bytes.items; number = number }) ∙ ap (λ (n : ℕ). n + length name.bytes.items) (sym kept.counted));
  fits = fits;
}

-- nothing is kept before anything is put
pub IsKept-nil : (entries : List (Name × ℕ)) (numbers : List ℕ) → entries ≡ [] → numbers ≡ [] → IsKept entries numbers 0
IsKept-nil entries numbers none empty = subst (λ (es : List (Name × ℕ)). IsKept es numbers 0) (sym none) (subst (λ (ns : List ℕ). IsKept [] ns 0) (sym empty) (record { table = IsTable-nil; placed = refl; counted = refl; fits = omega arith }))

pub not_is : (b c : Bool) → c ≡ not b → b ≡ not c
not_is true c e = sym (ap not e)
not_is false c e = sym (ap not e)

-- a number that is new goes last
pub insert_key-new : (numbers : List ℕ) (number : ℕ) → list_any (nat_eq number) numbers ≡ false → insert_key nat_eq numbers number ≡ numbers ++ number ∷ []
insert_key-new numbers number free = ap (λ (b : Bool). cond b numbers (numbers ++ number ∷ [])) free

-- and one that is there stays in its place
pub insert_key-known : (numbers : List ℕ) (number : ℕ) → list_any (nat_eq number) numbers ≡ true → insert_key nat_eq numbers number ≡ numbers
insert_key-known numbers number known = ap (λ (b : Bool). cond b numbers (numbers ++ number ∷ [])) known

small_numbers : (t : List Symbol) (q : ℕ) → AllByRecursion (λ s. s.number ≤ greatest_label) t → list_any (eqb q) (map (λ s. s.number) t) ≡ true → q < 2147483648
small_numbers [] q h e = absurd cc
small_numbers (s ∷ t) q h e = go (eqb q s.number) refl e (small_numbers t q h.1) where
  go : (same : Bool) → eqb q s.number ≡ same → (same || list_any (eqb q) (map (λ s. s.number) t)) ≡ true → (list_any (eqb q) (map (λ s. s.number) t) ≡ true → q < 2147483648) → q < 2147483648
  go true is e more = omega (arith, eqb-true q s.number is, h.0)
  go false is e more = more e

-- there are no more symbols than labels
pub few_symbols : (t : List Symbol) → IsTable t → length t ≤ 2147483648
few_symbols t h =
    let few = length-le_from_distinct_below (map (λ s. s.number) t) 2147483648 h.numbers (λ q. small_numbers t q (recursion_from_All (λ s. s.number ≤ greatest_label) t h.small)) in
    omega (arith, few, length-map t (λ (s : Symbol). s.number))

-- the name of a number, by its place and the entry there
pub name_by_place : (entries : List (Name × ℕ)) (numbers : List ℕ) (total : ℕ) → IsKept entries numbers total → (n : ℕ) (place : Option ℕ) → place ≡ position (nat_eq n) numbers → option_map (λ (e : Name × ℕ). e.0.bytes.items) (option_and_then (slice_get entries) place) ≡ name_of (symbols_of entries) n
name_by_place entries numbers total kept n place at =
    sym (mapped place) ∙ ap (name_in (symbols_of entries)) (at ∙ ap (position (nat_eq n)) kept.placed) ∙ placed_name entries n where
      mapped : (place : Option ℕ) → name_in (symbols_of entries) place ≡ option_map (λ (e : Name × ℕ). e.0.bytes.items) (option_and_then (slice_get entries) place)
      mapped None = refl
      mapped (Some i) = ap (option_map (λ (s : Symbol). s.name)) (slice_get-map (λ (e : Name × ℕ). record { name = e.0.bytes.items; number = e.1 }) entries i) ∙ named (slice_get entries i) where
        named : (o : Option (Name × ℕ)) → option_map (λ (s : Symbol). s.name) (option_map (λ (e : Name × ℕ). record { name = e.0.bytes.items; number = e.1 }) o) ≡ option_map (λ (e : Name × ℕ). e.0.bytes.items) o
        named None = refl
        named (Some e) = refl

-- the name in a place has no more bytes than all names have
pub name_within : (entries : List (Name × ℕ)) (place : ℕ) (e : Name × ℕ) → Some e ≡ slice_get entries place → length e.0.bytes.items ≤ sum_by (λ s. length s.name) (symbols_of entries)
name_within [] place e at = absurd cc
name_within (f ∷ entries) zero e at = omega (arith, sum_by-cons (λ (s : Symbol). length s.name) (record { name = f.0.bytes.items; number = f.1 }) (symbols_of entries), ap (λ (g : Name × ℕ). length g.0.bytes.items) (same_Some _ _ at))
name_within (f ∷ entries) (suc place) e at = omega (arith, sum_by-cons (λ (s : Symbol). length s.name) (record { name = f.0.bytes.items; number = f.1 }) (symbols_of entries), name_within entries place e at)

-- names are compared by their bytes
abbrev pub same_name : Name → Name → Bool
same_name a b = bytes_eq a.bytes.items b.bytes.items

-- a name without a number is not found
pub absent : (entries : List (Name × ℕ)) (symbols : List Symbol) (bytes name : List ℕ) → symbols_of entries ≡ symbols → bytes ≡ name → number_of symbols name ≡ None → found_in entries bytes ≡ None
absent entries symbols bytes name view same none = ap (found_in entries) same ∙ found_number entries name ∙ ap (λ (ss : List Symbol). number_of ss name) view ∙ none

-- a name that is not put leaves the table as it was
pub Adds-err : (entries after : List (Name × ℕ)) (numbers left : List ℕ) (total : ℕ) (kept : IsKept entries numbers total) (symbols : List Symbol) (view : symbols_of entries ≡ symbols) (bytes : Name) (name : List ℕ) (number : ℕ) (fault : AddSymbolFault) → number_of symbols name ≡ None → Puts {X = ℕ} entries numbers bytes number after left (Err fault) → Adds {X = ℕ} symbols name number (symbols_of after) (Err fault)
Adds-err entries after numbers left total kept symbols view bytes name number SymbolTaken none h = absurd h
Adds-err entries after numbers left total kept symbols view bytes name number NumberTaken none h =
    (none, ap (λ (ss : List Symbol). is_some (name_of ss number)) (sym view) ∙ taken_number entries numbers total kept number h.1, ap symbols_of h.0 ∙ view)
Adds-err entries after numbers left total kept symbols view bytes name number Memory none h = ap symbols_of h.0 ∙ view
