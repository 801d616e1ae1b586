-- Tables that are written symbol by symbol.
use Rattle.std.proofs.Common.{◌≡◌, ℕ, zero, suc, ◌+◌, ◌*◌, ◌<◌, List, [], ◌∷◌, length, drop, Some, refl, ap, subst, arith}
use Rattle.std.specs.Prelude.{slice_get, sum_by}
use Rattle.std.specs.List.{AllByRecursion, flat_map}
use Rattle.std.proofs.lemmas.List.Elements.{All-from_recursion}
use Rattle.std.proofs.lemmas.List.Sums.{sum_by-cons}
use Rattle.std.proofs.lemmas.List.{length-append}
use Rattle.std.proofs.lemmas.Option.{same_Some}
use Rattle.fst_bytes.specs.Spelling.{long, text, word}
use Rattle.fst_bytes.proofs.Lengths.{length-long, length-word}
use Rattle.fst_symbols.specs.Symbols.{IsTable, Symbol}
use Rattle.fst_binary.specs.Tables.{HasTableFields, IsShort, symbol_fields, table_fields}

one_and_rest : {X : Type 0} (xs : List X) (i : ℕ) (x : X) → slice_get xs i ≡ Some x → drop i xs ≡ x ∷ drop (suc i) xs
one_and_rest [] i x e = absurd cc
one_and_rest (y ∷ xs) zero x e = ap (λ z. z ∷ xs) (same_Some _ _ e)
one_and_rest (y ∷ xs) (suc i) x e = one_and_rest xs i x e

-- what is left of a list from a place on is what stands there and the rest
pub one_left : {X : Type 0} (xs : List X) (i : ℕ) (x : X) → slice_get xs i ≡ Some x → drop i xs ≡ x ∷ drop (i + 1) xs
one_left xs i x e = let next : suc i ≡ i + 1 = omega arith in subst (λ (j : ℕ). drop i xs ≡ x ∷ drop j xs) next (one_and_rest xs i x e)

pub length-symbol : (s : Symbol) → length (symbol_fields s) ≡ 8 + length s.name
length-symbol s =
    let a = length-append (text s.name) (word s.number) in
    let b = length-append (word (length s.name)) s.name in
    omega (arith, a, b, length-word s.number, length-word (length s.name))

-- the fields of symbols: eight bytes for each, and the names
symbols_are_long : (t : List Symbol) → length (flat_map symbol_fields t) ≡ 8 * length t + sum_by (λ s. length s.name) t
symbols_are_long [] = refl
symbols_are_long (s ∷ t) =
    let n = length-append (symbol_fields s) (flat_map symbol_fields t) in
    let all = sum_by-cons (λ (s : Symbol). length s.name) s t in
    omega (arith, n, length-symbol s, symbols_are_long t, all)

pub table_is_long : (t : List Symbol) → length (table_fields t) ≡ 8 + 8 * length t + sum_by (λ s. length s.name) t
table_is_long t =
    let n = length-append (long (length t)) (flat_map symbol_fields t) in
    omega (arith, n, length-long (length t), symbols_are_long t)

short_names : (t : List Symbol) → sum_by (λ s. length s.name) t < 4294967296 → AllByRecursion IsShort t
short_names [] small = tt
short_names (s ∷ t) small =
    let all = sum_by-cons (λ (s : Symbol). length s.name) s t in
    (omega (arith, all, small), short_names t (omega (arith, all, small)))

-- a table whose names are short together has fields
pub has_table_fields : (t : List Symbol) → IsTable t → sum_by (λ s. length s.name) t < 4294967296 → HasTableFields t
has_table_fields t table small = record { table = table; short = All-from_recursion IsShort t (short_names t small) }
