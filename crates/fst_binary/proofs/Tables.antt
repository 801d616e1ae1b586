-- Tables that are read are those that stand there.
use Rattle.std.proofs.Common.{◌≡◌, ℕ, zero, suc, ◌^◌, ◌<◌, ◌≤◌, Bool, true, false, cond, leb, ltb, not, ◌||◌, List, [], ◌∷◌, ◌++◌, map, length, drop, is_some, None, Some, Ok, All, refl, sym, ap, subst, ◌∙◌, append_assoc, arith}
use Rattle.std.specs.Prelude.{◌==◌, nat_eq}
use Rattle.std.specs.List.{AllByRecursion, IsDistinct, flat_map, list_all}
use Rattle.std.specs.Str.{bytes_eq}
use Rattle.std.proofs.lemmas.Bool.{le-leb, lt-ltb, leb-true, ltb-true}
use Rattle.std.proofs.lemmas.Bool.Decides.{nat_tests}
use Rattle.std.proofs.lemmas.Cmp.{nat_list_eq_equiv}
use Rattle.std.proofs.lemmas.List.{append-nil}
use Rattle.std.proofs.lemmas.List.Elements.{All-nil, All-push, recursion_from_All}
use Rattle.std.proofs.lemmas.List.Sums.{AllPass-from_list_all, list_all-from_AllPass}
use Rattle.std.proofs.lemmas.Map.Keys.{IsDistinct-head, IsDistinct-tail}
use Rattle.fst_fields.specs.Decimal.{greatest_label}
use Rattle.fst_fields.specs.Lines.{is_line_end, is_separator}
use Rattle.fst_fields.specs.Reading.{◌>>=◌}
use Rattle.fst_bytes.specs.Reading.{fault, label_at, number_at, number_where, part_at}
use Rattle.fst_bytes.specs.Spelling.{long, text, word}
use Rattle.fst_bytes.proofs.Names.{part_again, part_takes}
use Rattle.fst_bytes.proofs.Numbers.{longs, number_takes, where_again, where_takes, words}
use Rattle.fst_bytes.proofs.Steps.{IsBytes, Reads, Takes, Takes-none, Takes-then, bind_ok, done, guard_ok, guard_passed, ok_is}
use Rattle.fst_symbols.specs.Symbols.{IsName, IsNameByte, IsTable, Symbol, name_of, number_of}
use Rattle.fst_symbols.proofs.Entries.{few_symbols, none_of}
use Rattle.fst_symbols.proofs.Tables.{IsTable-nil, IsTable-push}
use Rattle.fst_binary.specs.Faults.{BinaryFault}
use Rattle.fst_binary.specs.declared.fault.BinaryKind.{BinaryKind}
use Rattle.fst_binary.specs.declared.fault.BinaryKind.TheVariants.{BadCount, BadSymbols, Short}
use Rattle.fst_binary.specs.Tables.{is_name_byte, name_at, table_at, with_symbol_at, with_symbols_at}
use Rattle.fst_binary.specs.Tables.{HasTableFields, IsShort, symbol_fields, table_fields}

-- ---- the bytes of names

name_byte : (c : ℕ) (a b : Bool) → is_separator c ≡ a → is_line_end c ≡ b → not (a || b) ≡ true → IsNameByte c
name_byte c true b e f h = absurd cc
name_byte c false true e f h = absurd cc
name_byte c false false e f h = record { inner = e; on_line = f }

byte_is : (c : ℕ) → IsNameByte c → is_name_byte c ≡ true
byte_is c h = ap (λ a. not (a || is_line_end c)) h.inner ∙ ap (λ b. not b) h.on_line

pub are_name_bytes : (name : List ℕ) → list_all is_name_byte name ≡ true → All IsNameByte name
are_name_bytes name h = λ k d lt. name_byte _ _ _ refl refl (AllPass-from_list_all is_name_byte name h k d lt)

pub pass_as_name : (name : List ℕ) → All IsNameByte name → list_all is_name_byte name ≡ true
pass_as_name name h = list_all-from_AllPass is_name_byte name (λ k d lt. byte_is _ (h k d lt))

-- ---- a name

below_limit : (test : ℕ → Bool) (wrong : BinaryKind) (bytes : List ℕ) (at n next : ℕ) → IsBytes bytes → number_where test Short wrong 4 bytes at ≡ Ok (n, next) → n < 2 ^ 32
unfolding number_where
below_limit test wrong bytes at n next fits e =
    let b = bind_ok (number_at Short 4 bytes at) (λ m. cond (test m.0) (Ok m) (fault wrong at)) (n, next) e in
    let g = guard_passed (test b.0.0) (Ok b.0) (record { offset = at; kind = wrong }) (n, next) b.2 in
    let same : b.0 ≡ (n, next) = ok_is {A = ℕ × ℕ} {E = BinaryFault} _ _ g.1 in
    let read : number_at Short 4 bytes at ≡ Ok (n, next) = b.1 ∙ ap (λ (p : ℕ × ℕ). Ok p) same in
    (number_takes Short 4 (2 ^ 32) word words bytes at n next fits read).1

pub name_takes : (bytes : List ℕ) (at : ℕ) (name : List ℕ) (next : ℕ) → IsBytes bytes → name_at bytes at ≡ Ok (name, next) → Takes bytes at (text name) next × IsName name × (length name < 4294967296)
unfolding name_at
name_takes bytes at name next fits e =
    let rest = λ (part : List ℕ × ℕ). cond (list_all is_name_byte part.0) (done {A = List ℕ × ℕ} {E = BinaryFault} part) (fault BadSymbols at) in
    let b = bind_ok (number_where (λ n. ltb 0 n) Short BadSymbols 4 bytes at) (λ n. part_at Short n.0 bytes n.1 >>= rest) (name, next) e in
    let c = bind_ok (part_at Short b.0.0 bytes b.0.1) rest (name, next) b.2 in
    let g = guard_passed (list_all is_name_byte c.0.0) (Ok c.0) (record { offset = at; kind = BadSymbols }) (name, next) c.2 in
    let number = where_takes (λ n. ltb 0 n) Short BadSymbols 4 (2 ^ 32) word words bytes at b.0.0 b.0.1 fits b.1 in
    let few = below_limit (λ n. ltb 0 n) BadSymbols bytes at b.0.0 b.0.1 fits b.1 in
    let part = part_takes Short b.0.0 bytes b.0.1 c.0.0 c.0.1 c.1 in
    let both : Takes bytes at (word b.0.0 ++ c.0.0) c.0.1 = Takes-then bytes at (word b.0.0) b.0.1 c.0.0 c.0.1 number.0 part.0 in
    let whole : Takes bytes at (text c.0.0) c.0.1 = subst (λ (n : ℕ). Takes bytes at (word n ++ c.0.0) c.0.1) (sym part.1) both in
    let filled : 0 < length c.0.0 = omega (arith, ltb-true _ _ number.1, part.1) in
    let is : IsName c.0.0 = record { filled = filled; bytes = are_name_bytes c.0.0 g.0 } in
    let limit : length c.0.0 < 4294967296 = omega (arith, few, part.1) in
    subst (λ (p : List ℕ × ℕ). Takes bytes at (text p.0) p.1 × IsName p.0 × (length p.0 < 4294967296)) (ok_is {A = List ℕ × ℕ} {E = BinaryFault} c.0 (name, next) g.1) (whole, is, limit)

pub name_again : (bytes : List ℕ) (at : ℕ) (name rest : List ℕ) → at ≤ length bytes → IsName name → length name < 4294967296 → drop at bytes ≡ text name ++ rest → Reads bytes (name_at bytes at) name rest
unfolding name_at
name_again bytes at name rest within is few e =
    let apart : drop at bytes ≡ word (length name) ++ (name ++ rest) = e ∙ append_assoc (word (length name)) name rest in
    let number = where_again (λ n. ltb 0 n) Short BadSymbols 4 (2 ^ 32) word words bytes at (length name) (name ++ rest) within (omega (arith, few)) (lt-ltb _ _ is.filled) apart in
    let part = part_again Short bytes number.next name rest number.within number.left in
    record { next = part.next; gives = rw (number.gives, part.gives, pass_as_name name is.bytes) refl; left = part.left; within = part.within }

-- ---- a symbol

pub record SymbolRead (before : List Symbol) (bytes : List ℕ) (at : ℕ) (more : List Symbol) (next : ℕ) : Type 0 where
  pub symbol : Symbol
  pub is : more ≡ before ++ symbol ∷ []
  pub taken : Takes bytes at (symbol_fields symbol) next
  pub name : IsName symbol.name
  pub short : IsShort symbol
  pub small : symbol.number ≤ greatest_label
  pub fresh : number_of before symbol.name ≡ None
  pub free : name_of before symbol.number ≡ None

pub symbol_takes : (before : List Symbol) (bytes : List ℕ) (at : ℕ) (more : List Symbol) (next : ℕ) → IsBytes bytes → with_symbol_at before bytes at ≡ Ok (more, next) → SymbolRead before bytes at more next
unfolding with_symbol_at
symbol_takes before bytes at more next fits e =
    let put = λ (name : List ℕ × ℕ) (number : ℕ × ℕ). cond (is_some (name_of before number.0)) (fault BadSymbols name.1) (done {A = List Symbol × ℕ} {E = BinaryFault} (before ++ record { name = name.0; number = number.0 } ∷ [], number.1)) in
    let numbered = λ (name : List ℕ × ℕ). cond (is_some (number_of before name.0)) (fault BadSymbols at) (label_at Short BadSymbols bytes name.1) >>= put name in
    let b = bind_ok (name_at bytes at) numbered (more, next) e in
    let c = bind_ok (cond (is_some (number_of before b.0.0)) (fault BadSymbols at) (label_at Short BadSymbols bytes b.0.1)) (put b.0) (more, next) b.2 in
    let g = guard_ok (is_some (number_of before b.0.0)) (label_at Short BadSymbols bytes b.0.1) (record { offset = at; kind = BadSymbols }) c.0 c.1 in
    let s : Symbol = record { name = b.0.0; number = c.0.0 } in
    let h = guard_ok (is_some (name_of before c.0.0)) (done (before ++ s ∷ [], c.0.1)) (record { offset = b.0.1; kind = BadSymbols }) (more, next) c.2 in
    let n = name_takes bytes at b.0.0 b.0.1 fits b.1 in
    let k = where_takes (λ n. leb n greatest_label) Short BadSymbols 4 (2 ^ 32) word words bytes b.0.1 c.0.0 c.0.1 fits g.1 in
    let read : SymbolRead before bytes at (before ++ s ∷ []) c.0.1 = record {
      symbol = s;
      is = refl;
      taken = Takes-then bytes at (text b.0.0) b.0.1 (word c.0.0) c.0.1 n.0 k.0;
      name = n.1;
      short = n.2;
      small = leb-true _ _ k.1;
      fresh = none_of (number_of before b.0.0) g.0;
      free = none_of (name_of before c.0.0) h.0;
    } in
    subst (λ (p : List Symbol × ℕ). SymbolRead before bytes at p.0 p.1) (ok_is {A = List Symbol × ℕ} {E = BinaryFault} (before ++ s ∷ [], c.0.1) (more, next) h.1) read

pub symbol_again : (before : List Symbol) (s : Symbol) (bytes : List ℕ) (at : ℕ) (rest : List ℕ) → at ≤ length bytes → IsName s.name → IsShort s → s.number ≤ greatest_label → number_of before s.name ≡ None → name_of before s.number ≡ None → drop at bytes ≡ symbol_fields s ++ rest → Reads bytes (with_symbol_at before bytes at) (before ++ s ∷ []) rest
unfolding with_symbol_at
symbol_again before s bytes at rest within name few small fresh free e =
    let apart : drop at bytes ≡ text s.name ++ (word s.number ++ rest) = e ∙ append_assoc (text s.name) (word s.number) rest in
    let n = name_again bytes at s.name (word s.number ++ rest) within name few apart in
    let k = where_again (λ n. leb n greatest_label) Short BadSymbols 4 (2 ^ 32) word words bytes n.next s.number rest n.within (omega (arith, small)) (le-leb _ _ small) n.left in
    record { next = k.next; gives = rw (n.gives, fresh, k.gives, free) refl; left = k.left; within = k.within }

-- ---- symbols

pub record SymbolsRead (n : ℕ) (before : List Symbol) (bytes : List ℕ) (at : ℕ) (all : List Symbol) (next : ℕ) : Type 0 where
  pub own : List Symbol
  pub is : all ≡ before ++ own
  pub count : length own ≡ n
  pub taken : Takes bytes at (flat_map symbol_fields own) next
  pub table : IsTable all
  pub short : All IsShort all

pub symbols_take : (n : ℕ) (before : List Symbol) (bytes : List ℕ) (at : ℕ) (all : List Symbol) (next : ℕ) → at ≤ length bytes → IsBytes bytes → IsTable before → All IsShort before → with_symbols_at n before bytes at ≡ Ok (all, next) → SymbolsRead n before bytes at all next
unfolding with_symbols_at
symbols_take zero before bytes at all next within fits table few e =
    subst (λ (p : List Symbol × ℕ). SymbolsRead 0 before bytes at p.0 p.1) (ok_is {A = List Symbol × ℕ} {E = BinaryFault} (before, at) (all, next) e)
    (record { own = []; is = sym (append-nil before); count = refl; taken = Takes-none bytes at within; table = table; short = few })
symbols_take (suc n) before bytes at all next within fits table few e =
    let b = bind_ok (with_symbol_at before bytes at) (λ more. with_symbols_at n more.0 bytes more.1) (all, next) e in
    let r = symbol_takes before bytes at b.0.0 b.0.1 fits b.1 in
    let grown : IsTable b.0.0 = subst IsTable (sym r.is) (IsTable-push before r.symbol table r.name r.small r.fresh r.free) in
    let shorts : All IsShort b.0.0 = subst (λ (ss : List Symbol). All IsShort ss) (sym r.is) (All-push IsShort before r.symbol few r.short) in
    let s = symbols_take n b.0.0 bytes b.0.1 all next r.taken.within fits grown shorts b.2 in
    record {
      own = r.symbol ∷ s.own;
      is = s.is ∙ ap (λ (ss : List Symbol). ss ++ s.own) r.is ∙ append_assoc before (r.symbol ∷ []) s.own;
      count = ap suc s.count;
      taken = Takes-then bytes at (symbol_fields r.symbol) b.0.1 (flat_map symbol_fields s.own) next r.taken s.taken;
      table = s.table;
      short = s.short;
    }

-- what holds of all holds of the one in the middle
in_middle : {Y : Type 0} (f : Symbol → Y) (P : Y → Type 0) (before : List Symbol) (s : Symbol) (own : List Symbol) → AllByRecursion P (map f (before ++ s ∷ own)) → P (f s)
in_middle f P [] s own h = h.0
in_middle f P (t ∷ before) s own h = in_middle f P before s own h.1

-- in a table a name is not that of an earlier symbol, and a number is not
name_is_fresh : (before : List Symbol) (s : Symbol) (own : List Symbol) → IsDistinct bytes_eq (map (λ s. s.name) (before ++ s ∷ own)) → number_of before s.name ≡ None
name_is_fresh [] s own h = refl
name_is_fresh (t ∷ before) s own h =
    let apart : bytes_eq t.name s.name ≡ false = in_middle (λ s. s.name) (λ n. bytes_eq t.name n ≡ false) before s own (IsDistinct-head bytes_eq t.name (map (λ s. s.name) (before ++ s ∷ own)) h) in
    ap (λ b. cond b (Some t.number) (number_of before s.name)) (nat_list_eq_equiv.symm s.name t.name ∙ apart)
    ∙ name_is_fresh before s own (IsDistinct-tail bytes_eq t.name (map (λ s. s.name) (before ++ s ∷ own)) h)

other_way : (n m : ℕ) → nat_eq n m ≡ false → (m == n) ≡ false
other_way n m e = grind (arith, nat_tests)

number_is_free : (before : List Symbol) (s : Symbol) (own : List Symbol) → IsDistinct nat_eq (map (λ s. s.number) (before ++ s ∷ own)) → name_of before s.number ≡ None
number_is_free [] s own h = refl
number_is_free (t ∷ before) s own h =
    let apart : nat_eq t.number s.number ≡ false = in_middle (λ s. s.number) (λ n. nat_eq t.number n ≡ false) before s own (IsDistinct-head nat_eq t.number (map (λ s. s.number) (before ++ s ∷ own)) h) in
    ap (λ b. cond b (Some t.name) (name_of before s.number)) (other_way t.number s.number apart)
    ∙ number_is_free before s own (IsDistinct-tail nat_eq t.number (map (λ s. s.number) (before ++ s ∷ own)) h)

middle_of : (P : Symbol → Type 0) (before : List Symbol) (s : Symbol) (own : List Symbol) → AllByRecursion P (before ++ s ∷ own) → P s
middle_of P [] s own h = h.0
middle_of P (t ∷ before) s own h = middle_of P before s own h.1

pub symbols_again : (before own : List Symbol) (bytes : List ℕ) (at : ℕ) (rest : List ℕ) → at ≤ length bytes → IsTable (before ++ own) → AllByRecursion IsShort own → drop at bytes ≡ flat_map symbol_fields own ++ rest → Reads bytes (with_symbols_at (length own) before bytes at) (before ++ own) rest
unfolding with_symbols_at
symbols_again before [] bytes at rest within table few e = record { next = at; gives = ap (λ (ss : List Symbol). Ok (ss, at)) (sym (append-nil before)); left = e; within = within }
symbols_again before (s ∷ own) bytes at rest within table few e =
    let apart : drop at bytes ≡ symbol_fields s ++ (flat_map symbol_fields own ++ rest) = e ∙ append_assoc (symbol_fields s) (flat_map symbol_fields own) rest in
    let name = middle_of (λ s. IsName s.name) before s own (recursion_from_All (λ s. IsName s.name) (before ++ s ∷ own) table.fields) in
    let small = middle_of (λ s. s.number ≤ greatest_label) before s own (recursion_from_All (λ s. s.number ≤ greatest_label) (before ++ s ∷ own) table.small) in
    let first = symbol_again before s bytes at (flat_map symbol_fields own ++ rest) within name few.0 small (name_is_fresh before s own table.names) (number_is_free before s own table.numbers) apart in
    let same : (before ++ s ∷ []) ++ own ≡ before ++ (s ∷ own) = append_assoc before (s ∷ []) own in
    let others = symbols_again (before ++ s ∷ []) own bytes first.next rest first.within (subst IsTable (sym same) table) few.1 first.left in
    record { next = others.next; gives = rw first.gives (others.gives ∙ ap (λ (ss : List Symbol). Ok (ss, others.next)) same); left = others.left; within = others.within }

-- ---- a table

pub table_takes : (bytes : List ℕ) (at : ℕ) (t : List Symbol) (next : ℕ) → IsBytes bytes → table_at bytes at ≡ Ok (t, next) → Takes bytes at (table_fields t) next × HasTableFields t
unfolding table_at
table_takes bytes at t next fits e =
    let b = bind_ok (number_where (λ n. leb n 2147483648) Short BadCount 8 bytes at) (λ count. with_symbols_at count.0 [] bytes count.1) (t, next) e in
    let number = where_takes (λ n. leb n 2147483648) Short BadCount 8 (2 ^ 64) long longs bytes at b.0.0 b.0.1 fits b.1 in
    let s = symbols_take b.0.0 [] bytes b.0.1 t next number.0.within fits IsTable-nil (All-nil IsShort) b.2 in
    let count : b.0.0 ≡ length t = sym s.count ∙ ap length (sym s.is) in
    let own : Takes bytes b.0.1 (flat_map symbol_fields t) next = subst (λ (ss : List Symbol). Takes bytes b.0.1 (flat_map symbol_fields ss) next) (sym s.is) s.taken in
    let first : Takes bytes at (long (length t)) b.0.1 = subst (λ (n : ℕ). Takes bytes at (long n) b.0.1) count number.0 in
    (Takes-then bytes at (long (length t)) b.0.1 (flat_map symbol_fields t) next first own, record { table = s.table; short = s.short })

pub table_again : (t : List Symbol) (bytes : List ℕ) (at : ℕ) (rest : List ℕ) → at ≤ length bytes → HasTableFields t → drop at bytes ≡ table_fields t ++ rest → Reads bytes (table_at bytes at) t rest
unfolding table_at
table_again t bytes at rest within has e =
    let apart : drop at bytes ≡ long (length t) ++ (flat_map symbol_fields t ++ rest) = e ∙ append_assoc (long (length t)) (flat_map symbol_fields t) rest in
    let few : length t ≤ 2147483648 = few_symbols t has.table in
    let c = where_again (λ n. leb n 2147483648) Short BadCount 8 (2 ^ 64) long longs bytes at (length t) (flat_map symbol_fields t ++ rest) within (omega (arith, few)) (le-leb _ _ few) apart in
    let s = symbols_again [] t bytes c.next rest c.within has.table (recursion_from_All IsShort t has.short) c.left in
    record { next = s.next; gives = rw (c.gives, s.gives) refl; left = s.left; within = s.within }

-- no table is the beginning of another
pub tables_apart : (t u : List Symbol) (rest more : List ℕ) → HasTableFields t → HasTableFields u → table_fields t ++ rest ≡ table_fields u ++ more → (t ≡ u) × (rest ≡ more)
tables_apart t u rest more has also e =
    let bytes = table_fields t ++ rest in
    let r = table_again t bytes 0 rest (omega arith) has refl in
    let s = table_again u bytes 0 more (omega arith) also e in
    let same : (t, r.next) ≡ (u, s.next) = ok_is {A = List Symbol × ℕ} {E = BinaryFault} (t, r.next) (u, s.next) (sym r.gives ∙ s.gives) in
    (ap (λ (p : List Symbol × ℕ). p.0) same, sym r.left ∙ ap (λ (p : List Symbol × ℕ). drop p.1 bytes) same ∙ s.left)
