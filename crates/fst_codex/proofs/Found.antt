-- What is read is spelled so, and what is spelled so is read.
use Rattle.std.proofs.Common.{◌≡◌, ℕ, ◌^◌, ◌≤◌, Bool, cond, leb, eqb, List, [], ◌∷◌, ◌++◌, length, Result, Ok, Err, sym, ap, subst, ◌∙◌, arith}
use Rattle.std.specs.Prelude.{IfOk}
use Rattle.std.specs.List.{AllByRecursion, flat_map}
use Rattle.std.proofs.lemmas.Bool.{eqb-true, leb-true}
use Rattle.std.proofs.lemmas.List.Elements.{All-from_recursion}
use Rattle.fst_semiring.specs.declared.arc_type.ArcType.{ArcType}
use Rattle.fst_semiring.specs.Cost.{Cost}
use Rattle.fst_bytes.specs.Spelling.{HasField, long}
use Rattle.fst_fields.specs.Reading.{◌>>=◌}
use Rattle.fst_bytes.proofs.Names.{found_alone}
use Rattle.fst_bytes.proofs.Numbers.{longs, where_takes}
use Rattle.fst_bytes.proofs.Steps.{IsBytes, Takes, Takes-all, Takes-then, bind_ok, done, guard_passed, ok_is}
use Rattle.fst_codex.specs.Reading.{CodexFault, Gives, codex_of_bytes, entries_at, flag_at, table_at, types_at}
use Rattle.fst_codex.specs.declared.fault.CodexKind.TheVariants.{BadCount, Extra, Short}
use Rattle.fst_codex.specs.Spelling.{HasCodexSpelling, codex_spelling, codex_types, entry_fields, flag}
use Rattle.fst_bytes.specs.Reading.{fault, number_where}
use Rattle.fst_codex.specs.Table.{Entry, Table, IsEntry, most_entries}
use Rattle.fst_codex.proofs.Again.{codex_again}
use Rattle.fst_codex.proofs.Fields.{GoodEntry}
use Rattle.fst_codex.proofs.Taken.{entries_takes, flag_takes, types_takes}

first_of : {X : Type 0} (P Q : X → Type 0) (xs : List X) → AllByRecursion (λ x. P x × Q x) xs → AllByRecursion P xs
first_of P Q [] h = tt
first_of P Q (x ∷ xs) h = (h.0.0, first_of P Q xs h.1)

second_of : {X : Type 0} (P Q : X → Type 0) (xs : List X) → AllByRecursion (λ x. P x × Q x) xs → AllByRecursion Q xs
second_of P Q [] h = tt
second_of P Q (x ∷ xs) h = (h.0.1, second_of P Q xs h.1)

made_spelling : (kind : ArcType) (t : Table Cost) → length t.entries ≤ most_entries → AllByRecursion (GoodEntry kind t.weights) t.entries → HasCodexSpelling kind t
made_spelling kind t few good =
    let own = IsEntry kind (λ v. v) t.weights in
    let fields = λ (e : Entry Cost). HasField kind e.weight in
    record {
      table = record { few = few; good = All-from_recursion own t.entries (first_of own fields t.entries good) };
      weights = All-from_recursion fields t.entries (second_of own fields t.entries good);
    }

-- what stands behind these bytes to the end is a codex
record TableTaken (kind : ArcType) (bytes front : List ℕ) (t : Table Cost) : Type 0 where
  parts : bytes ≡ front ++ flag t.weights ++ long (length t.entries) ++ flat_map (entry_fields kind t.weights) t.entries
  spelling : HasCodexSpelling kind t

table_takes : (kind : ArcType) (bytes front : List ℕ) (at : ℕ) (t : Table Cost) → IsBytes bytes → Takes bytes 0 front at → table_at kind bytes at ≡ Ok t → TableTaken kind bytes front t
unfolding table_at
table_takes kind bytes front at t fits begins e =
    let few = λ (n : ℕ). leb n most_entries in
    let ended = λ (w : Bool) (es : List (Entry Cost) × ℕ). cond (eqb es.1 (length bytes)) (done {A = Table Cost} {E = CodexFault} (record { weights = w; entries = es.0 })) (fault Extra es.1) in
    let b = bind_ok (flag_at bytes at) (λ w. number_where few Short BadCount 8 bytes w.1 >>= λ n. entries_at kind w.0 n.0 bytes n.1 >>= ended w.0) t e in
    let c = bind_ok (number_where few Short BadCount 8 bytes b.0.1) (λ n. entries_at kind b.0.0 n.0 bytes n.1 >>= ended b.0.0) t b.2 in
    let d = bind_ok (entries_at kind b.0.0 c.0.0 bytes c.0.1) (ended b.0.0) t c.2 in
    let g = guard_passed (eqb d.0.1 (length bytes)) (Ok (record { weights = b.0.0; entries = d.0.0 })) (record { offset = d.0.1; kind = Extra }) t d.2 in
    let t0 = flag_takes bytes at b.0.0 b.0.1 b.1 in
    let t1 = where_takes few Short BadCount 8 (2 ^ 64) long longs bytes b.0.1 c.0.0 c.0.1 fits c.1 in
    let t2 = entries_takes kind b.0.0 c.0.0 bytes c.0.1 d.0.0 d.0.1 t1.0.within fits d.1 in
    let two = Takes-then bytes 0 front at (flag b.0.0) b.0.1 begins t0 in
    let three = Takes-then bytes 0 (front ++ flag b.0.0) b.0.1 (long c.0.0) c.0.1 two t1.0 in
    let four = Takes-then bytes 0 (front ++ flag b.0.0 ++ long c.0.0) c.0.1 (flat_map (entry_fields kind b.0.0) d.0.0) d.0.1 three t2.0 in
    let own : Table Cost = record { weights = b.0.0; entries = d.0.0 } in
    let whole : bytes ≡ front ++ flag b.0.0 ++ long c.0.0 ++ flat_map (entry_fields kind b.0.0) d.0.0 = Takes-all bytes _ d.0.1 four (eqb-true _ _ g.0) in
    let counted = whole ∙ ap (λ (n : ℕ). front ++ flag b.0.0 ++ long n ++ flat_map (entry_fields kind b.0.0) d.0.0) (sym t2.2) in
    let spelling = made_spelling kind own (omega (arith, t2.2, leb-true _ _ t1.1)) t2.1 in
    subst (λ (x : Table Cost). TableTaken kind bytes front x) (ok_is {A = Table Cost} {E = CodexFault} own t g.1) (record { parts = counted; spelling = spelling })

found_spelled : (kind : ArcType) (bytes : List ℕ) (t : Table Cost) → IsBytes bytes → codex_of_bytes kind bytes ≡ Ok t → (bytes ≡ codex_spelling kind t) × HasCodexSpelling kind t
unfolding codex_of_bytes
found_spelled kind bytes t fits e =
    let b = bind_ok (types_at (kind ∷ []) bytes) (λ types. table_at kind bytes types.1) t e in
    let types = types_takes (kind ∷ []) bytes b.0.0 b.0.1 fits b.1 in
    let own : Takes bytes 0 (codex_types kind) b.0.1 = subst (λ (k : ArcType). Takes bytes 0 (codex_types k) b.0.1) (sym (found_alone types.1.0 kind b.0.0 types.1.1)) types.0 in
    let table = table_takes kind bytes (codex_types kind) b.0.1 t fits own b.2 in
    (table.parts, table.spelling)

-- ---- the same of what a function returned

pub is_found : {X : Type 0} (view : X → Table Cost) (kind : ArcType) (bytes : List ℕ) (result : Result X CodexFault) → IsBytes bytes → Gives view result (codex_of_bytes kind bytes) → IfOk result (λ x. (bytes ≡ codex_spelling kind (view x)) × HasCodexSpelling kind (view x))
is_found view kind bytes (Ok x) fits given = found_spelled kind bytes (view x) fits given
is_found view kind bytes (Err f) fits given = tt

pub spelled_again : (kind : ArcType) (bytes : List ℕ) (t : Table Cost) → HasCodexSpelling kind t → bytes ≡ codex_spelling kind t → codex_of_bytes kind bytes ≡ Ok t
spelled_again kind bytes t has e = ap (codex_of_bytes kind) e ∙ codex_again kind t has
