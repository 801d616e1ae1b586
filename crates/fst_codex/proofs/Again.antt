-- What is written is read again.
use Rattle.std.proofs.Common.{◌≡◌, ℕ, ◌-◌, ◌^◌, ◌≤◌, Bool, leb, List, [], ◌∷◌, ◌++◌, length, map, drop, Result, Ok, Err, All, refl, sym, ap, ◌∙◌, append_assoc, arith}
use Rattle.std.specs.Prelude.{IfOk}
use Rattle.std.specs.List.{AllByRecursion, flat_map}
use Rattle.std.proofs.lemmas.Bool.{eq-eqb, le-leb}
use Rattle.std.proofs.lemmas.List.{append-nil, length-drop, length-map}
use Rattle.std.proofs.lemmas.List.Elements.{All-from_recursion, recursion_from_All}
use Rattle.fst_semiring.specs.declared.arc_type.ArcType.{ArcType}
use Rattle.fst_semiring.specs.Cost.{Cost}
use Rattle.fst_bytes.specs.Spelling.{HasField, long}
use Rattle.fst_semiring.specs.Names.{known}
use Rattle.fst_bytes.proofs.Names.{named_alone, named_of_all}
use Rattle.fst_bytes.proofs.Loops.{many_again}
use Rattle.fst_bytes.proofs.Numbers.{longs, where_again}
use Rattle.fst_bytes.proofs.Steps.{Reads}
use Rattle.fst_codex.specs.declared.fault.CodexKind.TheVariants.{BadCount, Short}
use Rattle.fst_codex.specs.Spelling.{HasCodexSpelling, codex_spelling, codex_types, entry_fields, flag}
use Rattle.fst_codex.specs.Reading.{codex_arc_type_of_bytes, codex_of_bytes, entries_at, entry_at, table_at}
use Rattle.fst_codex.specs.Table.{Entry, Table, IsEntry, IsTable, most_entries, valued_entry, valued_table}
use Rattle.fst_codex.proofs.Fields.{GoodEntry, entry_again, flag_again, types_again}

entries_again : (kind : ArcType) (weights : Bool) (bytes : List ℕ) (at : ℕ) (es : List (Entry Cost)) (rest : List ℕ) → at ≤ length bytes → AllByRecursion (GoodEntry kind weights) es → drop at bytes ≡ flat_map (entry_fields kind weights) es ++ rest → Reads bytes (entries_at kind weights (length es) bytes at) es rest
entries_again kind weights bytes at es rest within good stands = many_again (entry_at kind weights bytes) (entry_fields kind weights) (GoodEntry kind weights) bytes (λ i e left. entry_again kind weights bytes i e left) at es rest within good stands

paired : {X : Type 0} (P Q : X → Type 0) (xs : List X) → AllByRecursion P xs → AllByRecursion Q xs → AllByRecursion (λ x. P x × Q x) xs
paired P Q [] f h = tt
paired P Q (x ∷ xs) f h = ((f.0, h.0), paired P Q xs f.1 h.1)

good_entries : (kind : ArcType) (t : Table Cost) → HasCodexSpelling kind t → AllByRecursion (GoodEntry kind t.weights) t.entries
good_entries kind t has = paired (IsEntry kind (λ v. v) t.weights) (λ e. HasField kind e.weight) t.entries (recursion_from_All (IsEntry kind (λ v. v) t.weights) t.entries has.table.good) (recursion_from_All (λ e. HasField kind e.weight) t.entries has.weights)

-- nothing is left behind the last byte alone
at_end : (bytes : List ℕ) (next : ℕ) → next ≤ length bytes → drop next bytes ≡ [] → next ≡ length bytes
at_end bytes next within none =
    let n : length bytes - next ≡ 0 = sym (length-drop next bytes) ∙ ap length none in
    omega (arith, n, within)

table_again : (kind : ArcType) (bytes : List ℕ) (at : ℕ) (t : Table Cost) → at ≤ length bytes → HasCodexSpelling kind t → drop at bytes ≡ flag t.weights ++ (long (length t.entries) ++ flat_map (entry_fields kind t.weights) t.entries) → table_at kind bytes at ≡ Ok t
unfolding table_at
table_again kind bytes at t within has stands =
    let entries = flat_map (entry_fields kind t.weights) t.entries in
    let w = flag_again bytes at t.weights (long (length t.entries) ++ entries) within stands in
    let n = where_again (λ n. leb n most_entries) Short BadCount 8 (2 ^ 64) long longs bytes w.next (length t.entries) entries w.within (omega (arith, has.table.few)) (le-leb _ _ has.table.few) w.left in
    let es = entries_again kind t.weights bytes n.next t.entries [] n.within (good_entries kind t has) (n.left ∙ sym (append-nil entries)) in
    let end = at_end bytes es.next es.within es.left in
    rw (w.gives, n.gives, es.gives, eq-eqb _ _ end) refl

begins : (a b c d : List ℕ) → a ++ b ++ c ++ d ≡ a ++ (b ++ (c ++ d))
begins a b c d = simp append_assoc

apart : (kind : ArcType) (t : Table Cost) → codex_spelling kind t ≡ codex_types kind ++ (flag t.weights ++ (long (length t.entries) ++ flat_map (entry_fields kind t.weights) t.entries))
apart kind t = begins (codex_types kind) (flag t.weights) (long (length t.entries)) (flat_map (entry_fields kind t.weights) t.entries)

-- what is spelled is read as the same codex
pub codex_again : (kind : ArcType) (t : Table Cost) → HasCodexSpelling kind t → codex_of_bytes kind (codex_spelling kind t) ≡ Ok t
unfolding codex_of_bytes
codex_again kind t has =
    let types = types_again (kind ∷ []) kind (codex_spelling kind t) _ (named_alone kind) (apart kind t) in
    let table = table_again kind (codex_spelling kind t) types.next t types.within has types.left in
    rw (types.gives, table) refl

-- and its arc type is found
pub type_again : (kind : ArcType) (t : Table Cost) → codex_arc_type_of_bytes (codex_spelling kind t) ≡ Ok kind
unfolding codex_arc_type_of_bytes
type_again kind t =
    let types = types_again known kind (codex_spelling kind t) _ (named_of_all kind) (apart kind t) in
    rw types.gives refl

-- ---- the values of the weights of a codex

value_entries : {V : Type 0} (value : V → Cost) (kind : ArcType) (weights : Bool) (es : List (Entry V)) → AllByRecursion (IsEntry kind value weights) es → AllByRecursion (IsEntry kind (λ v. v) weights) (map (valued_entry value) es)
value_entries value kind weights [] h = tt
value_entries value kind weights (e ∷ es) h = (record { ilabel = h.0.ilabel; olabel = h.0.olabel; weight = h.0.weight; bare = h.0.bare }, value_entries value kind weights es h.1)

value_weights : {V : Type 0} (value : V → Cost) (kind : ArcType) (es : List (Entry V)) → AllByRecursion (λ e. HasField kind (value e.weight)) es → AllByRecursion (λ e. HasField kind e.weight) (map (valued_entry value) es)
value_weights value kind [] h = tt
value_weights value kind (e ∷ es) h = (h.0, value_weights value kind es h.1)

pub HasCodexSpelling-valued : {V : Type 0} (value : V → Cost) (kind : ArcType) (t : Table V) → IsTable kind value t → All (λ e. HasField kind (value e.weight)) t.entries → HasCodexSpelling kind (valued_table value t)
HasCodexSpelling-valued value kind t table fields =
    let es = map (valued_entry value) t.entries in
    let good = value_entries value kind t.weights t.entries (recursion_from_All (IsEntry kind value t.weights) t.entries table.good) in
    let weights = value_weights value kind t.entries (recursion_from_All (λ e. HasField kind (value e.weight)) t.entries fields) in
    record {
      table = record { few = omega (arith, length-map t.entries (valued_entry value), table.few); good = All-from_recursion (IsEntry kind (λ v. v) t.weights) es good };
      weights = All-from_recursion (λ e. HasField kind e.weight) es weights;
    }

-- ---- the same of what a function returned

pub is_again : {X E : Type 0} (kind : ArcType) (t : Table Cost) (items : X → List ℕ) (result : Result X E) → IfOk result (λ _. HasCodexSpelling kind t) → IfOk result (λ x. items x ≡ codex_spelling kind t) → IfOk result (λ x. codex_of_bytes kind (items x) ≡ Ok t)
is_again kind t items (Ok x) has e = ap (codex_of_bytes kind) e ∙ codex_again kind t has
is_again kind t items (Err f) has e = tt

pub is_named : {X E : Type 0} (kind : ArcType) (t : Table Cost) (items : X → List ℕ) (result : Result X E) → IfOk result (λ x. items x ≡ codex_spelling kind t) → IfOk result (λ x. codex_arc_type_of_bytes (items x) ≡ Ok kind)
is_named kind t items (Ok x) e = ap codex_arc_type_of_bytes e ∙ type_again kind t
is_named kind t items (Err f) e = tt
