-- Fields that stand in a file are read.
use Rattle.std.proofs.Common.{◌≡◌, ℕ, ◌+◌, ◌^◌, ◌≤◌, Bool, true, false, leb, List, [], ◌∷◌, ◌++◌, length, drop, Ok, refl, sym, ap, ◌∙◌, append_assoc, arith}
use Rattle.std.proofs.lemmas.Bool.{le-leb}
use Rattle.fst_semiring.specs.declared.arc_type.ArcType.{ArcType}
use Rattle.fst_semiring.specs.Cost.{Cost}
use Rattle.fst_machine.specs.Machine.{greatest_label}
use Rattle.fst_bytes.specs.Spelling.{HasField, text, word}
use Rattle.fst_semiring.specs.Names.{name_of}
use Rattle.fst_bytes.proofs.Names.{IsNamed, name_is_short, named_again, part_again}
use Rattle.fst_bytes.proofs.Numbers.{where_again, words}
use Rattle.fst_bytes.proofs.Steps.{Reads, ends_within, past}
use Rattle.fst_bytes.proofs.WeightFields.{non_zero_weight_again, tag_stands}
use Rattle.fst_codex.specs.declared.fault.CodexKind.TheVariants.{BadLabel, BadWeight, Short, UnknownArcType}
use Rattle.fst_codex.specs.Spelling.{codex_types, entry_fields, flag, magic, weight_part}
use Rattle.fst_codex.specs.Reading.{entry_at, flag_at, magic_at, types_at, weight_part_at}
use Rattle.fst_codex.specs.Table.{Entry, IsEntry}

-- ---- the heading

-- the magic bytes
record MagicRead (bytes rest : List ℕ) : Type 0 where
  next : ℕ
  gives : magic_at bytes ≡ Ok next
  left : drop next bytes ≡ rest
  within : next ≤ length bytes

magic_again : (bytes rest : List ℕ) → bytes ≡ magic ++ rest → MagicRead bytes rest
unfolding magic_at
magic_again bytes rest e =
    let part = part_again Short bytes 0 magic rest (omega arith) e in
    record { next = part.next; gives = rw part.gives refl; left = part.left; within = part.within }

pub types_again : (kinds : List ArcType) (kind : ArcType) (bytes rest : List ℕ) → IsNamed kinds kind → bytes ≡ codex_types kind ++ rest → Reads bytes (types_at kinds bytes) kind rest
unfolding types_at
types_again kinds kind bytes rest named e =
    let front = magic_again bytes (text (name_of kind) ++ rest) (e ∙ append_assoc magic (text (name_of kind)) rest) in
    let own = named_again name_of kinds Short UnknownArcType bytes front.next kind rest front.within (name_is_short kind) named.has named.is front.left in
    record { next = own.next; gives = rw (front.gives, own.gives) refl; left = own.left; within = own.within }

-- ---- the flag

pub flag_again : (bytes : List ℕ) (at : ℕ) (weights : Bool) (rest : List ℕ) → at ≤ length bytes → drop at bytes ≡ flag weights ++ rest → Reads bytes (flag_at bytes at) weights rest
unfolding flag_at
flag_again bytes at false rest within e =
    let t = tag_stands bytes at 0 rest within e in
    record { next = at + 1; gives = rw (t.0, t.1) refl; left = past bytes at (0 ∷ []) rest 1 refl e; within = ends_within bytes at (0 ∷ []) rest within e }
flag_again bytes at true rest within e =
    let t = tag_stands bytes at 1 rest within e in
    record { next = at + 1; gives = rw (t.0, t.1) refl; left = past bytes at (1 ∷ []) rest 1 refl e; within = ends_within bytes at (1 ∷ []) rest within e }

-- ---- entries

-- an entry that has fields
abbrev pub GoodEntry : ArcType → Bool → Entry Cost → Type 0
GoodEntry kind weights e = IsEntry kind (λ v. v) weights e × HasField kind e.weight

weight_part_again : (kind : ArcType) (weights : Bool) (bytes : List ℕ) (at : ℕ) (e : Entry Cost) (rest : List ℕ) → at ≤ length bytes → GoodEntry kind weights e → drop at bytes ≡ weight_part kind weights e.weight ++ rest → Reads bytes (weight_part_at kind weights bytes at) e.weight rest
weight_part_again kind false bytes at e rest within good stands = record { next = at; gives = ap (λ (v : Cost). Ok (v, at)) (sym (good.0.bare refl)); left = stands; within = within }
weight_part_again kind true bytes at e rest within good stands = non_zero_weight_again kind Short BadWeight bytes at e.weight rest within good.1 good.0.weight stands

pub entry_again : (kind : ArcType) (weights : Bool) (bytes : List ℕ) (at : ℕ) (e : Entry Cost) (rest : List ℕ) → at ≤ length bytes → GoodEntry kind weights e → drop at bytes ≡ entry_fields kind weights e ++ rest → Reads bytes (entry_at kind weights bytes at) e rest
unfolding entry_at
entry_again kind weights bytes at e rest within good stands =
    let label = λ (n : ℕ). leb n greatest_label in
    let part = weight_part kind weights e.weight in
    let apart : drop at bytes ≡ word e.ilabel ++ (word e.olabel ++ (part ++ rest)) = stands ∙ append_assoc (word e.ilabel ++ word e.olabel) part rest ∙ append_assoc (word e.ilabel) (word e.olabel) (part ++ rest) in
    let i = where_again label Short BadLabel 4 (2 ^ 32) word words bytes at e.ilabel (word e.olabel ++ (part ++ rest)) within (omega (arith, good.0.ilabel)) (le-leb _ _ good.0.ilabel) apart in
    let o = where_again label Short BadLabel 4 (2 ^ 32) word words bytes i.next e.olabel (part ++ rest) i.within (omega (arith, good.0.olabel)) (le-leb _ _ good.0.olabel) i.left in
    let w = weight_part_again kind weights bytes o.next e rest o.within good o.left in
    record { next = w.next; gives = rw (i.gives, o.gives, w.gives) refl; left = w.left; within = w.within }
