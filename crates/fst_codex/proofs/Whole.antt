-- A file whose arc type is known is read as one of this arc type alone.
use Rattle.std.proofs.Common.{◌≡◌, ℕ, List, [], ◌∷◌, ◌++◌, ◌-◌, length, drop, Result, Ok, Err, refl, sym, ap, ◌∙◌, arith}
use Rattle.std.proofs.lemmas.List.{length-drop}
use Rattle.fst_fields.specs.Reading.{◌>>=◌}
use Rattle.fst_semiring.specs.declared.arc_type.ArcType.{ArcType}
use Rattle.fst_semiring.specs.Names.{known}
use Rattle.fst_bytes.proofs.Names.{named_alone}
use Rattle.fst_bytes.proofs.Steps.{IsBytes, done, ok_is}
use Rattle.fst_codex.specs.Reading.{CodexFault, codex_arc_type_of_bytes, codex_of_bytes, table_at, types_at}
use Rattle.fst_codex.specs.Spelling.{codex_types}
use Rattle.fst_codex.proofs.Fields.{types_again}
use Rattle.fst_codex.proofs.Taken.{types_takes}

ok_not_err : (k : ArcType) (d : CodexFault) → done {A = ArcType} {E = CodexFault} k ≡ Err d → ⊥
ok_not_err k d x = absurd cc

pub type_not_wrong : (bytes : List ℕ) (kind : ArcType) (f : CodexFault) → codex_arc_type_of_bytes bytes ≡ Ok kind → types_at known bytes ≡ Err f → ⊥
unfolding codex_arc_type_of_bytes
type_not_wrong bytes kind f e h = ok_not_err kind f (sym e ∙ ap (λ (r : Result (ArcType × ℕ) CodexFault). r >>= λ types. Ok types.0) h)

type_alone : (bytes : List ℕ) (kind other : ArcType) (next : ℕ) → IsBytes bytes → other ≡ kind → types_at known bytes ≡ Ok (other, next) → types_at (kind ∷ []) bytes ≡ Ok (kind, next)
type_alone bytes kind other next fits same h =
    let t = (types_takes known bytes other next fits h).0 in
    let stands : bytes ≡ codex_types kind ++ drop next bytes = t.parts ∙ ap (λ (k : ArcType). codex_types k ++ drop next bytes) same in
    let r = types_again (kind ∷ []) kind bytes (drop next bytes) (named_alone kind) stands in
    let left : length bytes - r.next ≡ length bytes - next = sym (length-drop r.next bytes) ∙ ap length r.left ∙ length-drop next bytes in
    let at : r.next ≡ next = omega (arith, left, r.within, t.within) in
    r.gives ∙ ap (λ (n : ℕ). done {A = ArcType × ℕ} {E = CodexFault} (kind, n)) at

pub whole_read : (bytes : List ℕ) (kind other : ArcType) (next : ℕ) → IsBytes bytes → codex_arc_type_of_bytes bytes ≡ Ok kind → types_at known bytes ≡ Ok (other, next) → codex_of_bytes kind bytes ≡ table_at kind bytes next
unfolding codex_arc_type_of_bytes codex_of_bytes
whole_read bytes kind other next fits e h =
    let same : other ≡ kind = ok_is {A = ArcType} {E = CodexFault} other kind (sym (ap (λ (r : Result (ArcType × ℕ) CodexFault). r >>= λ types. Ok types.0) h) ∙ e) in
    rw (type_alone bytes kind other next fits same h) refl
