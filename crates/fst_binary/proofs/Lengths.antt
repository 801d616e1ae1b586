-- How long the fields of arcs and states are, and a whole machine.
use Rattle.std.proofs.Common.{◌≡◌, ℕ, ◌+◌, ◌++◌, length, Option, ap, ◌∙◌, append_assoc, arith}
use Rattle.std.specs.Prelude.{codes}
use Rattle.std.specs.List.{flat_map}
use Rattle.std.proofs.lemmas.List.{length-append}
use Rattle.fst_semiring.specs.declared.arc_type.ArcType.{ArcType}
use Rattle.fst_semiring.specs.Cost.{Cost}
use Rattle.fst_machine.specs.Machine.{Arc, Machine, State, arc_total}
use Rattle.fst_bytes.specs.Spelling.{long, signed, text, weight_field, word}
use Rattle.fst_bytes.proofs.Lengths.{length-long, length-signed, length-word}
use Rattle.fst_binary.specs.Sides.{Sides, flags_of, side_fields, version_of}
use Rattle.fst_binary.specs.Spelling.{arc_fields, count_fields, header_fields, name_of, start_number, state_fields, tabled_spelling, type_fields}

pub length-arc_fields : (kind : ArcType) (a : Arc Cost ℕ) → length (arc_fields kind a) ≡ 12 + length (weight_field kind a.weight)
length-arc_fields kind a =
    let x = length-append (word a.ilabel ++ word a.olabel ++ weight_field kind a.weight) (word a.next) in
    let y = length-append (word a.ilabel ++ word a.olabel) (weight_field kind a.weight) in
    let z = length-append (word a.ilabel) (word a.olabel) in
    omega (arith, x, y, z, length-word a.ilabel, length-word a.olabel, length-word a.next)

pub length-state_fields : (kind : ArcType) (s : State Cost) → length (state_fields kind s) ≡ 8 + length (weight_field kind s.final) + length (flat_map (arc_fields kind) s.arcs)
length-state_fields kind s =
    let x = length-append (weight_field kind s.final ++ long (length s.arcs)) (flat_map (arc_fields kind) s.arcs) in
    let y = length-append (weight_field kind s.final) (long (length s.arcs)) in
    omega (arith, x, y, length-long (length s.arcs))

-- how long all is that stands before the states
pub header_length : (kind : ArcType) (s : Sides) (start : Option ℕ) (states arcs : ℕ) → length (header_fields kind s start states arcs) ≡ 58 + length (name_of kind) + length (side_fields s.isymbols) + length (side_fields s.osymbols)
header_length kind s start states arcs =
    let v = version_of s.isymbols s.osymbols in
    let k = flags_of s.isymbols s.osymbols in
    let counts = signed (start_number start) ++ long states ++ long arcs in
    let front = type_fields kind ++ word v ++ word k ++ long 3 ++ counts in
    let a = length-append (front ++ side_fields s.isymbols) (side_fields s.osymbols) in
    let b = length-append front (side_fields s.isymbols) in
    let c = length-append (type_fields kind ++ word v ++ word k ++ long 3) counts in
    let d = length-append (type_fields kind ++ word v ++ word k) (long 3) in
    let e = length-append (type_fields kind ++ word v) (word k) in
    let f = length-append (type_fields kind) (word v) in
    let g = length-append (word 2125659606 ++ text (codes "vector")) (text (name_of kind)) in
    let h = length-append (word 2125659606) (text (codes "vector")) in
    let i = length-append (word (length (codes "vector"))) (codes "vector") in
    let j = length-append (word (length (name_of kind))) (name_of kind) in
    let l = length-append (signed (start_number start) ++ long states) (long arcs) in
    let m = length-append (signed (start_number start)) (long states) in
    omega (arith, a, b, c, d, e, f, g, h, i, j, l, m, length-word 2125659606, length-word v, length-word k, length-word (length (codes "vector")), length-word (length (name_of kind)), length-long 3, length-signed (start_number start), length-long states, length-long arcs)

-- all that stands before the states, and these
pub header_and_states : (kind : ArcType) (m : Machine Cost) (s : Sides) → header_fields kind s m.start (length m.states) (arc_total m.states) ++ flat_map (state_fields kind) m.states ≡ tabled_spelling kind m s
header_and_states kind m s =
    let states = flat_map (state_fields kind) m.states in
    let front = type_fields kind ++ word (version_of s.isymbols s.osymbols) ++ word (flags_of s.isymbols s.osymbols) ++ long 3 ++ count_fields m in
    append_assoc (front ++ side_fields s.isymbols) (side_fields s.osymbols) states ∙ append_assoc front (side_fields s.isymbols) (side_fields s.osymbols ++ states)

-- how long a machine and its tables are
pub spelling_length : (kind : ArcType) (m : Machine Cost) (s : Sides) → length (tabled_spelling kind m s) ≡ 58 + length (name_of kind) + length (side_fields s.isymbols) + length (side_fields s.osymbols) + length (flat_map (state_fields kind) m.states)
spelling_length kind m s =
    let states = flat_map (state_fields kind) m.states in
    let front = header_fields kind s m.start (length m.states) (arc_total m.states) in
    let whole = ap length (header_and_states kind m s) in
    let both = length-append front states in
    omega (arith, whole, both, header_length kind s m.start (length m.states) (arc_total m.states))
