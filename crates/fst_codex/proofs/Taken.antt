-- Fields that are read are those that stand there.
use Rattle.std.proofs.Common.{◌≡◌, ◌≢◌, ℕ, ℤ, pos, ◌+◌, ◌^◌, ◌<◌, ◌≤◌, Bool, true, false, cond, leb, eqb, inl, inr, List, [], ◌++◌, length, Some, Ok, refl, sym, subst}
use Rattle.std.specs.Prelude.{bytes_eq, slice_index}
use Rattle.std.specs.List.{AllByRecursion, find, flat_map}
use Rattle.std.proofs.lemmas.Bool.{eqb-true, leb-false, leb-true}
use Rattle.std.proofs.lemmas.Slice.Eq.{bytes_eq-Decides}
use Rattle.fst_semiring.specs.declared.arc_type.ArcType.{ArcType}
use Rattle.fst_semiring.specs.Cost.{Cost, finite, infinite}
use Rattle.fst_semiring.specs.declared.arc_type.ArcType.TheVariants.{Boolean, Tropical, MinMax, Lexicographic}
use Rattle.fst_semiring.specs.Semiring.{one_of}
use Rattle.fst_machine.specs.Machine.{greatest_label}
use Rattle.fst_bytes.specs.Spelling.{HasField, text, word}
use Rattle.fst_semiring.specs.Names.{name_of}
use Rattle.fst_fields.specs.Reading.{◌>>=◌}
use Rattle.fst_bytes.proofs.Names.{named_takes, part_takes}
use Rattle.fst_bytes.proofs.Loops.{many_takes}
use Rattle.fst_bytes.proofs.Numbers.{where_takes, words}
use Rattle.fst_bytes.proofs.Steps.{IsBytes, Takes, Takes-none, Takes-then, bind_ok, done, guard_ok, guard_passed, ok_is}
use Rattle.fst_bytes.proofs.WeightFields.{chosen, non_zero_weight_takes, tag_takes}
use Rattle.fst_bytes.proofs.Weights.{zero_is_small}
use Rattle.fst_codex.specs.Reading.{CodexFault, entries_at, entry_at, flag_at, magic_at, types_at, weight_part_at}
use Rattle.fst_codex.specs.declared.fault.CodexKind.TheVariants.{Short, BadFlags, BadLabel, BadMagic, BadWeight, UnknownArcType}
use Rattle.fst_codex.specs.Spelling.{codex_types, entry_fields, flag, magic, weight_part}
use Rattle.fst_bytes.specs.Reading.{arc_type_at, fault, number_where, part_at}
use Rattle.fst_codex.specs.Table.{Entry}
use Rattle.fst_codex.proofs.Fields.{GoodEntry}

-- ---- the heading

magic_takes : (bytes : List ℕ) (next : ℕ) → magic_at bytes ≡ Ok next → Takes bytes 0 magic next
unfolding magic_at
magic_takes bytes next e =
    let b = bind_ok (part_at Short 8 bytes 0) (λ part. cond (bytes_eq magic part.0) (Ok part.1) (fault BadMagic 0)) next e in
    let g = guard_passed (bytes_eq magic b.0.0) (Ok b.0.1) (record { offset = 0; kind = BadMagic }) next b.2 in
    let is : magic ≡ b.0.0 = (bytes_eq-Decides magic b.0.0).0 g.0 in
    let t = (part_takes Short 8 bytes 0 b.0.0 b.0.1 b.1).0 in
    subst (λ (n : ℕ). Takes bytes 0 magic n) (ok_is {A = ℕ} {E = CodexFault} b.0.1 next g.1) (subst (λ (x : List ℕ). Takes bytes 0 x b.0.1) (sym is) t)

pub types_takes : (kinds : List ArcType) (bytes : List ℕ) (kind : ArcType) (next : ℕ) → IsBytes bytes → types_at kinds bytes ≡ Ok (kind, next) → Takes bytes 0 (codex_types kind) next × ((test : ArcType → Bool) × (find test kinds ≡ Some kind))
unfolding types_at
types_takes kinds bytes kind next fits e =
    let b = bind_ok (magic_at bytes) (λ behind. arc_type_at kinds Short UnknownArcType bytes behind) (kind, next) e in
    let t = named_takes name_of kinds Short UnknownArcType bytes b.0 kind next fits b.2 in
    (Takes-then bytes 0 magic b.0 (text (name_of kind)) next (magic_takes bytes b.0 b.1) t.0, t.1)

pub flag_takes : (bytes : List ℕ) (at : ℕ) (weights : Bool) (next : ℕ) → flag_at bytes at ≡ Ok (weights, next) → Takes bytes at (flag weights) next
unfolding flag_at
flag_takes bytes at weights next e =
    let tag = slice_index bytes at in
    let second = cond (eqb tag 1) (done {A = Bool × ℕ} {E = CodexFault} (true, at + 1)) (fault BadFlags at) in
    let g = guard_ok (leb (length bytes) at) (cond (eqb tag 0) (Ok (false, at + 1)) second) (record { offset = length bytes; kind = Short }) (weights, next) e in
    let within : at < length bytes = leb-false _ _ g.0 in
    elim (chosen (eqb tag 0) (Ok (false, at + 1)) second (Ok (weights, next)) g.1) [
      | inl none ↦
          subst (λ (p : Bool × ℕ). Takes bytes at (flag p.0) p.1) (ok_is {A = Bool × ℕ} {E = CodexFault} (false, at + 1) (weights, next) none.1) (tag_takes bytes at 0 within (eqb-true _ _ none.0))
      | inr other ↦
          let h = guard_passed (eqb tag 1) (Ok (true, at + 1)) (record { offset = at; kind = BadFlags }) (weights, next) other.1 in
          subst (λ (p : Bool × ℕ). Takes bytes at (flag p.0) p.1) (ok_is {A = Bool × ℕ} {E = CodexFault} (true, at + 1) (weights, next) h.1) (tag_takes bytes at 1 within (eqb-true _ _ h.0))
    ]

-- ---- entries

-- what holds of the weight of an entry
record GoodWeight (kind : ArcType) (weights : Bool) (v : Cost) : Type 0 where
  field : HasField kind v
  not_zero : v ≢ infinite
  bare : weights ≡ false → v ≡ one_of kind

not_last : (a b : ℤ) → finite a b ≢ infinite
not_last a b same = absurd cc

one_has_field : (kind : ArcType) → HasField kind (one_of kind) × (one_of kind ≢ infinite)
one_has_field Boolean = (((refl, refl), (zero_is_small, zero_is_small)), not_last (pos 0) (pos 0))
one_has_field Tropical = ((refl, (zero_is_small, zero_is_small)), not_last (pos 0) (pos 0))
one_has_field MinMax = ((tt, tt), λ same. absurd cc)
one_has_field Lexicographic = ((tt, (zero_is_small, zero_is_small)), not_last (pos 0) (pos 0))

weight_part_takes : (kind : ArcType) (weights : Bool) (bytes : List ℕ) (at : ℕ) (v : Cost) (next : ℕ) → at ≤ length bytes → IsBytes bytes → weight_part_at kind weights bytes at ≡ Ok (v, next) → Takes bytes at (weight_part kind weights v) next × GoodWeight kind weights v
weight_part_takes kind false bytes at v next within fits e =
    let one = one_has_field kind in
    subst (λ (p : Cost × ℕ). Takes bytes at [] p.1 × GoodWeight kind false p.0) (ok_is {A = Cost × ℕ} {E = CodexFault} (one_of kind, at) (v, next) e) (Takes-none bytes at within, record { field = one.0; not_zero = one.1; bare = λ x. refl })
weight_part_takes kind true bytes at v next within fits e =
    let t = non_zero_weight_takes kind Short BadWeight bytes at v next fits e in
    (t.0, record { field = t.1; not_zero = t.2; bare = λ x. absurd cc })

entry_takes : (kind : ArcType) (weights : Bool) (bytes : List ℕ) (at : ℕ) (entry : Entry Cost) (next : ℕ) → IsBytes bytes → entry_at kind weights bytes at ≡ Ok (entry, next) → Takes bytes at (entry_fields kind weights entry) next × GoodEntry kind weights entry
unfolding entry_at
entry_takes kind weights bytes at entry next fits e =
    let label = λ (n : ℕ). leb n greatest_label in
    let made = λ (i o : ℕ) (w : Cost × ℕ). done {A = Entry Cost × ℕ} {E = CodexFault} (record { ilabel = i; olabel = o; weight = w.0 }, w.1) in
    let b = bind_ok (number_where label Short BadLabel 4 bytes at) (λ i. number_where label Short BadLabel 4 bytes i.1 >>= λ o. weight_part_at kind weights bytes o.1 >>= made i.0 o.0) (entry, next) e in
    let c = bind_ok (number_where label Short BadLabel 4 bytes b.0.1) (λ o. weight_part_at kind weights bytes o.1 >>= made b.0.0 o.0) (entry, next) b.2 in
    let d = bind_ok (weight_part_at kind weights bytes c.0.1) (made b.0.0 c.0.0) (entry, next) c.2 in
    let t0 = where_takes label Short BadLabel 4 (2 ^ 32) word words bytes at b.0.0 b.0.1 fits b.1 in
    let t1 = where_takes label Short BadLabel 4 (2 ^ 32) word words bytes b.0.1 c.0.0 c.0.1 fits c.1 in
    let t2 = weight_part_takes kind weights bytes c.0.1 d.0.0 d.0.1 t1.0.within fits d.1 in
    let two = Takes-then bytes at (word b.0.0) b.0.1 (word c.0.0) c.0.1 t0.0 t1.0 in
    let three = Takes-then bytes at (word b.0.0 ++ word c.0.0) c.0.1 (weight_part kind weights d.0.0) d.0.1 two t2.0 in
    let own : Entry Cost = record { ilabel = b.0.0; olabel = c.0.0; weight = d.0.0 } in
    let good : GoodEntry kind weights own = (record { ilabel = leb-true _ _ t0.1; olabel = leb-true _ _ t1.1; weight = t2.1.not_zero; bare = t2.1.bare }, t2.1.field) in
    subst (λ (p : Entry Cost × ℕ). Takes bytes at (entry_fields kind weights p.0) p.1 × GoodEntry kind weights p.0) (ok_is {A = Entry Cost × ℕ} {E = CodexFault} (own, d.0.1) (entry, next) d.2) (three, good)

pub entries_takes : (kind : ArcType) (weights : Bool) (count : ℕ) (bytes : List ℕ) (at : ℕ) (es : List (Entry Cost)) (next : ℕ) → at ≤ length bytes → IsBytes bytes → entries_at kind weights count bytes at ≡ Ok (es, next) → Takes bytes at (flat_map (entry_fields kind weights) es) next × AllByRecursion (GoodEntry kind weights) es × (length es ≡ count)
entries_takes kind weights count bytes at es next within fits e = many_takes (entry_at kind weights bytes) (entry_fields kind weights) (GoodEntry kind weights) bytes (λ i entry end _ read. entry_takes kind weights bytes i entry end fits read) count at es next within e
