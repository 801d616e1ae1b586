-- Headers that are read are those that stand there.
use Rattle.std.proofs.Common.{◌≡◌, ℕ, ◌^◌, ◌<◌, ◌≤◌, Bool, true, false, cond, ltb, leb, eqb, inl, inr, List, [], ◌∷◌, ◌++◌, length, drop, Option, Some, None, Ok, refl, sym, ap, subst, ◌∙◌, append_assoc, arith}
use Rattle.std.specs.Prelude.{IfSome, codes}
use Rattle.std.specs.List.{find}
use Rattle.std.proofs.lemmas.Bool.{eqb-true, le-leb, leb-true, lt-ltb, ltb-true}
use Rattle.fst_semiring.specs.declared.arc_type.ArcType.{ArcType}
use Rattle.fst_machine.specs.Machine.{most_arcs, most_states}
use Rattle.fst_symbols.specs.Symbols.{Symbol}
use Rattle.fst_binary.specs.Sides.{are_flags, flags_at, flags_of, version_of}
use Rattle.fst_binary.proofs.SidesRead.{flags_again, flags_take}
use Rattle.fst_binary.specs.Reading.{BinaryFault, header_at, is_start, start_at, types_at}
use Rattle.fst_binary.specs.declared.fault.BinaryKind.TheVariants.{BadCount, BadMagic, BadStart, Short, UnknownArcType, UnknownFstType}
use Rattle.fst_binary.specs.declared.header.Header.{Header}
use Rattle.fst_binary.specs.Spelling.{start_number, type_fields}
use Rattle.fst_bytes.specs.Spelling.{long, signed, text, word}
use Rattle.fst_semiring.specs.Names.{name_of}
use Rattle.fst_fields.specs.Reading.{◌>>=◌}
use Rattle.fst_bytes.specs.Reading.{fault, named_at, number_at, number_where}
use Rattle.fst_bytes.proofs.Lengths.{length-long}
use Rattle.fst_bytes.proofs.Names.{IsNamed, found_alone, name_is_short, named_again, named_takes}
use Rattle.fst_bytes.proofs.Numbers.{longs, any_number_again, number_again, number_takes, where_again, where_takes, words}
use Rattle.fst_bytes.proofs.Steps.{IsBytes, Reads, Takes, Takes-then, bind_ok, done, guard_passed, ok_is}
use Rattle.fst_bytes.proofs.WeightFields.{chosen, signed_is}

-- ---- types

pub types_takes : (kinds : List ArcType) (bytes : List ℕ) (kind : ArcType) (next : ℕ) → IsBytes bytes → types_at kinds bytes ≡ Ok (kind, next) → Takes bytes 0 (type_fields kind) next × ((test : ArcType → Bool) × (find test kinds ≡ Some kind))
unfolding types_at
types_takes kinds bytes kind next fits e =
    let magic = λ (n : ℕ). eqb n 2125659606 in
    let vector = codes "vector" in
    let b = bind_ok (number_where magic Short BadMagic 4 bytes 0) (λ m. named_at (λ t. t) (vector ∷ []) Short UnknownFstType bytes m.1 >>= λ f. named_at name_of kinds Short UnknownArcType bytes f.1) (kind, next) e in
    let c = bind_ok (named_at (λ t. t) (vector ∷ []) Short UnknownFstType bytes b.0.1) (λ f. named_at name_of kinds Short UnknownArcType bytes f.1) (kind, next) b.2 in
    let t0 = where_takes magic Short BadMagic 4 (2 ^ 32) word words bytes 0 b.0.0 b.0.1 fits b.1 in
    let t1 = named_takes (λ t. t) (vector ∷ []) Short UnknownFstType bytes b.0.1 c.0.0 c.0.1 fits c.1 in
    let t2 = named_takes name_of kinds Short UnknownArcType bytes c.0.1 kind next fits c.2 in
    let first : Takes bytes 0 (word 2125659606) b.0.1 = subst (λ (n : ℕ). Takes bytes 0 (word n) b.0.1) (eqb-true _ _ t0.1) t0.0 in
    let second : Takes bytes b.0.1 (text vector) c.0.1 = subst (λ (t : List ℕ). Takes bytes b.0.1 (text t) c.0.1) (sym (found_alone t1.1.0 vector c.0.0 t1.1.1)) t1.0 in
    let two = Takes-then bytes 0 (word 2125659606) b.0.1 (text vector) c.0.1 first second in
    (Takes-then bytes 0 (word 2125659606 ++ text vector) c.0.1 (text (name_of kind)) next two t2.0, t2.1)

pub types_again : (kinds : List ArcType) (kind : ArcType) (bytes rest : List ℕ) → IsNamed kinds kind → bytes ≡ type_fields kind ++ rest → Reads bytes (types_at kinds bytes) kind rest
unfolding types_at
types_again kinds kind bytes rest named e =
    let vector = codes "vector" in
    let apart : drop 0 bytes ≡ word 2125659606 ++ (text vector ++ (text (name_of kind) ++ rest)) = e ∙ append_assoc (word 2125659606 ++ text vector) (text (name_of kind)) rest ∙ append_assoc (word 2125659606) (text vector) (text (name_of kind) ++ rest) in
    let magic = where_again (λ n. eqb n 2125659606) Short BadMagic 4 (2 ^ 32) word words bytes 0 2125659606 (text vector ++ (text (name_of kind) ++ rest)) (omega arith) (omega arith) refl apart in
    let fst_type = named_again (λ t. t) (vector ∷ []) Short UnknownFstType bytes magic.next vector (text (name_of kind) ++ rest) magic.within (omega arith) refl refl magic.left in
    let arc_type = named_again name_of kinds Short UnknownArcType bytes fst_type.next kind rest fst_type.within (name_is_short kind) named.has named.is fst_type.left in
    record { next = arc_type.next; gives = rw (magic.gives, fst_type.gives, arc_type.gives) refl; left = arc_type.left; within = arc_type.within }

-- ---- the start

minus_one : long 18446744073709551615 ≡ signed (start_number None)
minus_one = sym (signed_is (start_number None))

start_takes : (bytes : List ℕ) (at : ℕ) (s : Option ℕ) (next : ℕ) → IsBytes bytes → start_at bytes at ≡ Ok (s, next) → Takes bytes at (signed (start_number s)) next
unfolding start_at
start_takes bytes at s next fits e =
    let some = λ (n : ℕ × ℕ). cond (ltb n.0 most_states) (done {A = Option ℕ × ℕ} {E = BinaryFault} (Some n.0, n.1)) (fault BadStart at) in
    let b = bind_ok (number_at Short 8 bytes at) (λ n. cond (eqb n.0 18446744073709551615) (Ok (None, n.1)) (some n)) (s, next) e in
    let n = b.0.0 in
    let t = (number_takes Short 8 (2 ^ 64) long longs bytes at n b.0.1 fits b.1).0 in
    elim (chosen (eqb n 18446744073709551615) (Ok (None, b.0.1)) (some b.0) (Ok (s, next)) b.2) [
      | inl none ↦
          let own : Takes bytes at (signed (start_number None)) b.0.1 = subst (λ (x : List ℕ). Takes bytes at x b.0.1) (ap long (eqb-true _ _ none.0) ∙ minus_one) t in
          subst (λ (p : Option ℕ × ℕ). Takes bytes at (signed (start_number p.0)) p.1) (ok_is {A = Option ℕ × ℕ} {E = BinaryFault} (None, b.0.1) (s, next) none.1) own
      | inr state ↦
          let g = guard_passed (ltb n most_states) (Ok (Some n, b.0.1)) (record { offset = at; kind = BadStart }) (s, next) state.1 in
          let own : Takes bytes at (signed (start_number (Some n))) b.0.1 = subst (λ (x : List ℕ). Takes bytes at x b.0.1) (sym (signed_is (start_number (Some n)))) t in
          subst (λ (p : Option ℕ × ℕ). Takes bytes at (signed (start_number p.0)) p.1) (ok_is {A = Option ℕ × ℕ} {E = BinaryFault} (Some n, b.0.1) (s, next) g.1) own
    ]

not_true : (t : Bool) → (t ≡ true → ⊥) → t ≡ false
not_true true h = absurd (h refl)
not_true false h = refl

unequal : (a b : ℕ) → a < b → eqb a b ≡ false
unequal a b lt = not_true (eqb a b) (λ e. omega (arith, eqb-true a b e, lt))

start_again : (bytes : List ℕ) (at : ℕ) (s : Option ℕ) (rest : List ℕ) → at ≤ length bytes → IfSome s (λ n. n < most_states) → drop at bytes ≡ signed (start_number s) ++ rest → Reads bytes (start_at bytes at) s rest
unfolding start_at
start_again bytes at None rest within below e =
    let r = number_again Short 8 (2 ^ 64) long longs bytes at 18446744073709551615 rest within (omega arith) (e ∙ ap (λ (x : List ℕ). x ++ rest) (sym minus_one)) in
    record { next = r.next; gives = rw r.gives refl; left = r.left; within = r.within }
start_again bytes at (Some n) rest within below e =
    let r = number_again Short 8 (2 ^ 64) long longs bytes at n rest within (omega (arith, below)) (e ∙ ap (λ (x : List ℕ). x ++ rest) (signed_is (start_number (Some n)))) in
    let other : eqb n 18446744073709551615 ≡ false = unequal n 18446744073709551615 (omega (arith, below)) in
    record { next = r.next; gives = rw (r.gives, other, lt-ltb _ _ below) refl; left = r.left; within = r.within }

-- ---- the header

start_is_below : (s : Option ℕ) (states : ℕ) → is_start s states ≡ true → IfSome s (λ n. n < states)
start_is_below None states e = tt
start_is_below (Some n) states e = ltb-true _ _ e

start_passes : (s : Option ℕ) (states : ℕ) → IfSome s (λ n. n < states) → is_start s states ≡ true
start_passes None states h = refl
start_passes (Some n) states h = lt-ltb _ _ h

start_is_small : (s : Option ℕ) (states : ℕ) → states ≤ most_states → IfSome s (λ n. n < states) → IfSome s (λ n. n < most_states)
start_is_small None states few h = tt
start_is_small (Some n) states few h = omega (arith, few, h)

-- the counts of a header
abbrev pub counts : Header → List ℕ
counts h = signed (start_number h.start) ++ long h.states ++ long h.arcs

pub record HeaderTaken (bytes front : List ℕ) (h : Header) : Type 0 where
  pub version : ℕ
  pub low : 2 ≤ version
  pub high : version ≤ 3
  pub fit : are_flags version h.flags ≡ true
  pub properties : List ℕ
  pub eight : length properties ≡ 8
  pub taken : Takes bytes 0 (front ++ word version ++ word h.flags ++ properties ++ counts h) h.behind
  pub start : IfSome h.start (λ s. s < h.states)
  pub few_states : h.states ≤ most_states
  pub few_arcs : h.arcs ≤ most_arcs

pub header_takes : (bytes front : List ℕ) (at : ℕ) (h : Header) → IsBytes bytes → Takes bytes 0 front at → header_at bytes at ≡ Ok h → HeaderTaken bytes front h
unfolding header_at
header_takes bytes front at h fits begins e =
    let arcs_of = λ (flags : ℕ) (start : Option ℕ × ℕ) (offset : ℕ) (states : ℕ × ℕ). cond (is_start start.0 states.0) (number_where (λ n. leb n most_arcs) Short BadCount 8 bytes states.1) (fault BadStart offset) >>= λ arcs. done {A = Header} {E = BinaryFault} (record { flags = flags; start = start.0; states = states.0; arcs = arcs.0; counted = states.1; behind = arcs.1 }) in
    let states_of = λ (flags : ℕ) (start : Option ℕ × ℕ) (offset : ℕ). number_where (λ n. leb n most_states) Short BadCount 8 bytes start.1 >>= arcs_of flags start offset in
    let start_of = λ (flags : ℕ) (p : ℕ × ℕ). start_at bytes p.1 >>= λ start. states_of flags start p.1 in
    let b1 = bind_ok (flags_at bytes at) (λ f. number_at Short 8 bytes f.1 >>= start_of f.0) h e in
    let flags = b1.0.0 in
    let b2 = bind_ok (number_at Short 8 bytes b1.0.1) (start_of flags) h b1.2 in
    let b3 = bind_ok (start_at bytes b2.0.1) (λ start. states_of flags start b2.0.1) h b2.2 in
    let b4 = bind_ok (number_where (λ n. leb n most_states) Short BadCount 8 bytes b3.0.1) (arcs_of flags b3.0 b2.0.1) h b3.2 in
    let b5 = bind_ok (cond (is_start b3.0.0 b4.0.0) (number_where (λ n. leb n most_arcs) Short BadCount 8 bytes b4.0.1) (fault BadStart b2.0.1)) (λ arcs. done {A = Header} {E = BinaryFault} (record { flags = flags; start = b3.0.0; states = b4.0.0; arcs = arcs.0; counted = b4.0.1; behind = arcs.1 })) h b4.2 in
    let g = guard_passed (is_start b3.0.0 b4.0.0) (number_where (λ n. leb n most_arcs) Short BadCount 8 bytes b4.0.1) (record { offset = b2.0.1; kind = BadStart }) b5.0 b5.1 in
    let kind = flags_take bytes at flags b1.0.1 fits b1.1 in
    let t2 = (number_takes Short 8 (2 ^ 64) long longs bytes b1.0.1 b2.0.0 b2.0.1 fits b2.1).0 in
    let t3 = start_takes bytes b2.0.1 b3.0.0 b3.0.1 fits b3.1 in
    let t4 = where_takes (λ n. leb n most_states) Short BadCount 8 (2 ^ 64) long longs bytes b3.0.1 b4.0.0 b4.0.1 fits b4.1 in
    let t5 = where_takes (λ n. leb n most_arcs) Short BadCount 8 (2 ^ 64) long longs bytes b4.0.1 b5.0.0 b5.0.1 fits g.1 in
    let two = Takes-then bytes 0 front at (word kind.version) kind.between begins kind.first in
    let three = Takes-then bytes 0 (front ++ word kind.version) kind.between (word flags) b1.0.1 two kind.second in
    let four = Takes-then bytes 0 (front ++ word kind.version ++ word flags) b1.0.1 (long b2.0.0) b2.0.1 three t2 in
    let counted = Takes-then bytes b2.0.1 (signed (start_number b3.0.0)) b3.0.1 (long b4.0.0) b4.0.1 t3 t4.0 in
    let all = Takes-then bytes b2.0.1 (signed (start_number b3.0.0) ++ long b4.0.0) b4.0.1 (long b5.0.0) b5.0.1 counted t5.0 in
    let made : Header = record { flags = flags; start = b3.0.0; states = b4.0.0; arcs = b5.0.0; counted = b4.0.1; behind = b5.0.1 } in
    let taken : HeaderTaken bytes front made = record {
      version = kind.version;
      low = kind.low;
      high = kind.high;
      fit = kind.fit;
      properties = long b2.0.0;
      eight = length-long b2.0.0;
      taken = Takes-then bytes 0 (front ++ word kind.version ++ word flags ++ long b2.0.0) b2.0.1 (counts made) b5.0.1 four all;
      start = start_is_below b3.0.0 b4.0.0 g.0;
      few_states = leb-true _ _ t4.1;
      few_arcs = leb-true _ _ t5.1;
    } in
    subst (λ (k : Header). HeaderTaken bytes front k) (ok_is {A = Header} {E = BinaryFault} made h b5.2) taken

pub record HeaderRead (bytes : List ℕ) (at flags : ℕ) (start : Option ℕ) (states arcs : ℕ) (rest : List ℕ) : Type 0 where
  pub counted : ℕ
  pub behind : ℕ
  pub gives : header_at bytes at ≡ Ok (record { flags = flags; start = start; states = states; arcs = arcs; counted = counted; behind = behind })
  pub left : drop behind bytes ≡ rest
  pub within : behind ≤ length bytes

pub header_again : (bytes : List ℕ) (at : ℕ) (i o : Option (List Symbol)) (properties : List ℕ) (start : Option ℕ) (states arcs : ℕ) (rest : List ℕ) → at ≤ length bytes → length properties ≡ 8 → IfSome start (λ s. s < states) → states ≤ most_states → arcs ≤ most_arcs
    → drop at bytes ≡ word (version_of i o) ++ (word (flags_of i o) ++ (properties ++ (signed (start_number start) ++ (long states ++ (long arcs ++ rest))))) → HeaderRead bytes at (flags_of i o) start states arcs rest
unfolding header_at
header_again bytes at i o properties start states arcs rest within eight below few_states few_arcs e =
    let kind = flags_again i o bytes at (properties ++ (signed (start_number start) ++ (long states ++ (long arcs ++ rest)))) within e in
    let any = any_number_again Short 8 bytes kind.next properties (signed (start_number start) ++ (long states ++ (long arcs ++ rest))) kind.within eight kind.left in
    let s = start_again bytes any.1.next start (long states ++ (long arcs ++ rest)) any.1.within (start_is_small start states few_states below) any.1.left in
    let n = where_again (λ n. leb n most_states) Short BadCount 8 (2 ^ 64) long longs bytes s.next states (long arcs ++ rest) s.within (omega (arith, few_states)) (le-leb _ _ few_states) s.left in
    let a = where_again (λ n. leb n most_arcs) Short BadCount 8 (2 ^ 64) long longs bytes n.next arcs rest n.within (omega (arith, few_arcs)) (le-leb _ _ few_arcs) n.left in
    record { counted = n.next; behind = a.next; gives = rw (kind.gives, any.1.gives, s.gives, n.gives, start_passes start states below, a.gives) refl; left = a.left; within = a.within }
