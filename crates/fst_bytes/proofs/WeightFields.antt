-- Weight fields that are read are those that stand there.
use Rattle.std.proofs.Common.{Result, ◌≡◌, ◌≢◌, ℕ, ℤ, pos, negsuc, T, suc, ◌+◌, ◌*◌, ◌^◌, ◌<◌, ◌≤◌, ◌≤ℤ◌, int_le, Bool, true, false, ◌&&◌, cond, ltb, leb, eqb, List, [], ◌∷◌, ◌++◌, length, get_or, drop, slice_index, Ok, Err, ◌⊎◌, inl, inr, refl, sym, ap, subst, ◌∙◌, append_assoc, w64, to_z, of_z, SFits, arith}
use Rattle.std.specs.Prelude.{IfOk, IsOkAnd}
use Rattle.std.specs.Result.{result_map_both}
use Rattle.std.specs.List.{flat_map, list_all}
use Rattle.std.proofs.Math.Facts.{Fits-of_z, of_z-to_z}
use Rattle.std.proofs.lemmas.Int.{ints, to_z-of_z}
use Rattle.std.proofs.lemmas.Bool.{eqb-true, leb-false, lt-leb, ltb-false, le-ltb}
use Rattle.std.proofs.lemmas.List.{append-nil, get_or-drop, length-append}
use Rattle.std.proofs.Math.Seq.{drop-cons}
use Rattle.byteorder.specs.Endian.{little_number}
use Rattle.fst_semiring.specs.declared.arc_type.ArcType.{ArcType}
use Rattle.fst_semiring.specs.declared.arc_type.ArcType.TheVariants.{Boolean, Tropical, MinMax, Lexicographic}
use Rattle.fst_semiring.specs.Cost.{Cost, best, finite, infinite, is_infinite}
use Rattle.fst_semiring.specs.Semiring.{IsSmall}
use Rattle.fst_bytes.specs.declared.fault.FileFault.{FileFault}
use Rattle.fst_bytes.specs.declared.fault.WeightFieldFault.{WeightFieldFault}
use Rattle.fst_bytes.specs.declared.fault.WeightFieldFault.TheVariants as fields
use Rattle.fst_bytes.specs.Spelling.{HasField, long, numbers_of, signed, weight_field}
use Rattle.fst_bytes.specs.Reading.{cost_of_numbers, fault, field_fault, file_weight_at, has_best, integer_at, integers_at, is_small, non_zero_weight_at, number_at, number_count, numbers_at, weight_at}
use Rattle.fst_bytes.proofs.Numbers.{longs, number_takes}
use Rattle.fst_bytes.proofs.Steps.{IsBytes, Reads, Takes, Takes-none, Takes-then, bind_ok, done, ends_within, guard_ok, guard_passed, ok_is, past}
use Rattle.fst_bytes.proofs.Lengths.{length-signed}
use Rattle.fst_bytes.proofs.Weights.{and_left, and_right, best_has_field, numbers_have_field}

pub signed_is : (n : ℤ) → signed n ≡ long (of_z w64 n)
unfolding signed long
signed_is n = refl

small_fits : (n : ℤ) → IsSmall n → SFits w64 n
small_fits (pos n) h = record { sfits = omega (arith, ints, h.1) }
small_fits (negsuc n) h = record { sfits = omega (arith, ints, h.0) }

-- ---- numbers

integer_takes : (bytes : List ℕ) (at : ℕ) → IsBytes bytes → at + 8 ≤ length bytes → Takes bytes at (signed (integer_at bytes at)) (at + 8)
unfolding number_at integer_at
integer_takes bytes at fits whole =
    let n = little_number 8 (drop at bytes) in
    let long_enough : ltb (length bytes) (at + 8) ≡ false = le-ltb _ _ whole in
    let read : number_at {K = ℕ} 0 8 bytes at ≡ Ok (n, at + 8) = rw long_enough refl in
    let t = number_takes {K = ℕ} 0 8 (2 ^ 64) long longs bytes at n (at + 8) fits read in
    let same : signed (to_z w64 n) ≡ long n = signed_is (to_z w64 n) ∙ ap long (of_z-to_z {w = w64} {n = n} (record { fits = t.1 })) in
    subst (λ (x : List ℕ). Takes bytes at x (at + 8)) (sym same) t.0

integer_again : (bytes : List ℕ) (at : ℕ) (n : ℤ) (rest : List ℕ) → IsSmall n → drop at bytes ≡ signed n ++ rest → integer_at bytes at ≡ n
unfolding integer_at
integer_again bytes at n rest small e =
    let fits = small_fits n small in
    let low : of_z w64 n < 2 ^ 64 = (Fits-of_z fits).fits in
    let number : little_number 8 (drop at bytes) ≡ of_z w64 n = ap (little_number 8) (e ∙ ap (λ (x : List ℕ). x ++ rest) (signed_is n)) ∙ longs.again (of_z w64 n) rest low in
    ap (to_z w64) number ∙ to_z-of_z w64 n fits

-- what stands after the tag 1
abbrev pub numbers_field : ArcType → Cost → List ℕ
numbers_field kind infinite = []
numbers_field kind best = []
numbers_field kind (finite a b) = flat_map signed (numbers_of kind a b)

numbers_front : (kind : ArcType) (bytes : List ℕ) (at : ℕ) → IsBytes bytes → at + 8 * number_count kind ≤ length bytes → Takes bytes at (numbers_field kind (cost_of_numbers (integers_at (number_count kind) bytes at))) (at + 8 * number_count kind)
numbers_front Boolean bytes at fits whole =
    let e : at ≡ at + 8 * 0 = omega arith in
    subst (λ (next : ℕ). Takes bytes at [] next) e (Takes-none bytes at (omega (arith, whole)))
numbers_front Tropical bytes at fits whole = subst (λ (x : List ℕ). Takes bytes at x (at + 8)) (sym (append-nil (signed (integer_at bytes at)))) (integer_takes bytes at fits whole)
numbers_front MinMax bytes at fits whole = subst (λ (x : List ℕ). Takes bytes at x (at + 8)) (sym (append-nil (signed (integer_at bytes at)))) (integer_takes bytes at fits whole)
numbers_front Lexicographic bytes at fits whole =
    let first = integer_takes bytes at fits (omega (arith, whole)) in
    let second = integer_takes bytes (at + 8) fits (omega (arith, whole)) in
    let ends = subst (λ (x : List ℕ). Takes bytes (at + 8) x (at + 8 + 8)) (sym (append-nil (signed (integer_at bytes (at + 8))))) second in
    let both = Takes-then bytes at (signed (integer_at bytes at)) (at + 8) (signed (integer_at bytes (at + 8)) ++ []) (at + 8 + 8) first ends in
    let e : at + 8 + 8 ≡ at + 8 * 2 = omega arith in
    subst (λ (next : ℕ). Takes bytes at (signed (integer_at bytes at) ++ (signed (integer_at bytes (at + 8)) ++ [])) next) e both

numbers_made : (kind : ArcType) (bytes : List ℕ) (at : ℕ) → 1 ∷ numbers_field kind (cost_of_numbers (integers_at (number_count kind) bytes at)) ≡ weight_field kind (cost_of_numbers (integers_at (number_count kind) bytes at))
numbers_made Boolean bytes at = refl
numbers_made Tropical bytes at = refl
numbers_made MinMax bytes at = refl
numbers_made Lexicographic bytes at = refl

numbers_takes : (kind : ArcType) (bytes : List ℕ) (at : ℕ) (v : Cost) (next : ℕ) → IsBytes bytes → numbers_at kind bytes at ≡ Ok (v, next) → Takes bytes at (numbers_field kind v) next × (1 ∷ numbers_field kind v ≡ weight_field kind v) × HasField kind v
unfolding numbers_at
numbers_takes kind bytes at v next fits e =
    let ns = integers_at (number_count kind) bytes at in
    let g = guard_ok (ltb (length bytes) (at + 8 * number_count kind)) (cond (list_all is_small ns) (Ok (cost_of_numbers ns, at + 8 * number_count kind)) (Err fields.BadWeight)) fields.Short (v, next) e in
    let h = guard_passed (list_all is_small ns) (Ok (cost_of_numbers ns, at + 8 * number_count kind)) fields.BadWeight (v, next) g.1 in
    let whole : at + 8 * number_count kind ≤ length bytes = ltb-false _ _ g.0 in
    let read = ok_is {A = Cost × ℕ} {E = WeightFieldFault} (cost_of_numbers ns, at + 8 * number_count kind) (v, next) h.1 in
    subst (λ (p : Cost × ℕ). Takes bytes at (numbers_field kind p.0) p.1 × (1 ∷ numbers_field kind p.0 ≡ weight_field kind p.0) × HasField kind p.0) read (numbers_front kind bytes at fits whole, numbers_made kind bytes at, numbers_have_field kind bytes at h.0)

true_of : (b : Bool) → T b → b ≡ true
true_of true h = refl
true_of false h = absurd h

test_holds : (a b : ℤ) → a ≤ℤ b → int_le a b ≡ true
test_holds a b h = true_of (int_le a b) h.le

small_passes : (n : ℤ) → IsSmall n → is_small n ≡ true
small_passes n h = rw (test_holds _ _ h.0, test_holds _ _ h.1) refl

-- the numbers of a value that has a field are read
pub numbers_read : (kind : ArcType) (bytes : List ℕ) (at : ℕ) (a b : ℤ) (rest : List ℕ) → at ≤ length bytes → HasField kind (finite a b) → drop at bytes ≡ flat_map signed (numbers_of kind a b) ++ rest → (cost_of_numbers (integers_at (number_count kind) bytes at) ≡ finite a b) × (list_all is_small (integers_at (number_count kind) bytes at) ≡ true) × (length (flat_map signed (numbers_of kind a b)) ≡ 8 * number_count kind)
numbers_read Boolean bytes at a b rest within fits e = (rw (fits.0.0, fits.0.1) refl, refl, refl)
numbers_read Tropical bytes at a b rest within fits e =
    let apart : drop at bytes ≡ signed a ++ rest = e ∙ ap (λ (x : List ℕ). x ++ rest) (append-nil (signed a)) in
    let n = integer_again bytes at a rest fits.1.0 apart in
    (rw (n, fits.0) refl, rw (n, small_passes a fits.1.0) refl, omega (arith, length-append (signed a) [], length-signed a))
numbers_read MinMax bytes at a b rest within fits e =
    let apart : drop at bytes ≡ signed a ++ rest = e ∙ ap (λ (x : List ℕ). x ++ rest) (append-nil (signed a)) in
    let n = integer_again bytes at a rest fits.1.0 apart in
    (rw (n, fits.0) refl, rw (n, small_passes a fits.1.0) refl, omega (arith, length-append (signed a) [], length-signed a))
numbers_read Lexicographic bytes at a b rest within fits e =
    let apart : drop at bytes ≡ signed a ++ (signed b ++ rest) = e ∙ append_assoc (signed a) (signed b ++ []) rest ∙ ap (λ (x : List ℕ). signed a ++ (x ++ rest)) (append-nil (signed b)) in
    let n = integer_again bytes at a (signed b ++ rest) fits.1.0 apart in
    let m = integer_again bytes (at + 8) b rest fits.1.1 (past bytes at (signed a) (signed b ++ rest) 8 (length-signed a) apart) in
    (rw (n, m) refl, rw (n, m, small_passes a fits.1.0, small_passes b fits.1.1) refl, omega (arith, length-append (signed a) (signed b ++ []), length-append (signed b) [], length-signed a, length-signed b))

-- ---- the whole field

pub chosen : {A : Type 0} (b : Bool) (x y z : A) → cond b x y ≡ z → ((b ≡ true) × (x ≡ z)) ⊎ ((b ≡ false) × (y ≡ z))
chosen true x y z e = inl (refl, e)
chosen false x y z e = inr (refl, e)

pub tag_takes : (bytes : List ℕ) (at tag : ℕ) → at < length bytes → slice_index bytes at ≡ tag → Takes bytes at (tag ∷ []) (at + 1)
tag_takes bytes at tag within e =
    let next : suc at ≡ at + 1 = omega arith in
    record { within = omega (arith, within); parts = drop-cons bytes at 0 within ∙ ap (λ (t : ℕ). t ∷ drop (suc at) bytes) e ∙ ap (λ (n : ℕ). tag ∷ drop n bytes) next }

pub weight_takes : (kind : ArcType) (bytes : List ℕ) (at : ℕ) (v : Cost) (next : ℕ) → IsBytes bytes → weight_at kind bytes at ≡ Ok (v, next) → Takes bytes at (weight_field kind v) next × HasField kind v
unfolding weight_at
weight_takes kind bytes at v next fits e =
    let tag = slice_index bytes at in
    let third = cond (eqb tag 2 && has_best kind) (done {A = Cost × ℕ} {E = WeightFieldFault} (best, at + 1)) (Err fields.BadWeight) in
    let second = cond (eqb tag 1) (numbers_at kind bytes (at + 1)) third in
    let g = guard_ok (leb (length bytes) at) (cond (eqb tag 0) (Ok (infinite, at + 1)) second) fields.Short (v, next) e in
    let within : at < length bytes = leb-false _ _ g.0 in
    elim (chosen (eqb tag 0) (Ok (infinite, at + 1)) second (Ok (v, next)) g.1) [
      | inl zero_tag ↦
          let read = ok_is {A = Cost × ℕ} {E = WeightFieldFault} (infinite, at + 1) (v, next) zero_tag.1 in
          subst (λ (p : Cost × ℕ). Takes bytes at (weight_field kind p.0) p.1 × HasField kind p.0) read (tag_takes bytes at 0 within (eqb-true _ _ zero_tag.0), (tt, tt))
      | inr other ↦
          elim (chosen (eqb tag 1) (numbers_at kind bytes (at + 1)) third (Ok (v, next)) other.1) [
            | inl one_tag ↦
                let n = numbers_takes kind bytes (at + 1) v next fits one_tag.1 in
                let whole = Takes-then bytes at (1 ∷ []) (at + 1) (numbers_field kind v) next (tag_takes bytes at 1 within (eqb-true _ _ one_tag.0)) n.0 in
                (subst (λ (x : List ℕ). Takes bytes at x next) n.1 whole, n.2)
            | inr last ↦
                let h = guard_passed (eqb tag 2 && has_best kind) (Ok (best, at + 1)) fields.BadWeight (v, next) last.1 in
                let read = ok_is {A = Cost × ℕ} {E = WeightFieldFault} (best, at + 1) (v, next) h.1 in
                subst (λ (p : Cost × ℕ). Takes bytes at (weight_field kind p.0) p.1 × HasField kind p.0) read (tag_takes bytes at 2 within (eqb-true _ _ (and_left _ _ h.0)), best_has_field kind (and_right (eqb tag 2) _ h.0))
          ]
    ]

pub tag_stands : (bytes : List ℕ) (at tag : ℕ) (rest : List ℕ) → at ≤ length bytes → drop at bytes ≡ tag ∷ rest → (leb (length bytes) at ≡ false) × (slice_index bytes at ≡ tag)
tag_stands bytes at tag rest within e =
    let ends = ends_within bytes at (tag ∷ []) rest within e in
    let same : at + 0 ≡ at = omega arith in
    (lt-leb _ _ (omega (arith, ends)), ap (λ (i : ℕ). get_or bytes i 0) (sym same) ∙ sym (get_or-drop at bytes 0 0) ∙ ap (λ (xs : List ℕ). get_or xs 0 0) e)

best_has_tag : (kind : ArcType) → HasField kind best → has_best kind ≡ true
best_has_tag Boolean h = absurd h.0
best_has_tag Tropical h = absurd h.0
best_has_tag MinMax h = refl
best_has_tag Lexicographic h = absurd h.0

pub weight_again : (kind : ArcType) (bytes : List ℕ) (at : ℕ) (v : Cost) (rest : List ℕ) → at ≤ length bytes → HasField kind v → drop at bytes ≡ weight_field kind v ++ rest → Reads bytes (weight_at kind bytes at) v rest
unfolding weight_at numbers_at
weight_again kind bytes at infinite rest within fits e =
    let t = tag_stands bytes at 0 rest within e in
    record { next = at + 1; gives = rw (t.0, t.1) refl; left = past bytes at (0 ∷ []) rest 1 refl e; within = ends_within bytes at (0 ∷ []) rest within e }
weight_again kind bytes at best rest within fits e =
    let t = tag_stands bytes at 2 rest within e in
    record { next = at + 1; gives = rw (t.0, t.1, best_has_tag kind fits) refl; left = past bytes at (2 ∷ []) rest 1 refl e; within = ends_within bytes at (2 ∷ []) rest within e }
weight_again kind bytes at (finite a b) rest within fits e =
    let numbers = flat_map signed (numbers_of kind a b) in
    let t = tag_stands bytes at 1 (numbers ++ rest) within e in
    let after = past bytes at (1 ∷ []) (numbers ++ rest) 1 refl e in
    let begins = ends_within bytes at (1 ∷ []) (numbers ++ rest) within e in
    let n = numbers_read kind bytes (at + 1) a b rest begins fits after in
    let ends = ends_within bytes (at + 1) numbers rest begins after in
    let whole : ltb (length bytes) (at + 1 + 8 * number_count kind) ≡ false = le-ltb _ _ (omega (arith, ends, n.2)) in
    record { next = at + 1 + 8 * number_count kind; gives = rw (t.0, t.1, whole, n.1, n.0) refl; left = past bytes (at + 1) numbers rest (8 * number_count kind) n.2 after; within = omega (arith, ends, n.2) }

-- ---- a weight field in a file

mapped_is : {A D E : Type 0} (f : D → E) (r : Result A D) (y : A) → result_map_both (λ x. x) f r ≡ Ok y → r ≡ Ok y
mapped_is f (Ok x) y e = cc
mapped_is f (Err d) y e = absurd cc

pub file_weight_takes : {K : Type 0} (kind : ArcType) (short wrong : K) (bytes : List ℕ) (at : ℕ) (v : Cost) (next : ℕ) → IsBytes bytes → file_weight_at kind short wrong bytes at ≡ Ok (v, next) → Takes bytes at (weight_field kind v) next × HasField kind v
unfolding file_weight_at
file_weight_takes kind short wrong bytes at v next fits e = weight_takes kind bytes at v next fits (mapped_is (field_fault short wrong bytes at) (weight_at kind bytes at) (v, next) e)

pub file_weight_again : {K : Type 0} (kind : ArcType) (short wrong : K) (bytes : List ℕ) (at : ℕ) (v : Cost) (rest : List ℕ) → at ≤ length bytes → HasField kind v → drop at bytes ≡ weight_field kind v ++ rest → Reads bytes (file_weight_at kind short wrong bytes at) v rest
unfolding file_weight_at
file_weight_again kind short wrong bytes at v rest within fits e =
    let r = weight_again kind bytes at v rest within fits e in
    record { next = r.next; gives = rw r.gives refl; left = r.left; within = r.within }

pub not_infinite : (v : Cost) → is_infinite v ≡ false → v ≢ infinite
not_infinite infinite e same = absurd cc
not_infinite best e same = absurd cc
not_infinite (finite a b) e same = absurd cc

pub is_finite : (v : Cost) → v ≢ infinite → is_infinite v ≡ false
is_finite infinite h = absurd (h refl)
is_finite best h = refl
is_finite (finite a b) h = refl

pub non_zero_weight_takes : {K : Type 0} (kind : ArcType) (short wrong : K) (bytes : List ℕ) (at : ℕ) (v : Cost) (next : ℕ) → IsBytes bytes → non_zero_weight_at kind short wrong bytes at ≡ Ok (v, next) → Takes bytes at (weight_field kind v) next × HasField kind v × (v ≢ infinite)
unfolding non_zero_weight_at
non_zero_weight_takes {K} kind short wrong bytes at v next fits e =
    let b = bind_ok (file_weight_at kind short wrong bytes at) (λ w. cond (is_infinite w.0) (fault wrong at) (Ok w)) (v, next) e in
    let g = guard_ok (is_infinite b.0.0) (Ok b.0) (record { offset = at; kind = wrong }) (v, next) b.2 in
    let same : b.0 ≡ (v, next) = ok_is {A = Cost × ℕ} {E = FileFault K} _ _ g.1 in
    let read : file_weight_at kind short wrong bytes at ≡ Ok (v, next) = b.1 ∙ ap (λ (p : Cost × ℕ). Ok p) same in
    let t = file_weight_takes kind short wrong bytes at v next fits read in
    (t.0, t.1, not_infinite v (ap (λ (p : Cost × ℕ). is_infinite p.0) (sym same) ∙ g.0))

pub non_zero_weight_again : {K : Type 0} (kind : ArcType) (short wrong : K) (bytes : List ℕ) (at : ℕ) (v : Cost) (rest : List ℕ) → at ≤ length bytes → HasField kind v → v ≢ infinite → drop at bytes ≡ weight_field kind v ++ rest → Reads bytes (non_zero_weight_at kind short wrong bytes at) v rest
unfolding non_zero_weight_at
non_zero_weight_again kind short wrong bytes at v rest within fits not e =
    let r = file_weight_again kind short wrong bytes at v rest within fits e in
    record { next = r.next; gives = rw (r.gives, is_finite v not) refl; left = r.left; within = r.within }

-- ---- the same of what a function returned

pub is_found : {W : Type 0} (value : W → Cost) (kind : ArcType) (bytes : List ℕ) (at : ℕ) (result : Result (W × ℕ) WeightFieldFault) → IsBytes bytes → result_map_both (λ (x : W × ℕ). (value x.0, x.1)) (λ e. e) result ≡ weight_at kind bytes at
    → IfOk result (λ x. drop at bytes ≡ weight_field kind (value x.0) ++ drop x.1 bytes)
is_found value kind bytes at (Ok x) fits e = (weight_takes kind bytes at (value x.0) x.1 fits (sym e)).0.parts
is_found value kind bytes at (Err f) fits e = tt

err_not_ok : {A E : Type 0} (d : E) (y : A) → Err d ≡ done {A = A} {E = E} y → ⊥
err_not_ok d y e = absurd cc

pub is_only : {W : Type 0} (value : W → Cost) (kind : ArcType) (bytes : List ℕ) (at : ℕ) (result : Result (W × ℕ) WeightFieldFault) → at ≤ length bytes → result_map_both (λ (x : W × ℕ). (value x.0, x.1)) (λ e. e) result ≡ weight_at kind bytes at
    → (v : Cost) (rest : List ℕ) → HasField kind v → drop at bytes ≡ weight_field kind v ++ rest → IsOkAnd result (λ x. (value x.0 ≡ v) × (drop x.1 bytes ≡ rest))
is_only value kind bytes at (Ok x) within given v rest fits e =
    let r = weight_again kind bytes at v rest within fits e in
    let same = ok_is {A = Cost × ℕ} {E = WeightFieldFault} (value x.0, x.1) (v, r.next) (given ∙ r.gives) in
    (ap (λ (p : Cost × ℕ). p.0) same, ap (λ (p : Cost × ℕ). drop p.1 bytes) same ∙ r.left)
is_only value kind bytes at (Err f) within given v rest fits e =
    let r = weight_again kind bytes at v rest within fits e in
    absurd (err_not_ok f (v, r.next) (given ∙ r.gives))
