-- Numbers that are read are those that stand there.
use Rattle.std.proofs.Common.{◌≡◌, ℕ, ◌+◌, ◌^◌, ◌<◌, ◌≤◌, Bool, true, false, cond, ltb, List, ◌++◌, length, take, drop, Ok, refl, sym, ap, subst, ◌∙◌, arith}
use Rattle.std.proofs.lemmas.Bool.{ltb-false, le-ltb}
use Rattle.std.proofs.lemmas.List.{length-drop, length-take}
use Rattle.std.proofs.lemmas.Nat.{le_bytes_4, le_bytes_8}
use Rattle.byteorder.specs.Endian.{little_number}
use Rattle.byteorder.specs.Numbers.{little_from-take, little_from-lt, little_number-reads_back}
use Rattle.fst_bytes.specs.declared.fault.FileFault.{FileFault}
use Rattle.fst_bytes.specs.Spelling.{long, word}
use Rattle.fst_bytes.specs.Reading.{fault, number_at, number_where}
use Rattle.fst_bytes.proofs.Steps.{IsBytes, IsBytes-drop, IsBytes-take, Reads, Takes, Takes-front, bind_ok, ends_within, guard_ok, guard_passed, ok_is, past}

-- numbers of so many bytes, and how they are written
pub record IsWide (width limit : ℕ) (make : ℕ → List ℕ) : Type 0 where
  pub len : (n : ℕ) → length (make n) ≡ width
  pub back : (bytes : List ℕ) → length bytes ≡ width → IsBytes bytes → make (little_number width bytes) ≡ bytes
  pub again : (n : ℕ) (rest : List ℕ) → n < limit → little_number width (make n ++ rest) ≡ n
  pub below : (bytes : List ℕ) → IsBytes bytes → little_number width bytes < limit

pub words : IsWide 4 (2 ^ 32) word
unfolding word
words = record {
  len = λ n. refl;
  back = λ bytes len fits. le_bytes_4 bytes (little_number 4 bytes) len fits (omega arith);
  again = λ n rest lt. little_number-reads_back 4 n rest lt;
  below = λ bytes fits. little_from-lt 0 4 bytes fits;
}

pub longs : IsWide 8 (2 ^ 64) long
unfolding long
longs = record {
  len = λ n. refl;
  back = λ bytes len fits. le_bytes_8 bytes (little_number 8 bytes) len fits (omega arith);
  again = λ n rest lt. little_number-reads_back 8 n rest lt;
  below = λ bytes fits. little_from-lt 0 8 bytes fits;
}

pub number_takes : {K : Type 0} (short : K) (width limit : ℕ) (make : ℕ → List ℕ) (wide : IsWide width limit make) (bytes : List ℕ) (at n next : ℕ) → IsBytes bytes → number_at short width bytes at ≡ Ok (n, next) → Takes bytes at (make n) next × (n < limit)
unfolding number_at
number_takes {K} short width limit make wide bytes at n next fits e =
    let g = guard_ok (ltb (length bytes) (at + width)) (Ok (little_number width (drop at bytes), at + width)) (record { offset = length bytes; kind = short }) (n, next) e in
    let whole : at + width ≤ length bytes = ltb-false _ _ g.0 in
    let read : (little_number width (drop at bytes), at + width) ≡ (n, next) = ok_is {A = ℕ × ℕ} {E = FileFault K} _ _ g.1 in
    let n-is : little_number width (drop at bytes) ≡ n = ap (λ (p : ℕ × ℕ). p.0) read in
    let next-is : at + width ≡ next = ap (λ (p : ℕ × ℕ). p.1) read in
    let own = take width (drop at bytes) in
    let own_fits : IsBytes own = IsBytes-take width (drop at bytes) (IsBytes-drop at bytes fits) in
    let same : little_number width own ≡ n = little_from-take 0 width width (drop at bytes) (omega arith) ∙ n-is in
    let made : own ≡ make n = sym (wide.back own (omega (arith, whole, length-take width (drop at bytes), length-drop at bytes)) own_fits) ∙ ap make same in
    (subst (λ (t : List ℕ). Takes bytes at t next) made (subst (λ (k : ℕ). Takes bytes at own k) next-is (Takes-front bytes at width whole)), subst (λ (k : ℕ). k < limit) same (wide.below own own_fits))

pub number_again : {K : Type 0} (short : K) (width limit : ℕ) (make : ℕ → List ℕ) (wide : IsWide width limit make) (bytes : List ℕ) (at n : ℕ) (rest : List ℕ) → at ≤ length bytes → n < limit → drop at bytes ≡ make n ++ rest → Reads bytes (number_at short width bytes at) n rest
unfolding number_at
number_again short width limit make wide bytes at n rest within lt e =
    let len = wide.len n in
    let ends = ends_within bytes at (make n) rest within e in
    let whole : ltb (length bytes) (at + width) ≡ false = le-ltb _ _ (omega (arith, len, ends)) in
    let value : little_number width (drop at bytes) ≡ n = ap (little_number width) e ∙ wide.again n rest lt in
    record {
      next = at + width;
      gives = rw (whole, value) refl;
      left = past bytes at (make n) rest width len e;
      within = omega (arith, len, ends);
    }

-- whatever bytes stand there are read as some number
pub any_number_again : {K : Type 0} (short : K) (width : ℕ) (bytes : List ℕ) (at : ℕ) (part rest : List ℕ) → at ≤ length bytes → length part ≡ width → drop at bytes ≡ part ++ rest → (n : ℕ) × Reads bytes (number_at short width bytes at) n rest
unfolding number_at
any_number_again short width bytes at part rest within wide e =
    let ends = ends_within bytes at part rest within e in
    let whole : ltb (length bytes) (at + width) ≡ false = le-ltb _ _ (omega (arith, ends, wide)) in
    (little_number width (drop at bytes), record { next = at + width; gives = rw whole refl; left = past bytes at part rest width wide e; within = omega (arith, ends, wide) })

pub where_takes : {K : Type 0} (test : ℕ → Bool) (short wrong : K) (width limit : ℕ) (make : ℕ → List ℕ) (wide : IsWide width limit make) (bytes : List ℕ) (at n next : ℕ) → IsBytes bytes → number_where test short wrong width bytes at ≡ Ok (n, next) → Takes bytes at (make n) next × (test n ≡ true)
unfolding number_where
where_takes {K} test short wrong width limit make wide bytes at n next fits e =
    let b = bind_ok (number_at short width bytes at) (λ m. cond (test m.0) (Ok m) (fault wrong at)) (n, next) e in
    let g = guard_passed (test b.0.0) (Ok b.0) (record { offset = at; kind = wrong }) (n, next) b.2 in
    let same : b.0 ≡ (n, next) = ok_is {A = ℕ × ℕ} {E = FileFault K} _ _ g.1 in
    let read : number_at short width bytes at ≡ Ok (n, next) = b.1 ∙ ap (λ (p : ℕ × ℕ). Ok p) same in
    ((number_takes short width limit make wide bytes at n next fits read).0, ap (λ (p : ℕ × ℕ). test p.0) (sym same) ∙ g.0)

pub where_again : {K : Type 0} (test : ℕ → Bool) (short wrong : K) (width limit : ℕ) (make : ℕ → List ℕ) (wide : IsWide width limit make) (bytes : List ℕ) (at n : ℕ) (rest : List ℕ) → at ≤ length bytes → n < limit → test n ≡ true → drop at bytes ≡ make n ++ rest → Reads bytes (number_where test short wrong width bytes at) n rest
unfolding number_where
where_again test short wrong width limit make wide bytes at n rest within lt passes e =
    let r = number_again short width limit make wide bytes at n rest within lt e in
    record { next = r.next; gives = rw (r.gives, passes) refl; left = r.left; within = r.within }
