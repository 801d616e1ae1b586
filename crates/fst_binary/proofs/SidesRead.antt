-- The tables that are read are those that stand there, and the flags tell which.
use Rattle.std.proofs.Common.{◌≡◌, ◌⊎◌, inl, inr, ℕ, zero, suc, ◌^◌, ◌<◌, ◌≤◌, Bool, true, false, cond, leb, eqb, ◌&&◌, List, ◌++◌, length, drop, Option, None, Some, Ok, refl, sym, subst, ◌∙◌, append_assoc, arith}
use Rattle.std.proofs.lemmas.Bool.{and_parts, eqb-true, leb-true}
use Rattle.std.proofs.lemmas.Bool.Decides.{nat_tests}
use Rattle.fst_fields.specs.Reading.{◌>>=◌}
use Rattle.fst_bytes.specs.Reading.{number_where}
use Rattle.fst_bytes.specs.Spelling.{word}
use Rattle.fst_bytes.proofs.Numbers.{where_again, where_takes, words}
use Rattle.fst_bytes.proofs.Steps.{IsBytes, Reads, Takes, Takes-none, Takes-then, bind_ok, done, ok_is}
use Rattle.fst_symbols.specs.Symbols.{Symbol}
use Rattle.fst_binary.specs.declared.fault.BinaryKind.TheVariants.{BadFlags, BadVersion, Short}
use Rattle.fst_binary.specs.Faults.{BinaryFault}
use Rattle.fst_binary.specs.Tables.{table_at}
use Rattle.fst_binary.specs.Sides.{HasSide, HasSides, Sides, are_flags, flags_at, flags_of, has_input, has_output, side_at, side_fields, sides_at, sides_fields, version_of}
use Rattle.fst_binary.proofs.Tables.{table_again, table_takes}

-- which side is there
abbrev pub IsHere : Bool → Option (List Symbol) → Type 0
IsHere true None = ⊥
IsHere true (Some t) = Unit {0}
IsHere false None = Unit {0}
IsHere false (Some t) = ⊥

pub side_takes : (here : Bool) (bytes : List ℕ) (at : ℕ) (side : Option (List Symbol)) (next : ℕ) → at ≤ length bytes → IsBytes bytes → side_at here bytes at ≡ Ok (side, next) → Takes bytes at (side_fields side) next × HasSide side × IsHere here side
unfolding side_at
side_takes true bytes at side next within fits e =
    let b = bind_ok (table_at bytes at) (λ t. done {A = Option (List Symbol) × ℕ} {E = BinaryFault} (Some t.0, t.1)) (side, next) e in
    let t = table_takes bytes at b.0.0 b.0.1 fits b.1 in
    subst (λ (p : Option (List Symbol) × ℕ). Takes bytes at (side_fields p.0) p.1 × HasSide p.0 × IsHere true p.0) (ok_is {A = Option (List Symbol) × ℕ} {E = BinaryFault} (Some b.0.0, b.0.1) (side, next) b.2) (t.0, t.1, tt)
side_takes false bytes at side next within fits e =
    subst (λ (p : Option (List Symbol) × ℕ). Takes bytes at (side_fields p.0) p.1 × HasSide p.0 × IsHere false p.0) (ok_is {A = Option (List Symbol) × ℕ} {E = BinaryFault} (None, at) (side, next) e) (Takes-none bytes at within, tt, tt)

pub side_again : (here : Bool) (side : Option (List Symbol)) (bytes : List ℕ) (at : ℕ) (rest : List ℕ) → at ≤ length bytes → HasSide side → IsHere here side → drop at bytes ≡ side_fields side ++ rest → Reads bytes (side_at here bytes at) side rest
unfolding side_at
side_again true None bytes at rest within has here e = absurd here
side_again true (Some t) bytes at rest within has here e =
    let r = table_again t bytes at rest within has e in
    record { next = r.next; gives = rw r.gives refl; left = r.left; within = r.within }
side_again false None bytes at rest within has here e = record { next = at; gives = refl; left = e; within = within }
side_again false (Some t) bytes at rest within has here e = absurd here

later : (n : ℕ) → 2 ≤ n → n ≤ 3 → eqb n 2 ≡ false → n ≡ 3
later n low high e = grind (arith, nat_tests)

-- the flags of sides say which are there
pub here_by : (i o : Option (List Symbol)) → IsHere (has_input (flags_of i o)) i × IsHere (has_output (flags_of i o)) o
here_by None None = (tt, tt)
here_by (Some t) None = (tt, tt)
here_by None (Some t) = (tt, tt)
here_by (Some t) (Some u) = (tt, tt)

-- the flags of a version 3
abbrev Threes : ℕ → Option (List Symbol) → Option (List Symbol) → Type 0
Threes flags i o = (3 ≡ version_of i o) × (flags ≡ flags_of i o)

input_alone : (i o : Option (List Symbol)) → IsHere true i → IsHere false o → Threes 1 i o
input_alone None o p q = absurd p
input_alone (Some t) None p q = (refl, refl)
input_alone (Some t) (Some u) p q = absurd q

output_alone : (i o : Option (List Symbol)) → IsHere false i → IsHere true o → Threes 2 i o
output_alone (Some t) o p q = absurd p
output_alone None None p q = absurd q
output_alone None (Some u) p q = (refl, refl)

both : (i o : Option (List Symbol)) → IsHere true i → IsHere true o → Threes 3 i o
both None o p q = absurd p
both (Some t) None p q = absurd q
both (Some t) (Some u) p q = (refl, refl)

neither : (i o : Option (List Symbol)) → IsHere false i → IsHere false o → (2 ≡ version_of i o) × (0 ≡ flags_of i o)
neither (Some t) o p q = absurd p
neither None None p q = (refl, refl)
neither None (Some u) p q = absurd q

one_of_three : (n : ℕ) → 1 ≤ n → n ≤ 3 → (n ≡ 1) ⊎ ((n ≡ 2) ⊎ (n ≡ 3))
one_of_three zero low high = absurd (omega (arith, low))
one_of_three (suc zero) low high = inl refl
one_of_three (suc (suc zero)) low high = inr (inl refl)
one_of_three (suc (suc (suc zero))) low high = inr (inr refl)
one_of_three (suc (suc (suc (suc n)))) low high = absurd (omega (arith, high))

abbrev Kind : ℕ → ℕ → Option (List Symbol) → Option (List Symbol) → Type 0
Kind version flags i o = IsHere (has_input flags) i → IsHere (has_output flags) o → (version ≡ version_of i o) × (flags ≡ flags_of i o)

threes : (flags : ℕ) (i o : Option (List Symbol)) → (flags ≡ 1) ⊎ ((flags ≡ 2) ⊎ (flags ≡ 3)) → Kind 3 flags i o
threes flags i o (inl e) = subst (λ (n : ℕ). Kind 3 n i o) (sym e) (input_alone i o)
threes flags i o (inr (inl e)) = subst (λ (n : ℕ). Kind 3 n i o) (sym e) (output_alone i o)
threes flags i o (inr (inr e)) = subst (λ (n : ℕ). Kind 3 n i o) (sym e) (both i o)

-- flags that a version may have, with the sides that are there, are the flags and the version of these
pub kind_is : (version flags : ℕ) (i o : Option (List Symbol)) → 2 ≤ version → version ≤ 3 → are_flags version flags ≡ true → Kind version flags i o
kind_is version flags i o low high fit = go (eqb version 2) refl fit where
  go : (second : Bool) → eqb version 2 ≡ second → cond second (eqb flags 0) (leb 1 flags && leb flags 3) ≡ true → Kind version flags i o
  go true e f = subst (λ (v : ℕ). Kind v flags i o) (sym (eqb-true version 2 e)) (subst (λ (n : ℕ). Kind 2 n i o) (sym (eqb-true flags 0 f)) (neither i o))
  go false e f =
      let third : version ≡ 3 = later version low high e in
      let parts = and_parts _ _ f in
      subst (λ (v : ℕ). Kind v flags i o) (sym third) (threes flags i o (one_of_three flags (leb-true _ _ parts.0) (leb-true _ _ parts.1)))

-- and the flags of sides are such
pub kind_fits : (i o : Option (List Symbol)) → are_flags (version_of i o) (flags_of i o) ≡ true
kind_fits None None = refl
kind_fits None (Some u) = refl
kind_fits (Some t) None = refl
kind_fits (Some t) (Some u) = refl

pub sides_take : (flags : ℕ) (bytes : List ℕ) (at : ℕ) (sides : Sides) (next : ℕ) → at ≤ length bytes → IsBytes bytes → sides_at flags bytes at ≡ Ok (sides, next)
    → Takes bytes at (sides_fields sides) next × HasSides sides × IsHere (has_input flags) sides.isymbols × IsHere (has_output flags) sides.osymbols
unfolding sides_at
sides_take flags bytes at sides next within fits e =
    let made = λ (i : Option (List Symbol) × ℕ) (o : Option (List Symbol) × ℕ). done {A = Sides × ℕ} {E = BinaryFault} (record { isymbols = i.0; osymbols = o.0 }, o.1) in
    let b = bind_ok (side_at (has_input flags) bytes at) (λ i. side_at (has_output flags) bytes i.1 >>= made i) (sides, next) e in
    let c = bind_ok (side_at (has_output flags) bytes b.0.1) (made b.0) (sides, next) b.2 in
    let s = side_takes (has_input flags) bytes at b.0.0 b.0.1 within fits b.1 in
    let t = side_takes (has_output flags) bytes b.0.1 c.0.0 c.0.1 s.0.within fits c.1 in
    subst (λ (p : Sides × ℕ). Takes bytes at (sides_fields p.0) p.1 × HasSides p.0 × IsHere (has_input flags) p.0.isymbols × IsHere (has_output flags) p.0.osymbols)
    (ok_is {A = Sides × ℕ} {E = BinaryFault} (record { isymbols = b.0.0; osymbols = c.0.0 }, c.0.1) (sides, next) c.2)
    (Takes-then bytes at (side_fields b.0.0) b.0.1 (side_fields c.0.0) c.0.1 s.0 t.0, (s.1, t.1), s.2, t.2)

pub sides_again : (sides : Sides) (bytes : List ℕ) (at : ℕ) (rest : List ℕ) → at ≤ length bytes → HasSides sides → drop at bytes ≡ sides_fields sides ++ rest → Reads bytes (sides_at (flags_of sides.isymbols sides.osymbols) bytes at) sides rest
unfolding sides_at
sides_again sides bytes at rest within has e =
    let flags = flags_of sides.isymbols sides.osymbols in
    let here = here_by sides.isymbols sides.osymbols in
    let apart : drop at bytes ≡ side_fields sides.isymbols ++ (side_fields sides.osymbols ++ rest) = e ∙ append_assoc (side_fields sides.isymbols) (side_fields sides.osymbols) rest in
    let i = side_again (has_input flags) sides.isymbols bytes at (side_fields sides.osymbols ++ rest) within has.0 here.0 apart in
    let o = side_again (has_output flags) sides.osymbols bytes i.next rest i.within has.1 here.1 i.left in
    record { next = o.next; gives = rw (i.gives, o.gives) refl; left = o.left; within = o.within }

-- ---- the version and the flags

-- the version and the flags that were read
pub record FlagsTaken (bytes : List ℕ) (at flags next : ℕ) : Type 0 where
  pub version : ℕ
  pub between : ℕ
  pub first : Takes bytes at (word version) between
  pub second : Takes bytes between (word flags) next
  pub low : 2 ≤ version
  pub high : version ≤ 3
  pub fit : are_flags version flags ≡ true

pub flags_take : (bytes : List ℕ) (at flags next : ℕ) → IsBytes bytes → flags_at bytes at ≡ Ok (flags, next) → FlagsTaken bytes at flags next
unfolding flags_at
flags_take bytes at flags next fits e =
    let b = bind_ok (number_where (λ n. leb 2 n && leb n 3) Short BadVersion 4 bytes at) (λ version. number_where (are_flags version.0) Short BadFlags 4 bytes version.1) (flags, next) e in
    let v = where_takes (λ n. leb 2 n && leb n 3) Short BadVersion 4 (2 ^ 32) word words bytes at b.0.0 b.0.1 fits b.1 in
    let f = where_takes (are_flags b.0.0) Short BadFlags 4 (2 ^ 32) word words bytes b.0.1 flags next fits b.2 in
    let range = and_parts _ _ v.1 in
    record { version = b.0.0; between = b.0.1; first = v.0; second = f.0; low = leb-true _ _ range.0; high = leb-true _ _ range.1; fit = f.1 }

small_kind : (i o : Option (List Symbol)) → (version_of i o < 2 ^ 32) × (flags_of i o < 2 ^ 32) × ((leb 2 (version_of i o) && leb (version_of i o) 3) ≡ true)
small_kind None None = (omega arith, omega arith, refl)
small_kind None (Some u) = (omega arith, omega arith, refl)
small_kind (Some t) None = (omega arith, omega arith, refl)
small_kind (Some t) (Some u) = (omega arith, omega arith, refl)

pub flags_again : (i o : Option (List Symbol)) (bytes : List ℕ) (at : ℕ) (rest : List ℕ) → at ≤ length bytes → drop at bytes ≡ word (version_of i o) ++ (word (flags_of i o) ++ rest) → Reads bytes (flags_at bytes at) (flags_of i o) rest
unfolding flags_at
flags_again i o bytes at rest within e =
    let small = small_kind i o in
    let v = where_again (λ n. leb 2 n && leb n 3) Short BadVersion 4 (2 ^ 32) word words bytes at (version_of i o) (word (flags_of i o) ++ rest) within small.0 small.2 e in
    let f = where_again (are_flags (version_of i o)) Short BadFlags 4 (2 ^ 32) word words bytes v.next (flags_of i o) rest v.within small.1 (kind_fits i o) v.left in
    record { next = f.next; gives = rw (v.gives, f.gives) refl; left = f.left; within = f.within }
