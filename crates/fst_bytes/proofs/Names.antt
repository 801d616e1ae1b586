-- Names that are read are those that stand there.
use Rattle.std.proofs.Common.{◌≡◌, ℕ, ◌+◌, ◌^◌, ◌<◌, ◌≤◌, Bool, true, false, cond, ltb, eqb, List, [], ◌∷◌, ◌++◌, length, take, drop, Option, Some, None, Ok, refl, sym, ap, subst, ◌∙◌, append_assoc, arith}
use Rattle.std.specs.Prelude.{bytes_eq}
use Rattle.std.specs.Option.{ok_or}
use Rattle.std.specs.List.{find, list_any}
use Rattle.std.proofs.lemmas.Bool.{ltb-false, le-ltb}
use Rattle.std.proofs.lemmas.List.{length-drop, length-take, take_at}
use Rattle.std.proofs.lemmas.Slice.Eq.{bytes_eq-Decides}
use Rattle.fst_semiring.specs.declared.arc_type.ArcType.{ArcType}
use Rattle.fst_semiring.specs.declared.arc_type.ArcType.TheVariants.{Boolean, Tropical, MinMax, Lexicographic}
use Rattle.fst_semiring.specs.Names.{known, name_of}
use Rattle.fst_bytes.specs.declared.fault.FileFault.{FileFault}
use Rattle.fst_bytes.specs.Spelling.{text, word}
use Rattle.fst_fields.specs.Reading.{◌>>=◌}
use Rattle.fst_bytes.specs.Reading.{named_at, number_where, part_at}
use Rattle.fst_bytes.proofs.Numbers.{where_again, where_takes, words}
use Rattle.fst_bytes.proofs.Steps.{IsBytes, Reads, Takes, Takes-front, Takes-then, bind_ok, done, ends_within, guard_ok, ok_is, past}

pub part_takes : {K : Type 0} (short : K) (count : ℕ) (bytes : List ℕ) (at : ℕ) (part : List ℕ) (next : ℕ) → part_at short count bytes at ≡ Ok (part, next) → Takes bytes at part next × (length part ≡ count)
unfolding part_at
part_takes {K} short count bytes at part next e =
    let g = guard_ok (ltb (length bytes) (at + count)) (Ok (take count (drop at bytes), at + count)) (record { offset = length bytes; kind = short }) (part, next) e in
    let whole : at + count ≤ length bytes = ltb-false _ _ g.0 in
    let read : (take count (drop at bytes), at + count) ≡ (part, next) = ok_is {A = List ℕ × ℕ} {E = FileFault K} _ _ g.1 in
    let len : length (take count (drop at bytes)) ≡ count = omega (arith, length-take count (drop at bytes), length-drop at bytes, whole) in
    subst (λ (p : List ℕ × ℕ). Takes bytes at p.0 p.1 × (length p.0 ≡ count)) read (Takes-front bytes at count whole, len)

pub part_again : {K : Type 0} (short : K) (bytes : List ℕ) (at : ℕ) (part rest : List ℕ) → at ≤ length bytes → drop at bytes ≡ part ++ rest → Reads bytes (part_at short (length part) bytes at) part rest
unfolding part_at
part_again short bytes at part rest within e =
    let ends = ends_within bytes at part rest within e in
    let whole : ltb (length bytes) (at + length part) ≡ false = le-ltb _ _ ends in
    let value : take (length part) (drop at bytes) ≡ part = ap (take (length part)) e ∙ take_at part rest (length part) refl in
    record { next = at + length part; gives = rw (whole, value) refl; left = past bytes at part rest (length part) refl e; within = ends }

pub ok_or_is : {A E : Type 0} (o : Option A) (d : E) (y : A) → ok_or o d ≡ Ok y → o ≡ Some y
ok_or_is None d y e = absurd cc
ok_or_is (Some x) d y e = cc

found_or_later : {A : Type 0} (test : A → Bool) (x y : A) (later : Option A) (b : Bool) → test x ≡ b → (later ≡ Some y → test y ≡ true) → cond b (Some x) later ≡ Some y → test y ≡ true
found_or_later {A} test x y later true passes next e = let same : x ≡ y = cc in subst (λ (z : A). test z ≡ true) same passes
found_or_later test x y later false fails next e = next e

-- what is found passes the test
pub found_passes : {A : Type 0} (test : A → Bool) (xs : List A) (y : A) → find test xs ≡ Some y → test y ≡ true
found_passes test [] y e = absurd cc
found_passes test (x ∷ xs) y e = found_or_later test x y (find test xs) (test x) refl (found_passes test xs y) e

pub named_takes : {A K : Type 0} (name : A → List ℕ) (known : List A) (short wrong : K) (bytes : List ℕ) (at : ℕ) (x : A) (next : ℕ) → IsBytes bytes → named_at name known short wrong bytes at ≡ Ok (x, next) → Takes bytes at (text (name x)) next × ((test : A → Bool) × (find test known ≡ Some x))
unfolding named_at
named_takes {A} {K} name known short wrong bytes at x next fits e =
    let fault : FileFault K = record { offset = at; kind = wrong } in
    let named = λ (part : List ℕ × ℕ). ok_or (find (λ y. bytes_eq (name y) part.0) known) fault >>= λ found. done {A = A × ℕ} {E = FileFault K} (found, part.1) in
    let b = bind_ok (number_where (λ n. list_any (λ y. eqb (length (name y)) n) known) short wrong 4 bytes at) (λ n. part_at short n.0 bytes n.1 >>= named) (x, next) e in
    let c = bind_ok (part_at short b.0.0 bytes b.0.1) named (x, next) b.2 in
    let d = bind_ok (ok_or (find (λ y. bytes_eq (name y) c.0.0) known) fault) (λ found. Ok (found, c.0.1)) (x, next) c.2 in
    let number = (where_takes (λ n. list_any (λ y. eqb (length (name y)) n) known) short wrong 4 (2 ^ 32) word words bytes at b.0.0 b.0.1 fits b.1).0 in
    let part = part_takes short b.0.0 bytes b.0.1 c.0.0 c.0.1 c.1 in
    let found = ok_or_is _ fault d.0 d.1 in
    let is : name d.0 ≡ c.0.0 = (bytes_eq-Decides (name d.0) c.0.0).0 (found_passes (λ y. bytes_eq (name y) c.0.0) known d.0 found) in
    let both : Takes bytes at (word b.0.0 ++ c.0.0) c.0.1 = Takes-then bytes at (word b.0.0) b.0.1 c.0.0 c.0.1 number part.0 in
    let whole : Takes bytes at (text (name d.0)) c.0.1 = rw is (subst (λ (n : ℕ). Takes bytes at (word n ++ c.0.0) c.0.1) (sym part.1) both) in
    subst (λ (p : A × ℕ). Takes bytes at (text (name p.0)) p.1 × ((test : A → Bool) × (find test known ≡ Some p.0))) (ok_is {A = A × ℕ} {E = FileFault K} (d.0, c.0.1) (x, next) d.2) (whole, (λ y. bytes_eq (name y) c.0.0, found))

pub named_again : {A K : Type 0} (name : A → List ℕ) (known : List A) (short wrong : K) (bytes : List ℕ) (at : ℕ) (x : A) (rest : List ℕ) → at ≤ length bytes → length (name x) < 2 ^ 32 → list_any (λ y. eqb (length (name y)) (length (name x))) known ≡ true → find (λ y. bytes_eq (name y) (name x)) known ≡ Some x
    → drop at bytes ≡ text (name x) ++ rest → Reads bytes (named_at name known short wrong bytes at) x rest
unfolding named_at
named_again name known short wrong bytes at x rest within few has is e =
    let apart : drop at bytes ≡ word (length (name x)) ++ (name x ++ rest) = e ∙ append_assoc (word (length (name x))) (name x) rest in
    let number = where_again (λ n. list_any (λ y. eqb (length (name y)) n) known) short wrong 4 (2 ^ 32) word words bytes at (length (name x)) (name x ++ rest) within few has apart in
    let part = part_again short bytes number.next (name x) rest number.within number.left in
    record { next = part.next; gives = rw (number.gives, part.gives, is) refl; left = part.left; within = part.within }

found_only : {A : Type 0} (b : Bool) (k x : A) → cond b (Some k) None ≡ Some x → k ≡ x
found_only true k x e = cc
found_only false k x e = absurd cc

-- of one thing that one is found
pub found_alone : {A : Type 0} (test : A → Bool) (k x : A) → find test (k ∷ []) ≡ Some x → k ≡ x
found_alone test k x e = found_only (test k) k x e

-- ---- the names of the arc types

pub name_is_short : (kind : ArcType) → length (name_of kind) < 2 ^ 32
name_is_short Boolean = omega arith
name_is_short Tropical = omega arith
name_is_short MinMax = omega arith
name_is_short Lexicographic = omega arith

-- among these an arc type is found by its name
pub record IsNamed (kinds : List ArcType) (kind : ArcType) : Type 0 where
  pub has : list_any (λ k. eqb (length (name_of k)) (length (name_of kind))) kinds ≡ true
  pub is : find (λ k. bytes_eq (name_of k) (name_of kind)) kinds ≡ Some kind

-- an arc type by itself, and among all four
pub named_alone : (kind : ArcType) → IsNamed (kind ∷ []) kind
named_alone Boolean = record { has = refl; is = refl }
named_alone Tropical = record { has = refl; is = refl }
named_alone MinMax = record { has = refl; is = refl }
named_alone Lexicographic = record { has = refl; is = refl }

pub named_of_all : (kind : ArcType) → IsNamed known kind
named_of_all Boolean = record { has = refl; is = refl }
named_of_all Tropical = record { has = refl; is = refl }
named_of_all MinMax = record { has = refl; is = refl }
named_of_all Lexicographic = record { has = refl; is = refl }
