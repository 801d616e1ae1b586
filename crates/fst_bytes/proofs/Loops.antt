-- Reading one thing after the other, as a loop does, and the bytes that they take.
use Rattle.std.proofs.Common.{◌≡◌, ℕ, zero, suc, ◌+◌, ◌-◌, ◌<◌, ◌≤◌, List, [], ◌∷◌, ◌++◌, length, drop, Result, Ok, Err, refl, sym, ap, subst, ◌∙◌, append_assoc, arith}
use Rattle.std.specs.List.{AllByRecursion, flat_map}
use Rattle.std.proofs.lemmas.List.{append-nil}
use Rattle.fst_fields.specs.Reading.{◌>>=◌}
use Rattle.fst_bytes.specs.Reading.{many_at, with_front}
use Rattle.fst_bytes.proofs.Steps.{Reads, Takes, Takes-none, Takes-then, bind_ok, ok_is}

-- one thing more is read
pub front_grows : {X E : Type 0} (front : List X) (x : X) (read : Result (List X × ℕ) E) → with_front front (read >>= λ y. Ok (x ∷ y.0, y.1)) ≡ with_front (front ++ x ∷ []) read
front_grows {X} front x (Ok y) = ap (λ (xs : List X). Ok (xs, y.1)) (simp append_assoc)
front_grows front x (Err f) = refl

-- nothing is left to be read
pub front_ends : {X E : Type 0} (front : List X) (at : ℕ) → with_front {E = E} front (Ok ([], at)) ≡ Ok (front, at)
front_ends {X} front at = ap (λ (xs : List X). Ok (xs, at)) (append-nil front)

-- ---- many things, in a loop

-- one thing more is read
pub many_go_on : {X E : Type 0} (read : ℕ → Result (X × ℕ) E) (front : List X) (count i at : ℕ) (x : X) (after : ℕ) (total : Result (List X × ℕ) E) → i < count → read at ≡ Ok (x, after)
    → with_front front (many_at read (count - i) at) ≡ total → with_front (front ++ x ∷ []) (many_at read (count - (i + 1)) after) ≡ total
unfolding many_at
many_go_on read front count i at x after total more h so_far =
    let k : count - i ≡ suc (count - (i + 1)) = omega arith in
    let one : with_front front (many_at read (count - i) at) ≡ with_front (front ++ x ∷ []) (many_at read (count - (i + 1)) after) = rw (k, h) (front_grows front x (many_at read (count - (i + 1)) after)) in
    sym one ∙ so_far

-- the fault of one thing is the fault of all
pub many_end : {X E : Type 0} (read : ℕ → Result (X × ℕ) E) (front : List X) (count i at : ℕ) (f : E) (total : Result (List X × ℕ) E) → i < count → read at ≡ Err f → with_front front (many_at read (count - i) at) ≡ total → total ≡ Err f
unfolding many_at
many_end read front count i at f total more h so_far =
    let k : count - i ≡ suc (count - (i + 1)) = omega arith in
    let one : with_front front (many_at read (count - i) at) ≡ Err f = rw (k, h) refl in
    sym so_far ∙ one

-- nothing is left
pub many_are_read : {X E : Type 0} (read : ℕ → Result (X × ℕ) E) (front : List X) (count i at : ℕ) (total : Result (List X × ℕ) E) → count ≤ i → with_front front (many_at read (count - i) at) ≡ total → total ≡ Ok (front, at)
unfolding many_at
many_are_read read front count i at total none so_far =
    let k : count - i ≡ 0 = omega arith in
    let one : with_front front (many_at read (count - i) at) ≡ Ok (front, at) = rw k (front_ends front at) in
    sym so_far ∙ one

-- ---- and the bytes that they take

-- where each thing that is read stands, so do many
pub many_takes : {X E : Type 0} (read : ℕ → Result (X × ℕ) E) (fields : X → List ℕ) (Good : X → Type 0) (bytes : List ℕ) → ((at : ℕ) (x : X) (next : ℕ) → at ≤ length bytes → read at ≡ Ok (x, next) → Takes bytes at (fields x) next × Good x)
    → (count at : ℕ) (xs : List X) (next : ℕ) → at ≤ length bytes → many_at read count at ≡ Ok (xs, next) → Takes bytes at (flat_map fields xs) next × AllByRecursion Good xs × (length xs ≡ count)
unfolding many_at
many_takes {X} {E} read fields Good bytes one zero at xs next within e =
    subst (λ (p : List X × ℕ). Takes bytes at (flat_map fields p.0) p.1 × AllByRecursion Good p.0 × (length p.0 ≡ 0)) (ok_is {A = List X × ℕ} {E = E} ([], at) (xs, next) e) (Takes-none bytes at within, tt, refl)
many_takes {X} {E} read fields Good bytes one (suc count) at xs next within e =
    let b = bind_ok (read at) (λ first. many_at read count first.1 >>= λ others. Ok (first.0 ∷ others.0, others.1)) (xs, next) e in
    let c = bind_ok (many_at read count b.0.1) (λ others. Ok (b.0.0 ∷ others.0, others.1)) (xs, next) b.2 in
    let t0 = one at b.0.0 b.0.1 within b.1 in
    let t1 = many_takes read fields Good bytes one count b.0.1 c.0.0 c.0.1 t0.0.within c.1 in
    let both = Takes-then bytes at (fields b.0.0) b.0.1 (flat_map fields c.0.0) c.0.1 t0.0 t1.0 in
    subst (λ (p : List X × ℕ). Takes bytes at (flat_map fields p.0) p.1 × AllByRecursion Good p.0 × (length p.0 ≡ suc count)) (ok_is {A = List X × ℕ} {E = E} (b.0.0 ∷ c.0.0, c.0.1) (xs, next) c.2) (both, (t0.1, t1.1), ap suc t1.2)

-- where each thing that stands there is read, so are many
pub many_again : {X E : Type 0} (read : ℕ → Result (X × ℕ) E) (fields : X → List ℕ) (Good : X → Type 0) (bytes : List ℕ) → ((at : ℕ) (x : X) (rest : List ℕ) → at ≤ length bytes → Good x → drop at bytes ≡ fields x ++ rest → Reads bytes (read at) x rest)
    → (at : ℕ) (xs : List X) (rest : List ℕ) → at ≤ length bytes → AllByRecursion Good xs → drop at bytes ≡ flat_map fields xs ++ rest → Reads bytes (many_at read (length xs) at) xs rest
unfolding many_at
many_again read fields Good bytes one at [] rest within good e = record { next = at; gives = refl; left = e; within = within }
many_again read fields Good bytes one at (x ∷ xs) rest within good e =
    let apart : drop at bytes ≡ fields x ++ (flat_map fields xs ++ rest) = e ∙ append_assoc (fields x) (flat_map fields xs) rest in
    let first = one at x (flat_map fields xs ++ rest) within good.0 apart in
    let others = many_again read fields Good bytes one first.next xs rest first.within good.1 first.left in
    record { next = others.next; gives = rw (first.gives, others.gives) refl; left = others.left; within = others.within }
