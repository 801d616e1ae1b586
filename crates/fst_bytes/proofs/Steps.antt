-- Steps of reading, and the bytes that they take.
use Rattle.std.proofs.Common.{◌≡◌, ℕ, ◌+◌, ◌-◌, ◌<◌, ◌≤◌, Bool, true, false, cond, List, [], ◌++◌, length, get_or, take, drop, Result, Ok, Err, refl, sym, ap, ◌∙◌, append_assoc, arith, inl, inr}
use Rattle.std.proofs.lemmas.Bool.{cases_lt}
use Rattle.std.proofs.lemmas.List.{drop-drop, drop_at, take-append-drop, length-append, length-drop, length-take, get_or-drop, get_or-take, get_or_past, append-nil, drop_all}
use Rattle.fst_fields.specs.Reading.{◌>>=◌}

abbrev pub IsBytes : List ℕ → Type 0
IsBytes bytes = (i : ℕ) → get_or bytes i 0 < 256

pub IsBytes-drop : (n : ℕ) (bytes : List ℕ) → IsBytes bytes → IsBytes (drop n bytes)
IsBytes-drop n bytes h i = rw get_or-drop (h (n + i))

pub IsBytes-take : (n : ℕ) (bytes : List ℕ) → IsBytes bytes → IsBytes (take n bytes)
IsBytes-take n bytes h i =
    elim (cases_lt i n) [
      | inl lt ↦ rw (get_or-take n bytes i 0 lt) (h i)
      | inr le ↦ rw (get_or_past (take n bytes) i 0 (omega (arith, length-take n bytes))) (omega arith)
    ]

-- the value of a step that did not fail
pub bind_ok : {A B E : Type 0} (r : Result A E) (f : A → Result B E) (y : B) → (r >>= f) ≡ Ok y → (x : A) × (r ≡ Ok x) × (f x ≡ Ok y)
bind_ok (Ok x) f y e = (x, refl, e)
bind_ok (Err d) f y e = absurd cc

abbrev pub done : {A E : Type 0} → A → Result A E
done x = Ok x

pub ok_is : {A E : Type 0} (x y : A) → done {A = A} {E = E} x ≡ done y → x ≡ y
ok_is x y e = cc

-- a test that did not fail
pub guard_ok : {A E : Type 0} (b : Bool) (r : Result A E) (d : E) (y : A) → cond b (Err d) r ≡ Ok y → (b ≡ false) × (r ≡ Ok y)
guard_ok true r d y e = absurd cc
guard_ok false r d y e = (refl, e)

pub guard_passed : {A E : Type 0} (b : Bool) (r : Result A E) (d : E) (y : A) → cond b r (Err d) ≡ Ok y → (b ≡ true) × (r ≡ Ok y)
guard_passed true r d y e = (refl, e)
guard_passed false r d y e = absurd cc

-- ---- what is read is what stands there

-- from an offset to the next stands this text
pub record Takes (bytes : List ℕ) (at : ℕ) (text : List ℕ) (next : ℕ) : Type 0 where
  pub within : next ≤ length bytes
  pub parts : drop at bytes ≡ text ++ drop next bytes

pub Takes-then : (bytes : List ℕ) (at : ℕ) (x : List ℕ) (mid : ℕ) (y : List ℕ) (next : ℕ) → Takes bytes at x mid → Takes bytes mid y next → Takes bytes at (x ++ y) next
Takes-then bytes at x mid y next p q = record { within = q.within; parts = p.parts ∙ ap (λ (t : List ℕ). x ++ t) q.parts ∙ sym (append_assoc x y (drop next bytes)) }

-- the first bytes from an offset on
pub Takes-front : (bytes : List ℕ) (at n : ℕ) → at + n ≤ length bytes → Takes bytes at (take n (drop at bytes)) (at + n)
Takes-front bytes at n within = record { within = within; parts = sym (take-append-drop n (drop at bytes)) ∙ ap (λ (t : List ℕ). take n (drop at bytes) ++ t) (drop-drop n at bytes) }

pub Takes-none : (bytes : List ℕ) (at : ℕ) → at ≤ length bytes → Takes bytes at [] at
Takes-none bytes at within = record { within = within; parts = refl }

-- all of the bytes
pub Takes-all : (bytes text : List ℕ) (next : ℕ) → Takes bytes 0 text next → next ≡ length bytes → bytes ≡ text
Takes-all bytes text next t e =
    let none : drop next bytes ≡ [] = drop_all next bytes (omega (arith, e)) in
    t.parts ∙ ap (λ (rest : List ℕ). text ++ rest) none ∙ append-nil text

-- ---- what stands there is read

-- reading gives this value, and these bytes are left
pub record Reads {X E : Type 0} (bytes : List ℕ) (read : Result (X × ℕ) E) (x : X) (rest : List ℕ) : Type 0 where
  pub next : ℕ
  pub gives : read ≡ Ok (x, next)
  pub left : drop next bytes ≡ rest
  pub within : next ≤ length bytes

-- the bytes after what stands at an offset
pub past : (bytes : List ℕ) (at : ℕ) (x rest : List ℕ) (n : ℕ) → length x ≡ n → drop at bytes ≡ x ++ rest → drop (at + n) bytes ≡ rest
past bytes at x rest n len e = sym (drop-drop n at bytes) ∙ ap (drop n) e ∙ drop_at x rest n len

-- what stands at an offset within the bytes ends within them
pub ends_within : (bytes : List ℕ) (at : ℕ) (x rest : List ℕ) → at ≤ length bytes → drop at bytes ≡ x ++ rest → at + length x ≤ length bytes
ends_within bytes at x rest within e =
    let n : length bytes - at ≡ length x + length rest = sym (length-drop at bytes) ∙ ap length e ∙ length-append x rest in
    omega (arith, n, within)

-- one step after the other
pub Reads-then : {X Y E : Type 0} (bytes : List ℕ) (read : Result (X × ℕ) E) (x : X) (mid : List ℕ) (f : X × ℕ → Result (Y × ℕ) E) (y : Y) (rest : List ℕ) → (r : Reads bytes read x mid) → Reads bytes (f (x, r.next)) y rest → Reads bytes (read >>= f) y rest
Reads-then bytes read x mid f y rest r s = record { next = s.next; gives = rw r.gives s.gives; left = s.left; within = s.within }
