-- An arc that is read from all its bytes at once.
use Rattle.std.proofs.Common.{◌≡◌, ℕ, ◌+◌, ◌<◌, ◌≤◌, Bool, true, false, ltb, leb, List, length, drop, Result, Ok, refl, arith}
use Rattle.std.proofs.lemmas.Bool.{le-leb, le-ltb, lt-ltb}
use Rattle.byteorder.specs.Endian.{little_number}
use Rattle.fst_semiring.specs.declared.arc_type.ArcType.{ArcType}
use Rattle.fst_semiring.specs.Cost.{Cost, is_infinite}
use Rattle.fst_machine.specs.Machine.{greatest_label}
use Rattle.fst_bytes.specs.Reading.{non_zero_weight_at, file_weight_at, number_at, number_where, weight_at}
use Rattle.fst_binary.specs.Reading.{arc_at}
use Rattle.fst_binary.specs.declared.fault.BinaryKind.{BinaryKind}
use Rattle.fst_binary.specs.declared.fault.BinaryKind.TheVariants.{BadLabel, BadNext, BadWeight, Short}

-- a word that stands there and passes its test
word_is_read : (test : ℕ → Bool) (wrong : BinaryKind) (bytes : List ℕ) (at next n : ℕ) → next ≡ at + 4 → next ≤ length bytes → n ≡ little_number 4 (drop at bytes) → test n ≡ true → number_where test Short wrong 4 bytes at ≡ Ok (n, next)
unfolding number_where number_at
word_is_read test wrong bytes at next n e whole is passes =
    let long : ltb (length bytes) (at + 4) ≡ false = le-ltb _ _ (omega (arith, e, whole)) in
    rw (e, long, ← is, passes) refl

-- a weight that is no Zero
weight_is_read : (kind : ArcType) (bytes : List ℕ) (at next : ℕ) (v : Cost) → weight_at kind bytes at ≡ Ok (v, next) → is_infinite v ≡ false → non_zero_weight_at kind Short BadWeight bytes at ≡ Ok (v, next)
unfolding non_zero_weight_at file_weight_at
weight_is_read kind bytes at next v e other = rw (e, other) refl

pub whole_arc : (kind : ArcType) (states : ℕ) (bytes : List ℕ) (at after next i o n : ℕ) (v : Cost) → at + 8 ≤ after → next ≡ after + 4 → next ≤ length bytes
    → i ≡ little_number 4 (drop at bytes) → i ≤ greatest_label → o ≡ little_number 4 (drop (at + 4) bytes) → o ≤ greatest_label → weight_at kind bytes (at + 8) ≡ Ok (v, after) → is_infinite v ≡ false → n ≡ little_number 4 (drop after bytes) → n < states
    → arc_at kind states bytes at ≡ Ok (record { ilabel = i; olabel = o; weight = v; next = n }, next)
unfolding arc_at
whole_arc kind states bytes at after next i o n v behind e whole i_is i_few o_is o_few weight other n_is below =
    let label = λ (x : ℕ). leb x greatest_label in
    let first = word_is_read label BadLabel bytes at (at + 4) i refl (omega (arith, behind, e, whole)) i_is (le-leb _ _ i_few) in
    let second = word_is_read label BadLabel bytes (at + 4) (at + 8) o (omega arith) (omega (arith, behind, e, whole)) o_is (le-leb _ _ o_few) in
    let third = weight_is_read kind bytes (at + 8) after v weight other in
    let fourth = word_is_read (λ x. ltb x states) BadNext bytes after next n e whole n_is (lt-ltb _ _ below) in
    rw (first, second, third, fourth) refl

-- the same by another name of the offset after it
pub same_place : {X E : Type 0} (read : Result (X × ℕ) E) (x : X) (m n : ℕ) → m ≡ n → read ≡ Ok (x, m) → read ≡ Ok (x, n)
same_place read x m n e h = rw (← e) h
