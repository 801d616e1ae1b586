use Rattle.std.proofs.Common.{◌≡◌, ◌-◌, ℕ, List, length, take, drop, w64, ap, ◌∙◌, arith}
use Rattle.std.specs.Int.{cast_signed}
use Rattle.std.proofs.lemmas.Int.{to_z-of_z}
use Rattle.std.proofs.lemmas.List.{take_all, length-drop}
use Rattle.byteorder.specs.Endian.{little_number}
use Rattle.fst_bytes.specs.Reading.{integer_at}
use Rattle.fst_bytes.proofs.weight_field.read_integer.Goals as goal

pub returns : goal.returns
unfolding integer_at
returns c =
    let whole : take (length c.args.bytes.now - c.args.at) (drop c.args.at c.args.bytes.now) ≡ drop c.args.at c.args.bytes.now = take_all (length c.args.bytes.now - c.args.at) (drop c.args.at c.args.bytes.now) (omega (arith, length-drop c.args.at c.args.bytes.now)) in
    to_z-of_z w64 c.read_i64.result (record { sfits = c.read_i64.type_inv }) ∙ c.read_i64.ensures ∙ ap (λ (xs : List ℕ). cast_signed w64 (little_number 8 xs)) whole
