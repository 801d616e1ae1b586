use Rattle.std.proofs.Common.{◌≡◌, ◌+◌, ◌<◌, ◌^◌, drop}
use Rattle.std.specs.Char.{is_ascii_digit}
use Rattle.std.specs.List.{prefix_len}
use Rattle.fst_text.specs.Leading.{leading_number}
use Rattle.fst_text.proofs.field.leading_digits.Given as goal

-- what is counted so far and what is left to count are the whole, and the digits that are left complete the number so far
abbrev pub invariant-loop-i : goal.invariant-loop-i
invariant-loop-i l = record {
  counted : l.i + prefix_len is_ascii_digit (drop l.i l.text) ≡ prefix_len is_ascii_digit l.text;
  read : leading_number l.n (drop l.i l.text) ≡ leading_number 0 l.text;
  small : l.n < 10 ^ l.i;
}
