-- Keys, which stand for weights where one type serves all arc types.
use Rattle.std.specs.declared.cmp.Ordering.{Ordering}
use Rattle.std.specs.Ordering.{nat_cmp, int_cmp, ordering_then}
use Rattle.fst_semiring.specs.declared.key.Key.{Key}
use Rattle.fst_semiring.specs.Cost.{Cost, class_of, first_of, second_of}

-- the key of a value: its class and its two numbers
abbrev pub key_of : Cost → Key
key_of v = record { class = class_of v; first = first_of v; second = second_of v }

-- keys compare by class, then by the first number, then by the second
abbrev pub key_cmp : Key → Key → Ordering
key_cmp a b = ordering_then (nat_cmp a.class b.class) (ordering_then (int_cmp a.first b.first) (int_cmp a.second b.second))
