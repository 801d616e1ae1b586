-- The names of a composition. (Mohri 2009, section 4.1: a state of the first machine, one of the second, and
-- the state of the epsilon filter.)
use Rattle.std.specs.Prelude.{ℕ, Bool, ◌+◌, ◌*◌, ◌&&◌, nat_lt, if◌then◌else◌}

-- A state of each machine, and the filter's state: 0, or 1 right after the second machine has gone alone.
pub record Name (N M : Type 0) : Type 0 where
  pub first : N
  pub second : M
  pub filter : ℕ

-- the name with these three parts
abbrev pub name_at : {N M : Type 0} → N → M → ℕ → Name N M
name_at p q f = record { first = p; second = q; filter = f }

-- whether the parts of a name have room in one number
abbrev pub has_room : Name ℕ ℕ → Bool
has_room n = nat_lt n.first 2147483648 && (nat_lt n.second 2147483648 && nat_lt n.filter 2)

-- the number by which a name is found: its parts side by side; 0 where they have no room
abbrev pub name_number : Name ℕ ℕ → ℕ
name_number n = if has_room n then 1 + n.first + n.second * 2147483648 + n.filter * 4611686018427387904 else 0
