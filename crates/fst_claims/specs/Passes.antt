-- What contracts see of a pass.
use Rattle.std.specs.Prelude.{◌≡◌, ℕ, List}
use Rattle.fst_claims.specs.declared.view.View.{View}
use Rattle.fst_claims.specs.declared.table.Claims.{Claims}
use Rattle.fst_claims.specs.declared.table.Pass.{Pass}

-- what the pass knows
abbrev pub view : Pass → View
view p = p.seat.me.0

-- the codes that it won, in order
abbrev pub won : Pass → List ℕ
won p = p.seat.me.0.won

-- the places at which its claims looked and found a code, with the codes
abbrev pub found : Pass → List (ℕ × ℕ)
found p = p.seat.me.0.found

-- its parts
abbrev pub parts : Pass → ℕ
parts p = p.seat.me.0.parts

-- the pass is one of this table
abbrev pub IsPassOf : Claims → Pass → Type 0
IsPassOf t p = p.seat.table_id ≡ t.table.shared.table_id

-- it is still a pass of the same table
abbrev pub IsSamePass : Pass → Pass → Type 0
IsSamePass old new = new.seat.table_id ≡ old.seat.table_id
