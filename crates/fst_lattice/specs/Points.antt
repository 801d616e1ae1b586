-- That names of a lattice can be compared, and the number by which one is found.
use Rattle.std.proofs.Common.{◌≡◌, ℕ, ◌+◌, ◌*◌, ◌%◌, ◌^◌, Bool, true, ◌&&◌, eqb, refl, subst}
use Rattle.std.specs.Bool.{Decides}
use Rattle.std.proofs.lemmas.Bool.{and_parts, eq-eqb, eqb-true}
use Rattle.fst_delayed.specs.Handed.{Name, same_decides, same_name}
use Rattle.fst_lattice.specs.Lattice.{Point}

-- what `==` answers of names of a lattice
abbrev pub same_point : Point (Name ℕ ℕ) → Point (Name ℕ ℕ) → Bool
same_point a b = eqb a.position b.position && same_name a.name b.name

-- names that compare as equal are one
pub point_decides : (a b : Point (Name ℕ ℕ)) → Decides (same_point a b) (a ≡ b)
point_decides a b = (tells, λ e. subst (λ (p : Point (Name ℕ ℕ)). same_point a p ≡ true) e own)
  where
    tells : same_point a b ≡ true → a ≡ b
    tells e =
        let parts = and_parts (eqb a.position b.position) (same_name a.name b.name) e in
        let name = (same_decides a.name b.name).0 parts.1 in
        λ i. record { position = eqb-true a.position b.position parts.0 i; name = name i }

    own : same_point a a ≡ true
    own = rw (eq-eqb a.position a.position refl) ((same_decides a.name a.name).1 refl)

-- a number of a name, which others may have
unfoldable pub point_number : Point (Name ℕ ℕ) → ℕ
point_number p = (p.name.first + p.name.second * 4294967296 + (p.position * 2 % 2 ^ 64 + p.name.filter) % 2 ^ 64 * 11400714819323198485 % 2 ^ 64) % 2 ^ 64
