-- What `==` answers of a state or none. (The laws of an impl cite specs alone, so the lemmas stand here.)
use Rattle.std.proofs.Common.{◌≡◌, ℕ, true, Option, None, Some, eqb, refl, ap}
use Rattle.std.specs.Option.{option_eq}
use Rattle.std.proofs.lemmas.Bool.{eq-eqb, eqb-true}

-- those that compare as equal are one
pub tells_state : (a b : Option ℕ) → option_eq eqb a b ≡ true → a ≡ b
tells_state None None e = refl
tells_state None (Some b) e = absurd (cc)
tells_state (Some a) None e = absurd (cc)
tells_state (Some a) (Some b) e = ap Some (eqb-true a b e)

pub own_state : (a : Option ℕ) → option_eq eqb a a ≡ true
own_state None = refl
own_state (Some a) = eq-eqb a a refl
