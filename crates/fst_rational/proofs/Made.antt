-- What holds of the machine of a construction holds of what was made.
use Rattle.std.proofs.Common.{◌≡◌, Ok, Err, IfOk, sym, subst}
use Rattle.std.specs.Prelude.{Result}

pub made : {X E M : Type 0} (seen : X → M) {m : M} (P : M → Type 0) (r : Result X E) → IfOk r (λ x. seen x ≡ m) → P m → IfOk r (λ x. P (seen x))
made seen P (Ok x) is p = subst P (sym is) p
made seen P (Err e) is p = tt
