use Rattle.std.proofs.Common.{◌⊎◌, inl, inr, Bool, true, false, ◌≡◌, refl}
use Rattle.fst_delayed.proofs.delayed.Delayed.expand.Goals as goal

by_cases : {X Y : Type 0} (b : Bool) → (b ≡ true → X) → (b ≡ false → Y) → X ⊎ Y
by_cases true x y = inl (x refl)
by_cases false x y = inr (y refl)

pub expand-requires-clause-sorted : goal.expand-requires-clause-sorted
expand-requires-clause-sorted g c = by_cases c.self.inside.by_output c.self.invariant.0 c.self.invariant.1
