-- A machine that is too large, or is not.
use Rattle.std.proofs.Common.{◌≡◌, Result, Ok, Err, refl, inl}
use Rattle.fst_semiring.specs.Cost.{Cost}
use Rattle.fst_machine.specs.Machine.{Machine}
use Rattle.fst_rational.specs.Faults.{size_text}
use Rattle.fst_rational.specs.Limits.{IsLimited}
use Rattle.fst_rational.specs.declared.fault.RationalFault.{RationalFault}
use Rattle.fst_rational.specs.declared.fault.RationalFault.TheVariants.{TooManyStates, TooManyArcs, Memory}
use Rattle.fst_verbs.specs.Causes.{faulty, refused, unmade}
use Rattle.fst_verbs.specs.Meaning.{Declines, Passes}
use Rattle.fst_verbs.specs.Rational.{IsPast, too_large}
use Rattle.fst_verbs.specs.Told.{IsMade}
use Rattle.fst_verbs.specs.declared.refusal.Refusal.{Refusal}
use Rattle.fst_verbs.specs.declared.refusal.Refusal.TheVariants as refusals
use Rattle.fst_verbs.proofs.Refusing.{declines_made}

not_both : {A E : Type 0} (r : Result A E) (x : A) (e : E) → r ≡ Ok x → r ≡ Err e → ⊥
not_both r x e is_ok is_err = cc

pub small_passes : {X : Type 0} (m : Machine Cost) (x : X) → IsLimited {X = X} m (Ok x) → Passes (too_large m)
small_passes {X} m x limits fault found = go found.0 found.1 where
  go : (size : RationalFault) → IsPast m size → ⊥
  go TooManyStates past = not_both {A = X} (Ok x) x TooManyStates refl (limits.states.1 past)
  go TooManyArcs past = not_both {A = X} (Ok x) x TooManyArcs refl (limits.arcs.1 past)
  go Memory past = past

pub large_declines : (X : Type 0) (m : Machine Cost) (size : RationalFault) (refusal : Refusal) → IsLimited {X = X} m (Err size) → IsMade (refused (faulty (unmade (size_text size)))) refusal → (size ≡ Memory → refusal ≡ refusals.Memory) → Declines (too_large m) refusal
large_declines X m TooManyStates refusal limits made memory = declines_made (too_large m) (unmade (size_text TooManyStates)) refusal (TooManyStates, limits.states.0 refl, refl) made
large_declines X m TooManyArcs refusal limits made memory = declines_made (too_large m) (unmade (size_text TooManyArcs)) refusal (TooManyArcs, limits.arcs.0 refl, refl) made
large_declines X m Memory refusal limits made memory = inl (memory refl)
