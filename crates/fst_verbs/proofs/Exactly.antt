-- A command whose call answers exactly, memory apart: nothing stops it where the call makes something, and else what the
-- call tells does.
use Rattle.std.proofs.Common.{◌≡◌, ◌⊎◌, inl, inr, Result, Ok, Err, refl}
use Rattle.fst_verbs.specs.Causes.{Fault, faulty, refused}
use Rattle.fst_verbs.specs.Meaning.{Declines, Passes, Stops}
use Rattle.fst_verbs.specs.Told.{IsMade}
use Rattle.fst_verbs.specs.declared.refusal.Refusal.{Refusal}
use Rattle.fst_verbs.specs.declared.refusal.Refusal.TheVariants as refusals
use Rattle.fst_verbs.proofs.Refusing.{declines_made}

module _ {F : Type 0} (Holds Refuses : F → Type 0) (memory : F) (tell : F → Fault) where
  -- what stops the command: a fault that holds, told
  abbrev pub telling_stops : Stops
  telling_stops fault = (why : F) × Holds why × (fault ≡ tell why)

  pub exact_passes : {X : Type 0} (x : X) → ((why : F) → Holds why → Refuses why)
      → ((why : F) → Refuses why → (◌≡◌ {A = Result X F} (Ok x) (Err why)) ⊎ (◌≡◌ {A = Result X F} (Ok x) (Err memory))) → Passes telling_stops
  exact_passes {X} x to none fault (why, holds, is) = by (none why (to why holds))
    where
      by : (◌≡◌ {A = Result X F} (Ok x) (Err why)) ⊎ (◌≡◌ {A = Result X F} (Ok x) (Err memory)) → ⊥
      by (inl e) = cc
      by (inr e) = cc

  pub exact_declines : (why : F) (refusal : Refusal) → ((why : F) → Refuses why → Holds why) → Refuses why ⊎ (why ≡ memory)
      → IsMade (refused (faulty (tell why))) refusal → (why ≡ memory → refusal ≡ refusals.Memory) → Declines telling_stops refusal
  exact_declines why refusal back (inl refuses) made no_memory = declines_made telling_stops (tell why) refusal (why, back why refuses, refl) made
  exact_declines why refusal back (inr is) made no_memory = inl (no_memory is)
