-- From a refusal that was to tell a fault to what its function has to give.
use Rattle.std.proofs.Common.{◌≡◌, ◌⊎◌, Result, Err, refl, sym, ap, subst, inl, inr}
use Rattle.fst_fields.specs.Reading as reading
use Rattle.fst_verbs.specs.Causes.{Answer, Fault, faulty, no_memory, refused}
use Rattle.fst_verbs.specs.Given.{telling}
use Rattle.fst_verbs.specs.Meaning.{Declines, Stops}
use Rattle.fst_verbs.specs.Told.{Fails, IsMade, IsMemory, Tells}
use Rattle.fst_verbs.specs.declared.refusal.Refusal.{Refusal}
use Rattle.fst_verbs.specs.declared.refusal.Refusal.TheVariants as refusals

-- it tells the answer, or is out of memory
pub made_tells : (answer : Answer) (refusal : Refusal) → IsMade answer refusal → IsMemory refusal ⊎ Tells answer refusal
made_tells answer refusals.Memory made = inl refl
made_tells answer refusals.Usage made = inr made
made_tells answer (refusals.Told status line) made = inr made

-- out of memory has its own answer
pub memory_tells : (refusal : Refusal) → IsMemory refusal → Tells no_memory refusal
memory_tells refusal e = subst (λ (r : Refusal). Tells no_memory r) (sym e) (record { status = refl; line = refl })

-- a fault that reading gives
pub fails_made : {Y : Type 0} (fault : Fault) (refusal : Refusal) (read : Result Y Fault) → read ≡ Err fault → IsMade (refused (faulty fault)) refusal → Fails refusal read
fails_made fault refusal read is made = go (made_tells (refused (faulty fault)) refusal made) where
  go : IsMemory refusal ⊎ Tells (refused (faulty fault)) refusal → Fails refusal read
  go (inl memory) = inl memory
  go (inr tells) = inr (fault, is, tells)

-- a fault of a reader below, or of memory
pub fails_read : {Y E : Type 0} (tell : E → Fault) (out fault : E) (read : Result Y E) (refusal : Refusal) → reading.Fails out fault read → IsMade (refused (faulty (tell fault))) refusal → (fault ≡ out → refusal ≡ refusals.Memory) → Fails refusal (telling tell read)
fails_read tell out fault read refusal (inl e) made memory = inl (memory e)
fails_read tell out fault read refusal (inr is) made memory = fails_made (tell fault) refusal (telling tell read) (ap (telling tell) is) made

-- a fault that stops a command
pub declines_made : (stops : Stops) (fault : Fault) (refusal : Refusal) → stops fault → IsMade (refused (faulty fault)) refusal → Declines stops refusal
declines_made stops fault refusal holds made = go (made_tells (refused (faulty fault)) refusal made) where
  go : IsMemory refusal ⊎ Tells (refused (faulty fault)) refusal → Declines stops refusal
  go (inl memory) = inl memory
  go (inr tells) = inr (fault, holds, tells)
