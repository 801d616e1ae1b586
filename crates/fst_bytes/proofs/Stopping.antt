-- What a function gives that may run out of memory beside, as a fault of the file.
use Rattle.std.proofs.Common.{Result, Err, refl, inl, inr}
use Rattle.fst_fields.specs.Reading.{Gives}
use Rattle.fst_bytes.specs.declared.fault.FileFault.{FileFault}
use Rattle.fst_bytes.specs.declared.fault.Stopped.{Stopped}
use Rattle.fst_bytes.specs.declared.fault.Stopped.TheVariants.{At, Memory}
use Rattle.fst_bytes.specs.Stopping.{Stops, fault_of}

pub gives_of : {X Y K : Type 0} (memory : K) (view : X → Y) (stopped : Stopped K) (read : Result Y (FileFault K)) → Stops stopped read → Gives (record { offset = 0; kind = memory }) view (Err (fault_of memory stopped)) read
gives_of memory view (At fault) read h = inr h
gives_of memory view Memory read h = inl refl
