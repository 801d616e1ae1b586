-- What a function gives that may run out of memory beside.
use Rattle.std.specs.Prelude.{◌≡◌, Result, Ok, Err}
use Rattle.fst_bytes.specs.declared.fault.FileFault.{FileFault}
use Rattle.fst_bytes.specs.declared.fault.Stopped.{Stopped}
use Rattle.fst_bytes.specs.declared.fault.Stopped.TheVariants.{At, Memory}

-- Reading stopped for the fault that it gives, or it ran out of memory, and it says which. So a fault of the bytes
-- never turns into one of memory.
abbrev pub Stops : {Y K : Type 0} → Stopped K → Result Y (FileFault K) → Type 0
Stops (At fault) read = read ≡ Err fault
Stops Memory read = Unit {0}

-- what a function returned, seen by view, is what reading gives, unless it ran out of memory
abbrev pub Answers : {X Y K : Type 0} → (X → Y) → Result X (Stopped K) → Result Y (FileFault K) → Type 0
Answers view (Ok x) read = read ≡ Ok (view x)
Answers view (Err stopped) read = Stops stopped read

-- the fault of a file, with the kind that says that there is no memory
abbrev pub fault_of : {K : Type 0} → K → Stopped K → FileFault K
fault_of memory (At fault) = fault
fault_of memory Memory = record { offset = 0; kind = memory }
