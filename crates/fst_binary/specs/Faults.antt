-- What is said of a field that is wrong.
use Rattle.std.specs.Prelude.{ℕ, List, codes}
use Rattle.fst_bytes.specs.declared.fault.FileFault.{FileFault}
use Rattle.fst_binary.specs.declared.fault.BinaryKind.{BinaryKind}
use Rattle.fst_binary.specs.declared.fault.BinaryKind.TheVariants.{Short, BadMagic, UnknownFstType, UnknownArcType, BadVersion, BadFlags, BadStart}
use Rattle.fst_binary.specs.declared.fault.BinaryKind.TheVariants.{BadCount, BadLabel, BadNext, BadSymbols, BadWeight, Extra, Memory}

-- a fault of a file in the binary form
abbrev pub BinaryFault : Type 0
BinaryFault = FileFault BinaryKind

abbrev pub reason_of : BinaryKind → List ℕ
reason_of Short = codes "too short"
reason_of BadMagic = codes "bad magic number"
reason_of UnknownFstType = codes "unknown machine type"
reason_of UnknownArcType = codes "unknown arc type"
reason_of BadVersion = codes "bad version"
reason_of BadFlags = codes "bad flags"
reason_of BadStart = codes "bad start"
reason_of BadCount = codes "bad count"
reason_of BadSymbols = codes "bad symbols"
reason_of BadLabel = codes "bad label"
reason_of BadWeight = codes "bad weight"
reason_of BadNext = codes "bad next state"
reason_of Extra = codes "extra bytes"
reason_of Memory = codes "out of memory"
