-- What is said of a field that is wrong, and of a machine that is not decoded.
use Rattle.std.specs.Prelude.{ℕ, List, [], ◌∷◌, codes}
use Rattle.std.specs.Fmt.{decimal}
use Rattle.std.specs.List.{concat}
use Rattle.fst_codex.specs.declared.fault.CodexKind.{CodexKind}
use Rattle.fst_codex.specs.declared.fault.CodexKind.TheVariants as fields
use Rattle.fst_codex.specs.declared.decoding.DecodeFault.{DecodeFault}
use Rattle.fst_codex.specs.declared.decoding.DecodeFault.TheVariants as decoding

abbrev pub reason_of : CodexKind → List ℕ
reason_of fields.Short = codes "too short"
reason_of fields.BadMagic = codes "bad magic number"
reason_of fields.UnknownArcType = codes "unknown arc type"
reason_of fields.BadFlags = codes "bad flags"
reason_of fields.BadCount = codes "bad count"
reason_of fields.BadLabel = codes "bad label"
reason_of fields.BadWeight = codes "bad weight"
reason_of fields.Extra = codes "extra bytes"
reason_of fields.Memory = codes "out of memory"

-- why the machine is not decoded
abbrev pub decode_text : DecodeFault → List ℕ
decode_text (decoding.NotAcceptor state place) = concat (codes "not an acceptor at state " ∷ decimal state ∷ codes " arc " ∷ decimal place ∷ [])
decode_text (decoding.NotInCodex label) = concat (codes "label " ∷ decimal label ∷ codes " is not in the codex" ∷ [])
decode_text (decoding.Overflow state) = concat (codes "number too large at state " ∷ decimal state ∷ [])
decode_text decoding.Memory = codes "out of memory"
