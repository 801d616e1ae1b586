-- What is said of a fault: of a text the line, and what is wrong with it; of a machine that is not printed, why.
use Rattle.std.specs.Prelude.{ℕ, List, [], ◌∷◌, codes}
use Rattle.std.specs.Fmt.{decimal}
use Rattle.std.specs.List.{concat}
use Rattle.fst_text.specs.declared.fault.TextFault.{TextFault}
use Rattle.fst_text.specs.declared.fault.TextFault.TheVariants as text
use Rattle.fst_text.specs.declared.fault.PrintFault.{PrintFault}
use Rattle.fst_text.specs.declared.fault.PrintFault.TheVariants as printing

-- the line, from 1; without memory there is none
abbrev pub line_of : TextFault → ℕ
line_of (text.BadColumns line) = line
line_of (text.BadState line) = line
line_of (text.BadLabel line) = line
line_of (text.UnknownSymbol line) = line
line_of (text.BadWeight line) = line
line_of (text.TooManyStates line) = line
line_of (text.TooManyArcs line) = line
line_of text.Memory = 0

abbrev pub reason_of : TextFault → List ℕ
reason_of (text.BadColumns line) = codes "wrong number of columns"
reason_of (text.BadState line) = codes "bad state"
reason_of (text.BadLabel line) = codes "bad label"
reason_of (text.UnknownSymbol line) = codes "unknown symbol"
reason_of (text.BadWeight line) = codes "bad weight"
reason_of (text.TooManyStates line) = codes "too many states"
reason_of (text.TooManyArcs line) = codes "too many arcs"
reason_of text.Memory = codes "out of memory"

-- why the machine is not printed
abbrev pub print_text : PrintFault → List ℕ
print_text (printing.NotAcceptor state place) = concat (codes "not an acceptor at state " ∷ decimal state ∷ codes " arc " ∷ decimal place ∷ [])
print_text (printing.UnknownSymbol label) = concat (codes "no symbol for label " ∷ decimal label ∷ [])
print_text printing.Memory = codes "out of memory"
