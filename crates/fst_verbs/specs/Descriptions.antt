-- The text that is shown of a machine: a line for each count and property. (OpenFst manual, "Info", lists them.
-- The names of the lines and their order are this project's own.)
use Rattle.std.specs.Prelude.{ℕ, List, [], ◌∷◌, Option, Some, None, Bool, if◌then◌else◌, codes}
use Rattle.std.specs.Fmt.{decimal}
use Rattle.std.specs.List.{concat}
use Rattle.fst_semiring.specs.Names.{name_of}
use Rattle.fst_trim.specs.declared.summary.Info.{Info}

-- a line: what it is of, a tab, and the value
abbrev pub named_line : List ℕ → List ℕ → List ℕ
named_line name value = concat (name ∷ codes "\t" ∷ value ∷ codes "\n" ∷ [])

-- the start, if there is one
abbrev pub start_text : Option ℕ → List ℕ
start_text None = codes "none"
start_text (Some state) = decimal state

-- whether a property holds
abbrev pub answer_text : Bool → List ℕ
answer_text holds = if holds then codes "yes" else codes "no"

-- the lines of a machine, in their order
abbrev pub info_lines : Info → List (List ℕ)
info_lines info =
    named_line (codes "arc type") (name_of info.arc_type) ∷
    named_line (codes "states") (decimal info.states) ∷
    named_line (codes "arcs") (decimal info.arcs) ∷
    named_line (codes "start") (start_text info.start) ∷
    named_line (codes "final states") (decimal info.final_states) ∷
    named_line (codes "input epsilons") (decimal info.input_epsilons) ∷
    named_line (codes "output epsilons") (decimal info.output_epsilons) ∷
    named_line (codes "input/output epsilons") (decimal info.both_epsilons) ∷
    named_line (codes "accessible states") (decimal info.accessible) ∷
    named_line (codes "coaccessible states") (decimal info.coaccessible) ∷
    named_line (codes "connected states") (decimal info.connected) ∷
    named_line (codes "acceptor") (answer_text info.acceptor) ∷
    named_line (codes "input sorted") (answer_text info.input_sorted) ∷
    named_line (codes "output sorted") (answer_text info.output_sorted) ∷
    named_line (codes "deterministic") (answer_text info.deterministic) ∷
    []

-- the text of a machine
abbrev pub info_text : Info → List ℕ
info_text info = concat (info_lines info)
