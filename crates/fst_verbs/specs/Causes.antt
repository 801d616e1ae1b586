-- Why a command is refused, the status that a run ends with, and the line that it shows. What is wrong with a content,
-- or why a machine is not made, is told by the crate that finds it.
use Rattle.std.specs.Prelude.{ℕ, List, [], ◌∷◌, ◌++◌, Option, Some, None, codes}
use Rattle.std.specs.Fmt.{decimal}
use Rattle.std.specs.List.{concat}
use Rattle.fst_semiring.specs.Names.{name_of}
use Rattle.fst_semiring.specs.declared.arc_type.ArcType.{ArcType}

-- what may be wrong with contents
pub data Fault : Type 0 where
  -- the content under the name is not of its form at a place, which is counted in this unit, for this reason
  misread : List ℕ → List ℕ → ℕ → List ℕ → Fault
  -- a machine or a codex has another arc type than the first machine
  kinds_differ : ArcType → ArcType → Fault
  -- the command has no result, for this reason
  unmade : List ℕ → Fault

-- the causes of a refusal that words and contents decide
pub data Cause : Type 0 where
  -- the content under the name is longer than what is read
  too_long : List ℕ → Cause
  -- a fault of the contents
  faulty : Fault → Cause

-- how a run ends
pub data Answer : Type 0 where
  -- the outputs stand; the status is that of what is made
  done : ℕ → Answer
  -- the words are not of the stated form
  usage : Answer
  -- the first cause that holds
  refused : Cause → Answer
  -- there was no memory
  no_memory : Answer
  -- the content under the name could not be read
  unread : List ℕ → Answer
  -- the output under the name could not be written
  unwritten : List ℕ → Answer

-- the status of a run
abbrev pub status_of : Answer → ℕ
status_of (done status) = status
status_of usage = 1
status_of (refused cause) = 1
status_of no_memory = 3
status_of (unread name) = 4
status_of (unwritten name) = 5

-- the line of a fault
abbrev pub fault_line : Fault → List ℕ
fault_line (misread name unit place reason) =
    concat (codes "fst: " ∷ name ∷ codes ": " ∷ unit ∷ codes " " ∷ decimal place ∷ codes ": " ∷ reason ∷ codes "\n" ∷ [])
fault_line (kinds_differ first other) = concat (codes "fst: arc types differ: " ∷ name_of first ∷ codes " and " ∷ name_of other ∷ codes "\n" ∷ [])
fault_line (unmade reason) = concat (codes "fst: " ∷ reason ∷ codes "\n" ∷ [])

-- the line of a cause
abbrev pub cause_line : Cause → List ℕ
cause_line (too_long name) = codes "fst: " ++ name ++ codes " is longer than 1342177280 bytes\n"
cause_line (faulty fault) = fault_line fault

-- the line that a run shows, if it shows one
abbrev pub line_of : Answer → Option (List ℕ)
line_of (done status) = None
line_of usage = Some (codes "fst: bad command line\n")
line_of (refused cause) = Some (cause_line cause)
line_of no_memory = Some (codes "fst: out of memory\n")
line_of (unread name) = Some (codes "fst: cannot read " ++ name ++ codes "\n")
line_of (unwritten name) = Some (codes "fst: cannot write " ++ name ++ codes "\n")
