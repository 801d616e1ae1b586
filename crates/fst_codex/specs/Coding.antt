-- How entries are found by keys, and how arcs and states are put one after the other.
use Rattle.std.specs.Prelude.{◌≡◌, ℕ, Bool, List, map, All}
use Rattle.std.specs.List.{AllZip}
use Rattle.fst_semiring.specs.Cost.{Cost, class_of, first_of, second_of}
use Rattle.fst_semiring.specs.declared.arc_type.ArcType.{ArcType}
use Rattle.fst_semiring.specs.Semiring.{InRange}
use Rattle.fst_machine.specs.Machine.{Arc, State}
use Rattle.fst_machine.specs.BreadthFirst.{Grows}
use Rattle.fst_codex.specs.declared.entry_key.EntryKey.{EntryKey}
use Rattle.fst_codex.specs.Table.{Entry, Table}
use Rattle.fst_codex.specs.Encoded.{IsEncodedArc, IsEncodedState, arc_entries, entry_of}

-- the key of an entry: its labels, and the class and the two numbers of its weight
abbrev pub entry_key : Entry Cost → EntryKey
entry_key e = record { ilabel = e.ilabel; olabel = e.olabel; class = class_of e.weight; first = first_of e.weight; second = second_of e.weight }

-- The arcs out stand for these arcs, whose weights are in range, and the entries grow by theirs.
pub record PutsArcs (kind : ArcType) (weights : Bool) (arcs : List (Arc Cost ℕ)) (old new : Table Cost) (out : List (Arc Cost ℕ)) : Type 0 where
  pub flag : new.weights ≡ old.weights
  pub grown : Grows old.entries (map (entry_of kind weights) arcs) new.entries
  pub put : AllZip (IsEncodedArc kind weights new.entries) arcs out
  pub range : All (λ a. InRange a.weight) arcs

-- The states out stand for these states, the weights of whose arcs are in range, and the entries grow by those of
-- their arcs.
pub record PutsStates (kind : ArcType) (weights : Bool) (states : List (State Cost)) (old new : Table Cost) (out : List (State Cost)) : Type 0 where
  pub flag : new.weights ≡ old.weights
  pub grown : Grows old.entries (arc_entries kind weights states) new.entries
  pub put : AllZip (IsEncodedState kind weights new.entries) states out
  pub range : All (λ s. All (λ a. InRange a.weight) s.arcs) states
