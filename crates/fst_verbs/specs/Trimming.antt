-- `connect` and `arcsort`: the machine without useless states, and with the arcs of each state in order. (OpenFst
-- manual, "Connect" and "ArcSort".)
use Rattle.std.specs.Prelude.{◌↔◌, ℕ, List, Option, Some, None, codes, if◌then◌else◌}
use Rattle.std.specs.Str.{bytes_eq}
use Rattle.fst_semiring.specs.declared.arc_type.ArcType.{ArcType}
use Rattle.fst_semiring.specs.Cost.{Cost}
use Rattle.fst_machine.specs.Connected.{IsConnected}
use Rattle.fst_machine.specs.Machine.{Machine}
use Rattle.fst_rational.specs.Relations.{Triple}
use Rattle.fst_trim.specs.KeptPaths.{KeepsPaths}
use Rattle.fst_trim.specs.Sorting.{IsArcSorted, SortsPaths}
use Rattle.fst_trim.specs.declared.side.Side.{Side}
use Rattle.fst_trim.specs.declared.side.Side.TheVariants.{Input, Output}
use Rattle.fst_words.specs.declared.options.Options.{Options}
use Rattle.fst_verbs.specs.Meaning.{IsMachine, Meaning, for_one, never}

-- two machines have the same triples
abbrev pub HaveSameTriples : ArcType → Machine Cost → Machine Cost → Type 0
HaveSameTriples kind m r = (x y : List ℕ) (w : Cost) → Triple kind m x y w ↔ Triple kind r x y w

-- the machine is connected: its successful paths are those of the other, one to one, by the new numbers of the states
abbrev pub Connects : ArcType → Machine Cost → Machine Cost → Type 0
Connects kind m r = IsConnected m r × ((h : IsConnected m r) → KeepsPaths kind m r h.kept) × HaveSameTriples kind m r

abbrev pub connect_meaning : Meaning
connect_meaning = record {
  stops = λ given. never;
  makes = λ given made. for_one given.machines (λ m. IsMachine given.kind (λ r. Connects given.kind m r) made);
}

-- the side that a word names, and the side whose labels the arcs are sorted by
abbrev pub side_named : List ℕ → Side
side_named word = if bytes_eq word (codes "olabel") then Output else Input

abbrev pub side_of : Option (List ℕ) → Side
side_of None = Input
side_of (Some word) = side_named word

-- the arcs are in order: the successful paths are those of the other machine, one to one, up to the places of arcs
abbrev pub Sorts : ArcType → Side → Machine Cost → Machine Cost → Type 0
Sorts kind side m r = IsArcSorted side m r × SortsPaths kind side m r × HaveSameTriples kind m r

abbrev pub arcsort_meaning : Options → Meaning
arcsort_meaning o = record {
  stops = λ given. never;
  makes = λ given made. for_one given.machines (λ m. IsMachine given.kind (λ r. Sorts given.kind (side_of o.sort_type) m r) made);
}
