-- A cache: names, each once, with arcs.
use Rattle.std.specs.Prelude.{◌≡◌, ◌≤◌, List, [], ◌∷◌, length, map, All}
use Rattle.fst_semiring.specs.Cost.{Cost}
use Rattle.fst_machine.specs.BreadthFirst.{Apart, Has}
use Rattle.fst_machine.specs.Graph.{Graph}
use Rattle.fst_machine.specs.Machine.{Arc}
use Rattle.fst_walk.specs.Names.{key_arc}

-- a cache of names of kind N, with weights of type V
abbrev pub Entries : Type 0 → Type 0 → Type 0
Entries V N = List (N × List (Arc V N))

-- the names that have an entry, in the order in which they came
abbrev pub keys : {N A : Type 0} → List (N × A) → List N
keys entries = map (λ e. e.0) entries

-- each name has the arcs that it has in the graph
abbrev pub IsTrueOf : {V N : Type 0} → (V → Cost) → Graph N → Entries V N → Type 0
IsTrueOf value g entries = All (λ e. map (key_arc value) e.1 ≡ g.arcs e.0) entries

-- no name has an entry in both
abbrev pub AreApart : {N A : Type 0} → List (N × A) → List (N × A) → Type 0
AreApart {N} a b = (n : N) → Has (keys a) n → Has (keys b) n → ⊥

-- names with what is kept of them, place for place; of names behind these nothing is kept
abbrev pub entered : {N A B : Type 0} → (A → B) → List N → List A → List (N × B)
entered f [] kept = []
entered f (n ∷ names) [] = []
entered f (n ∷ names) (a ∷ kept) = (n, f a) ∷ entered f names kept

-- Each name stands once, and something is kept of no more than these.
pub record AreEntered {N A : Type 0} (names : List N) (kept : List A) : Type 0 where
  pub few : length kept ≤ length names
  pub apart : Apart names
