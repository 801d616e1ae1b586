-- How entries are put into the two parts of a table, and how a weight becomes due.
use Rattle.std.specs.Prelude.{◌≡◌, ℕ, ◌<◌, List, ◌++◌, length, All}
use Rattle.std.specs.declared.cmp.Ordering.TheVariants.{Less}
use Rattle.std.specs.List.Sorted.{IsPermutation}
use Rattle.fst_semiring.specs.Cost.{Cost, cost_cmp}
use Rattle.fst_semiring.specs.declared.arc_type.ArcType.{ArcType}
use Rattle.fst_machine.specs.BreadthFirst.{Has}
use Rattle.fst_machine.specs.Graph.{Graph}
use Rattle.fst_nbest.specs.Heap.{IsHeap}
use Rattle.fst_determinize.specs.Subsets.{Member}
use Rattle.fst_select.specs.declared.entry.Entry.{Entry}
use Rattle.fst_select.specs.Entries.{AreEntries, CanCompare, entry_cmp, total_cmp}
use Rattle.fst_select.specs.Frontier.{Front, IsKey}
use Rattle.fst_select.specs.Strings.{IsSpelled}

-- Some elements are put into two lists: those that pass into the first, the others into the second.
pub record ArePut {X : Type 0} (Passes : X → Type 0) (put old_first old_second new_first new_second : List X) : Type 0 where
  pub passing : List X
  pub others : List X
  pub all : IsPermutation put (passing ++ others)
  pub pass : All Passes passing
  pub fail : All (λ x. Passes x → ⊥) others
  pub first : IsPermutation (passing ++ old_first) new_first
  pub second : IsPermutation (others ++ old_second) new_second

-- Entries stand for fronts that tell their best strings.
pub record AreKeyed {D : Type 0} (kind : ArcType) (g : Graph ℕ) (value : D → Cost) (due : Cost) (words : List (List ℕ))
    (subsets : List (List Member)) (es : List (Entry D)) (fs : List Front) : Type 0 where
  pub entries : AreEntries kind g value due words subsets es fs
  pub keys : (f : Front) → Has fs f → IsKey (IsSpelled kind g) f

-- A weight becomes due: the entries with it are those of the first list, which some are, and the others have worse ones.
pub record IsClassBegun {D : Type 0} (value : D → Cost) (words : List (List ℕ)) (due : Cost) (ready later : List (Entry D)) : Type 0 where
  pub some : 0 < length ready
  pub ready_heap : IsHeap (entry_cmp value words) ready
  pub later_heap : IsHeap (total_cmp value) later
  pub compare : All (CanCompare words) ready
  pub total : All (λ e. value e.total ≡ due) ready
  pub worse : All (λ e. cost_cmp due (value e.total) ≡ Less) later

-- Entries in two lists stand for these fronts in some order.
pub record StandFor {D : Type 0} (kind : ArcType) (g : Graph ℕ) (value : D → Cost) (due : Cost) (words : List (List ℕ))
    (subsets : List (List Member)) (moved waiting : List (Entry D)) (fs : List Front) : Type 0 where
  pub firsts : List Front
  pub others : List Front
  pub same : IsPermutation fs (firsts ++ others)
  pub ready : AreEntries kind g value due words subsets moved firsts
  pub later : AreEntries kind g value due words subsets waiting others
