-- A listing of the first strings on its way: what is listed, and the prefixes that are still open.
use Rattle.std.specs.Prelude.{◌≡◌, ℕ, List, [], ◌∷◌, ◌++◌, map, true, All}
use Rattle.std.specs.declared.cmp.Ordering.TheVariants.{Less}
use Rattle.fst_semiring.specs.Cost.{Cost, cost_cmp}
use Rattle.fst_semiring.specs.declared.arc_type.ArcType.{ArcType}
use Rattle.fst_semiring.specs.Semiring.{cancels}
use Rattle.fst_machine.specs.Graph.{Graph}
use Rattle.fst_determinize.specs.Subsets.{Member}
use Rattle.fst_nbest.specs.Heap.{IsHeap}
use Rattle.fst_nbest.specs.Words.{WeightedWord}
use Rattle.fst_select.specs.declared.entry.Entry.{Entry}
use Rattle.fst_select.specs.Entries.{AreEntries, IsEntry, entry_cmp, front_of, total_cmp}
use Rattle.fst_select.specs.Frontier.{ComesFirst, Front, IsFrontier}
use Rattle.fst_select.specs.Outlook.{IsDue}
use Rattle.fst_select.specs.Strings.{IsSpelled}

-- A total that waits for its turn is worse than the one that is due.
pub record Waits (kind : ArcType) (due total : Cost) : Type 0 where
  pub uncancelling : cancels kind ≡ true → ⊥
  pub worse : cost_cmp due total ≡ Less

module _ {D : Type 0} (kind : ArcType) (g : Graph ℕ) (value : D → Cost) (due : Cost) where
  -- A walk from an entry that is due: the string is the best of the entry's, and those that are left have its others.
  pub record Walked (words : List (List ℕ)) (old new : List (List Member)) (entry : Entry D) (left : List (Entry D)) (found : WeightedWord) : Type 0 where
    pub more : List (List Member)
    pub grow : new ≡ old ++ more
    pub total : found.weight ≡ value entry.total
    pub fronts : List Front
    pub entries : AreEntries kind g value due (words ++ found.word ∷ []) new left fronts
    pub covers : (listed : List WeightedWord) (es : List Front) → IsFrontier (IsSpelled kind g) listed (front_of value words entry ∷ es)
        → ComesFirst (front_of value words entry) es → IsFrontier (IsSpelled kind g) (listed ++ found ∷ []) (fronts ++ es)

  -- The first strings are listed, which have these words. The entries whose total is due have their lengths too, and the
  -- others wait for a worse total; together they have all other strings.
  pub record IsSearch (listed : List WeightedWord) (words : List (List ℕ)) (subsets : List (List Member)) (ready later : List (Entry D)) : Type 0 where
    pub entries : All (λ e. IsEntry kind g value due words subsets e (front_of value words e)) ready
    pub ready_due : All (λ e. IsDue kind due (value e.total)) ready
    pub heap : IsHeap (entry_cmp value words) ready
    pub fronts : List Front
    pub waiting : AreEntries kind g value due words subsets later fronts
    pub worse : All (λ e. Waits kind due (value e.total)) later
    pub later_heap : IsHeap (total_cmp value) later
    pub frontier : IsFrontier (IsSpelled kind g) listed (map (front_of value words) ready ++ fronts)
