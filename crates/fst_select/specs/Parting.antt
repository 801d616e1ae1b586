-- The parts of an open prefix: the string that ends with it, and for each label the strings that go on by it.
use Rattle.std.specs.Prelude.{◌≡◌, ◌≢◌, ◌⊎◌, ℕ, ◌+◌, suc, List, [], ◌∷◌, ◌++◌, Bool, true, false, Some, map, slice_get}
use Rattle.fst_semiring.specs.Cost.{Cost, infinite}
use Rattle.fst_semiring.specs.Semiring.{times}
use Rattle.fst_semiring.specs.declared.arc_type.ArcType.{ArcType}
use Rattle.fst_machine.specs.BreadthFirst.{Apart, Has}
use Rattle.fst_machine.specs.Graph.{Graph}
use Rattle.fst_machine.specs.Machine.{Arc}
use Rattle.fst_trim.specs.WordWeights.{WordWeighs}
use Rattle.fst_determinize.specs.Subsets.{IsSubset, Member}
use Rattle.fst_determinize.specs.Ways.{arcs_by, ways}
use Rattle.fst_select.specs.declared.entry.Entry.{Entry}
use Rattle.fst_select.specs.Keys.{IsShortest, best_total}
use Rattle.fst_select.specs.Outlook.{IsDue}

-- the arcs of a subset, by label
abbrev pub arcs_of : ArcType → Graph ℕ → List Member → List (Arc Cost (List Member))
arcs_of kind g members = arcs_by kind (ways kind g members)

-- the number of a part, by its label; 0 where no string goes on
abbrev pub number_by : Bool → ℕ → ℕ
number_by true tail = 0
number_by false tail = suc tail

abbrev pub part_number : {D : Type 0} → Entry D → ℕ
part_number e = number_by e.closed e.tail

-- The string that ends with a prefix of so many labels, where this is the best weight of the prefix and these are the members
-- of its subset.
pub record IsClosedPart {D : Type 0} (kind : ArcType) (g : Graph ℕ) (value : D → Cost) (by : Cost) (members : List Member) (owner depth : ℕ)
    (e : Entry D) : Type 0 where
  pub closed : e.closed ≡ true
  pub same_owner : e.owner ≡ owner
  pub same_depth : e.depth ≡ depth
  pub tail : e.tail ≡ 0
  pub total : value e.total ≡ best_total kind g.final by members
  pub solid : value e.total ≢ infinite
  pub long : e.long ≡ depth

module _ {D : Type 0} (kind : ArcType) (g : Graph ℕ) (d : ℕ → Cost) (due : Cost) (value : D → Cost) where
  -- The strings that go on behind a prefix of so many labels by one label more, where these are the members of the subset of
  -- both. Their length is known where their weight is due.
  pub record GoesOn (members : List Member) (owner depth : ℕ) (e : Entry D) : Type 0 where
    pub closed : e.closed ≡ false
    pub same_owner : e.owner ≡ owner
    pub same_depth : e.depth ≡ depth
    pub total : value e.total ≡ best_total kind d (value e.by) members
    pub solid : value e.total ≢ infinite
    pub long : IsDue kind due (value e.total) → (count : ℕ) × IsShortest kind g (value e.by) (value e.total) members count × (e.long ≡ depth + 1 + count)

  -- The strings that go on behind x by a label. The subset is one of these.
  pub record IsOpenPart (x : List ℕ) (owner depth : ℕ) (subsets : List (List Member)) (e : Entry D) : Type 0 where
    pub members : List Member
    pub there : slice_get subsets e.slot ≡ Some members
    pub subset : IsSubset kind g (x ++ e.tail ∷ []) (value e.by) members
    pub goes : GoesOn members owner depth e

  -- These are the parts of x by these arcs of its subset: one for each arc whose end has strings ahead.
  pub record AreOpenParts (x : List ℕ) (by : Cost) (owner depth : ℕ) (arcs : List (Arc Cost (List Member))) (subsets : List (List Member)) (parts : List (Entry D)) : Type 0 where
    pub each : (e : Entry D) → Has parts e → IsOpenPart x owner depth subsets e
    pub labels : (e : Entry D) → Has parts e → (a : Arc Cost (List Member)) × Has arcs a × (a.ilabel ≡ e.tail)
    pub all : (a : Arc Cost (List Member)) → Has arcs a → best_total kind d (times kind by a.weight) a.next ≢ infinite → (e : Entry D) × Has parts e × (e.tail ≡ a.ilabel)
    pub apart : Apart (map (λ e. e.tail) parts)

  -- The parts of x: no two have one label, and each string with a weight that begins with x is in one of them.
  pub record AreParts (x : List ℕ) (owner depth : ℕ) (subsets : List (List Member)) (parts : List (Entry D)) : Type 0 where
    pub by : Cost
    pub members : List Member
    pub subset : IsSubset kind g x by members
    pub each : (e : Entry D) → Has parts e → IsClosedPart kind g value by members owner depth e ⊎ IsOpenPart x owner depth subsets e
    pub apart : Apart (map part_number parts)
    pub stops : (w : Cost) → WordWeighs kind g x w → (e : Entry D) × Has parts e × (e.closed ≡ true)
    pub goes : (label : ℕ) (rest : List ℕ) (w : Cost) → WordWeighs kind g (x ++ label ∷ rest) w → (e : Entry D) × Has parts e × (e.closed ≡ false) × (e.tail ≡ label)
