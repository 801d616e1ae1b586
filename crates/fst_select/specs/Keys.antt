-- What the subset of a prefix says of the strings that begin with it. (Mohri 2009, weighted determinization: what a
-- subset leaves over is in its residuals.)
use Rattle.std.specs.Prelude.{◌≡◌, ◌≤◌, ℕ, List, length, ◌++◌}
use Rattle.fst_semiring.specs.Cost.{Cost}
use Rattle.fst_semiring.specs.declared.arc_type.ArcType.{ArcType}
use Rattle.fst_semiring.specs.Semiring.{times}
use Rattle.fst_machine.specs.BreadthFirst.{Has}
use Rattle.fst_machine.specs.Graph.{Graph}
use Rattle.fst_machine.specs.Distance.{IsLeast}
use Rattle.fst_trim.specs.WordWeights.{Weighs, WordWeighs}
use Rattle.fst_determinize.specs.Subsets.{Member}
use Rattle.fst_determinize.specs.Ways.{best_by}
use Rattle.fst_select.specs.Strings.{PrefixWeighs}

-- The best weight of strings that begin with a prefix: of its subset, where `by` is the best weight by which the prefix
-- reaches a state, and each member goes on with what is ahead of its state.
abbrev pub best_total : ArcType → (ℕ → Cost) → Cost → List Member → Cost
best_total kind ahead by members = best_by (λ m. times kind by (times kind m.residual (ahead m.state))) members

-- a member goes on by this word to this weight in all
abbrev pub GoesTo : ArcType → Graph ℕ → Cost → Cost → Member → List ℕ → Type 0
GoesTo kind g by total m rest = (u : Cost) × Weighs kind g m.state rest u × (times kind by (times kind m.residual u) ≡ total)

-- The shortest of the words by which members go on to this weight has so many labels.
pub record IsShortest (kind : ArcType) (g : Graph ℕ) (by total : Cost) (members : List Member) (count : ℕ) : Type 0 where
  pub member : Member
  pub there : Has members member
  pub rest : List ℕ
  pub goes : GoesTo kind g by total member rest
  pub long : length rest ≡ count
  pub least : (m : Member) (other : List ℕ) → Has members m → GoesTo kind g by total m other → count ≤ length other

-- The weight of a string, the best weight of those that begin with a prefix, and the least number of labels left on one of
-- that weight, by the subset of the string or prefix x and the distances d of the states to the final ones.
pub record PrefixLaws (kind : ArcType) (g : Graph ℕ) (d : ℕ → Cost) (x : List ℕ) (by : Cost) (members : List Member) : Type 0 where
  pub weighs : IsLeast (WordWeighs kind g x) (best_total kind g.final by members)
  pub ahead : IsLeast (PrefixWeighs kind g x) (best_total kind d by members)
  pub shortest : (count : ℕ) → IsShortest kind g by (best_total kind d by members) members count
      → (rest : List ℕ) × WordWeighs kind g (x ++ rest) (best_total kind d by members) × (length rest ≡ count)
  pub least : (count : ℕ) (rest : List ℕ) → IsShortest kind g by (best_total kind d by members) members count
      → WordWeighs kind g (x ++ rest) (best_total kind d by members) → count ≤ length rest
