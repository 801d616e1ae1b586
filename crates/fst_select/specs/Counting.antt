-- The least number of labels ahead of a prefix, by the counts of the states of its members.
use Rattle.std.specs.Prelude.{◌≡◌, ◌≤◌, ℕ, List, length}
use Rattle.fst_semiring.specs.Cost.{Cost}
use Rattle.fst_semiring.specs.declared.arc_type.ArcType.{ArcType}
use Rattle.fst_machine.specs.BreadthFirst.{Has}
use Rattle.fst_machine.specs.Graph.{Graph}
use Rattle.fst_trim.specs.WordWeights.{Weighs}
use Rattle.fst_determinize.specs.Subsets.{Member}

-- The shortest word from this state with a weight that counts has so many labels.
pub record IsStateCount (kind : ArcType) (g : Graph ℕ) (Counts : Cost → Type 0) (q : ℕ) (c : ℕ) : Type 0 where
  pub rest : List ℕ
  pub weight : Cost
  pub completes : Weighs kind g q rest weight
  pub counts : Counts weight
  pub long : length rest ≡ c
  pub least : (other : List ℕ) (u : Cost) → Weighs kind g q other u → Counts u → c ≤ length other

-- The least count of the members that pass.
pub record IsFewest (count : ℕ → ℕ) (Passes : Member → Type 0) (members : List Member) (c : ℕ) : Type 0 where
  pub member : Member
  pub there : Has members member
  pub passes : Passes member
  pub same : count member.state ≡ c
  pub least : (m : Member) → Has members m → Passes m → c ≤ count m.state
