-- The laws of weighted subsets and of the graph that they make.
use Rattle.std.specs.Prelude.{◌≡◌, ◌↔◌, ◌*◌, ℕ, List, [], ◌∷◌, ◌++◌, Some, length, slice_get}
use Rattle.fst_semiring.specs.Cost.{Cost}
use Rattle.fst_semiring.specs.Semiring.{Within, one_of, times}
use Rattle.fst_semiring.specs.declared.arc_type.ArcType.{ArcType}
use Rattle.fst_machine.specs.BreadthFirst.{Has}
use Rattle.fst_machine.specs.Graph.{Graph, graph_of}
use Rattle.fst_machine.specs.Machine.{Arc, Machine}
use Rattle.fst_walk.specs.Answers.{IsNamed, ReachesMore}
use Rattle.fst_determinize.specs.Subsets.{IsSubset, Member}
use Rattle.fst_trim.specs.Weighed.{IsWeighted}
use Rattle.fst_determinize.specs.Ways.{IsAcceptor, start_members, subsets}
use Rattle.fst_determinize.specs.Theorem.{AreSubsets, HasMoreSubsets, IsDeterminized}

-- A word has at most one subset, the empty word that of the start, and each arc of a word's subset leads to that of the
-- word followed by its label, whose best product is Times the weight of the arc. Numbers of residuals are within twice
-- those that the arcs of a word can add up.
pub record SubsetLaws (kind : ArcType) (g : Graph ℕ) : Type 0 where
  pub one : (word : List ℕ) (b c : Cost) (s t : List Member) → IsSubset kind g word b s → IsSubset kind g word c t → (b ≡ c) × (s ≡ t)
  pub start : (p : ℕ) → g.start ≡ Some p → IsSubset kind g [] (one_of kind) (start_members kind p)
  pub step : IsWeighted kind g → (word : List ℕ) (b : Cost) (s : List Member) (k : ℕ) (a : Arc Cost (List Member)) → IsSubset kind g word b s
      → slice_get ((subsets kind g).arcs s) k ≡ Some a → IsSubset kind g (word ++ a.ilabel ∷ []) (times kind b a.weight) a.next
  pub range : (n : ℕ) → IsWeighted kind g → ((p k : ℕ) (a : Arc Cost ℕ) → slice_get (g.arcs p) k ≡ Some a → Within n a.weight)
      → (word : List ℕ) (b : Cost) (s : List Member) (m : Member) → IsSubset kind g word b s → Has s m → Within (2 * (length word * n)) m.residual

-- The names that the walk of the graph of subsets meets are just the subsets of words, in the order of words, and the
-- machine that numbers them has one successful path for each label word and the weights of the acceptor.
pub record DeterminizationLaws (kind : ArcType) (g : Graph ℕ) : Type 0 where
  pub subsets_met : (names : List (List Member)) (m : Machine Cost) → IsNamed (subsets kind g) names m → AreSubsets kind g names
  pub machine : IsAcceptor g → (names : List (List Member)) (m : Machine Cost) → IsNamed (subsets kind g) names m → IsDeterminized kind g (graph_of m)
  pub more : (limit : ℕ) → ReachesMore (subsets kind g) limit ↔ HasMoreSubsets kind g limit
