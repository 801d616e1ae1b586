-- One cause refuses a composition.
use Rattle.std.proofs.Common.{◌≡◌, ℕ, refl, ap}
use Rattle.fst_semiring.specs.Cost.{Cost}
use Rattle.fst_semiring.specs.declared.arc_type.ArcType.{ArcType}
use Rattle.fst_machine.specs.Graph.{graph_of}
use Rattle.fst_machine.specs.Machine.{Machine}
use Rattle.fst_walk.specs.Answers.{Stops}
use Rattle.fst_walk.specs.declared.fault.WalkFault.{WalkFault}
use Rattle.fst_walk.specs.declared.fault.WalkFault.TheVariants as walk
use Rattle.fst_walk.proofs.OneAnswer.{one_stop}
use Rattle.fst_compose.specs.Answers.{Refuses, cause_of}
use Rattle.fst_compose.specs.Composition.{composed}
use Rattle.fst_compose.specs.declared.fault.ComposeFault.{ComposeFault}
use Rattle.fst_compose.specs.declared.fault.ComposeFault.TheVariants.{Memory, NotSorted, Overflow, StateLimit, TooManyArcs}

module _ (kind : ArcType) (a b : Machine Cost) (most : ℕ) where
  -- what stops the walk of the names
  walk_stop : (f h : WalkFault) → Stops (composed kind (graph_of a) (graph_of b)) most f → Stops (composed kind (graph_of a) (graph_of b)) most h → cause_of f ≡ cause_of h
  walk_stop f h one two = ap cause_of (one_stop (composed kind (graph_of a) (graph_of b)) most f h one two)

  pub one_refusal : (f h : ComposeFault) → Refuses kind a b most f → Refuses kind a b most h → f ≡ h
  one_refusal NotSorted NotSorted one two = refl
  one_refusal NotSorted (StateLimit limit) one two = absurd (one two.0)
  one_refusal NotSorted TooManyArcs one two = absurd (one two.0)
  one_refusal NotSorted (Overflow place) one two = absurd (one two.0)
  one_refusal NotSorted Memory one two = absurd two
  one_refusal (StateLimit limit) NotSorted one two = absurd (two one.0)
  one_refusal (StateLimit limit) (StateLimit other) one two = walk_stop (walk.StateLimit limit) (walk.StateLimit other) (one.1, one.2) (two.1, two.2)
  one_refusal (StateLimit limit) TooManyArcs one two = walk_stop (walk.StateLimit limit) walk.TooManyArcs (one.1, one.2) two.1
  one_refusal (StateLimit limit) (Overflow place) one two = walk_stop (walk.StateLimit limit) (walk.Overflow place) (one.1, one.2) two.1
  one_refusal (StateLimit limit) Memory one two = absurd two
  one_refusal TooManyArcs NotSorted one two = absurd (two one.0)
  one_refusal TooManyArcs (StateLimit other) one two = walk_stop walk.TooManyArcs (walk.StateLimit other) one.1 (two.1, two.2)
  one_refusal TooManyArcs TooManyArcs one two = refl
  one_refusal TooManyArcs (Overflow place) one two = walk_stop walk.TooManyArcs (walk.Overflow place) one.1 two.1
  one_refusal TooManyArcs Memory one two = absurd two
  one_refusal (Overflow place) NotSorted one two = absurd (two one.0)
  one_refusal (Overflow place) (StateLimit other) one two = walk_stop (walk.Overflow place) (walk.StateLimit other) one.1 (two.1, two.2)
  one_refusal (Overflow place) TooManyArcs one two = walk_stop (walk.Overflow place) walk.TooManyArcs one.1 two.1
  one_refusal (Overflow place) (Overflow other) one two = walk_stop (walk.Overflow place) (walk.Overflow other) one.1 two.1
  one_refusal (Overflow place) Memory one two = absurd two
  one_refusal Memory h one two = absurd one
