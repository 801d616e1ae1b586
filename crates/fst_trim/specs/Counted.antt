-- Counts and properties of a machine. (OpenFst manual, "Info".)
use Rattle.std.specs.Prelude.{◌≡◌, ◌↔◌, ℕ, List, Bool, ◌&&◌, nat_eq, length, sum_by}
use Rattle.std.specs.Bool.{Decides}
use Rattle.std.specs.List.{count_by}
use Rattle.fst_semiring.specs.Cost.{Cost, infinite}
use Rattle.fst_semiring.specs.declared.arc_type.ArcType.{ArcType}
use Rattle.fst_machine.specs.Machine.{Arc, Machine, arc_total, valued}
use Rattle.fst_machine.specs.Graph.{graph_of}
use Rattle.fst_machine.specs.Cycles.{IsAccessible, IsCoaccessible, IsUseful}
use Rattle.fst_machine.specs.BreadthFirst.{Apart, Has}
use Rattle.fst_trim.specs.declared.side.Side.TheVariants.{Input, Output}
use Rattle.fst_trim.specs.declared.summary.Info.{Info}
use Rattle.fst_trim.specs.Sides.{IsSortedOn}
use Rattle.fst_trim.specs.FirstArcs.{IsAcceptor, IsDeterministic}

-- so many numbers have the property
pub record IsCount (P : ℕ → Type 0) (count : ℕ) : Type 0 where
  pub names : List ℕ
  pub apart : Apart names
  pub are : (p : ℕ) → Has names p ↔ P p
  pub many : count ≡ length names

-- label 0 on the input side, on the output side, and on both
abbrev pub has_input_epsilon : {V : Type 0} → Arc V ℕ → Bool
has_input_epsilon a = nat_eq a.ilabel 0

abbrev pub has_output_epsilon : {V : Type 0} → Arc V ℕ → Bool
has_output_epsilon a = nat_eq a.olabel 0

abbrev pub has_both_epsilons : {V : Type 0} → Arc V ℕ → Bool
has_both_epsilons a = nat_eq a.ilabel 0 && nat_eq a.olabel 0

-- how many arcs of the machine pass the test
abbrev pub arcs_with : {V : Type 0} → (Arc V ℕ → Bool) → Machine V → ℕ
arcs_with test m = sum_by (λ s. count_by test s.arcs) m.states

-- what is said of a machine
pub record IsInfo {V : Type 0} (kind : ArcType) (value : V → Cost) (m : Machine V) (i : Info) : Type 0 where
  pub arc_type : i.arc_type ≡ kind
  pub states : i.states ≡ length m.states
  pub arcs : i.arcs ≡ arc_total m.states
  pub start : i.start ≡ m.start
  pub final_states : IsCount (λ p. (graph_of (valued value m)).final p ≡ infinite → ⊥) i.final_states
  pub input_epsilons : i.input_epsilons ≡ arcs_with has_input_epsilon m
  pub output_epsilons : i.output_epsilons ≡ arcs_with has_output_epsilon m
  pub both_epsilons : i.both_epsilons ≡ arcs_with has_both_epsilons m
  pub accessible : IsCount (IsAccessible (graph_of (valued value m))) i.accessible
  pub coaccessible : IsCount (IsCoaccessible (graph_of (valued value m))) i.coaccessible
  pub connected : IsCount (IsUseful (graph_of (valued value m))) i.connected
  pub acceptor : Decides i.acceptor (IsAcceptor m)
  pub input_sorted : Decides i.input_sorted (IsSortedOn Input m)
  pub output_sorted : Decides i.output_sorted (IsSortedOn Output m)
  pub deterministic : Decides i.deterministic (IsDeterministic m)
