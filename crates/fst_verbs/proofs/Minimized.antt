-- `minimize`: the faults of a machine are those of its values, and nothing stands against a machine that is minimized.
use Rattle.std.proofs.Common.{◌≡◌, ◌⊎◌, inl, inr, All, Some, refl, slice_get, subst}
use Rattle.fst_semiring.specs.declared.arc_type.ArcType.{ArcType}
use Rattle.fst_semiring.specs.Cost.{Cost}
use Rattle.fst_machine.specs.Graph.{graph_of}
use Rattle.fst_machine.specs.Cycles.{IsUseful}
use Rattle.fst_machine.specs.Machine.{Machine, valued}
use Rattle.fst_machine.specs.Narrowing.{IsFirstPast, IsInRange}
use Rattle.fst_machine.proofs.Narrowing.{all_at}
use Rattle.fst_trim.specs.FirstArcs as arcs
use Rattle.fst_trim.proofs.Valued.{repeats-valued, two_labels-valued}
use Rattle.fst_search.specs.Distances.{NoneImproves}
use Rattle.fst_minimize.specs.Minimized.{IsMinimizeFault, IsMinimized}
use Rattle.fst_minimize.specs.declared.fault.MinimizeFault.{MinimizeFault}
use Rattle.fst_minimize.specs.declared.fault.MinimizeFault.TheVariants.{NotAcceptor, NotDeterministic, ImprovingCycle, Overflow, Memory}
use Rattle.fst_minimize.proofs.OneAnswer.{one_minimized}
use Rattle.fst_verbs.specs.Minimizing.{IsUnminimized}

module _ {V : Type 0} (kind : ArcType) (value : V → Cost) (m : Machine V) where
  pub acceptor_values : arcs.IsAcceptor m → arcs.IsAcceptor (valued value m)
  acceptor_values none state place met = none state place ((two_labels-valued value m state place).1 met)

  pub deterministic_values : arcs.IsDeterministic m → arcs.IsDeterministic (valued value m)
  deterministic_values none state place met = none state place ((repeats-valued value m state place).1 met)

  -- a fault of the machine is one of its values, where it is not out of memory
  pub unminimized_values : (why : MinimizeFault) → IsMinimizeFault kind m (valued value m) why → IsUnminimized kind (valued value m) why ⊎ (why ≡ Memory)
  unminimized_values (NotAcceptor state place) h =
      inl ((λ e. cc), ((two_labels-valued value m state place).0 h.0, λ p k before met. h.1 p k before ((two_labels-valued value m p k).1 met)))
  unminimized_values (NotDeterministic state place) h =
      inl ((λ e. cc), (acceptor_values h.0, ((repeats-valued value m state place).0 h.1.0, λ p k before met. h.1.1 p k before ((repeats-valued value m p k).1 met))))
  unminimized_values (ImprovingCycle cycle) h = inl ((λ e. cc), (acceptor_values h.0, deterministic_values h.1, h.2))
  unminimized_values (Overflow state) h = inl ((λ e. cc), (acceptor_values h.0, deterministic_values h.1, h.2, h.3))
  unminimized_values Memory h = inr refl

-- nothing stands against a machine that is minimized in range
pub minimized_passes : (kind : ArcType) (m r : Machine Cost) → IsMinimized kind m r → All IsInRange r.states → arcs.IsAcceptor m → arcs.IsDeterministic m → NoneImproves kind (graph_of m) (IsUseful (graph_of m))
    → (why : MinimizeFault) → IsUnminimized kind m why → ⊥
minimized_passes kind m r made range acceptor deterministic none (NotAcceptor state place) h = acceptor state place h.1.0
minimized_passes kind m r made range acceptor deterministic none (NotDeterministic state place) h = deterministic state place h.1.1.0
minimized_passes kind m r made range acceptor deterministic none (ImprovingCycle cycle) h = none h.1.2.state h.1.2.cycle h.1.2.counts h.1.2.improves
minimized_passes kind m r made range acceptor deterministic none (Overflow state) h = past first.there first.past
  where
    first : IsFirstPast r state
    first = subst (λ (c : Machine Cost). IsFirstPast c state) (one_minimized kind m h.1.3.machine r h.1.3.minimized made) h.1.3.first

    past : slice_get r.states state ≡ Some first.here → (IsInRange first.here → ⊥) → ⊥
    past there out = out (all_at IsInRange r.states state first.here there range)
minimized_passes kind m r made range acceptor deterministic none Memory h = h.0 refl
