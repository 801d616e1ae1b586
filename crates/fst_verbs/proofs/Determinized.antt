-- `determinize`: the faults of a machine are those of its values.
use Rattle.std.proofs.Common.{◌≡◌, ℕ, sym, subst}
use Rattle.fst_semiring.specs.declared.arc_type.ArcType.{ArcType}
use Rattle.fst_semiring.specs.Cost.{Cost}
use Rattle.fst_machine.specs.Graph.{graph_of}
use Rattle.fst_machine.specs.Machine.{Machine, valued}
use Rattle.fst_trim.specs.FirstArcs as arcs
use Rattle.fst_trim.proofs.Valued.{two_labels-valued, valued_costs}
use Rattle.fst_walk.specs.Answers.{HasManyArcs, IsOut}
use Rattle.fst_determinize.specs.Answers.{Refuses}
use Rattle.fst_determinize.specs.Theorem.{HasMoreSubsets}
use Rattle.fst_determinize.specs.Ways.{subsets}
use Rattle.fst_determinize.specs.declared.fault.DeterminizeFault.{DeterminizeFault}
use Rattle.fst_determinize.specs.declared.fault.DeterminizeFault.TheVariants.{NotAcceptor, StateLimit, TooManyArcs, Overflow, Memory}

module _ {V : Type 0} (kind : ArcType) (value : V → Cost) (m : Machine V) (most : ℕ) where
  same : valued value m ≡ valued (λ w. w) (valued value m)
  same = valued_costs (valued value m)

  acceptor_values : arcs.IsAcceptor m → arcs.IsAcceptor (valued value m)
  acceptor_values none state place met = none state place ((two_labels-valued value m state place).1 met)

  values_acceptor : arcs.IsAcceptor (valued value m) → arcs.IsAcceptor m
  values_acceptor none state place met = none state place ((two_labels-valued value m state place).0 met)

  pub refuses-valued : (f : DeterminizeFault) → Refuses kind value m most f → Refuses kind (λ w. w) (valued value m) most f
  refuses-valued (NotAcceptor state place) h = ((two_labels-valued value m state place).0 h.0, λ p k before met. h.1 p k before ((two_labels-valued value m p k).1 met))
  refuses-valued (StateLimit limit) h = (acceptor_values h.0, h.1, subst (λ (c : Machine Cost). HasMoreSubsets kind (graph_of c) most) same h.2)
  refuses-valued TooManyArcs h = (acceptor_values h.0, subst (λ (c : Machine Cost). HasManyArcs (subsets kind (graph_of c)) most) same h.1)
  refuses-valued (Overflow place) h = (acceptor_values h.0, subst (λ (c : Machine Cost). IsOut (subsets kind (graph_of c)) most place) same h.1)
  refuses-valued Memory h = absurd h

  pub valued-refuses : (f : DeterminizeFault) → Refuses kind (λ w. w) (valued value m) most f → Refuses kind value m most f
  valued-refuses (NotAcceptor state place) h = ((two_labels-valued value m state place).1 h.0, λ p k before met. h.1 p k before ((two_labels-valued value m p k).0 met))
  valued-refuses (StateLimit limit) h = (values_acceptor h.0, h.1, subst (λ (c : Machine Cost). HasMoreSubsets kind (graph_of c) most) (sym same) h.2)
  valued-refuses TooManyArcs h = (values_acceptor h.0, subst (λ (c : Machine Cost). HasManyArcs (subsets kind (graph_of c)) most) (sym same) h.1)
  valued-refuses (Overflow place) h = (values_acceptor h.0, subst (λ (c : Machine Cost). IsOut (subsets kind (graph_of c)) most place) (sym same) h.1)
  valued-refuses Memory h = absurd h
