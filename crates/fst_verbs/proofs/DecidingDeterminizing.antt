-- `determinize` has one outcome.
use Rattle.std.proofs.Common.{◌≡◌, ℕ, Result, Err, sym, ap, ◌∙◌, subst}
use Rattle.fst_semiring.specs.declared.arc_type.ArcType.{ArcType}
use Rattle.fst_semiring.specs.Cost.{Cost}
use Rattle.fst_machine.specs.Graph.{graph_of}
use Rattle.fst_machine.specs.Machine.{Machine, valued}
use Rattle.fst_trim.specs.FirstArcs as arcs
use Rattle.fst_trim.proofs.Valued.{valued_costs}
use Rattle.fst_walk.proofs.OneAnswer.{one_named, one_stop}
use Rattle.fst_determinize.specs.Answers.{Refuses, cause_of}
use Rattle.fst_trim.specs.Weighed.{IsWeighted}
use Rattle.fst_determinize.specs.Ways.{subsets}
use Rattle.fst_determinize.specs.declared.fault.DeterminizeFault.{DeterminizeFault}
use Rattle.fst_determinize.specs.declared.fault.DeterminizeFault.TheVariants.{NotAcceptor, StateLimit, TooManyArcs, Overflow, Memory}
use Rattle.fst_determinize.proofs.Answering.{cause_back, unfit_exact}
use Rattle.fst_verbs.specs.Determinizing.{Determinizes, IsUndetermined}
use Rattle.fst_verbs.specs.OneMeaning.{One}

module _ (kind : ArcType) (most : ℕ) (m : Machine Cost) where
  -- no acceptor has another fault
  unfit : (state place : ℕ) (h : DeterminizeFault) → Refuses kind (λ w. w) m most (NotAcceptor state place) → Refuses kind (λ w. w) m most h → NotAcceptor state place ≡ h
  unfit state place h one two = by ((unfit_exact kind (λ w. w) m most {X = ℕ} state place one h).1 two)
    where
      by : ◌≡◌ {A = Result ℕ DeterminizeFault} (Err (NotAcceptor state place)) (Err h) → NotAcceptor state place ≡ h
      by e = cc

  -- an acceptor has one
  fit : IsWeighted kind (graph_of m) → arcs.IsAcceptor m → (f h : DeterminizeFault) → Refuses kind (λ w. w) m most f → Refuses kind (λ w. w) m most h → f ≡ h
  fit weighted acceptor f h one two =
      let weights : IsWeighted kind (graph_of (valued (λ w. w) m)) = subst (λ (c : Machine Cost). IsWeighted kind (graph_of c)) (valued_costs m) weighted in
      let first = cause_back kind (λ w. w) m most weights acceptor f one in
      let second = cause_back kind (λ w. w) m most weights acceptor h two in
      sym first.1 ∙ (ap cause_of (one_stop (subsets kind (graph_of (valued (λ w. w) m))) most first.0 second.0 first.2 second.2) ∙ second.1)

  pub one_undetermined : One (IsUndetermined kind most m)
  one_undetermined (NotAcceptor state place) h one two = unfit state place h one.1 two.1
  one_undetermined (StateLimit limit) h one two = fit one.0 one.1.0 (StateLimit limit) h one.1 two.1
  one_undetermined TooManyArcs h one two = fit one.0 one.1.0 TooManyArcs h one.1 two.1
  one_undetermined (Overflow place) h one two = fit one.0 one.1.0 (Overflow place) h one.1 two.1
  one_undetermined Memory h one two = absurd one.1

  pub one_determinized : One (Determinizes kind m)
  one_determinized r q one two = (one_named (subsets kind (graph_of m)) one.names two.names r q one.named two.named).1
