-- `prune` has one outcome.
use Rattle.std.proofs.Common.{◌≡◌, List, Option, None, Some, refl, sym, ◌∙◌, subst}
use Rattle.std.proofs.lemmas.Option.{same_Some}
use Rattle.fst_semiring.specs.declared.arc_type.ArcType.{ArcType}
use Rattle.fst_semiring.specs.Cost.{Cost}
use Rattle.fst_machine.specs.Cycles.{IsUseful}
use Rattle.fst_machine.specs.Graph.{graph_of}
use Rattle.fst_machine.specs.Machine.{Machine}
use Rattle.fst_machine.specs.declared.path.Step.{Step}
use Rattle.fst_search.specs.Distances.{IsListed, NoneImproves}
use Rattle.fst_select.specs.Pruned.{IsPruned}
use Rattle.fst_select.specs.Refusals.{IfImproves}
use Rattle.fst_select.specs.declared.fault.PruneFault.{PruneFault}
use Rattle.fst_select.specs.declared.fault.PruneFault.TheVariants as faults
use Rattle.fst_select.proofs.OnePruned.{one_pruned}
use Rattle.fst_verbs.specs.OneMeaning.{One}
use Rattle.fst_verbs.specs.Pruning.{IsUnpruned, Prunes}
use Rattle.fst_verbs.specs.declared.commands.pruning.Unpruned.{Unpruned}
use Rattle.fst_verbs.specs.declared.commands.pruning.Unpruned.TheVariants.{BadThreshold, ImprovingCycle}

module _ (threshold : Option Cost) (kind : ArcType) (m : Machine Cost) where
  pub one_unpruned : One (IsUnpruned threshold kind m)
  one_unpruned BadThreshold BadThreshold one two = refl
  one_unpruned BadThreshold ImprovingCycle one two = absurd (two.0 one)
  one_unpruned ImprovingCycle BadThreshold one two = absurd (one.0 two)
  one_unpruned ImprovingCycle ImprovingCycle one two = refl

  pub one_prunes : One (Prunes threshold kind m)
  one_prunes r q one two =
      let same : two.factor ≡ one.factor = same_Some two.factor one.factor (sym two.stands ∙ one.stands) in
      one_pruned kind one.factor m r q one.pruned (subst (λ (t : Cost). IsPruned kind t m q) same two.pruned)

  -- nothing stands against what is made
  pub pruned_passes : (factor : Cost) → threshold ≡ Some factor → NoneImproves kind (graph_of m) (IsUseful (graph_of m)) → (why : Unpruned) → IsUnpruned threshold kind m why → ⊥
  pruned_passes factor stands none BadThreshold e = absurd (let wrong : None ≡ Some factor = sym e ∙ stands in cc)
  pruned_passes factor stands none ImprovingCycle h = none h.1.0 h.1.1 h.1.2 h.1.3

  -- a threshold that stands, and a listed cycle
  pub unpruned : (factor : Cost) → threshold ≡ Some factor → (steps : List Step) → IsListed kind (graph_of m) (IsUseful (graph_of m)) steps → IsUnpruned threshold kind m ImprovingCycle
  unpruned factor stands steps l = ((λ e. absurd (let wrong : None ≡ Some factor = sym e ∙ stands in cc)), (l.state, l.cycle, l.counts, l.improves))

-- the cycle of a fault
pub listed : (f : PruneFault) (cycle : List Step) (P : List Step → Type 0) → f ≡ faults.ImprovingCycle cycle → IfImproves f P → P cycle
listed f cycle P e h = subst (λ (f : PruneFault). IfImproves f P) e h
