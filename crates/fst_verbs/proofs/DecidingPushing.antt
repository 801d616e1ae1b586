-- `push` has one outcome.
use Rattle.std.proofs.Common.{◌≡◌, ◌⊎◌, inl, inr, Bool, refl, ap, ◌∙◌, sym}
use Rattle.fst_semiring.specs.declared.arc_type.ArcType.{ArcType}
use Rattle.fst_semiring.specs.Cost.{Cost}
use Rattle.fst_machine.specs.Cycles.{IsUseful}
use Rattle.fst_machine.specs.Graph.{graph_of}
use Rattle.fst_machine.specs.Machine.{Machine}
use Rattle.fst_search.specs.Distances.{NoneImproves}
use Rattle.fst_distance.specs.Totals.{IsPushFault, IsTotalled, IsWithin, push_text}
use Rattle.fst_distance.specs.declared.fault.PushFault.{PushFault}
use Rattle.fst_distance.specs.declared.fault.PushFault.TheVariants.{Memory}
use Rattle.fst_distance.proofs.OneAnswer.{no_fault, one_fault, one_totalled}
use Rattle.fst_verbs.specs.Causes.{faulty, refused, unmade}
use Rattle.fst_verbs.specs.Meaning.{Declines, Passes, Stops}
use Rattle.fst_verbs.specs.OneMeaning.{One}
use Rattle.fst_verbs.specs.Pushing.{Pushes}
use Rattle.fst_verbs.specs.Told.{IsMade}
use Rattle.fst_verbs.specs.declared.refusal.Refusal.{Refusal}
use Rattle.fst_verbs.specs.declared.refusal.Refusal.TheVariants as refusals
use Rattle.fst_verbs.proofs.Refusing.{declines_made}

module _ (kind : ArcType) (removed : Bool) (m : Machine Cost) where
  -- what stops it
  abbrev pub push_stops : Stops
  push_stops fault = (why : PushFault) × IsPushFault kind removed m why × (fault ≡ unmade (push_text why))

  pub one_unpushed : One push_stops
  one_unpushed f h one two = one.2 ∙ (ap unmade (one_fault kind removed m one.0 two.0 one.1 two.1) ∙ sym two.2)

  pub one_pushing : One (Pushes kind removed m)
  one_pushing r q one two = one_totalled kind removed m r q one.totalled two.totalled

  pub pushed_passes : (r : Machine Cost) → NoneImproves kind (graph_of m) (IsUseful (graph_of m)) → IsTotalled kind removed m r → IsWithin r → Passes push_stops
  pushed_passes r none totalled within fault stops = no_fault kind removed m r stops.0 none totalled within stops.1

  pub unpushed_declines : (why : PushFault) (refusal : Refusal) → IsPushFault kind removed m why ⊎ (why ≡ Memory) → IsMade (refused (faulty (unmade (push_text why)))) refusal → (why ≡ Memory → refusal ≡ refusals.Memory) → Declines push_stops refusal
  unpushed_declines why refusal (inl is) made memory = declines_made push_stops (unmade (push_text why)) refusal (why, is, refl) made
  unpushed_declines why refusal (inr is) made memory = inl (memory is)
