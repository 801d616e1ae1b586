-- `rmepsilon`: what is left, connected or not.
use Rattle.std.proofs.Common.{◌≡◌, ◌⊎◌, inl, inr, ℕ, true, false, List, refl, sym, subst}
use Rattle.std.specs.Prelude.{◌↔◌}
use Rattle.fst_semiring.specs.declared.arc_type.ArcType.{ArcType}
use Rattle.fst_semiring.specs.Cost.{Cost}
use Rattle.fst_machine.specs.Connected.{IsConnected}
use Rattle.fst_machine.specs.Graph.{graph_of}
use Rattle.fst_machine.specs.Machine.{Machine}
use Rattle.fst_machine.specs.Relation.{IsWeight}
use Rattle.fst_machine.proofs.Connected.{connected-Rel}
use Rattle.fst_machine.proofs.Weights.{same_weight}
use Rattle.fst_epsilon.specs.Answers.{IsRemovedMachine, KeepsWeights, Stops}
use Rattle.fst_epsilon.specs.Faults.{epsilon_text}
use Rattle.fst_epsilon.specs.declared.fault.EpsilonFault.{EpsilonFault}
use Rattle.fst_epsilon.specs.declared.fault.EpsilonFault.TheVariants as faults
use Rattle.fst_words.specs.declared.options.Options.{Options}
use Rattle.fst_verbs.specs.Causes.{faulty, refused, unmade}
use Rattle.fst_verbs.specs.Composing.{IsLeft, connects}
use Rattle.fst_verbs.specs.Meaning.{Declines, Stops as Stopping}
use Rattle.fst_verbs.specs.Removing.{RemovesEpsilons}
use Rattle.fst_verbs.specs.Told.{IsMade}
use Rattle.fst_verbs.specs.declared.refusal.Refusal.{Refusal}
use Rattle.fst_verbs.specs.declared.refusal.Refusal.TheVariants as refusals
use Rattle.fst_verbs.proofs.Refusing.{declines_made}

-- as it is
pub removed-whole : (o : Options) (kind : ArcType) (m whole : Machine Cost) → connects o ≡ false → IsRemovedMachine kind m whole → KeepsWeights kind m whole → RemovesEpsilons o kind m whole
removed-whole o kind m whole plain removed keeps = record {
  whole = whole;
  removed = removed;
  left = subst (λ c. IsLeft c whole whole) (sym plain) refl;
  none = keeps.none;
  weights = keeps.weights;
}

-- and connected
pub removed-connected : (o : Options) (kind : ArcType) (m whole made : Machine Cost) → connects o ≡ true → IsRemovedMachine kind m whole → KeepsWeights kind m whole → IsConnected whole made → RemovesEpsilons o kind m made
removed-connected o kind m whole made connected removed keeps trimmed = record {
  whole = whole;
  removed = removed;
  left = subst (λ c. IsLeft c whole made) (sym connected) trimmed;
  none = keeps.none;
  weights = λ x y w.
      let on = same_weight kind (graph_of whole) (graph_of made) (λ x y w. connected-Rel whole made trimmed kind x y w) x y w in
      ((λ is. on.0 ((keeps.weights x y w).0 is)), (λ is. (keeps.weights x y w).1 (on.1 is)));
}

-- what stops it
abbrev pub epsilon_stops : ArcType → Machine Cost → Stopping
epsilon_stops kind m fault = (why : EpsilonFault) × Stops kind m why × (fault ≡ unmade (epsilon_text why))

pub unremoved_declines : (kind : ArcType) (m : Machine Cost) (why : EpsilonFault) (refusal : Refusal) → Stops kind m why ⊎ (why ≡ faults.Memory) → IsMade (refused (faulty (unmade (epsilon_text why)))) refusal
    → (why ≡ faults.Memory → refusal ≡ refusals.Memory) → Declines (epsilon_stops kind m) refusal
unremoved_declines kind m why refusal (inl stops) made memory = declines_made (epsilon_stops kind m) (unmade (epsilon_text why)) refusal (why, stops, refl) made
unremoved_declines kind m why refusal (inr is) made memory = inl (memory is)
