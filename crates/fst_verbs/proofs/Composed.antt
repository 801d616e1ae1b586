-- `compose`: what stops it, and what it makes, connected or not.
use Rattle.std.proofs.Common.{◌≡◌, ◌⊎◌, ℕ, Bool, true, false, List, Result, Ok, Err, refl, sym, subst, inl, inr}
use Rattle.fst_semiring.specs.declared.arc_type.ArcType.{ArcType}
use Rattle.fst_semiring.specs.Cost.{Cost}
use Rattle.fst_machine.specs.Machine.{Machine}
use Rattle.fst_machine.specs.Connected.{IsConnected}
use Rattle.fst_machine.specs.Graph.{graph_of}
use Rattle.fst_trim.proofs.KeptPaths.{connected_keeps}
use Rattle.fst_walk.specs.Answers.{IsNamed}
use Rattle.fst_compose.specs.Answers.{IsExactly, Refuses}
use Rattle.fst_compose.specs.Composition.{composed}
use Rattle.fst_compose.specs.Faults.{compose_text}
use Rattle.fst_compose.specs.Names.{Name}
use Rattle.fst_compose.specs.Theorem.{IsComposition}
use Rattle.fst_compose.proofs.Through.{connected_composition}
use Rattle.fst_compose.specs.declared.fault.ComposeFault.{ComposeFault}
use Rattle.fst_compose.specs.declared.fault.ComposeFault.TheVariants as faults
use Rattle.fst_words.specs.declared.options.Options.{Options}
use Rattle.fst_verbs.specs.Causes.{faulty, refused, unmade}
use Rattle.fst_verbs.specs.Composing.{IsComposed, IsGiven, IsLeft, connects}
use Rattle.fst_verbs.specs.Meaning.{Declines, Passes, Stops}
use Rattle.fst_verbs.specs.Told.{IsMade}
use Rattle.fst_verbs.specs.declared.refusal.Refusal.{Refusal}
use Rattle.fst_verbs.specs.declared.refusal.Refusal.TheVariants as refusals
use Rattle.fst_verbs.proofs.Refusing.{declines_made}

-- what stops the composition of two machines
abbrev pub compose_stops : ArcType → Machine Cost → Machine Cost → ℕ → Stops
compose_stops kind a b limit fault = (why : ComposeFault) × Refuses kind a b limit why × (fault ≡ unmade (compose_text why))

not_both : {A E : Type 0} (r : Result A E) (x : A) (e : E) → r ≡ Ok x → r ≡ Err e → ⊥
not_both r x e is_ok is_err = cc

pub composed_passes : {X : Type 0} (kind : ArcType) (a b : Machine Cost) (most limit : ℕ) (x : X) → most ≡ limit → IsExactly kind a b most {X = X} (Ok x) → Passes (compose_stops kind a b limit)
composed_passes {X} kind a b most limit x e exact fault (why, stops, is) = go ((exact why).1 (subst (λ (n : ℕ). Refuses kind a b n why) (sym e) stops)) where
  go : (◌≡◌ {A = Result X ComposeFault} (Ok x) (Err why)) ⊎ (◌≡◌ {A = Result X ComposeFault} (Ok x) (Err faults.Memory)) → ⊥
  go (inl same) = not_both {A = X} (Ok x) x why refl same
  go (inr same) = not_both {A = X} (Ok x) x faults.Memory refl same

pub uncomposed_declines : (X : Type 0) (kind : ArcType) (a b : Machine Cost) (most limit : ℕ) (fault : ComposeFault) (refusal : Refusal) → most ≡ limit → IsExactly kind a b most {X = X} (Err fault)
    → IsMade (refused (faulty (unmade (compose_text fault)))) refusal → (fault ≡ faults.Memory → refusal ≡ refusals.Memory) → Declines (compose_stops kind a b limit) refusal
uncomposed_declines X kind a b most limit fault refusal e exact made memory = go ((exact fault).0 refl) where
  go : Refuses kind a b most fault ⊎ (fault ≡ faults.Memory) → Declines (compose_stops kind a b limit) refusal
  go (inl stops) = declines_made (compose_stops kind a b limit) (unmade (compose_text fault)) refusal (fault, subst (λ (n : ℕ). Refuses kind a b n fault) e stops, refl) made
  go (inr is) = inl (memory is)

-- the composition as it is
composed-whole : (options : Options) (kind : ArcType) (a b whole : Machine Cost) (names : List (Name ℕ ℕ)) → connects options ≡ false → IsNamed (composed kind (graph_of a) (graph_of b)) names whole → IsComposition kind (graph_of a) (graph_of b) names whole → IsComposed options kind a b whole
composed-whole options kind a b whole names plain named composes = record {
  names = names;
  whole = whole;
  named = named;
  given = subst (λ c. IsGiven kind a b names whole c whole) (sym plain) (refl, composes);
  denotes = composes.says;
}

-- and connected
composed-connected : (options : Options) (kind : ArcType) (a b whole made : Machine Cost) (names : List (Name ℕ ℕ)) → connects options ≡ true → IsNamed (composed kind (graph_of a) (graph_of b)) names whole → IsComposition kind (graph_of a) (graph_of b) names whole → IsConnected whole made → IsComposed options kind a b made
composed-connected options kind a b whole made names connected named composes trimmed =
    let keeps = connected_keeps whole made trimmed kind in
    let all = connected_composition kind (graph_of a) (graph_of b) names whole made trimmed.kept composes keeps in
    record {
      names = names;
      whole = whole;
      named = named;
      given = subst (λ c. IsGiven kind a b names whole c made) (sym connected) (trimmed, all);
      denotes = all.says;
    }

-- what is left of it
pub composed-left : (options : Options) (kind : ArcType) (a b whole made : Machine Cost) (names : List (Name ℕ ℕ)) → IsNamed (composed kind (graph_of a) (graph_of b)) names whole → IsComposition kind (graph_of a) (graph_of b) names whole → IsLeft (connects options) whole made → IsComposed options kind a b made
composed-left options kind a b whole made names named composes left = by (connects options) refl left
  where
    by : (connected : Bool) → connects options ≡ connected → IsLeft connected whole made → IsComposed options kind a b made
    by true is trimmed = composed-connected options kind a b whole made names is named composes trimmed
    by false is same = subst (λ (m : Machine Cost). IsComposed options kind a b m) (sym same) (composed-whole options kind a b whole names is named composes)
