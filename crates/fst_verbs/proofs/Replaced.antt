-- `replace`: what stops it.
use Rattle.std.proofs.Common.{◌≡◌, ◌⊎◌, ℕ, List, map, Result, Ok, Err, refl, inl, inr}
use Rattle.fst_semiring.specs.Cost.{Cost}
use Rattle.fst_replace.specs.Answers.{IsCause, IsLimited, Recurs}
use Rattle.fst_replace.specs.Faults.{replace_text}
use Rattle.fst_replace.specs.Rules.{Labelled}
use Rattle.fst_replace.specs.declared.fault.ReplaceFault.{ReplaceFault}
use Rattle.fst_replace.specs.declared.fault.ReplaceFault.TheVariants.{Recursive, TooManyStates, TooManyArcs, Memory}
use Rattle.fst_verbs.specs.Causes.{faulty, refused, unmade}
use Rattle.fst_verbs.specs.Meaning.{Declines, Made, Passes, Settles, Stops}
use Rattle.fst_verbs.specs.Replacing.{replace_meaning}
use Rattle.fst_verbs.specs.Seeing.{given_seen, just}
use Rattle.fst_verbs.specs.declared.given.Given.{Given as DeclaredGiven}
use Rattle.fst_machine.specs.Machine.{Machine, valued}
use Rattle.fst_semiring.specs.declared.arc_type.ArcType.{ArcType}
use Rattle.fst_verbs.proofs.Settled.{settled}
use Rattle.fst_verbs.specs.Told.{IsMade}
use Rattle.fst_verbs.specs.declared.refusal.Refusal.{Refusal}
use Rattle.fst_verbs.specs.declared.refusal.Refusal.TheVariants as refusals
use Rattle.fst_verbs.proofs.Refusing.{declines_made}

abbrev pub replace_stops : List (Labelled Cost) → Stops
replace_stops rules fault = (why : ReplaceFault) × IsCause rules why × (fault ≡ unmade (replace_text why))

not_both : {A E : Type 0} (r : Result A E) (x : A) (e : E) → r ≡ Ok x → r ≡ Err e → ⊥
not_both r x e is_ok is_err = cc

pub replaced_passes : {X : Type 0} (rules : List (Labelled Cost)) (x : X) → Recurs {X = X} rules (Ok x) → IsLimited {X = X} rules (Ok x) → Passes (replace_stops rules)
replaced_passes {X} rules x recurs limits fault (why, stops, is) = go why stops where
  none : (f : ReplaceFault) → (◌≡◌ {A = Result X ReplaceFault} (Ok x) (Err f)) ⊎ (◌≡◌ {A = Result X ReplaceFault} (Ok x) (Err Memory)) → ⊥
  none f (inl e) = not_both {A = X} (Ok x) x f refl e
  none f (inr e) = not_both {A = X} (Ok x) x Memory refl e

  go : (f : ReplaceFault) → IsCause rules f → ⊥
  go (Recursive label) s = none (Recursive label) ((recurs label).1 s)
  go TooManyStates s = none TooManyStates (limits.states.1 s)
  go TooManyArcs s = none TooManyArcs (limits.arcs.1 s)
  go Memory s = s

pub unreplaced_declines : (X : Type 0) (rules : List (Labelled Cost)) (why : ReplaceFault) (refusal : Refusal) → Recurs {X = X} rules (Err why) → IsLimited {X = X} rules (Err why)
    → IsMade (refused (faulty (unmade (replace_text why)))) refusal → (why ≡ Memory → refusal ≡ refusals.Memory) → Declines (replace_stops rules) refusal
unreplaced_declines X rules (Recursive label) refusal recurs limits made memory = declines_made (replace_stops rules) (unmade (replace_text (Recursive label))) refusal (Recursive label, (recurs label).0 refl, refl) made
unreplaced_declines X rules TooManyStates refusal recurs limits made memory = declines_made (replace_stops rules) (unmade (replace_text TooManyStates)) refusal (TooManyStates, limits.states.0 refl, refl) made
unreplaced_declines X rules TooManyArcs refusal recurs limits made memory = declines_made (replace_stops rules) (unmade (replace_text TooManyArcs)) refusal (TooManyArcs, limits.arcs.0 refl, refl) made
unreplaced_declines X rules Memory refusal recurs limits made memory = inl (memory refl)

pub settles_replaced : {W X : Type 0} (labels : List ℕ) (kind : ArcType) (value : W → Cost) (g : DeclaredGiven W X) (ms : List (Machine W)) (r : Result Made Refusal) → g.machines.items ≡ ms
    → Settles (replace_meaning labels) (just kind (map (valued value) ms)) r → Settles (replace_meaning labels) (given_seen kind value g) r
settles_replaced labels kind value g ms (Ok made) e h = settled (replace_meaning labels) kind value g ms (Ok made) e h
settles_replaced labels kind value g ms (Err refusal) e h = settled (replace_meaning labels) kind value g ms (Err refusal) e h
