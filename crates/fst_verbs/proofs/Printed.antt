-- `print`: a machine that has no text.
use Rattle.std.proofs.Common.{◌≡◌, ℕ, List, Err, refl, subst, inl, inr}
use Rattle.fst_semiring.specs.declared.arc_type.ArcType.{ArcType}
use Rattle.fst_semiring.specs.Cost.{Cost}
use Rattle.fst_machine.specs.Machine.{Machine}
use Rattle.fst_text.specs.Faults.{print_text}
use Rattle.fst_text.specs.Options.{Options}
use Rattle.fst_text.specs.Printed.{Prints, text_of_machine}
use Rattle.fst_text.specs.declared.fault.PrintFault.{PrintFault}
use Rattle.fst_text.specs.declared.fault.PrintFault.TheVariants.{Memory}
use Rattle.fst_verbs.specs.Causes.{faulty, refused, unmade}
use Rattle.fst_verbs.specs.Meaning.{Declines, Stops}
use Rattle.fst_verbs.specs.Told.{IsMade}
use Rattle.fst_verbs.specs.declared.refusal.Refusal.{Refusal}
use Rattle.fst_verbs.specs.declared.refusal.Refusal.TheVariants as refusals
use Rattle.fst_verbs.proofs.Refusing.{declines_made}

abbrev pub print_stops : ArcType → Options → Machine Cost → Stops
print_stops kind choices m fault = (why : PrintFault) × (text_of_machine kind choices m ≡ Err why) × (fault ≡ unmade (print_text why))

pub unprinted_declines : {X : Type 0} (view : X → List ℕ) (kind : ArcType) (mine choices : Options) (m : Machine Cost) (why : PrintFault) (refusal : Refusal) → mine ≡ choices → Prints view (Err why) (text_of_machine kind mine m)
    → IsMade (refused (faulty (unmade (print_text why)))) refusal → (why ≡ Memory → refusal ≡ refusals.Memory) → Declines (print_stops kind choices m) refusal
unprinted_declines view kind mine choices m why refusal same (inl e) made memory = inl (memory e)
unprinted_declines view kind mine choices m why refusal same (inr is) made memory =
    declines_made (print_stops kind choices m) (unmade (print_text why)) refusal (why, subst (λ (o : Options). text_of_machine kind o m ≡ Err why) same is, refl) made
