-- Printing and compiling are inverse.
use Rattle.std.specs.Prelude.{◌≡◌, ℕ, true, List, Ok, IsSome}
use Rattle.std.specs.List.{All}
use Rattle.fst_semiring.specs.declared.arc_type.ArcType.{ArcType}
use Rattle.fst_semiring.specs.Cost.{Cost}
use Rattle.fst_semiring.specs.Semiring.{InRange, IsCost}
use Rattle.fst_machine.specs.Machine.{IsMachine, Machine}
use Rattle.fst_text.specs.Options.{HasTables, Options}
use Rattle.fst_text.specs.Grammar.{machine_of_text}
use Rattle.fst_text.specs.Printed.{text_of_machine}

-- A weight of an arc type, with numbers in range.
pub record IsWeight (kind : ArcType) (v : Cost) : Type 0 where
  pub cost : IsCost kind v
  pub range : InRange v

-- Each weight of a machine is one.
pub record HasWeights (kind : ArcType) (m : Machine Cost) : Type 0 where
  pub final : All (λ s. IsWeight kind s.final) m.states
  pub arcs : All (λ s. All (λ a. IsWeight kind a.weight) s.arcs) m.states

-- a machine with a start that is printed and compiled with the same options and state numbers kept is the
-- same machine
abbrev pub CompilesBack : ArcType → Options → Machine Cost → Type 0
CompilesBack kind options m = (text : List ℕ) → HasTables options → IsMachine (λ v. v) m → HasWeights kind m → IsSome m.start
    → options.keep_state_numbering ≡ true → text_of_machine kind options m ≡ Ok text → machine_of_text kind options text ≡ Ok m
