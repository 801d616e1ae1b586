-- A line has one answer.
use Rattle.std.specs.Prelude.{◌≡◌, ℕ, List}
use Rattle.fst_semiring.specs.Cost.{Cost}
use Rattle.fst_semiring.specs.declared.arc_type.ArcType.{ArcType}
use Rattle.fst_machine.specs.Graph.{Graph}
use Rattle.fst_batch.specs.Answers.{IsAnswer}
use Rattle.fst_batch.specs.declared.answer.LineAnswer.{LineAnswer}

-- Where weights with one value are one weight, two answers of a line are one.
abbrev pub HasOneAnswer : {N V : Type 0} → ArcType → (V → Cost) → Graph N → ℕ → ℕ → List ℕ → Type 0
HasOneAnswer {N} {V} kind value g n limit line =
    ((v w : V) → value v ≡ value w → v ≡ w) →
    (a b : LineAnswer V) →
    IsAnswer kind g n limit line value a →
    IsAnswer kind g n limit line value b →
    a ≡ b
