use Rattle.std.proofs.Common.{◌≡◌, Option, None, Some, refl, to_z, of_z, arith}
use mir.Syntax.{w128}
use Rattle.std.specs.Prelude.{IfNone, pos}
use Rattle.std.proofs.lemmas.Int.{ints}
use Rattle.fst_semiring.specs.Cost.{finite}
use Rattle.fst_semiring.specs.Semiring.{IsSmall}
use Rattle.fst_plain.proofs.cost.tropical_number.Goals as goal

-- what follows from what a clause says where there is no value
none_then : {X A B : Type 0} (r : Option X) → IfNone r A → (A → B) → IfNone r B
none_then None h f = f h
none_then (Some x) h f = tt

pub returns-clause-none : goal.returns-clause-none
returns-clause-none c = none_then c.from_key.result c.from_key.ensures.none (λ none small. let zero : IsSmall (pos 0) = (omega (arith, ints), omega (arith, ints)) in let same : c.args.number ≡ to_z w128 (of_z w128 c.from.result) = omega (arith, ints, c.from.ensures) in none (finite c.args.number (pos 0)) refl (small, zero) (λ i. record { class = 1; first = same i; second = pos 0 }))
