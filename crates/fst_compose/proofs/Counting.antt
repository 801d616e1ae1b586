-- How many steps searches take together.
use Rattle.std.proofs.Common.{ℕ, ◌+◌, ◌*◌, ◌≤◌, arith}
use Rattle.std.proofs.Math.Nat.{mul-le-mul_right}
use Rattle.fst_trim.specs.Runs.{TakesSteps}

pub no_steps : (times n steps : ℕ) → TakesSteps times n steps steps
no_steps times n steps digits written = omega arith

-- more arcs, and more searches
pub more_steps : (less few more many old new : ℕ) → less ≤ more → few ≤ many → TakesSteps less few old new → TakesSteps more many old new
more_steps less few more many old new times arcs h digits written =
    let so_far = h digits (omega arith) in
    let grown : less * digits ≤ more * digits = mul-le-mul_right digits times in
    omega arith

-- one after the other
pub then_steps : (times more all n old mid new : ℕ) → TakesSteps times n old mid → TakesSteps more n mid new → times + more ≤ all → TakesSteps all n old new
then_steps times more all n old mid new one two enough digits written =
    let first = one digits written in
    let second = two digits written in
    let grown : (times + more) * digits ≤ all * digits = mul-le-mul_right digits enough in
    omega arith
