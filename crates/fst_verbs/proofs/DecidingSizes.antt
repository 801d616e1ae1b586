-- One size stands against a machine that is too large, and one cause against the machine of rules.
use Rattle.std.proofs.Common.{◌≡◌, ◌⊎◌, inl, inr, ℕ, ◌<◌, ◌≤◌, List, slice_get, refl, sym, ap, ◌∙◌, arith}
use Rattle.std.proofs.lemmas.Bool.{cases_lt}
use Rattle.std.proofs.lemmas.Option.{same_Some}
use Rattle.fst_semiring.specs.Cost.{Cost}
use Rattle.fst_machine.specs.Machine.{Machine}
use Rattle.fst_rational.specs.declared.fault.RationalFault.TheVariants as sizes
use Rattle.fst_replace.specs.Answers.{IsCause}
use Rattle.fst_replace.specs.Calls.{IsFirstRecursive, called}
use Rattle.fst_replace.specs.Rules.{Labelled, labels_of}
use Rattle.fst_replace.specs.declared.fault.ReplaceFault.TheVariants.{Memory, Recursive, TooManyArcs, TooManyStates}
use Rattle.fst_verbs.specs.OneMeaning.{One}
use Rattle.fst_verbs.specs.Rational.{IsPast, too_large}
use Rattle.fst_verbs.proofs.Deciding.{one_told}

one_past : (m : Machine Cost) → One (IsPast m)
one_past m sizes.TooManyStates sizes.TooManyStates one two = refl
one_past m sizes.TooManyStates sizes.TooManyArcs one two = absurd (omega (arith, one, two.0))
one_past m sizes.TooManyStates sizes.Memory one two = absurd two
one_past m sizes.TooManyArcs sizes.TooManyStates one two = absurd (omega (arith, one.0, two))
one_past m sizes.TooManyArcs sizes.TooManyArcs one two = refl
one_past m sizes.TooManyArcs sizes.Memory one two = absurd two
one_past m sizes.Memory other one two = absurd one

-- a machine that is too large has one fault
pub one_too_large : (m : Machine Cost) → One (too_large m)
one_too_large m = one_told (IsPast m) _ (one_past m)

one_recursive : (calls : ℕ → List ℕ) (i j : ℕ) → IsFirstRecursive calls i → IsFirstRecursive calls j → i ≡ j
one_recursive calls i j one two = by (cases_lt i j) (cases_lt j i)
  where
    by : (i < j) ⊎ (j ≤ i) → (j < i) ⊎ (i ≤ j) → i ≡ j
    by (inl low) more = absurd (two.first i low one.recursive)
    by (inr high) (inl low) = absurd (one.first j low two.recursive)
    by (inr high) (inr low) = omega (arith, high, low)

-- rules have one cause
pub one_cause : (rules : List (Labelled Cost)) → One (IsCause rules)
one_cause rules (Recursive label) (Recursive other) one two =
    let place = one_recursive (called rules) one.0 two.0 one.2 two.2 in
    let same : label ≡ other = same_Some label other (sym one.1 ∙ (ap (slice_get (labels_of rules)) place ∙ two.1)) in
    ap Recursive same
one_cause rules (Recursive label) TooManyStates one two = absurd (two.0 one.0 one.2.recursive)
one_cause rules (Recursive label) TooManyArcs one two = absurd (two.0 one.0 one.2.recursive)
one_cause rules (Recursive label) Memory one two = absurd two
one_cause rules TooManyStates (Recursive label) one two = absurd (one.0 two.0 two.2.recursive)
one_cause rules TooManyStates TooManyStates one two = refl
one_cause rules TooManyStates TooManyArcs one two = absurd (omega (arith, one.1, two.1))
one_cause rules TooManyStates Memory one two = absurd two
one_cause rules TooManyArcs (Recursive label) one two = absurd (one.0 two.0 two.2.recursive)
one_cause rules TooManyArcs TooManyStates one two = absurd (omega (arith, one.1, two.1))
one_cause rules TooManyArcs TooManyArcs one two = refl
one_cause rules TooManyArcs Memory one two = absurd two
one_cause rules Memory other one two = absurd one
