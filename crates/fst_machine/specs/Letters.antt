-- What an arc says, and what a list of arcs says: strings and product. (Mohri 2009, section 3.1: the labels
-- of a path and its weight; OpenFst Quick Tour, "Finite State Transducers": label 0 is epsilon, the empty
-- string.)
use Rattle.std.specs.Prelude.{ℕ, zero, suc, List, [], ◌∷◌, map}
use Rattle.fst_semiring.specs.Cost.{Cost}
use Rattle.fst_semiring.specs.declared.arc_type.ArcType.{ArcType}
use Rattle.fst_semiring.specs.Semiring.{one_of, times}
use Rattle.fst_machine.specs.Machine.{Arc}

-- A letter: the two labels and the weight of an arc.
pub record Letter : Type 0 where
  pub ilabel : ℕ
  pub olabel : ℕ
  pub weight : Cost

-- the letter of an arc
abbrev pub letter_of : {N : Type 0} → Arc Cost N → Letter
letter_of a = record { ilabel = a.ilabel; olabel = a.olabel; weight = a.weight }

-- a label before a string: label 0 is no label
abbrev pub before : ℕ → List ℕ → List ℕ
before zero xs = xs
before (suc n) xs = suc n ∷ xs

-- the input string, without epsilon
abbrev pub input : List Letter → List ℕ
input [] = []
input (l ∷ ls) = before l.ilabel (input ls)

-- the output string, without epsilon
abbrev pub output : List Letter → List ℕ
output [] = []
output (l ∷ ls) = before l.olabel (output ls)

-- the label word of an acceptor's arcs, epsilon among them
abbrev pub label_word : List Letter → List ℕ
label_word ls = map (λ l. l.ilabel) ls

-- the product of the weights, One where there are none
abbrev pub product : ArcType → List Letter → Cost
product kind [] = one_of kind
product kind (l ∷ ls) = times kind l.weight (product kind ls)
