-- A line has one answer.
use Rattle.std.proofs.Common.{◌≡◌, ◌⊎◌, inl, inr, ℕ, zero, suc, ◌<◌, ◌≤◌, List, [], ◌∷◌, Some, map, refl, sym, ap, ap₂, ◌∙◌, arith}
use Rattle.std.proofs.lemmas.Bool.{cases_lt}
use Rattle.fst_semiring.specs.Cost.{Cost}
use Rattle.fst_semiring.specs.declared.arc_type.ArcType.{ArcType}
use Rattle.fst_machine.specs.Graph.{Graph}
use Rattle.fst_machine.specs.PathOrder.{WeightedPath}
use Rattle.fst_machine.proofs.PathOrder.{one_IsFirst}
use Rattle.fst_lattice.specs.Lattice.{lattice}
use Rattle.fst_batch.specs.BestPaths.{IsNotText, Told, first_not_text, labels_of, told_of, valued_told}
use Rattle.fst_batch.specs.Answers.{NoneBefore, Stands, all_faults, place_of}
use Rattle.fst_batch.specs.AnswerLaws.{HasOneAnswer}
use Rattle.fst_batch.specs.declared.fault.LineFault.{LineFault}
use Rattle.fst_batch.specs.declared.fault.LineFault.TheVariants.{BadByte, ImprovingCycle, NotText, Overflow, StateLimit, TooManyArcs}
use Rattle.fst_batch.specs.declared.answer.LineAnswer.TheVariants.{Listed, Refused}

-- what is told of paths is known by the values of the weights
same_told : {V : Type 0} (value : V → Cost) → ((v w : V) → value v ≡ value w → v ≡ w) → (xs ys : List (Told V)) → map (valued_told value) xs ≡ map (valued_told value) ys → xs ≡ ys
same_told value apart [] [] e = refl
same_told value apart [] (y ∷ ys) e = absurd (cc)
same_told value apart (x ∷ xs) [] e = absurd (cc)
same_told {V} value apart (x ∷ xs) (y ∷ ys) e =
    let first : valued_told value x ≡ valued_told value y = cc in
    let rest : map (valued_told value) xs ≡ map (valued_told value) ys = cc in
    let weight : x.weight ≡ y.weight = apart x.weight y.weight (ap (λ (t : Told Cost). t.weight) first) in
    let text : x.text ≡ y.text = ap (λ (t : Told Cost). t.text) first in
    let one : x ≡ y = λ i. record { weight = weight i; text = text i } in
    ap₂ (◌∷◌) one (same_told value apart xs ys rest)

-- what a fault names
abbrev named_by : LineFault → ℕ
named_by BadByte = 0
named_by (StateLimit limit) = limit
named_by TooManyArcs = 0
named_by ImprovingCycle = 0
named_by Overflow = 0
named_by (NotText label) = label

-- a fault is known by its place in the order and what it names
abbrev fault_at : ℕ → ℕ → LineFault
fault_at zero named = BadByte
fault_at (suc zero) named = StateLimit named
fault_at (suc (suc zero)) named = TooManyArcs
fault_at (suc (suc (suc zero))) named = ImprovingCycle
fault_at (suc (suc (suc (suc zero)))) named = Overflow
fault_at (suc (suc (suc (suc (suc more))))) named = NotText named

known : (f : LineFault) → fault_at (place_of f) (named_by f) ≡ f
known BadByte = refl
known (StateLimit limit) = refl
known TooManyArcs = refl
known ImprovingCycle = refl
known Overflow = refl
known (NotText label) = refl

-- there is one first label that is no text
one_label : {N : Type 0} (kind : ArcType) (g : Graph N) (n label other : ℕ) → IsNotText kind g n label → IsNotText kind g n other → label ≡ other
one_label {N} kind g n label other one two =
    let same : one.paths ≡ two.paths = one_IsFirst kind g n one.paths two.paths one.first two.first in
    let e : Some label ≡ Some other = sym one.not_text ∙ (ap (λ (ps : List (WeightedPath N)). first_not_text (labels_of ps)) same ∙ two.not_text) in
    cc

module _ {N : Type 0} (kind : ArcType) (g : Graph N) (n limit : ℕ) (line : List ℕ) where
  -- what is named by a fault in a place, where this label is the one that is no text
  abbrev expected : ℕ → ℕ → ℕ
  expected label zero = 0
  expected label (suc zero) = limit
  expected label (suc (suc zero)) = 0
  expected label (suc (suc (suc zero))) = 0
  expected label (suc (suc (suc (suc zero)))) = 0
  expected label (suc (suc (suc (suc (suc more))))) = label

  not_text_of : (f : LineFault) → place_of f ≡ 5 → Stands kind g n limit line f → IsNotText kind (lattice line g) n (named_by f)
  not_text_of BadByte e h = absurd (omega (arith, e))
  not_text_of (StateLimit l) e h = absurd (omega (arith, e))
  not_text_of TooManyArcs e h = absurd (omega (arith, e))
  not_text_of ImprovingCycle e h = absurd (omega (arith, e))
  not_text_of Overflow e h = absurd (omega (arith, e))
  not_text_of (NotText label) e h = h

  named_is : (label : ℕ) (f : LineFault) → (place_of f ≡ 5 → IsNotText kind (lattice line g) n label) → Stands kind g n limit line f → named_by f ≡ expected label (place_of f)
  named_is label BadByte five h = refl
  named_is label (StateLimit l) five h = h.0
  named_is label TooManyArcs five h = refl
  named_is label ImprovingCycle five h = refl
  named_is label Overflow five h = refl
  named_is label (NotText other) five h = one_label kind (lattice line g) n other label h (five refl)

  -- faults in one place of the order are one
  same_place : (f h : LineFault) → place_of f ≡ place_of h → Stands kind g n limit line f → Stands kind g n limit line h → f ≡ h
  same_place f h e one two =
      let label = named_by h in
      let first : named_by f ≡ expected label (place_of f) = named_is label f (λ five. not_text_of h (sym e ∙ five) two) one in
      let second : named_by h ≡ expected label (place_of h) = named_is label h (λ five. not_text_of h five two) two in
      let named : named_by f ≡ named_by h = first ∙ (ap (expected label) e ∙ sym second) in
      sym (known f) ∙ (ap₂ fault_at e named ∙ known h)

  same_fault : (f h : LineFault) → Stands kind g n limit line f → Stands kind g n limit line h → NoneBefore kind g n limit line (place_of f) → NoneBefore kind g n limit line (place_of h) → f ≡ h
  same_fault f h one two none_f none_h = by_order (cases_lt (place_of f) (place_of h)) (cases_lt (place_of h) (place_of f))
    where
      by_order : (place_of f < place_of h) ⊎ (place_of h ≤ place_of f) → (place_of h < place_of f) ⊎ (place_of f ≤ place_of h) → f ≡ h
      by_order (inl low) other = absurd (none_h f low one)
      by_order (inr high) (inl low) = absurd (none_f h low two)
      by_order (inr high) (inr low) = same_place f h (omega (arith, high, low)) one two

  -- each has a place among all
  below_all : (f : LineFault) → place_of f < all_faults
  below_all BadByte = omega arith
  below_all (StateLimit l) = omega arith
  below_all TooManyArcs = omega arith
  below_all ImprovingCycle = omega arith
  below_all Overflow = omega arith
  below_all (NotText label) = omega arith

  pub one_answer : {V : Type 0} (value : V → Cost) → HasOneAnswer kind value g n limit line
  one_answer value apart (Listed xs) (Listed ys) one two =
      let same = one_IsFirst kind (lattice line g) n one.1.paths two.1.paths one.1.first two.1.first in
      let told : map (valued_told value) xs ≡ map (valued_told value) ys = one.1.told ∙ (ap (map told_of) same ∙ sym two.1.told) in
      ap Listed (same_told value apart xs ys told)
  one_answer value apart (Listed xs) (Refused h) one two = absurd (one.0 h (below_all h) two.1)
  one_answer value apart (Refused f) (Listed ys) one two = absurd (two.0 f (below_all f) one.1)
  one_answer value apart (Refused f) (Refused h) one two = ap Refused (same_fault f h one.1 two.1 one.0 two.0)
