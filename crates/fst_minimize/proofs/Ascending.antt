-- Arcs sorted by labels, where no two have one label.
use Rattle.std.proofs.Common.{◌≡◌, ◌≢◌, ◌⊎◌, inl, inr, ℕ, ◌<◌, ◌≤◌, ◌==◌, suc, cond, List, [], ◌∷◌, Some, get_or, slice_get, sum_by, sym, refl, ap, ◌∙◌, arith}
use Rattle.std.specs.List.Sorted.{IsPermutation, IsNonDecreasingBy}
use Rattle.std.proofs.lemmas.Bool.{cases_eq, eq-eqb, ne_eqb}
use Rattle.std.proofs.lemmas.List.Sums.{sum_by-cons}
use Rattle.std.proofs.lemmas.List.Sorted.{sum_by-IsPermutation}
use Rattle.std.proofs.lemmas.Option.{get_or_from_slice_get}
use Rattle.fst_semiring.specs.Cost.{Cost}
use Rattle.fst_machine.specs.Machine.{Arc}
use Rattle.fst_machine.specs.BreadthFirst.{Has}
use Rattle.fst_machine.proofs.Elements.{Has_at}
use Rattle.fst_minimize.specs.Described.{OncePlaced}
use Rattle.fst_minimize.specs.Refining.{LabelsAscend}

-- 1 where an arc has the label
abbrev pub one_if : ℕ → Arc Cost ℕ → ℕ
one_if label a = cond (a.ilabel == label) 1 0

-- how many arcs have the label
abbrev pub with_label : ℕ → List (Arc Cost ℕ) → ℕ
with_label label arcs = sum_by (one_if label) arcs

one_where : (label : ℕ) (a : Arc Cost ℕ) → a.ilabel ≡ label → one_if label a ≡ 1
one_where label a e = ap (λ b. cond b 1 0) (eq-eqb a.ilabel label e)

none_where : (label : ℕ) (a : Arc Cost ℕ) → a.ilabel ≢ label → one_if label a ≡ 0
none_where label a e = ap (λ b. cond b 1 0) (ne_eqb a.ilabel label e)

-- where no arc has it there is none
none_with : (label : ℕ) (arcs : List (Arc Cost ℕ)) → ((k : ℕ) (a : Arc Cost ℕ) → slice_get arcs k ≡ Some a → a.ilabel ≢ label) → with_label label arcs ≡ 0
none_with label [] none = refl
none_with label (a ∷ arcs) none =
    let sum = sum_by-cons (one_if label) a arcs in
    let here = none_where label a (none 0 a refl) in
    let rest = none_with label arcs (λ k b e. none (suc k) b e) in
    omega (arith, sum, here, rest)

-- and where an arc has it there is one
some_with : (label : ℕ) (arcs : List (Arc Cost ℕ)) (a : Arc Cost ℕ) → Has arcs a → a.ilabel ≡ label → 1 ≤ with_label label arcs
some_with label [] a h e = absurd h
some_with label (b ∷ arcs) a (inl same) e =
    let sum = sum_by-cons (one_if label) b arcs in
    let here = one_where label b (ap (λ (x : Arc Cost ℕ). x.ilabel) same ∙ e) in
    omega (arith, sum, here)
some_with label (b ∷ arcs) a (inr h) e = let sum = sum_by-cons (one_if label) b arcs in let rest = some_with label arcs a h e in omega (arith, sum, rest)

-- a label that stands in one place at most is that of one arc at most
once_few : (label : ℕ) (arcs : List (Arc Cost ℕ)) → OncePlaced arcs → with_label label arcs ≤ 1
once_few label [] once = omega arith
once_few label (a ∷ arcs) once = by (once_few label arcs tail) (cases_eq a.ilabel label)
  where
    tail : OncePlaced arcs
    tail i j x y e f l = let same = once (suc i) (suc j) x y e f l in omega arith

    by : with_label label arcs ≤ 1 → (a.ilabel ≡ label) ⊎ (a.ilabel ≢ label) → with_label label (a ∷ arcs) ≤ 1
    by rest (inl here) =
        let sum = sum_by-cons (one_if label) a arcs in
        let one = one_where label a here in
        let none = none_with label arcs (λ k b e same. absurd (let z = once 0 (suc k) a b refl e (here ∙ sym same) in omega arith)) in
        omega (arith, sum, one, none)
    by rest (inr other) = let sum = sum_by-cons (one_if label) a arcs in let none = none_where label a other in omega (arith, sum, none, rest)

-- sorted arcs of which no two have one label
ascend : (arcs : List (Arc Cost ℕ)) → ((label : ℕ) → with_label label arcs ≤ 1) → IsNonDecreasingBy (λ (a : Arc Cost ℕ). a.ilabel) arcs → LabelsAscend arcs
ascend [] few sorted = tt
ascend (a ∷ arcs) few sorted = (first, ascend arcs rest (λ i j d order low. sorted (suc i) (suc j) d (omega arith) (omega arith)))
  where
    rest : (label : ℕ) → with_label label arcs ≤ 1
    rest label = let sum = sum_by-cons (one_if label) a arcs in let all = few label in omega (arith, sum, all)

    first : (b : Arc Cost ℕ) → Has arcs b → a.ilabel < b.ilabel
    first b h = by (cases_eq a.ilabel b.ilabel)
      where
        by : (a.ilabel ≡ b.ilabel) ⊎ (a.ilabel ≢ b.ilabel) → a.ilabel < b.ilabel
        by (inl same) =
            let sum = sum_by-cons (one_if a.ilabel) a arcs in
            let one = one_where a.ilabel a refl in
            let other = some_with a.ilabel arcs b h (sym same) in
            let all = few a.ilabel in
            absurd (omega (arith, sum, one, other, all))
        by (inr other) =
            let at = Has_at arcs b h in
            let low = at.2 in
            let order = sorted 0 (suc at.0) a (omega arith) (omega arith) in
            let here : get_or arcs at.0 a ≡ b = get_or_from_slice_get arcs at.0 b a at.1 in
            let label : (get_or arcs at.0 a).ilabel ≡ b.ilabel = ap (λ (x : Arc Cost ℕ). x.ilabel) here in
            omega (arith, order, label)

-- arcs of which no two have one label, sorted
pub sorted_ascend : (arcs new : List (Arc Cost ℕ)) → OncePlaced arcs → IsPermutation arcs new → IsNonDecreasingBy (λ (a : Arc Cost ℕ). a.ilabel) new → LabelsAscend new
sorted_ascend arcs new once moved sorted =
    ascend new (λ label. let same = sum_by-IsPermutation (one_if label) arcs new moved in let few = once_few label arcs once in omega (arith, same, few)) sorted
