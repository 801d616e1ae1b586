-- The states of a machine that is given away, of which the first are forgotten.
use Rattle.std.proofs.Common.{◌≡◌, ℕ, zero, suc, ◌+◌, ◌-◌, ◌<◌, ◌≤◌, List, [], ◌∷◌, length, map, take, drop, get_or, refl, sym, ap, ◌∙◌, subst, arith}
use Rattle.std.specs.List.{All, AllByRecursion}
use Rattle.std.proofs.lemmas.List.{length-drop}
use Rattle.std.proofs.lemmas.List.Elements.{All-drop, All-map, recursion_from_All}
use Rattle.std.proofs.Math.Seq.{drop-drop}
use Rattle.fst_machine.specs.Machine.{Arc}
use Rattle.fst_machine.specs.Store.{Slot, LiesIn, kept_from, kept_state, kept_states}
use Rattle.fst_machine.specs.Forgetting.{BeginsFrom, first_back, moved_back}
use Rattle.fst_machine.proofs.Retaining.{arcs_here}

-- where a part begins that was moved back
pub first_back_is : (by first count : ℕ) → 0 < count → first_back by first count ≡ first - by
first_back_is by first zero none = absurd (omega (arith, none))
first_back_is by first (suc count) some = refl

-- a slot with no part begins nowhere
pub first_back_none : (by first count : ℕ) → count ≤ 0 → first_back by first count ≡ 0
first_back_none by first zero none = refl
first_back_none by first (suc count) none = absurd (omega (arith, none))

-- a part of the store that begins behind what was taken away, which it has still
part_back : {X : Type 0} (store : List X) (by first count : ℕ) → (0 < count → by ≤ first) → take count (drop (first_back by first count) (drop by store)) ≡ take count (drop first store)
part_back store by first zero low = refl
part_back store by first (suc count) low =
    let whole : by + (first - by) ≡ first = omega (arith, low (omega arith)) in
    ap (take (suc count)) (drop-drop (first - by) by store ∙ ap (λ n. drop n store) whole)

-- a state whose part was moved back is the same, whatever its number
state_back : {V : Type 0} (store : List (Arc V ℕ)) (by i j : ℕ) (s : Slot V) → BeginsFrom by s → kept_state (drop by store) [] i (moved_back by s) ≡ kept_state store [] j s
state_back store by i j s low =
    ap (λ arcs. record { final = s.final; arcs = arcs }) (arcs_here (drop by store) i (moved_back by s) ∙ part_back store by s.first s.count low ∙ sym (arcs_here store j s))

states_back : {V : Type 0} (store : List (Arc V ℕ)) (by i j : ℕ) (slots : List (Slot V)) → AllByRecursion (BeginsFrom by) slots → kept_from (drop by store) [] i (map (moved_back by) slots) ≡ kept_from store [] j slots
states_back store by i j [] low = refl
states_back store by i j (s ∷ slots) low =
    ap (λ t. t ∷ kept_from (drop by store) [] (suc i) (map (moved_back by) slots)) (state_back store by i j s low.0)
    ∙ ap (λ ts. kept_state store [] j s ∷ ts) (states_back store by (suc i) (suc j) slots low.1)

-- the states behind the first
drop_kept : {V : Type 0} (store : List (Arc V ℕ)) (from count : ℕ) (slots : List (Slot V)) → drop count (kept_from store [] from slots) ≡ kept_from store [] (from + count) (drop count slots)
drop_kept store from zero slots = let same : from ≡ from + 0 = omega arith in ap (λ n. kept_from store [] n slots) same
drop_kept store from (suc count) [] = refl
drop_kept store from (suc count) (s ∷ slots) = let same : suc from + count ≡ from + suc count = omega arith in drop_kept store (suc from) count slots ∙ ap (λ n. kept_from store [] n (drop count slots)) same

-- what is left where the first states are forgotten
pub kept_behind : {V : Type 0} (store : List (Arc V ℕ)) (by count : ℕ) (slots : List (Slot V)) → All (BeginsFrom by) (drop count slots) → kept_states (drop by store) [] (map (moved_back by) (drop count slots)) ≡ drop count (kept_states store [] slots)
kept_behind store by count slots low =
    states_back store by 0 (0 + count) (drop count slots) (recursion_from_All (BeginsFrom by) (drop count slots) low) ∙ sym (drop_kept store 0 count slots)

-- each part that is left lies in what is left of the store
lies_back : {V : Type 0} (n by : ℕ) (s : Slot V) → LiesIn n s → BeginsFrom by s → LiesIn (n - by) (moved_back by s)
lies_back n by s lies low some = let at = first_back_is by s.first s.count some in omega (arith, at, lies some, low some)

pub parts_behind : {V : Type 0} (store : List (Arc V ℕ)) (by count : ℕ) (slots : List (Slot V)) → All (LiesIn (length store)) slots → All (BeginsFrom by) (drop count slots) → All (LiesIn (length (drop by store))) (map (moved_back by) (drop count slots))
parts_behind {V} store by count slots lie low =
    let rest = All-drop (LiesIn (length store)) count slots lie in
    let size : length (drop by store) ≡ length store - by = length-drop by store in
    subst (λ (n : ℕ). All (LiesIn n) (map (moved_back by) (drop count slots))) (sym size)
    (All-map (LiesIn (length store - by)) (moved_back by) (drop count slots) (λ i d within. lies_back (length store) by (get_or (drop count slots) i d) (rest i d within) (low i d within)))
