-- Counts of rules from those of the rules that they call.
use Rattle.std.proofs.Common.{◌≡◌, ◌⊎◌, inl, inr, ℕ, ◌+◌, ◌<◌, ◌≤◌, List, [], ◌∷◌, Option, None, Some, length, map, take, set, get_or, sum_by, refl, sym, ap, ap₂, ◌∙◌, subst, arith}
use Rattle.std.proofs.Math.ListN.{get_or-map}
use Rattle.std.proofs.lemmas.Bool.{cases_eq}
use Rattle.std.proofs.lemmas.List.{get_or-set_other, get_or-set_same, length-append, length-map}
use Rattle.std.proofs.lemmas.List.Sums.{sum_by-cons}
use Rattle.std.proofs.lemmas.Option.{slice_get-get_or}
use Rattle.fst_machine.specs.BreadthFirst.{Has}
use Rattle.fst_machine.specs.Machine.{Arc, State, arc_total, no_states}
use Rattle.fst_machine.proofs.Elements.{Has-append_cases, at_Has}
use Rattle.std.specs.Prelude.{Result, Ok, Err, IfOk, MatchOption}
use Rattle.fst_replace.specs.Calls.{Calling, IsChain, arcs_of, call_of, calling, calls_in, rules_in}
use Rattle.fst_replace.specs.Rules.{Labelled, labels_of, machine_at, place_of}
use Rattle.fst_replace.specs.Totals.{IsTotal}
use Rattle.fst_replace.specs.Walks.{IsOrdered, at_place}
use Rattle.fst_replace.proofs.Marking.{one_taken}

-- a sum goes by the numbers of its elements alone
pub sum_same : (f g : ℕ → ℕ) (xs : List ℕ) → ((x : ℕ) → Has xs x → f x ≡ g x) → sum_by f xs ≡ sum_by g xs
sum_same f g [] same = refl
sum_same f g (x ∷ xs) same = sum_by-cons f x xs ∙ (ap₂ (◌+◌) (same x (inl refl)) (sum_same f g xs (λ y h. same y (inr h))) ∙ sym (sum_by-cons g x xs))

-- no term is greater than the sum
pub sum_of_term : (f : ℕ → ℕ) (xs : List ℕ) (x : ℕ) → Has xs x → f x ≤ sum_by f xs
sum_of_term f [] x h = absurd h
sum_of_term f (y ∷ xs) x (inl e) = let all = sum_by-cons f y xs in let same : f y ≡ f x = ap f e in omega (arith, all, same)
sum_of_term f (y ∷ xs) x (inr h) = let all = sum_by-cons f y xs in let rest = sum_of_term f xs x h in omega (arith, all, rest)

-- an element of a list stands in a place of it
pub has_at : (xs : List ℕ) (i : ℕ) → i < length xs → Has xs (get_or xs i 0)
has_at xs i low = at_Has xs i (get_or xs i 0) (slice_get-get_or xs i 0 low)

module _ (calls : ℕ → List ℕ) (own brought order : List ℕ) (at total most : ℕ) (totals : List ℕ) (ordered : IsOrdered calls order) (low : at < length order) (below : get_or order at 0 < length totals) where
  rule : ℕ
  rule = get_or order at 0

  module _ (count : ℕ → ℕ) (right : (i : ℕ) → Has (take at order) i → (get_or totals i 0 ≡ count i) × (count i ≤ most)) (is : IsTotal calls own brought order count) where
    -- the count of the next rule is made of those that are known
    pub next_count : count (get_or order at 0) ≡ get_or own (get_or order at 0) 0 + sum_by (λ j. get_or brought j 0 + get_or totals j 0) (calls (get_or order at 0))
    next_count =
        let there = slice_get-get_or order at 0 low in
        is (get_or order at 0) (has_at order at low)
        ∙ ap (λ (n : ℕ). get_or own (get_or order at 0) 0 + n) (sum_same (λ j. get_or brought j 0 + count j) (λ j. get_or brought j 0 + get_or totals j 0) (calls (get_or order at 0)) (λ j h. ap (λ (n : ℕ). get_or brought j 0 + n) (sym (right j (ordered at (get_or order at 0) j there h)).0)))

    -- so one more is right
    pub next_right : total ≡ get_or own (get_or order at 0) 0 + sum_by (λ j. get_or brought j 0 + get_or totals j 0) (calls (get_or order at 0)) → total ≤ most → (i : ℕ) → Has (take (at + 1) order) i → (get_or (set totals (get_or order at 0) total) i 0 ≡ count i) × (count i ≤ most)
    next_right is_total small i h = by_rule (cases_eq i (get_or order at 0)) (Has-append_cases (take at order) (get_or order at 0 ∷ []) i (subst (λ zs. Has zs i) (one_taken order at (get_or order at 0) (slice_get-get_or order at 0 low)) h))
      where
        by_rule : (i ≡ get_or order at 0) ⊎ (i ≡ get_or order at 0 → ⊥) → Has (take at order) i ⊎ Has (get_or order at 0 ∷ []) i → (get_or (set totals (get_or order at 0) total) i 0 ≡ count i) × (count i ≤ most)
        by_rule (inl same) part =
            let here : total ≡ count i = is_total ∙ (sym next_count ∙ ap count (sym same)) in
            (ap (λ (k : ℕ). get_or (set totals (get_or order at 0) total) k 0) same ∙ (get_or-set_same totals (get_or order at 0) total 0 below ∙ here), omega (arith, here, small))
        by_rule (inr other) (inl old) = (get_or-set_other totals (get_or order at 0) i total 0 other ∙ (right i old).0, (right i old).1)
        by_rule (inr other) (inr (inl e)) = absurd (other (sym e))
        by_rule (inr other) (inr (inr none)) = absurd none

-- ---- the calls of a rule

-- arcs of states are as many as the states have
pub length-arcs_of : {V : Type 0} (states : List (State V)) → length (arcs_of states) ≡ arc_total states
length-arcs_of [] = refl
length-arcs_of (s ∷ states) =
    let all = sum_by-cons (λ t. length t.arcs) s states in
    omega (arith, all, length-append s.arcs (arcs_of states), length-arcs_of states)

calling_few : (o : Option ℕ) (next : ℕ) → length (calling o next) ≤ 1
calling_few None next = omega arith
calling_few (Some r) next = omega arith

-- calls are no more than arcs
pub calls_few : {V : Type 0} (labels : List ℕ) (arcs : List (Arc V ℕ)) → length (calls_in labels arcs) ≤ length arcs
calls_few labels [] = omega arith
calls_few labels (a ∷ arcs) = omega (arith, length-append (call_of labels a) (calls_in labels arcs), calling_few (place_of labels a.olabel) a.next, calls_few labels arcs)

module _ {V : Type 0} (rules : List (Labelled V)) (calls : List (List ℕ)) (are : calls ≡ map (λ r. rules_in (calls_in (labels_of rules) (arcs_of r.machine.states))) rules) where
  -- the list of calls in a place is that of the rule
  pub calls_place : (i : ℕ) → at_place calls i ≡ rules_in (calls_in (labels_of rules) (arcs_of (machine_at rules i).states))
  calls_place i = ap (λ (cs : List (List ℕ)). at_place cs i) are ∙ get_or-map (λ (r : Labelled V). rules_in (calls_in (labels_of rules) (arcs_of r.machine.states))) rules i (record { label = 0; machine = no_states })

  pub calls_place_few : (i : ℕ) → length (at_place calls i) ≤ arc_total (machine_at rules i).states
  calls_place_few i =
      let same = ap length (calls_place i) in
      let arcs = arcs_of (machine_at rules i).states in
      omega (arith, same, length-map (calls_in (labels_of rules) arcs) (λ (c : Calling). c.rule), calls_few (labels_of rules) arcs, length-arcs_of (machine_at rules i).states)

-- a count is no greater than that of a rule that reaches it
pub total_grows : (calls : ℕ → List ℕ) (own brought order : List ℕ) (count : ℕ → ℕ) → IsTotal calls own brought order count → ((i j : ℕ) → Has order i → Has (calls i) j → Has order j) → (i : ℕ) (chain : List ℕ) (j : ℕ) → Has order i → IsChain calls i chain j → count j ≤ count i
total_grows calls own brought order count is within i [] j h here = let same : count i ≡ count j = ap count here in omega (arith, same)
total_grows calls own brought order count is within i (k ∷ chain) j h goes =
    let rest = total_grows calls own brought order count is within k chain j (within i k h goes.0) goes.1 in
    let term = sum_of_term (λ z. get_or brought z 0 + count z) (calls i) k goes.0 in
    let all = is i h in
    omega (arith, rest, term, all)

-- what is found too great anywhere is so at the root
pub at_root : {T E : Type 0} (r : Result (Option T) E) (order : List ℕ) (f : ℕ → ℕ) (most : ℕ) (P : T → Type 0) → ((i : ℕ) → Has order i → f i ≤ f 0) → IfOk r (λ found. MatchOption found ((i : ℕ) × Has order i × (most < f i)) P) → IfOk r (λ found. MatchOption found (most < f 0) P)
at_root (Ok None) order f most P grows h = let low = grows h.0 h.1 in omega (arith, low, h.2)
at_root (Ok (Some t)) order f most P grows h = h
at_root (Err e) order f most P grows h = h
