-- The counts of expansions, and the table of rules.
use Rattle.std.proofs.Common.{◌≡◌, ◌⊎◌, inl, inr, ℕ, ◌+◌, ◌<◌, ◌≤◌, List, [], ◌∷◌, Option, None, Some, length, map, get_or, sum_by, refl, sym, ap, ap₂, ◌∙◌, subst, arith}
use Rattle.std.specs.Prelude.{IfOk, IfSome, MatchOption, Result}
use Rattle.std.proofs.Math.ListN.{get_or-map}
use Rattle.std.proofs.lemmas.Bool.{cases_lt}
use Rattle.std.proofs.lemmas.List.{length-map, get_or_past}
use Rattle.fst_semiring.specs.Cost.{Cost}
use Rattle.fst_machine.specs.BreadthFirst.{Has}
use Rattle.fst_machine.specs.Machine.{Arc, Machine, IsMachine, arc_total, most_arcs, most_states, no_states, valued}
use Rattle.std.specs.Prelude.{nat_eq}
use Rattle.std.proofs.lemmas.List.{map-append}
use Rattle.std.proofs.lemmas.List.Elements.{All-nil}
use Rattle.std.proofs.lemmas.List.Quantifiers.{position-Some}
use Rattle.fst_machine.proofs.Elements.{Has-append_cases}
use Rattle.fst_machine.proofs.Valued.{IsMachine-valued}
use Rattle.fst_replace.specs.Calls.{Calling, HasNoRecursion, Reaches, arcs_of, call_of, called, calling, calls_in, rules_in}
use Rattle.fst_replace.proofs.Goodness.{expansion_good}
use Rattle.fst_replace.specs.Expansion.{Shape, expanded, expansion, replaced, shape_of}
use Rattle.fst_replace.specs.Rules.{IsRules, Labelled, labels_of, machine_at, place_of, valued_rules}
use Rattle.fst_replace.specs.Totals.{AreCounts, IsTable, IsTotal, arcs_in, brings, shape_at, states_in}
use Rattle.fst_replace.specs.Walks.{IsClosed, IsOrdered, at_place}
use Rattle.fst_replace.proofs.Counting.{at_root, calls_place, sum_same, total_grows}
use Rattle.fst_replace.proofs.Expanding.{expanded_arcs, expanded_brings, expanded_length, expansion_stays}
use Rattle.fst_replace.proofs.Settling.{Settled, ordered_free, ordered_reaches, ordered_settled, settled_soon}
use Rattle.fst_replace.proofs.Valuing.{calls_are, machine_valued, size_is}

module _ {V : Type 0} (value : V → Cost) (rules : List (Labelled V)) (calls : List (List ℕ)) (are : calls ≡ map (λ r. rules_in (calls_in (labels_of rules) (arcs_of r.machine.states))) rules) where
  -- the calls that are kept are those of the rules
  pub calls_kept : (i : ℕ) → at_place calls i ≡ called (valued_rules value rules) i
  calls_kept i = calls_place rules calls are i ∙ ap rules_in (sym (calls_are value rules i))

  pub calls_kept_all : at_place calls ≡ called (valued_rules value rules)
  calls_kept_all = λ k i. calls_kept i k

  module _ (closed : IsClosed calls) (order : List ℕ) (ordered : IsOrdered (at_place calls) order) (listed : (j : ℕ) → Has order j → j < length calls) where
    count_is : length calls ≡ length (valued_rules value rules)
    count_is = ap length are ∙ (length-map {B = List ℕ} rules (λ r. rules_in (calls_in (labels_of rules) (arcs_of r.machine.states))) ∙ sym (length-map {B = Labelled Cost} rules (λ r. record { label = r.label; machine = valued value r.machine })))

    -- expansions of the order are those of their calls
    pub order_expands : (i : ℕ) → Has order i → expansion (valued_rules value rules) (length (valued_rules value rules)) i ≡ expanded (labels_of (valued_rules value rules)) (expansion (valued_rules value rules) (length (valued_rules value rules))) (machine_at (valued_rules value rules) i)
    order_expands i h =
        let some = ordered_settled (at_place calls) order ordered i h in
        let soon = settled_soon (at_place calls) (length calls) closed some.0 i some.1 (listed i h) in
        expansion_stays (valued_rules value rules) (length (valued_rules value rules)) i (subst (λ (n : ℕ). Settled (called (valued_rules value rules)) n i) count_is (subst (λ f. Settled f (length calls) i) calls_kept_all soon))

    pub in_order : (i j : ℕ) → Has order i → Has (at_place calls i) j → Has order j
    in_order i j h has = ordered_reaches (at_place calls) order ordered i (j ∷ []) j h (has, refl)

    -- what was counted in this order is above the limit at the root, or nowhere
    pub counted : {T E : Type 0} {own own_is brought brought_is : List ℕ} {count : ℕ → ℕ} (most : ℕ) (r : Result (Option T) E) (P : (ℕ → ℕ) → T → Type 0) → own ≡ own_is → brought ≡ brought_is → IsTotal (at_place calls) own_is brought_is order count → Has order 0 → ((j : ℕ) → Has order j → Reaches (at_place calls) 0 j) → ((f : ℕ → ℕ) → IsTotal (at_place calls) own brought order f → IfOk r (λ found. MatchOption found ((i : ℕ) × Has order i × (most < f i)) (P f))) → IfOk r (λ found. MatchOption found (most < count 0) (P count))
    counted {T} {E} {own} {own_is} {brought} {brought_is} {count} most r P e d total root reached answer =
        let first : IsTotal (at_place calls) own brought order count = subst (λ (zs : List ℕ). IsTotal (at_place calls) zs brought order count) (sym e) (subst (λ (zs : List ℕ). IsTotal (at_place calls) own_is zs order count) (sym d) total) in
        at_root r order count most (P count) (λ i h. (let chain = reached i h in total_grows (at_place calls) own brought order count first in_order 0 chain.0 i root chain.1)) (answer count first)

    pub total_states : IsTotal (at_place calls) (map (λ r. length r.machine.states) rules) (map {B = ℕ} (λ r. 0) rules) order (states_in (valued_rules value rules))
    total_states i h =
        let m = expansion (valued_rules value rules) (length (valued_rules value rules)) in
        let none : (j : ℕ) → ◌≡◌ {A = ℕ} (get_or (map {B = ℕ} (λ (r : Labelled V). 0) rules) j 0) 0 = λ j. get_or-map {B = ℕ} (λ (r : Labelled V). 0) rules j (record { label = 0; machine = no_states }) in
        let own : get_or (map (λ (r : Labelled V). length r.machine.states) rules) i 0 ≡ length (machine_at rules i).states = get_or-map (λ (r : Labelled V). length r.machine.states) rules i (record { label = 0; machine = no_states }) in
        let all = ap (λ (z : Machine Cost). length z.states) (order_expands i h) ∙ expanded_length (labels_of (valued_rules value rules)) m (machine_at (valued_rules value rules) i) in
        let same = sum_same (λ j. get_or (map {B = ℕ} (λ (r : Labelled V). 0) rules) j 0 + length (m j).states) (λ j. length (m j).states) (at_place calls i) (λ j has. (let zero_is = ap (λ (n : ℕ). n + length (m j).states) (none j) in omega (arith, zero_is))) in
        let sums = ap (sum_by (λ (j : ℕ). length (m j).states)) (calls_kept i) in
        let size = size_is value rules i in
        omega (arith, all, own, same, sums, size)

    pub total_arcs : (plain : List ℕ) → ((i : ℕ) → i < length rules → get_or plain i 0 + length (at_place calls i) ≡ arc_total (machine_at rules i).states) → (total_valued : (i : ℕ) → arc_total (machine_at (valued_rules value rules) i).states ≡ arc_total (machine_at rules i).states) → IsTotal (at_place calls) plain (map (λ r. brings (valued value r.machine)) rules) order (arcs_in (valued_rules value rules))
    total_arcs plain counts total_valued i h =
        let m = expansion (valued_rules value rules) (length (valued_rules value rules)) in
        let low : i < length rules = let a = listed i h in let b = length-map {B = List ℕ} rules (λ r. rules_in (calls_in (labels_of rules) (arcs_of r.machine.states))) in let c = ap length are in omega (arith, a, b, c) in
        let brought : (j : ℕ) → get_or (map (λ (r : Labelled V). brings (valued value r.machine)) rules) j 0 ≡ brings (machine_at (valued_rules value rules) j) = λ j. get_or-map (λ (r : Labelled V). brings (valued value r.machine)) rules j (record { label = 0; machine = no_states }) ∙ ap brings (sym (machine_valued value rules j)) in
        let all = ap (λ (z : Machine Cost). arc_total z.states) (order_expands i h) in
        let law = expanded_arcs (labels_of (valued_rules value rules)) m (machine_at (valued_rules value rules) i) in
        let same = sum_same (λ j. get_or (map (λ (r : Labelled V). brings (valued value r.machine)) rules) j 0 + arc_total (m j).states) (λ j. brings (m j) + arc_total (m j).states) (at_place calls i) (λ j has. ap (λ (n : ℕ). n + arc_total (m j).states) (brought j ∙ (sym (expanded_brings (labels_of (valued_rules value rules)) m (machine_at (valued_rules value rules) j)) ∙ ap brings (sym (order_expands j (in_order i j h has)))))) in
        let sums = ap (sum_by (λ (j : ℕ). brings (m j) + arc_total (m j).states)) (calls_kept i) in
        let size = ap length (calls_kept i) in
        let own = counts i low in
        let old = total_valued i in
        omega (arith, all, law, same, sums, size, own, old)

-- a rule that is called is one of the rules
calling_within : (n : ℕ) (o : Option ℕ) (next : ℕ) → IfSome o (λ r. r < n) → (j : ℕ) → Has (rules_in (calling o next)) j → j < n
calling_within n None next h j has = absurd has
calling_within n (Some r) next h j (inl e) = subst (λ (z : ℕ). z < n) e h
calling_within n (Some r) next h j (inr none) = absurd none

place_within : (labels : List ℕ) (label : ℕ) (o : Option ℕ) → place_of labels label ≡ o → IfSome o (λ r. r < length labels)
place_within labels label None e = tt
place_within labels label (Some r) e = (position-Some (nat_eq label) labels r 0 e).0

rules_within : {V : Type 0} (labels : List ℕ) (arcs : List (Arc V ℕ)) (j : ℕ) → Has (rules_in (calls_in labels arcs)) j → j < length labels
rules_within labels [] j h = absurd h
rules_within labels (a ∷ arcs) j h = by_part (rules_within labels arcs j) (Has-append_cases (rules_in (call_of labels a)) (rules_in (calls_in labels arcs)) j (subst (λ zs. Has zs j) (map-append (λ (c : Calling). c.rule) (call_of labels a) (calls_in labels arcs)) h))
  where
    by_part : (Has (rules_in (calls_in labels arcs)) j → j < length labels) → Has (rules_in (call_of labels a)) j ⊎ Has (rules_in (calls_in labels arcs)) j → j < length labels
    by_part more (inl k) = calling_within (length labels) (place_of labels a.olabel) a.next (place_within labels a.olabel (place_of labels a.olabel) refl) j k
    by_part more (inr k) = more k

module _ {V : Type 0} (value : V → Cost) (rules : List (Labelled V)) (h : IsRules value rules) where
  pub rule_machine : (i : ℕ) → IsMachine (λ v. v) (machine_at (valued_rules value rules) i)
  rule_machine i = subst (IsMachine (λ v. v)) (sym (machine_valued value rules i)) (IsMachine-valued value (machine_at rules i) (by_order (cases_lt i (length rules))))
    where
      by_order : (i < length rules) ⊎ (length rules ≤ i) → IsMachine value (machine_at rules i)
      by_order (inl low) = h.machines i (record { label = 0; machine = no_states }) low
      by_order (inr past) = subst (λ (r : Labelled V). IsMachine value r.machine) (sym (get_or_past rules i (record { label = 0; machine = no_states }) past)) (record { start = tt; arcs = All-nil _; few_states = omega arith; few_arcs = omega arith })

  module _ (calls : List (List ℕ)) (are : calls ≡ map (λ r. rules_in (calls_in (labels_of rules) (arcs_of r.machine.states))) rules) where
    pub calls_count : length calls ≡ length rules
    calls_count = ap length are ∙ length-map {B = List ℕ} rules (λ r. rules_in (calls_in (labels_of rules) (arcs_of r.machine.states)))

    pub calls_root : 0 < length calls
    calls_root = omega (arith, calls_count, h.root)

    pub calls_closed : IsClosed calls
    calls_closed i j has =
        let low = rules_within (labels_of rules) (arcs_of (machine_at rules i).states) j (subst (λ zs. Has zs j) (calls_place rules calls are i) has) in
        omega (arith, low, calls_count, length-map {B = ℕ} rules (λ r. r.label))

    module _ (order : List ℕ) (ordered : IsOrdered (at_place calls) order) (listed : (j : ℕ) → Has order j → j < length calls) (root : Has order 0) where
      pub order_free : HasNoRecursion (called (valued_rules value rules))
      order_free = subst HasNoRecursion (calls_kept_all value rules calls are) (ordered_free (at_place calls) order ordered root)

      reached_in : (i : ℕ) → Reaches (called (valued_rules value rules)) 0 i → Has order i
      reached_in i r = let old = subst (λ f. Reaches f 0 i) (sym (calls_kept_all value rules calls are)) r in ordered_reaches (at_place calls) order ordered 0 old.0 i root old.1

      -- the table of the rules
      pub table_is : (shapes : List Shape) (sizes : List ℕ) → length shapes ≡ length rules → ((i : ℕ) → i < length rules → shape_at shapes i ≡ record { start = (machine_at rules i).start; size = get_or sizes i 0 }) → AreCounts order (states_in (valued_rules value rules)) most_states sizes → arc_total (replaced (valued_rules value rules)).states ≤ most_arcs → IsTable (valued_rules value rules) shapes
      table_is shapes sizes size kept right few =
          let vs = valued_rules value rules in
          let m = expansion vs (length vs) in
          let same : length vs ≡ length rules = length-map {B = Labelled Cost} rules (λ r. record { label = r.label; machine = valued value r.machine }) in
          let low : (i : ℕ) → Reaches (called vs) 0 i → i < length rules = λ i r. (let a = listed i (reached_in i r) in omega (arith, a, calls_count)) in
          let shape_is : (i : ℕ) → Reaches (called vs) 0 i → shape_at shapes i ≡ shape_of (m i) = λ i r.
          kept i (low i r) ∙ ap₂ (λ (o : Option ℕ) (n : ℕ). record { start = o; size = n }) (sym (ap (λ (z : Machine Cost). z.start) (order_expands value rules calls are calls_closed order ordered listed i (reached_in i r)) ∙ ap (λ (z : Machine Cost). z.start) (machine_valued value rules i))) (right i (reached_in i r)).0 in
          let good = expansion_good vs rule_machine (length vs) in
          record {
            size = size ∙ sym same;
            within = λ i r. (let a = low i r in omega (arith, a, same));
            expands = λ i r. order_expands value rules calls are calls_closed order ordered listed i (reached_in i r);
            kept = shape_is;
            starts = λ i r. subst (λ (z : Shape). IfSome z.start (λ s. s < z.size)) (sym (shape_is i r)) (good i).start;
            machine = record { start = (good 0).start; arcs = (good 0).arcs; few_states = (right 0 root).1; few_arcs = few };
          }
