-- A depth-first search through calls, one step after the other.
use Rattle.std.proofs.Common.{◌≡◌, ◌⊎◌, inl, inr, ℕ, ◌+◌, ◌<◌, ◌≤◌, zero, suc, List, [], ◌∷◌, ◌++◌, Some, length, take, set, get_or, slice_get, refl, sym, ap, ◌∙◌, subst, arith}
use Rattle.std.proofs.lemmas.Bool.{cases_eq, cases_lt}
use Rattle.std.proofs.lemmas.List.{get_or-set_other, get_or-set_same, length-set, take_all, take-append-le, length-append}
use Rattle.std.proofs.lemmas.List.Sums.{sum_by-set}
use Rattle.std.proofs.lemmas.Option.{slice_get_within}
use Rattle.fst_machine.specs.BreadthFirst.{Has}
use Rattle.fst_machine.proofs.Arcs.{append_at}
use Rattle.fst_machine.proofs.Elements.{Has-append_cases, Has-append_left, Has-append_right, Has_at}
use Rattle.fst_replace.specs.declared.order.Mark.{Mark}
use Rattle.fst_replace.specs.declared.order.Mark.TheVariants.{New, Open, Done}
use Rattle.fst_replace.specs.Calls.{CanCall, IsChain, IsRecursive, Reaches}
use Rattle.fst_replace.specs.Walks.{IsSearch, IsTrail, at_place, rank, steps_left}
use Rattle.fst_replace.proofs.Chains.{IsChain-split, chain_call, chain_can, chain_last}

-- an element cuts a list in two
pub cut : (xs : List ℕ) (x : ℕ) → Has xs x → (front : List ℕ) × (back : List ℕ) × (xs ≡ front ++ x ∷ back)
cut [] x h = absurd h
cut (y ∷ xs) x (inl e) = ([], xs, ap (λ z. z ∷ xs) e)
cut (y ∷ xs) x (inr h) = let rest = cut xs x h in (y ∷ rest.0, rest.1, ap (λ zs. y ∷ zs) rest.2)

module _ (calls : List (List ℕ)) (marks : List Mark) (cursors stack order : List ℕ) (s : IsSearch calls marks cursors stack order) where
  -- more of a rule's calls are known to lead to rules that are done
  pub search_looks : (rule at : ℕ) → rule < length calls → ((c j : ℕ) → get_or cursors rule 0 ≤ c → c < at → slice_get (at_place calls rule) c ≡ Some j → get_or marks j New ≡ Done) → IsSearch calls marks (set cursors rule at) stack order
  search_looks rule at within found = record {
    marks_size = s.marks_size;
    cursors_size = length-set cursors rule at ∙ s.cursors_size;
    ordered = s.ordered;
    done = s.done;
    opened = s.opened;
    trail = s.trail;
    within = s.within;
    listed = s.listed;
    reached = s.reached;
    behind = λ i c j low there. by_rule i c j (cases_eq i rule) low there;
    ended = s.ended;
  }
    where
      by_rule : (i c j : ℕ) → (i ≡ rule) ⊎ (i ≡ rule → ⊥) → c < get_or (set cursors rule at) i 0 → slice_get (at_place calls i) c ≡ Some j → Has order j
      by_rule i c j (inr other) low there = s.behind i c j (subst (λ (n : ℕ). c < n) (get_or-set_other cursors rule i at 0 other) low) there
      by_rule i c j (inl same) low there =
          let now : get_or (set cursors rule at) i 0 ≡ at = ap (λ (k : ℕ). get_or (set cursors rule at) k 0) same ∙ get_or-set_same cursors rule at 0 (omega (arith, within, s.cursors_size)) in
          let here : slice_get (at_place calls rule) c ≡ Some j = ap (λ (k : ℕ). slice_get (at_place calls k) c) (sym same) ∙ there in
          by_order (cases_lt c (get_or cursors rule 0)) here (subst (λ (n : ℕ). c < n) now low)
        where
          by_order : (c < get_or cursors rule 0) ⊎ (get_or cursors rule 0 ≤ c) → slice_get (at_place calls rule) c ≡ Some j → c < at → Has order j
          by_order (inl old) here low = s.behind rule c j old here
          by_order (inr new) here low = s.done j (found c j new low here)

  -- all its calls lead to rules of the order
  pub known : (rule at : ℕ) → ((c j : ℕ) → c < at → slice_get (at_place calls rule) c ≡ Some j → Has order j) → length (at_place calls rule) ≤ at → (j : ℕ) → Has (at_place calls rule) j → Has order j
  known rule at found all j h =
      let place = Has_at (at_place calls rule) j h in
      let low = slice_get_within (at_place calls rule) place.0 j place.1 in
      found place.0 j (omega (arith, low, all)) place.1

  module _ (front : List ℕ) (rule : ℕ) (top : stack ≡ front ++ rule ∷ []) where
    pub rule_within : rule < length calls
    rule_within = s.within rule (subst (λ zs. Has zs rule) (sym top) (Has-append_right front (rule ∷ []) rule (inl refl)))

    in_front : (j : ℕ) → (j ≡ rule → ⊥) → Has stack j → Has front j
    in_front j other h = by_part (Has-append_cases front (rule ∷ []) j (subst (λ zs. Has zs j) top h))
      where
        by_part : Has front j ⊎ Has (rule ∷ []) j → Has front j
        by_part (inl h) = h
        by_part (inr (inl e)) = absurd (other (sym e))
        by_part (inr (inr none)) = absurd none

    front_in : (j : ℕ) → Has front j → Has stack j
    front_in j h = subst (λ zs. Has zs j) (sym top) (Has-append_left front (rule ∷ []) j h)

    -- the trail of what is left
    shorter : (front : List ℕ) → IsTrail (at_place calls) (front ++ rule ∷ []) → (front ≡ []) ⊎ IsTrail (at_place calls) front
    shorter [] t = inl refl
    shorter (x ∷ xs) t =
        let first : x ≡ 0 = let e = t.same in cc in
        let rest : xs ++ rule ∷ [] ≡ t.rest = let e = t.same in cc in
        let parts = IsChain-split (at_place calls) 0 xs (rule ∷ []) t.last (subst (λ zs. IsChain (at_place calls) 0 zs t.last) (sym rest) t.chain) in
        inr (record { rest = xs; last = parts.0; same = ap (λ z. z ∷ xs) first; chain = parts.1 })

    -- the trail, which is there
    trail : IsTrail (at_place calls) stack
    trail = by_trail s.trail
      where
        by_trail : (stack ≡ []) ⊎ IsTrail (at_place calls) stack → IsTrail (at_place calls) stack
        by_trail (inr t) = t
        by_trail (inl none) = absurd (let size : length (front ++ rule ∷ []) ≡ length {A = ℕ} [] = ap length (sym top ∙ none) in omega (arith, size, length-append front (rule ∷ [])))

    last_is : trail.last ≡ rule
    last_is = chain_last (at_place calls) 0 trail.rest trail.last trail.chain front rule (sym trail.same ∙ top)

    -- the rule is done
    pub search_finishes : ((j : ℕ) → Has (at_place calls rule) j → Has order j) → IsSearch calls (set marks rule Done) cursors front (order ++ rule ∷ [])
    search_finishes all = record {
      marks_size = length-set marks rule Done ∙ s.marks_size;
      cursors_size = s.cursors_size;
      ordered = λ p i j there has. by_place p i j has (append_at order (rule ∷ []) p i there);
      done = λ j e. by_rule j (cases_eq j rule) e;
      opened = λ j e. by_mark j (cases_eq j rule) e;
      trail = shorter front (subst (λ zs. IsTrail (at_place calls) zs) top trail);
      within = λ j h. s.within j (front_in j h);
      listed = λ j h. by_name j (Has-append_cases order (rule ∷ []) j h);
      reached = λ j h. by_reach j (Has-append_cases order (rule ∷ []) j h);
      behind = λ i c j low there. Has-append_left order (rule ∷ []) j (s.behind i c j low there);
      ended = λ none. Has-append_right order (rule ∷ []) 0 (inl (first front none top));
    }
      where
        bound : rule < length marks
        bound = omega (arith, rule_within, s.marks_size)

        by_place : (p i j : ℕ) → Has (at_place calls i) j → (slice_get order p ≡ Some i) ⊎ ((q : ℕ) × (slice_get (rule ∷ []) q ≡ Some i) × (p ≡ length order + q)) → Has (take p (order ++ rule ∷ [])) j
        by_place p i j has (inl there) =
            let low = slice_get_within order p i there in
            subst (λ zs. Has zs j) (sym (take-append-le p order (rule ∷ []) (omega (arith, low)))) (s.ordered p i j there has)
        by_place p i j has (inr (zero, there, at)) =
            let same : rule ≡ i = cc in
            let whole : take p (order ++ rule ∷ []) ≡ order = take-append-le p order (rule ∷ []) (omega (arith, at)) ∙ take_all p order (omega (arith, at)) in
            subst (λ zs. Has zs j) (sym whole) (all j (subst (λ z. Has (at_place calls z) j) (sym same) has))
        by_place p i j has (inr (suc q, there, at)) = absurd (cc)

        by_rule : (j : ℕ) → (j ≡ rule) ⊎ (j ≡ rule → ⊥) → get_or (set marks rule Done) j New ≡ Done → Has (order ++ rule ∷ []) j
        by_rule j (inl same) e = Has-append_right order (rule ∷ []) j (inl (sym same))
        by_rule j (inr other) e = Has-append_left order (rule ∷ []) j (s.done j (sym (get_or-set_other marks rule j Done New other) ∙ e))

        by_mark : (j : ℕ) → (j ≡ rule) ⊎ (j ≡ rule → ⊥) → get_or (set marks rule Done) j New ≡ Open → Has front j
        by_mark j (inl same) e = absurd (let wrong : Done ≡ Open = sym (ap (λ (k : ℕ). get_or (set marks rule Done) k New) same ∙ get_or-set_same marks rule Done New bound) ∙ e in cc)
        by_mark j (inr other) e = in_front j other (s.opened j (sym (get_or-set_other marks rule j Done New other) ∙ e))

        by_name : (j : ℕ) → Has order j ⊎ Has (rule ∷ []) j → j < length calls
        by_name j (inl h) = s.listed j h
        by_name j (inr (inl e)) = subst (λ (z : ℕ). z < length calls) e rule_within
        by_name j (inr (inr none)) = absurd none

        by_reach : (j : ℕ) → Has order j ⊎ Has (rule ∷ []) j → Reaches (at_place calls) 0 j
        by_reach j (inl h) = s.reached j h
        by_reach j (inr (inl e)) = (trail.rest, subst (λ z. IsChain (at_place calls) 0 trail.rest z) (last_is ∙ e) trail.chain)
        by_reach j (inr (inr none)) = absurd none

        first : (front : List ℕ) → front ≡ [] → stack ≡ front ++ rule ∷ [] → rule ≡ 0
        first front none top =
            let alone : 0 ∷ trail.rest ≡ rule ∷ [] = sym trail.same ∙ (top ∙ ap (λ zs. zs ++ rule ∷ []) none) in
            cc

    pub finish_falls : (after : List ℕ) → after ≡ front → steps_left (set marks rule Done) after < steps_left marks stack
    finish_falls after e =
        let sums = sum_by-set rank marks rule Done New (omega (arith, rule_within, s.marks_size)) in
        let old : length stack ≡ length (front ++ rule ∷ []) = ap length top in
        let new : length after ≡ length front = ap length e in
        omega (arith, sums, old, new, length-append front (rule ∷ []))

    -- a rule that it calls is met
    pub search_enters : (called : ℕ) → called < length calls → Has (at_place calls rule) called → IsSearch calls (set marks called Open) cursors (stack ++ called ∷ []) order
    search_enters called within has = record {
      marks_size = length-set marks called Open ∙ s.marks_size;
      cursors_size = s.cursors_size;
      ordered = s.ordered;
      done = λ j e. by_rule j (cases_eq j called) e;
      opened = λ j e. by_mark j (cases_eq j called) e;
      trail = inr (record { rest = trail.rest ++ called ∷ []; last = called; same = ap (λ zs. zs ++ called ∷ []) trail.same; chain = chain_call (at_place calls) 0 trail.rest trail.last called trail.chain (subst (λ z. Has (at_place calls z) called) (sym last_is) has) });
      within = λ j h. by_name j (Has-append_cases stack (called ∷ []) j h);
      listed = s.listed;
      reached = s.reached;
      behind = s.behind;
      ended = λ none. absurd (let size : length (stack ++ called ∷ []) ≡ length {A = ℕ} [] = ap length none in omega (arith, size, length-append stack (called ∷ [])));
    }
      where
        bound : called < length marks
        bound = omega (arith, within, s.marks_size)

        by_rule : (j : ℕ) → (j ≡ called) ⊎ (j ≡ called → ⊥) → get_or (set marks called Open) j New ≡ Done → Has order j
        by_rule j (inl same) e = absurd (let wrong : Open ≡ Done = sym (ap (λ (k : ℕ). get_or (set marks called Open) k New) same ∙ get_or-set_same marks called Open New bound) ∙ e in cc)
        by_rule j (inr other) e = s.done j (sym (get_or-set_other marks called j Open New other) ∙ e)

        by_mark : (j : ℕ) → (j ≡ called) ⊎ (j ≡ called → ⊥) → get_or (set marks called Open) j New ≡ Open → Has (stack ++ called ∷ []) j
        by_mark j (inl same) e = Has-append_right stack (called ∷ []) j (inl (sym same))
        by_mark j (inr other) e = Has-append_left stack (called ∷ []) j (s.opened j (sym (get_or-set_other marks called j Open New other) ∙ e))

        by_name : (j : ℕ) → Has stack j ⊎ Has (called ∷ []) j → j < length calls
        by_name j (inl h) = s.within j h
        by_name j (inr (inl e)) = subst (λ (z : ℕ). z < length calls) e within
        by_name j (inr (inr none)) = absurd none

    pub enter_falls : (called : ℕ) (after : List ℕ) → called < length calls → (get_or marks called New ≡ Open → ⊥) → (get_or marks called New ≡ Done → ⊥) → after ≡ stack ++ called ∷ [] → steps_left (set marks called Open) after < steps_left marks stack
    enter_falls called after within not_open not_done e =
        let sums = sum_by-set rank marks called Open New (omega (arith, within, s.marks_size)) in
        let new : length after ≡ length (stack ++ called ∷ []) = ap length e in
        let was = new_rank (get_or marks called New) not_open not_done in
        omega (arith, sums, new, was, length-append stack (called ∷ []))
      where
        new_rank : (m : Mark) → (m ≡ Open → ⊥) → (m ≡ Done → ⊥) → rank m ≡ 4
        new_rank New a b = refl
        new_rank Open a b = absurd (a refl)
        new_rank Done a b = absurd (b refl)

    -- a rule that it calls waits for it
    pub search_turns : (called : ℕ) → Has (at_place calls rule) called → get_or marks called New ≡ Open → IsRecursive (at_place calls) called
    search_turns called has waits = by_cut (cut stack called (s.opened called waits))
      where
        go : (back : List ℕ) (j : ℕ) → j ≡ called → IsChain (at_place calls) j back trail.last → CanCall (at_place calls) called called
        go back j e goes = chain_can (at_place calls) called back trail.last called (subst (λ z. IsChain (at_place calls) z back trail.last) e goes) (subst (λ z. Has (at_place calls z) called) (sym last_is) has)

        by_front : (front back : List ℕ) → 0 ∷ trail.rest ≡ front ++ called ∷ back → IsRecursive (at_place calls) called
        by_front [] back e =
            let first : 0 ≡ called = cc in
            let rest : trail.rest ≡ back = cc in
            (([], first), go back 0 first (subst (λ zs. IsChain (at_place calls) 0 zs trail.last) rest trail.chain))
        by_front (x ∷ xs) back e =
            let rest : trail.rest ≡ xs ++ called ∷ back = cc in
            let parts = IsChain-split (at_place calls) 0 xs (called ∷ back) trail.last (subst (λ zs. IsChain (at_place calls) 0 zs trail.last) rest trail.chain) in
            ((xs ++ called ∷ [], chain_call (at_place calls) 0 xs parts.0 called parts.1 parts.2.0), go back called refl parts.2.1)

        by_cut : (front : List ℕ) × (back : List ℕ) × (stack ≡ front ++ called ∷ back) → IsRecursive (at_place calls) called
        by_cut h = by_front h.0 h.1 (sym trail.same ∙ h.2)
