-- A walk from a rule along calls.
use Rattle.std.proofs.Common.{◌≡◌, ◌⊎◌, inl, inr, ℕ, ◌+◌, ◌<◌, ◌≤◌, Bool, true, false, set, List, [], ◌∷◌, ◌++◌, Some, length, take, get_or, slice_get, refl, sym, ap, ◌∙◌, subst, arith}
use Rattle.std.specs.Bool.{Decides}
use Rattle.std.proofs.lemmas.Bool.{cases_eq, cases_lt}
use Rattle.std.proofs.lemmas.List.{get_or-set_other, get_or-set_same, get_or_past, take_all, take_more, take-append-le, length-append}
use Rattle.std.proofs.lemmas.Option.{get_or_from_slice_get, slice_get_within}
use Rattle.fst_machine.specs.BreadthFirst.{Apart, Grows, Has}
use Rattle.fst_machine.specs.Marks.{Marks}
use Rattle.fst_machine.proofs.Elements.{Apart_below, Has-append_cases, at_Has}
use Rattle.fst_machine.proofs.Walks.{Grows-Apart, Grows-front, Grows-has, Grows-kept, Grows-only}
use Rattle.fst_machine.proofs.Walking.{found_within}
use Rattle.fst_replace.specs.Calls.{CanCall, IsChain, Reaches}
use Rattle.fst_replace.specs.Walks.{IsMarking, at_place}
use Rattle.fst_replace.proofs.Chains.{chain_call}

-- the first names and one more
pub one_taken : (names : List ℕ) (taken next : ℕ) → slice_get names taken ≡ Some next → take (taken + 1) names ≡ take taken names ++ next ∷ []
one_taken names taken next at = take_more names taken next (slice_get_within names taken next at) ∙ ap (λ z. take taken names ++ z ∷ []) (get_or_from_slice_get names taken next next at)

-- what is marked is few
pub marking_few : (seen : List Bool) (names : List ℕ) → Apart names → Marks seen names → length names ≤ length seen
marking_few seen names apart marks = Apart_below (length seen) names apart (λ k h. found_within seen names k marks h)

module _ (calls : ℕ → List ℕ) (rule : ℕ) where
  -- at the start it has what the rule calls
  pub marking_begins : (names : List ℕ) → Grows [] (calls rule) names → IsMarking calls rule names 0
  marking_begins names grows = record {
    within = omega arith;
    apart = Grows-Apart (calls rule) [] names tt grows;
    sound = λ j h. by_part j (Grows-only (calls rule) [] names j grows h);
    began = λ j h. Grows-has (calls rule) [] names j grows h;
    closed = λ i j h has. absurd h;
  }
    where
      by_part : (j : ℕ) → Has [] j ⊎ Has (calls rule) j → CanCall calls rule j
      by_part j (inl none) = absurd none
      by_part j (inr h) = (j, h, ([], refl))

  -- it follows the calls of one more
  pub marking_goes_on : (names new : List ℕ) (taken next : ℕ) → IsMarking calls rule names taken → slice_get names taken ≡ Some next → Grows names (calls next) new → IsMarking calls rule new (taken + 1)
  marking_goes_on names new taken next m at grows = record {
    within = let more = ap length front.1 in omega (arith, more, below, length-append names front.0);
    apart = Grows-Apart (calls next) names new m.apart grows;
    sound = λ j h. by_part j (Grows-only (calls next) names new j grows h);
    began = λ j h. Grows-kept (calls next) names new j grows (m.began j h);
    closed = λ i j h has. by_name i j has (Has-append_cases (take taken names) (next ∷ []) i (subst (λ zs. Has zs i) first h));
  }
    where
      front : (more : List ℕ) × (new ≡ names ++ more)
      front = Grows-front (calls next) names new grows

      below : taken < length names
      below = slice_get_within names taken next at

      first : take (taken + 1) new ≡ take taken names ++ next ∷ []
      first = ap (take (taken + 1)) front.1 ∙ (take-append-le (taken + 1) names front.0 (omega (arith, below)) ∙ one_taken names taken next at)

      by_part : (j : ℕ) → Has names j ⊎ Has (calls next) j → CanCall calls rule j
      by_part j (inl h) = m.sound j h
      by_part j (inr h) =
          let old = m.sound next (at_Has names taken next at) in
          (old.0, old.1, (old.2.0 ++ j ∷ [], chain_call calls old.0 old.2.0 next j old.2.1 h))

      by_name : (i j : ℕ) → Has (calls i) j → Has (take taken names) i ⊎ Has (next ∷ []) i → Has new j
      by_name i j has (inl h) = Grows-kept (calls next) names new j grows (m.closed i j h has)
      by_name i j has (inr (inl e)) = Grows-has (calls next) names new j grows (subst (λ z. Has (calls z) j) (sym e) has)
      by_name i j has (inr (inr none)) = absurd none

  -- a chain does not leave names that have what they call
  within_names : (names : List ℕ) → ((i j : ℕ) → Has names i → Has (calls i) j → Has names j) → (i : ℕ) (chain : List ℕ) (j : ℕ) → Has names i → IsChain calls i chain j → Has names j
  within_names names closed i [] j h here = subst (λ z. Has names z) here h
  within_names names closed i (k ∷ chain) j h goes = within_names names closed k chain j (closed i k h goes.0) goes.1

  -- at the end it has all that the rule can call
  pub marking_full : (names : List ℕ) (taken : ℕ) → IsMarking calls rule names taken → length names ≤ taken → (j : ℕ) → CanCall calls rule j → Has names j
  marking_full names taken m all j h =
      let whole : take taken names ≡ names = take_all taken names all in
      within_names names (λ i k has call. m.closed i k (subst (λ zs. Has zs i) (sym whole) has) call) h.0 h.2.0 j (m.began h.0 h.1) h.2.1

-- what the root reaches is itself and what it can call
pub can_reach : (calls : ℕ → List ℕ) (i j : ℕ) → CanCall calls i j → Reaches calls i j
can_reach calls i j h = (h.0 ∷ h.2.0, (h.1, h.2.1))

pub reach_can : (calls : ℕ → List ℕ) (i j : ℕ) → Reaches calls i j → (i ≡ j) ⊎ CanCall calls i j
reach_can calls i j h = by_chain h.0 h.1
  where
    by_chain : (chain : List ℕ) → IsChain calls i chain j → (i ≡ j) ⊎ CanCall calls i j
    by_chain [] here = inl here
    by_chain (k ∷ chain) goes = inr (k, goes.0, (chain, goes.1))

-- the marks of what a rule can call, and of the rule
pub reached_marks : (calls : ℕ → List ℕ) (seen : List Bool) (i : ℕ) → i < length seen → ((j : ℕ) → Decides (get_or seen j false) (CanCall calls i j)) → (j : ℕ) → Decides (get_or (set seen i true) j false) (Reaches calls i j)
reached_marks calls seen i within marks j = by_place (cases_eq j i)
  where
    by_place : (j ≡ i) ⊎ (j ≡ i → ⊥) → Decides (get_or (set seen i true) j false) (Reaches calls i j)
    by_place (inl same) = ((λ e. ([], sym same)), (λ h. ap (λ (k : ℕ). get_or (set seen i true) k false) same ∙ get_or-set_same seen i true false within))
    by_place (inr other) =
        let kept : get_or (set seen i true) j false ≡ get_or seen j false = get_or-set_other seen i j true false other in
        ((λ e. can_reach calls i j ((marks j).0 (sym kept ∙ e))), (λ h. kept ∙ (marks j).1 (called (reach_can calls i j h))))
      where
        called : (i ≡ j) ⊎ CanCall calls i j → CanCall calls i j
        called (inl same) = absurd (other (sym same))
        called (inr h) = h

-- no rule past the last calls one
pub recursive_within : (calls : List (List ℕ)) (i : ℕ) → CanCall (at_place calls) i i → i < length calls
recursive_within calls i h = by_order (cases_lt i (length calls))
  where
    by_order : (i < length calls) ⊎ (length calls ≤ i) → i < length calls
    by_order (inl low) = low
    by_order (inr past) = absurd (subst (λ (zs : List ℕ). Has zs h.0) (get_or_past calls i [] past) h.1)
