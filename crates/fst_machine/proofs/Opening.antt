-- All arcs of the open state are there.
use Rattle.std.proofs.Common.{◌≡◌, ℕ, List, [], ◌∷◌, ◌++◌, length, take, drop, sym, ap, ◌∙◌, subst, arith}
use Rattle.std.specs.List.{All}
use Rattle.std.proofs.lemmas.List.{drop_all, length-drop, length-take-le, take-append-drop, take_all}
use Rattle.fst_machine.specs.Machine.{Arc, arc_total}
use Rattle.fst_machine.specs.Store.{Slot, LiesIn, kept_states}
use Rattle.fst_machine.specs.OpenStates.{IsOpen, opened}
use Rattle.fst_machine.proofs.Keeping.{Pushed, pushed}

-- the slot of the open state
abbrev pub open_slot : {V : Type 0} → List (Arc V ℕ) → ℕ → V → Slot V
open_slot store first w = record { final = w; first = first; count = length (drop first store) }

-- the open state with all its arcs, and none of the next
pub record OpenClosed {V : Type 0} (slots new_slots : List (Slot V)) (store : List (Arc V ℕ)) (first : ℕ) (w : V) : Type 0 where
  pub is : IsOpen new_slots store (length store)
  pub gives : opened new_slots store (length store) ≡ record { states = (opened slots store first).states ++ record { final = w; arcs = (opened slots store first).arcs } ∷ []; arcs = [] }

pub open_closed : {V : Type 0} (slots new_slots : List (Slot V)) (store : List (Arc V ℕ)) (first : ℕ) (w : V) → IsOpen slots store first → new_slots ≡ slots ++ open_slot store first w ∷ [] → OpenClosed slots new_slots store first w
open_closed {V} slots new_slots store first w is put =
    let n : length (take first store) ≡ first = length-take-le first store is.within in
    let here : new_slots ≡ slots ++ record { final = w; first = length (take first store); count = length (drop first store) } ∷ [] =
    put ∙ ap (λ (f : ℕ). slots ++ record { final = w; first = f; count = length (drop first store) } ∷ []) (sym n) in
    let p : Pushed (take first store) (drop first store) store slots new_slots w =
    pushed (take first store) (drop first store) store slots new_slots w (subst (λ (m : ℕ). All (LiesIn m) slots) (sym n) is.parts) (n ∙ is.counted) (sym (take-append-drop first store)) here in
    let whole : take (length store) store ≡ store = take_all (length store) store (omega arith) in
    let none : drop (length store) store ≡ [] = drop_all (length store) store (omega arith) in
    record {
      is = record { within = omega arith; counted = p.counted ∙ ap (λ (xs : List (Arc V ℕ)). arc_total (kept_states xs [] new_slots)) (sym whole); parts = p.parts; few_arcs = is.few_arcs };
      gives = ap (λ (xs : List (Arc V ℕ)). record { states = kept_states xs [] new_slots; arcs = drop (length store) store }) whole
          ∙ ap (λ (xs : List (Arc V ℕ)). record { states = kept_states store [] new_slots; arcs = xs }) none
          ∙ ap (λ ss. record { states = ss; arcs = [] }) p.states;
    }

-- with no arc of an open state, all are those of the states
pub record AllClosed {V : Type 0} (slots : List (Slot V)) (store : List (Arc V ℕ)) (first : ℕ) : Type 0 where
  pub counted : length store ≡ arc_total (kept_states store [] slots)
  pub parts : All (LiesIn (length store)) slots
  pub gives : kept_states store [] slots ≡ (opened slots store first).states

pub all_closed : {V : Type 0} (slots : List (Slot V)) (store : List (Arc V ℕ)) (first : ℕ) → IsOpen slots store first → drop first store ≡ [] → AllClosed slots store first
all_closed {V} slots store first is none =
    let size : length (drop first store) ≡ 0 = ap length none in
    let n : length store ≡ first = omega (arith, size, length-drop first store, is.within) in
    let whole : take first store ≡ store = take_all first store (omega (arith, n)) in
    record {
      counted = n ∙ is.counted ∙ ap (λ (xs : List (Arc V ℕ)). arc_total (kept_states xs [] slots)) whole;
      parts = subst (λ (m : ℕ). All (LiesIn m) slots) (sym n) is.parts;
      gives = ap (λ (xs : List (Arc V ℕ)). kept_states xs [] slots) (sym whole);
    }
