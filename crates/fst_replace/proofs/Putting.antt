-- The blocks of an expansion, as they are put: the root, and the call that comes next.
use Rattle.std.proofs.Common.{◌≡◌, ℕ, ◌+◌, ◌<◌, ◌≤◌, Bool, true, false, List, [], ◌∷◌, ◌++◌, Option, None, Some, length, map, reverse, refl, sym, ap, ap₂, ◌∙◌, subst}
use Rattle.fst_semiring.specs.Cost.{Cost}
use Rattle.fst_machine.specs.Machine.{State, Machine, arc_total, most_arcs, most_states, valued_state}
use Rattle.fst_rational.specs.Constructions.{carried}
use Rattle.fst_rational.specs.Limits.{IsSmall}
use Rattle.fst_replace.specs.Calls.{Calling, arcs_of, calls_in, rules_in}
use Rattle.fst_replace.specs.Expansion.{Shape, blocks_size, entered_states, replaced}
use Rattle.fst_replace.specs.Rules.{Labelled, labels_of, machine_at, valued_rules}
use Rattle.fst_replace.specs.Totals.{HasStarts, IsExpanding, IsTable, shape_at, shifted, standing}
use Rattle.fst_replace.proofs.Valuing.{last_reached, root_arcs, root_room, v_arcs, v_filled, v_next, v_room, v_root, v_starts}

module _ {V : Type 0} (value : V → Cost) (rules : List (Labelled V)) (shapes : List Shape) (table : IsTable (valued_rules value rules) shapes) where
  -- the machine with its calls entered
  abbrev pub laid : ℕ → Bool → Option ℕ → Machine V → List (State Cost)
  laid at keeps target m = map (carried at keeps target) (entered_states (labels_of rules) (shape_at shapes) (length m.states) (map (valued_state value) m.states))

  -- the calls that its blocks make
  abbrev pub brought : ℕ → Machine V → List Calling
  brought at m = map (shifted at) (standing (shape_at shapes) (calls_in (labels_of rules) (arcs_of m.states)))

  abbrev pub Starts : Machine V → Type 0
  Starts m = HasStarts (shape_at shapes) (rules_in (calls_in (labels_of rules) (arcs_of m.states)))

  abbrev pub Room : ℕ → Machine V → Type 0
  Room at m = at + (length m.states + blocks_size (labels_of rules) (shape_at shapes) (calls_in (labels_of rules) (arcs_of m.states))) ≤ most_states

  abbrev pub Expanding : List (State V) → List Calling → ℕ → Type 0
  Expanding made waiting at = IsExpanding (valued_rules value rules) shapes (map (valued_state value) made) waiting at

  -- the root
  module _ {m : Machine V} (is : m ≡ machine_at rules 0) where
    pub first_starts : Starts m
    first_starts = subst Starts (sym is) (v_starts value rules shapes table 0 ([], refl))

    pub first_room : IsSmall (replaced (valued_rules value rules)) → Room 0 m
    first_room small = subst (Room 0) (sym is) (root_room value rules shapes table small.states)

    pub first_arcs : {old : List (State V)} → old ≡ [] → IsSmall (replaced (valued_rules value rules)) → arc_total old + arc_total (laid 0 true None m) ≤ most_arcs
    first_arcs {old} none small = subst (λ (z : Machine V). arc_total old + arc_total (laid 0 true None z) ≤ most_arcs) (sym is) (root_arcs value rules shapes table old none small.arcs)

    pub first_next : {k : ℕ} {old : List (State V)} {none free calls waiting : List Calling} (new : List (State V)) → k ≡ length m.states → old ≡ [] → none ≡ [] → free ≡ [] → map (valued_state value) new ≡ map (valued_state value) old ++ laid 0 true None m → calls ≡ none ++ brought 0 m → waiting ≡ free ++ reverse calls → Expanding new waiting k
    first_next {k} {old} {none} {free} {calls} {waiting} new size empty clear idle put called wait =
        let states = put ∙ (ap (λ (ss : List (State V)). map (valued_state value) ss ++ laid 0 true None m) empty ∙ ap (laid 0 true None) is) in
        let all = called ∙ (ap (λ cs. cs ++ brought 0 m) clear ∙ ap (brought 0) is) in
        subst (Expanding new waiting) (sym (size ∙ ap (λ (z : Machine V). length z.states) is)) (v_root value rules shapes table (map (valued_state value) new) waiting states (wait ∙ (ap (λ cs. cs ++ reverse calls) idle ∙ ap reverse all)))

  -- the call that comes next
  module _ (old : List (State V)) (front : List Calling) (c : Calling) {at : ℕ} (e : Expanding old (front ++ c ∷ []) at) where
    pub next_rule : c.rule < length (valued_rules value rules)
    next_rule = table.within c.rule (last_reached value rules shapes table (map (valued_state value) old) front c at e)

    module _ {m : Machine V} (is : m ≡ machine_at rules c.rule) where
      pub next_starts : Starts m
      next_starts = subst Starts (sym is) (v_starts value rules shapes table c.rule (last_reached value rules shapes table (map (valued_state value) old) front c at e))

      pub next_room : IsSmall (replaced (valued_rules value rules)) → Room at m
      next_room small = subst (Room at) (sym is) (v_room value rules shapes table (map (valued_state value) old) front c at e small.states)

      pub next_filled : 0 < length m.states
      next_filled = subst (λ (z : Machine V). 0 < length z.states) (sym is) (v_filled value rules shapes table (map (valued_state value) old) front c at e)

      module _ {n : ℕ} (to : n ≡ c.next) where
        pub next_arcs : IsSmall (replaced (valued_rules value rules)) → arc_total old + arc_total (laid at false (Some n) m) ≤ most_arcs
        next_arcs small = subst (λ (k : ℕ). arc_total old + arc_total (laid at false (Some k) m) ≤ most_arcs) (sym to) (subst (λ (z : Machine V). arc_total old + arc_total (laid at false (Some c.next) z) ≤ most_arcs) (sym is) (v_arcs value rules shapes table (map (valued_state value) old) front c at old e refl small.arcs))

        pub next_next : {k : ℕ} {none calls waiting : List Calling} (new : List (State V)) → k ≡ length m.states → none ≡ [] → map (valued_state value) new ≡ map (valued_state value) old ++ laid at false (Some n) m → calls ≡ none ++ brought at m → waiting ≡ front ++ reverse calls → Expanding new waiting (at + k)
        next_next {k} {none} {calls} {waiting} new size clear put called wait =
            let states = put ∙ ap₂ (λ (z : Machine V) (j : ℕ). map (valued_state value) old ++ laid at false (Some j) z) is to in
            let all = called ∙ (ap (λ cs. cs ++ brought at m) clear ∙ ap (brought at) is) in
            subst (λ (j : ℕ). Expanding new waiting (at + j)) (sym (size ∙ ap (λ (z : Machine V). length z.states) is)) (v_next value rules shapes table (map (valued_state value) old) (map (valued_state value) new) front waiting c at e states (wait ∙ ap (λ cs. front ++ reverse cs) all))
