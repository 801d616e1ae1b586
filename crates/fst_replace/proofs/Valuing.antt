-- The same for rules whose weights are seen by their values.
use Rattle.std.proofs.Common.{◌≡◌, inl, ℕ, ◌+◌, ◌<◌, ◌≤◌, true, false, List, [], ◌∷◌, ◌++◌, Option, None, Some, length, map, reverse, sum_by, refl, sym, ap, ap₂, ◌∙◌, subst, append-nil, arith}
use Rattle.std.proofs.Math.ListN.{get_or-map}
use Rattle.std.proofs.lemmas.List.{length-append, length-map, reverse-append}
use Rattle.std.proofs.lemmas.List.Sums.{sum_by-append}
use Rattle.fst_semiring.specs.Cost.{Cost}
use Rattle.fst_machine.specs.Machine.{State, Machine, arc_total, most_arcs, most_states, no_states, valued, valued_state}
use Rattle.fst_machine.proofs.Elements.{Has-append_right}
use Rattle.fst_rational.specs.Constructions.{carried}
use Rattle.fst_machine.proofs.Valued.{arc_total-valued}
use Rattle.fst_replace.specs.Calls.{Calling, Reaches, arcs_of, called, calls_in, rules_in}
use Rattle.fst_replace.specs.Expansion.{Shape, blocks, blocks_size, entered_states, expansion, replaced}
use Rattle.fst_replace.specs.Rules.{Labelled, labels_of, machine_at, valued_rules}
use Rattle.fst_replace.specs.Totals.{HasStarts, IsExpanding, IsTable, shape_at, shifted, standing}
use Rattle.fst_replace.proofs.Emitting.{arcs_valued, calls_valued}
use Rattle.fst_replace.proofs.Waiting.{expansion_size, next_made, root_made, starts_of}

module _ {V : Type 0} (value : V → Cost) where
  pub labels_valued : (rules : List (Labelled V)) → labels_of (valued_rules value rules) ≡ labels_of rules
  labels_valued [] = refl
  labels_valued (r ∷ rules) = ap (λ ls. r.label ∷ ls) (labels_valued rules)

  pub machine_valued : (rules : List (Labelled V)) (i : ℕ) → machine_at (valued_rules value rules) i ≡ valued value (machine_at rules i)
  machine_valued rules i = ap (λ (r : Labelled Cost). r.machine) (get_or-map (λ (r : Labelled V). record { label = r.label; machine = valued value r.machine }) rules i (record { label = 0; machine = no_states }))

  module _ (rules : List (Labelled V)) (i : ℕ) where
    states_valued : (machine_at (valued_rules value rules) i).states ≡ map (valued_state value) (machine_at rules i).states
    states_valued = ap (λ (m : Machine Cost). m.states) (machine_valued rules i)

    pub calls_are : calls_in (labels_of (valued_rules value rules)) (arcs_of (machine_at (valued_rules value rules) i).states) ≡ calls_in (labels_of rules) (arcs_of (machine_at rules i).states)
    calls_are =
        ap₂ (λ ls ss. calls_in ls (arcs_of ss)) (labels_valued rules) states_valued
        ∙ (ap (calls_in (labels_of rules)) (arcs_valued value (machine_at rules i).states) ∙ calls_valued value (labels_of rules) (arcs_of (machine_at rules i).states))

    pub size_is : length (machine_at (valued_rules value rules) i).states ≡ length (machine_at rules i).states
    size_is = ap length states_valued ∙ length-map (machine_at rules i).states (valued_state value)

    pub own_are : (s : ℕ → Shape) → entered_states (labels_of (valued_rules value rules)) s (length (machine_at (valued_rules value rules) i).states) (machine_at (valued_rules value rules) i).states ≡ entered_states (labels_of rules) s (length (machine_at rules i).states) (map (valued_state value) (machine_at rules i).states)
    own_are s =
        ap₂ (λ ls (n : ℕ). entered_states ls s n (machine_at (valued_rules value rules) i).states) (labels_valued rules) size_is
        ∙ ap (entered_states (labels_of rules) s (length (machine_at rules i).states)) states_valued

    pub blocks_are : (s : ℕ → Shape) → blocks_size (labels_of (valued_rules value rules)) s (calls_in (labels_of (valued_rules value rules)) (arcs_of (machine_at (valued_rules value rules) i).states)) ≡ blocks_size (labels_of rules) s (calls_in (labels_of rules) (arcs_of (machine_at rules i).states))
    blocks_are s = ap (λ cs. sum_by (λ (c : Calling). (s c.rule).size) cs) calls_are

  module _ (rules : List (Labelled V)) (shapes : List Shape) (t : IsTable (valued_rules value rules) shapes) where
    root_reached : Reaches (called (valued_rules value rules)) 0 0
    root_reached = ([], refl)

    pub v_starts : (i : ℕ) → Reaches (called (valued_rules value rules)) 0 i → HasStarts (shape_at shapes) (rules_in (calls_in (labels_of rules) (arcs_of (machine_at rules i).states)))
    v_starts i h = subst (λ cs. HasStarts (shape_at shapes) (rules_in cs)) (calls_are rules i) (starts_of (valued_rules value rules) shapes t i h)

    pub v_size : (i : ℕ) → Reaches (called (valued_rules value rules)) 0 i → length (expansion (valued_rules value rules) (length (valued_rules value rules)) i).states ≡ length (machine_at rules i).states + blocks_size (labels_of rules) (shape_at shapes) (calls_in (labels_of rules) (arcs_of (machine_at rules i).states))
    v_size i h = let all = expansion_size (valued_rules value rules) shapes t i h in let one = size_is rules i in let two = blocks_are rules i (shape_at shapes) in omega (arith, all, one, two)

    pub v_root : (made : List (State Cost)) (waiting : List Calling) → made ≡ map (carried 0 true None) (entered_states (labels_of rules) (shape_at shapes) (length (machine_at rules 0).states) (map (valued_state value) (machine_at rules 0).states)) → waiting ≡ reverse (map (shifted 0) (standing (shape_at shapes) (calls_in (labels_of rules) (arcs_of (machine_at rules 0).states)))) → IsExpanding (valued_rules value rules) shapes made waiting (length (machine_at rules 0).states)
    v_root made waiting is are = subst (λ (n : ℕ). IsExpanding (valued_rules value rules) shapes made waiting n) (size_is rules 0) (root_made (valued_rules value rules) shapes t made waiting (is ∙ ap (map (carried 0 true None)) (sym (own_are rules 0 (shape_at shapes)))) (are ∙ ap (λ cs. reverse (map (shifted 0) (standing (shape_at shapes) cs))) (sym (calls_are rules 0))))

    pub v_next : (made after : List (State Cost)) (front waiting : List Calling) (c : Calling) (at : ℕ) → IsExpanding (valued_rules value rules) shapes made (front ++ c ∷ []) at → after ≡ made ++ map (carried at false (Some c.next)) (entered_states (labels_of rules) (shape_at shapes) (length (machine_at rules c.rule).states) (map (valued_state value) (machine_at rules c.rule).states)) → waiting ≡ front ++ reverse (map (shifted at) (standing (shape_at shapes) (calls_in (labels_of rules) (arcs_of (machine_at rules c.rule).states)))) → IsExpanding (valued_rules value rules) shapes after waiting (at + length (machine_at rules c.rule).states)
    v_next made after front waiting c at e is are = subst (λ (n : ℕ). IsExpanding (valued_rules value rules) shapes after waiting (at + n)) (size_is rules c.rule) (next_made (valued_rules value rules) shapes t made after front waiting c at e (is ∙ ap (λ own. made ++ map (carried at false (Some c.next)) own) (sym (own_are rules c.rule (shape_at shapes)))) (are ∙ ap (λ cs. front ++ reverse (map (shifted at) (standing (shape_at shapes) cs))) (sym (calls_are rules c.rule))))

    pub last_reached : (made : List (State Cost)) (front : List Calling) (c : Calling) (at : ℕ) → IsExpanding (valued_rules value rules) shapes made (front ++ c ∷ []) at → Reaches (called (valued_rules value rules)) 0 c.rule
    last_reached made front c at e = e.reached c (Has-append_right front (c ∷ []) c (inl refl))

    -- there is room for the states of the block
    pub v_room : (made : List (State Cost)) (front : List Calling) (c : Calling) (at : ℕ) → IsExpanding (valued_rules value rules) shapes made (front ++ c ∷ []) at → length (replaced (valued_rules value rules)).states ≤ most_states → at + (length (machine_at rules c.rule).states + blocks_size (labels_of rules) (shape_at shapes) (calls_in (labels_of rules) (arcs_of (machine_at rules c.rule).states))) ≤ most_states
    v_room made front c at e few =
        let vs = valued_rules value rules in
        let m = expansion vs (length vs) in
        let laid : length (replaced vs).states ≡ length (made ++ blocks m at (c ∷ reverse front)) = ap length (e.laid ∙ ap (λ cs. made ++ blocks m at cs) (reverse-append front (c ∷ []))) in
        let here = map (carried at false (Some c.next)) (m c.rule).states in
        let rest = blocks m (at + length (m c.rule).states) (reverse front) in
        let size = v_size c.rule (last_reached made front c at e) in
        omega (arith, laid, few, size, e.size, length-append made (here ++ rest), length-append here rest, length-map (m c.rule).states (carried at false (Some c.next)))

    pub root_room : length (replaced (valued_rules value rules)).states ≤ most_states → 0 + (length (machine_at rules 0).states + blocks_size (labels_of rules) (shape_at shapes) (calls_in (labels_of rules) (arcs_of (machine_at rules 0).states))) ≤ most_states
    root_room few = let size = v_size 0 root_reached in omega (arith, few, size)

    -- and for their arcs
    pub v_arcs : (made : List (State Cost)) (front : List Calling) (c : Calling) (at : ℕ) (old : List (State V)) → IsExpanding (valued_rules value rules) shapes made (front ++ c ∷ []) at → map (valued_state value) old ≡ made → arc_total (replaced (valued_rules value rules)).states ≤ most_arcs → arc_total old + arc_total (map (carried at false (Some c.next)) (entered_states (labels_of rules) (shape_at shapes) (length (machine_at rules c.rule).states) (map (valued_state value) (machine_at rules c.rule).states))) ≤ most_arcs
    v_arcs made front c at old e so_far few =
        let own = map (carried at false (Some c.next)) (entered_states (labels_of rules) (shape_at shapes) (length (machine_at rules c.rule).states) (map (valued_state value) (machine_at rules c.rule).states)) in
        let next = v_next made (made ++ own) front (front ++ reverse (map (shifted at) (standing (shape_at shapes) (calls_in (labels_of rules) (arcs_of (machine_at rules c.rule).states))))) c at e refl refl in
        let count = λ (t : State Cost). length t.arcs in
        let all = ap arc_total next.laid ∙ sum_by-append count (made ++ own) _ in
        let both = sum_by-append count made own in
        let now = sym (arc_total-valued value old) ∙ ap arc_total so_far in
        omega (arith, all, both, now, few)

    pub root_arcs : (old : List (State V)) → old ≡ [] → arc_total (replaced (valued_rules value rules)).states ≤ most_arcs → arc_total old + arc_total (map (carried 0 true None) (entered_states (labels_of rules) (shape_at shapes) (length (machine_at rules 0).states) (map (valued_state value) (machine_at rules 0).states))) ≤ most_arcs
    root_arcs old none few =
        let own = map (carried 0 true None) (entered_states (labels_of rules) (shape_at shapes) (length (machine_at rules 0).states) (map (valued_state value) (machine_at rules 0).states)) in
        let first = v_root own (reverse (map (shifted 0) (standing (shape_at shapes) (calls_in (labels_of rules) (arcs_of (machine_at rules 0).states))))) refl refl in
        let all = ap arc_total first.laid ∙ sum_by-append (λ (t : State Cost). length t.arcs) own _ in
        let now : arc_total old ≡ 0 = ap arc_total none in
        omega (arith, all, now, few)

    -- a block that waits has states
    pub v_filled : (made : List (State Cost)) (front : List Calling) (c : Calling) (at : ℕ) → IsExpanding (valued_rules value rules) shapes made (front ++ c ∷ []) at → 0 < length (machine_at rules c.rule).states
    v_filled made front c at e = by_states (machine_at rules c.rule).states full
      where
        full : 0 < length (machine_at rules c.rule).states + blocks_size (labels_of rules) (shape_at shapes) (calls_in (labels_of rules) (arcs_of (machine_at rules c.rule).states))
        full =
            let h = last_reached made front c at e in
            let here = e.standing c (Has-append_right front (c ∷ []) c (inl refl)) in
            let kept = ap (λ (z : Shape). z.size) (t.kept c.rule h) in
            let size = v_size c.rule h in
            omega (arith, here, kept, size)

        by_states : (states : List (State V)) → 0 < length states + blocks_size (labels_of rules) (shape_at shapes) (calls_in (labels_of rules) (arcs_of states)) → 0 < length states
        by_states [] h = h
        by_states (z ∷ states) h = omega arith

    -- with no block that waits all is made
    pub v_done : (made : List (State Cost)) (waiting : List Calling) (at : ℕ) → IsExpanding (valued_rules value rules) shapes made waiting at → length waiting ≡ 0 → made ≡ (replaced (valued_rules value rules)).states
    v_done made [] at e none = sym (e.laid ∙ append-nil made)
    v_done made (c ∷ waiting) at e none = absurd (omega (arith, none))

    pub v_start : (start : Option ℕ) → start ≡ (machine_at rules 0).start → start ≡ (replaced (valued_rules value rules)).start
    v_start start is = is ∙ (ap (λ (m : Machine Cost). m.start) (sym (machine_valued rules 0)) ∙ ap (λ (m : Machine Cost). m.start) (sym (t.expands 0 root_reached)))

-- the arcs of a rule by the values of their weights are as many
pub total_valued : {V : Type 0} (value : V → Cost) (rules : List (Labelled V)) (i : ℕ) → arc_total (machine_at (valued_rules value rules) i).states ≡ arc_total (machine_at rules i).states
total_valued value rules i = ap (λ (m : Machine Cost). arc_total m.states) (machine_valued value rules i) ∙ arc_total-valued value (machine_at rules i).states
