-- Arcs and states with their calls replaced, one more at a time.
use Rattle.std.proofs.Common.{◌≡◌, ℕ, ◌+◌, ◌≤◌, List, [], ◌∷◌, ◌++◌, Some, length, map, take, drop, slice_get, refl, sym, ap, ◌∙◌, subst, append_assoc, append-nil, arith}
use Rattle.std.proofs.Common.{take-append-drop}
use Rattle.std.specs.Option.{option_map}
use Rattle.std.proofs.lemmas.Grind.{flat_map-append}
use Rattle.std.proofs.lemmas.List.{map-append, take_more}
use Rattle.std.proofs.lemmas.List.Sums.{sum_by-append, sum_by_push}
use Rattle.std.proofs.lemmas.Option.{get_or_from_slice_get, slice_get_within}
use Rattle.fst_semiring.specs.Cost.{Cost}
use Rattle.fst_machine.specs.BreadthFirst.{Has}
use Rattle.fst_machine.specs.Graph.{renamed}
use Rattle.fst_machine.specs.Machine.{Arc, State, arc_total, most_arcs, valued_arc, valued_state}
use Rattle.fst_machine.proofs.Valued.{arc_total-valued, stands}
use Rattle.fst_replace.specs.Calls.{Calling, arcs_of, call_of, calls_in, rules_in}
use Rattle.fst_replace.specs.Expansion.{Shape, blocks_size, entered, entered_by, entered_states}
use Rattle.fst_replace.specs.Rules.{place_of}
use Rattle.fst_replace.specs.Totals.{HasStarts, shifted, standing, standing_call}
use Rattle.fst_replace.proofs.Calling.{arcs_of-more, calls_in-append}
use Rattle.fst_replace.proofs.Expanding.{rules_left, rules_right}

-- arcs by the values of their weights make the same calls
pub calls_valued : {V : Type 0} (value : V → Cost) (labels : List ℕ) (arcs : List (Arc V ℕ)) → calls_in labels (map (valued_arc value) arcs) ≡ calls_in labels arcs
calls_valued value labels [] = refl
calls_valued value labels (a ∷ arcs) = ap (λ cs. call_of labels a ++ cs) (calls_valued value labels arcs)

pub arcs_valued : {V : Type 0} (value : V → Cost) (states : List (State V)) → arcs_of (map (valued_state value) states) ≡ map (valued_arc value) (arcs_of states)
arcs_valued value [] = refl
arcs_valued value (s ∷ states) = ap (λ zs. map (valued_arc value) s.arcs ++ zs) (arcs_valued value states) ∙ sym (map-append (valued_arc value) s.arcs (arcs_of states))

pub standing-append : (s : ℕ → Shape) (xs ys : List Calling) → standing s (xs ++ ys) ≡ standing s xs ++ standing s ys
standing-append s xs ys = flat_map-append (λ (c : Calling). standing_call (s c.rule).size c) xs ys

module _ (labels : List ℕ) (s : ℕ → Shape) where
  pub size-append : (xs ys : List Calling) → blocks_size labels s (xs ++ ys) ≡ blocks_size labels s xs + blocks_size labels s ys
  size-append xs ys = sum_by-append (λ (c : Calling). (s c.rule).size) xs ys

  pub entered-append : (q : ℕ) (xs ys : List (Arc Cost ℕ)) → entered labels s q (xs ++ ys) ≡ entered labels s q xs ++ entered labels s (q + blocks_size labels s (calls_in labels xs)) ys
  entered-append q [] ys = let none : q ≡ q + 0 = omega arith in ap (λ (n : ℕ). entered labels s n ys) none
  entered-append q (a ∷ xs) ys =
      let here = entered_by s q a (place_of labels a.olabel) in
      let size = blocks_size labels s (call_of labels a) in
      let both = size-append (call_of labels a) (calls_in labels xs) in
      let same : q + size + blocks_size labels s (calls_in labels xs) ≡ q + blocks_size labels s (call_of labels a ++ calls_in labels xs) = omega (arith, both) in
      ap (λ zs. here ++ zs) (entered-append (q + size) xs ys)
      ∙ (sym (append_assoc here (entered labels s (q + size) xs) (entered labels s (q + size + blocks_size labels s (calls_in labels xs)) ys))
      ∙ ap (λ (n : ℕ). (here ++ entered labels s (q + size) xs) ++ entered labels s n ys) same)

  pub states-append : (q : ℕ) (xs ys : List (State Cost)) → entered_states labels s q (xs ++ ys) ≡ entered_states labels s q xs ++ entered_states labels s (q + blocks_size labels s (calls_in labels (arcs_of xs))) ys
  states-append q [] ys = let none : q ≡ q + 0 = omega arith in ap (λ (n : ℕ). entered_states labels s n ys) none
  states-append q (z ∷ xs) ys =
      let here : State Cost = record { final = z.final; arcs = entered labels s q z.arcs } in
      let size = blocks_size labels s (calls_in labels z.arcs) in
      let cut = ap (blocks_size labels s) (calls_in-append labels z.arcs (arcs_of xs)) in
      let both = size-append (calls_in labels z.arcs) (calls_in labels (arcs_of xs)) in
      let same : q + size + blocks_size labels s (calls_in labels (arcs_of xs)) ≡ q + blocks_size labels s (calls_in labels (z.arcs ++ arcs_of xs)) = omega (arith, cut, both) in
      ap (λ zs. here ∷ zs) (states-append (q + size) xs ys ∙ ap (λ (n : ℕ). entered_states labels s (q + size) xs ++ entered_states labels s n ys) same)

  module _ {V : Type 0} (value : V → Cost) (arcs : List (Arc V ℕ)) (i : ℕ) (a : Arc V ℕ) (there : slice_get arcs i ≡ Some a) where
    taken : take (i + 1) arcs ≡ take i arcs ++ a ∷ []
    taken = take_more arcs i a (slice_get_within arcs i a there) ∙ ap (λ z. take i arcs ++ z ∷ []) (get_or_from_slice_get arcs i a a there)

    pub calls_more : calls_in labels (take (i + 1) arcs) ≡ calls_in labels (take i arcs) ++ call_of labels a
    calls_more = ap (calls_in labels) taken ∙ (calls_in-append labels (take i arcs) (a ∷ []) ∙ ap (λ cs. calls_in labels (take i arcs) ++ cs) (append-nil (call_of labels a)))

    -- one arc more
    pub entered_more : (q at : ℕ) → map (renamed (λ p. at + p)) (entered labels s q (map (valued_arc value) (take (i + 1) arcs))) ≡ map (renamed (λ p. at + p)) (entered labels s q (map (valued_arc value) (take i arcs))) ++ map (renamed (λ p. at + p)) (entered_by s (q + blocks_size labels s (calls_in labels (take i arcs))) (valued_arc value a) (place_of labels a.olabel))
    entered_more q at =
        let f = renamed {N = ℕ} {M = ℕ} (λ p. at + p) in
        let front = map (valued_arc value) (take i arcs) in
        let next = q + blocks_size labels s (calls_in labels front) in
        ap (λ zs. map f (entered labels s q zs)) (ap (map (valued_arc value)) taken ∙ map-append (valued_arc value) (take i arcs) (a ∷ []))
        ∙ (ap (map f) (entered-append q front (valued_arc value a ∷ []))
        ∙ (map-append f (entered labels s q front) (entered_by s next (valued_arc value a) (place_of labels a.olabel) ++ [])
        ∙ (ap (λ zs. map f (entered labels s q front) ++ map f zs) (append-nil (entered_by s next (valued_arc value a) (place_of labels a.olabel)))
        ∙ ap (λ cs. map f (entered labels s q front) ++ map f (entered_by s (q + blocks_size labels s cs) (valued_arc value a) (place_of labels a.olabel))) (calls_valued value labels (take i arcs)))))

    pub standing_more : (at : ℕ) → map (shifted at) (standing s (calls_in labels (take (i + 1) arcs))) ≡ map (shifted at) (standing s (calls_in labels (take i arcs))) ++ map (shifted at) (standing s (call_of labels a))
    standing_more at = ap (λ cs. map (shifted at) (standing s cs)) calls_more ∙ (ap (map (shifted at)) (standing-append s (calls_in labels (take i arcs)) (call_of labels a)) ∙ map-append (shifted at) (standing s (calls_in labels (take i arcs))) (standing s (call_of labels a)))

    pub size_more : blocks_size labels s (calls_in labels (take (i + 1) arcs)) ≡ blocks_size labels s (calls_in labels (take i arcs)) + blocks_size labels s (call_of labels a)
    size_more = ap (blocks_size labels s) calls_more ∙ size-append (calls_in labels (take i arcs)) (call_of labels a)

    whole : (j : ℕ) → calls_in labels arcs ≡ calls_in labels (take j arcs) ++ calls_in labels (drop j arcs)
    whole j = ap (calls_in labels) (sym (take-append-drop j arcs)) ∙ calls_in-append labels (take j arcs) (drop j arcs)

    -- there is room for its block where there is room for all
    pub size_within : blocks_size labels s (calls_in labels (take i arcs)) + blocks_size labels s (call_of labels a) ≤ blocks_size labels s (calls_in labels arcs)
    size_within =
        let parts = ap (blocks_size labels s) (whole (i + 1)) ∙ size-append (calls_in labels (take (i + 1) arcs)) (calls_in labels (drop (i + 1) arcs)) in
        omega (arith, parts, size_more)

    pub starts_within : HasStarts s (rules_in (calls_in labels arcs)) → HasStarts s (rules_in (call_of labels a))
    starts_within starts r h = starts r (subst (λ cs. Has (rules_in cs) r) (sym (whole (i + 1))) (rules_left (calls_in labels (take (i + 1) arcs)) (calls_in labels (drop (i + 1) arcs)) r (subst (λ cs. Has (rules_in cs) r) (sym calls_more) (rules_right (calls_in labels (take i arcs)) (call_of labels a) r h))))

module _ (labels : List ℕ) (s : ℕ → Shape) {V : Type 0} (value : V → Cost) (states : List (State V)) (i : ℕ) (last : V) (arcs : List (Arc V ℕ)) (f : option_map (λ s. s.final) (slice_get states i) ≡ Some last) (a : option_map (λ s. s.arcs) (slice_get states i) ≡ Some arcs) where
  first_states : take (i + 1) states ≡ take i states ++ record { final = last; arcs = arcs } ∷ []
  first_states =
      let there = stands states i last arcs f a in
      let here : State V = record { final = last; arcs = arcs } in
      take_more states i here (slice_get_within states i here there) ∙ ap (λ z. take i states ++ z ∷ []) (get_or_from_slice_get states i here here there)

  pub state_calls : calls_in labels (arcs_of (take (i + 1) states)) ≡ calls_in labels (arcs_of (take i states)) ++ calls_in labels arcs
  state_calls = ap (calls_in labels) (arcs_of-more states i arcs a) ∙ calls_in-append labels (arcs_of (take i states)) arcs

  pub state_size : blocks_size labels s (calls_in labels (arcs_of (take (i + 1) states))) ≡ blocks_size labels s (calls_in labels (arcs_of (take i states))) + blocks_size labels s (calls_in labels arcs)
  state_size = ap (blocks_size labels s) state_calls ∙ size-append labels s (calls_in labels (arcs_of (take i states))) (calls_in labels arcs)

  pub state_standing : (at : ℕ) → map (shifted at) (standing s (calls_in labels (arcs_of (take (i + 1) states)))) ≡ map (shifted at) (standing s (calls_in labels (arcs_of (take i states)))) ++ map (shifted at) (standing s (calls_in labels arcs))
  state_standing at = ap (λ cs. map (shifted at) (standing s cs)) state_calls ∙ (ap (map (shifted at)) (standing-append s (calls_in labels (arcs_of (take i states))) (calls_in labels arcs)) ∙ map-append (shifted at) (standing s (calls_in labels (arcs_of (take i states)))) (standing s (calls_in labels arcs)))

  all_states : (j : ℕ) → calls_in labels (arcs_of states) ≡ calls_in labels (arcs_of (take j states)) ++ calls_in labels (arcs_of (drop j states))
  all_states j = ap (λ zs. calls_in labels (arcs_of zs)) (sym (take-append-drop j states)) ∙ (ap (calls_in labels) (flat_map-append (λ (z : State V). z.arcs) (take j states) (drop j states)) ∙ calls_in-append labels (arcs_of (take j states)) (arcs_of (drop j states)))

  pub state_within : blocks_size labels s (calls_in labels (arcs_of (take i states))) + blocks_size labels s (calls_in labels arcs) ≤ blocks_size labels s (calls_in labels (arcs_of states))
  state_within =
      let parts = ap (blocks_size labels s) (all_states (i + 1)) ∙ size-append labels s (calls_in labels (arcs_of (take (i + 1) states))) (calls_in labels (arcs_of (drop (i + 1) states))) in
      omega (arith, parts, state_size)

  pub state_starts : HasStarts s (rules_in (calls_in labels (arcs_of states))) → HasStarts s (rules_in (calls_in labels arcs))
  state_starts starts r h = starts r (subst (λ cs. Has (rules_in cs) r) (sym (all_states (i + 1))) (rules_left (calls_in labels (arcs_of (take (i + 1) states))) (calls_in labels (arcs_of (drop (i + 1) states))) r (subst (λ cs. Has (rules_in cs) r) (sym state_calls) (rules_right (calls_in labels (arcs_of (take i states))) (calls_in labels arcs) r h))))

  module _ (g : State Cost → State Cost) (q : ℕ) where
    new_state : State Cost
    new_state = record { final = value last; arcs = entered labels s (q + blocks_size labels s (calls_in labels (arcs_of (take i states)))) (map (valued_arc value) arcs) }

    -- one state more
    pub state_more : map g (entered_states labels s q (map (valued_state value) (take (i + 1) states))) ≡ map g (entered_states labels s q (map (valued_state value) (take i states))) ++ g (record { final = value last; arcs = entered labels s (q + blocks_size labels s (calls_in labels (arcs_of (take i states)))) (map (valued_arc value) arcs) }) ∷ []
    state_more =
        let front = map (valued_state value) (take i states) in
        let here : State Cost = record { final = value last; arcs = map (valued_arc value) arcs } in
        let same : calls_in labels (arcs_of front) ≡ calls_in labels (arcs_of (take i states)) = ap (calls_in labels) (arcs_valued value (take i states)) ∙ calls_valued value labels (arcs_of (take i states)) in
        ap (λ zs. map g (entered_states labels s q zs)) (ap (map (valued_state value)) first_states ∙ map-append (valued_state value) (take i states) (record { final = last; arcs = arcs } ∷ []))
        ∙ (ap (map g) (states-append labels s q front (here ∷ []))
        ∙ (map-append g (entered_states labels s q front) (entered_states labels s (q + blocks_size labels s (calls_in labels (arcs_of front))) (here ∷ []))
        ∙ ap (λ cs. map g (entered_states labels s q front) ++ g (record { final = value last; arcs = entered labels s (q + blocks_size labels s cs) (map (valued_arc value) arcs) }) ∷ []) same))

    -- there is room for it where there is room for all
    pub state_room : (front old : List (State V)) → map (valued_state value) old ≡ map (valued_state value) front ++ map g (entered_states labels s q (map (valued_state value) (take i states))) → arc_total front + arc_total (map g (entered_states labels s q (map (valued_state value) states))) ≤ most_arcs → arc_total old + length (g (record { final = value last; arcs = entered labels s (q + blocks_size labels s (calls_in labels (arcs_of (take i states)))) (map (valued_arc value) arcs) })).arcs ≤ most_arcs
    state_room front old so_far room =
        let done = map g (entered_states labels s q (map (valued_state value) (take i states))) in
        let first = map (valued_state value) (take (i + 1) states) in
        let rest = map (valued_state value) (drop (i + 1) states) in
        let next = q + blocks_size labels s (calls_in labels (arcs_of first)) in
        let split : map g (entered_states labels s q (map (valued_state value) states)) ≡ map g (entered_states labels s q first) ++ map g (entered_states labels s next rest) = ap (λ zs. map g (entered_states labels s q zs)) (ap (map (valued_state value)) (sym (take-append-drop (i + 1) states)) ∙ map-append (valued_state value) (take (i + 1) states) (drop (i + 1) states)) ∙ (ap (map g) (states-append labels s q first rest) ∙ map-append g (entered_states labels s q first) (entered_states labels s next rest)) in
        let all = ap arc_total split ∙ sum_by-append (λ (t : State Cost). length t.arcs) (map g (entered_states labels s q first)) (map g (entered_states labels s next rest)) in
        let more = ap arc_total state_more ∙ sum_by_push (λ (t : State Cost). length t.arcs) done (g (record { final = value last; arcs = entered labels s (q + blocks_size labels s (calls_in labels (arcs_of (take i states)))) (map (valued_arc value) arcs) })) in
        let now = sym (arc_total-valued value old) ∙ (ap arc_total so_far ∙ (sum_by-append (λ (t : State Cost). length t.arcs) (map (valued_state value) front) done ∙ ap (λ n. n + arc_total done) (arc_total-valued value front))) in
        omega (arith, all, more, now, room)
