-- The moves at a name of a composition: just those that the filter lets through, none twice, in the order of the
-- arcs that they make.
use Rattle.std.proofs.Common.{◌≡◌, ◌⊎◌, inl, inr, ℕ, zero, suc, List, [], ◌∷◌, ◌++◌, map, cond, nat_eq, Bool, true, false, sym, refl, ap, ap₂, ◌∙◌, subst, eq-eqb, eqb-true}
use Rattle.std.specs.List.{flat_map}
use Rattle.std.proofs.lemmas.List.{map-append}
use Rattle.std.proofs.lemmas.List.Folds.{flat_map-map}
use Rattle.fst_semiring.specs.declared.arc_type.ArcType.{ArcType}
use Rattle.fst_machine.specs.Graph.{Graph}
use Rattle.fst_machine.specs.Paths.{Transition, Leaves}
use Rattle.fst_machine.specs.BreadthFirst.{Has, Apart}
use Rattle.fst_machine.proofs.Elements.{Has-append_left, Has-append_right, Has-append_cases}
use Rattle.fst_compose.specs.Names.{Name}
use Rattle.fst_compose.specs.Composition.{by_label, match_arcs, first_arcs, second_arcs, composed}
use Rattle.fst_compose.specs.Moves.{Move, both, first_only, second_only, Fits, transitions, both_moves, first_moves, second_moves, moves_at, arc_by}
use Rattle.fst_compose.proofs.Merge.{by_label_zero, by_label_other}
use Rattle.fst_compose.proofs.Leaving.{transitions_from-arcs, transitions_leave, leaves_transitions, transitions-Apart, flat_map_Has, Has-flat_map, Apart-append, Apart-flat_map}

-- a function of the pieces of a list
pub map-flat_map : {X Y Z : Type 0} (h : Y → Z) (f : X → List Y) (xs : List X) → map h (flat_map f xs) ≡ flat_map (λ x. map h (f x)) xs
map-flat_map h f [] = refl
map-flat_map h f (x ∷ xs) = map-append h (f x) (flat_map f xs) ∙ ap (λ ys. map h (f x) ++ ys) (map-flat_map h f xs)

-- pieces that are equal one by one
pub flat_map-same : {X Y : Type 0} (f g : X → List Y) (xs : List X) → ((x : X) → f x ≡ g x) → flat_map f xs ≡ flat_map g xs
flat_map-same f g [] same = refl
flat_map-same f g (x ∷ xs) same = ap₂ (◌++◌) (same x) (flat_map-same f g xs same)

map-cond : {X Y : Type 0} (h : X → Y) (test : Bool) (x : X) → map h (cond test (x ∷ []) []) ≡ cond test (h x ∷ []) []
map-cond h true x = refl
map-cond h false x = refl

map-by_label : {X Y : Type 0} (h : X → Y) (k : ℕ) (xs ys : List X) → map h (by_label k xs ys) ≡ by_label k (map h xs) (map h ys)
map-by_label h zero xs ys = refl
map-by_label h (suc k) xs ys = refl

-- the label that the first machine writes, and the label that the second reads
abbrev pub writes : {N : Type 0} → Transition N → ℕ
writes t = t.arc.olabel

abbrev pub reads : {M : Type 0} → Transition M → ℕ
reads t = t.arc.ilabel

module _ {N M : Type 0} (kind : ArcType) (a : Graph N) (b : Graph M) where
  first_moves_arcs : (n : Name N M) (s : Transition N) → map (arc_by kind n) (first_moves n.filter (transitions b n.second) s) ≡ first_arcs kind n (b.arcs n.second) s.arc
  first_moves_arcs n s =
      map-by_label (arc_by kind n) s.arc.olabel (by_label n.filter (first_only s ∷ []) []) (flat_map (both_moves s) (transitions b n.second))
      ∙ ap₂ (by_label s.arc.olabel) (map-by_label (arc_by kind n) n.filter (first_only s ∷ []) [])
      (map-flat_map (arc_by kind n) (both_moves s) (transitions b n.second)
      ∙ (flat_map-same (λ t. map (arc_by kind n) (both_moves s t)) (λ t. match_arcs kind s.arc t.arc) (transitions b n.second) (λ t. map-cond (arc_by kind n) (nat_eq s.arc.olabel t.arc.ilabel) (both s t))
      ∙ (sym (flat_map-map (match_arcs kind s.arc) (λ (t : Transition M). t.arc) (transitions b n.second))
      ∙ ap (flat_map (match_arcs kind s.arc)) (transitions_from-arcs n.second 0 (b.arcs n.second)))))

  second_moves_arcs : (n : Name N M) (t : Transition M) → map (arc_by kind n) (second_moves {N = N} t) ≡ second_arcs n t.arc
  second_moves_arcs n t = map-by_label (arc_by kind n) t.arc.ilabel (second_only t ∷ []) []

  -- the arcs of a name are what its moves make
  pub composed_arcs : (n : Name N M) → (composed kind a b).arcs n ≡ map (arc_by kind n) (moves_at a b n)
  composed_arcs n = sym (
      map-append (arc_by kind n) (flat_map (first_moves n.filter (transitions b n.second)) (transitions a n.first)) (flat_map second_moves (transitions b n.second))
      ∙ ap₂ (◌++◌)
      (map-flat_map (arc_by kind n) (first_moves n.filter (transitions b n.second)) (transitions a n.first)
      ∙ (flat_map-same (λ s. map (arc_by kind n) (first_moves n.filter (transitions b n.second) s)) (λ s. first_arcs kind n (b.arcs n.second) s.arc) (transitions a n.first) (first_moves_arcs n)
      ∙ (sym (flat_map-map (first_arcs kind n (b.arcs n.second)) (λ (s : Transition N). s.arc) (transitions a n.first))
      ∙ ap (flat_map (first_arcs kind n (b.arcs n.second))) (transitions_from-arcs n.first 0 (a.arcs n.first)))))
      (map-flat_map (arc_by kind n) second_moves (transitions b n.second)
      ∙ (flat_map-same (λ t. map (arc_by kind n) (second_moves {N = N} t)) (λ t. second_arcs n t.arc) (transitions b n.second) (second_moves_arcs n)
      ∙ (sym (flat_map-map (second_arcs n) (λ (t : Transition M). t.arc) (transitions b n.second))
      ∙ ap (flat_map (second_arcs n)) (transitions_from-arcs n.second 0 (b.arcs n.second))))))

module _ {N M : Type 0} (a : Graph N) (b : Graph M) (n : Name N M) where
  -- the transitions of a move leave the two states of the name
  abbrev pub LeaveBoth : Move (Transition N) (Transition M) → Type 0
  LeaveBoth (both s t) = Leaves a n.first s × Leaves b n.second t
  LeaveBoth (first_only s) = Leaves a n.first s
  LeaveBoth (second_only t) = Leaves b n.second t

  -- a move of the name
  abbrev pub IsMove : Move (Transition N) (Transition M) → Type 0
  IsMove m = LeaveBoth m × Fits writes reads n.filter m

  both_moves_Has : (s : Transition N) (t : Transition M) (m : Move (Transition N) (Transition M)) → Has (both_moves s t) m → (both s t ≡ m) × (s.arc.olabel ≡ t.arc.ilabel)
  both_moves_Has s t m h = by_test (nat_eq s.arc.olabel t.arc.ilabel) refl h
    where
      by_test : (test : Bool) → nat_eq s.arc.olabel t.arc.ilabel ≡ test → Has (cond test (both s t ∷ []) []) m → (both s t ≡ m) × (s.arc.olabel ≡ t.arc.ilabel)
      by_test true e (inl same) = (same, eqb-true s.arc.olabel t.arc.ilabel e)
      by_test true e (inr none) = absurd none
      by_test false e none = absurd none

  -- the first machine goes by s in this move
  abbrev GoesBy : Transition N → Move (Transition N) (Transition M) → Type 0
  GoesBy s (both x y) = s ≡ x
  GoesBy s (first_only x) = s ≡ x
  GoesBy s (second_only y) = ⊥

  -- what is listed for a transition of the first machine
  first_moves_Has : (s : Transition N) → Has (transitions a n.first) s → (m : Move (Transition N) (Transition M)) → Has (first_moves n.filter (transitions b n.second) s) m → IsMove m × GoesBy s m
  first_moves_Has s from m h = by_olabel s.arc.olabel refl h
    where
      by_filter : (f : ℕ) → n.filter ≡ f → s.arc.olabel ≡ 0 → Has (by_label f (first_only s ∷ []) []) m → IsMove m × GoesBy s m
      by_filter zero e silent (inl same) = subst (λ z. IsMove z × GoesBy s z) same ((transitions_leave a n.first s from, (silent, e)), refl)
      by_filter zero e silent (inr none) = absurd none
      by_filter (suc f) e silent none = absurd none

      by_olabel : (k : ℕ) → s.arc.olabel ≡ k → Has (by_label k (by_label n.filter (first_only s ∷ []) []) (flat_map (both_moves s) (transitions b n.second))) m → IsMove m × GoesBy s m
      by_olabel zero e h = by_filter n.filter refl e h
      by_olabel (suc k) e h =
          let at = flat_map_Has (both_moves s) (transitions b n.second) m h in
          let is = both_moves_Has s at.0 m at.2 in
          subst (λ z. IsMove z × GoesBy s z) is.0 (((transitions_leave a n.first s from, transitions_leave b n.second at.0 at.1), (is.1, (λ none. absurd (let wrong : suc k ≡ 0 = sym e ∙ none in cc)))), refl)

  second_moves_Has : (t : Transition M) → Has (transitions b n.second) t → (m : Move (Transition N) (Transition M)) → Has (second_moves t) m → (second_only t ≡ m) × IsMove m
  second_moves_Has t from m h = by_ilabel t.arc.ilabel refl h
    where
      by_ilabel : (k : ℕ) → t.arc.ilabel ≡ k → Has (by_label k (second_only t ∷ []) []) m → (second_only t ≡ m) × IsMove m
      by_ilabel zero e (inl same) = (same, subst IsMove same (transitions_leave b n.second t from, e))
      by_ilabel zero e (inr none) = absurd none
      by_ilabel (suc k) e none = absurd none

  -- each listed move is a move of the name
  pub listed_is_move : (m : Move (Transition N) (Transition M)) → Has (moves_at a b n) m → IsMove m
  listed_is_move m h = by_part (Has-append_cases (flat_map (first_moves n.filter (transitions b n.second)) (transitions a n.first)) (flat_map second_moves (transitions b n.second)) m h)
    where
      by_part : Has (flat_map (first_moves n.filter (transitions b n.second)) (transitions a n.first)) m ⊎ Has (flat_map second_moves (transitions b n.second)) m → IsMove m
      by_part (inl k) =
          let at = flat_map_Has (first_moves n.filter (transitions b n.second)) (transitions a n.first) m k in
          (first_moves_Has at.0 at.1 m at.2).0
      by_part (inr k) =
          let at = flat_map_Has second_moves (transitions b n.second) m k in
          (second_moves_Has at.0 at.1 m at.2).1

  -- each move of the name is listed
  pub move_is_listed : (m : Move (Transition N) (Transition M)) → IsMove m → Has (moves_at a b n) m
  move_is_listed (both s t) h =
      let here : Has (both_moves s t) (both s t) = subst (λ (test : Bool). Has (cond test (both s t ∷ []) []) (both s t)) (sym (eq-eqb s.arc.olabel t.arc.ilabel h.1.0)) (inl refl) in
      let among : Has (flat_map (both_moves s) (transitions b n.second)) (both s t) = Has-flat_map (both_moves s) (transitions b n.second) t (both s t) (leaves_transitions b n.second t h.0.1) here in
      let given : Has (first_moves n.filter (transitions b n.second) s) (both s t) = subst (λ zs. Has zs (both s t)) (sym (by_label_other s.arc.olabel (by_label n.filter (first_only s ∷ []) []) (flat_map (both_moves s) (transitions b n.second)) h.1.1)) among in
      Has-append_left (flat_map (first_moves n.filter (transitions b n.second)) (transitions a n.first)) _ (both s t) (Has-flat_map (first_moves n.filter (transitions b n.second)) (transitions a n.first) s (both s t) (leaves_transitions a n.first s h.0.0) given)
  move_is_listed (first_only s) h =
      let open_filter : by_label n.filter (first_only s ∷ []) [] ≡ first_only s ∷ [] = by_label_zero n.filter (first_only s ∷ []) [] h.1.1 in
      let here : first_moves n.filter (transitions b n.second) s ≡ first_only s ∷ [] = by_label_zero s.arc.olabel (by_label n.filter (first_only s ∷ []) []) (flat_map (both_moves s) (transitions b n.second)) h.1.0 ∙ open_filter in
      let given : Has (first_moves n.filter (transitions b n.second) s) (first_only s) = subst (λ zs. Has zs (first_only s)) (sym here) (inl refl) in
      Has-append_left (flat_map (first_moves n.filter (transitions b n.second)) (transitions a n.first)) _ (first_only s) (Has-flat_map (first_moves n.filter (transitions b n.second)) (transitions a n.first) s (first_only s) (leaves_transitions a n.first s h.0) given)
  move_is_listed (second_only t) h =
      let given : Has (second_moves {N = N} t) (second_only t) = subst (λ zs. Has zs (second_only t)) (sym (by_label_zero t.arc.ilabel (second_only t ∷ []) [] h.1)) (inl refl) in
      Has-append_right (flat_map (first_moves n.filter (transitions b n.second)) (transitions a n.first)) (flat_map second_moves (transitions b n.second)) (second_only t) (Has-flat_map second_moves (transitions b n.second) t (second_only t) (leaves_transitions b n.second t h.0) given)

  both_moves-Apart : (s : Transition N) (t : Transition M) → Apart (both_moves s t)
  both_moves-Apart s t = by_test (nat_eq s.arc.olabel t.arc.ilabel)
    where
      by_test : (test : Bool) → Apart {X = Move (Transition N) (Transition M)} (cond test (both s t ∷ []) [])
      by_test true = ((λ none. none), tt)
      by_test false = tt

  first_moves-Apart : (s : Transition N) → Apart (first_moves n.filter (transitions b n.second) s)
  first_moves-Apart s = by_olabel s.arc.olabel
    where
      by_filter : (f : ℕ) → Apart {X = Move (Transition N) (Transition M)} (by_label f (first_only s ∷ []) [])
      by_filter zero = ((λ none. none), tt)
      by_filter (suc f) = tt

      one_partner : (t u : Transition M) (m : Move (Transition N) (Transition M)) → Has (both_moves s t) m → Has (both_moves s u) m → t ≡ u
      one_partner t u m h k =
          let same : both s t ≡ both s u = (both_moves_Has s t m h).0 ∙ sym (both_moves_Has s u m k).0 in
          cc

      by_olabel : (k : ℕ) → Apart {X = Move (Transition N) (Transition M)} (by_label k (by_label n.filter (first_only s ∷ []) []) (flat_map (both_moves s) (transitions b n.second)))
      by_olabel zero = by_filter n.filter
      by_olabel (suc k) = Apart-flat_map (both_moves s) (transitions b n.second) (transitions-Apart b n.second) (both_moves-Apart s) one_partner

  second_moves-Apart : (t : Transition M) → Apart (second_moves {N = N} t)
  second_moves-Apart t = by_ilabel t.arc.ilabel
    where
      by_ilabel : (k : ℕ) → Apart {X = Move (Transition N) (Transition M)} (by_label k (second_only t ∷ []) [])
      by_ilabel zero = ((λ none. none), tt)
      by_ilabel (suc k) = tt

  -- the second machine goes alone by t
  second_moves_only : (t : Transition M) (m : Move (Transition N) (Transition M)) → Has (second_moves t) m → second_only t ≡ m
  second_moves_only t m h = by_ilabel t.arc.ilabel h
    where
      by_ilabel : (k : ℕ) → Has (by_label k (second_only t ∷ []) []) m → second_only t ≡ m
      by_ilabel zero (inl same) = same
      by_ilabel zero (inr none) = absurd none
      by_ilabel (suc k) none = absurd none

  -- the first machine goes by s
  first_moves_by : (s : Transition N) (m : Move (Transition N) (Transition M)) → Has (first_moves n.filter (transitions b n.second) s) m → GoesBy s m
  first_moves_by s m h = by_olabel s.arc.olabel h
    where
      by_filter : (f : ℕ) → Has (by_label f (first_only s ∷ []) []) m → GoesBy s m
      by_filter zero (inl same) = subst (GoesBy s) same refl
      by_filter zero (inr none) = absurd none
      by_filter (suc f) none = absurd none

      by_olabel : (k : ℕ) → Has (by_label k (by_label n.filter (first_only s ∷ []) []) (flat_map (both_moves s) (transitions b n.second))) m → GoesBy s m
      by_olabel zero h = by_filter n.filter h
      by_olabel (suc k) h =
          let at = flat_map_Has (both_moves s) (transitions b n.second) m h in
          subst (GoesBy s) (both_moves_Has s at.0 m at.2).0 refl

  goes_by_one : (s u : Transition N) (m : Move (Transition N) (Transition M)) → GoesBy s m → GoesBy u m → s ≡ u
  goes_by_one s u (both x y) one two = one ∙ sym two
  goes_by_one s u (first_only x) one two = one ∙ sym two
  goes_by_one s u (second_only y) one two = absurd one

  -- none is listed twice
  pub moves-Apart : Apart (moves_at a b n)
  moves-Apart = Apart-append (flat_map (first_moves n.filter (transitions b n.second)) (transitions a n.first)) (flat_map second_moves (transitions b n.second)) with_first alone between
    where
      with_first : Apart (flat_map (first_moves n.filter (transitions b n.second)) (transitions a n.first))
      with_first = Apart-flat_map (first_moves n.filter (transitions b n.second)) (transitions a n.first) (transitions-Apart a n.first) first_moves-Apart (λ s u m h k. goes_by_one s u m (first_moves_by s m h) (first_moves_by u m k))

      same_alone : (t u : Transition M) (m : Move (Transition N) (Transition M)) → Has (second_moves t) m → Has (second_moves u) m → t ≡ u
      same_alone t u m h k =
          let same : ◌≡◌ {A = Move (Transition N) (Transition M)} (second_only t) (second_only u) = second_moves_only t m h ∙ sym (second_moves_only u m k) in
          cc

      alone : Apart {X = Move (Transition N) (Transition M)} (flat_map second_moves (transitions b n.second))
      alone = Apart-flat_map second_moves (transitions b n.second) (transitions-Apart b n.second) second_moves-Apart same_alone

      between : (m : Move (Transition N) (Transition M)) → Has (flat_map (first_moves n.filter (transitions b n.second)) (transitions a n.first)) m → Has (flat_map second_moves (transitions b n.second)) m → ⊥
      between m h k =
          let one = flat_map_Has (first_moves n.filter (transitions b n.second)) (transitions a n.first) m h in
          let two = flat_map_Has second_moves (transitions b n.second) m k in
          subst (GoesBy one.0) (sym (second_moves_only two.0 m two.2)) (first_moves_by one.0 m one.2)
