-- Labels changed where the arcs stand.
use Rattle.std.proofs.Common.{◌≡◌, ℕ, suc, ◌+◌, ◌<◌, ◌≤◌, List, [], ◌∷◌, ◌++◌, Some, length, map, get_or, set, slice_get, take, drop, refl, sym, ap, ◌∙◌, subst, append_assoc, append-nil, arith}
use Rattle.std.specs.List.{All}
use Rattle.std.proofs.lemmas.List.{drop_all, drop_more, get_or_at, length-append, length-map, length-take-le, map_more, set_at, take-append-drop, take_all}
use Rattle.std.proofs.lemmas.List.Elements.{All-map, All-weaker}
use Rattle.fst_semiring.specs.Cost.{Cost}
use Rattle.fst_machine.specs.ArcsChanged.{IsArcsChanged}
use Rattle.fst_machine.specs.Machine.{Arc, State, Machine, IsArc, valued, valued_arc, valued_state}
use Rattle.fst_rational.specs.Labels.{KeepsRange, Rule, labelled, labelled_state, labelled_machine}

-- a list whose elements before a place are changed, and that at the place too
pub change_more : {X : Type 0} (f : X → X) (old now : List X) (i : ℕ) (a : X) → i < length old → now ≡ map f (take i old) ++ drop i old → a ≡ get_or now i a → set now i (f a) ≡ map f (take (i + 1) old) ++ drop (i + 1) old
change_more f old now i a low is read =
    let front = map f (take i old) in
    let size : length front ≡ i = length-map (take i old) f ∙ length-take-le i old (omega (arith, low)) in
    let split : now ≡ front ++ get_or old i a ∷ drop (i + 1) old = is ∙ ap (λ l. front ++ l) (drop_more old i a low) in
    let same : a ≡ get_or old i a = read ∙ (ap (λ l. get_or l i a) split ∙ get_or_at front (get_or old i a) (drop (i + 1) old) a i size) in
    let more : map f (take (i + 1) old) ++ drop (i + 1) old ≡ front ++ f (get_or old i a) ∷ drop (i + 1) old = ap (λ l. l ++ drop (i + 1) old) (map_more f old i a low) ∙ append_assoc front (f (get_or old i a) ∷ []) (drop (i + 1) old) in
    ap (λ l. set l i (f a)) split ∙ (set_at front (get_or old i a) (drop (i + 1) old) (f a) i size ∙ (ap (λ b. front ++ f b ∷ drop (i + 1) old) same ∙ sym more))

-- all are
pub change_ends : {X : Type 0} (f : X → X) (old now : List X) (i : ℕ) → length old ≤ i → now ≡ map f (take i old) ++ drop i old → now ≡ map f old
change_ends f old now i done is = is ∙ (ap (λ l. map f (take i old) ++ l) (drop_all i old done) ∙ (append-nil (map f (take i old)) ∙ ap (map f) (take_all i old done)))

pub change_sized : {X : Type 0} (f : X → X) (old now : List X) (i : ℕ) → now ≡ map f (take i old) ++ drop i old → length now ≡ length old
change_sized f old now i is =
    let whole : length now ≡ length (map f (take i old)) + length (drop i old) = ap length is ∙ length-append (map f (take i old)) (drop i old) in
    let both : length old ≡ length (take i old) + length (drop i old) = ap length (sym (take-append-drop i old)) ∙ length-append (take i old) (drop i old) in
    omega (arith, whole, both, length-map (take i old) f)

module _ (reads writes : Rule) {V : Type 0} (value : V → Cost) where
  -- arcs of a machine become such arcs where new labels are in range
  pub labelled_arcs : KeepsRange reads writes → (n : ℕ) (arcs new : List (Arc V ℕ)) → new ≡ map (labelled reads writes) arcs → All (IsArc value n) arcs → All (IsArc value n) new
  labelled_arcs small n arcs new is good = subst (λ (zs : List (Arc V ℕ)). All (IsArc value n) zs) (sym is)
      (All-map (IsArc value n) (labelled reads writes) arcs (All-weaker (IsArc value n) (λ a. IsArc value n (labelled reads writes a)) (λ a b. record { ilabel = (small a.ilabel a.olabel b.ilabel b.olabel).0; olabel = (small a.ilabel a.olabel b.ilabel b.olabel).1; weight = b.weight; next = b.next }) arcs good))

  -- the arcs with each weight as its value
  valued_labelled : (arcs : List (Arc V ℕ)) → map (valued_arc value) (map (labelled reads writes) arcs) ≡ map (labelled reads writes) (map (valued_arc value) arcs)
  valued_labelled [] = refl
  valued_labelled (a ∷ arcs) = ap (λ (zs : List (Arc Cost ℕ)). labelled reads writes (valued_arc value a) ∷ zs) (valued_labelled arcs)

  -- the states of which each has its arcs labelled
  labelled_states : (old new : List (State V)) → length new ≡ length old → ((p : ℕ) (s t : State V) → slice_get old p ≡ Some s → slice_get new p ≡ Some t → (t.final ≡ s.final) × (t.arcs ≡ map (labelled reads writes) s.arcs)) → map (valued_state value) new ≡ map (labelled_state reads writes) (map (valued_state value) old)
  labelled_states [] [] size are = refl
  labelled_states [] (t ∷ new) size are = absurd (omega (arith, size))
  labelled_states (s ∷ old) [] size are = absurd (omega (arith, size))
  labelled_states (s ∷ old) (t ∷ new) size are =
      let here = are 0 s t refl refl in
      let arcs : map (valued_arc value) t.arcs ≡ map (labelled reads writes) (map (valued_arc value) s.arcs) = ap (map (valued_arc value)) here.1 ∙ valued_labelled s.arcs in
      let final : value t.final ≡ value s.final = ap value here.0 in
      let rest = labelled_states old new (omega (arith, size)) (λ p u v one two. are (suc p) u v one two) in
      λ i. record { final = final i; arcs = arcs i } ∷ rest i

  -- the machine
  pub labelled_given : (m c : Machine V) → IsArcsChanged (λ arcs new. new ≡ map (labelled reads writes) arcs) m c → valued value c ≡ labelled_machine reads writes (valued value m)
  labelled_given m c is =
      let states = labelled_states m.states c.states is.size (λ p s t one two. (is.final p s t one two, is.arcs p s t one two)) in
      λ i. record { start = is.start i; states = states i }
