-- A machine that is made ready gives words the same weights, and words lead to the states of the connected one.
use Rattle.std.proofs.Common.{◌≡◌, ◌⊎◌, ◌↔◌, inl, inr, ℕ, ◌<◌, ◌≤◌, Bool, true, List, [], ◌∷◌, Some, filter, length, nat_eq, get_or, slice_get, is_lt, nat_cmp, refl, sym, ap, ◌∙◌, subst, arith}
use Rattle.std.specs.List.Sorted.{IsPermutation, ties}
use Rattle.std.proofs.lemmas.Bool.{cases_lt, eq-eqb}
use Rattle.std.proofs.lemmas.List.{get_or_past}
use Rattle.std.proofs.lemmas.List.Sorted.{Contains-permutation}
use Rattle.std.proofs.lemmas.Option.{get_or_from_slice_get, slice_get-get_or, slice_get_within}
use Rattle.fst_semiring.specs.Cost.{Cost}
use Rattle.fst_semiring.specs.declared.arc_type.ArcType.{ArcType}
use Rattle.fst_machine.specs.Connected.{IsConnected, IsKeptAt}
use Rattle.fst_machine.specs.Graph.{graph_of, no_state}
use Rattle.fst_machine.specs.Letters.{Letter, label_word}
use Rattle.fst_machine.specs.Machine.{Arc, Machine, State, valued}
use Rattle.fst_machine.specs.Paths.{IsPath, Transition, letters}
use Rattle.fst_machine.proofs.Connected.{Kept_from, connected_serves, machine_serves, one_place}
use Rattle.fst_machine.proofs.Cycles.{state_below}
use Rattle.fst_trim.specs.FirstArcs.{IsDeterministic}
use Rattle.fst_trim.specs.Sides.{StandsBy}
use Rattle.fst_trim.specs.Sorting.{IsStableSort}
use Rattle.fst_trim.specs.WordWeights.{WordWeighs}
use Rattle.fst_trim.specs.declared.side.Side.TheVariants.{Input}
use Rattle.fst_trim.proofs.Ranks.{rank, rank_at, rank_from, rank_once, ties_is}
use Rattle.fst_trim.proofs.Rearranged.{IsRearranged, read_inside, rearranged_serves, sorted_is_rearranged, turned}
use Rattle.fst_trim.proofs.Valued.{valued_costs}
use Rattle.fst_trim.proofs.WordWeights.{served_word}
use Rattle.fst_setops.specs.Readied.{IsOrderedAs}
use Rattle.fst_setops.specs.Separating.{LeadsTo}
use Rattle.fst_setops.specs.Ways.{AscendsStrictly}
use Rattle.fst_setops.proofs.Machines.{repeated}

-- arcs with one label stand in one place
IsOnce : List (Arc Cost ℕ) → Type 0
IsOnce arcs = (i j : ℕ) (a b : Arc Cost ℕ) → slice_get arcs i ≡ Some a → slice_get arcs j ≡ Some b → a.ilabel ≡ b.ilabel → i ≡ j

-- an element of a list that is put in another order
moved_to : {X : Type 0} (xs ys : List X) (k : ℕ) (x : X) → IsPermutation xs ys → slice_get xs k ≡ Some x → (j : ℕ) × (slice_get ys j ≡ Some x)
moved_to xs ys k x same there =
    let at = Contains-permutation xs ys x same (k, slice_get_within xs k x there, get_or_from_slice_get xs k x x there) in
    (at.0, slice_get-get_or ys at.0 x at.1 ∙ ap Some at.2)

-- also once they are put in order
once_sorted : (arcs new : List (Arc Cost ℕ)) → IsStableSort Input arcs new → IsOnce arcs → IsOnce new
unfolding IsOnce
once_sorted arcs new h once i j a b one two label =
    let p : Arc Cost ℕ → Bool = λ c. nat_eq c.ilabel a.ilabel in
    let tie : ◌≡◌ {A = Arc Cost ℕ → Bool} (ties (λ (x y : Arc Cost ℕ). is_lt (nat_cmp x.ilabel y.ilabel)) a) p = λ k c. ties_is a.ilabel c.ilabel k in
    let same : filter p new ≡ filter p arcs = ap (λ (q : Arc Cost ℕ → Bool). filter q new) (sym tie) ∙ (h.stable a ∙ ap (λ (q : Arc Cost ℕ → Bool). filter q arcs) tie) in
    let first : p a ≡ true = eq-eqb a.ilabel a.ilabel refl in
    let second : p b ≡ true = eq-eqb b.ilabel a.ilabel (sym label) in
    let k = rank_from p arcs (rank p new i) a (ap (λ (zs : List (Arc Cost ℕ)). slice_get zs (rank p new i)) (sym same) ∙ rank_at p new i a one first) in
    let l = rank_from p arcs (rank p new j) b (ap (λ (zs : List (Arc Cost ℕ)). slice_get zs (rank p new j)) (sym same) ∙ rank_at p new j b two second) in
    let place : k.0 ≡ l.0 = once k.0 l.0 a b k.1 l.1 label in
    rank_once p new i j a b one two first second (sym k.2 ∙ (ap (rank p arcs) place ∙ l.2))

-- each label is below those behind it where they stand in order, each once
ascends_once : (arcs : List (Arc Cost ℕ)) → StandsBy Input arcs → IsOnce arcs → AscendsStrictly arcs
unfolding IsOnce
ascends_once arcs stands once i j a b low one two =
    let inside = slice_get_within arcs j b two in
    let le = stands i j a (omega (arith, low)) inside in
    let first = get_or_from_slice_get arcs i a a one in
    let second = get_or_from_slice_get arcs j b a two in
    by_label (cases_lt a.ilabel b.ilabel) (ap (λ (c : Arc Cost ℕ). c.ilabel) first) (ap (λ (c : Arc Cost ℕ). c.ilabel) second) le
  where
    by_label : (a.ilabel < b.ilabel) ⊎ (b.ilabel ≤ a.ilabel) → (get_or arcs i a).ilabel ≡ a.ilabel → (get_or arcs j a).ilabel ≡ b.ilabel → (get_or arcs i a).ilabel ≤ (get_or arcs j a).ilabel → a.ilabel < b.ilabel
    by_label (inl less) e f le = less
    by_label (inr high) e f le = let same = once i j a b one two (omega (arith, high, e, f, le)) in absurd (omega (arith, same, low))

module _ (m x : Machine Cost) (none : IsDeterministic m) (h : IsConnected m x) where
  once_machine : (p : ℕ) → IsOnce ((graph_of m).arcs p)
  unfolding IsOnce
  once_machine p i j a b one two label = by_place (cases_lt i j) (cases_lt j i)
    where
      by_place : (i < j) ⊎ (j ≤ i) → (j < i) ⊎ (i ≤ j) → i ≡ j
      by_place (inl low) other = absurd (repeated m none p i j a b low one two label)
      by_place (inr high) (inl low) = absurd (repeated m none p j i b a low two one (sym label))
      by_place (inr high) (inr low) = omega (arith, high, low)

  once_connected : (q : ℕ) → IsOnce ((graph_of x).arcs q)
  unfolding IsOnce
  once_connected q i j a b one two label =
      let below = state_below x q i a one in
      let p = read_inside h.kept q (omega (arith, below, h.states)) in
      let kept = h.arcs q p.0 p.1 in
      let first = Kept_from h.kept ((graph_of m).arcs p.0) ((graph_of x).arcs q) i a kept one in
      let second = Kept_from h.kept ((graph_of m).arcs p.0) ((graph_of x).arcs q) j b kept two in
      let same : first.1.ilabel ≡ second.1.ilabel = ap (λ (l : Letter). l.ilabel) first.3 ∙ (label ∙ sym (ap (λ (l : Letter). l.ilabel) second.3)) in
      let place : first.0 ≡ second.0 = once_machine p.0 first.0 second.0 first.1 second.1 first.2 second.2 same in
      one_place h.kept ((graph_of m).arcs p.0) first.0 i j first.5 (subst (λ (k : ℕ). IsKeptAt h.kept ((graph_of m).arcs p.0) k j) (sym place) second.5)

module _ (x c : Machine Cost) (r : IsRearranged x c) where
  there : (p k : ℕ) (a : Arc Cost ℕ) → slice_get ((graph_of x).arcs p) k ≡ Some a → (j : ℕ) × (slice_get ((graph_of c).arcs p) j ≡ Some a)
  there p k a has =
      let low = state_below x p k a has in
      let s = read_inside x.states p low in
      let t = read_inside c.states p (omega (arith, low, r.size)) in
      let one : (graph_of x).arcs p ≡ s.0.arcs = ap (λ (u : State Cost). u.arcs) (get_or_from_slice_get x.states p s.0 no_state s.1) in
      let two : (graph_of c).arcs p ≡ t.0.arcs = ap (λ (u : State Cost). u.arcs) (get_or_from_slice_get c.states p t.0 no_state t.1) in
      let to = moved_to s.0.arcs t.0.arcs k a (r.arcs p s.0 t.0 s.1 t.1) (ap (λ (zs : List (Arc Cost ℕ)). slice_get zs k) (sym one) ∙ has) in
      (to.0, ap (λ (zs : List (Arc Cost ℕ)). slice_get zs to.0) two ∙ to.1)

  path_there : (path : List (Transition ℕ)) (p q : ℕ) → IsPath (graph_of x) p path q → (other : List (Transition ℕ)) × IsPath (graph_of c) p other q × (label_word (letters other) ≡ label_word (letters path))
  path_there [] p q leads = ([], leads, refl)
  path_there (t ∷ path) p q leads =
      let rest = path_there path t.arc.next q leads.1 in
      let to = there p t.place t.arc leads.0.1 in
      (record { state = p; place = to.0; arc = t.arc } ∷ rest.0, ((refl, to.1), rest.1), ap (λ w. t.arc.ilabel ∷ w) rest.2)

  leads_there : (w : List ℕ) (p : ℕ) → LeadsTo (graph_of x) w p → LeadsTo (graph_of c) w p
  leads_there w p l =
      let to = path_there l.path l.start p l.leads in
      record { start = l.start; starts = r.start ∙ l.starts; path = to.0; leads = to.1; word = l.word ∙ sym to.2 }

  words_there : (kind : ArcType) (w : List ℕ) (v : Cost) → WordWeighs kind (graph_of x) w v → WordWeighs kind (graph_of c) w v
  words_there kind w v h =
      subst (λ (d : Machine Cost). WordWeighs kind (graph_of d) w v) (sym (valued_costs c))
      (served_word kind (λ (p q : ℕ). p ≡ q) (graph_of (valued (λ u. u) x)) (graph_of (valued (λ u. u) c)) (rearranged_serves (λ u. u) x c r) w v (subst (λ (d : Machine Cost). WordWeighs kind (graph_of d) w v) (valued_costs x) h))

-- What is known of a machine that is made ready.
pub record IsKnownReady (kind : ArcType) (m x c : Machine Cost) : Type 0 where
  pub ascends : (p : ℕ) → AscendsStrictly ((graph_of c).arcs p)
  pub words : (w : List ℕ) (v : Cost) → WordWeighs kind (graph_of m) w v ↔ WordWeighs kind (graph_of c) w v
  pub leads : (w : List ℕ) (p : ℕ) → LeadsTo (graph_of x) w p ↔ LeadsTo (graph_of c) w p

module _ (kind : ArcType) (m x c : Machine Cost) (none : IsDeterministic m) (h : IsConnected m x) where
  connected_words : (w : List ℕ) (v : Cost) → WordWeighs kind (graph_of m) w v ↔ WordWeighs kind (graph_of x) w v
  connected_words w v = (
    served_word kind (λ (p i : ℕ). slice_get h.kept i ≡ Some p) (graph_of m) (graph_of x) (connected_serves m x h) w v,
    served_word kind (λ (i p : ℕ). slice_get h.kept i ≡ Some p) (graph_of x) (graph_of m) (machine_serves m x h) w v,
  )

  stands_at : (d : Machine Cost) → ((p : ℕ) (s : State Cost) → slice_get d.states p ≡ Some s → StandsBy Input s.arcs × IsOnce s.arcs) → (p : ℕ) → AscendsStrictly ((graph_of d).arcs p)
  stands_at d each p = by_place (cases_lt p (length d.states))
    where
      by_place : (p < length d.states) ⊎ (length d.states ≤ p) → AscendsStrictly ((graph_of d).arcs p)
      by_place (inl low) =
          let s = read_inside d.states p low in
          let is : (graph_of d).arcs p ≡ s.0.arcs = ap (λ (u : State Cost). u.arcs) (get_or_from_slice_get d.states p s.0 no_state s.1) in
          let e = each p s.0 s.1 in
          subst AscendsStrictly (sym is) (ascends_once s.0.arcs e.0 e.1)
      by_place (inr past) = subst AscendsStrictly (sym (ap (λ (u : State Cost). u.arcs) (get_or_past d.states p no_state past))) (λ i j a b low one two. absurd (cc))

  once_at : (p : ℕ) (s : State Cost) → slice_get x.states p ≡ Some s → IsOnce s.arcs
  once_at p s at = subst IsOnce (ap (λ (u : State Cost). u.arcs) (get_or_from_slice_get x.states p s no_state at)) (once_connected m x none h p)

  pub known_ready : IsOrderedAs x c → IsKnownReady kind m x c
  known_ready (inl same) = subst (IsKnownReady kind m x) same.1 (record {
    ascends = stands_at x (λ p s at. (subst (λ (t : State Cost). StandsBy Input t.arcs) (get_or_from_slice_get x.states p s s at) (same.0 p s (slice_get_within x.states p s at)), once_at p s at));
    words = connected_words;
    leads = λ w p. ((λ l. l), (λ l. l));
  })
  known_ready (inr sorted) =
      let r = sorted_is_rearranged Input x c sorted in
      record {
        ascends = stands_at c (λ p t at. by_state p t at (read_inside x.states p (let l = slice_get_within c.states p t at in omega (arith, l, sorted.size))));
        words = λ w v. let first = connected_words w v in ((λ k. words_there x c r kind w v (first.0 k)), (λ k. first.1 (words_there c x (turned x c r) kind w v k)));
        leads = λ w p. (leads_there x c r w p, leads_there c x (turned x c r) w p);
      }
    where
      by_state : (p : ℕ) (t : State Cost) → slice_get c.states p ≡ Some t → (s : State Cost) × (slice_get x.states p ≡ Some s) → StandsBy Input t.arcs × IsOnce t.arcs
      by_state p t at s = let o = sorted.arcs p s.0 t s.1 at in (o.stands, once_sorted s.0.arcs t.arcs o (once_at p s.0 s.1))
