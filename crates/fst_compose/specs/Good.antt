-- What a walk asks of a composition: that its names can be compared, that the start reaches states of both machines
-- alone, and that its arcs are arcs of a machine. (The laws of an impl cite specs alone, so the lemmas stand here.)
use Rattle.std.proofs.Common.{◌≡◌, ◌≢◌, ◌⊎◌, inl, inr, ℕ, ◌<◌, ◌≤◌, zero, suc, Bool, true, false, List, [], ◌∷◌, Option, None, Some, IfSome, ◌&&◌, cond}
use Rattle.std.proofs.Common.{eqb, nat_eq, length, map, slice_get, refl, sym, ap, subst, arith}
use Rattle.std.specs.Bool.{Decides}
use Rattle.std.specs.List.{All, flat_map}
use Rattle.std.proofs.lemmas.Bool.{and_parts, eq-eqb, eqb-true}
use Rattle.std.specs.Option.{option_map}
use Rattle.std.proofs.lemmas.List.Elements.{All-append, All-cons, All-map, All-nil, All-weaker}
use Rattle.std.proofs.lemmas.Option.{get_or_from_slice_get, slice_get_within}
use Rattle.fst_semiring.specs.Cost.{Cost, infinite}
use Rattle.fst_semiring.specs.declared.arc_type.ArcType.{ArcType}
use Rattle.fst_semiring.proofs.Laws.{times_only_zero}
use Rattle.fst_machine.specs.Graph.{graph_of}
use Rattle.fst_machine.specs.Machine.{Arc, IsArc, IsMachine, Machine, State, greatest_label, valued, valued_arc}
use Rattle.fst_machine.specs.Paths.{IsPath, Transition}
use Rattle.fst_machine.proofs.Walking.{graph_arcs}
use Rattle.fst_compose.specs.Composition.{IsInside, both_arc, by_label, composition, first_alone, first_arcs, match_arcs, second_alone, second_arcs, start_name}
use Rattle.fst_compose.specs.Matching.{composition_rest}
use Rattle.fst_compose.specs.Names.{Name, name_at}
use Rattle.fst_compose.specs.declared.matching.Ordered.{Ordered}
use Rattle.fst_compose.specs.declared.matching.Ordered.TheVariants.{First, Second, Both}
use Rattle.fst_walk.specs.Names.{IsGoodArc, IsNear}

-- an arc of values, to one of this many states
abbrev pub IsArcTo : ℕ → Arc Cost ℕ → Type 0
IsArcTo states = IsArc (λ (v : Cost). v) states

-- an arc to a name of states of these machines, with labels in range and a weight that is not Zero
pub record IsComposedArc {V : Type 0} (a b : Machine V) (arc : Arc Cost (Name ℕ ℕ)) : Type 0 where
  pub ilabel : arc.ilabel ≤ greatest_label
  pub olabel : arc.olabel ≤ greatest_label
  pub weight : arc.weight ≢ infinite
  pub next : IsInside a b arc.next

All-flat_map : {X Y : Type 0} (P : Y → Type 0) (f : X → List Y) (xs : List X) → All (λ x. All P (f x)) xs → All P (flat_map f xs)
All-flat_map P f [] all = All-nil P
All-flat_map P f (x ∷ xs) all = All-append P (f x) (flat_map f xs) (all 0 x (omega arith)) (All-flat_map P f xs (λ k d low. all (suc k) d (omega (arith, low))))

All-one : {X : Type 0} (P : X → Type 0) (x : X) → P x → All P (x ∷ [])
All-one P x h = All-cons P x [] h (All-nil P)

All-by_label : {X : Type 0} (P : X → Type 0) (k : ℕ) (xs ys : List X) → All P xs → All P ys → All P (by_label k xs ys)
All-by_label P zero xs ys h k = h
All-by_label P (suc n) xs ys h k = k

All-cond : {X : Type 0} (P : X → Type 0) (b : Bool) (xs : List X) → All P xs → All P (cond b xs [])
All-cond P true xs h = h
All-cond P false xs h = All-nil P

pub All_at : {X : Type 0} (P : X → Type 0) (xs : List X) (i : ℕ) (x : X) → All P xs → slice_get xs i ≡ Some x → P x
All_at P xs i x all e = subst P (get_or_from_slice_get xs i x x e) (all i x (slice_get_within xs i x e))

element : {X : Type 0} (xs : List X) (i : ℕ) → i < length xs → (x : X) × (slice_get xs i ≡ Some x)
element [] i low = absurd (omega arith)
element (x ∷ xs) zero low = (x, refl)
element (x ∷ xs) (suc i) low = element xs i (omega (arith, low))

-- the arcs of a machine's state, as its graph has them
machine_arcs : {V : Type 0} (value : V → Cost) (m : Machine V) (p : ℕ) → IsMachine value m → p < length m.states
    → All (IsArcTo (length m.states)) ((graph_of (valued value m)).arcs p)
machine_arcs {V} value m p h low =
    let s = element m.states p low in
    let is : (graph_of (valued value m)).arcs p ≡ map (valued_arc value) s.0.arcs =
    graph_arcs value m p s.0.arcs (ap (option_map (λ (t : State V). t.arcs)) s.1) in
    let good : All (IsArc value (length m.states)) s.0.arcs =
    subst (λ (t : State V). All (IsArc value (length m.states)) t.arcs) (get_or_from_slice_get m.states p s.0 s.0 s.1) (h.arcs p s.0 low) in
    subst (All (IsArcTo (length m.states))) (sym is)
    (All-map (IsArcTo (length m.states)) (valued_arc value) s.0.arcs
    (All-weaker (IsArc value (length m.states)) (λ a. IsArcTo (length m.states) (valued_arc value a))
    (λ a k. record { ilabel = k.ilabel; olabel = k.olabel; weight = k.weight; next = k.next }) s.0.arcs good))

-- the start stands inside
start_inside : {V : Type 0} (a b : Machine V) (s t : Option ℕ) (n : Name ℕ ℕ) → IfSome s (λ p. p < length a.states) → IfSome t (λ q. q < length b.states)
    → start_name s t ≡ Some n → IsInside a b n
start_inside a b None t n left right e = absurd (cc)
start_inside a b (Some p) None n left right e = absurd (cc)
start_inside a b (Some p) (Some q) n left right e = let same : name_at p q 0 ≡ n = cc in subst (IsInside a b) same (left, right)

module _ {V : Type 0} (kind : ArcType) (value : V → Cost) (a b : Machine V) (left : IsMachine value a) (right : IsMachine value b) where
  both_good : (x y : Arc Cost ℕ) → IsArcTo (length a.states) x → IsArcTo (length b.states) y
      → IsComposedArc a b (both_arc kind x y)
  both_good x y h k = record { ilabel = h.ilabel; olabel = k.olabel; weight = λ e. by_side (times_only_zero kind x.weight y.weight e); next = (h.next, k.next) }
    where
      by_side : (x.weight ≡ infinite) ⊎ (y.weight ≡ infinite) → ⊥
      by_side (inl e) = h.weight e
      by_side (inr e) = k.weight e

  -- the arcs of a name
  pub composed_good : (n : Name ℕ ℕ) → IsInside a b n → All (IsComposedArc a b) ((composition kind value a b).arcs n)
  composed_good n inside =
      let xs = (graph_of (valued value a)).arcs n.first in
      let ys = (graph_of (valued value b)).arcs n.second in
      let firsts : All (IsArcTo (length a.states)) xs = machine_arcs value a n.first left inside.0 in
      let seconds : All (IsArcTo (length b.states)) ys = machine_arcs value b n.second right inside.1 in
      All-append (IsComposedArc a b) (flat_map (first_arcs kind n ys) xs) (flat_map (second_arcs n) ys)
      (All-flat_map (IsComposedArc a b) (first_arcs kind n ys) xs
      (All-weaker (IsArcTo (length a.states)) (λ x. All (IsComposedArc a b) (first_arcs kind n ys x)) (λ x h. first_good x h seconds) xs firsts))
      (All-flat_map (IsComposedArc a b) (second_arcs n) ys
      (All-weaker (IsArcTo (length b.states)) (λ y. All (IsComposedArc a b) (second_arcs n y)) second_good ys seconds))
    where
      first_good : (x : Arc Cost ℕ) → IsArcTo (length a.states) x
          → All (IsArcTo (length b.states)) ((graph_of (valued value b)).arcs n.second)
          → All (IsComposedArc a b) (first_arcs kind n ((graph_of (valued value b)).arcs n.second) x)
      first_good x h seconds =
          let ys = (graph_of (valued value b)).arcs n.second in
          All-by_label (IsComposedArc a b) x.olabel (by_label n.filter (first_alone n x ∷ []) []) (flat_map (match_arcs kind x) ys)
          (All-by_label (IsComposedArc a b) n.filter (first_alone n x ∷ []) []
          (All-one (IsComposedArc a b) (first_alone n x) (record { ilabel = h.ilabel; olabel = omega arith; weight = h.weight; next = (h.next, inside.1) }))
          (All-nil (IsComposedArc a b)))
          (All-flat_map (IsComposedArc a b) (match_arcs kind x) ys
          (All-weaker (IsArcTo (length b.states)) (λ y. All (IsComposedArc a b) (match_arcs kind x y)) matched ys seconds))
        where
          matched : (y : Arc Cost ℕ) → IsArcTo (length b.states) y → All (IsComposedArc a b) (match_arcs kind x y)
          matched y k =
              All-cond (IsComposedArc a b) (nat_eq x.olabel y.ilabel) (both_arc kind x y ∷ [])
              (All-one (IsComposedArc a b) (both_arc kind x y) (both_good x y h k))

      second_good : (y : Arc Cost ℕ) → IsArcTo (length b.states) y → All (IsComposedArc a b) (second_arcs n y)
      second_good y k =
          All-by_label (IsComposedArc a b) y.ilabel (second_alone n y ∷ []) []
          (All-one (IsComposedArc a b) (second_alone n y) (record { ilabel = omega arith; olabel = k.olabel; weight = k.weight; next = (inside.0, k.next) }))
          (All-nil (IsComposedArc a b))

  -- paths stay inside
  path_inside : (path : List (Transition (Name ℕ ℕ))) (p q : Name ℕ ℕ) → IsInside a b p → IsPath (composition kind value a b) p path q → IsInside a b q
  path_inside [] p q inside here = subst (IsInside a b) here inside
  path_inside (t ∷ path) p q inside leads =
      let good = All_at (IsComposedArc a b) ((composition kind value a b).arcs p) t.place t.arc (composed_good p inside) leads.0.1 in
      path_inside path t.arc.next q good.next leads.1

  -- so names that the start reaches stand inside
  pub near_inside : (n : Name ℕ ℕ) → IsNear (composition kind value a b) n → IsInside a b n
  near_inside n near = path_inside near.path near.start n (start_inside a b a.start b.start near.start left.start right.start near.starts) near.leads

  -- and their arcs are good
  pub good_arc : (n : Name ℕ ℕ) → IsNear (composition kind value a b) n → (k : ℕ) (arc : Arc Cost (Name ℕ ℕ))
      → slice_get ((composition kind value a b).arcs n) k ≡ Some arc → IsGoodArc arc
  good_arc n near k arc e =
      let h = All_at (IsComposedArc a b) ((composition kind value a b).arcs n) k arc (composed_good n (near_inside n near)) e in
      record { ilabel = h.ilabel; olabel = h.olabel; weight = h.weight }

-- what `==` answers of names
abbrev pub same_name : Name ℕ ℕ → Name ℕ ℕ → Bool
same_name a b = eqb a.first b.first && (eqb a.second b.second && eqb a.filter b.filter)

-- names that compare as equal are one
pub same_decides : (a b : Name ℕ ℕ) → Decides (same_name a b) (a ≡ b)
same_decides a b = (tells, λ e. subst (λ (n : Name ℕ ℕ). same_name a n ≡ true) e own)
  where
    tells : same_name a b ≡ true → a ≡ b
    tells e =
        let one = and_parts _ _ e in
        let two = and_parts _ _ one.1 in
        λ i. record { first = eqb-true a.first b.first one.0 i; second = eqb-true a.second b.second two.0 i; filter = eqb-true a.filter b.filter two.1 i }

    own : same_name a a ≡ true
    own = rw (eq-eqb a.first a.first refl, eq-eqb a.second a.second refl, eq-eqb a.filter a.filter refl) refl

-- from the first arc on all are left
pub rest_whole : {V : Type 0} (ordered : Ordered) (kind : ArcType) (value : V → Cost) (a b : Machine V) (n : Name ℕ ℕ) → composition_rest ordered kind value a b n 0 ≡ (composition kind value a b).arcs n
rest_whole First kind value a b n = refl
rest_whole Second kind value a b n = refl
rest_whole Both kind value a b n = refl
