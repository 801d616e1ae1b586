-- A machine has one machine without epsilon arcs, and one thing stands against it.
use Rattle.std.proofs.Common.{◌≡◌, ◌⊎◌, inl, inr, ℕ, ◌+◌, ◌<◌, ◌≤◌, suc, List, [], ◌∷◌, ◌++◌, Some, Result, Err, Ordering, Less, Equal, length, map, get_or, slice_get, refl, sym, ap, ap₂, ◌∙◌, subst, arith}
use Rattle.std.proofs.lemmas.Option.{slice_get-get_or}
use Rattle.fst_semiring.specs.Cost.{Cost}
use Rattle.fst_semiring.specs.declared.arc_type.ArcType.{ArcType}
use Rattle.fst_semiring.specs.Semiring.{one_of}
use Rattle.fst_semiring.proofs.Order.{cost_cmp_same}
use Rattle.fst_machine.specs.BreadthFirst.{Has}
use Rattle.fst_machine.specs.Distance.{EpsilonArc, Reaches}
use Rattle.fst_machine.specs.Graph.{Graph, graph_of, no_state}
use Rattle.fst_machine.specs.Machine.{Machine, State, arc_total, most_arcs}
use Rattle.fst_machine.specs.Narrowing.{IsFirstPast, IsInRange}
use Rattle.fst_machine.proofs.Arcs.{mapped_at}
use Rattle.fst_machine.proofs.Cycles.{state_below}
use Rattle.fst_machine.proofs.Narrowing.{all_at, cause_exact}
use Rattle.fst_machine.specs.declared.narrow.NarrowFault.{NarrowFault}
use Rattle.fst_machine.specs.declared.narrow.NarrowFault.TheVariants as narrow
use Rattle.fst_machine.proofs.OneMachine.{one_ascending, one_state}
use Rattle.fst_machine.proofs.Weights.{one_least}
use Rattle.fst_epsilon.specs.Answers.{AreRemoved, HasManyArcs, IsFine, IsGathered, IsOut, IsRemovedMachine, IsRemovedState, NoSilentCycle, Stops}
use Rattle.fst_epsilon.specs.Construction.{IsClosureList, best_final, collected, merged}
use Rattle.fst_epsilon.specs.Faults.{epsilon_text}
use Rattle.fst_epsilon.specs.declared.fault.EpsilonFault.{EpsilonFault}
use Rattle.fst_epsilon.specs.declared.fault.EpsilonFault.TheVariants.{ImprovingCycle, TooManyArcs, Overflow, Memory}
use Rattle.fst_epsilon.proofs.Closures.{Has_map}
use Rattle.fst_epsilon.proofs.Exact.{least_reached}
use Rattle.fst_epsilon.proofs.Fair.{closure_fair}

abbrev names : List (ℕ × Cost) → List ℕ
names pairs = map (λ e. e.0) pairs

Has_names : (pairs : List (ℕ × Cost)) (p : ℕ) (c : Cost) → Has pairs (p, c) → Has (names pairs) p
Has_names [] p c h = absurd h
Has_names (e ∷ pairs) p c (inl is) = inl (ap (λ (z : ℕ × Cost). z.0) is)
Has_names (e ∷ pairs) p c (inr h) = inr (Has_names pairs p c h)

-- lists of the same states, each with one distance
one_pairs : (xs ys : List (ℕ × Cost)) → names xs ≡ names ys → ((p : ℕ) (c d : Cost) → Has xs (p, c) → Has ys (p, d) → c ≡ d) → xs ≡ ys
one_pairs [] [] same one = refl
one_pairs [] (y ∷ ys) same one = absurd (let wrong : ◌≡◌ {A = List ℕ} [] (y.0 ∷ names ys) = same in cc)
one_pairs (x ∷ xs) [] same one = absurd (let wrong : ◌≡◌ {A = List ℕ} (x.0 ∷ names xs) [] = same in cc)
one_pairs (x ∷ xs) (y ∷ ys) same one =
    let head : x.0 ≡ y.0 = (let e : ◌≡◌ {A = List ℕ} (x.0 ∷ names xs) (y.0 ∷ names ys) = same in cc) in
    let tail : names xs ≡ names ys = (let e : ◌≡◌ {A = List ℕ} (x.0 ∷ names xs) (y.0 ∷ names ys) = same in cc) in
    let cost : x.1 ≡ y.1 = one x.0 x.1 y.1 (inl refl) (inl (ap (λ (z : ℕ). (z, y.1)) (sym head))) in
    let first : ◌≡◌ {A = ℕ × Cost} x y = ap₂ (λ (n : ℕ) (c : Cost). (n, c)) head cost in
    ap₂ (λ (z : ℕ × Cost) (zs : List (ℕ × Cost)). z ∷ zs) first (one_pairs xs ys tail (λ p c d h k. one p c d (inr h) (inr k)))

module _ (kind : ArcType) (g : Graph ℕ) where
  module _ (q : ℕ) where
    -- what stands among the others of one closure stands among those of another
    moves : (xs ys : List (ℕ × Cost)) (l : IsClosureList kind g q xs) (k : IsClosureList kind g q ys) → (p : ℕ) → Has (names l.others) p → Has (names k.others) p
    moves xs ys l k p has =
        let e = Has_map (λ (e : ℕ × Cost). e.0) l.others p has in
        let there : Has xs (p, e.0.1) = subst (λ (zs : List (ℕ × Cost)). Has zs (p, e.0.1)) (sym l.first) (inr (subst (λ (z : ℕ). Has l.others (z, e.0.1)) e.2 e.1)) in
        let way = least_reached kind g q p e.0.1 (l.finite p e.0.1 there) (l.distances p e.0.1 there) in
        let other = k.all p e.0.1 way in
        by other.0 (subst (λ (zs : List (ℕ × Cost)). Has zs (p, other.0)) k.first other.1) (λ own. l.apart e.0.1 (subst (λ (z : ℕ). Has l.others (z, e.0.1)) (e.2 ∙ sym own) e.1))
      where
        by : (d : Cost) → Has ((q, k.own) ∷ k.others) (p, d) → (q ≡ p → ⊥) → Has (names k.others) p
        by d (inl is) differ = absurd (differ (ap (λ (z : ℕ × Cost). z.0) is))
        by d (inr h) differ = Has_names k.others p d h

    ascends : (xs : List (ℕ × Cost)) (l : IsClosureList kind g q xs) (i j p r : ℕ) → i < j → slice_get (names l.others) i ≡ Some p → slice_get (names l.others) j ≡ Some r → p < r
    ascends xs l i j p r low e f =
        let a = mapped_at (λ (z : ℕ × Cost). z.0) l.others i p e in
        let b = mapped_at (λ (z : ℕ × Cost). z.0) l.others j r f in
        let less = l.ascending i j a.0.0 b.0.0 a.0.1 b.0.1 low a.1 b.1 in
        omega (arith, less, a.2, b.2)

    pub one_closure : (xs ys : List (ℕ × Cost)) → IsClosureList kind g q xs → IsClosureList kind g q ys → xs ≡ ys
    one_closure xs ys l k = one_pairs xs ys same (λ p c d h f. one_least (Reaches kind g EpsilonArc q p) c d (l.distances p c h) (k.distances p d f))
      where
        same : names xs ≡ names ys
        same = ap names l.first ∙ (ap (λ (zs : List ℕ). q ∷ zs) (one_ascending (names l.others) (names k.others) (ascends xs l) (ascends ys k) (λ p. (moves xs ys l k p, moves ys xs k l p))) ∙ sym (ap names k.first))

    one_gathered : (s t : State Cost) → IsGathered kind g q s → IsGathered kind g q t → s ≡ t
    one_gathered s t a b =
        let same = one_closure a.closure b.closure a.closes b.closes in
        one_state s t (a.final ∙ (ap (best_final kind g) same ∙ sym b.final)) (a.arcs ∙ (ap (λ (c : List (ℕ × Cost)). merged [] (collected kind g c)) same ∙ sym b.arcs))

    one_removed_state : (s t : State Cost) → IsRemovedState kind g q s → IsRemovedState kind g q t → s ≡ t
    one_removed_state s t (inl a) (inl b) = one_gathered s t a.1 b.1
    one_removed_state s t (inl a) (inr b) = absurd (b.0 a.0)
    one_removed_state s t (inr a) (inl b) = absurd (a.0 b.0)
    one_removed_state s t (inr a) (inr b) = a.1 ∙ sym b.1

  -- the first states are the first of any more
  one_front : (xs ys : List (State Cost)) (n : ℕ) → ((q : ℕ) (s : State Cost) → slice_get xs q ≡ Some s → IsRemovedState kind g (n + q) s) → ((q : ℕ) (s : State Cost) → slice_get ys q ≡ Some s → IsRemovedState kind g (n + q) s)
      → length xs ≤ length ys → (rest : List (State Cost)) × (ys ≡ xs ++ rest)
  one_front [] ys n one two few = (ys, refl)
  one_front (x ∷ xs) [] n one two few = absurd (omega (arith, few))
  one_front (x ∷ xs) (y ∷ ys) n one two few =
      let first : y ≡ x = one_removed_state (n + 0) y x (two 0 y refl) (one 0 x refl) in
      let on : (q : ℕ) (s : State Cost) → IsRemovedState kind g (n + suc q) s → IsRemovedState kind g (n + 1 + q) s = λ q s r. subst (λ (z : ℕ). IsRemovedState kind g z s) (let e : n + suc q ≡ n + 1 + q = omega arith in e) r in
      let more = one_front xs ys (n + 1) (λ q s e. on q s (one (suc q) s e)) (λ q s e. on q s (two (suc q) s e)) (omega (arith, few)) in
      (more.0, ap₂ (λ (z : State Cost) (zs : List (State Cost)). z ∷ zs) first more.1)

  front : (xs ys : List (State Cost)) → AreRemoved kind g xs → AreRemoved kind g ys → length xs ≤ length ys → (rest : List (State Cost)) × (ys ≡ xs ++ rest)
  front xs ys one two few = one_front xs ys 0 (λ q s e. from_zero q s (one q s e)) (λ q s e. from_zero q s (two q s e)) few
    where
      from_zero : (q : ℕ) (s : State Cost) → IsRemovedState kind g q s → IsRemovedState kind g (0 + q) s
      from_zero q s r = subst (λ (z : ℕ). IsRemovedState kind g z s) (let e : q ≡ 0 + q = omega arith in e) r

whole : {X : Type 0} (xs rest : List X) → length (xs ++ rest) ≡ length xs → xs ++ rest ≡ xs
whole [] [] e = refl
whole [] (y ∷ rest) e = absurd (omega (arith, e))
whole (x ∷ xs) rest e = ap (λ zs. x ∷ zs) (whole xs rest (omega (arith, e)))

module _ (kind : ArcType) (m : Machine Cost) where
  -- there is one machine
  pub one_removed : (h k : Machine Cost) → IsRemovedMachine kind m h → IsRemovedMachine kind m k → h ≡ k
  one_removed h k one two =
      let same_size : length h.states ≡ length k.states = one.size ∙ sym two.size in
      let f = front kind (graph_of m) h.states k.states one.states two.states (omega (arith, same_size)) in
      let states : k.states ≡ h.states = f.1 ∙ whole h.states f.0 (ap length (sym f.1) ∙ sym same_size) in
      let start : h.start ≡ k.start = one.start ∙ sym two.start in
      λ i. record { start = start i; states = (sym states) i }

  fair : (h : Machine Cost) → IsRemovedMachine kind m h → NoSilentCycle kind (graph_of m)
  fair h r p [] near class improves = absurd (let wrong : ◌≡◌ {A = Ordering} Less Equal = sym improves.better ∙ cost_cmp_same (one_of kind) in cc)
  fair h r p (t ∷ cycle) near class improves =
      let low = state_below m p t.place t.arc improves.leads.0.1 in
      let size = r.size in
      by (r.states p (get_or h.states p no_state) (slice_get-get_or h.states p no_state (omega (arith, low, size))))
    where
      by : IsRemovedState kind (graph_of m) p (get_or h.states p no_state) → ⊥
      by (inl at) = closure_fair kind (graph_of m) p at.1.closure at.1.closes (t ∷ cycle) class improves
      by (inr far) = far.0 near

  -- a result with few arcs is not one with many
  not_many : (h : Machine Cost) → IsRemovedMachine kind m h → arc_total h.states ≤ most_arcs → HasManyArcs kind m → ⊥
  not_many h r few too =
      let same : too.result ≡ h = one_removed too.result h too.removed r in
      let many : most_arcs < arc_total h.states = subst (λ (k : Machine Cost). most_arcs < arc_total k.states) same too.many in
      omega (arith, few, many)

  one_out : (i j : ℕ) → IsOut kind m i → IsOut kind m j → i ≡ j
  one_out i j one two = by ((cause_exact one.result {X = ℕ} (narrow.Overflow i) one.past j).1 (subst (λ (h : Machine Cost). IsFirstPast h j) (one_removed two.result one.result two.removed one.removed) two.past))
    where
      by : (◌≡◌ {A = Result ℕ NarrowFault} (Err (narrow.Overflow i)) (Err (narrow.Overflow j))) ⊎ (◌≡◌ {A = Result ℕ NarrowFault} (Err (narrow.Overflow i)) (Err narrow.Memory)) → i ≡ j
      by (inl e) = cc
      by (inr e) = absurd (cc)

  -- nothing stands against a machine that is fine
  pub fine_passes : (h : Machine Cost) → IsFine kind m h → (fault : EpsilonFault) → Stops kind m fault → ⊥
  fine_passes h fine (ImprovingCycle cycle) stops = fair h fine.removed stops.state stops.cycle stops.counts stops.class stops.improves
  fine_passes h fine TooManyArcs stops = not_many h fine.removed fine.few stops.1
  fine_passes h fine (Overflow state) stops =
      let out = stops.1 in
      let past = subst (λ (k : Machine Cost). IsFirstPast k state) (one_removed out.result h out.removed fine.removed) out.past in
      past.past (all_at IsInRange h.states state past.here past.there fine.range)
  fine_passes h fine Memory stops = stops

  -- what stands against it is told by one text
  pub one_text : (f h : EpsilonFault) → Stops kind m f → Stops kind m h → epsilon_text f ≡ epsilon_text h
  one_text (ImprovingCycle cycle) (ImprovingCycle other) one two = refl
  one_text (ImprovingCycle cycle) TooManyArcs one two = absurd (two.0 one.state one.cycle one.counts one.class one.improves)
  one_text (ImprovingCycle cycle) (Overflow state) one two = absurd (two.0 one.state one.cycle one.counts one.class one.improves)
  one_text (ImprovingCycle cycle) Memory one two = absurd two
  one_text TooManyArcs (ImprovingCycle cycle) one two = absurd (one.0 two.state two.cycle two.counts two.class two.improves)
  one_text TooManyArcs TooManyArcs one two = refl
  one_text TooManyArcs (Overflow state) one two = absurd (not_many two.1.result two.1.removed two.1.few one.1)
  one_text TooManyArcs Memory one two = absurd two
  one_text (Overflow state) (ImprovingCycle cycle) one two = absurd (one.0 two.state two.cycle two.counts two.class two.improves)
  one_text (Overflow state) TooManyArcs one two = absurd (not_many one.1.result one.1.removed one.1.few two.1)
  one_text (Overflow state) (Overflow other) one two = ap (λ (n : ℕ). epsilon_text (Overflow n)) (one_out state other one.1 two.1)
  one_text (Overflow state) Memory one two = absurd two
  one_text Memory h one two = absurd one
