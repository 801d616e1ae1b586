-- What a reversal relates.
use Rattle.std.proofs.Common.{◌≡◌, ◌⊎◌, inl, inr, ℕ, ◌+◌, ◌<◌, ◌==◌, zero, suc, Bool, true, false, cond, List, [], ◌∷◌, reverse, Option, None, Some, length, map, get_or, slice_get, refl, sym, ap, ap₂, subst, ◌∙◌, arith}
use Rattle.std.specs.List.{range_with_len}
use Rattle.std.proofs.lemmas.Bool.Decides.{nat_tests}
use Rattle.std.proofs.lemmas.List.{get_or-append-add, reverse-reverse}
use Rattle.std.proofs.lemmas.List.FromFn.{get_or-map-range_with_len}
use Rattle.fst_semiring.specs.Cost.{Cost, infinite}
use Rattle.fst_semiring.specs.declared.arc_type.ArcType.{ArcType}
use Rattle.fst_semiring.specs.Semiring.{one_of, times}
use Rattle.fst_semiring.proofs.Laws.{times_comm, times_one}
use Rattle.fst_machine.specs.Machine.{Arc, State, Machine, IsMachine}
use Rattle.fst_machine.specs.Graph.{graph_of, no_state}
use Rattle.fst_machine.specs.Letters.{before, input, letter_of, output, product}
use Rattle.fst_machine.specs.Paths.{Transition, IsPath, letters}
use Rattle.fst_machine.specs.Relation.{Rel}
use Rattle.fst_machine.specs.Continuing.{epsilon_arc, leaving}
use Rattle.fst_machine.specs.Turning.{Turns}
use Rattle.fst_machine.proofs.Arcs.{append_at, at_append_left, at_append_right}
use Rattle.fst_machine.proofs.Letters.{input-turned, output-turned, product-turned}
use Rattle.fst_machine.proofs.Continuing.{leaving_has, leaving_only}
use Rattle.fst_machine.proofs.Turning.{turned_path}
use Rattle.fst_rational.specs.Backing.{back}
use Rattle.fst_rational.specs.Constructions.{arcs_back, final_arcs, reverse_of, start_weight, turned_arcs, turned_state}
use Rattle.fst_rational.specs.Relations.{Reverses}
use Rattle.fst_rational.proofs.Blocks.{Inside, next_inside, start_inside}
use Rattle.fst_rational.proofs.Uniting.{one_not_zero}

test_yes : (n m : ℕ) → n ≡ m → (n == m) ≡ true
test_yes n m e = grind (arith, nat_tests)

test_is : (n m : ℕ) → (n == m) ≡ true → n ≡ m
test_is n m e = grind (arith, nat_tests)

-- ---- the arcs of one state

back_has : (r q : ℕ) (arcs : List (Arc Cost ℕ)) (k : ℕ) (a : Arc Cost ℕ) → slice_get arcs k ≡ Some a → a.next ≡ r → (j : ℕ) × (slice_get (arcs_back r q arcs) j ≡ Some (back q a))
back_has r q [] k a e leads = absurd (cc)
back_has r q (c ∷ arcs) zero a e leads =
    let same : c ≡ a = cc in
    let test : (c.next == r) ≡ true = test_yes c.next r (ap (λ (z : Arc Cost ℕ). z.next) same ∙ leads) in
    (0, ap (λ b. slice_get (cond b (back q c ∷ arcs_back r q arcs) (arcs_back r q arcs)) 0) test ∙ ap (λ (z : Arc Cost ℕ). Some (back q z)) same)
back_has r q (c ∷ arcs) (suc k) a e leads = by_test (c.next == r) (back_has r q arcs k a e leads)
  where
    by_test : (b : Bool) → (j : ℕ) × (slice_get (arcs_back r q arcs) j ≡ Some (back q a)) → (j : ℕ) × (slice_get (cond b (back q c ∷ arcs_back r q arcs) (arcs_back r q arcs)) j ≡ Some (back q a))
    by_test true more = (suc more.0, more.1)
    by_test false more = more

back_from : (r q : ℕ) (arcs : List (Arc Cost ℕ)) (j : ℕ) (b : Arc Cost ℕ) → slice_get (arcs_back r q arcs) j ≡ Some b → (k : ℕ) × (a : Arc Cost ℕ) × (slice_get arcs k ≡ Some a) × (a.next ≡ r) × (back q a ≡ b)
back_from r q [] j b e = absurd (cc)
back_from r q (c ∷ arcs) j b e = by_test (c.next == r) refl j e (λ i f. back_from r q arcs i b f)
  where
    by_test : (t : Bool) → (c.next == r) ≡ t → (j : ℕ) → slice_get (cond t (back q c ∷ arcs_back r q arcs) (arcs_back r q arcs)) j ≡ Some b → ((i : ℕ) → slice_get (arcs_back r q arcs) i ≡ Some b → (k : ℕ) × (a : Arc Cost ℕ) × (slice_get arcs k ≡ Some a) × (a.next ≡ r) × (back q a ≡ b)) → (k : ℕ) × (a : Arc Cost ℕ) × (slice_get (c ∷ arcs) k ≡ Some a) × (a.next ≡ r) × (back q a ≡ b)
    by_test true test zero f more = (0, c, refl, test_is c.next r test, cc)
    by_test true test (suc i) f more = let rest = more i f in (suc rest.0, rest.1, rest.2, rest.3, rest.4)
    by_test false test i f more = let rest = more i f in (suc rest.0, rest.1, rest.2, rest.3, rest.4)

-- ---- the arcs of all

turned_has : (r q : ℕ) (states : List (State Cost)) (n k : ℕ) (a : Arc Cost ℕ) → slice_get (get_or states n no_state).arcs k ≡ Some a → a.next ≡ r → (j : ℕ) × (slice_get (turned_arcs r q states) j ≡ Some (back (q + n) a))
turned_has r q [] n k a e leads = absurd (cc)
turned_has r q (s ∷ states) zero k a e leads =
    let here = back_has r q s.arcs k a e leads in
    let place : q ≡ q + 0 = omega arith in
    (here.0, at_append_left (arcs_back r q s.arcs) (turned_arcs r (suc q) states) here.0 (back q a) here.1 ∙ ap (λ (z : ℕ). Some (back z a)) place)
turned_has r q (s ∷ states) (suc n) k a e leads =
    let more = turned_has r (suc q) states n k a e leads in
    let place : suc q + n ≡ q + suc n = omega arith in
    (length (arcs_back r q s.arcs) + more.0, at_append_right (arcs_back r q s.arcs) (turned_arcs r (suc q) states) more.0 (back (suc q + n) a) more.1 ∙ ap (λ (z : ℕ). Some (back z a)) place)

turned_from : (r q : ℕ) (states : List (State Cost)) (j : ℕ) (b : Arc Cost ℕ) → slice_get (turned_arcs r q states) j ≡ Some b → (n : ℕ) × (k : ℕ) × (a : Arc Cost ℕ) × (slice_get (get_or states n no_state).arcs k ≡ Some a) × (a.next ≡ r) × (back (q + n) a ≡ b) × (n < length states)
turned_from r q [] j b e = absurd (cc)
turned_from r q (s ∷ states) j b e = by_part (append_at (arcs_back r q s.arcs) (turned_arcs r (suc q) states) j b e) (λ i f. turned_from r (suc q) states i b f)
  where
    by_part : (slice_get (arcs_back r q s.arcs) j ≡ Some b) ⊎ ((i : ℕ) × (slice_get (turned_arcs r (suc q) states) i ≡ Some b) × (j ≡ length (arcs_back r q s.arcs) + i))
        → ((i : ℕ) → slice_get (turned_arcs r (suc q) states) i ≡ Some b → (n : ℕ) × (k : ℕ) × (a : Arc Cost ℕ) × (slice_get (get_or states n no_state).arcs k ≡ Some a) × (a.next ≡ r) × (back (suc q + n) a ≡ b) × (n < length states))
        → (n : ℕ) × (k : ℕ) × (a : Arc Cost ℕ) × (slice_get (get_or (s ∷ states) n no_state).arcs k ≡ Some a) × (a.next ≡ r) × (back (q + n) a ≡ b) × (n < length (s ∷ states))
    by_part (inl f) more =
        let here = back_from r q s.arcs j b f in
        let place : q + 0 ≡ q = omega arith in
        (0, here.0, here.1, here.2, here.3, ap (λ (z : ℕ). back z here.1) place ∙ here.4, omega arith)
    by_part (inr f) more =
        let rest = more f.0 f.1 in
        let place : q + suc rest.0 ≡ suc q + rest.0 = omega arith in
        (suc rest.0, rest.1, rest.2, rest.3, rest.4, ap (λ (z : ℕ). back z rest.2) place ∙ rest.5, omega (arith, rest.6))

-- ---- the arcs of the new start

finals_has : (q : ℕ) (states : List (State Cost)) (n : ℕ) → ((get_or states n no_state).final ≡ infinite → ⊥) → (j : ℕ) × (slice_get (final_arcs q states) j ≡ Some (epsilon_arc (get_or states n no_state).final (q + n)))
finals_has q [] n final = absurd (final refl)
finals_has q (s ∷ states) zero final =
    let place : q ≡ q + 0 = omega arith in
    (0, at_append_left (leaving s.final q) (final_arcs (suc q) states) 0 (epsilon_arc s.final q) (leaving_has s.final q final) ∙ ap (λ (z : ℕ). Some (epsilon_arc s.final z)) place)
finals_has q (s ∷ states) (suc n) final =
    let more = finals_has (suc q) states n final in
    let place : suc q + n ≡ q + suc n = omega arith in
    (length (leaving s.final q) + more.0, at_append_right (leaving s.final q) (final_arcs (suc q) states) more.0 (epsilon_arc (get_or states n no_state).final (suc q + n)) more.1 ∙ ap (λ (z : ℕ). Some (epsilon_arc (get_or states n no_state).final z)) place)

finals_from : (q : ℕ) (states : List (State Cost)) (j : ℕ) (b : Arc Cost ℕ) → slice_get (final_arcs q states) j ≡ Some b → (n : ℕ) × (n < length states) × ((get_or states n no_state).final ≡ infinite → ⊥) × (epsilon_arc (get_or states n no_state).final (q + n) ≡ b)
finals_from q [] j b e = absurd (cc)
finals_from q (s ∷ states) j b e = by_part (append_at (leaving s.final q) (final_arcs (suc q) states) j b e) (λ i f. finals_from (suc q) states i b f)
  where
    by_part : (slice_get (leaving s.final q) j ≡ Some b) ⊎ ((i : ℕ) × (slice_get (final_arcs (suc q) states) i ≡ Some b) × (j ≡ length (leaving s.final q) + i))
        → ((i : ℕ) → slice_get (final_arcs (suc q) states) i ≡ Some b → (n : ℕ) × (n < length states) × ((get_or states n no_state).final ≡ infinite → ⊥) × (epsilon_arc (get_or states n no_state).final (suc q + n) ≡ b))
        → (n : ℕ) × (n < length (s ∷ states)) × ((get_or (s ∷ states) n no_state).final ≡ infinite → ⊥) × (epsilon_arc (get_or (s ∷ states) n no_state).final (q + n) ≡ b)
    by_part (inl f) more =
        let here = leaving_only s.final q j b f in
        let place : q + 0 ≡ q = omega arith in
        (0, omega arith, here.0, ap (λ (z : ℕ). epsilon_arc s.final z) place ∙ here.1)
    by_part (inr f) more =
        let rest = more f.0 f.1 in
        let place : q + suc rest.0 ≡ suc q + rest.0 = omega arith in
        (suc rest.0, omega (arith, rest.1), rest.2, ap (λ (z : ℕ). epsilon_arc (get_or states rest.0 no_state).final z) place ∙ rest.3)

-- a place with a start weight is the start
start_weight_is : (kind : ArcType) (start : Option ℕ) (r : ℕ) → (start_weight kind start r ≡ infinite → ⊥) → (start ≡ Some r) × (start_weight kind start r ≡ one_of kind)
start_weight_is kind None r final = absurd (final refl)
start_weight_is kind (Some s) r final = by_test (r == s) refl final
  where
    by_test : (t : Bool) → (r == s) ≡ t → (cond t (one_of kind) infinite ≡ infinite → ⊥) → (Some s ≡ Some r) × (cond t (one_of kind) infinite ≡ one_of kind)
    by_test true test h = (ap (λ (z : ℕ). Some z) (sym (test_is r s test)), refl)
    by_test false test h = absurd (h refl)

start_weight_one : (kind : ArcType) (s : ℕ) → start_weight kind (Some s) s ≡ one_of kind
start_weight_one kind s = ap (λ b. cond b (one_of kind) infinite) (test_yes s s refl)

module _ (kind : ArcType) (a : Machine Cost) (good : IsMachine (λ v. v) a) where
  abbrev m : Machine Cost
  m = reverse_of kind a

  abbrev fork : State Cost
  fork = record { final = infinite; arcs = final_arcs 1 a.states }

  -- what stands one place further on
  pub turned_at : (r : ℕ) → r < length a.states → get_or m.states (1 + r) no_state ≡ turned_state kind a r
  turned_at r low = get_or-append-add (fork ∷ []) (map (turned_state kind a) (range_with_len 0 (length a.states))) r no_state ∙ get_or-map-range_with_len (turned_state kind a) 0 (length a.states) r r no_state low (omega arith)

  arcs_at : (r : ℕ) → r < length a.states → (graph_of m).arcs (1 + r) ≡ turned_arcs r 1 a.states
  arcs_at r low = ap (λ (s : State Cost). s.arcs) (turned_at r low)

  final_at : (r : ℕ) → r < length a.states → (graph_of m).final (1 + r) ≡ start_weight kind a.start r
  final_at r low = ap (λ (s : State Cost). s.final) (turned_at r low)

  -- the arcs lead back
  there : Turns (λ (n p : ℕ). p ≡ 1 + n) (graph_of a) (graph_of m) (Inside a)
  there = record {
    arcs = λ n p k arc low has tied.
        let inside = next_inside a n k arc good.arcs has in
        let found = turned_has arc.next 1 a.states n k arc has refl in
        (found.0, back (1 + n) arc, ap (λ (z : ℕ). slice_get ((graph_of m).arcs z) found.0) tied ∙ (ap (λ arcs. slice_get arcs found.0) (arcs_at arc.next inside) ∙ found.1), refl, refl);
    within = λ n k arc low has. next_inside a n k arc good.arcs has;
  }

  -- and the other way round
  abbrev Turned : ℕ → Type 0
  Turned p = (n : ℕ) × (p ≡ 1 + n) × (n < length a.states)

  from_turned : (p k : ℕ) (b : Arc Cost ℕ) → Turned p → slice_get ((graph_of m).arcs p) k ≡ Some b → (n : ℕ) × (i : ℕ) × (arc : Arc Cost ℕ) × (slice_get (get_or a.states n no_state).arcs i ≡ Some arc) × (1 + arc.next ≡ p) × (back (1 + n) arc ≡ b) × (n < length a.states)
  from_turned p k b h has =
      let from = turned_from h.0 1 a.states k b (ap (λ arcs. slice_get arcs k) (sym (arcs_at h.0 h.2)) ∙ (ap (λ (z : ℕ). slice_get ((graph_of m).arcs z) k) (sym h.1) ∙ has)) in
      (from.0, from.1, from.2, from.3, ap (λ (z : ℕ). 1 + z) from.4 ∙ sym h.1, from.5, from.6)

  one_apart : (n k : ℕ) → 1 + n ≡ 1 + k → n ≡ k
  one_apart n k e = omega (arith, e)

  again : Turns (λ (p n : ℕ). p ≡ 1 + n) (graph_of m) (graph_of a) Turned
  again = record {
    arcs = λ p n k b low has tied.
        let from = from_turned p k b low has in
        let next : 1 + from.0 ≡ b.next = ap (λ (z : Arc Cost ℕ). z.next) from.5 in
        let same : from.0 ≡ n = one_apart from.0 n (next ∙ tied) in
        (from.1, from.2, ap (λ (z : ℕ). slice_get ((graph_of a).arcs z) from.1) (sym same) ∙ from.3, ap letter_of from.5, sym from.4);
    within = λ p k b low has. let from = from_turned p k b low has in (from.0, ap (λ (z : Arc Cost ℕ). z.next) (sym from.5), from.6);
  }

  -- a path from a turned state ends at one
  ends_turned : (p q : ℕ) (path : List (Transition ℕ)) → Turned p → IsPath (graph_of m) p path q → Turned q
  ends_turned p q [] low here = subst Turned here low
  ends_turned p q (t ∷ path) low leads = ends_turned t.arc.next q path (again.within p t.place t.arc low leads.0.1) leads.1

  -- a reversal turns both strings round
  pub reverse-Reverses : Reverses kind a m
  reverse-Reverses x y w = (turns_back, turns)
    where
      by_path : (last : ℕ) (path : List (Transition ℕ)) → IsPath (graph_of m) 0 path last → ((graph_of m).final last ≡ infinite → ⊥) → x ≡ input (letters path) → y ≡ output (letters path) → w ≡ times kind (product kind (letters path)) ((graph_of m).final last) → Rel kind (graph_of a) (reverse x) (reverse y) w
      by_path last [] here final reads writes weight = absurd (final (ap (graph_of m).final (sym here)))
      by_path last (t ∷ path) leads final reads writes weight =
          let f = finals_from 1 a.states t.place t.arc leads.0.1 in
          let goes : IsPath (graph_of m) (1 + f.0) path last = subst (λ (b : Arc Cost ℕ). IsPath (graph_of m) b.next path last) (sym f.3) leads.1 in
          let e = ends_turned (1 + f.0) last path (f.0, refl, f.1) goes in
          let weighs : (graph_of m).final last ≡ start_weight kind a.start e.0 = ap (graph_of m).final e.1 ∙ final_at e.0 e.2 in
          let is = start_weight_is kind a.start e.0 (subst (λ (z : Cost). z ≡ infinite → ⊥) weighs final) in
          let turned = turned_path (λ (p n : ℕ). p ≡ 1 + n) (graph_of m) (graph_of a) Turned again (1 + f.0) last e.0 path (f.0, refl, f.1) e.1 goes in
          let same : f.0 ≡ turned.1 = one_apart f.0 turned.1 turned.4 in
          let plain : x ≡ input (letters path) = reads ∙ ap (λ (b : Arc Cost ℕ). before b.ilabel (input (letters path))) (sym f.3) in
          let clean : y ≡ output (letters path) = writes ∙ ap (λ (b : Arc Cost ℕ). before b.olabel (output (letters path))) (sym f.3) in
          let fin = (graph_of a).final in
          let whole : product kind (letters turned.0) ≡ product kind (letters path) = ap (product kind) turned.3 ∙ product-turned kind (letters path) in
          let one : w ≡ times kind (times kind (fin f.0) (product kind (letters path))) (one_of kind) = weight ∙ ap₂ (times kind) (ap (λ (b : Arc Cost ℕ). times kind b.weight (product kind (letters path))) (sym f.3)) (weighs ∙ is.1) in
          record {
            first = e.0;
            starts = is.0;
            says = record {
              path = turned.0;
              last = turned.1;
              leads = turned.2;
              final = subst (λ (n : ℕ). fin n ≡ infinite → ⊥) same f.2;
              reads = ap reverse plain ∙ (sym (input-turned (letters path)) ∙ ap input (sym turned.3));
              writes = ap reverse clean ∙ (sym (output-turned (letters path)) ∙ ap output (sym turned.3));
              weight = one ∙ (times_one kind (times kind (fin f.0) (product kind (letters path))) ∙ (times_comm kind (fin f.0) (product kind (letters path)) ∙ ap₂ (times kind) (sym whole) (ap fin same)));
            };
          }

      turns_back : Rel kind (graph_of m) x y w → Rel kind (graph_of a) (reverse x) (reverse y) w
      turns_back r =
          let first : r.first ≡ 0 = let e : Some 0 ≡ Some r.first = r.starts in cc in
          by_path r.says.last r.says.path (subst (λ (p : ℕ). IsPath (graph_of m) p r.says.path r.says.last) first r.says.leads) r.says.final r.says.reads r.says.writes r.says.weight

      turns : Rel kind (graph_of a) (reverse x) (reverse y) w → Rel kind (graph_of m) x y w
      turns r =
          let s = r.first in
          let low = start_inside a s good r.starts in
          let path = r.says.path in
          let last = r.says.last in
          let fin = (graph_of a).final in
          let enters = finals_has 1 a.states last r.says.final in
          let turned = turned_path (λ (n p : ℕ). p ≡ 1 + n) (graph_of a) (graph_of m) (Inside a) there s last (1 + last) path low refl r.says.leads in
          let t : Transition ℕ = record { state = 0; place = enters.0; arc = epsilon_arc (fin last) (1 + last) } in
          let one : (graph_of m).final turned.1 ≡ one_of kind = ap (graph_of m).final turned.4 ∙ (final_at s low ∙ (ap (λ (o : Option ℕ). start_weight kind o s) r.starts ∙ start_weight_one kind s)) in
          let whole : product kind (letters turned.0) ≡ product kind (letters path) = ap (product kind) turned.3 ∙ product-turned kind (letters path) in
          record {
            first = 0;
            starts = refl;
            says = record {
              path = t ∷ turned.0;
              last = turned.1;
              leads = ((refl, enters.1), turned.2);
              final = subst (λ (z : Cost). z ≡ infinite → ⊥) (sym one) (one_not_zero kind);
              reads = sym (reverse-reverse x) ∙ (ap reverse r.says.reads ∙ (sym (input-turned (letters path)) ∙ ap input (sym turned.3)));
              writes = sym (reverse-reverse y) ∙ (ap reverse r.says.writes ∙ (sym (output-turned (letters path)) ∙ ap output (sym turned.3)));
              weight = r.says.weight ∙ (times_comm kind (product kind (letters path)) (fin last) ∙ (sym (times_one kind (times kind (fin last) (product kind (letters path)))) ∙ ap₂ (λ z k. times kind (times kind (fin last) z) k) (sym whole) (sym one)));
            };
          }
