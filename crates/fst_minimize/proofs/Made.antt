-- The machine of the classes, as it is made from the numbers of the states.
use Rattle.std.proofs.Common.{◌≡◌, ◌≢◌, ◌⊎◌, inl, inr, ◌↔◌, ℕ, ◌+◌, ◌<◌, ◌≤◌, zero, suc, List, [], ◌∷◌, ◌++◌, Option, None, Some, length, map, take, get_or, slice_get, sum_by, sym, refl, ap, ap₂, ◌∙◌, subst, arith}
use Rattle.std.specs.Prelude.{IfSome}
use Rattle.std.specs.List.{All}
use Rattle.std.specs.Option.{option_map}
use Rattle.std.proofs.lemmas.Bool.{cases_eq}
use Rattle.std.proofs.lemmas.List.{length-map, take_more}
use Rattle.std.proofs.lemmas.List.Elements.{All-map, All-push}
use Rattle.std.proofs.lemmas.List.Sums.{sum_by-cons, sum_by_more_le}
use Rattle.std.proofs.lemmas.Option.{slice_get-get_or, slice_get_within, get_or_from_slice_get}
use Rattle.fst_semiring.specs.Cost.{Cost}
use Rattle.fst_semiring.specs.declared.arc_type.ArcType.{ArcType}
use Rattle.fst_machine.specs.Machine.{Arc, State, Machine, IsArc, IsMachine, arc_total, most_arcs, valued_arc}
use Rattle.fst_machine.specs.Graph.{graph_of, no_state, renamed}
use Rattle.fst_machine.specs.Narrowing.{IsInRange}
use Rattle.fst_machine.proofs.Arcs.{at_mapped}
use Rattle.fst_machine.proofs.Narrowing.{all_at}
use Rattle.fst_minimize.specs.Behaviour.{Alike}
use Rattle.fst_minimize.specs.Classes.{HasClasses, class_state, class_machine}
use Rattle.fst_minimize.specs.Laws.{totalled, totalled_state}
use Rattle.fst_minimize.specs.Numbered.{IsNumbering, TellsBehaviour, number_in}
use Rattle.fst_minimize.proofs.Splitting.{number_below, count_below}

-- numbers that tell the behaviour, by least members, make the machine of the classes
module _ (m : Machine Cost) (numbers least : List ℕ) (t : TellsBehaviour (graph_of m) (length m.states) numbers) (h : IsNumbering numbers least) where
  class_low : (p i : ℕ) → slice_get numbers p ≡ Some i → (p < length m.states) × (number_in numbers p ≡ i)
  class_low p i e = let low = slice_get_within numbers p i e in let s = t.size in (omega arith, get_or_from_slice_get numbers p i 0 e)

  class_alike : (p q i j : ℕ) → slice_get numbers p ≡ Some i → slice_get numbers q ≡ Some j → (i ≡ j) ↔ Alike (graph_of m) (graph_of m) p q
  class_alike p q i j e f =
      let x = class_low p i e in
      let y = class_low q j f in
      ((λ same. t.same p q x.0 y.0 (x.1 ∙ (same ∙ sym y.1))), (λ alike. sym x.1 ∙ (t.other p q x.0 y.0 alike ∙ y.1)))

  class_at : (i p : ℕ) → slice_get least i ≡ Some p → get_or (map (class_state m numbers) least) i no_state ≡ class_state m numbers p
  class_at i p e = get_or_from_slice_get (map (class_state m numbers) least) i (class_state m numbers p) no_state (at_mapped (class_state m numbers) least i p e)

  pub has_classes : HasClasses m (class_machine m numbers least)
  has_classes = record {
    class = numbers;
    least = least;
    classes = t.size;
    states = length-map least (class_state m numbers);
    alike = class_alike;
    member = h.member;
    first = h.first;
    ascending = h.ascending;
    start = refl;
    final = λ i p e. ap (λ (s : State Cost). s.final) (class_at i p e);
    arcs = λ i p e. ap (λ (s : State Cost). s.arcs) (class_at i p e);
  }

-- the sum over a range of numbers
abbrev range_sum : (ℕ → ℕ) → ℕ → ℕ → ℕ
range_sum f k zero = 0
range_sum f k (suc n) = f k + range_sum f (k + 1) n

-- each number of the list is at least k, and they ascend
abbrev AscendFrom : ℕ → List ℕ → Type 0
AscendFrom k [] = Unit {0}
AscendFrom k (p ∷ ps) = (k ≤ p) × AscendFrom (p + 1) ps

-- numbers picked from a range have no greater sum
picked : (f : ℕ → ℕ) (k n : ℕ) (ps : List ℕ) → AscendFrom k ps → ((i p : ℕ) → slice_get ps i ≡ Some p → p < k + n) → sum_by f ps ≤ range_sum f k n
picked f k n [] up low = omega arith
picked f k zero (p ∷ ps) up low = absurd (let l = low 0 p refl in let u = up.0 in omega arith)
picked f k (suc n) (p ∷ ps) up low = by (picked f (k + 1) n ps) (picked f (k + 1) n (p ∷ ps)) (cases_eq p k)
  where
    by : (AscendFrom (k + 1) ps → ((i q : ℕ) → slice_get ps i ≡ Some q → q < k + 1 + n) → sum_by f ps ≤ range_sum f (k + 1) n)
        → (AscendFrom (k + 1) (p ∷ ps) → ((i q : ℕ) → slice_get (p ∷ ps) i ≡ Some q → q < k + 1 + n) → sum_by f (p ∷ ps) ≤ range_sum f (k + 1) n)
        → (p ≡ k) ⊎ (p ≢ k) → sum_by f (p ∷ ps) ≤ range_sum f k (suc n)
    by rest all (inl here) =
        let sum = sum_by-cons f p ps in
        let same : f p ≡ f k = ap f here in
        let more = rest (subst (λ (j : ℕ). AscendFrom (j + 1) ps) here up.1) (λ i q e. let l = low (suc i) q e in omega arith) in
        omega (arith, sum, same, more)
    by rest all (inr other) =
        let u = up.0 in
        let more = all (omega arith, up.1) (λ i q e. let l = low i q e in omega arith) in
        omega (arith, more)

ascends : (k : ℕ) (ps : List ℕ) → ((i p : ℕ) → slice_get ps i ≡ Some p → k ≤ p) → ((i j p q : ℕ) → i < j → slice_get ps i ≡ Some p → slice_get ps j ≡ Some q → p < q) → AscendFrom k ps
ascends k [] high up = tt
ascends k (p ∷ ps) high up = (high 0 p refl, ascends (p + 1) ps (λ i q e. let l = up 0 (suc i) p q (omega arith) refl e in omega arith) (λ i j x y low e f. up (suc i) (suc j) x y (omega arith) e f))

-- the arcs of the states, one state after the other
range_total : (k : ℕ) (states all : List (State Cost)) → ((p : ℕ) → get_or all (k + p) no_state ≡ get_or states p no_state) → range_sum (λ p. length (get_or all p no_state).arcs) k (length states) ≡ arc_total states
range_total k [] all same = refl
range_total k (s ∷ states) all same =
    let sum = sum_by-cons (λ (t : State Cost). length t.arcs) s states in
    let here : k + 0 ≡ k = omega arith in
    let one : length (get_or all k no_state).arcs ≡ length s.arcs = ap (λ (t : State Cost). length t.arcs) (ap (λ (q : ℕ). get_or all q no_state) (sym here) ∙ same 0) in
    let rest = range_total (k + 1) states all (λ p. let next : k + 1 + p ≡ k + suc p = omega arith in ap (λ (q : ℕ). get_or all q no_state) next ∙ same (suc p)) in
    omega (arith, sum, one, rest)

-- as many arcs as the members that stand for the classes have
class_total : (kind : ArcType) (total : Cost) (m : Machine Cost) (numbers least : List ℕ) → arc_total (map (totalled_state kind total) (map (class_state m numbers) least)) ≡ sum_by (λ p. length (get_or m.states p no_state).arcs) least
class_total kind total m numbers [] = refl
class_total kind total m numbers (p ∷ least) =
    let one = sum_by-cons (λ (t : State Cost). length t.arcs) (totalled_state kind total (class_state m numbers p)) (map (totalled_state kind total) (map (class_state m numbers) least)) in
    let two = sum_by-cons (λ q. length (get_or m.states q no_state).arcs) p least in
    let same = length-map (get_or m.states p no_state).arcs (renamed {N = ℕ} {M = ℕ} (number_in numbers)) in
    let rest = class_total kind total m numbers least in
    omega (arith, one, two, same, rest)

-- The machine that is made.
module _ (kind : ArcType) (total : Cost) (m : Machine Cost) (numbers least : List ℕ) (size : length numbers ≡ length m.states) (h : IsNumbering numbers least) where
  abbrev pub made : Machine Cost
  made = totalled kind total (class_machine m numbers least)

  pub made_size : length made.states ≡ length least
  made_size = length-map (map (class_state m numbers) least) (totalled_state kind total) ∙ length-map least (class_state m numbers)

  pub made_at : (i p : ℕ) → slice_get least i ≡ Some p → slice_get made.states i ≡ Some (totalled_state kind total (class_state m numbers p))
  made_at i p e = at_mapped (totalled_state kind total) (map (class_state m numbers) least) i (class_state m numbers p) (at_mapped (class_state m numbers) least i p e)

  pub least_low : (i p : ℕ) → slice_get least i ≡ Some p → p < length m.states
  least_low i p e = let low = slice_get_within numbers p i (h.member i p e) in omega arith

  pub made_total : arc_total made.states ≤ arc_total m.states
  made_total =
      let picks = picked (λ p. length (get_or m.states p no_state).arcs) 0 (length m.states) least (ascends 0 least (λ i p e. omega arith) h.ascending) (λ i p e. let l = least_low i p e in omega arith) in
      let range = range_total 0 m.states m.states (λ p. let none : 0 + p ≡ p = omega arith in ap (λ (q : ℕ). get_or m.states q no_state) none) in
      let sums = class_total kind total m numbers least in
      omega (arith, picks, range, sums)

  pub made_machine : IsMachine (λ v. v) m → IsMachine (λ v. v) made
  made_machine is = record {
    start = start m.start is.start;
    arcs = arcs;
    few_states = let a = made_size in let b = count_below (length m.states) numbers least h size in let c = is.few_states in omega arith;
    few_arcs = let a = made_total in let b = is.few_arcs in omega arith;
  }
    where
      start : (o : Option ℕ) → IfSome o (λ s. s < length m.states) → IfSome (option_map (number_in numbers) o) (λ s. s < length made.states)
      start None low = tt
      start (Some p) low = let below = number_below (length m.states) numbers least h size p low in let s = made_size in omega arith

      arc : (p : ℕ) → p < length m.states → All (IsArc (λ v. v) (length made.states)) (map (renamed (number_in numbers)) ((graph_of m).arcs p))
      arc p low = All-map (IsArc (λ v. v) (length made.states)) (renamed (number_in numbers)) ((graph_of m).arcs p)
          (λ k a within.
          let good = is.arcs p no_state low k a within in
          let below = number_below (length m.states) numbers least h size (get_or ((graph_of m).arcs p) k a).next good.next in
          let s = made_size in
          record { ilabel = good.ilabel; olabel = good.olabel; weight = good.weight; next = omega arith })

      arcs : All (λ s. All (IsArc (λ v. v) (length made.states)) s.arcs) made.states
      arcs i d low =
          let s = made_size in
          let p = get_or least i 0 in
          let there = slice_get-get_or least i 0 (omega arith) in
          let here : get_or made.states i d ≡ totalled_state kind total (class_state m numbers p) = get_or_from_slice_get made.states i (totalled_state kind total (class_state m numbers p)) d (made_at i p there) in
          subst (λ (t : State Cost). All (IsArc (λ v. v) (length made.states)) t.arcs) (sym here) (arc p (least_low i p there))

-- one state more of those that are defined
pub put_step : (states old new : List (State Cost)) (i : ℕ) (s : State Cost) → slice_get states i ≡ Some s → old ≡ take i states → new ≡ old ++ s ∷ [] → new ≡ take (i + 1) states
put_step states old new i s there so_far put =
    put ∙ (ap₂ (λ a t. a ++ t ∷ []) so_far (sym (get_or_from_slice_get states i s s there)) ∙ sym (take_more states i s (slice_get_within states i s there)))

pub range_step : (states : List (State Cost)) (i : ℕ) (s : State Cost) → slice_get states i ≡ Some s → All IsInRange (take i states) → IsInRange s → All IsInRange (take (i + 1) states)
range_step states i s there before here =
    subst (λ ss. All IsInRange ss) (sym (take_more states i s (slice_get_within states i s there) ∙ ap (λ t. take i states ++ t ∷ []) (get_or_from_slice_get states i s s there))) (All-push IsInRange (take i states) s before here)

-- there is room for it
pub room_step : (states : List (State Cost)) (i : ℕ) (s : State Cost) (n : ℕ) → slice_get states i ≡ Some s → n ≡ arc_total (take i states) → arc_total states ≤ most_arcs → n + length s.arcs ≤ most_arcs
room_step states i s n there so_far few =
    let within = sum_by_more_le (λ (t : State Cost). length t.arcs) states i s (slice_get_within states i s there) in
    let own : length (get_or states i s).arcs ≡ length s.arcs = ap (λ (t : State Cost). length t.arcs) (get_or_from_slice_get states i s s there) in
    omega (arith, within, own)

-- the ends of the arcs that are read
pub ends_below : {V : Type 0} (value : V → Cost) (arcs : List (Arc V ℕ)) (others : List (Arc Cost ℕ)) (n : ℕ) → map (valued_arc value) arcs ≡ others → All (λ a. a.next < n) others → All (λ a. a.next < n) arcs
ends_below value arcs others n same all k d low =
    let there = at_mapped (valued_arc value) arcs k (get_or arcs k d) (slice_get-get_or arcs k d low) in
    all_at (λ a. a.next < n) others k (valued_arc value (get_or arcs k d)) (ap (λ xs. slice_get xs k) (sym same) ∙ there) all

-- two maps, one after the other
pub map_fuse : {X Y Z : Type 0} (f : X → Y) (g : Y → Z) (xs : List X) → map (λ x. g (f x)) xs ≡ map g (map f xs)
map_fuse f g [] = refl
map_fuse f g (x ∷ xs) = ap (λ ys. g (f x) ∷ ys) (map_fuse f g xs)

-- arcs of a state lead to states
pub arcs_below : (m : Machine Cost) (p n : ℕ) → IsMachine (λ v. v) m → p < length m.states → n ≡ length m.states → All (λ a. a.next < n) ((graph_of m).arcs p)
arcs_below m p n is low same k d within = let near = (is.arcs p no_state low k d within).next in omega arith
