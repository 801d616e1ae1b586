-- The pushed machine as the program reads it.
use Rattle.std.proofs.Common.{◌≡◌, ◌≢◌, ℕ, ◌+◌, ◌<◌, List, [], ◌∷◌, Some, length, map, get_or, slice_get, sym, refl, ap, ap₂, ◌∙◌, subst, arith}
use Rattle.std.specs.Prelude.{IfSome}
use Rattle.std.specs.List.{All}
use Rattle.std.specs.Option.{option_map}
use Rattle.std.proofs.lemmas.List.{get_or_default, length-map}
use Rattle.std.proofs.lemmas.List.Sums.{sum_by-cons}
use Rattle.std.proofs.lemmas.Option.{slice_get-get_or, get_or_from_slice_get}
use Rattle.fst_semiring.specs.Cost.{Cost, infinite, plus}
use Rattle.fst_semiring.specs.declared.arc_type.ArcType.{ArcType}
use Rattle.fst_semiring.specs.Semiring.{times, Within}
use Rattle.fst_semiring.specs.Division.{push_quotient}
use Rattle.fst_machine.specs.Machine.{Arc, State, Machine, IsArc, IsMachine, arc_total, valued, valued_arc, valued_state}
use Rattle.fst_machine.specs.Graph.{graph_of, no_state}
use Rattle.fst_machine.proofs.Arcs.{mapped_some, at_mapped}
use Rattle.fst_machine.proofs.Valued.{IsMachine-valued, arc_total-valued}
use Rattle.fst_machine.proofs.Cycles.{state_below}
use Rattle.std.proofs.lemmas.List.Elements.{All-map}
use Rattle.fst_semiring.proofs.Laws.{times_zero}
use Rattle.fst_distance.proofs.Potential.{times_not_zero}
use Rattle.fst_distance.proofs.PushedPaths.{arc_undone}
use Rattle.fst_distance.specs.Pushing.{Pushes, pushed_by, pushed_arc, pushed_from, pushed_machine}
use Rattle.fst_distance.specs.Values.{HasDistances, most_distance, value_in, value_or_zero}
use Rattle.fst_machine.proofs.Narrowing.{all_at}
use Rattle.fst_distance.proofs.Lists.{value_read}
use Rattle.fst_distance.proofs.PushedMachine.{pushed_length, pushed_at, pushes_machine}

-- the state in a place of a machine, by its values
pub valued_at : {V : Type 0} (value : V → Cost) (states : List (State V)) (p : ℕ) (s : State V) → slice_get states p ≡ Some s → get_or (map (valued_state value) states) p no_state ≡ valued_state value s
valued_at value states p s e = get_or_from_slice_get (map (valued_state value) states) p (valued_state value s) no_state (at_mapped (valued_state value) states p s e)

-- pushed states have as many arcs
pub pushed_total : (kind : ArcType) (d : ℕ → Cost) (k : ℕ) (states : List (State Cost)) → arc_total (pushed_from kind d k states) ≡ arc_total states
pushed_total kind d k [] = refl
pushed_total kind d k (s ∷ states) =
    let one = sum_by-cons (λ (t : State Cost). length t.arcs) (record { final = push_quotient kind s.final (d k); arcs = map (pushed_arc kind d k) s.arcs }) (pushed_from kind d (k + 1) states) in
    let two = sum_by-cons (λ (t : State Cost). length t.arcs) s states in
    let rest = pushed_total kind d (k + 1) states in
    let same = length-map s.arcs (pushed_arc kind d k) in
    omega (arith, one, two, rest, same)

module _ {V X : Type 0} (kind : ArcType) (value : V → Cost) (wide : X → Cost) (m : Machine V) (ds : List X) (size : length ds ≡ length m.states) (h : HasDistances kind (valued value m) (value_in wide ds)) where
  -- the pushed machine
  abbrev pub view : Machine Cost
  view = pushed_machine kind (value_in wide ds) (valued value m)

  pub valued_size : length (valued value m).states ≡ length m.states
  valued_size = length-map m.states (valued_state value)

  pub view_size : length view.states ≡ length m.states
  view_size = pushed_length kind (value_in wide ds) 0 (valued value m).states ∙ valued_size

  pub view_total : arc_total view.states ≡ arc_total m.states
  view_total = pushed_total kind (value_in wide ds) 0 (valued value m).states ∙ arc_total-valued value m.states

  pub view_low : (p : ℕ) → p < length view.states → p < length m.states
  view_low p low = let s = view_size in omega arith

  pub valued_low : (p : ℕ) → p < length m.states → p < length (valued value m).states
  valued_low p low = let s = valued_size in omega arith

  -- the distance that is read
  pub distance_read : (p : ℕ) (d : X) → p < length m.states → d ≡ get_or ds p d → value_in wide ds p ≡ wide d
  distance_read p d low read = value_read wide ds p d (omega arith) read

  pub own_some : (p : ℕ) (d : X) → p < length m.states → d ≡ get_or ds p d → wide d ≢ infinite
  own_some p d low read e = h.potential.not_zero p (valued_low p low) (distance_read p d low read ∙ e)

  pub own_within : (p : ℕ) (d : X) → p < length m.states → d ≡ get_or ds p d → Within most_distance (wide d)
  own_within p d low read = subst (Within most_distance) (distance_read p d low read) (h.range p (valued_low p low))

  pub all_within : All (λ d. Within most_distance (wide d)) ds
  all_within i d low =
      let here = slice_get-get_or ds i d low in
      let same : value_in wide ds i ≡ wide (get_or ds i d) = ap (value_or_zero wide) here in
      subst (Within most_distance) same (h.range i (valued_low i (omega arith)))

  -- the state that is read
  pub state_at : (p : ℕ) (s : State V) → slice_get m.states p ≡ Some s → p < length m.states → get_or view.states p no_state ≡ record { final = push_quotient kind (value s.final) (value_in wide ds p); arcs = map (pushed_arc kind (value_in wide ds) p) (map (valued_arc value) s.arcs) }
  state_at p s e low =
      let none : 0 + p ≡ p = omega arith in
      pushed_at kind (value_in wide ds) 0 (valued value m).states p (valued_low p low)
      ∙ ap₂ (λ (q : ℕ) (t : State Cost). record { final = push_quotient kind t.final (value_in wide ds q); arcs = map (pushed_arc kind (value_in wide ds) q) t.arcs }) none (valued_at value m.states p s e)

  pub view_final : (p : ℕ) (last : V) (d : X) → p < length m.states → option_map (λ s. s.final) (slice_get m.states p) ≡ Some last → d ≡ get_or ds p d → (graph_of view).final p ≡ push_quotient kind (value last) (wide d)
  view_final p last d low e read =
      let from = mapped_some (λ (s : State V). s.final) (slice_get m.states p) last e in
      ap (λ (s : State Cost). s.final) (state_at p from.0 from.1 low) ∙ ap₂ (λ v w. push_quotient kind (value v) w) from.2 (distance_read p d low read)

  pub final_no_worse : (p : ℕ) (last : V) (d : X) → p < length m.states → option_map (λ s. s.final) (slice_get m.states p) ≡ Some last → d ≡ get_or ds p d → plus (wide d) (value last) ≡ wide d
  final_no_worse p last d low e read =
      let from = mapped_some (λ (s : State V). s.final) (slice_get m.states p) last e in
      let own = distance_read p d low read in
      let final : (graph_of (valued value m)).final p ≡ value last = ap (λ (s : State Cost). s.final) (valued_at value m.states p from.0 from.1) ∙ ap value from.2 in
      ap₂ plus (sym own) (sym final) ∙ (h.potential.final p (valued_low p low) ∙ own)

  -- the arcs that are read
  valued_arcs : (p : ℕ) (arcs : List (Arc V ℕ)) → option_map (λ s. s.arcs) (slice_get m.states p) ≡ Some arcs → (graph_of (valued value m)).arcs p ≡ map (valued_arc value) arcs
  valued_arcs p arcs e =
      let from = mapped_some (λ (s : State V). s.arcs) (slice_get m.states p) arcs e in
      ap (λ (s : State Cost). s.arcs) (valued_at value m.states p from.0 from.1) ∙ ap (map (valued_arc value)) from.2

  map_map : (f : Arc Cost ℕ → Arc Cost ℕ) (arcs : List (Arc V ℕ)) → map f (map (valued_arc value) arcs) ≡ map (λ a. f (valued_arc value a)) arcs
  map_map f [] = refl
  map_map f (a ∷ arcs) = ap (λ xs. f (valued_arc value a) ∷ xs) (map_map f arcs)

  pub view_arcs : (p : ℕ) (arcs : List (Arc V ℕ)) (d : X) → p < length m.states → option_map (λ s. s.arcs) (slice_get m.states p) ≡ Some arcs → d ≡ get_or ds p d
      → (graph_of view).arcs p ≡ map (λ a. pushed_by kind (value_in wide ds) (wide d) (valued_arc value a)) arcs
  view_arcs p arcs d low e read =
      let from = mapped_some (λ (s : State V). s.arcs) (slice_get m.states p) arcs e in
      ap (λ (s : State Cost). s.arcs) (state_at p from.0 from.1 low)
      ∙ (ap (λ (xs : List (Arc V ℕ)). map (pushed_arc kind (value_in wide ds) p) (map (valued_arc value) xs)) from.2
      ∙ (map_map (pushed_arc kind (value_in wide ds) p) arcs ∙ ap (λ w. map (λ a. pushed_by kind (value_in wide ds) w (valued_arc value a)) arcs) (distance_read p d low read)))

  pub arcs_no_worse : (p : ℕ) (arcs : List (Arc V ℕ)) (d : X) → p < length m.states → option_map (λ s. s.arcs) (slice_get m.states p) ≡ Some arcs → d ≡ get_or ds p d
      → All (λ a. plus (wide d) (times kind (value a.weight) (value_in wide ds a.next)) ≡ wide d) arcs
  arcs_no_worse p arcs d low e read i a within =
      let own = distance_read p d low read in
      let b = get_or arcs i a in
      let has = subst (λ xs. slice_get xs i ≡ Some (valued_arc value b)) (sym (valued_arcs p arcs e)) (at_mapped (valued_arc value) arcs i b (slice_get-get_or arcs i a within)) in
      ap (λ w. plus w (times kind (value b.weight) (value_in wide ds b.next))) (sym own) ∙ (h.potential.arc p i (valued_arc value b) (valued_low p low) has ∙ own)

  pub arcs_near : IsMachine value m → (p : ℕ) (arcs : List (Arc V ℕ)) → p < length m.states → option_map (λ s. s.arcs) (slice_get m.states p) ≡ Some arcs → All (λ a. a.next < length ds) arcs
  arcs_near is p arcs low e i a within =
      let from = mapped_some (λ (s : State V). s.arcs) (slice_get m.states p) arcs e in
      let good = all_at (λ (s : State V). All (IsArc value (length m.states)) s.arcs) m.states p from.0 from.1 is.arcs in
      let near = (subst (λ (xs : List (Arc V ℕ)). All (IsArc value (length m.states)) xs) from.2 good i a within).next in
      omega arith

  -- what holds of the machine holds of the pushed one
  module _ (is : IsMachine value m) where
    valued_machine : IsMachine (λ v. v) (valued value m)
    valued_machine = IsMachine-valued value m is

    valued_next : (p k : ℕ) (a : Arc Cost ℕ) → slice_get ((graph_of (valued value m)).arcs p) k ≡ Some a → IsArc (λ v. v) (length (valued value m).states) a
    valued_next p k a has =
        let low = state_below (valued value m) p k a has in
        all_at (IsArc (λ v. v) (length (valued value m).states)) ((graph_of (valued value m)).arcs p) k a has (valued_machine.arcs p no_state low)

    pub view_pushes : Pushes kind (value_in wide ds) (graph_of (valued value m)) (graph_of view) (λ p. p < length (valued value m).states)
    view_pushes = pushes_machine kind (value_in wide ds) (valued value m) valued_machine.start (λ p k a has. (valued_next p k a has).next)

    view_some : (p k : ℕ) (a : Arc Cost ℕ) → p < length (valued value m).states → slice_get ((graph_of (valued value m)).arcs p) k ≡ Some a → (pushed_arc kind (value_in wide ds) p a).weight ≢ infinite
    view_some p k a low has e =
        let good = valued_next p k a has in
        let undone = arc_undone kind (value_in wide ds) (graph_of (valued value m)) (graph_of view) (λ q. q < length (valued value m).states) view_pushes h.potential p k a low has in
        times_not_zero kind a.weight (value_in wide ds a.next) good.weight (h.potential.not_zero a.next good.next) (sym undone ∙ (ap (times kind (value_in wide ds p)) e ∙ times_zero kind (value_in wide ds p)))

    view_arc : (p : ℕ) → p < length (valued value m).states → All (IsArc (λ v. v) (length view.states)) ((graph_of view).arcs p)
    view_arc p low =
        let same : length view.states ≡ length (valued value m).states = pushed_length kind (value_in wide ds) 0 (valued value m).states in
        subst (λ xs. All (IsArc (λ v. v) (length view.states)) xs) (sym (view_pushes.arcs p low))
        (All-map (IsArc (λ v. v) (length view.states)) (pushed_arc kind (value_in wide ds) p) ((graph_of (valued value m)).arcs p)
        (λ k a within. let b = get_or ((graph_of (valued value m)).arcs p) k a in
        let has = slice_get-get_or ((graph_of (valued value m)).arcs p) k a within in
        let good = valued_next p k b has in
        record { ilabel = good.ilabel; olabel = good.olabel; weight = view_some p k b low has; next = let n = good.next in omega arith }))

    pub view_machine : IsMachine (λ v. v) view
    view_machine =
        let same : length view.states ≡ length (valued value m).states = pushed_length kind (value_in wide ds) 0 (valued value m).states in
        record {
          start = subst (λ (n : ℕ). IfSome m.start (λ s. s < n)) (sym same) valued_machine.start;
          arcs = λ i d low. subst (λ (s : State Cost). All (IsArc (λ v. v) (length view.states)) s.arcs) (get_or_default view.states i no_state d low) (view_arc i (omega arith));
          few_states = let f = is.few_states in let s = view_size in omega arith;
          few_arcs = let f = is.few_arcs in let s = view_total in omega arith;
        }

-- What is read of a pushing: a machine, its distances, and the pushed machine as it is seen.
pub record Reads {V X : Type 0} (kind : ArcType) (value : V → Cost) (wide : X → Cost) (ds : List X) (seen : Machine Cost) (m : Machine V) : Type 0 where
  pub size : length ds ≡ length m.states
  pub has : HasDistances kind (valued value m) (value_in wide ds)
  pub view_is : pushed_machine kind (value_in wide ds) (valued value m) ≡ seen

pub reads : {V X : Type 0} (kind : ArcType) (value : V → Cost) (wide : X → Cost) (ds : List X) (seen : Machine Cost) (m now : Machine V) → now ≡ m → (length ds ≡ length m.states) × HasDistances kind (valued value m) (value_in wide ds)
    → pushed_machine kind (value_in wide ds) (valued value m) ≡ seen → Reads kind value wide ds seen now
reads kind value wide ds seen m now same holds view_is = subst (Reads kind value wide ds seen) (sym same) (record { size = holds.0; has = holds.1; view_is = view_is })

-- a state that is seen is one of the machine
pub low_read : {V X : Type 0} (kind : ArcType) (value : V → Cost) (wide : X → Cost) (ds : List X) (seen : Machine Cost) (m : Machine V) → Reads kind value wide ds seen m → (p : ℕ) → p < length seen.states → p < length m.states
low_read kind value wide ds seen m r p low = view_low kind value wide m ds r.size r.has p (subst (λ (n : Machine Cost). p < length n.states) (sym r.view_is) low)
