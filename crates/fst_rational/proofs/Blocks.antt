-- The states of an operand inside a greater machine.
use Rattle.std.proofs.Common.{◌≡◌, ◌⊎◌, inl, inr, ℕ, ◌+◌, ◌<◌, ◌≤◌, Bool, true, List, [], ◌∷◌, ◌++◌, Option, None, Some, length, map, get_or, slice_get, refl, sym, ap, subst, ◌∙◌, append-nil, arith}
use Rattle.std.specs.Prelude.{IfSome}
use Rattle.std.specs.List.{All}
use Rattle.std.proofs.lemmas.Bool.{cases_lt}
use Rattle.std.proofs.lemmas.Option.{get_or_from_slice_get, slice_get_within}
use Rattle.std.proofs.lemmas.List.{get_or-append-add, get_or_append_left, get_or-map, get_or_past, length-map, length-append}
use Rattle.std.proofs.lemmas.List.Elements.{All-append, All-cons, All-map, All-nil, All-weaker}
use Rattle.std.proofs.lemmas.List.Sums.{sum_by-cons}
use Rattle.fst_semiring.specs.Cost.{Cost, best, finite, infinite}
use Rattle.fst_machine.specs.Machine.{Arc, State, Machine, IsArc, IsMachine, arc_total}
use Rattle.fst_machine.specs.Graph.{graph_of, no_state, renamed}
use Rattle.fst_machine.specs.Renaming.{Renames}
use Rattle.fst_machine.specs.Continuing.{Continues, epsilon_arc}
use Rattle.fst_rational.specs.Changing.{goings, onward}
use Rattle.fst_rational.specs.Constructions.{carried, kept}

-- the arcs of a machine lead to its states
abbrev pub HasArcs : Machine Cost → Type 0
HasArcs a = All (λ s. All (IsArc (λ v. v) (length a.states)) s.arcs) a.states

-- a place of an operand
abbrev pub Inside : Machine Cost → ℕ → Type 0
Inside a n = n < length a.states

-- a start is a place
pub start_inside : (a : Machine Cost) (s : ℕ) → IsMachine (λ v. v) a → a.start ≡ Some s → s < length a.states
start_inside a s h e = subst (λ (o : Option ℕ). IfSome o (λ s. s < length a.states)) e h.start

-- an arc of a machine leads to one of its states
pub next_inside : (a : Machine Cost) (n k : ℕ) (arc : Arc Cost ℕ) → HasArcs a → slice_get ((graph_of a).arcs n) k ≡ Some arc → arc.next < length a.states
next_inside a n k arc h has = by_order (cases_lt n (length a.states))
  where
    by_order : (n < length a.states) ⊎ (length a.states ≤ n) → arc.next < length a.states
    by_order (inl low) =
        let good : IsArc (λ v. v) (length a.states) (get_or (get_or a.states n no_state).arcs k arc) = h n no_state low k arc (slice_get_within (get_or a.states n no_state).arcs k arc has) in
        (subst (IsArc (λ v. v) (length a.states)) (get_or_from_slice_get (get_or a.states n no_state).arcs k arc arc has) good).next
    by_order (inr past) =
        let none : slice_get {X = Arc Cost ℕ} [] k ≡ Some arc = ap (λ (s : State Cost). slice_get s.arcs k) (sym (get_or_past a.states n no_state past)) ∙ has in
        absurd (let low = slice_get_within {A = Arc Cost ℕ} [] k arc none in omega (arith, low))

module _ (a m : Machine Cost) (h : HasArcs a) (k : ℕ) (keeps : Bool) (target : Option ℕ) (front back : List (State Cost)) (whole : m.states ≡ front ++ (map (carried k keeps target) a.states ++ back)) (before : length front ≡ k) where
  -- a state of the operand stands k places further on
  block_state : (n : ℕ) → n < length a.states → get_or m.states (k + n) no_state ≡ carried k keeps target (get_or a.states n no_state)
  block_state n low =
      let within : n < length (map (carried k keeps target) a.states) = subst (λ (z : ℕ). n < z) (sym (length-map a.states (carried k keeps target))) low in
      ap (λ ss. get_or ss (k + n) no_state) whole
      ∙ (ap (λ (z : ℕ). get_or (front ++ (map (carried k keeps target) a.states ++ back)) (z + n) no_state) (sym before)
      ∙ (get_or-append-add front (map (carried k keeps target) a.states ++ back) n no_state
      ∙ (get_or_append_left (map (carried k keeps target) a.states) back no_state n within
      ∙ get_or-map (carried k keeps target) a.states n no_state no_state low)))

  pub block_arcs : (n : ℕ) → n < length a.states → (graph_of m).arcs (k + n) ≡ map (renamed (λ p. k + p)) ((graph_of a).arcs n) ++ onward ((graph_of a).final n) target
  block_arcs n low = ap (λ (s : State Cost). s.arcs) (block_state n low)

  pub block_final : (n : ℕ) → n < length a.states → (graph_of m).final (k + n) ≡ kept keeps ((graph_of a).final n)
  block_final n low = ap (λ (s : State Cost). s.final) (block_state n low)

  -- it is the operand under other names
  pub block_renames : keeps ≡ true → target ≡ None → Renames (λ n. k + n) (graph_of a) (graph_of m) (Inside a)
  block_renames stays none = record {
    arcs = λ n low. block_arcs n low ∙ (ap (λ (t : Option ℕ). map (renamed (λ p. k + p)) ((graph_of a).arcs n) ++ onward ((graph_of a).final n) t) none ∙ append-nil (map (renamed (λ p. k + p)) ((graph_of a).arcs n)));
    final = λ n low. block_final n low ∙ ap (λ b. kept b ((graph_of a).final n)) stays;
    within = λ n i arc low has. next_inside a n i arc h has;
  }

  -- or it goes on
  pub block_continues : (c : ℕ) → target ≡ Some c → Continues (λ n. k + n) (graph_of a) (graph_of m) (Inside a) c
  block_continues c there = record {
    arcs = λ n low. block_arcs n low ∙ ap (λ (t : Option ℕ). map (renamed (λ p. k + p)) ((graph_of a).arcs n) ++ onward ((graph_of a).final n) t) there;
    within = λ n i arc low has. next_inside a n i arc h has;
  }

-- ---- size

-- the arcs of carried states
pub arc_total-carried : (k : ℕ) (keeps : Bool) (target : Option ℕ) (states : List (State Cost)) → arc_total (map (carried k keeps target) states) ≡ arc_total states + goings target states
arc_total-carried k keeps target [] = refl
arc_total-carried k keeps target (s ∷ states) =
    let all = sum_by-cons (λ (t : State Cost). length t.arcs) (carried k keeps target s) (map (carried k keeps target) states) in
    let own = sum_by-cons (λ (t : State Cost). length t.arcs) s states in
    let on = sum_by-cons (λ (t : State Cost). length (onward t.final target)) s states in
    let rest = arc_total-carried k keeps target states in
    let both = length-append (map (renamed (λ p. k + p)) s.arcs) (onward s.final target) in
    let same = length-map s.arcs (renamed {N = ℕ} {M = ℕ} (λ p. k + p)) in
    omega (arith, all, own, on, rest, both, same)

-- none where there is nowhere to go
pub goings-none : (states : List (State Cost)) → goings None states ≡ 0
goings-none [] = refl
goings-none (s ∷ states) =
    let all = sum_by-cons (λ (t : State Cost). length (onward t.final None)) s states in
    omega (arith, all, goings-none states)

-- ---- what the arcs are

-- the arcs that go on are good
pub onward-good : (n : ℕ) (w : Cost) (target : Option ℕ) → IfSome target (λ c. c < n) → All (IsArc (λ v. v) n) (onward w target)
onward-good n w None low = All-nil (IsArc (λ v. v) n)
onward-good n best (Some c) low = All-cons (IsArc (λ v. v) n) (epsilon_arc best c) [] (record { ilabel = omega arith; olabel = omega arith; weight = (λ e. absurd (cc)); next = low }) (All-nil (IsArc (λ v. v) n))
onward-good n (finite x y) (Some c) low = All-cons (IsArc (λ v. v) n) (epsilon_arc (finite x y) c) [] (record { ilabel = omega arith; olabel = omega arith; weight = (λ e. absurd (cc)); next = low }) (All-nil (IsArc (λ v. v) n))
onward-good n infinite (Some c) low = All-nil (IsArc (λ v. v) n)

-- the arcs of carried states are good
pub carried-good : (a : Machine Cost) (k : ℕ) (keeps : Bool) (target : Option ℕ) (n : ℕ) → IsMachine (λ v. v) a → k + length a.states ≤ n → IfSome target (λ c. c < n) → All (λ s. All (IsArc (λ v. v) n) s.arcs) (map (carried k keeps target) a.states)
carried-good a k keeps target n h room low =
    All-map (λ s. All (IsArc (λ v. v) n) s.arcs) (carried k keeps target) a.states
    (All-weaker (λ s. All (IsArc (λ v. v) (length a.states)) s.arcs) (λ s. All (IsArc (λ v. v) n) (carried k keeps target s).arcs)
    (λ s good. All-append (IsArc (λ v. v) n) (map (renamed (λ p. k + p)) s.arcs) (onward s.final target)
    (All-map (IsArc (λ v. v) n) (renamed (λ p. k + p)) s.arcs (All-weaker (IsArc (λ v. v) (length a.states)) (λ b. IsArc (λ v. v) n (renamed (λ p. k + p) b)) (λ b i. record { ilabel = i.ilabel; olabel = i.olabel; weight = i.weight; next = omega (arith, i.next, room) }) s.arcs good))
    (onward-good n s.final target low))
    a.states h.arcs)
