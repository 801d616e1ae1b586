-- Expansions are machines.
use Rattle.std.proofs.Common.{◌⊎◌, inl, inr, ℕ, ◌+◌, ◌<◌, ◌≤◌, zero, suc, false, List, [], ◌∷◌, ◌++◌, Option, None, Some, length, map, refl, ap, subst, arith}
use Rattle.std.specs.Prelude.{IfSome}
use Rattle.std.specs.List.{All}
use Rattle.std.proofs.lemmas.List.{length-append}
use Rattle.std.proofs.lemmas.List.Elements.{All-append, All-cons, All-map, All-nil, All-weaker, All-head, All-tail}
use Rattle.fst_semiring.specs.Cost.{Cost}
use Rattle.fst_machine.specs.BreadthFirst.{Has}
use Rattle.fst_machine.specs.Machine.{Arc, State, Machine, IsArc, IsMachine}
use Rattle.fst_rational.specs.Constructions.{carried}
use Rattle.fst_replace.specs.Calls.{Calling, arcs_of, call_of, calling, calls_in}
use Rattle.fst_replace.specs.Expansion.{blocks, blocks_size, entered, entered_by, entered_states, entry, expanded, expansion, shape_of}
use Rattle.fst_machine.specs.Graph.{renamed}
use Rattle.fst_rational.specs.Changing.{onward}
use Rattle.fst_rational.proofs.Blocks.{onward-good}
use Rattle.fst_machine.proofs.Elements.{Has-append_cases}
use Rattle.std.proofs.lemmas.List.Sums.{sum_by-cons}
use Rattle.fst_replace.specs.Rules.{Labelled, labels_of, machine_at, place_of}
use Rattle.fst_replace.proofs.Calling.{calls_in-append}
use Rattle.fst_replace.proofs.Emitting.{size-append}
use Rattle.fst_replace.proofs.Expanding.{blocks_length, states_length}

-- the arcs of all these states lead to one of so many
abbrev pub Good : ℕ → List (State Cost) → Type 0
Good n states = All (λ (s : State Cost). All (IsArc (λ v. v) n) s.arcs) states

pub record GoodMachine (m : Machine Cost) : Type 0 where
  pub arcs : Good (length m.states) m.states
  pub start : IfSome m.start (λ s. s < length m.states)

arc_weaker : (k n : ℕ) (a : Arc Cost ℕ) → k ≤ n → IsArc (λ v. v) k a → IsArc (λ v. v) n a
arc_weaker k n a low h = record { ilabel = h.ilabel; olabel = h.olabel; weight = h.weight; next = omega (arith, h.next, low) }

module _ (labels : List ℕ) (m : ℕ → Machine Cost) (good : (r : ℕ) → GoodMachine (m r)) (k n : ℕ) (low : k ≤ n) where
  entry_good : (a : Arc Cost ℕ) (q size : ℕ) (o : Option ℕ) → IsArc (λ v. v) k a → IfSome o (λ s. s < size) → q + size ≤ n → All (IsArc (λ v. v) n) (entry a.weight q o)
  entry_good a q size None h start room = All-nil (IsArc (λ v. v) n)
  entry_good a q size (Some s) h start room = All-cons (IsArc (λ v. v) n) (record { ilabel = 0; olabel = 0; weight = a.weight; next = q + s }) [] (record { ilabel = omega arith; olabel = omega arith; weight = h.weight; next = omega (arith, start, room) }) (All-nil (IsArc (λ v. v) n))

  by_good : (a : Arc Cost ℕ) (q : ℕ) (o : Option ℕ) → IsArc (λ v. v) k a → q + blocks_size labels (λ r. shape_of (m r)) (calling o a.next) ≤ n → All (IsArc (λ v. v) n) (entered_by (λ r. shape_of (m r)) q a o)
  by_good a q None h room = All-cons (IsArc (λ v. v) n) a [] (arc_weaker k n a low h) (All-nil (IsArc (λ v. v) n))
  by_good a q (Some r) h room =
      let all = sum_by-cons (λ (c : Calling). length (m c.rule).states) (record { rule = r; next = a.next }) [] in
      entry_good a q (length (m r).states) (m r).start h (good r).start (omega (arith, all, room))

  entered_good : (q : ℕ) (arcs : List (Arc Cost ℕ)) → All (IsArc (λ v. v) k) arcs → q + blocks_size labels (λ r. shape_of (m r)) (calls_in labels arcs) ≤ n → All (IsArc (λ v. v) n) (entered labels (λ r. shape_of (m r)) q arcs)
  entered_good q [] h room = All-nil (IsArc (λ v. v) n)
  entered_good q (a ∷ arcs) h room =
      let both = size-append labels (λ r. shape_of (m r)) (call_of labels a) (calls_in labels arcs) in
      All-append (IsArc (λ v. v) n) (entered_by (λ r. shape_of (m r)) q a (place_of labels a.olabel)) (entered labels (λ r. shape_of (m r)) (q + blocks_size labels (λ r. shape_of (m r)) (call_of labels a)) arcs)
      (by_good a q (place_of labels a.olabel) (All-head (IsArc (λ v. v) k) a arcs h) (omega (arith, both, room)))
      (entered_good (q + blocks_size labels (λ r. shape_of (m r)) (call_of labels a)) arcs (All-tail (IsArc (λ v. v) k) a arcs h) (omega (arith, both, room)))

  states_good : (q : ℕ) (states : List (State Cost)) → Good k states → q + blocks_size labels (λ r. shape_of (m r)) (calls_in labels (arcs_of states)) ≤ n → Good n (entered_states labels (λ r. shape_of (m r)) q states)
  states_good q [] h room = All-nil (λ (s : State Cost). All (IsArc (λ v. v) n) s.arcs)
  states_good q (z ∷ states) h room =
      let cut = ap (blocks_size labels (λ r. shape_of (m r))) (calls_in-append labels z.arcs (arcs_of states)) in
      let both = size-append labels (λ r. shape_of (m r)) (calls_in labels z.arcs) (calls_in labels (arcs_of states)) in
      All-cons (λ (s : State Cost). All (IsArc (λ v. v) n) s.arcs) (record { final = z.final; arcs = entered labels (λ r. shape_of (m r)) q z.arcs }) (entered_states labels (λ r. shape_of (m r)) (q + blocks_size labels (λ r. shape_of (m r)) (calls_in labels z.arcs)) states)
      (entered_good q z.arcs (All-head (λ (s : State Cost). All (IsArc (λ v. v) k) s.arcs) z states h) (omega (arith, cut, both, room)))
      (states_good (q + blocks_size labels (λ r. shape_of (m r)) (calls_in labels z.arcs)) states (All-tail (λ (s : State Cost). All (IsArc (λ v. v) k) s.arcs) z states h) (omega (arith, cut, both, room)))

  block_good : (q t : ℕ) (a : Machine Cost) → Good (length a.states) a.states → q + length a.states ≤ n → t < n → Good n (map (carried q false (Some t)) a.states)
  block_good q t a h room target =
      All-map (λ (s : State Cost). All (IsArc (λ v. v) n) s.arcs) (carried q false (Some t)) a.states
      (All-weaker (λ (s : State Cost). All (IsArc (λ v. v) (length a.states)) s.arcs) (λ s. All (IsArc (λ v. v) n) (carried q false (Some t) s).arcs)
      (λ s fine. All-append (IsArc (λ v. v) n) (map (renamed (λ p. q + p)) s.arcs) (onward s.final (Some t))
      (All-map (IsArc (λ v. v) n) (renamed (λ p. q + p)) s.arcs (All-weaker (IsArc (λ v. v) (length a.states)) (λ b. IsArc (λ v. v) n (renamed (λ p. q + p) b)) (λ b i. record { ilabel = i.ilabel; olabel = i.olabel; weight = i.weight; next = omega (arith, i.next, room) }) s.arcs fine))
      (onward-good n s.final (Some t) target))
      a.states h)

  blocks_good : (q : ℕ) (calls : List Calling) → ((c : Calling) → Has calls c → c.next < n) → q + blocks_size labels (λ r. shape_of (m r)) calls ≤ n → Good n (blocks m q calls)
  blocks_good q [] next room = All-nil (λ (s : State Cost). All (IsArc (λ v. v) n) s.arcs)
  blocks_good q (c ∷ calls) next room =
      let all = sum_by-cons (λ (c : Calling). length (m c.rule).states) c calls in
      All-append (λ (s : State Cost). All (IsArc (λ v. v) n) s.arcs) (map (carried q false (Some c.next)) (m c.rule).states) (blocks m (q + length (m c.rule).states) calls)
      (block_good q c.next (m c.rule) (good c.rule).arcs (omega (arith, all, room)) (next c (inl refl)))
      (blocks_good (q + length (m c.rule).states) calls (λ d h. next d (inr h)) (omega (arith, all, room)))

-- a call goes on where its arc led
calling_next : (o : Option ℕ) (t n : ℕ) → t < n → (c : Calling) → Has (calling o t) c → c.next < n
calling_next None t n low c h = absurd h
calling_next (Some r) t n low c (inl e) = subst (λ (z : Calling). z.next < n) e low
calling_next (Some r) t n low c (inr none) = absurd none

calls_next : (labels : List ℕ) (n : ℕ) (arcs : List (Arc Cost ℕ)) → All (IsArc (λ v. v) n) arcs → (c : Calling) → Has (calls_in labels arcs) c → c.next < n
calls_next labels n [] h c has = absurd has
calls_next labels n (a ∷ arcs) h c has = by_part (calls_next labels n arcs (All-tail (IsArc (λ v. v) n) a arcs h) c) (Has-append_cases (call_of labels a) (calls_in labels arcs) c has)
  where
    by_part : (Has (calls_in labels arcs) c → c.next < n) → Has (call_of labels a) c ⊎ Has (calls_in labels arcs) c → c.next < n
    by_part more (inl k) = calling_next (place_of labels a.olabel) a.next n (All-head (IsArc (λ v. v) n) a arcs h).next c k
    by_part more (inr k) = more k

arcs_good : (n : ℕ) (states : List (State Cost)) → Good n states → All (IsArc (λ v. v) n) (arcs_of states)
arcs_good n [] h = All-nil (IsArc (λ v. v) n)
arcs_good n (z ∷ states) h = All-append (IsArc (λ v. v) n) z.arcs (arcs_of states) (All-head (λ (s : State Cost). All (IsArc (λ v. v) n) s.arcs) z states h) (arcs_good n states (All-tail (λ (s : State Cost). All (IsArc (λ v. v) n) s.arcs) z states h))

start_more : (o : Option ℕ) (k n : ℕ) → k ≤ n → IfSome o (λ s. s < k) → IfSome o (λ s. s < n)
start_more None k n low h = h
start_more (Some s) k n low h = omega (arith, low, h)

expanded_good : (labels : List ℕ) (m : ℕ → Machine Cost) (a : Machine Cost) → ((r : ℕ) → GoodMachine (m r)) → IsMachine (λ v. v) a → GoodMachine (expanded labels m a)
expanded_good labels m a good h =
    let calls = calls_in labels (arcs_of a.states) in
    let k = length a.states in
    let s = λ (r : ℕ). shape_of (m r) in
    let own = states_length labels s k a.states in
    let rest = blocks_length labels m k calls in
    let both = length-append (entered_states labels s k a.states) (blocks m k calls) in
    let n = length (entered_states labels s k a.states ++ blocks m k calls) in
    let low : k ≤ n = omega (arith, own, both) in
    let room : k + blocks_size labels s calls ≤ n = omega (arith, own, rest, both) in
    record {
      arcs = All-append (λ (z : State Cost). All (IsArc (λ v. v) n) z.arcs) (entered_states labels s k a.states) (blocks m k calls) (states_good labels m good k n low k a.states h.arcs room) (blocks_good labels m good k n low k calls (λ c has. let next = calls_next labels k (arcs_of a.states) (arcs_good k a.states h.arcs) c has in omega (arith, next, low)) room);
      start = start_more a.start k n low h.start;
    }

pub expansion_good : (rules : List (Labelled Cost)) → ((i : ℕ) → IsMachine (λ v. v) (machine_at rules i)) → (k i : ℕ) → GoodMachine (expansion rules k i)
expansion_good rules h zero i = record { arcs = All-nil (λ (s : State Cost). All (IsArc (λ v. v) 0) s.arcs); start = tt }
expansion_good rules h (suc k) i = expanded_good (labels_of rules) (expansion rules k) (machine_at rules i) (expansion_good rules h k) (h i)
