-- Expansions by those of the rules that are called, and their sizes.
use Rattle.std.proofs.Common.{◌≡◌, inl, inr, ℕ, ◌+◌, zero, suc, false, List, [], ◌∷◌, ◌++◌, Option, None, Some, length, map, sum_by, refl, sym, ap, ap₂, ◌∙◌, subst, arith}
use Rattle.std.proofs.lemmas.List.{length-append, length-map, map-append}
use Rattle.std.proofs.lemmas.List.Sums.{sum_by-cons, sum_by-append}
use Rattle.fst_semiring.specs.Cost.{Cost, best, finite, infinite}
use Rattle.fst_machine.specs.BreadthFirst.{Has}
use Rattle.fst_machine.specs.Machine.{Arc, State, Machine, arc_total}
use Rattle.fst_machine.specs.Continuing.{leaving}
use Rattle.fst_machine.proofs.Elements.{Has-append_left, Has-append_right}
use Rattle.fst_rational.specs.Changing.{goings, onward}
use Rattle.fst_rational.specs.Constructions.{carried}
use Rattle.fst_rational.specs.Limits.{start_count}
use Rattle.fst_rational.proofs.Blocks.{arc_total-carried}
use Rattle.fst_replace.specs.Calls.{Calling, arcs_of, call_of, called, calling, calls_in, rules_in}
use Rattle.fst_replace.specs.Rules.{Labelled, labels_of, machine_at, place_of}
use Rattle.fst_replace.specs.Expansion.{Shape, blocks, blocks_size, entered, entered_by, entered_states, entry, expanded, expansion, shape_of}
use Rattle.fst_replace.specs.Totals.{brings}
use Rattle.fst_replace.proofs.Calling.{calls_in-append}
use Rattle.fst_replace.proofs.Settling.{Settled}

-- the rules of two lists of calls
pub rules_left : (xs ys : List Calling) (r : ℕ) → Has (rules_in xs) r → Has (rules_in (xs ++ ys)) r
rules_left xs ys r h = subst (λ zs. Has zs r) (sym (map-append (λ (c : Calling). c.rule) xs ys)) (Has-append_left (rules_in xs) (rules_in ys) r h)

pub rules_right : (xs ys : List Calling) (r : ℕ) → Has (rules_in ys) r → Has (rules_in (xs ++ ys)) r
rules_right xs ys r h = subst (λ zs. Has zs r) (sym (map-append (λ (c : Calling). c.rule) xs ys)) (Has-append_right (rules_in xs) (rules_in ys) r h)

module _ (labels : List ℕ) (s t : ℕ → Shape) where
  pub size_same : (calls : List Calling) → ((r : ℕ) → Has (rules_in calls) r → s r ≡ t r) → blocks_size labels s calls ≡ blocks_size labels t calls
  size_same [] same = refl
  size_same (c ∷ calls) same =
      sum_by-cons (λ (c : Calling). (s c.rule).size) c calls
      ∙ (ap₂ (◌+◌) (ap (λ (z : Shape). z.size) (same c.rule (inl refl))) (size_same calls (λ r h. same r (inr h)))
      ∙ sym (sum_by-cons (λ (c : Calling). (t c.rule).size) c calls))

  by_same : (q : ℕ) (a : Arc Cost ℕ) (o : Option ℕ) → ((r : ℕ) → Has (rules_in (calling o a.next)) r → s r ≡ t r) → entered_by s q a o ≡ entered_by t q a o
  by_same q a None same = refl
  by_same q a (Some r) same = ap (λ (z : Shape). entry a.weight q z.start) (same r (inl refl))

  pub entered_same : (q : ℕ) (arcs : List (Arc Cost ℕ)) → ((r : ℕ) → Has (rules_in (calls_in labels arcs)) r → s r ≡ t r) → entered labels s q arcs ≡ entered labels t q arcs
  entered_same q [] same = refl
  entered_same q (a ∷ arcs) same =
      let here = λ (r : ℕ) (h : Has (rules_in (call_of labels a)) r). same r (rules_left (call_of labels a) (calls_in labels arcs) r h) in
      let there = λ (r : ℕ) (h : Has (rules_in (calls_in labels arcs)) r). same r (rules_right (call_of labels a) (calls_in labels arcs) r h) in
      ap₂ (◌++◌) (by_same q a (place_of labels a.olabel) here) (ap (λ (n : ℕ). entered labels s (q + n) arcs) (size_same (call_of labels a) here) ∙ entered_same (q + blocks_size labels t (call_of labels a)) arcs there)

  pub states_same : (q : ℕ) (states : List (State Cost)) → ((r : ℕ) → Has (rules_in (calls_in labels (arcs_of states))) r → s r ≡ t r) → entered_states labels s q states ≡ entered_states labels t q states
  states_same q [] same = refl
  states_same q (z ∷ states) same =
      let cut = calls_in-append labels z.arcs (arcs_of states) in
      let here = λ (r : ℕ) (h : Has (rules_in (calls_in labels z.arcs)) r). same r (subst (λ cs. Has (rules_in cs) r) (sym cut) (rules_left (calls_in labels z.arcs) (calls_in labels (arcs_of states)) r h)) in
      let there = λ (r : ℕ) (h : Has (rules_in (calls_in labels (arcs_of states))) r). same r (subst (λ cs. Has (rules_in cs) r) (sym cut) (rules_right (calls_in labels z.arcs) (calls_in labels (arcs_of states)) r h)) in
      ap₂ (◌∷◌) (ap (λ arcs. record { final = z.final; arcs = arcs }) (entered_same q z.arcs here)) (ap (λ (n : ℕ). entered_states labels s (q + n) states) (size_same (calls_in labels z.arcs) here) ∙ states_same (q + blocks_size labels t (calls_in labels z.arcs)) states there)

blocks_same : (m n : ℕ → Machine Cost) (q : ℕ) (calls : List Calling) → ((r : ℕ) → Has (rules_in calls) r → m r ≡ n r) → blocks m q calls ≡ blocks n q calls
blocks_same m n q [] same = refl
blocks_same m n q (c ∷ calls) same =
    let here = same c.rule (inl refl) in
    ap₂ (◌++◌) (ap (λ (a : Machine Cost). map (carried q false (Some c.next)) a.states) here) (ap (λ (a : Machine Cost). blocks m (q + length a.states) calls) here ∙ blocks_same m n (q + length (n c.rule).states) calls (λ r h. same r (inr h)))

-- an expansion goes by the machines that are called
pub expanded_same : (labels : List ℕ) (m n : ℕ → Machine Cost) (a : Machine Cost) → ((r : ℕ) → Has (rules_in (calls_in labels (arcs_of a.states))) r → m r ≡ n r) → expanded labels m a ≡ expanded labels n a
expanded_same labels m n a same =
    let states = ap₂ (◌++◌) (states_same labels (λ r. shape_of (m r)) (λ r. shape_of (n r)) (length a.states) a.states (λ r h. ap shape_of (same r h))) (blocks_same m n (length a.states) (calls_in labels (arcs_of a.states)) same) in
    λ i. record { start = a.start; states = states i }

-- where calls come to an end, deeper calls change nothing
pub expansion_stays : (rules : List (Labelled Cost)) (k i : ℕ) → Settled (called rules) k i → expansion rules k i ≡ expansion rules (suc k) i
expansion_stays rules zero i h = absurd h
expansion_stays rules (suc k) i h = expanded_same (labels_of rules) (expansion rules k) (expansion rules (suc k)) (machine_at rules i) (λ r has. expansion_stays rules k r (h r has))

-- ---- how many states there are

pub states_length : (labels : List ℕ) (s : ℕ → Shape) (q : ℕ) (states : List (State Cost)) → length (entered_states labels s q states) ≡ length states
states_length labels s q [] = refl
states_length labels s q (z ∷ states) = ap suc (states_length labels s (q + blocks_size labels s (calls_in labels z.arcs)) states)

pub blocks_length : (labels : List ℕ) (m : ℕ → Machine Cost) (q : ℕ) (calls : List Calling) → length (blocks m q calls) ≡ blocks_size labels (λ r. shape_of (m r)) calls
blocks_length labels m q [] = refl
blocks_length labels m q (c ∷ calls) =
    let all = sum_by-cons (λ (c : Calling). length (m c.rule).states) c calls in
    omega (arith, all, length-append (map (carried q false (Some c.next)) (m c.rule).states) (blocks m (q + length (m c.rule).states) calls), length-map (m c.rule).states (carried q false (Some c.next)), blocks_length labels m (q + length (m c.rule).states) calls)

pub sum_rules : (f : ℕ → ℕ) (calls : List Calling) → sum_by (λ (c : Calling). f c.rule) calls ≡ sum_by f (rules_in calls)
sum_rules f [] = refl
sum_rules f (c ∷ calls) = sum_by-cons (λ (c : Calling). f c.rule) c calls ∙ (ap (λ (n : ℕ). f c.rule + n) (sum_rules f calls) ∙ sym (sum_by-cons f c.rule (rules_in calls)))

pub expanded_length : (labels : List ℕ) (m : ℕ → Machine Cost) (a : Machine Cost) → length (expanded labels m a).states ≡ length a.states + sum_by (λ j. length (m j).states) (rules_in (calls_in labels (arcs_of a.states)))
expanded_length labels m a =
    let calls = calls_in labels (arcs_of a.states) in
    let own = states_length labels (λ r. shape_of (m r)) (length a.states) a.states in
    let rest = blocks_length labels m (length a.states) calls in
    let sums = sum_rules (λ j. length (m j).states) calls in
    omega (arith, own, rest, sums, length-append (entered_states labels (λ r. shape_of (m r)) (length a.states) a.states) (blocks m (length a.states) calls))

-- ---- how many arcs there are

abbrev pub entries : (ℕ → Shape) → List Calling → ℕ
entries s calls = sum_by (λ (c : Calling). start_count (s c.rule).start) calls

entry_length : (w : Cost) (q : ℕ) (o : Option ℕ) → length (entry w q o) ≡ start_count o
entry_length w q None = refl
entry_length w q (Some x) = refl

by_length : (s : ℕ → Shape) (q : ℕ) (a : Arc Cost ℕ) (o : Option ℕ) → length (entered_by s q a o) + length (calling o a.next) ≡ 1 + entries s (calling o a.next)
by_length s q a None = refl
by_length s q a (Some r) =
    let all = sum_by-cons (λ (c : Calling). start_count (s c.rule).start) (record { rule = r; next = a.next }) [] in
    omega (arith, all, entry_length a.weight q (s r).start)

entries_append : (s : ℕ → Shape) (xs ys : List Calling) → entries s (xs ++ ys) ≡ entries s xs + entries s ys
entries_append s xs ys = sum_by-append (λ (c : Calling). start_count (s c.rule).start) xs ys

entered_length : (labels : List ℕ) (s : ℕ → Shape) (q : ℕ) (arcs : List (Arc Cost ℕ)) → length (entered labels s q arcs) + length (calls_in labels arcs) ≡ length arcs + entries s (calls_in labels arcs)
entered_length labels s q [] = refl
entered_length labels s q (a ∷ arcs) =
    let here = by_length s q a (place_of labels a.olabel) in
    let rest = entered_length labels s (q + blocks_size labels s (call_of labels a)) arcs in
    omega (arith, here, rest, length-append (entered_by s q a (place_of labels a.olabel)) (entered labels s (q + blocks_size labels s (call_of labels a)) arcs), length-append (call_of labels a) (calls_in labels arcs), entries_append s (call_of labels a) (calls_in labels arcs))

states_arcs : (labels : List ℕ) (s : ℕ → Shape) (q : ℕ) (states : List (State Cost)) → arc_total (entered_states labels s q states) + length (calls_in labels (arcs_of states)) ≡ arc_total states + entries s (calls_in labels (arcs_of states))
states_arcs labels s q [] = refl
states_arcs labels s q (z ∷ states) =
    let here = entered_length labels s q z.arcs in
    let rest = states_arcs labels s (q + blocks_size labels s (calls_in labels z.arcs)) states in
    let cut = calls_in-append labels z.arcs (arcs_of states) in
    let size = ap length cut in
    let counts = ap (entries s) cut in
    let new = sum_by-cons (λ (t : State Cost). length t.arcs) (record { final = z.final; arcs = entered labels s q z.arcs }) (entered_states labels s (q + blocks_size labels s (calls_in labels z.arcs)) states) in
    let old = sum_by-cons (λ (t : State Cost). length t.arcs) z states in
    omega (arith, here, rest, size, counts, new, old, length-append (calls_in labels z.arcs) (calls_in labels (arcs_of states)), entries_append s (calls_in labels z.arcs) (calls_in labels (arcs_of states)))

leaving_length : (w : Cost) (c d : ℕ) → length (leaving w c) ≡ length (leaving w d)
leaving_length best c d = refl
leaving_length (finite x y) c d = refl
leaving_length infinite c d = refl

goings_same : (c d : ℕ) (states : List (State Cost)) → goings (Some c) states ≡ goings (Some d) states
goings_same c d [] = refl
goings_same c d (z ∷ states) =
    let one = sum_by-cons (λ (t : State Cost). length (onward t.final (Some c))) z states in
    let two = sum_by-cons (λ (t : State Cost). length (onward t.final (Some d))) z states in
    omega (arith, one, two, leaving_length z.final c d, goings_same c d states)

blocks_arcs : (m : ℕ → Machine Cost) (q : ℕ) (calls : List Calling) → arc_total (blocks m q calls) ≡ sum_by (λ (c : Calling). goings (Some 0) (m c.rule).states + arc_total (m c.rule).states) calls
blocks_arcs m q [] = refl
blocks_arcs m q (c ∷ calls) =
    let all = sum_by-cons (λ (c : Calling). goings (Some 0) (m c.rule).states + arc_total (m c.rule).states) c calls in
    let one = arc_total-carried q false (Some c.next) (m c.rule).states in
    let same = goings_same c.next 0 (m c.rule).states in
    let both = sum_by-append (λ (t : State Cost). length t.arcs) (map (carried q false (Some c.next)) (m c.rule).states) (blocks m (q + length (m c.rule).states) calls) in
    omega (arith, all, one, same, both, blocks_arcs m (q + length (m c.rule).states) calls)

sums_together : (f g h : Calling → ℕ) → ((c : Calling) → h c ≡ f c + g c) → (calls : List Calling) → sum_by h calls ≡ sum_by f calls + sum_by g calls
sums_together f g h is [] = refl
sums_together f g h is (c ∷ calls) =
    let one = sum_by-cons f c calls in
    let two = sum_by-cons g c calls in
    let all = sum_by-cons h c calls in
    omega (arith, one, two, all, is c, sums_together f g h is calls)

-- what a call brings of a machine, and the arcs of its expansion
pub expanded_arcs : (labels : List ℕ) (m : ℕ → Machine Cost) (a : Machine Cost) → arc_total (expanded labels m a).states + length (rules_in (calls_in labels (arcs_of a.states))) ≡ arc_total a.states + sum_by (λ j. brings (m j) + arc_total (m j).states) (rules_in (calls_in labels (arcs_of a.states)))
expanded_arcs labels m a =
    let calls = calls_in labels (arcs_of a.states) in
    let own = states_arcs labels (λ r. shape_of (m r)) (length a.states) a.states in
    let rest = blocks_arcs m (length a.states) calls in
    let both = sum_by-append (λ (t : State Cost). length t.arcs) (entered_states labels (λ r. shape_of (m r)) (length a.states) a.states) (blocks m (length a.states) calls) in
    let size = length-map calls (λ (c : Calling). c.rule) in
    let sums = sum_rules (λ j. brings (m j) + arc_total (m j).states) calls in
    let parts = sums_together (λ c. start_count (m c.rule).start) (λ c. goings (Some 0) (m c.rule).states + arc_total (m c.rule).states) (λ c. brings (m c.rule) + arc_total (m c.rule).states) (λ c. omega arith) calls in
    omega (arith, own, rest, both, size, sums, parts)

-- the final states of an expansion are its own
finals_own : (labels : List ℕ) (s : ℕ → Shape) (q : ℕ) (states : List (State Cost)) → goings (Some 0) (entered_states labels s q states) ≡ goings (Some 0) states
finals_own labels s q [] = refl
finals_own labels s q (z ∷ states) =
    let one = sum_by-cons (λ (t : State Cost). length (onward t.final (Some 0))) (record { final = z.final; arcs = entered labels s q z.arcs }) (entered_states labels s (q + blocks_size labels s (calls_in labels z.arcs)) states) in
    let two = sum_by-cons (λ (t : State Cost). length (onward t.final (Some 0))) z states in
    omega (arith, one, two, finals_own labels s (q + blocks_size labels s (calls_in labels z.arcs)) states)

finals_block : (q : ℕ) (target : Option ℕ) (states : List (State Cost)) → goings (Some 0) (map (carried q false target) states) ≡ 0
finals_block q target [] = refl
finals_block q target (z ∷ states) =
    let all = sum_by-cons (λ (t : State Cost). length (onward t.final (Some 0))) (carried q false target z) (map (carried q false target) states) in
    omega (arith, all, finals_block q target states)

finals_blocks : (m : ℕ → Machine Cost) (q : ℕ) (calls : List Calling) → goings (Some 0) (blocks m q calls) ≡ 0
finals_blocks m q [] = refl
finals_blocks m q (c ∷ calls) =
    let both = sum_by-append (λ (t : State Cost). length (onward t.final (Some 0))) (map (carried q false (Some c.next)) (m c.rule).states) (blocks m (q + length (m c.rule).states) calls) in
    omega (arith, both, finals_block q (Some c.next) (m c.rule).states, finals_blocks m (q + length (m c.rule).states) calls)

-- so a call of an expansion brings what a call of its machine does
pub expanded_brings : (labels : List ℕ) (m : ℕ → Machine Cost) (a : Machine Cost) → brings (expanded labels m a) ≡ brings a
expanded_brings labels m a =
    let both = sum_by-append (λ (t : State Cost). length (onward t.final (Some 0))) (entered_states labels (λ r. shape_of (m r)) (length a.states) a.states) (blocks m (length a.states) (calls_in labels (arcs_of a.states))) in
    omega (arith, both, finals_own labels (λ r. shape_of (m r)) (length a.states) a.states, finals_blocks m (length a.states) (calls_in labels (arcs_of a.states)))
