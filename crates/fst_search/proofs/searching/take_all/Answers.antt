use Rattle.std.proofs.Common.{◌≡◌, ◌⊎◌, ◌+◌, ◌<◌, ℕ, List, length, map, set, get_or, sym, ◌∙◌, subst, arith}
use Rattle.std.proofs.lemmas.List.{length-map}
use Rattle.fst_semiring.specs.Cost.{Cost}
use Rattle.fst_machine.specs.BreadthFirst.{Has}
use Rattle.fst_search.specs.Hops.{IsHop}
use Rattle.fst_search.specs.Searching.{Node, Searching, distance_at, link_at, valued_node}
use Rattle.fst_search.specs.Trying.{left}
use Rattle.fst_search.proofs.Nodes.{left_few, turn_written}
use Rattle.fst_search.proofs.Taking.{taking, taking_left, taking_turn}
use Rattle.fst_search.proofs.searching.take_all.Given.{Over}
use Rattle.fst_search.proofs.searching.take_all.Goals.{After-behind-table}
use Rattle.fst_search.proofs.searching.take_all.Goals as goal

-- the nodes before a state is taken, and behind that
abbrev nodes : (g : Over) → After-behind-table g → List (Node Cost)
nodes g c = map (valued_node g.W.Weight.wide_value) c.loop-state.table.nodes.items

abbrev turned : (g : Over) → After-behind-table g → List (Node Cost)
turned g c = map (valued_node g.W.Weight.wide_value) (set c.loop-state.table.nodes.items c.in-Some.state (record { distance = c.behind-table.inside.distance; link = c.behind-table.inside.link; turn = c.args.mark }))

-- the search before a state is taken, from this source
abbrev Before : (g : Over) → After-behind-table g → (ℕ → Cost) → ℕ → ℕ → Type 0
Before g c source k takes = Searching g.W.Weight.KIND (IsHop g.M.AsMachine.value c.args.marks.now c.args.links.now) source (length c.args.links.now) g.M.Widens.bound k c.args.mark (takes + c.loop-state.taken) (Has (g.Q.StateQueue.members c.loop-state.queue)) (nodes g c) (g.Q.StateQueue.members c.loop-state.queue) c.loop-state.table.later.items c.loop-state.table.met.items

-- the state that is taken has its turn
wrote : (g : Over) (c : After-behind-table g) → turned g c ≡ set (nodes g c) c.in-Some.state (record { distance = distance_at (nodes g c) c.in-Some.state; link = link_at (nodes g c) c.in-Some.state; turn = c.args.mark })
wrote g c =
    let value = g.W.Weight.wide_value in
    let items = c.loop-state.table.nodes.items in
    let s = c.loop-state.invariant.some.4 in
    let state = c.in-Some.state in
    let node : Node g.row.W-Wide.Denot = record { distance = c.behind-table.inside.distance; link = c.behind-table.inside.link; turn = c.behind-table.inside.turn } in
    let low : state < length items = (let below = s.marked.met_low state (s.marked.members_met state c.in-Some.ensures.takes.0) in let size = s.marked.size in let same = length-map items (valued_node value) in omega arith) in
    let is : node ≡ get_or items state node = subst (λ (z : Node g.row.W-Wide.Denot). z ≡ get_or items state z) (sym c.behind-table.view_is) c.index_mut.ensures.value in
    turn_written value items state c.args.mark node low is

-- with its turn it is taken
takes_on : (g : Over) (c : After-behind-table g) (source : ℕ → Cost) (k takes : ℕ) → Before g c source k takes
    → Searching g.W.Weight.KIND (IsHop g.M.AsMachine.value c.args.marks.now c.args.links.now) source (length c.args.links.now) g.M.Widens.bound k c.args.mark (takes + c.loop-state.taken) (λ q. Has (g.Q.StateQueue.members c.take.new.self) q ⊎ (q ≡ c.in-Some.state)) (turned g c) (g.Q.StateQueue.members c.take.new.self) c.loop-state.table.later.items c.loop-state.table.met.items
takes_on g c source k takes t =
    taking g.W.Weight.KIND (IsHop g.M.AsMachine.value c.args.marks.now c.args.links.now) source (length c.args.links.now) g.M.Widens.bound k c.args.mark (takes + c.loop-state.taken) c.in-Some.state (nodes g c) _ (g.Q.StateQueue.members c.loop-state.queue) (g.Q.StateQueue.members c.take.new.self) c.loop-state.table.later.items c.loop-state.table.met.items
    c.in-Some.ensures.takes (wrote g c) t.marked t.tentative t.round

-- and one state less waits for its turn
fewer_left : (g : Over) (c : After-behind-table g) → left c.args.mark (turned g c) + 1 ≡ left c.args.mark (nodes g c)
fewer_left g c =
    let s = c.loop-state.invariant.some in
    taking_left g.W.Weight.KIND (IsHop g.M.AsMachine.value c.args.marks.now c.args.links.now) s.0 (length c.args.links.now) g.M.Widens.bound s.1 c.args.mark (s.2 + c.loop-state.taken) c.in-Some.state (nodes g c) _ (g.Q.StateQueue.members c.loop-state.queue) (g.Q.StateQueue.members c.take.new.self) c.loop-state.table.later.items c.loop-state.table.met.items
    c.in-Some.ensures.takes (wrote g c) s.4.marked

pub loop-state-init : goal.loop-state-init
loop-state-init g c =
    let b = c.requires.begun in
    let goes = IsHop g.M.AsMachine.value c.args.marks.now c.args.links.now in
    let n = length c.args.links.now in
    let nodes = map (valued_node g.W.Weight.wide_value) c.args.table.now.nodes.items in
    let members = g.Q.StateQueue.members c.args.queue.now in
    let more = λ (source : ℕ → Cost) (k takes : ℕ) (s : Searching g.W.Weight.KIND goes source n g.M.Widens.bound k c.args.mark takes (Has members) nodes members c.args.table.now.later.items c.args.table.now.met.items).
    (let e : takes ≡ takes + 0 = omega arith in
    subst (λ (t : ℕ). Searching g.W.Weight.KIND goes source n g.M.Widens.bound k c.args.mark t (Has members) nodes members c.args.table.now.later.items c.args.table.now.met.items) e s) in
    record {
      some = (b.0, b.1, b.2, b.3, more b.0 b.1 b.2 b.4);
      every = more;
      left = let few = left_few c.args.mark nodes in let size = b.4.marked.size in omega arith;
    }

pub read_ahead-table-requires : goal.read_ahead-table-requires
read_ahead-table-requires g c =
    let s = c.loop-state.invariant.some in
    let took = takes_on g (goal.at.read_ahead-table-requires g c).After-behind-table s.0 s.1 s.2 s.4 in
    λ q there. took.marked.met_low q (took.marked.members_met q there)

pub look-requires-clause-turn : goal.look-requires-clause-turn
look-requires-clause-turn g c =
    let s = c.loop-state.invariant.some in
    let at = (goal.at.look-requires-clause-turn g c).After-behind-table in
    taking_turn g.W.Weight.KIND (IsHop g.M.AsMachine.value c.args.marks.now c.args.links.now) s.0 (length c.args.links.now) g.M.Widens.bound s.1 c.args.mark (s.2 + c.loop-state.taken) c.in-Some.state (nodes g at) _ (g.Q.StateQueue.members c.loop-state.queue) (g.Q.StateQueue.members c.take.new.self) c.loop-state.table.later.items c.loop-state.table.met.items
    c.in-Some.ensures.takes (wrote g at) s.4.marked

pub look-requires-clause-begun : goal.look-requires-clause-begun
look-requires-clause-begun g c =
    let s = c.loop-state.invariant.some in
    let took = takes_on g (goal.at.look-requires-clause-begun g c).After-behind-table s.0 s.1 s.2 s.4 in
    (s.0, s.1, s.2 + c.loop-state.taken, (let few = s.3 in let room = c.loop-state.invariant.left in omega arith), took)

pub loop-state-smaller : goal.loop-state-smaller
loop-state-smaller g c =
    let fewer = fewer_left g (goal.at.loop-state-smaller g c).After-behind-table in
    let same = c.in_ok-look.ensures.left in
    omega arith

pub loop-state-preserved : goal.loop-state-preserved
loop-state-preserved g c =
    let s = c.loop-state.invariant.some in
    let at = (goal.at.loop-state-preserved g c).After-behind-table in
    let fewer = fewer_left g at in
    let same = c.in_ok-look.ensures.left in
    let now = map (valued_node g.W.Weight.wide_value) c.look.new.table.nodes.items in
    let rest = g.Q.StateQueue.members c.look.new.queue in
    let step = λ (source : ℕ → Cost) (k takes : ℕ) (t : Before g at source k takes).
    (let e : (takes + c.loop-state.taken) + 1 ≡ takes + (c.loop-state.taken + 1) = omega arith in
    subst (λ (j : ℕ). Searching g.W.Weight.KIND (IsHop g.M.AsMachine.value c.args.marks.now c.args.links.now) source (length c.args.links.now) g.M.Widens.bound k c.args.mark j (Has rest) now rest c.look.new.table.later.items c.look.new.table.met.items) e (c.in_ok-look.ensures.looked source k (takes + c.loop-state.taken) (takes_on g at source k takes t))) in
    record {
      some = (s.0, s.1, s.2, s.3, step s.0 s.1 s.2 s.4);
      every = λ source k takes t. step source k takes (c.loop-state.invariant.every source k takes t);
      left = let room = c.loop-state.invariant.left in omega arith;
    }

pub returns-clause-taken : goal.returns-clause-taken
returns-clause-taken g c = λ source k takes s.
    let same : g.Q.StateQueue.members c.loop-state.queue ≡ g.Q.StateQueue.members c.take.new.self = c.in_default.ensures.takes.0 ∙ sym c.in_default.ensures.takes.1 in
    subst (λ (ms : List ℕ). Searching g.W.Weight.KIND (IsHop g.M.AsMachine.value c.args.marks.now c.args.links.now) source (length c.args.links.now) g.M.Widens.bound k c.args.mark (takes + c.loop-state.taken) (Has ms) (map (valued_node g.W.Weight.wide_value) c.loop-state.table.nodes.items) ms c.loop-state.table.later.items c.loop-state.table.met.items) same
    (c.loop-state.invariant.every source k takes s)
