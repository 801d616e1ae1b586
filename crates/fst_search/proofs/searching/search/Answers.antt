use Rattle.std.proofs.Common.{◌≡◌, ◌<◌, ◌≤◌, ◌+◌, ◌*◌, suc, ℕ, List, [], None, length, get_or, map, sym, ◌∙◌, subst, subst₂, eqb-true, arith}
use Rattle.std.proofs.lemmas.Bool.{eqb-false}
use Rattle.std.proofs.lemmas.List.{length-map, nil_from_length}
use Rattle.fst_semiring.specs.Cost.{Cost}
use Rattle.fst_machine.specs.BreadthFirst.{Has}
use Rattle.fst_search.specs.Hops.{IsHop}
use Rattle.fst_machine.specs.declared.path.Step.{Step}
use Rattle.fst_search.specs.Searching.{IsTrail, Node, Searching, link_at, valued_node}
use Rattle.fst_search.specs.Trying.{AreBelow}
use Rattle.fst_search.proofs.Ending.{links_low}
use Rattle.fst_search.proofs.Rounding.{later_low, round_ends, round_goes_on, round_low, round_turns}
use Rattle.fst_search.proofs.searching.search.Given.{Over}
use Rattle.fst_search.proofs.searching.search.Goals.{In_ok-since, Else-is_empty, Then-is_empty}
use Rattle.fst_search.proofs.searching.search.Goals as goal

-- the search before the takes of a round, from this source, with these states put off
abbrev Before : (g : Over) → In_ok-since g → (ℕ → Cost) → ℕ → List ℕ → Type 0
Before g c source takes later = Searching g.W.Weight.KIND (IsHop g.M.AsMachine.value c.args.marks.now c.args.links.now) source (length c.args.links.now) g.M.Widens.bound c.rounds.round (2 * c.rounds.round + 1) takes (Has (g.Q.StateQueue.members c.rounds.queue)) (map (valued_node g.W.Weight.wide_value) c.rounds.table.nodes.items) (g.Q.StateQueue.members c.rounds.queue) later c.rounds.table.met.items

-- the same behind them
abbrev Behind : (g : Over) → In_ok-since g → (ℕ → Cost) → ℕ → Type 0
Behind g c source takes = Searching g.W.Weight.KIND (IsHop g.M.AsMachine.value c.args.marks.now c.args.links.now) source (length c.args.links.now) g.M.Widens.bound c.rounds.round (2 * c.rounds.round + 1) takes (Has (g.Q.StateQueue.members c.take_all.new.queue)) (map (valued_node g.W.Weight.wide_value) c.take_all.new.table.nodes.items) (g.Q.StateQueue.members c.take_all.new.queue) c.take_all.new.table.later.items c.take_all.new.table.met.items

-- the takes go on with the search, whatever its source
taken : (g : Over) (c : In_ok-since g) (source : ℕ → Cost) (takes : ℕ) → Before g c source takes [] → Behind g c source (takes + c.in_ok-since.field-0)
taken g c source takes s = c.in_ok-since.ensures.taken source c.rounds.round takes (subst (Before g c source takes) (sym c.rounds.invariant.later) s)

-- one such search, and what it says of the states
one_taken : (g : Over) (c : In_ok-since g) → Behind g c c.rounds.invariant.some.0 (c.rounds.invariant.some.1 + c.in_ok-since.field-0)
one_taken g c = taken g c c.rounds.invariant.some.0 c.rounds.invariant.some.1 c.rounds.invariant.some.3

sized : (g : Over) (c : In_ok-since g) → length c.take_all.new.table.nodes.items ≡ length c.args.links.now
sized g c = sym (length-map c.take_all.new.table.nodes.items (valued_node g.W.Weight.wide_value)) ∙ (one_taken g c).marked.size

low : (g : Over) (c : In_ok-since g) → AreBelow (length c.take_all.new.table.nodes.items) c.take_all.new.table.later.items
low g c q has =
    let size = sized g c in
    let below = later_low g.W.Weight.KIND _ _ _ g.M.Widens.bound _ _ _ c.requires.net _ _ _ c.take_all.new.table.met.items c.in_ok-since.ensures.empty (one_taken g c) q has in
    omega arith

none_later : (g : Over) (c : Then-is_empty g) → c.take_all.new.table.later.items ≡ []
none_later g c = let zero_len = eqb-true _ 0 (sym c.if-is_empty.ensures) in nil_from_length c.take_all.new.table.later.items (omega (arith, zero_len, c.take_all.new.table.later.ok))

some_later : (g : Over) (c : Else-is_empty g) → 0 < length c.take_all.new.table.later.items
some_later g c = let not_empty = eqb-false _ 0 (sym c.if-is_empty.ensures) in omega (arith, not_empty, c.take_all.new.table.later.ok)

-- where no links lead back, this was not the last round
not_last : (g : Over) (c : In_ok-since g) → 0 < length c.take_all.new.table.later.items
    → (length c.take_all.new.table.nodes.items ≤ c.rounds.round → (trail : List Step) × (x : ℕ) × IsTrail (link_at (map (valued_node g.W.Weight.wide_value) c.take_all.new.table.nodes.items)) (get_or c.take_all.new.table.later.items 0 0) trail x × (length trail < length c.take_all.new.table.nodes.items) × (link_at (map (valued_node g.W.Weight.wide_value) c.take_all.new.table.nodes.items) x ≡ None))
    → c.rounds.round < length c.args.links.now
not_last g c some goes_on =
    let size = sized g c in
    round_low g.W.Weight.KIND _ _ _ g.M.Widens.bound _ _ _ c.requires.net _ _ _ c.take_all.new.table.met.items c.in_ok-since.ensures.empty (one_taken g c) some
    (λ late. (let h = goes_on (omega arith) in (h.0, h.1, h.2, (let few = h.3 in omega arith), h.4)))

pub take_all-requires-clause-begun : goal.take_all-requires-clause-begun
take_all-requires-clause-begun g c =
    let b = c.rounds.invariant.some in
    let low = c.rounds.invariant.rounds in
    let few = b.2 in
    let size = c.requires.size in
    (b.0, c.rounds.round, b.1, omega arith, subst (λ (ls : List ℕ). Searching g.W.Weight.KIND (IsHop g.M.AsMachine.value c.args.marks.now c.args.links.now) b.0 (length c.args.links.now) g.M.Widens.bound c.rounds.round (2 * c.rounds.round + 1) b.1 (Has (g.Q.StateQueue.members c.rounds.queue)) (map (valued_node g.W.Weight.wide_value) c.rounds.table.nodes.items) (g.Q.StateQueue.members c.rounds.queue) ls c.rounds.table.met.items) (sym c.rounds.invariant.later) b.3)

pub returns-then-is_empty-clause-found : goal.returns-then-is_empty-clause-found
returns-then-is_empty-clause-found g c = λ source begun.
    let e = c.rounds.invariant.every source begun in
    round_ends g.W.Weight.KIND _ source _ g.M.Widens.bound _ _ _ c.requires.net _ _ _ _ c.in_ok-since.ensures.empty (taken g (goal.at.returns-then-is_empty-clause-found g c).In_ok-since source e.0 e.1) (none_later g (goal.at.returns-then-is_empty-clause-found g c).Then-is_empty)

pub returns-then-is_empty-clause-later : goal.returns-then-is_empty-clause-later
returns-then-is_empty-clause-later g c = none_later g (goal.at.returns-then-is_empty-clause-later g c).Then-is_empty

pub turned-requires-clause-some : goal.turned-requires-clause-some
turned-requires-clause-some g c = some_later g (goal.at.turned-requires-clause-some g c).Else-is_empty

pub turned-requires-clause-later : goal.turned-requires-clause-later
turned-requires-clause-later g c = low g (goal.at.turned-requires-clause-later g c).In_ok-since

pub turned-requires-clause-low : goal.turned-requires-clause-low
turned-requires-clause-low g c =
    let at = (goal.at.turned-requires-clause-low g c).In_ok-since in
    let size = sized g at in
    λ q step link. (let low = (links_low g.W.Weight.KIND _ _ _ c.requires.net _ (link_at (map (valued_node g.W.Weight.wide_value) c.take_all.new.table.nodes.items)) (one_taken g at).tentative q step link).1 in omega arith)

pub returns-in-Some-clause-found : goal.returns-in-Some-clause-found
returns-in-Some-clause-found g c = λ source begun.
    let at = (goal.at.returns-in-Some-clause-found g c).In_ok-since in
    let e = c.rounds.invariant.every source begun in
    let found = c.in-Some.ensures.found in
    round_turns g.W.Weight.KIND _ source _ g.M.Widens.bound _ _ _ c.requires.net _ _ c.take_all.new.table.later.items _ c.in_ok-since.ensures.empty (taken g at source e.0 e.1) found.0 c.in-Some.state (some_later g (goal.at.returns-in-Some-clause-found g c).Else-is_empty) found.1 (found.2 ∙ sized g at)

pub put_all-requires : goal.put_all-requires
put_all-requires g c = record { low = low g (goal.at.put_all-requires g c).In_ok-since }

pub returns-in_err-put_all-clause-below : goal.returns-in_err-put_all-clause-below
returns-in_err-put_all-clause-below g c =
    subst (λ (m : ℕ). AreBelow m (g.Q.StateQueue.members c.put_all.new.queue)) (sized g (goal.at.returns-in_err-put_all-clause-below g c).In_ok-since)
    (c.in_err-put_all.ensures.below (λ q has. absurd (subst (λ (ms : List ℕ). Has ms q) c.in_ok-since.ensures.empty has)))

pub rounds-smaller : goal.rounds-smaller
rounds-smaller g c =
    let low = not_last g (goal.at.rounds-smaller g c).In_ok-since (some_later g (goal.at.rounds-smaller g c).Else-is_empty) c.in_default.ensures.goes_on in
    omega arith

pub rounds-preserved : goal.rounds-preserved
rounds-preserved g c =
    let kind = g.W.Weight.KIND in
    let goes = IsHop g.M.AsMachine.value c.args.marks.now c.args.links.now in
    let n = length c.args.links.now in
    let b = c.rounds.invariant.some in
    let t = c.in_ok-since.field-0 in
    let at = (goal.at.rounds-preserved g c).In_ok-since in
    let nodes = map (valued_node g.W.Weight.wide_value) c.take_all.new.table.nodes.items in
    let low = not_last g at (some_later g (goal.at.rounds-preserved g c).Else-is_empty) c.in_default.ensures.goes_on in
    let now = g.Q.StateQueue.members c.put_all.new.queue in
    let next = λ (source : ℕ → Cost) (takes : ℕ) (e : Before g at source takes []).
    (let on = round_goes_on kind goes source n g.M.Widens.bound c.rounds.round (2 * c.rounds.round + 1) (takes + t) c.requires.net nodes (g.Q.StateQueue.members c.take_all.new.queue) c.take_all.new.table.later.items c.take_all.new.table.met.items c.in_ok-since.ensures.empty (taken g at source takes e) now c.in_ok-put_all.ensures.members in
    let one : suc c.rounds.round ≡ c.rounds.round + 1 = omega arith in
    let two : (2 * c.rounds.round + 1) + 2 ≡ 2 * (c.rounds.round + 1) + 1 = omega arith in
    let marked = subst₂ (λ (k m : ℕ). Searching kind goes source n g.M.Widens.bound k m (takes + t) (Has now) nodes now [] c.take_all.new.table.met.items) one two on in
    subst₂ (λ (zs : List (Node g.row.W-Wide.Denot)) (ms : List ℕ). Searching kind goes source n g.M.Widens.bound (c.rounds.round + 1) (2 * (c.rounds.round + 1) + 1) (takes + t) (Has now) (map (valued_node g.W.Weight.wide_value) zs) now [] ms) (sym c.in_ok-put_all.ensures.nodes) (sym c.in_ok-put_all.ensures.met) marked) in
    record {
      some = (b.0, b.1 + t, (let few = c.in_ok-since.ensures.few in let old = b.2 in let states = c.requires.size in omega arith), next b.0 b.1 b.3);
      every = λ source begun. (let e = c.rounds.invariant.every source begun in (e.0 + t, next source e.0 e.1));
      later = c.in_ok-put_all.ensures.none;
      rounds = omega arith;
      looked = (let first = c.requires.begun.1.marked.size in let same = length-map c.args.table.now.nodes.items (valued_node g.W.Weight.wide_value) in let most = c.since_look-since.ensures in omega (arith, c.len-states.ensures, c.args.table.now.nodes.ok));
    }
