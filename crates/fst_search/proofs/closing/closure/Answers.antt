use Rattle.std.proofs.Common.{◌≡◌, ◌<◌, ℕ, List, [], length, map, sym, ◌∙◌, subst}
use Rattle.std.proofs.lemmas.List.{length-map}
use Rattle.fst_semiring.specs.Cost.{Cost}
use Rattle.fst_machine.specs.BreadthFirst.{Has}
use Rattle.fst_search.specs.Closure.{Unmeeting, valued_reached}
use Rattle.fst_search.specs.Searching.{Node, valued_node}
use Rattle.fst_search.proofs.Silent.{searched_blank, searched_closure, searched_cycle, searched_ended}
use Rattle.fst_search.proofs.closing.closure.Given.{Over}
use Rattle.fst_search.proofs.closing.closure.Goals.{In_ok-list}
use Rattle.fst_search.proofs.closing.closure.Goals as goal

pub returns-in-Some-clause-cycle : goal.returns-in-Some-clause-cycle
returns-in-Some-clause-cycle g c = searched_cycle g.W.Weight.KIND g.W.Weight.value c.args.fst.now c.states-states.ensures.machine c.args.state _ _ _ _ c.in_ok-path.ensures.searched c.in-Some.path c.in-Some.is

pub take_met-requires-clause-apart : goal.take_met-requires-clause-apart
take_met-requires-clause-apart g c = (searched_ended g.W.Weight.KIND g.W.Weight.value c.args.fst.now c.states-states.ensures.machine c.args.state _ _ _ _ c.in_ok-path.ensures.searched c.in_default.is).1.met_apart

pub take_met-requires-clause-low : goal.take_met-requires-clause-low
take_met-requires-clause-low g c =
    let items = c.search_from.new.table.nodes.items in
    let e = (searched_ended g.W.Weight.KIND g.W.Weight.value c.args.fst.now c.states-states.ensures.machine c.args.state _ _ _ _ c.in_ok-path.ensures.searched c.in_default.is).1 in
    let size : length items ≡ length c.args.fst.now.states = sym (length-map items (valued_node g.W.Weight.wide_value)) ∙ e.size in
    subst (λ (k : ℕ). (q : ℕ) → Has c.search_from.new.table.met.items q → q < k) (sym size) e.met_low

-- the nodes that the search leaves, and the same once the states that it met are taken
abbrev nodes : (g : Over) → In_ok-list g → List (Node Cost)
nodes g c = map (valued_node g.W.Weight.wide_value) c.search_from.new.table.nodes.items

abbrev after : (g : Over) → In_ok-list g → List (Node Cost)
after g c = map (valued_node g.W.Weight.wide_value) c.take_met.new.table.nodes.items

unmet : (g : Over) (c : In_ok-list g) → Unmeeting (nodes g c) (after g c) c.search_from.new.table.met.items [] (map (valued_reached g.W.Weight.wide_value) c.in_ok-list.list.items)
unmet g c = subst (λ (ms : List ℕ). Unmeeting (nodes g c) (after g c) c.search_from.new.table.met.items ms (map (valued_reached g.W.Weight.wide_value) c.in_ok-list.list.items)) c.in_ok-list.ensures.none c.in_ok-list.ensures.list

pub returns-clause-closure : goal.returns-clause-closure
returns-clause-closure g c =
    let at = (goal.at.returns-clause-closure g c).In_ok-list in
    searched_closure g.W.Weight.KIND g.W.Weight.value c.args.fst.now c.states-states.ensures.machine c.args.state (nodes g at) _ _ _ c.in_ok-path.ensures.searched c.in_default.is (after g at) _ (unmet g at)

pub returns-clause-blank : goal.returns-clause-blank
returns-clause-blank g c =
    let at = (goal.at.returns-clause-blank g c).In_ok-list in
    searched_blank g.W.Weight.KIND g.W.Weight.value c.args.fst.now c.states-states.ensures.machine c.args.state (nodes g at) _ _ _ c.in_ok-path.ensures.searched c.in_default.is (after g at) _ (unmet g at)

pub returns-clause-empty : goal.returns-clause-empty
returns-clause-empty g c = (searched_ended g.W.Weight.KIND g.W.Weight.value c.args.fst.now c.states-states.ensures.machine c.args.state _ _ _ _ c.in_ok-path.ensures.searched c.in_default.is).0
