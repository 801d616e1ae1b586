use Rattle.std.proofs.Common.{◌≡◌, ℕ, Bool, List, [], length, map, sym, ap, ◌∙◌, subst, subst₂, lit≤}
use Rattle.std.proofs.lemmas.List.{length-map}
use Rattle.fst_semiring.specs.Semiring.{Within}
use Rattle.fst_semiring.proofs.Ranges.{Within-one}
use Rattle.fst_machine.specs.BreadthFirst.{Has}
use Rattle.fst_trim.specs.Links.{Link, epsilon_links}
use Rattle.fst_search.specs.declared.direction.Direction.TheVariants.{FromStart}
use Rattle.fst_search.specs.Beginning.{IsBegun, IsBlank}
use Rattle.fst_search.specs.Cycles.{Solves}
use Rattle.fst_search.specs.Hops.{IsHop}
use Rattle.fst_search.specs.Searching.{distance_at, valued_node}
use Rattle.fst_search.proofs.Begun.{blank_begun, searching_begins}
use Rattle.fst_search.proofs.Silent.{only_there, silent_net}
use Rattle.fst_search.proofs.closing.search_from.Goals as goal

pub returns-in_err-begin_at-clause-below : goal.returns-in_err-begin_at-clause-below
returns-in_err-begin_at-clause-below g c = c.in_err-begin_at.ensures.below (length c.args.fst.now.states) c.requires.state (λ q has. absurd (subst (λ (ms : List ℕ). Has ms q) c.requires.empty has))

pub solve-requires-clause-net : goal.solve-requires-clause-net
solve-requires-clause-net g c = silent_net g.W.Weight.KIND g.W.Weight.value c.args.fst.now c.states-states.ensures.machine c.as_slice.result.now c.args.links.now (c.as_slice.ensures.value ∙ c.new-marks.ensures.items) c.requires.links

pub solve-requires-clause-begun : goal.solve-requires-clause-begun
solve-requires-clause-begun g c =
    let kind = g.W.Weight.KIND in
    let value = g.W.Weight.wide_value in
    let n = length c.args.links.now in
    let nodes = map (valued_node value) c.args.table.now.nodes.items in
    let now = map (valued_node value) c.begin_at.new.table.nodes.items in
    let same : length c.args.fst.now.states ≡ n = sym (ap length c.requires.links ∙ length-map c.args.fst.now.states _) in
    let one : Within 1000000000000000000 (value c.widen.result) = subst (Within 1000000000000000000) (sym (c.widen.ensures.same ∙ c.one.ensures)) (Within-one 1000000000000000000 kind) in
    let blank = blank_begun kind n 1000000000000000000 nodes (subst (λ (k : ℕ). IsBlank k nodes) same c.requires.blank) in
    let start = subst₂ (λ (ms ls : List ℕ). IsBegun kind n 1000000000000000000 nodes ms ls) (sym c.requires.empty) (sym c.requires.met) blank in
    let begun = c.in_ok-begin_at.ensures.begun n 1000000000000000000 one start in
    (distance_at now, searching_begins kind n 1000000000000000000 (IsHop g.W.Weight.value c.as_slice.result.now c.args.links.now) now (g.Q.StateQueue.members c.begin_at.new.queue) c.begin_at.new.table.met.items (lit≤ tt) begun)

pub returns-clause-searched : goal.returns-clause-searched
returns-clause-searched g c =
    let kind = g.W.Weight.KIND in
    let value = g.W.Weight.wide_value in
    let states = c.args.fst.now.states in
    let n = length c.args.links.now in
    let nodes = map (valued_node value) c.args.table.now.nodes.items in
    let now = map (valued_node value) c.begin_at.new.table.nodes.items in
    let after = map (valued_node value) c.solve.new.table.nodes.items in
    let members = g.Q.StateQueue.members c.solve.new.queue in
    let met = c.solve.new.table.met.items in
    let same : length states ≡ n = sym (ap length c.requires.links ∙ length-map states _) in
    let one : Within 1000000000000000000 (value c.widen.result) = subst (Within 1000000000000000000) (sym (c.widen.ensures.same ∙ c.one.ensures)) (Within-one 1000000000000000000 kind) in
    let blank = blank_begun kind n 1000000000000000000 nodes (subst (λ (k : ℕ). IsBlank k nodes) same c.requires.blank) in
    let start = subst₂ (λ (ms ls : List ℕ). IsBegun kind n 1000000000000000000 nodes ms ls) (sym c.requires.empty) (sym c.requires.met) blank in
    let begun = c.in_ok-begin_at.ensures.begun n 1000000000000000000 one start in
    let searching = searching_begins kind n 1000000000000000000 (IsHop g.W.Weight.value c.as_slice.result.now c.args.links.now) now (g.Q.StateQueue.members c.begin_at.new.queue) c.begin_at.new.table.met.items (lit≤ tt) begun in
    let marks : c.as_slice.result.now ≡ [] = c.as_slice.ensures.value ∙ c.new-marks.ensures.items in
    let moved = subst₂ (λ (ms : List Bool) (ls : List (List (Link g.row.W.Denot))). Solves kind (IsHop g.W.Weight.value ms ls) (distance_at now) FromStart (length ls) 1000000000000000000 after members met c.in_ok-found.found) marks c.requires.links (c.in_ok-found.ensures.found (distance_at now) searching) in
    record {
      source = distance_at now;
      only = only_there kind g.W.Weight.value c.args.fst.now c.states-states.ensures.machine c.args.state (value c.widen.result) nodes now (c.widen.ensures.same ∙ c.one.ensures) c.requires.blank c.in_ok-begin_at.ensures.sets;
      solves = subst (λ (k : ℕ). Solves kind (IsHop g.W.Weight.value [] (epsilon_links states)) (distance_at now) FromStart k 1000000000000000000 after members met c.in_ok-found.found) (length-map states _) moved;
    }
