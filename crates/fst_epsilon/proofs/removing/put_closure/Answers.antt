use Rattle.std.proofs.Common.{◌≡◌, ◌*◌, ◌≤◌, ◌<◌, ℕ, List, All, length, map, refl, sym, subst, arith}
use Rattle.std.proofs.lemmas.List.{length-map}
use Rattle.fst_semiring.specs.Semiring.{IsWide}
use Rattle.fst_machine.specs.Graph.{graph_of}
use Rattle.fst_machine.specs.Machine.{most_states, valued, valued_state}
use Rattle.fst_machine.proofs.Valued.{IsMachine-valued}
use Rattle.fst_search.specs.Closure.{Reached}
use Rattle.fst_epsilon.specs.Construction.{IsClosureList}
use Rattle.fst_epsilon.specs.Gathering.{pairs_of}
use Rattle.fst_epsilon.specs.Making.{gathered}
use Rattle.fst_epsilon.proofs.Whole.{gathered_state, improving_near, in_err, in_ok, removing_more, sorted_closure, sorted_low, sorted_wide}
use Rattle.fst_epsilon.proofs.removing.put_closure.Goals as goal

pub returns-in-Err-clause-cycle : goal.returns-in-Err-clause-cycle
returns-in-Err-clause-cycle g c =
    improving_near g.W.Weight.KIND (graph_of (valued g.W.Weight.value c.args.fst.now)) c.args.state c.in-Err.cycle c.requires.near (in_err c.in_ok-closed.field-0 c.in-Err.cycle _ c.in-Err.is c.in_ok-closed.ensures.cycle)

pub put_gathered-requires-clause-states : goal.put_gathered-requires-clause-states
put_gathered-requires-clause-states g c =
    let value = g.W.Weight.value in
    let kind = g.W.Weight.KIND in
    let wide = g.W.Weight.wide_value in
    let m = valued value c.args.fst.now in
    let good = IsMachine-valued value c.args.fst.now c.states-states.ensures.machine in
    let many : length m.states ≡ length c.args.fst.now.states = length-map c.args.fst.now.states (valued_state value) in
    let closure = in_ok c.in_ok-closed.field-0 c.in-Ok.closed _ c.in-Ok.is c.in_ok-closed.ensures.closure in
    let low : c.args.state < length m.states = (let own = c.requires.state in omega (arith, own, many)) in
    let all = sorted_low wide kind m good c.args.state (length c.args.fst.now.states * 1000000000000000000) low c.in-Ok.closed.reached.items c.sort_closure-2.new.reached.items closure c.sort_closure-2.ensures.same c.sort_closure-2.ensures.ranked in
    subst (λ (rs : List (Reached g.row.W-Wide.Denot)). All (λ (r : Reached g.row.W-Wide.Denot). r.state < length c.args.fst.now.states) rs) (sym c.as_slice-2.ensures.value)
    (subst (λ (n : ℕ). All (λ (r : Reached g.row.W-Wide.Denot). r.state < n) c.sort_closure-2.new.reached.items) many all)

pub put_gathered-requires-clause-wide : goal.put_gathered-requires-clause-wide
put_gathered-requires-clause-wide g c =
    let value = g.W.Weight.value in
    let kind = g.W.Weight.KIND in
    let wide = g.W.Weight.wide_value in
    let m = valued value c.args.fst.now in
    let good = IsMachine-valued value c.args.fst.now c.states-states.ensures.machine in
    let many : length m.states ≡ length c.args.fst.now.states = length-map c.args.fst.now.states (valued_state value) in
    let closure = in_ok c.in_ok-closed.field-0 c.in-Ok.closed _ c.in-Ok.is c.in_ok-closed.ensures.closure in
    let low : c.args.state < length m.states = (let own = c.requires.state in omega (arith, own, many)) in
    let few : length c.args.fst.now.states * 1000000000000000000 ≤ most_states * 1000000000000000000 = (let most = c.states-states.ensures.machine.few_states in omega (arith, most)) in
    let all = sorted_wide wide kind m good c.args.state (length c.args.fst.now.states * 1000000000000000000) low c.in-Ok.closed.reached.items c.sort_closure-2.new.reached.items closure c.sort_closure-2.ensures.same c.sort_closure-2.ensures.ranked few in
    subst (λ (rs : List (Reached g.row.W-Wide.Denot)). All (λ (r : Reached g.row.W-Wide.Denot). IsWide (wide r.distance)) rs) (sym c.as_slice-2.ensures.value) all

pub returns-clause-removing : goal.returns-clause-removing
returns-clause-removing g c =
    let value = g.W.Weight.value in
    let kind = g.W.Weight.KIND in
    let wide = g.W.Weight.wide_value in
    let m = valued value c.args.fst.now in
    let good = IsMachine-valued value c.args.fst.now c.states-states.ensures.machine in
    let many : length m.states ≡ length c.args.fst.now.states = length-map c.args.fst.now.states (valued_state value) in
    let closure = in_ok c.in_ok-closed.field-0 c.in-Ok.closed _ c.in-Ok.is c.in_ok-closed.ensures.closure in
    let low : c.args.state < length m.states = (let own = c.requires.state in omega (arith, own, many)) in
    let closes = sorted_closure wide kind m good c.args.state (length c.args.fst.now.states * 1000000000000000000) low c.in-Ok.closed.reached.items c.sort_closure-2.new.reached.items closure c.sort_closure-2.ensures.same c.sort_closure-2.ensures.ranked in
    let pairs = pairs_of wide c.as_slice-2.result.now in
    let listed = subst (λ (rs : List (Reached g.row.W-Wide.Denot)). IsClosureList kind (graph_of m) c.args.state (pairs_of wide rs)) (sym c.as_slice-2.ensures.value) closes in
    let here = gathered_state kind (graph_of m) c.args.state (gathered kind (graph_of m) pairs) pairs c.requires.near listed refl refl in
    removing_more kind (graph_of m) c.args.state (gathered kind (graph_of m) pairs) (map (valued_state value) c.args.output.now.states) (map (valued_state value) c.put_gathered.new.output.states) c.args.output.now.total c.put_gathered.new.output.total c.args.output.now.overflow c.put_gathered.new.output.overflow here c.requires.removing c.in_ok-put_gathered.ensures

pub put_soon-requires-clause-states : goal.put_soon-requires-clause-states
put_soon-requires-clause-states g c =
    let value = g.W.Weight.value in
    let kind = g.W.Weight.KIND in
    let m = valued value c.args.fst.now in
    let good = IsMachine-valued value c.args.fst.now c.states-states.ensures.machine in
    let many : length m.states ≡ length c.args.fst.now.states = length-map c.args.fst.now.states (valued_state value) in
    let closure = c.in_ok-near.ensures.closure c.if-branch.true in
    let low : c.args.state < length m.states = (let own = c.requires.state in omega (arith, own, many)) in
    let all = sorted_low value kind m good c.args.state (length c.args.fst.now.states * 1000000000000000000) low c.near.new.reached.items c.sort_closure.new.reached.items closure c.sort_closure.ensures.same c.sort_closure.ensures.ranked in
    subst (λ (rs : List (Reached g.row.W.Denot)). All (λ (r : Reached g.row.W.Denot). r.state < length c.args.fst.now.states) rs) (sym c.as_slice.ensures.value)
    (subst (λ (n : ℕ). All (λ (r : Reached g.row.W.Denot). r.state < n) c.sort_closure.new.reached.items) many all)

pub returns-then-branch-clause-removing : goal.returns-then-branch-clause-removing
returns-then-branch-clause-removing g c =
    let value = g.W.Weight.value in
    let kind = g.W.Weight.KIND in
    let m = valued value c.args.fst.now in
    let good = IsMachine-valued value c.args.fst.now c.states-states.ensures.machine in
    let many : length m.states ≡ length c.args.fst.now.states = length-map c.args.fst.now.states (valued_state value) in
    let closure = c.in_ok-near.ensures.closure c.if-branch.true in
    let low : c.args.state < length m.states = (let own = c.requires.state in omega (arith, own, many)) in
    let closes = sorted_closure value kind m good c.args.state (length c.args.fst.now.states * 1000000000000000000) low c.near.new.reached.items c.sort_closure.new.reached.items closure c.sort_closure.ensures.same c.sort_closure.ensures.ranked in
    let pairs = pairs_of value c.as_slice.result.now in
    let listed = subst (λ (rs : List (Reached g.row.W.Denot)). IsClosureList kind (graph_of m) c.args.state (pairs_of value rs)) (sym c.as_slice.ensures.value) closes in
    let here = gathered_state kind (graph_of m) c.args.state (gathered kind (graph_of m) pairs) pairs c.requires.near listed refl refl in
    removing_more kind (graph_of m) c.args.state (gathered kind (graph_of m) pairs) (map (valued_state value) c.args.output.now.states) (map (valued_state value) c.put_soon.new.output.states) c.args.output.now.total c.put_soon.new.output.total c.args.output.now.overflow c.put_soon.new.output.overflow here c.requires.removing c.in_ok-put_soon.ensures
