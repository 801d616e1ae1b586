use Rattle.std.proofs.Common.{◌≡◌, ◌<◌, ℕ, List, length, map, sym, ap, subst, ◌∙◌, arith}
use Rattle.std.specs.List.{All}
use Rattle.std.specs.Option.{option_map}
use Rattle.std.proofs.lemmas.List.{length-map}
use Rattle.std.proofs.lemmas.List.Elements.{All-map}
use Rattle.fst_machine.specs.Machine.{Arc, State, valued}
use Rattle.fst_machine.specs.Graph.{graph_of, nexts}
use Rattle.fst_machine.specs.BreadthFirst.{After, Grows}
use Rattle.fst_machine.proofs.Walking.{taken_within, graph_nexts, nexts_within, marked_few, marked_goes_on}
use Rattle.fst_trim.specs.Targets.{targets_from}
use Rattle.fst_trim.proofs.Joined.{targets_at}
use Rattle.fst_trim.proofs.useful.reach.Goals as goal

pub of-states-requires : goal.of-states-requires
of-states-requires g c =
    let l = c.loop-taken in
    let states = (g.M.AsMachine.machine c.args.fst.now).states in
    let at = taken_within l.seen.items l.names.items (length states) l.taken c.index.result.now l.invariant.marks l.invariant.size (omega arith) c.index.ensures in
    (targets_from states, c.in_ok-targets.ensures, omega (arith, at.1, length-map states (λ s. map (λ a. a.next) s.arcs)))

pub find_each-requires-clause-within : goal.find_each-requires-clause-within
find_each-requires-clause-within g c k d within =
    let l = c.loop-taken in
    let states = (g.M.AsMachine.machine c.args.fst.now).states in
    let n = c.index.result.now in
    let at = taken_within l.seen.items l.names.items (length states) l.taken n l.invariant.marks l.invariant.size (omega arith) c.index.ensures in
    let s = targets_at states n at.1 in
    let leads : c.of-states.result.now ≡ map (λ (a : Arc g.row.V.Denot ℕ). a.next) s.0.arcs = c.of-states.ensures (targets_from states) c.in_ok-targets.ensures (omega (arith, at.1, length-map states (λ s. map (λ a. a.next) s.arcs))) ∙ s.2 in
    let good = All-map (λ p. p < length states) (λ (a : Arc g.row.V.Denot ℕ). a.next) s.0.arcs (nexts_within g.M.AsMachine.value (g.M.AsMachine.machine c.args.fst.now) n s.0.arcs c.state_count.ensures.good (ap (option_map (λ (t : State g.row.V.Denot). t.arcs)) s.1)) in
    let here = subst (λ (ns : List ℕ). All (λ p. p < length states) ns) (sym leads) good k d within in
    omega (arith, here, l.invariant.size)

pub loop-taken-smaller : goal.loop-taken-smaller
loop-taken-smaller g c =
    let l = c.loop-taken in
    let few = marked_few (graph_of (valued g.M.AsMachine.value (g.M.AsMachine.machine c.args.fst.now))) c.args.start l.seen.items l.names.items l.taken (length (g.M.AsMachine.machine c.args.fst.now).states) l.invariant in
    omega (arith, few)

pub loop-taken-preserved : goal.loop-taken-preserved
loop-taken-preserved g c =
    let l = c.loop-taken in
    let f = c.in_ok-find_each.ensures in
    let states = (g.M.AsMachine.machine c.args.fst.now).states in
    let graph = graph_of (valued g.M.AsMachine.value (g.M.AsMachine.machine c.args.fst.now)) in
    let n = c.index.result.now in
    let at = taken_within l.seen.items l.names.items (length states) l.taken n l.invariant.marks l.invariant.size (omega arith) c.index.ensures in
    let s = targets_at states n at.1 in
    let leads : c.of-states.result.now ≡ nexts (graph.arcs n) = c.of-states.ensures (targets_from states) c.in_ok-targets.ensures (omega (arith, at.1, length-map states (λ s. map (λ a. a.next) s.arcs))) ∙ (s.2 ∙ sym (graph_nexts g.M.AsMachine.value (g.M.AsMachine.machine c.args.fst.now) n s.0.arcs (ap (option_map (λ (t : State g.row.V.Denot). t.arcs)) s.1))) in
    let grows = subst (λ (zs : List ℕ). Grows l.names.items zs c.find_each.new.names.items) leads f.grows in
    marked_goes_on graph c.args.start l.seen.items c.find_each.new.seen.items l.names.items c.find_each.new.names.items l.taken n (length states) l.invariant at.0 grows f.marks f.size

pub returns-clause-marks : goal.returns-clause-marks
returns-clause-marks g c =
    let graph = graph_of (valued g.M.AsMachine.value (g.M.AsMachine.machine c.args.fst.now)) in
    let names = c.loop-taken.names.items in
    let w = c.loop-taken.invariant.walking in
    let all : c.loop-taken.taken ≡ length names = omega (arith, w.within) in
    (names, record { all = subst (λ k. After graph c.args.start names k names) all w.grown; before = λ i low. w.earlier i (omega (arith, low, all)) }, c.loop-taken.invariant.marks)
