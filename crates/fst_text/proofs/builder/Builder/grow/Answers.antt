use Rattle.std.proofs.Common.{◌≡◌, ◌+◌, ◌<◌, ◌≤◌, List, [], ◌∷◌, ◌++◌, length, map, ap, ◌∙◌, arith}
use Rattle.std.proofs.lemmas.List.{length-map}
use Rattle.std.proofs.lemmas.Option.{IfSome_then}
use Rattle.fst_semiring.specs.Cost.{Cost}
use Rattle.fst_machine.specs.Machine.{State, bare_state, valued_state}
use Rattle.fst_text.specs.Building.{found_in, grown}
use Rattle.fst_text.proofs.Growth.{arc_total-pushed, grown-more, states-pushed, length-pushed}
use Rattle.fst_text.proofs.builder.Builder.grow.Goals as goal

pub loop-self-preserved : goal.loop-self-preserved
loop-self-preserved g c =
    let value = g.W.Weight.value in
    let fst = c.loop-self.self.fst in
    let found = found_in c.loop-self.self.places in
    let states = map (valued_state value) fst.states in
    let same : length states ≡ length fst.states = length-map fst.states (valued_state value) in
    let few : length states ≤ c.args.place = omega (arith, c.states.ensures.value) in
    let grows = c.in_ok-push_state.ensures.zero in
    rw (grows.2, c.push_state.ensures.places) (record {
      added = ap (λ (ss : List (State Cost)). record { found = found; machine = record { start = fst.start; states = grown (c.args.place + 1) ss } }) (states-pushed value fst.states grows.0 grows.1) ∙ ap (λ (ss : List (State Cost)). record { found = found; machine = record { start = fst.start; states = ss } }) (grown-more c.args.place states few) ∙ c.loop-self.invariant.added;
      arcs = arc_total-pushed fst.states grows.0 ∙ c.loop-self.invariant.arcs;
      placed = λ n. IfSome_then (found n) {P = λ p. p < length states} {Q = λ p. p < length (map (valued_state value) (fst.states ++ bare_state grows.0 ∷ []))} (c.loop-self.invariant.placed n) (λ p low. omega (arith, length-pushed value fst.states grows.0));
    })
