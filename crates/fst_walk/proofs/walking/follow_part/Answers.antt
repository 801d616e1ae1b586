use Rattle.std.proofs.Common.{◌≡◌, ◌+◌, ◌++◌, List, ℕ, length, map, sym, ap, subst, ◌∙◌, arith}
use Rattle.std.proofs.lemmas.List.{length-map}
use Rattle.fst_semiring.specs.Cost.{Cost}
use Rattle.fst_machine.specs.Machine.{Arc, State, valued_arc, valued_state}
use Rattle.fst_machine.proofs.Valued.{arc_total-valued}
use Rattle.fst_walk.specs.Making.{IsCounted, IsTaking}
use Rattle.fst_walk.specs.Names.{key_arc, left_from}
use Rattle.fst_walk.proofs.Parts.{taking_goes, taking_near, taking_room, taking_stops, taking_within}
use Rattle.fst_walk.proofs.walking.follow_part.Goals as goal

pub item-key-requires : goal.item-key-requires
item-key-requires g c =
    let o = c.args.output.now in
    taking_within (g.N.Names.graph c.args.graph.now) c.args.limit c.args.place o.names (map (valued_state g.W.Weight.value) o.states.states) (map (valued_arc g.W.Weight.value) o.states.arcs) o.total o.overflow c.args.fits (λ n. g.N.Names.rest c.args.graph.now n c.args.from) c.requires.taking

pub put_part-requires-clause-near : goal.put_part-requires-clause-near
put_part-requires-clause-near g c =
    let o = c.args.output.now in
    taking_near (g.N.Names.graph c.args.graph.now) c.args.limit c.args.place o.names (map (valued_state g.W.Weight.value) o.states.states) (map (valued_arc g.W.Weight.value) o.states.arcs) o.total o.overflow c.args.fits (λ n. g.N.Names.rest c.args.graph.now n c.args.from) c.requires.taking c.requires.few c.item-key.result.now c.item-key.ensures

pub number_arcs-requires-clause-room : goal.number_arcs-requires-clause-room
number_arcs-requires-clause-room g c =
    let o = c.args.output.now in
    let value = key_arc g.W.Weight.wide_value in
    let made = c.put_part.new.out.items in
    let part = map value made in
    let count = c.counted-output.result in
    let size : length part ≡ length made = length-map made value in
    let many : c.len-more.result ≡ length part = omega (arith, c.len-more.ensures, c.put_part.new.out.ok, size) in
    let counts : (k : ℕ) → IsCounted o.total k → IsCounted count (k + length part) = λ k h. subst (λ (m : ℕ). IsCounted count (k + m)) many (c.counted-output.ensures.count k h) in
    λ t.
    let goes = c.still_fits-so_far.ensures.0 t in
    let own = taking_room (g.N.Names.graph c.args.graph.now) c.args.limit c.args.place o.names (map (valued_state g.W.Weight.value) o.states.states) (map (valued_arc g.W.Weight.value) o.states.arcs) o.total o.overflow c.args.fits (λ n. g.N.Names.rest c.args.graph.now n c.args.from) c.requires.taking part count counts goes.0 goes.1 in
    omega (arith, own, size, arc_total-valued g.W.Weight.value o.states.states, length-map o.states.arcs (valued_arc g.W.Weight.value))

pub returns-in_default-clause-stops : goal.returns-in_default-clause-stops
returns-in_default-clause-stops g c =
    let o = c.args.output.now in
    let rest = g.N.Names.rest c.args.graph.now in
    let value = key_arc g.W.Weight.wide_value in
    let part = map value c.put_part.new.out.items in
    let key = c.item-key.result.now in
    let is : part ++ left_from (rest key) c.in_ok-next.next ≡ rest key c.args.from = c.in_ok-next.ensures.put ∙ ap (λ zs. map value zs ++ rest key c.args.from) c.clear.ensures.items in
    λ none. taking_stops (g.N.Names.graph c.args.graph.now) c.args.limit c.args.place o.names (map (valued_state g.W.Weight.value) o.states.states) (map (valued_arc g.W.Weight.value) o.states.arcs) o.total o.overflow c.args.fits (λ n. rest n c.args.from) c.requires.taking key part (left_from (rest key) c.in_ok-next.next) c.item-key.ensures is (rw (c.in_default.is, c.expect_names.ensures) at c.in_ok-fits.ensures.put)

pub returns-clause-taking : goal.returns-clause-taking
returns-clause-taking g c =
    let o = c.args.output.now in
    let graph = g.N.Names.graph c.args.graph.now in
    let rest = g.N.Names.rest c.args.graph.now in
    let value = key_arc g.W.Weight.wide_value in
    let made = c.put_part.new.out.items in
    let part = map value made in
    let key = c.item-key.result.now in
    let count = c.counted-output.result in
    let out = map (valued_arc g.W.Weight.value) c.number_arcs.new.states.arcs in
    let states = map (valued_state g.W.Weight.value) o.states.states in
    let later : g.row.N-Key.Denot → List (Arc Cost g.row.N-Key.Denot) = λ n. left_from (rest n) c.in_ok-next.next in
    let is : part ++ left_from (rest key) c.in_ok-next.next ≡ rest key c.args.from = c.in_ok-next.ensures.put ∙ ap (λ zs. map value zs ++ rest key c.args.from) c.clear.ensures.items in
    let size : length part ≡ length made = length-map made value in
    let many : c.len-more.result ≡ length part = omega (arith, c.len-more.ensures, c.put_part.new.out.ok, size) in
    let counts : (k : ℕ) → IsCounted o.total k → IsCounted count (k + length part) = λ k h. subst (λ (m : ℕ). IsCounted count (k + m)) many (c.counted-output.ensures.count k h) in
    let goes = taking_goes graph c.args.limit c.args.place o.names states (map (valued_arc g.W.Weight.value) o.states.arcs) o.total o.overflow c.args.fits (λ n. rest n c.args.from) c.requires.taking part count counts key later c.number_arcs.new.names out c.still_fits-so_far.result c.in-Some.fits c.item-key.ensures is c.still_fits-so_far.ensures (rw (c.in-Some.is, c.expect_names.ensures) at c.in_ok-fits.ensures.put) in
    subst (λ (ss : List (State g.row.W.Denot)). IsTaking graph c.args.limit c.args.place later c.number_arcs.new.names (map (valued_state g.W.Weight.value) ss) out count o.overflow c.in-Some.fits) (sym c.number_arcs.ensures.others) goes
