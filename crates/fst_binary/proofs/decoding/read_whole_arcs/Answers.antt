use Rattle.std.proofs.Common.{◌≡◌, ℕ, ◌+◌, ◌-◌, ◌*◌, ◌++◌, ◌∷◌, [], map, ap, subst, ◌∙◌, arith}
use Rattle.std.proofs.lemmas.List.{map_push}
use Rattle.fst_machine.specs.Machine.{valued_arc}
use Rattle.fst_machine.specs.OpenStates.{OpenStates}
use Rattle.fst_binary.specs.Reading.{arc_at, arcs_at}
use Rattle.fst_bytes.specs.Reading.{number_count, with_front}
use Rattle.fst_bytes.proofs.Lengths.{length_push}
use Rattle.fst_bytes.proofs.Loops.{many_go_on}
use Rattle.fst_binary.proofs.Whole.{same_place}
use Rattle.fst_binary.proofs.decoding.read_whole_arcs.Goals as goal

pub loop-read-preserved : goal.loop-read-preserved
loop-read-preserved g c =
    let value = g.W.Weight.value in
    let kind = g.W.Weight.KIND in
    let arc = c.in-Some.arc in
    let put = c.in_ok-put_arc.ensures.ok in
    let grown : c.put_arc.new.self.arcs ≡ c.loop-read.list.arcs ++ arc ∷ [] = ap (λ (o : OpenStates g.row.W.Denot). o.arcs) put in
    let more : map (valued_arc value) c.put_arc.new.self.arcs ≡ map (valued_arc value) c.loop-read.list.arcs ++ valued_arc value arc ∷ [] = rw grown (map_push (valued_arc value) c.loop-read.list.arcs arc) in
    let numbers : number_count c.KIND.result ≡ number_count kind = ap number_count c.KIND.ensures in
    let after = c.loop-read.behind + (12 + c.numbered_length-len.result) in
    let place : c.loop-read.behind + 13 + 8 * number_count kind ≡ after = omega (arith, numbers, c.numbered_length-len.ensures) in
    let read = same_place (arc_at kind c.args.states c.args.bytes.now c.loop-read.behind) (valued_arc value arc) (c.loop-read.behind + 13 + 8 * number_count kind) after place c.in-Some.ensures in
    record {
      so_far = rw more (many_go_on (arc_at kind c.args.states c.args.bytes.now) (map (valued_arc value) c.loop-read.list.arcs) c.args.count c.loop-read.read c.loop-read.behind (valued_arc value arc) after (arcs_at kind c.args.states c.args.count c.args.bytes.now c.args.at) c.loop-read-test.true read c.loop-read.invariant.so_far);
      count = omega (arith, length_push _ _ arc grown, c.loop-read.invariant.count);
      others = ap (λ (o : OpenStates g.row.W.Denot). o.states) put ∙ c.loop-read.invariant.others;
      behind = omega (arith, c.if-bytes-behind.false, c.loop-read.invariant.behind);
    }

pub returns-clause-so_far : goal.returns-clause-so_far
returns-clause-so_far g c =
    let kind = g.W.Weight.KIND in
    let none : c.args.count - c.loop-read.read ≡ c.args.count - c.args.count = omega (arith, c.loop-read-test.false) in
    subst (λ (n : ℕ). with_front (map (valued_arc g.W.Weight.value) c.loop-read.list.arcs) (arcs_at kind c.args.states n c.args.bytes.now c.loop-read.behind) ≡ arcs_at kind c.args.states c.args.count c.args.bytes.now c.args.at) none c.loop-read.invariant.so_far
