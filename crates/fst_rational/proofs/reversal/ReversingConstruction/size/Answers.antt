use Rattle.std.proofs.Common.{arith}
use Rattle.std.proofs.lemmas.List.{length-map}
use Rattle.fst_machine.specs.Machine.{valued, valued_state}
use Rattle.fst_machine.proofs.Valued.{IsMachine-valued, arc_total-valued}
use Rattle.fst_rational.proofs.Backing.{reverse_size}
use Rattle.fst_rational.proofs.reversal.ReversingConstruction.size.Goals as goal

pub returns : goal.returns
returns g c =
    let value = g.W.Weight.value in
    let a = valued value c.args.self.now.a.now in
    let all = reverse_size g.W.Weight.KIND a (IsMachine-valued value c.args.self.now.a.now c.states-states.ensures.machine) in
    record {
      states = omega (arith, all.0, length-map c.args.self.now.a.now.states (valued_state value), c.states-states.ensures.value);
      arcs = omega (arith, all.1, arc_total-valued value c.args.self.now.a.now.states, c.arc_count.ensures, c.count_onward.ensures.count);
    }
