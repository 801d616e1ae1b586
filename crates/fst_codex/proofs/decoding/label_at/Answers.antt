use Rattle.std.proofs.Common.{ℕ, sym, ap}
use Rattle.fst_machine.specs.Machine.{Arc}
use Rattle.fst_trim.proofs.Places.{read_here}
use Rattle.fst_codex.proofs.TurnedBack.{met_low}
use Rattle.fst_codex.proofs.decoding.label_at.Goals as goal

pub returns : goal.returns
returns g c =
    let a = c.index-arcs-step.result in
    record {
      arcs = c.arcs-arcs.result.now;
      has = c.arcs-arcs.ensures;
      holds = record { arc = a; there = read_here c.arcs-arcs.result.now c.args.step.place a (met_low c.args.numbers c.args.fst.now c.args.step.state c.args.step.place c.arcs-arcs.result.now c.arcs-arcs.ensures c.requires) c.index-arcs-step.is; is = sym (ap (λ (b : Arc g.row.W.Denot ℕ). b.ilabel) c.arc.view_is) };
    }
