use Rattle.std.proofs.Common.{ℕ, sym, ap, subst, ◌∙◌}
use Rattle.fst_semiring.specs.Cost.{Cost}
use Rattle.fst_semiring.specs.Semiring.{InRange}
use Rattle.fst_machine.specs.Machine.{Arc}
use Rattle.fst_codex.proofs.TurnedBack.{decoded_known}
use Rattle.fst_codex.proofs.decoding.decode_arc.Goals as goal

pub returns-in_default : goal.returns-in_default
returns-in_default g c good =
    let own : Arc g.row.W.Denot ℕ = record { ilabel = c.arc.inside.ilabel; olabel = c.arc.inside.olabel; weight = c.arc.inside.weight; next = c.arc.inside.next } in
    let made = decoded_known g.W.Weight.KIND g.W.Weight.value c.args.codex.now c.weights.result c.entries.result.now c.args.arc own c.index-entries-arc.result (record { ilabel = c.entry.inside.ilabel; olabel = c.entry.inside.olabel; weight = c.entry.inside.weight }) c.weights.ensures c.entries.ensures.value c.arc.view_is c.entry.view_is c.if-arc-eq0.false c.requires c.index-entries-arc.is in
    c.in_default.ensures (subst (λ (b : Arc Cost ℕ). InRange b.weight) made good)

pub returns : goal.returns
returns g c =
    let own : Arc g.row.W.Denot ℕ = record { ilabel = c.arc.inside.ilabel; olabel = c.arc.inside.olabel; weight = c.arc.inside.weight; next = c.arc.inside.next } in
    let made = decoded_known g.W.Weight.KIND g.W.Weight.value c.args.codex.now c.weights.result c.entries.result.now c.args.arc own c.index-entries-arc.result (record { ilabel = c.entry.inside.ilabel; olabel = c.entry.inside.olabel; weight = c.entry.inside.weight }) c.weights.ensures c.entries.ensures.value c.arc.view_is c.entry.view_is c.if-arc-eq0.false c.requires c.index-entries-arc.is in
    (ap (λ (v : Cost). record { ilabel = c.entry.inside.ilabel; olabel = c.entry.inside.olabel; weight = v; next = c.arc.inside.next }) c.in-Some.ensures.0 ∙ sym made, c.in-Some.ensures.1)
