use Rattle.std.proofs.Common.{◌≡◌, ℕ, List, Some, false, true≢false, nat_eq, map, sym, ap, ◌∙◌, subst, arith}
use Rattle.std.proofs.lemmas.Bool.{ne_eqb}
use Rattle.std.proofs.lemmas.List.{take_all}
use Rattle.std.proofs.lemmas.Option.{slice_get-get_or}
use Rattle.fst_machine.specs.Machine.{Arc, valued_arc}
use Rattle.fst_machine.proofs.Elements.{at_Has}
use Rattle.fst_walk.specs.Names.{key_arc}
use Rattle.fst_delayed.proofs.Keys.{Has-map}
use Rattle.fst_delayed.specs.Handed.{Name}
use Rattle.fst_lattice.specs.Walks.{label_arcs}
use Rattle.fst_lattice.proofs.Finding.{silent_more}
use Rattle.fst_batch.specs.Filling.{Continues}
use Rattle.fst_batch.proofs.Lattices.{numbers_more}
use Rattle.fst_batch.proofs.numbering.number_label.Goals.{else-arc-eq0, then-arc-eq0}
use Rattle.fst_batch.proofs.numbering.number_label.Goals as goal

pub number_one-requires-clause-found : goal.number_one-requires-clause-found
number_one-requires-clause-found g c =
    let value = key_arc g.W.Weight.wide_value in
    let a = c.arc-item.result in
    let there = at_Has c.args.arcs.now c.loop-arc.arc-index a (slice_get-get_or c.args.arcs.now c.loop-arc.arc-index a (omega arith) ∙ ap Some (sym c.arc-item.is)) in
    c.requires.found (value a) (Has-map value c.args.arcs.now a there)

pub loop-arc-preserved : goal.loop-arc-preserved
loop-arc-preserved g c =
    let value = g.W.Weight.wide_value in
    let seen = key_arc value in
    record {
      arcs = numbers_more c.args.points.now c.args.label c.args.position seen c.args.arcs.now c.loop-arc.arc-index c.arc-item.result (map (valued_arc value) c.args.out.now.items) (map (valued_arc value) c.loop-arc.out.items)
          (map (valued_arc value) c.number_one.new.out.items) (omega arith) c.arc-item.is c.loop-arc.invariant.arcs c.in_ok-number_one.ensures;
      silent = elim c.if-arc-eq0.branch [
        | then-arc-eq0 w ↦ λ e. absurd (true≢false (sym w.silent-is ∙ e))
        | else-arc-eq0 w ↦ λ e. silent_more seen c.args.arcs.now c.loop-arc.arc-index c.arc-item.result (omega arith) c.arc-item.is (c.loop-arc.invariant.silent (sym w.silent-is ∙ e))
            (subst (λ (a : Arc _ (Name ℕ ℕ)). nat_eq (seen a).ilabel 0 ≡ false) c.arc.view_is (ne_eqb c.arc.inside.ilabel 0 w.if-arc-eq0.false))
      ];
    }

pub returns-clause-arcs : goal.returns-clause-arcs
returns-clause-arcs g c =
    let value = g.W.Weight.wide_value in
    subst (λ (xs : List _). Continues c.args.points.now (label_arcs c.args.label c.args.position (map (key_arc value) xs)) (map (valued_arc value) c.args.out.now.items) (map (valued_arc value) c.loop-arc.out.items))
    (take_all c.loop-arc.arc-index c.args.arcs.now (omega arith)) c.loop-arc.invariant.arcs
