use Rattle.std.proofs.Common.{◌≡◌, ◌∷◌, ◌++◌, [], false, true≢false, nat_eq, ℕ, map, take, sym, ap, ◌∙◌, subst, append_assoc, arith}
use Rattle.std.proofs.lemmas.Bool.{ne_eqb}
use Rattle.fst_machine.specs.Graph.{nexts}
use Rattle.fst_machine.specs.Machine.{Arc}
use Rattle.fst_machine.proofs.Walks.{Grows-front}
use Rattle.fst_walk.specs.Making.{Passes}
use Rattle.fst_walk.specs.Names.{key_arc}
use Rattle.fst_delayed.specs.Handed.{Name}
use Rattle.fst_lattice.specs.Walks.{label_arcs}
use Rattle.fst_lattice.proofs.Finding.{found_many, found_more, silent_more}
use Rattle.fst_lattice.proofs.following.find_label.Goals.{else-arc-eq0, then-arc-eq0}
use Rattle.fst_lattice.proofs.following.find_label.Goals as goal

pub returns-then-not-fits-clause-finds : goal.returns-then-not-fits-clause-finds
returns-then-not-fits-clause-finds g c =
    let value = key_arc g.W.Weight.wide_value in
    let passes : Passes c.args.limit c.loop-arc.points (nexts (label_arcs c.args.label c.args.position (value c.arc-item.result ∷ []))) = rw c.if-not-fits.true at c.in_ok-fits.ensures.finds in
    found_many value c.args.label c.args.position c.args.points.now c.loop-arc.points c.find_one.new.points c.args.arcs.now c.loop-arc.arc-index c.arc-item.result (omega arith) c.arc-item.is c.loop-arc.invariant.grown c.args.limit passes

pub returns-then-not-fits-clause-front : goal.returns-then-not-fits-clause-front
returns-then-not-fits-clause-front g c =
    let inv = c.loop-arc.invariant in
    let value = key_arc g.W.Weight.wide_value in
    let one = Grows-front (nexts (label_arcs c.args.label c.args.position (map value (take c.loop-arc.arc-index c.args.arcs.now)))) c.args.points.now c.loop-arc.points inv.grown in
    let two = c.in_ok-fits.ensures.front in
    (one.0 ++ two.0, two.1 ∙ (ap (λ xs. xs ++ two.0) one.1 ∙ append_assoc c.args.points.now one.0 two.0))

pub loop-arc-preserved : goal.loop-arc-preserved
loop-arc-preserved g c =
    let value = key_arc g.W.Weight.wide_value in
    let more = rw c.if-not-fits.false at c.in_ok-fits.ensures.finds in
    record {
      grown = found_more value c.args.label c.args.position c.args.points.now c.loop-arc.points c.find_one.new.points c.args.arcs.now c.loop-arc.arc-index c.arc-item.result (omega arith) c.arc-item.is c.loop-arc.invariant.grown more.0;
      few = more.1;
      silent = elim c.if-arc-eq0.branch [
        | then-arc-eq0 w ↦ λ e. absurd (true≢false (sym w.silent-is ∙ e))
        | else-arc-eq0 w ↦ λ e. silent_more value c.args.arcs.now c.loop-arc.arc-index c.arc-item.result (omega arith) c.arc-item.is (c.loop-arc.invariant.silent (sym w.silent-is ∙ e))
            (subst (λ (a : Arc _ (Name ℕ ℕ)). nat_eq (value a).ilabel 0 ≡ false) c.arc.view_is (ne_eqb c.arc.inside.ilabel 0 w.if-arc-eq0.false))
      ];
    }

pub returns-clause-front : goal.returns-clause-front
returns-clause-front g c =
    let value = key_arc g.W.Weight.wide_value in
    Grows-front (nexts (label_arcs c.args.label c.args.position (map value (take c.loop-arc.arc-index c.args.arcs.now)))) c.args.points.now c.loop-arc.points c.loop-arc.invariant.grown
