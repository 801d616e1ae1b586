use Rattle.std.proofs.Common.{ℕ, false, refl, get_or, ap, sym, ◌∙◌, arith}
use Rattle.std.proofs.lemmas.Option.{slice_get_within, get_or_from_slice_get}
use Rattle.fst_machine.specs.Machine.{Arc}
use Rattle.fst_trim.proofs.Places.{read_here}
use Rattle.fst_trim.proofs.useful.leads_to.Goals as goal

pub returns : goal.returns
returns g c = (
  (λ is. absurd (cc)),
  (λ l.
      let low = slice_get_within c.args.arcs.now l.place l.arc l.there in
      let none = c.loop-arc.invariant l.place l.arc (omega (arith, low, c.loop-arc-test.false)) in
      let same = ap (λ (a : Arc g.row.V.Denot ℕ). get_or c.args.marks.now a.next false) (get_or_from_slice_get c.args.arcs.now l.place l.arc l.arc l.there) in
      sym none ∙ (same ∙ l.marked)),
)

pub returns-then-marks-arc : goal.returns-then-marks-arc
returns-then-marks-arc g c = (
  (λ is. record {
    place = c.loop-arc.arc-index;
    arc = c.arc-item.result;
    there = read_here c.args.arcs.now c.loop-arc.arc-index c.arc-item.result c.loop-arc-test.true c.arc-item.is;
    marked = ap (λ (a : Arc g.row.V.Denot ℕ). get_or c.args.marks.now a.next false) (sym c.arc.view_is) ∙ c.if-marks-arc.true;
  }),
  (λ l. refl),
)
