use Rattle.std.proofs.Common.{inl, inr, refl, sym, ap, subst}
use Rattle.fst_machine.specs.Machine.{Machine}
use Rattle.fst_trim.specs.Handed.{machine_of}
use Rattle.fst_trim.specs.Sides.{IsSortedOn}
use Rattle.fst_trim.specs.Sorting.{IsArcSorted}
use Rattle.fst_trim.specs.declared.side.Side.TheVariants.{Input}
use Rattle.fst_trim.proofs.Valued.{IsArcSorted-valued, IsSortedOn-valued}
use Rattle.fst_setops.proofs.ready.in_order.Goals as goal

pub returns-then-is_sorted : goal.returns-then-is_sorted
returns-then-is_sorted g c =
    let stands : IsSortedOn Input (machine_of c.args.a) = subst (λ (m : Machine g.row.W.Denot). IsSortedOn Input m) c.fst.ensures (c.is_sorted.ensures.0 c.if-is_sorted.true) in
    inl ((IsSortedOn-valued g.W.Weight.value Input (machine_of c.args.a)).0 stands, refl)

pub returns-in_ok-arcsort-in-Lent : goal.returns-in_ok-arcsort-in-Lent
returns-in_ok-arcsort-in-Lent g c =
    let new = c.in_ok-arcsort-in-Lent.field-0 in
    let sorted : IsArcSorted Input (machine_of c.args.a) new = subst (λ (m : Machine g.row.W.Denot). IsArcSorted Input m new) (sym (ap machine_of c.in-Lent.is)) c.in_ok-arcsort-in-Lent.ensures.machine in
    inr (IsArcSorted-valued g.W.Weight.value Input (machine_of c.args.a) new sorted)

pub returns-in_ok-into_arcsorted-in-Own : goal.returns-in_ok-into_arcsorted-in-Own
returns-in_ok-into_arcsorted-in-Own g c =
    let new = c.in_ok-into_arcsorted-in-Own.field-0 in
    let sorted : IsArcSorted Input (machine_of c.args.a) new = subst (λ (m : Machine g.row.W.Denot). IsArcSorted Input m new) (sym (ap machine_of c.in-Own.is)) c.in_ok-into_arcsorted-in-Own.ensures.machine in
    inr (IsArcSorted-valued g.W.Weight.value Input (machine_of c.args.a) new sorted)
