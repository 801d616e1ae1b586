use Rattle.std.proofs.Common.{◌≡◌, ◌<◌, ◌+◌, ◌-◌, ℕ, true, false, List, ◌∷◌, Some, get_or, length, map, drop, refl, sym, ap, ◌∙◌, subst, arith}
use Rattle.std.proofs.lemmas.Option.{slice_get-get_or}
use Rattle.fst_semiring.specs.Cost.{Cost}
use Rattle.fst_machine.specs.Machine.{Arc, valued_arc}
use Rattle.fst_machine.specs.BreadthFirst.{Has}
use Rattle.fst_machine.proofs.Arcs.{at_mapped}
use Rattle.fst_trim.proofs.Pairs.{drop_here}
use Rattle.fst_trim.proofs.Sought.{sought_here, sought_less, sought_past}
use Rattle.fst_trim.proofs.before.old_place.Goals as goal

-- the arc that is looked at
here : {V : Type 0} (value : V → Cost) (arcs : List (Arc V ℕ)) (at : ℕ) (x : Arc V ℕ) → at < length arcs → x ≡ get_or arcs at x → drop at (map (valued_arc value) arcs) ≡ valued_arc value x ∷ drop (at + 1) (map (valued_arc value) arcs)
here value arcs at x low read = drop_here (map (valued_arc value) arcs) at (valued_arc value x) (at_mapped (valued_arc value) arcs at x (slice_get-get_or arcs at x low ∙ ap Some (sym read)))

pub loop-at-preserved-then-not-is_kept : goal.loop-at-preserved-then-not-is_kept
loop-at-preserved-then-not-is_kept g c =
    let value = g.W.Weight.value in
    let x = c.index-arcs-at.result in
    let next : c.arc.inside.next ≡ x.next = ap (λ (a : Arc g.row.W.Denot ℕ). a.next) c.arc.view_is in
    sought_past c.args.kept.now (map (valued_arc value) c.args.arcs.now) c.args.place c.loop-at.at c.loop-at.left (valued_arc value x) (here value c.args.arcs.now c.loop-at.at x (omega arith) c.index-arcs-at.is) c.loop-at.invariant
    (λ has. let wrong : false ≡ true = c.if-not-is_kept.ensures.1 (subst (Has c.args.kept.now) (sym next) has) in absurd (cc))

pub returns-then-left-eq0 : goal.returns-then-left-eq0
returns-then-left-eq0 g c =
    let value = g.W.Weight.value in
    let x = c.index-arcs-at.result in
    let next : c.arc.inside.next ≡ x.next = ap (λ (a : Arc g.row.W.Denot ℕ). a.next) c.arc.view_is in
    sought_here c.args.kept.now (map (valued_arc value) c.args.arcs.now) c.args.place c.loop-at.at c.loop-at.left (valued_arc value x) (here value c.args.arcs.now c.loop-at.at x (omega arith) c.index-arcs-at.is) c.loop-at.invariant c.if-left-eq0.true (subst (Has c.args.kept.now) next (c.if-not-is_kept.ensures.0 refl))

pub loop-at-preserved : goal.loop-at-preserved
loop-at-preserved g c =
    let value = g.W.Weight.value in
    let x = c.index-arcs-at.result in
    let next : c.arc.inside.next ≡ x.next = ap (λ (a : Arc g.row.W.Denot ℕ). a.next) c.arc.view_is in
    sought_less c.args.kept.now (map (valued_arc value) c.args.arcs.now) c.args.place c.loop-at.at c.loop-at.left (valued_arc value x) (here value c.args.arcs.now c.loop-at.at x (omega arith) c.index-arcs-at.is) c.loop-at.invariant (c.loop-at.left - 1) (omega (arith, c.if-left-eq0.false)) (subst (Has c.args.kept.now) next (c.if-not-is_kept.ensures.0 refl))
