use Rattle.std.proofs.Common.{◌≡◌, ℕ, List, false, get_or, map, refl, sym, ap, ◌∙◌, subst, subst₂}
use Rattle.fst_machine.specs.Machine.{Arc, valued_arc}
use Rattle.fst_epsilon.specs.Merging.{Betters, HasNoKey, IsFirstWithKey, key_of, spot_of}
use Rattle.fst_epsilon.specs.declared.merged.ArcKey.{ArcKey}
use Rattle.fst_epsilon.proofs.Putting.{none_marked, put_better, put_new}
use Rattle.fst_epsilon.proofs.few.put_by_place.Goals as goal

pub returns-then-not-spots-spot-clause-arcs : goal.returns-then-not-spots-spot-clause-arcs
returns-then-not-spots-spot-clause-arcs g c =
    let value = g.W.Weight.value in
    let arcs = c.args.arcs.now.items in
    let spots = c.args.spots.now in
    let place : c.spot_of-spot.result ≡ spot_of (key_of c.args.arc) = c.spot_of-spot.ensures.spot ∙ ap spot_of c.arc_key-key.ensures in
    let unmarked : get_or spots (spot_of (key_of c.args.arc)) false ≡ false = ap (λ (k : ℕ). get_or spots k false) (sym place) ∙ c.if-not-spots-spot.true in
    ap (map (valued_arc value)) c.in_ok-push.ensures.items ∙ sym (put_new value c.args.arc arcs (none_marked value c.args.arc spots arcs c.requires.marked unmarked))

pub returns-in-Some-clause-arcs : goal.returns-in-Some-clause-arcs
returns-in-Some-clause-arcs g c =
    let value = g.W.Weight.value in
    let arcs = c.args.arcs.now.items in
    let first = subst₂ (λ (k : ArcKey) (zs : List (Arc g.row.W.Denot ℕ)). IsFirstWithKey k zs c.in-Some.place) c.arc_key-key.ensures c.as_slice.ensures.value c.in-Some.ensures in
    sym (put_better value c.args.arc arcs c.better.new.arcs.items c.in-Some.place (value c.args.arc.weight) refl first.met first.first
    (subst (λ (a : Arc g.row.W.Denot ℕ). Betters value c.in-Some.place (value a.weight) arcs c.better.new.arcs.items) c.arc.view_is c.better.ensures.better))

pub returns-in_ok-push-in-None-clause-arcs : goal.returns-in_ok-push-in-None-clause-arcs
returns-in_ok-push-in-None-clause-arcs g c =
    let value = g.W.Weight.value in
    let arcs = c.args.arcs.now.items in
    ap (map (valued_arc value)) c.in_ok-push-in-None.ensures.items ∙ sym (put_new value c.args.arc arcs (subst₂ (λ (k : ArcKey) (zs : List (Arc g.row.W.Denot ℕ)). HasNoKey k zs) c.arc_key-key.ensures c.as_slice.ensures.value c.in-None.ensures))
