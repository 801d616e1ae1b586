use Rattle.std.proofs.Common.{◌≡◌, ℕ, List, [], ◌∷◌, ◌++◌, length, map, sym, ap, ap₂, ◌∙◌, subst, append-nil, append_assoc, lit≤, arith}
use Rattle.std.proofs.lemmas.List.{length-append, nil_from_length}
use Rattle.fst_semiring.specs.Cost.{Cost, infinite}
use Rattle.fst_semiring.specs.Semiring.{IsWide, times}
use Rattle.fst_semiring.proofs.Ranges.{Within-more}
use Rattle.fst_machine.specs.BreadthFirst.{Has}
use Rattle.fst_machine.specs.Graph.{graph_of}
use Rattle.fst_machine.specs.Machine.{Arc, valued}
use Rattle.fst_walk.specs.Names.{key_arc}
use Rattle.fst_determinize.specs.Subsets.{IsSubset, Member}
use Rattle.fst_nbest.specs.Ready.{dist_in}
use Rattle.fst_select.specs.Keys.{best_total}
use Rattle.fst_select.specs.Outlook.{most_by}
use Rattle.fst_select.specs.Parting.{AreOpenParts, GoesOn, arcs_of}
use Rattle.fst_select.proofs.OpenParts.{between, no_parts, one_added, one_done, one_skipped}
use Rattle.fst_select.proofs.PrefixArcs.{arc_subset, arc_wide, labels_ascend}
use Rattle.fst_select.proofs.PrefixBounds.{prefix_members, prefix_range}
use Rattle.fst_select.proofs.parting.put_open_parts.Given.{Over}
use Rattle.fst_select.proofs.parting.put_open_parts.Goals.{In-Some}
use Rattle.fst_select.proofs.parting.put_open_parts.Goals as goal

-- the arc that is taken off is one of the subset's
there : (g : Over) (c : In-Some g)
    → Has (arcs_of g.W.Weight.KIND (graph_of (valued g.W.Weight.value c.args.outlook.now.machine)) c.requires.subset.1) (key_arc g.W.Weight.wide_value c.in-Some.arc)
there g c =
    let w = g.W.Weight in
    let value : Arc g.row.W-Wide.Denot (List Member) → Arc Cost (List Member) = key_arc w.wide_value in
    let r = c.requires.subset in
    let arcs = arcs_of w.KIND (graph_of (valued w.value c.args.outlook.now.machine)) r.1 in
    let before = c.loop-arc.invariant.parts r.0 r.1 r.2 r.3 r.4 in
    let all = one_done value arcs before.0 c.loop-arc.arcs.items c.pop.new.self.items c.in-Some.arc c.in-Some.ensures.items before.1 in
    between arcs (map value c.pop.new.self.items) before.0 (value c.in-Some.arc) all

pub loop-arc-init : goal.loop-arc-init
loop-arc-init g c =
    let w = g.W.Weight in
    let o = c.args.outlook.now in
    let graph = graph_of (valued w.value o.machine) in
    record {
      grow = ([], sym (append-nil c.args.subsets.now.items));
      parts = λ x s long is same. (
        [],
        sym same ∙ sym (append-nil (map (key_arc w.wide_value) c.args.arcs.now.items)),
        no_parts w.KIND graph (dist_in w.wide_value o.dist) o.due w.wide_value x (w.wide_value c.args.by) c.args.owner c.args.depth c.args.subsets.now.items c.args.parts.now.items c.requires.clear,
      );
    }

pub wide_times-own-requires-clause-a_wide : goal.wide_times-own-requires-clause-a_wide
wide_times-own-requires-clause-a_wide g c =
    let w = g.W.Weight in
    let r = c.requires.subset in
    Within-more most_by 1329227995784915872903807060280344575 (w.wide_value c.args.by) (lit≤ tt)
    (prefix_range w.KIND w.value c.args.outlook.now.machine c.requires.weighed r.0 (w.wide_value c.args.by) r.1 r.3 (omega (arith, r.2, c.requires.depth)))

pub wide_times-own-requires-clause-b_wide : goal.wide_times-own-requires-clause-b_wide
wide_times-own-requires-clause-b_wide g c =
    let at = (goal.at.wide_times-own-requires-clause-b_wide g c).In-Some in
    let w = g.W.Weight in
    let r = c.requires.subset in
    let m = c.args.outlook.now.machine in
    let members = prefix_members w.KIND w.value m c.requires.weighed r.0 (w.wide_value c.args.by) r.1 r.3 (omega (arith, r.2, c.requires.depth)) in
    subst IsWide (ap w.wide_value (sym (ap (λ (z : Arc g.row.W-Wide.Denot (List Member)). z.weight) c.arc.view_is)))
    (arc_wide w.KIND w.value m c.requires.weighed r.1 members (key_arc w.wide_value c.in-Some.arc) (there g at))

pub open_part-requires-clause-subset : goal.open_part-requires-clause-subset
open_part-requires-clause-subset g c =
    let before = (goal.at.open_part-requires-clause-subset g c).In-Some in
    let w = g.W.Weight in
    let r = c.requires.subset in
    let graph = graph_of (valued w.value c.args.outlook.now.machine) in
    let a = c.in-Some.arc in
    let y : List ℕ = r.0 ++ a.ilabel ∷ [] in
    let at = arc_subset w.KIND graph r.1 c.requires.weighed.weighted r.0 (w.wide_value c.args.by) r.3 (key_arc w.wide_value a) (there g before) in
    let weight_is : c.arc.inside.weight ≡ a.weight = ap (λ (z : Arc g.row.W-Wide.Denot (List Member)). z.weight) c.arc.view_is in
    let next_is : c.arc.inside.next ≡ a.next = ap (λ (z : Arc g.row.W-Wide.Denot (List Member)). z.next) c.arc.view_is in
    let own_is : w.wide_value c.wide_times-own.result ≡ times w.KIND (w.wide_value c.args.by) (w.wide_value a.weight)
    = c.wide_times-own.ensures.product ∙ ap (λ (v : g.row.W-Wide.Denot). times w.KIND (w.wide_value c.args.by) (w.wide_value v)) weight_is in (
      y,
      omega (arith, length-append r.0 (a.ilabel ∷ []), r.2),
      subst (λ (n : List Member). IsSubset w.KIND graph y (w.wide_value c.wide_times-own.result) n) (sym next_is) (subst (λ (v : Cost). IsSubset w.KIND graph y v a.next) (sym own_is) at),
    )

pub loop-arc-preserved-in_default-open_part : goal.loop-arc-preserved-in_default-open_part
loop-arc-preserved-in_default-open_part g c =
    let w = g.W.Weight in
    let o = c.args.outlook.now in
    let value : Arc g.row.W-Wide.Denot (List Member) → Arc Cost (List Member) = key_arc w.wide_value in
    let graph = graph_of (valued w.value o.machine) in
    let d = dist_in w.wide_value o.dist in
    let by = w.wide_value c.args.by in
    let a = c.in-Some.arc in
    let weight_is : c.arc.inside.weight ≡ a.weight = ap (λ (z : Arc g.row.W-Wide.Denot (List Member)). z.weight) c.arc.view_is in
    let next_is : c.arc.inside.next ≡ a.next = ap (λ (z : Arc g.row.W-Wide.Denot (List Member)). z.next) c.arc.view_is in
    let own_is : w.wide_value c.wide_times-own.result ≡ times w.KIND by (w.wide_value a.weight)
    = c.wide_times-own.ensures.product ∙ ap (λ (v : g.row.W-Wide.Denot). times w.KIND by (w.wide_value v)) weight_is in
    let none : best_total w.KIND d (times w.KIND by (w.wide_value a.weight)) a.next ≡ infinite = ap₂ (best_total w.KIND d) (sym own_is) (sym next_is) ∙ c.in_default-open_part.ensures.none in
    record {
      grow = c.loop-arc.invariant.grow;
      parts = λ x s long is same.
          let before = c.loop-arc.invariant.parts x s long is same in
          let all = one_done value (arcs_of w.KIND graph s) before.0 c.loop-arc.arcs.items c.pop.new.self.items a c.in-Some.ensures.items before.1 in
          (value a ∷ before.0, all, one_skipped w.KIND graph d o.due w.wide_value x by c.args.owner c.args.depth (value a) before.0 c.loop-arc.subsets.items c.loop-arc.parts.items before.2 none);
    }

pub loop-arc-preserved : goal.loop-arc-preserved
loop-arc-preserved g c =
    let w = g.W.Weight in
    let o = c.args.outlook.now in
    let value : Arc g.row.W-Wide.Denot (List Member) → Arc Cost (List Member) = key_arc w.wide_value in
    let graph = graph_of (valued w.value o.machine) in
    let d = dist_in w.wide_value o.dist in
    let by = w.wide_value c.args.by in
    let a = c.in-Some.arc in
    let subsets = c.loop-arc.subsets.items in
    let parts = c.loop-arc.parts.items in
    let part = c.in-Some-open_part.part in
    let place = c.in-Some-open_part.ensures.place in
    let weight_is : c.arc.inside.weight ≡ a.weight = ap (λ (z : Arc g.row.W-Wide.Denot (List Member)). z.weight) c.arc.view_is in
    let next_is : c.arc.inside.next ≡ a.next = ap (λ (z : Arc g.row.W-Wide.Denot (List Member)). z.next) c.arc.view_is in
    let own_is : w.wide_value c.wide_times-own.result ≡ times w.KIND by (w.wide_value a.weight)
    = c.wide_times-own.ensures.product ∙ ap (λ (v : g.row.W-Wide.Denot). times w.KIND by (w.wide_value v)) weight_is in
    let goes : GoesOn w.KIND graph d o.due w.wide_value a.next c.args.owner c.args.depth part
    = subst (λ (n : List Member). GoesOn w.KIND graph d o.due w.wide_value n c.args.owner c.args.depth part) next_is c.in-Some-open_part.ensures.some in
    let grown : c.push-in-Some.new.self.items ≡ subsets ++ a.next ∷ [] = c.in_ok-push-2.ensures.items ∙ ap (λ (n : List Member). subsets ++ n ∷ []) next_is in
    let slot : part.slot ≡ length subsets = omega (arith, place.0, c.len-slot.ensures, c.loop-arc.subsets.ok) in
    let tail : part.tail ≡ a.ilabel = place.1 ∙ ap (λ (z : Arc g.row.W-Wide.Denot (List Member)). z.ilabel) c.arc.view_is in
    let weight : w.wide_value part.by ≡ times w.KIND by (w.wide_value a.weight) = ap w.wide_value place.2 ∙ own_is in
    let so_far = c.loop-arc.invariant.grow in
    record {
      grow = (so_far.0 ++ a.next ∷ [], grown ∙ (ap (λ (s : List (List Member)). s ++ a.next ∷ []) so_far.1 ∙ append_assoc c.args.subsets.now.items so_far.0 (a.next ∷ [])));
      parts = λ x s long is same.
          let arcs = arcs_of w.KIND graph s in
          let before = c.loop-arc.invariant.parts x s long is same in
          let all = one_done value arcs before.0 c.loop-arc.arcs.items c.pop.new.self.items a c.in-Some.ensures.items before.1 in (
            value a ∷ before.0,
            all,
            one_added w.KIND graph d o.due w.wide_value x by c.args.owner c.args.depth (value a) before.0 subsets parts before.2
                (arc_subset w.KIND graph s c.requires.weighed.weighted x by is (value a) (between arcs (map value c.pop.new.self.items) before.0 (value a) all))
                (labels_ascend w.KIND graph s (map value c.pop.new.self.items) before.0 (value a) all)
                part c.push-in-Some.new.self.items c.push.new.self.items c.in_ok-push.ensures.items grown slot tail weight goes,
          );
    }

pub returns-clause-grow : goal.returns-clause-grow
returns-clause-grow g c = c.loop-arc.invariant.grow

pub returns-clause-parts : goal.returns-clause-parts
returns-clause-parts g c x s long is same =
    let w = g.W.Weight in
    let o = c.args.outlook.now in
    let graph = graph_of (valued w.value o.machine) in
    let before = c.loop-arc.invariant.parts x s long is same in
    let none : c.loop-arc.arcs.items ≡ [] = nil_from_length c.loop-arc.arcs.items (omega (arith, c.in_default.ensures.cases, c.loop-arc.arcs.ok)) in
    let all : arcs_of w.KIND graph s ≡ before.0 = before.1 ∙ ap (λ (left : List (Arc g.row.W-Wide.Denot (List Member))). map (key_arc w.wide_value) left ++ before.0) none in
    let d = dist_in w.wide_value o.dist in
    let by = w.wide_value c.args.by in
    subst (λ (arcs : List (Arc Cost (List Member))). AreOpenParts w.KIND graph d o.due w.wide_value x by c.args.owner c.args.depth arcs c.loop-arc.subsets.items c.loop-arc.parts.items)
    (sym all) before.2
