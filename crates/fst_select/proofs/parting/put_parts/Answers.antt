use Rattle.std.proofs.Common.{◌≡◌, ℕ, List, Some, get_or, length, slice_get, sym, ap₂, ◌∙◌, subst, arith}
use Rattle.std.proofs.lemmas.Option.{get_or_from_slice_get}
use Rattle.fst_semiring.specs.Cost.{infinite}
use Rattle.fst_machine.specs.Graph.{graph_of}
use Rattle.fst_machine.specs.Machine.{Machine, valued}
use Rattle.fst_determinize.specs.Subsets.{IsSubset, Member}
use Rattle.fst_determinize.specs.Weighed.{AreMembers}
use Rattle.fst_nbest.specs.Ready.{dist_in}
use Rattle.fst_select.specs.declared.entry.Entry.{Entry}
use Rattle.fst_select.specs.Keys.{best_total}
use Rattle.fst_select.specs.Parting.{AreParts, IsClosedPart, arcs_of}
use Rattle.fst_select.proofs.OpenParts.{open_only, with_closed}
use Rattle.fst_select.proofs.PrefixBounds.{prefix_members, prefix_range}
use Rattle.fst_select.proofs.StateCounts.{far}
use Rattle.fst_select.proofs.parting.put_parts.Goals.{After-index-subset}
use Rattle.fst_select.proofs.parting.put_parts.Goals as goal

-- what was read is what stands there
read : {X : Type 0} (xs : List X) (k : ℕ) (s r : X) → r ≡ get_or xs k r → slice_get xs k ≡ Some s → r ≡ s
read xs k s r is at = is ∙ get_or_from_slice_get xs k s r at

pub closed_part-closed-requires-clause-members : goal.closed_part-closed-requires-clause-members
closed_part-closed-requires-clause-members g c =
    let w = g.W.Weight in
    let o = c.args.outlook.now in
    let by = w.wide_value c.args.by in
    let r = c.requires.subset in
    let here = read c.args.subsets.now.items c.args.slot r.1 c.index-subset.result.now c.index-subset.ensures r.3 in
    let is = subst (λ (n : List Member). IsSubset w.KIND (graph_of (valued w.value o.machine)) r.0 by n) (sym here) r.4 in
    subst (λ (z : Machine g.row.W.Denot). AreMembers (length z.states) c.index-subset.result.now) (sym c.machine-fst.ensures.same)
    (prefix_members w.KIND w.value o.machine c.machine-fst.ensures.weighed r.0 by c.index-subset.result.now is (omega (arith, r.2, c.requires.depth)))

pub closed_part-closed-requires-clause-range : goal.closed_part-closed-requires-clause-range
closed_part-closed-requires-clause-range g c =
    let w = g.W.Weight in
    let r = c.requires.subset in
    prefix_range w.KIND w.value c.args.outlook.now.machine c.machine-fst.ensures.weighed r.0 (w.wide_value c.args.by) r.1 r.4 (omega (arith, r.2, c.requires.depth))

pub subset_arcs-requires-clause-members : goal.subset_arcs-requires-clause-members
subset_arcs-requires-clause-members g c = closed_part-closed-requires-clause-members g (goal.at.subset_arcs-requires-clause-members g c).After-index-subset

pub put_open_parts-requires-clause-subset : goal.put_open_parts-requires-clause-subset
put_open_parts-requires-clause-subset g c =
    let w = g.W.Weight in
    let r = c.requires.subset in
    let here = read c.args.subsets.now.items c.args.slot r.1 c.index-subset.result.now c.index-subset.ensures r.3 in
    (r.0, r.1, r.2, r.4, c.in_ok-arcs.ensures ∙ ap₂ (λ (z : Machine g.row.W.Denot) (n : List Member). arcs_of w.KIND (graph_of (valued w.value z)) n) c.machine-fst.ensures.same here)

pub returns-in_default-clause-parts : goal.returns-in_default-clause-parts
returns-in_default-clause-parts g c x s long at is =
    let w = g.W.Weight in
    let o = c.args.outlook.now in
    let by = w.wide_value c.args.by in
    let graph = graph_of (valued w.value o.machine) in
    let d = dist_in w.wide_value o.dist in
    let here = read c.args.subsets.now.items c.args.slot s c.index-subset.result.now c.index-subset.ensures at in
    let arcs = c.in_ok-arcs.ensures ∙ ap₂ (λ (z : Machine g.row.W.Denot) (n : List Member). arcs_of w.KIND (graph_of (valued w.value z)) n) c.machine-fst.ensures.same here in
    let none : best_total w.KIND graph.final by s ≡ infinite
    = sym (ap₂ (λ (z : Machine g.row.W.Denot) (n : List Member). best_total w.KIND (graph_of (valued w.value z)).final by n) c.machine-fst.ensures.same here) ∙ c.in_default.ensures.none in
    open_only w.KIND graph d o.due w.wide_value x by c.args.owner c.args.depth c.machine-fst.ensures.weighed.weighted (far w.KIND graph d c.machine-fst.ensures.known.measured.exact) s is
    c.put_open_parts.new.subsets.items c.put_open_parts.new.parts.items (c.in_ok-put_open_parts.ensures.parts x s long is arcs) none

pub returns-clause-parts : goal.returns-clause-parts
returns-clause-parts g c x s long at is =
    let w = g.W.Weight in
    let o = c.args.outlook.now in
    let by = w.wide_value c.args.by in
    let graph = graph_of (valued w.value o.machine) in
    let d = dist_in w.wide_value o.dist in
    let subsets = c.put_open_parts.new.subsets.items in
    let part = c.in-Some.part in
    let here = read c.args.subsets.now.items c.args.slot s c.index-subset.result.now c.index-subset.ensures at in
    let arcs = c.in_ok-arcs.ensures ∙ ap₂ (λ (z : Machine g.row.W.Denot) (n : List Member). arcs_of w.KIND (graph_of (valued w.value z)) n) c.machine-fst.ensures.same here in
    let closed : IsClosedPart w.KIND graph w.wide_value by s c.args.owner c.args.depth part
    = subst (λ (n : List Member). IsClosedPart w.KIND graph w.wide_value by n c.args.owner c.args.depth part) here
    (subst (λ (z : Machine g.row.W.Denot). IsClosedPart w.KIND (graph_of (valued w.value z)) w.wide_value by c.index-subset.result.now c.args.owner c.args.depth part)
    c.machine-fst.ensures.same c.in-Some.ensures.some) in
    subst (λ (es : List (Entry g.row.W-Wide.Denot)). AreParts w.KIND graph d o.due w.wide_value x c.args.owner c.args.depth subsets es) (sym c.in_ok-push.ensures.items)
    (with_closed w.KIND graph d o.due w.wide_value x by c.args.owner c.args.depth c.machine-fst.ensures.weighed.weighted (far w.KIND graph d c.machine-fst.ensures.known.measured.exact) s is
    subsets c.put_open_parts.new.parts.items (c.in_ok-put_open_parts.ensures.parts x s long is arcs) part closed)
