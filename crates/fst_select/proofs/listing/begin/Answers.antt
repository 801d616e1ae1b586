use Rattle.std.proofs.Common.{◌≡◌, ℕ, true, false, List, [], ◌∷◌, ◌++◌, inr, length, refl, sym, ap, subst, ◌∙◌, arith}
use Rattle.fst_semiring.specs.Cost.{Cost, infinite}
use Rattle.fst_machine.specs.Graph.{graph_of}
use Rattle.fst_machine.specs.Machine.{Machine, valued}
use Rattle.fst_determinize.specs.Subsets.{IsSubset, Member}
use Rattle.fst_determinize.specs.Weighed.{AreMembers}
use Rattle.fst_nbest.specs.Ready.{dist_in}
use Rattle.fst_select.specs.declared.entry.Entry.{Entry}
use Rattle.fst_select.specs.Frontier.{IsKey}
use Rattle.fst_select.specs.Keys.{IsShortest, best_total}
use Rattle.fst_select.specs.Searching.{IsSearch}
use Rattle.fst_select.specs.Strings.{IsSpelled}
use Rattle.fst_select.proofs.BranchFronts.{open_key, open_solid}
use Rattle.fst_select.proofs.PrefixBounds.{prefix_members}
use Rattle.fst_select.proofs.SearchSteps.{no_start, none_started, nothing_listed, root_listed, root_subset}
use Rattle.fst_select.proofs.StateCounts.{far}
use Rattle.fst_select.proofs.listing.begin.Goals as goal

pub returns-in_default-clause-search : goal.returns-in_default-clause-search
returns-in_default-clause-search g c =
    let w = g.W.Weight in
    let o = c.args.outlook.now in
    let graph = graph_of (valued w.value o.machine) in
    nothing_listed w.KIND graph w.wide_value o.due (no_start w.KIND graph (none_started w.KIND w.value o.machine c.machine.result.now c.start_subset.result c.start_subset.ensures c.machine.ensures.same c.in_default.is))
    c.args.subsets.now.items c.new.result.items c.new-2.result.items c.new.ensures.items c.new-2.ensures.items

pub total-total-requires-clause-members : goal.total-total-requires-clause-members
total-total-requires-clause-members g c =
    let w = g.W.Weight in
    let o = c.args.outlook.now in
    let is = root_subset w.KIND w.value o.machine c.machine.result.now c.start_subset.result c.in-Some.subset (w.wide_value c.widen-one.result) c.start_subset.ensures c.machine.ensures.same c.in-Some.is
    (c.widen-one.ensures.same ∙ c.one.ensures) in
    prefix_members w.KIND w.value o.machine c.machine.ensures.weighed [] (w.wide_value c.widen-one.result) c.in-Some.subset is (omega arith)

pub returns-then-is_zero_wide-clause-search : goal.returns-then-is_zero_wide-clause-search
returns-then-is_zero_wide-clause-search g c =
    let w = g.W.Weight in
    let o = c.args.outlook.now in
    let graph = graph_of (valued w.value o.machine) in
    let is = root_subset w.KIND w.value o.machine c.machine.result.now c.start_subset.result c.in-Some.subset (w.wide_value c.widen-one.result) c.start_subset.ensures c.machine.ensures.same c.in-Some.is
    (c.widen-one.ensures.same ∙ c.one.ensures) in
    let none = c.is_zero_wide.ensures.zero.0 c.if-is_zero_wide.true in
    nothing_listed w.KIND graph w.wide_value o.due
    (λ x v h. open_solid w.KIND graph c.machine.ensures.weighed.weighted (dist_in w.wide_value o.dist) (far w.KIND graph (dist_in w.wide_value o.dist) c.machine.ensures.known.measured.exact)
    [] (w.wide_value c.widen-one.result) c.in-Some.subset is x v h.0 (sym c.total-total.ensures ∙ none))
    c.args.subsets.now.items c.new.result.items c.new-2.result.items c.new.ensures.items c.new-2.ensures.items

pub left-left-requires-clause-members : goal.left-left-requires-clause-members
left-left-requires-clause-members g c =
    let w = g.W.Weight in
    let o = c.args.outlook.now in
    let is = root_subset w.KIND w.value o.machine c.machine.result.now c.start_subset.result c.in-Some.subset (w.wide_value c.widen-one.result) c.start_subset.ensures c.machine.ensures.same c.in-Some.is
    (c.widen-one.ensures.same ∙ c.one.ensures) in
    subst (λ (z : Machine g.row.W.Denot). AreMembers (length z.states) c.in-Some.subset) (sym c.in_ok-make_due.ensures.machine)
    (prefix_members w.KIND w.value o.machine c.machine.ensures.weighed [] (w.wide_value c.widen-one.result) c.in-Some.subset is (omega arith))

pub returns-clause-search : goal.returns-clause-search
returns-clause-search g c =
    let w = g.W.Weight in
    let o = c.args.outlook.now in
    let graph = graph_of (valued w.value o.machine) in
    let d = dist_in w.wide_value o.dist in
    let by = w.wide_value c.widen-one.result in
    let members = c.in-Some.subset in
    let due = c.make_due.new.self.due in
    let entry : Entry g.row.W-Wide.Denot = record { total = c.total-total.result; long = c.left-left.result; by = c.widen-one.result; owner = 0; depth = 0; tail = 0; closed = false; slot = 0 } in
    let is = root_subset w.KIND w.value o.machine c.machine.result.now c.start_subset.result members by c.start_subset.ensures c.machine.ensures.same c.in-Some.is (c.widen-one.ensures.same ∙ c.one.ensures) in
    let total : w.wide_value c.total-total.result ≡ best_total w.KIND d by members = c.total-total.ensures in
    let solid : best_total w.KIND d by members ≡ infinite → ⊥ = λ none. (let zero = c.is_zero_wide.ensures.zero.1 (total ∙ none) in let wrong : true ≡ false = sym zero ∙ c.if-is_zero_wide.false in cc) in
    let short : IsShortest w.KIND graph by (w.wide_value c.total-total.result) members c.left-left.result =
    subst (λ (z : Machine g.row.W.Denot). IsShortest w.KIND (graph_of (valued w.value z)) by (w.wide_value c.total-total.result) members c.left-left.result) c.in_ok-make_due.ensures.machine
    (c.left-left.ensures [] (subst (λ (z : Machine g.row.W.Denot). IsSubset w.KIND (graph_of (valued w.value z)) [] by members) (sym c.in_ok-make_due.ensures.machine) is)) in
    let key : IsKey (IsSpelled w.KIND graph) (record { prefix = []; closed = false; total = w.wide_value c.total-total.result; long = c.left-left.result }) =
    subst (λ (t : Cost). IsKey (IsSpelled w.KIND graph) (record { prefix = []; closed = false; total = t; long = c.left-left.result })) (sym total)
    (subst (λ (n : ℕ). IsKey (IsSpelled w.KIND graph) (record { prefix = []; closed = false; total = best_total w.KIND d by members; long = n })) (omega arith)
    (open_key w.KIND graph c.machine.ensures.weighed.weighted d (far w.KIND graph d c.machine.ensures.known.measured.exact) [] by members is c.left-left.result solid
    (subst (λ (t : Cost). IsShortest w.KIND graph by t members c.left-left.result) total short))) in
    let subsets : members ∷ [] ≡ c.push.new.self.items = sym (c.in_ok-push.ensures.items ∙ ap (λ (l : List (List Member)). l ++ members ∷ []) c.requires.clear) in
    let ready : entry ∷ [] ≡ c.push-2.new.self.items = sym (c.in_ok-push-2.ensures.items ∙ ap (λ (l : List (Entry g.row.W-Wide.Denot)). l ++ entry ∷ []) c.new.ensures.items) in
    subst (λ (es : List (Entry g.row.W-Wide.Denot)). IsSearch w.KIND graph w.wide_value due [] [] c.push.new.self.items c.push-2.new.self.items es) (sym c.new-2.ensures.items)
    (subst (λ (es : List (Entry g.row.W-Wide.Denot)). IsSearch w.KIND graph w.wide_value due [] [] c.push.new.self.items es []) ready
    (subst (λ (ss : List (List Member)). IsSearch w.KIND graph w.wide_value due [] [] ss (entry ∷ []) []) subsets
    (root_listed w.KIND graph w.wide_value due entry members refl refl refl refl refl is (inr (sym c.in_ok-make_due.ensures.due)) key)))
