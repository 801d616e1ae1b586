use Rattle.std.proofs.Common.{◌≡◌, ◌-◌, ◌++◌, inl, inr, true≢false, ℕ, List, None, length, map, refl, sym, ap, ◌∙◌, subst, arith}
use Rattle.std.specs.Option.{option_map}
use Rattle.std.proofs.lemmas.List.{length-map}
use Rattle.fst_semiring.specs.Cost.{infinite}
use Rattle.fst_semiring.specs.declared.arc_type.ArcType.{ArcType}
use Rattle.fst_machine.specs.Machine.{valued}
use Rattle.fst_machine.specs.Graph.{graph_of}
use Rattle.fst_machine.specs.PathOrder.{WeightedPath}
use Rattle.fst_machine.specs.Paths.{places}
use Rattle.fst_machine.specs.Steps.{written}
use Rattle.fst_nbest.specs.Ready.{HasDistances, dist_in}
use Rattle.fst_nbest.specs.Totals.{AreFirstOf, wide_cmp}
use Rattle.fst_nbest.proofs.ClassLists.{IsOnTotals, not_cancelling, total_leaves, total_there, totals_begin, totals_end, totals_go_on, totals_skip}
use Rattle.fst_nbest.proofs.Counted.{of_each}
use Rattle.fst_nbest.proofs.Covering.{Has-permutation}
use Rattle.fst_nbest.proofs.Searches.{map_Has}
use Rattle.fst_nbest.proofs.SortedTurns.{fewer_left}
use Rattle.fst_nbest.proofs.TotalHeaps.{taken_each}
use Rattle.fst_nbest.proofs.by_class.by_classes.Goals as goal

pub classes-init : goal.classes-init
classes-init g c =
    let wide = g.W.Weight.wide_value in
    let value = g.M.AsMachine.value in
    let m = g.M.AsMachine.machine c.args.fst.now in
    let dist = c.args.dist.now.items in
    let totals = map wide c.in_ok-totals.totals.items in
    record {
      heap = c.in_ok-totals.ensures.heap;
      solids = c.in_ok-totals.ensures.solids;
      search = λ kind. (
          let h = subst (λ (k : ArcType). HasDistances k value wide g.M.Widens.known m dist) (not_cancelling g.W.Weight.KIND kind) c.requires.measured in
          subst (λ (walks : List (List (ℕ × ℕ))). IsOnTotals g.W.Weight.KIND kind (graph_of (valued value m)) c.args.n None totals walks) (sym (ap (map written) c.new-paths.ensures))
          (totals_begin g.W.Weight.KIND kind (graph_of (valued value m)) c.args.n totals
          (total_there value m c.state_count-states.ensures.good (dist_in wide dist) h.exact h.firm (dist_in wide dist c.args.start) totals c.in_ok-totals.ensures.all c.args.start c.requires.start refl)));
      steps = omega (arith, ap length c.new-paths.ensures);
    }

pub list_class-requires-clause-class : goal.list_class-requires-clause-class
list_class-requires-clause-class g c =
    let wide = g.W.Weight.wide_value in
    let old = c.classes.totals.items in
    let total = c.in-Some.total in
    record {
      solid = of_each (λ w. wide w ≡ infinite → ⊥) old total c.classes.invariant.solids (Has-permutation old _ total c.in-Some.ensures.same (inl refl));
      weights = c.requires.measured.weights;
      finals = c.requires.measured.finals;
    }

pub classes-smaller-then-is_done : goal.classes-smaller-then-is_done
classes-smaller-then-is_done g c = fewer_left (wide_cmp g.W.Weight.wide_value) c.classes.totals.items c.in-Some.total c.take.new.items.items c.in-Some.ensures

pub classes-preserved-then-is_done : goal.classes-preserved-then-is_done
classes-preserved-then-is_done g c =
    let wide = g.W.Weight.wide_value in
    let old = c.classes.totals.items in
    let new = c.take.new.items.items in
    let total = c.in-Some.total in
    record {
      heap = c.in-Some.ensures.heap;
      solids = taken_each (λ w. wide w ≡ infinite → ⊥) old new total c.in-Some.ensures.same c.classes.invariant.solids;
      search = λ kind. totals_skip g.W.Weight.KIND kind (graph_of (valued g.M.AsMachine.value (g.M.AsMachine.machine c.args.fst.now))) c.args.n (option_map wide c.classes.last) (map wide old) (map wide new) (wide total) (map written c.classes.paths)
          (total_leaves wide old new total c.in-Some.ensures) (c.is_done.ensures.0 c.if-is_done.true) (c.classes.invariant.search kind);
      steps = c.classes.invariant.steps;
    }

pub classes-smaller : goal.classes-smaller
classes-smaller g c = fewer_left (wide_cmp g.W.Weight.wide_value) c.classes.totals.items c.in-Some.total c.take.new.items.items c.in-Some.ensures

pub classes-preserved : goal.classes-preserved
classes-preserved g c =
    let wide = g.W.Weight.wide_value in
    let old = c.classes.totals.items in
    let new = c.take.new.items.items in
    let total = c.in-Some.total in
    let before = c.classes.paths in
    let long : length (map written before) ≡ length before = length-map before written in
    record {
      heap = c.in-Some.ensures.heap;
      solids = taken_each (λ w. wide w ≡ infinite → ⊥) old new total c.in-Some.ensures.same c.classes.invariant.solids;
      search = λ kind. (
          let graph = graph_of (valued g.M.AsMachine.value (g.M.AsMachine.machine c.args.fst.now)) in
          totals_go_on g.W.Weight.KIND kind graph c.args.n (option_map wide c.classes.last) (map wide old) (map wide new) (wide total) (map written before) (map written c.list_class.new.paths)
          (total_leaves wide old new total c.in-Some.ensures) (λ done. true≢false (sym (c.is_done.ensures.1 done) ∙ c.if-is_done.false)) (map_Has wide old total (Has-permutation old _ total c.in-Some.ensures.same (inl refl)))
          (omega (arith, long, c.classes-test.true, c.len.ensures))
          (subst (λ (k : ℕ). (more : List (WeightedPath ℕ)) × AreFirstOf g.W.Weight.KIND graph (wide total) (c.args.n - k) more × (map written c.list_class.new.paths ≡ map written before ++ map (λ (a : WeightedPath ℕ). places a.path) more)) (sym long) c.in_ok-list_class.ensures.listed)
          (c.classes.invariant.search kind));
      steps = omega (arith, c.classes.invariant.steps, c.in_ok-list_class.ensures.steps);
    }

pub returns-in_default-clause-first : goal.returns-in_default-clause-first
returns-in_default-clause-first g c =
    let wide = g.W.Weight.wide_value in
    totals_end g.W.Weight.KIND c.requires.kind (graph_of (valued g.M.AsMachine.value (g.M.AsMachine.machine c.args.fst.now))) c.args.n (option_map wide c.classes.last) (map wide c.classes.totals.items) (map written c.classes.paths)
    (inl (ap (map wide) c.in_default.ensures)) (c.classes.invariant.search c.requires.kind)

pub returns-clause-first : goal.returns-clause-first
returns-clause-first g c =
    let wide = g.W.Weight.wide_value in
    let long : length (map written c.classes.paths) ≡ length c.classes.paths = length-map c.classes.paths written in
    totals_end g.W.Weight.KIND c.requires.kind (graph_of (valued g.M.AsMachine.value (g.M.AsMachine.machine c.args.fst.now))) c.args.n (option_map wide c.classes.last) (map wide c.classes.totals.items) (map written c.classes.paths)
    (inr (omega (arith, long, c.classes-test.false, c.len.ensures))) (c.classes.invariant.search c.requires.kind)
