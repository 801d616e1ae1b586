use Rattle.std.proofs.Common.{◌≡◌, ℕ, List, ◌++◌, length, map, vec_len}
use Rattle.fst_semiring.specs.Cost.{Cost}
use Rattle.fst_machine.specs.Graph.{graph_of}
use Rattle.fst_machine.specs.Machine.{Arc, valued}
use Rattle.fst_walk.specs.Names.{key_arc}
use Rattle.fst_determinize.specs.Subsets.{IsSubset, Member}
use Rattle.fst_nbest.specs.Ready.{dist_in}
use Rattle.fst_select.specs.Parting.{AreOpenParts, arcs_of}
use Rattle.fst_select.proofs.parting.put_open_parts.Given as goal

abbrev pub invariant-loop-arc : goal.invariant-loop-arc
invariant-loop-arc g l =
    let w = g.W.Weight in
    let graph = graph_of (valued w.value l.outlook.machine) in
    record {
      grow : (more : List (List Member)) × (l.subsets.items ≡ l.fn.subsets.items ++ more);
      parts : (x : List ℕ) (s : List Member) → length x ≡ l.depth → IsSubset w.KIND graph x (w.wide_value l.by) s → map (key_arc w.wide_value) l.fn.arcs.items ≡ arcs_of w.KIND graph s
          → (done : List (Arc Cost (List Member))) × (arcs_of w.KIND graph s ≡ map (key_arc w.wide_value) l.arcs.items ++ done)
          × AreOpenParts w.KIND graph (dist_in w.wide_value l.outlook.dist) l.outlook.due w.wide_value x (w.wide_value l.by) l.owner l.depth done l.subsets.items l.parts.items;
    }

abbrev pub decreases-loop-arc : goal.decreases-loop-arc
decreases-loop-arc g l = vec_len l.arcs
