use Rattle.std.proofs.Common.{◌≡◌, ℕ, Bool, false, List, length, map, get_or, sym, ap, ◌∙◌, subst}
use Rattle.std.specs.Bool.{Decides}
use Rattle.fst_machine.specs.Cycles.{IsAccessible}
use Rattle.fst_machine.specs.Graph.{graph_of}
use Rattle.fst_machine.specs.Machine.{valued}
use Rattle.fst_search.proofs.Accessed.{reached_closed, useful_cycle, useful_made}
use Rattle.fst_search.proofs.useful.useful_measured.Given.{Over}
use Rattle.fst_search.proofs.useful.useful_measured.Goals.{After-as_slice}
use Rattle.fst_search.proofs.useful.useful_measured.Goals as goal

-- the slice of the marks marks the states that the start reaches, and is as long as the list of the states
marked : (g : Over) (c : After-as_slice g) → ((p : ℕ) → Decides (get_or c.as_slice.result.now p false) (IsAccessible (graph_of (valued g.M.AsMachine.value (g.M.AsMachine.machine c.args.fst.now))) p)) × (length c.as_slice.result.now ≡ length (g.M.AsMachine.machine c.args.fst.now).states)
marked g c = (
  subst (λ (ms : List Bool). (p : ℕ) → Decides (get_or ms p false) (IsAccessible (graph_of (valued g.M.AsMachine.value (g.M.AsMachine.machine c.args.fst.now))) p)) (sym c.as_slice.ensures.value) c.in_ok-marks.ensures.marks,
  ap length c.as_slice.ensures.value ∙ c.in_ok-marks.ensures.size,
)

pub to_finals-requires-clause-closed : goal.to_finals-requires-clause-closed
to_finals-requires-clause-closed g c =
    let are = marked g (goal.at.to_finals-requires-clause-closed g c).After-as_slice in
    reached_closed g.W.Weight.KIND g.M.AsMachine.value (g.M.AsMachine.machine c.args.fst.now) c.state_count-states.ensures.good c.as_slice.result.now are.1 are.0

pub returns-clause-made : goal.returns-clause-made
returns-clause-made g c =
    let are = marked g (goal.at.returns-clause-made g c).After-as_slice in
    useful_made g.W.Weight.KIND g.M.AsMachine.value (g.M.AsMachine.machine c.args.fst.now) c.state_count-states.ensures.good c.as_slice.result.now are.1 are.0 (λ v. map g.W.Weight.wide_value v.items) g.M.Widens.bound c.to_finals.result c.to_finals.ensures.made

pub returns-clause-cycle : goal.returns-clause-cycle
returns-clause-cycle g c =
    let are = marked g (goal.at.returns-clause-cycle g c).After-as_slice in
    useful_cycle g.W.Weight.KIND g.M.AsMachine.value (g.M.AsMachine.machine c.args.fst.now) c.state_count-states.ensures.good c.as_slice.result.now are.1 are.0 (λ path. path) c.to_finals.result c.to_finals.ensures.cycle
