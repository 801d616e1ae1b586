use Rattle.std.proofs.Common.{◌≤◌, ◌++◌, ℕ, List, length, sym, ap, ◌∙◌, subst}
use Rattle.fst_semiring.specs.Cost.{Cost}
use Rattle.fst_machine.specs.BreadthFirst.{Grows}
use Rattle.fst_machine.specs.Graph.{nexts}
use Rattle.fst_machine.specs.Machine.{Arc}
use Rattle.fst_walk.specs.Making.{Passes}
use Rattle.fst_delayed.specs.Caches.{keys}
use Rattle.fst_delayed.specs.Graphs.{delayed_graph}
use Rattle.fst_delayed.specs.Handed.{Name}
use Rattle.fst_lattice.specs.Lattice.{lattice, point, point_arcs}
use Rattle.fst_lattice.specs.Walks.{IsHead, IsJob, LineWalk}
use Rattle.fst_lattice.proofs.Caching.{held_key, held_true}
use Rattle.fst_lattice.proofs.Jobs.{job_goes, job_stops}
use Rattle.fst_lattice.proofs.job.Job.step.Goals as goal

pub returns-then-not-fits-clause-job : goal.returns-then-not-fits-clause-job
returns-then-not-fits-clause-job g c =
    let value = g.W.Weight.value in
    let kind = g.W.Weight.KIND in
    let d = c.args.delayed.now in
    let graph = delayed_graph kind value d in
    let line = c.args.line.now in
    let known = keys c.args.cache.now ++ keys c.args.own.now in
    let s = c.self.inside in
    let at = point c.item-position.result.0 c.item-position.result.1 in
    let job = subst (IsJob kind value d line known) (sym c.self.view_is) c.requires.job in
    let head : IsHead (record { index = s.index; limit = s.limit; stage = s.stage; points = s.points; taken = s.taken }) at =
    record { going = ap (λ (w : LineWalk). w.stage) c.self.view_is ∙ c.requires.left.0; there = c.item-position.ensures } in
    let arcs = held_true g.W.Weight.wide_value graph (c.args.cache.now ++ c.args.own.now) c.requires.entries c.item-position.result.1 c.in-Some.arcs.now c.in-Some.ensures.arcs in
    let has = held_key c.args.cache.now c.args.own.now c.item-position.result.1 c.in-Some.arcs.now c.in-Some.ensures.arcs in
    let passes : Passes s.limit s.points (nexts ((lattice line graph).arcs at)) =
    subst (λ (xs : List (Arc Cost (Name ℕ ℕ))). Passes s.limit s.points (nexts (point_arcs line c.item-position.result.0 xs))) arcs (rw c.if-not-fits.true at c.in_ok-fits.ensures.finds) in
    let front = c.in_ok-fits.ensures.front in
    job_stops kind value d c.start_key-start.ensures.machines.0 c.start_key-start.ensures.machines.1 line known s.index s.limit s.taken s.points s.stage at job head has c.follow.new.points front.0 front.1 passes

pub returns-clause-job : goal.returns-clause-job
returns-clause-job g c =
    let value = g.W.Weight.value in
    let kind = g.W.Weight.KIND in
    let d = c.args.delayed.now in
    let graph = delayed_graph kind value d in
    let line = c.args.line.now in
    let known = keys c.args.cache.now ++ keys c.args.own.now in
    let s = c.self.inside in
    let at = point c.item-position.result.0 c.item-position.result.1 in
    let job = subst (IsJob kind value d line known) (sym c.self.view_is) c.requires.job in
    let head : IsHead (record { index = s.index; limit = s.limit; stage = s.stage; points = s.points; taken = s.taken }) at =
    record { going = ap (λ (w : LineWalk). w.stage) c.self.view_is ∙ c.requires.left.0; there = c.item-position.ensures } in
    let arcs = held_true g.W.Weight.wide_value graph (c.args.cache.now ++ c.args.own.now) c.requires.entries c.item-position.result.1 c.in-Some.arcs.now c.in-Some.ensures.arcs in
    let has = held_key c.args.cache.now c.args.own.now c.item-position.result.1 c.in-Some.arcs.now c.in-Some.ensures.arcs in
    let grown : Grows s.points (nexts ((lattice line graph).arcs at)) c.follow.new.points × (length c.follow.new.points ≤ s.limit) =
    subst (λ (xs : List (Arc Cost (Name ℕ ℕ))). Grows s.points (nexts (point_arcs line c.item-position.result.0 xs)) c.follow.new.points × (length c.follow.new.points ≤ s.limit)) arcs (rw c.if-not-fits.false at c.in_ok-fits.ensures.finds) in
    job_goes kind value d c.start_key-start.ensures.machines.0 c.start_key-start.ensures.machines.1 line known s.index s.limit s.taken s.points s.stage at job head has c.follow.new.points grown.0 grown.1
