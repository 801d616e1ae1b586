use Rattle.std.proofs.Common.{◌≡◌, ◌≢◌, ◌-◌, ℕ, suc, None, length, sym, ap, subst, ◌∙◌, arith}
use Rattle.fst_semiring.specs.Semiring.{times}
use Rattle.fst_machine.specs.Machine.{Arc, valued}
use Rattle.fst_machine.specs.Graph.{graph_of}
use Rattle.fst_nbest.specs.PathWords.{path_words}
use Rattle.fst_nbest.specs.Ready.{Prepared, count_in, dist_in}
use Rattle.fst_nbest.specs.Words.{ahead_of}
use Rattle.fst_nbest.proofs.Fronts.{front_wide}
use Rattle.fst_nbest.proofs.Preparing.{count_there}
use Rattle.fst_nbest.proofs.TurnLists.{move_ahead, move_place}
use Rattle.fst_nbest.proofs.path_system.PathSystemSystemWide.look_ahead.Goals as goal

pub wide_times-requires-clause-a_wide : goal.wide_times-requires-clause-a_wide
wide_times-requires-clause-a_wide g c = front_wide g.W.Weight.wide_value g.W.Weight.KIND c.args.front c.requires.bound

pub wide_times-requires-2-clause-a_wide : goal.wide_times-requires-2-clause-a_wide
wide_times-requires-2-clause-a_wide g c = front_wide g.W.Weight.wide_value g.W.Weight.KIND c.args.front c.requires.bound

pub arc-arc-requires : goal.arc-arc-requires
arc-arc-requires g c =
    let wide = g.W.Weight.wide_value in
    let s = c.args.self.now in
    let graph = graph_of (valued g.M.AsMachine.value s.machine) in
    let e : c.args.turn ≡ suc (c.args.turn - 1) = omega arith in
    move_place g.W.Weight.KIND graph (dist_in wide s.dist) (count_in s.count) c.args.name (c.args.turn - 1)
    (subst (λ (m : ℕ). ahead_of g.W.Weight.KIND (path_words graph (dist_in wide s.dist)) (dist_in wide s.dist) (count_in s.count) c.args.name m ≢ None) e c.requires.turn)

pub returns-clause-ahead : goal.returns-clause-ahead
returns-clause-ahead g c ahead is =
    let wide = g.W.Weight.wide_value in
    let kind = g.W.Weight.KIND in
    let s = c.args.self.now in
    let graph = graph_of (valued g.M.AsMachine.value s.machine) in
    let e : c.args.turn ≡ suc (c.args.turn - 1) = omega arith in
    let r = move_ahead kind graph (dist_in wide s.dist) (count_in s.count) c.args.name (c.args.turn - 1) _ ahead c.arc-arc.ensures.arc
    (ap (ahead_of kind (path_words graph (dist_in wide s.dist)) (dist_in wide s.dist) (count_in s.count) c.args.name) (sym e) ∙ is) in
    let states = ap (λ (p : Prepared g.row.V.Denot g.row.W-Wide.Denot). length p.machine.states) c.self.view_is in
    let counts = ap (λ (p : Prepared g.row.V.Denot g.row.W-Wide.Denot). p.count) c.self.view_is in
    let count = count_there c.self.inside.count.now.items s.count _ _ c.arc.inside.next c.arc-arc.result.next c.index.result.now c.self.invariant.1.count_size states c.arc-arc.ensures.next counts (ap (λ (a : Arc _ ℕ). a.next) c.arc.view_is) c.index.ensures in
    (c.wide_times-2.ensures.product ∙ ap (times kind (wide c.args.front)) (c.along.ensures.same ∙ sym r.0), (let total = r.1 in omega (arith, count, total)))
