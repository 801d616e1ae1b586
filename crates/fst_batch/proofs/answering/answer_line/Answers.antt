use Rattle.std.proofs.Common.{ℕ, List, length, sym, ap, ◌∙◌, subst}
use Rattle.std.proofs.lemmas.Result.{IfOk-weaker}
use Rattle.fst_delayed.specs.Caches.{keys}
use Rattle.fst_delayed.specs.Graphs.{delayed_graph}
use Rattle.fst_batch.specs.Answers.{IsAnswer}
use Rattle.fst_batch.specs.BestPaths.{Told}
use Rattle.fst_walk.specs.Making.{IsReached}
use Rattle.fst_delayed.specs.Handed.{Name}
use Rattle.fst_lattice.specs.Lattice.{Point, lattice}
use Rattle.fst_batch.specs.Building.{AnswersWhole, IsWhole}
use Rattle.fst_batch.specs.declared.fault.LineFault.TheVariants.{StateLimit}
use Rattle.fst_batch.specs.declared.answer.LineAnswer.TheVariants.{Listed, Refused}
use Rattle.fst_batch.proofs.Lattices.{going_clear, going_empty, going_reached, going_whole, stopped_more}
use Rattle.fst_batch.proofs.Settling.{empty_answer, limit_answer}
use Rattle.fst_batch.proofs.answering.answer_line.Goals as goal

pub returns-in-Stopped : goal.returns-in-Stopped
returns-in-Stopped g c =
    let kind = g.W.Weight.KIND in
    let value = g.W.Weight.value in
    let G = delayed_graph kind value (g.D.Composed.machines c.args.delayed.now) in
    let w = c.args.job.now in
    let more = stopped_more kind value (g.D.Composed.machines c.args.delayed.now) c.args.line.now (keys c.args.cache.now) w c.requires.job (sym c.stage.ensures ∙ c.in-Stopped.is) in
    subst (λ (l : ℕ). IsAnswer kind G c.args.n w.limit c.args.line.now value (Refused (StateLimit l))) (sym c.limit-limit.ensures) (limit_answer kind value G c.args.n w.limit c.args.line.now more.0 more.1)

pub returns-then-len-eq0 : goal.returns-then-len-eq0
returns-then-len-eq0 g c =
    let kind = g.W.Weight.KIND in
    let value = g.W.Weight.value in
    let G = delayed_graph kind value (g.D.Composed.machines c.args.delayed.now) in
    let w = c.args.job.now in
    let going = sym c.stage.ensures ∙ c.in-Going.is in
    let clear = going_clear kind value (g.D.Composed.machines c.args.delayed.now) c.args.line.now (keys c.args.cache.now) w c.requires.job going in
    let none = going_empty kind value (g.D.Composed.machines c.args.delayed.now) c.args.line.now (keys c.args.cache.now) w c.requires.job going c.requires.over (ap (λ (ps : List (Point (Name ℕ ℕ))). length ps) (sym c.points-points.ensures) ∙ (sym c.len.ensures ∙ c.if-len-eq0.true)) in
    subst (λ (xs : List (Told _)). IsAnswer kind G c.args.n w.limit c.args.line.now value (Listed xs)) (sym c.new.ensures) (empty_answer kind value G c.args.n w.limit c.args.line.now clear none)

pub answer_lattice-requires-clause-whole : goal.answer_lattice-requires-clause-whole
answer_lattice-requires-clause-whole g c =
    let going = sym c.stage.ensures ∙ c.in-Going.is in
    subst (IsWhole g.W.Weight.KIND g.W.Weight.value (g.D.Composed.machines c.args.delayed.now) c.args.line.now (keys c.args.cache.now)) (sym c.points-points.ensures)
    (going_whole g.W.Weight.KIND g.W.Weight.value (g.D.Composed.machines c.args.delayed.now) c.args.line.now (keys c.args.cache.now) c.args.job.now c.requires.job going c.requires.over (λ none. c.if-len-eq0.false (c.len.ensures ∙ (ap (λ (ps : List (Point (Name ℕ ℕ))). length ps) c.points-points.ensures ∙ none))) c.requires.limit)

pub returns : goal.returns
returns g c =
    let kind = g.W.Weight.KIND in
    let value = g.W.Weight.value in
    let G = delayed_graph kind value (g.D.Composed.machines c.args.delayed.now) in
    let w = c.args.job.now in
    let going = sym c.stage.ensures ∙ c.in-Going.is in
    let clear = going_clear kind value (g.D.Composed.machines c.args.delayed.now) c.args.line.now (keys c.args.cache.now) w c.requires.job going in
    let reached = going_reached kind value (g.D.Composed.machines c.args.delayed.now) c.args.line.now (keys c.args.cache.now) w c.requires.job going c.requires.over (λ none. c.if-len-eq0.false (c.len.ensures ∙ (ap (λ (ps : List (Point (Name ℕ ℕ))). length ps) c.points-points.ensures ∙ none))) in
    IfOk-weaker c.answer_lattice.result (AnswersWhole kind value (g.D.Composed.machines c.args.delayed.now) c.args.n c.args.line.now c.points-points.result.now) (IsAnswer kind G c.args.n w.limit c.args.line.now value) (λ a h. h w.limit clear (subst (IsReached (lattice c.args.line.now G) w.limit) (sym c.points-points.ensures) reached)) c.answer_lattice.ensures
