use Rattle.std.proofs.Common.{sym, ◌∙◌}
use Rattle.std.proofs.lemmas.List.{length-map}
use Rattle.fst_any.specs.Typed.{typed, typed_codex}
use Rattle.fst_command.specs.Views.{held_seen, product_seen}
use Rattle.fst_command.proofs.Answering.{works_refused}
use Rattle.fst_command.proofs.Counted.{read_codex, read_lines, read_machines, some_seen}
use Rattle.fst_command.proofs.Fitting.{stored_fits}
use Rattle.fst_command.proofs.Meters.{end_refused, end_stored, end_untouched}
use Rattle.fst_command.proofs.carrying.carry_out.Goals as goal

pub worked-requires-clause-machines : goal.worked-requires-clause-machines
worked-requires-clause-machines g c lives within =
    let plan = c.args.plan.now in
    let held = c.in-Ok.held in
    let p = c.in-Ok.ensures in
    sym (length-map held.machines.items typed) ∙ read_machines plan _ p.contents (held_seen held) c.requires.whole p.agrees p.reads

pub worked-requires-clause-codex : goal.worked-requires-clause-codex
worked-requires-clause-codex g c lives within has =
    let plan = c.args.plan.now in
    let held = c.in-Ok.held in
    let p = c.in-Ok.ensures in
    sym (some_seen typed_codex held.codex) ∙ read_codex plan _ p.contents (held_seen held) c.requires.whole p.agrees p.reads has

pub worked-requires-clause-lines : goal.worked-requires-clause-lines
worked-requires-clause-lines g c lives within = read_lines c.args.plan.now c.in-Ok.ensures.contents (held_seen c.in-Ok.held) c.in-Ok.ensures.reads

pub returns-in-Err-clause-meter : goal.returns-in-Err-clause-meter
returns-in-Err-clause-meter g c = end_untouched _ _ _ _ _

pub returns-in-Err-worked-clause-works : goal.returns-in-Err-worked-clause-works
returns-in-Err-worked-clause-works g c = works_refused c.args.plan.now (held_seen c.in-Ok.held) (g.D.Desk.seen c.args.desk.now) (g.D.Desk.seen c.read_all.new.desk) c.in-Err-worked.refusal c.in-Ok.ensures c.in-Err-worked.ensures.decides

pub returns-in-Err-worked-clause-meter : goal.returns-in-Err-worked-clause-meter
returns-in-Err-worked-clause-meter g c = end_refused _ _ (held_seen c.in-Ok.held) _ _ _ _ _ c.in-Err-worked.ensures.meter

pub store-requires : goal.store-requires
store-requires g c = stored_fits c.args.plan.now (held_seen c.in-Ok.held) (product_seen c.in-Ok-worked.product) c.requires.whole c.in-Ok-worked.ensures.decides

pub returns-in-Ok-store-clause-works : goal.returns-in-Ok-store-clause-works
returns-in-Ok-store-clause-works g c =
    c.in-Ok-store.ensures (g.D.Desk.seen c.args.desk.now) c.in-Ok-worked.product.status (record { held = held_seen c.in-Ok.held; progress = c.in-Ok.ensures; worked = c.in-Ok-worked.ensures.decides })

pub returns-in-Ok-store-clause-meter : goal.returns-in-Ok-store-clause-meter
returns-in-Ok-store-clause-meter g c = end_stored _ _ (held_seen c.in-Ok.held) _ _ _ _ _ _ c.in-Ok.ensures c.in-Ok-worked.ensures.meter

pub returns-in-Err-store-clause-works : goal.returns-in-Err-store-clause-works
returns-in-Err-store-clause-works g c =
    c.in-Err-store.ensures (g.D.Desk.seen c.args.desk.now) c.in-Ok-worked.product.status (record { held = held_seen c.in-Ok.held; progress = c.in-Ok.ensures; worked = c.in-Ok-worked.ensures.decides })

pub returns-in-Err-store-clause-meter : goal.returns-in-Err-store-clause-meter
returns-in-Err-store-clause-meter g c = end_stored _ _ (held_seen c.in-Ok.held) _ _ _ _ _ _ c.in-Ok.ensures c.in-Ok-worked.ensures.meter
