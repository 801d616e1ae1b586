use Rattle.std.proofs.Common.{◌≡◌, ◌<◌, ◌≤◌, [], List, drop, length, map, refl, rules, suc, sym, ◌∙◌, subst, take, vec_len, arith}
use Rattle.fst_words.specs.Inputs.{Input, input_seen}
use Rattle.fst_verbs.specs.Given.{Held}
use Rattle.fst_command.specs.Views.{held_seen}
use Rattle.fst_command.specs.Steps.{Progress}
use Rattle.fst_verbs.specs.declared.refusal.Refusal.TheVariants as refusals
use Rattle.fst_command.proofs.Answering.{none_read, one_read, starved_first, works_stopped}
use Rattle.fst_command.proofs.Places.{parted, taken_next, taken_past}
use Rattle.fst_command.proofs.reading.read_all.Goals as goal

pub returns-in-Err : goal.returns-in-Err
returns-in-Err g c = starved_first c.args.plan.now (g.D.Desk.seen c.args.desk.now) refusals.Memory refl

pub loop-place-init : goal.loop-place-init
loop-place-init g c =
    let seen = g.D.Desk.seen c.args.desk.now in
    subst (λ (h : Held). Progress c.args.plan.now [] h seen seen) (sym c.new-held.ensures) (none_read c.args.plan.now seen)

pub loop-place-preserved : goal.loop-place-preserved
loop-place-preserved g c =
    let plan = c.args.plan.now in
    let seen = g.D.Desk.seen in
    let items = c.in-Ok.inputs.items in
    let place = c.loop-place.place in
    let i = c.index.result.now in
    let size : vec_len c.in-Ok.inputs ≡ length items = search rules in
    let few : place < length items = omega (arith, c.loop-place-test.true, c.len-place-end.ensures, size) in
    subst (λ (is : List Input). Progress plan is (held_seen c.read_one.new.held) (seen c.args.desk.now) (seen c.read_one.new.desk)) (sym (taken_next input_seen items place i few c.index.ensures))
    (one_read plan (take place (map input_seen items)) (held_seen c.loop-place.held) (held_seen c.read_one.new.held) (seen c.args.desk.now) (seen c.loop-place.desk) (seen c.read_one.new.desk) (input_seen i) c.loop-place.invariant c.in-Ok-read_one.ensures)

pub returns-in-Err-read_one : goal.returns-in-Err-read_one
returns-in-Err-read_one g c =
    let plan = c.args.plan.now in
    let seen = g.D.Desk.seen in
    let items = c.in-Ok.inputs.items in
    let place = c.loop-place.place in
    let i = c.index.result.now in
    let size : vec_len c.in-Ok.inputs ≡ length items = search rules in
    let few : place < length items = omega (arith, c.loop-place-test.true, c.len-place-end.ensures, size) in
    works_stopped plan (take place (map input_seen items)) (drop (suc place) (map input_seen items)) (held_seen c.loop-place.held) (held_seen c.read_one.new.held) (seen c.args.desk.now) (seen c.loop-place.desk) (seen c.read_one.new.desk) (input_seen i) c.in-Err-read_one.refusal
    (sym c.in-Ok.ensures ∙ parted input_seen items place i few c.index.ensures) c.loop-place.invariant c.in-Err-read_one.ensures

pub returns : goal.returns
returns g c =
    let plan = c.args.plan.now in
    let seen = g.D.Desk.seen in
    let items = c.in-Ok.inputs.items in
    let place = c.loop-place.place in
    let size : vec_len c.in-Ok.inputs ≡ length items = search rules in
    let all : length items ≤ place = omega (arith, c.loop-place-test.false, c.len-place-end.ensures, size) in
    subst (λ (is : List Input). Progress plan is (held_seen c.loop-place.held) (seen c.args.desk.now) (seen c.loop-place.desk)) (taken_past input_seen items place all ∙ c.in-Ok.ensures) c.loop-place.invariant
