use Rattle.std.proofs.Common.{◌∙◌, ◌+◌, refl, ap}
use Rattle.fst_words.specs.declared.form.Role.{Role}
use Rattle.fst_words.specs.Forms.{form_of, role_of}
use Rattle.fst_words.specs.Inputs.{Input, option_inputs}
use Rattle.fst_words.specs.Plans.{input_files}
use Rattle.fst_words.proofs.InputLemmas.{pushed}
use Rattle.fst_words.proofs.plan.Plan.inputs.Goals as goal

pub loop-place-preserved : goal.loop-place-preserved
loop-place-preserved c =
    let plan = c.args.self.now in
    let role = c.role-role.ensures ∙ ap (λ s. role_of s c.loop-place.place) c.form_of-shape.ensures.shape in
    pushed (form_of plan.command).shape (option_inputs plan.options) (input_files plan) c.loop-place.place (c.loop-place.place + 1) c.input.result.now c.loop-place.inputs.items c.push.new.self.items _ refl c.input.ensures
    c.in_ok-push.ensures.items (ap (λ (r : Role). let i : Input = record { name = c.input.result.now; role = r } in i) role) c.loop-place.invariant
