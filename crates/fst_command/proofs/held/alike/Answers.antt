use Rattle.std.proofs.Common.{◌≡◌, Ok, map, subst}
use Rattle.std.specs.Option.{option_map}
use Rattle.fst_machine.specs.Machine.{valued}
use Rattle.fst_any.specs.Taken.{machines_as}
use Rattle.fst_any.specs.Typed.{typed, typed_codex}
use Rattle.fst_verbs.specs.Causes.{kinds_differ}
use Rattle.fst_verbs.specs.Given.{codex_at, telling}
use Rattle.fst_verbs.specs.Told.{Fails}
use Rattle.fst_command.specs.Views.{held_seen}
use Rattle.fst_command.proofs.Decided.{codex_apart}
use Rattle.fst_command.proofs.held.alike.Goals as goal

pub returns-in-Err-alike_codex : goal.returns-in-Err-alike_codex
returns-in-Err-alike_codex g c =
    let kind = g.W.Weight.KIND in
    let refusal = c.in-Err-alike_codex.refusal in
    let ms = map (valued g.W.Weight.value) c.in-Ok.machines.items in
    let taken = c.take_typed-list.ensures.taken in
    codex_apart kind (held_seen c.args.held) ms refusal
    (subst (λ xs. telling (kinds_differ kind) (machines_as kind (map typed xs)) ≡ Ok ms) taken.0 c.in-Ok.ensures)
    (subst (λ x. Fails refusal (telling (kinds_differ kind) (codex_at kind (option_map typed_codex x)))) taken.1 c.in-Err-alike_codex.ensures)
