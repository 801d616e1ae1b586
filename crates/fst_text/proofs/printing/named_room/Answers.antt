use Rattle.std.proofs.Common.{◌≡◌, ◌∙◌, ◌+◌, ◌*◌, ℕ, ap, arith, length, rules}
use Rattle.std.specs.Prelude.{min}
use Rattle.fst_machine.specs.Machine.{arc_total}
use Rattle.fst_text.specs.Printed.{mean_length, output_length}
use Rattle.fst_text.proofs.printing.named_room.Goals as goal

-- a sum that stops at the greatest number at each step
saturated : (most t i o : ℕ) → min (min (t + min i most) most + min o most) most ≡ min (t + i + o) most
saturated most t i o = omega arith

pub returns : goal.returns
returns g c =
    let most : ℕ = 18446744073709551615 in
    let states = c.args.fst.now.states in
    let options = c.args.options.now in
    let numbers = arc_total states * 32 + length states * 16 in
    let inputs = arc_total states * mean_length options.isymbols in
    let mean : c.mean_length.result ≡ mean_length options.isymbols = search rules in
    let first : c.saturating_mul-inputs.result ≡ min inputs most = c.saturating_mul-inputs.ensures ∙ ap (λ n. min (n * c.mean_length.result) most) c.arc_count-arcs.ensures ∙ ap (λ m. min (arc_total states * m) most) mean in
    let second : c.saturating_mul-outputs.result ≡ min (arc_total states * output_length options) most = c.saturating_mul-outputs.ensures ∙ ap (λ n. min (n * c.output_length.result) most) c.arc_count-arcs.ensures ∙ ap (λ m. min (arc_total states * m) most) c.output_length.ensures in
    let both : c.saturating_add.result ≡ min (numbers + min inputs most) most = c.saturating_add.ensures ∙ ap (λ n. min (n + c.saturating_mul-inputs.result) most) c.text_room.ensures ∙ ap (λ n. min (numbers + n) most) first in
    c.saturating_add-2.ensures ∙ ap (λ n. min (n + c.saturating_mul-outputs.result) most) both ∙ ap (λ n. min (min (numbers + min inputs most) most + n) most) second
    ∙ saturated most numbers inputs (arc_total states * output_length options)
