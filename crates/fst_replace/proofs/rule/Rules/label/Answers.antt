use Rattle.std.proofs.Common.{◌≡◌, ◌<◌, ◌∙◌, length, ap, sym, arith}
use Rattle.std.proofs.lemmas.List.{length-map}
use Rattle.fst_replace.proofs.Entries.{label_at}
use Rattle.fst_replace.proofs.rule.Rules.label.Goals as goal

pub returns : goal.returns
returns g c =
    let counted : length c.args.self.now ≡ length c.self.inside.list.items = ap length (sym c.self.view_is) ∙ length-map c.self.inside.list.items _ in
    let within : c.args.place < length c.self.inside.list.items = omega (arith, c.requires, counted) in
    rw (← c.self.view_is) (label_at (λ e. record { label = e.label; machine = e.machine.now }) c.self.inside.list.items c.args.place c.index.result.now within c.index.ensures)
