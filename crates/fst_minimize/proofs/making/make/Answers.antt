use Rattle.std.proofs.Common.{◌≡◌, ℕ, List, sym, ap, ◌∙◌, subst}
use Rattle.std.specs.Option.{option_map}
use Rattle.fst_semiring.specs.Cost.{Cost}
use Rattle.fst_machine.specs.Machine.{IsMachine, Machine, valued}
use Rattle.fst_machine.proofs.Valued.{IsMachine-unvalued}
use Rattle.fst_minimize.specs.Numbered.{number_in}
use Rattle.fst_minimize.proofs.Made.{made, made_machine}
use Rattle.fst_minimize.proofs.making.make.Goals as goal

pub into_machine-requires : goal.into_machine-requires
into_machine-requires g c =
    let w = g.W.Weight in
    let m = c.args.pushed.now in
    let numbers = c.args.classes.now.numbers.items in
    let least = c.args.classes.now.least.items in
    let start : c.start_class.result ≡ option_map (number_in numbers) m.start = c.start_class.ensures ∙ (ap (λ (ns : List ℕ). option_map (number_in ns) c.start.result) c.deref.ensures.value ∙ ap (option_map (number_in numbers)) c.start.ensures) in
    let same : valued w.value (record { start = c.start_class.result; states = c.in-Ok.list }) ≡ made w.KIND (w.wide_value c.args.total) m numbers least c.requires.size c.requires.numbering = λ i. record { start = start i; states = c.in-Ok.ensures.states i } in
    IsMachine-unvalued w.value (record { start = c.start_class.result; states = c.in-Ok.list })
    (subst (λ (n : Machine Cost). IsMachine (λ v. v) n) (sym same) (made_machine w.KIND (w.wide_value c.args.total) m numbers least c.requires.size c.requires.numbering c.states-states.ensures.machine))
