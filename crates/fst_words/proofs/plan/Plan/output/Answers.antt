use Rattle.std.proofs.Common.{◌∙◌, ◌+◌, arith, sym, ap, ℕ}
use Rattle.std.proofs.lemmas.List.{length-drop}
use Rattle.std.specs.List.{slice_get}
use Rattle.fst_words.specs.Plans.{outputs_of, output_place_of}
use Rattle.fst_words.proofs.PlannedFiles.{get_after}
use Rattle.fst_words.proofs.plan.Plan.output.Goals as goal

pub prove-unreachable-requires : goal.prove-unreachable-requires
unfolding outputs_of
prove-unreachable-requires c =
    let dropped = length-drop (output_place_of c.args.self.now) c.args.self.now.names in
    omega arith

pub returns : goal.returns
unfolding outputs_of
returns c =
    get_after c.args.self.now.names (output_place_of c.args.self.now) c.args.place
    ∙ (ap (λ (n : ℕ). slice_get c.args.self.now.names (n + c.args.place)) (sym c.output_place_of-first.ensures) ∙ c.item.ensures)
