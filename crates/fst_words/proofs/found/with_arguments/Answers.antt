use Rattle.std.proofs.Common.{◌∙◌, ap, ap₂, sym, arith, List, ℕ, Bool, Bor}
use Rattle.std.specs.List.{fold}
use Rattle.std.proofs.lemmas.List.{take_all}
use Rattle.std.proofs.lemmas.List.Folds.{fold-map}
use Rattle.std.proofs.lemmas.List.Sums.{fold_more}
use Rattle.clap.specs.Simple.{App, with_rule}
use Rattle.fst_words.specs.Commands.{argument_rule}
use Rattle.fst_words.proofs.found.with_arguments.Goals as goal

abbrev step : Bool → App → Bor (List ℕ) → App
step valued a s = with_rule a (argument_rule valued s.now)

pub loop-name-preserved : goal.loop-name-preserved
loop-name-preserved c =
    c.in_ok-grown.ensures.shape c.argument.ensures.local
    ∙ ap₂ with_rule c.loop-name.invariant c.argument.ensures.rule
    ∙ sym (fold_more (step c.args.valued) _ c.args.names.now c.loop-name.name-index _ (omega arith))

pub returns : goal.returns
returns c =
    c.loop-name.invariant
    ∙ ap (fold (step c.args.valued) _) (take_all c.loop-name.name-index c.args.names.now (omega arith))
    ∙ sym (fold-map (λ (a : App) (name : List ℕ). with_rule a (argument_rule c.args.valued name)) (λ (s : Bor (List ℕ)). s.now) _ c.args.names.now)
