use Rattle.std.proofs.Common.{◌∙◌, ap, arith, List, ℕ, Bor, map}
use Rattle.std.proofs.lemmas.List.{take_all}
use Rattle.fst_words.proofs.given.kept.Goals as goal

pub returns : goal.returns
returns c = c.loop-text.invariant ∙ ap (map (λ (s : Bor (List ℕ)). s.now)) (take_all c.loop-text.text-index c.args.texts.now (omega arith))
