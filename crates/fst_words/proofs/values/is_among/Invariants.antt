use Rattle.std.proofs.Common.{◌≡◌, map}
use Rattle.std.specs.Prelude.{drop}
use Rattle.fst_words.specs.Values.{is_among}
use Rattle.fst_words.proofs.values.is_among.Given as goal

abbrev pub invariant-loop-word : goal.invariant-loop-word
invariant-loop-word l = is_among (map (λ s. s.now) l.words) l.text ≡ is_among (map (λ s. s.now) (drop l.word-index l.words)) l.text
