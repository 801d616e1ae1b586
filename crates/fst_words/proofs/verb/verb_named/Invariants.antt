use Rattle.fst_words.specs.Verbs.{all_verbs}
use Rattle.fst_words.proofs.Searched.{IsSearched}
use Rattle.fst_words.proofs.verb.verb_named.Given as goal

abbrev pub invariant-loop-row : goal.invariant-loop-row
invariant-loop-row l = IsSearched all_verbs l.row-items (λ row. row.0) l.row-index l.name
