use Rattle.std.proofs.Common.{◌≡◌, ◌∙◌, ◌++◌, ◌∷◌, ◌<◌, [], List, ℕ, ap, arith, codes, length}
use Rattle.fst_words.proofs.Loops.{copies_more}
use Rattle.fst_words.proofs.read.with_dashes.Goals as goal

pub loop-alloc-preserved : goal.loop-alloc-preserved
loop-alloc-preserved c =
    let before = c.loop-alloc.longer in
    let grown : c.push.new.self ≡ before ++ codes "-" ∷ [] = c.in_ok-push.ensures.ok ∙ ap (λ (d : List ℕ). before ++ d ∷ []) c.in_ok-dash.ensures in
    let short : length before < c.args.count = omega arith in
    rw grown (copies_more before (codes "-") c.args.count short ∙ c.loop-alloc.invariant)
