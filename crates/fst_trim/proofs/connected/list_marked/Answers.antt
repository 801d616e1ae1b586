use Rattle.std.proofs.Common.{◌≡◌, ◌<◌, ◌+◌, ℕ, Bool, true, false, cond, List, [], ◌∷◌, ◌++◌, get_or, length, take, sym, ap, ◌∙◌, append-nil, arith}
use Rattle.fst_machine.specs.Renumbered.{marked}
use Rattle.fst_trim.proofs.Marking.{marked-more}
use Rattle.fst_trim.proofs.connected.list_marked.Goals.{then-mark+in_ok-push, else-mark}
use Rattle.fst_trim.proofs.connected.list_marked.Goals as goal

-- the next place, where it is marked
list_more : (marks : List Bool) (i : ℕ) (kept new : List ℕ) (b : Bool) → i < length marks → get_or marks i false ≡ b → kept ≡ marked 0 (take i marks) → new ≡ kept ++ cond b (i ∷ []) [] → new ≡ marked 0 (take (i + 1) marks)
list_more marks i kept new b low read was put =
    let here : 0 + i ≡ i = omega arith in
    let more : marked 0 (take (i + 1) marks) ≡ marked 0 (take i marks) ++ cond b (i ∷ []) [] = marked-more 0 marks i low ∙ (ap (λ (c : Bool). marked 0 (take i marks) ++ cond c ((0 + i) ∷ []) []) read ∙ ap (λ (k : ℕ). marked 0 (take i marks) ++ cond b (k ∷ []) []) here) in
    put ∙ (ap (λ (ks : List ℕ). ks ++ cond b (i ∷ []) []) was ∙ sym more)

pub loop-place-preserved : goal.loop-place-preserved
loop-place-preserved c = elim c.if-mark.branch [ then-mark+in_ok-push w ↦ list_more c.args.marks.now c.loop-place.place c.loop-place.kept.items c.if-mark.kept.items true (omega arith) w.if-mark.true c.loop-place.invariant (ap (λ k. k.items) w.kept-is ∙ w.in_ok-push.ensures.items) | else-mark w ↦ list_more c.args.marks.now c.loop-place.place c.loop-place.kept.items c.if-mark.kept.items false (omega arith) w.if-mark.false c.loop-place.invariant (ap (λ k. k.items) w.kept-is ∙ sym (append-nil c.loop-place.kept.items)) ]
