use Rattle.std.proofs.Common.{◌≡◌, ◌⊎◌, inl, inr, ◌<◌, ◌+◌, ℕ, Bool, false, cond, List, ◌∷◌, [], ◌++◌, get_or, take, length, sym, ap, ◌∙◌, arith}
use Rattle.std.proofs.lemmas.Bool.{cases_eq}
use Rattle.std.proofs.lemmas.List.{length-append, get_or_append_left}
use Rattle.std.proofs.Math.Seq.{get_or-append_seam}
use Rattle.fst_machine.specs.Renumbered.{marked}
use Rattle.fst_trim.proofs.Marking.{as_number, count_fits, count_more}
use Rattle.fst_trim.proofs.connected.numbers_of.Goals as goal

-- the numbers with one more
numbers_more : (marks : List Bool) (numbers new : List ℕ) (i count : ℕ) → length numbers ≡ i → count ≡ length (marked 0 (take i marks)) → new ≡ numbers ++ count ∷ [] → ((p : ℕ) → p < i → get_or numbers p 0 ≡ length (marked 0 (take p marks))) → (p : ℕ) → p < i + 1 → get_or new p 0 ≡ length (marked 0 (take p marks))
numbers_more marks numbers new i count size counted put counts p low = by_place (cases_eq p i)
  where
    by_place : (p ≡ i) ⊎ (p ≡ i → ⊥) → get_or new p 0 ≡ length (marked 0 (take p marks))
    by_place (inl same) =
        let here : get_or (numbers ++ count ∷ []) p 0 ≡ count = ap (λ (k : ℕ). get_or (numbers ++ count ∷ []) k 0) (same ∙ sym size) ∙ get_or-append_seam numbers count [] 0 in
        ap (λ (ns : List ℕ). get_or ns p 0) put ∙ (here ∙ (counted ∙ ap (λ (k : ℕ). length (marked 0 (take k marks))) (sym same)))
    by_place (inr other) = ap (λ (ns : List ℕ). get_or ns p 0) put ∙ (get_or_append_left numbers (count ∷ []) 0 p (omega arith) ∙ counts p (omega arith))

pub overflow_add-count : goal.overflow_add-count
overflow_add-count c =
    let i = c.loop-mark.mark-index in
    let marks = c.args.marks.now in
    let fits = count_fits marks i (omega arith) in
    let number : c.from-count.result ≡ cond (get_or marks i false) 1 0 = c.from-count.ensures ∙ as_number (get_or marks i false) in
    omega (arith, c.loop-mark.invariant.count, c.requires)

pub loop-mark-preserved : goal.loop-mark-preserved
loop-mark-preserved c =
    let i = c.loop-mark.mark-index in
    let marks = c.args.marks.now in
    let number : c.from-count.result ≡ cond (get_or marks i false) 1 0 = c.from-count.ensures ∙ as_number (get_or marks i false) in
    let more = count_more marks i (omega arith) in
    record {
      size = ap length c.in_ok-push.ensures.items ∙ (length-append c.loop-mark.numbers.items (c.loop-mark.count ∷ []) ∙ ap (λ (n : ℕ). n + 1) c.loop-mark.invariant.size);
      count = omega (arith, c.loop-mark.invariant.count);
      counts = numbers_more marks c.loop-mark.numbers.items c.push.new.self.items i c.loop-mark.count c.loop-mark.invariant.size c.loop-mark.invariant.count c.in_ok-push.ensures.items c.loop-mark.invariant.counts;
    }
