use Rattle.std.proofs.Common.{◌≡◌, ◌⊎◌, inl, inr, ℕ, ◌<◌, ◌≤◌, false, true, length, get_or, slice_get, sym, ap, ◌∙◌, arith}
use Rattle.std.proofs.lemmas.Bool.{cases_lt}
use Rattle.std.proofs.lemmas.Option.{get_or_from_slice_get, slice_get-get_or, slice_get_within}
use Rattle.fst_machine.proofs.Elements.{at_Has}
use Rattle.fst_replace.specs.declared.order.Mark.TheVariants.{New, Done}
use Rattle.fst_replace.proofs.order.next_waiting.Goals as goal

pub bounds-marks-places : goal.bounds-marks-places
bounds-marks-places c =
    let places = c.args.places.now in
    let at = c.loop-at.at in
    let low : at < length places = omega arith in
    c.requires.within (get_or places at 0) (at_Has places at (get_or places at 0) (slice_get-get_or places at 0 low))

pub returns-then-not-is_done-clause-waits : goal.returns-then-not-is_done-clause-waits
returns-then-not-is_done-clause-waits c j there done =
    let same : get_or c.args.places.now c.loop-at.at 0 ≡ j = get_or_from_slice_get c.args.places.now c.loop-at.at j 0 there in
    let wrong : false ≡ true = c.if-not-is_done.ensures.1 (ap (λ (k : ℕ). get_or c.args.marks.now k New) same ∙ done) in
    absurd (cc)

pub loop-at-preserved : goal.loop-at-preserved
loop-at-preserved c k j low below there = by_order (cases_lt k c.loop-at.at)
  where
    by_order : (k < c.loop-at.at) ⊎ (c.loop-at.at ≤ k) → get_or c.args.marks.now j New ≡ Done
    by_order (inl old) = c.loop-at.invariant k j low old there
    by_order (inr new) =
        let at : k ≡ c.loop-at.at = omega arith in
        let same : get_or c.args.places.now c.loop-at.at 0 ≡ j = get_or_from_slice_get c.args.places.now c.loop-at.at j 0 (ap (slice_get c.args.places.now) (sym at) ∙ there) in
        ap (λ (k : ℕ). get_or c.args.marks.now k New) (sym same) ∙ c.if-not-is_done.ensures.0 (λ i. true)

pub returns-clause-waits : goal.returns-clause-waits
returns-clause-waits c j there done = absurd (let low = slice_get_within c.args.places.now (length c.args.places.now) j there in omega (arith, low))
