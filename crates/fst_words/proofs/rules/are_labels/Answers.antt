use Rattle.std.proofs.Common.{◌≡◌, ◌∙◌, ◌*◌, ◌+◌, [], Some, None, arith, sym, ap, refl, Bool, true, false, not, true≢false, nat_eq, get_or}
use Rattle.std.specs.List.{list_any}
use Rattle.std.proofs.lemmas.Option.{get_or_from_slice_get}
use Rattle.fst_words.specs.Plans.{pair_labels}
use Rattle.fst_words.specs.Values.{label_of}
use Rattle.fst_words.proofs.Labels.{are_new_labels, label_again, label_new, no_label, none_seen}
use Rattle.fst_words.proofs.Pairs.{labels_at, pairs_end}
use Rattle.fst_words.proofs.rules.are_labels.Goals as goal

had : (b : Bool) → not b ≡ false → b ≡ true
had true e = refl
had false e = absurd (true≢false e)

had_not : (b : Bool) → not b ≡ true → b ≡ false
had_not true e = absurd (true≢false (sym e))
had_not false e = refl

pub loop-pair-init : goal.loop-pair-init
loop-pair-init c =
    let none : c.new-seen.result.keys ≡ [] = c.new-seen.ensures.empty in
    rw none (none_seen (pair_labels c.args.names.now))

pub returns-in_default : goal.returns-in_default
returns-in_default c =
    let names = c.args.names.now in
    let pair = c.loop-pair.pair in
    let here = get_or_from_slice_get names (2 * pair + 1) c.item.result.now [] c.item.ensures in
    let none : label_of (get_or names (2 * pair + 1) []) ≡ None = rw here cc in
    sym (c.loop-pair.invariant ∙ (ap (are_new_labels c.loop-pair.seen.keys) (labels_at names pair (omega arith)) ∙ no_label _ _ _ none))

pub returns-then-not-branch : goal.returns-then-not-branch
returns-then-not-branch c =
    let names = c.args.names.now in
    let pair = c.loop-pair.pair in
    let here = get_or_from_slice_get names (2 * pair + 1) c.item.result.now [] c.item.ensures in
    let some : label_of (get_or names (2 * pair + 1) []) ≡ Some c.in-Some.label = rw here cc in
    let again : list_any (nat_eq c.in-Some.label) c.loop-pair.seen.keys ≡ true = had _ (sym c.in_ok-insert.ensures.added ∙ c.if-not-branch.true) in
    sym (c.loop-pair.invariant ∙ (ap (are_new_labels c.loop-pair.seen.keys) (labels_at names pair (omega arith)) ∙ label_again _ _ _ _ some again))

pub loop-pair-preserved : goal.loop-pair-preserved
loop-pair-preserved c =
    let names = c.args.names.now in
    let pair = c.loop-pair.pair in
    let here = get_or_from_slice_get names (2 * pair + 1) c.item.result.now [] c.item.ensures in
    let some : label_of (get_or names (2 * pair + 1) []) ≡ Some c.in-Some.label = rw here cc in
    let fresh : list_any (nat_eq c.in-Some.label) c.loop-pair.seen.keys ≡ false = had_not _ (sym c.in_ok-insert.ensures.added ∙ c.if-not-branch.false) in
    c.loop-pair.invariant
    ∙ (ap (are_new_labels c.loop-pair.seen.keys) (labels_at names pair (omega arith))
    ∙ label_new c.loop-pair.seen.keys c.insert.new.self.keys c.in-Some.label _ _ some fresh c.in_ok-insert.ensures.updates.0)

pub returns : goal.returns
returns c =
    sym (c.loop-pair.invariant ∙ ap (are_new_labels c.loop-pair.seen.keys) (pairs_end c.args.names.now c.loop-pair.pair (omega arith)).1)
