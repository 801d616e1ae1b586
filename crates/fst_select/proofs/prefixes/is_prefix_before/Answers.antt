use Rattle.std.proofs.Common.{◌≡◌, inl, inr, sym, ap, ◌∙◌, arith}
use Rattle.std.specs.Ordering.{is_lt}
use Rattle.fst_nbest.proofs.Routes.{least_is}
use Rattle.fst_select.specs.Entries.{prefix_of, words_of}
use Rattle.fst_select.proofs.EntryPrefixes.{lists_differ, lists_end, lists_on, prefix_long, prefixes_begin}
use Rattle.fst_select.proofs.prefixes.is_prefix_before.Goals as goal
use Rattle.fst_select.proofs.prefixes.is_prefix_before.Goals.{then-a-b, else-a-b}

pub loop-k-init : goal.loop-k-init
loop-k-init g c =
    let words = words_of c.args.listed.now in
    let a = c.args.a.now in
    let b = c.args.b.now in
    let one = prefix_long words a c.requires.a_can in
    let two = prefix_long words b c.requires.b_can in
    let first = c.prefix_len-first_len.ensures in
    let second = c.prefix_len-second_len.ensures in
    elim c.if-a-b.branch [
      | then-a-b w ↦ record {
        within = omega (arith, one, two, first, second);
        rest = prefixes_begin words a b c.if-a-b.k c.requires.a_can c.requires.b_can (inl w.if-a-b.true) (omega arith) (omega arith);
      }
      | else-a-b w ↦ record {
        within = omega arith;
        rest = prefixes_begin words a b c.if-a-b.k c.requires.a_can c.requires.b_can (inr w.k-is) (omega arith) (omega arith);
      }
    ]

pub loop-k-preserved : goal.loop-k-preserved
loop-k-preserved g c =
    let words = words_of c.args.listed.now in
    record {
      within = omega arith;
      rest = c.loop-k.invariant.rest ∙ lists_on (prefix_of words c.args.a.now) (prefix_of words c.args.b.now) c.loop-k.k c.label_at-first.result c.label_at-second.result
          (omega (arith, c.prefix_len-first_len.ensures)) (omega (arith, c.prefix_len-second_len.ensures)) c.label_at-first.ensures c.label_at-second.ensures c.if-first-second.false;
    }

pub returns-then-first-second : goal.returns-then-first-second
returns-then-first-second g c =
    let words = words_of c.args.listed.now in
    lists_differ (prefix_of words c.args.a.now) (prefix_of words c.args.b.now) c.loop-k.k c.label_at-first.result c.label_at-second.result
    (omega (arith, c.prefix_len-first_len.ensures)) (omega (arith, c.prefix_len-second_len.ensures)) c.label_at-first.ensures c.label_at-second.ensures c.if-first-second.true
    ∙ ap is_lt (sym c.loop-k.invariant.rest)

pub returns : goal.returns
returns g c =
    let words = words_of c.args.listed.now in
    let at : c.loop-k.k ≡ c.min-least.result = omega arith in
    lists_end (prefix_of words c.args.a.now) (prefix_of words c.args.b.now) c.prefix_len-first_len.result c.prefix_len-second_len.result c.loop-k.k c.prefix_len-first_len.ensures
    c.prefix_len-second_len.ensures
    (omega arith) (omega arith) (least_is c.loop-k.k c.prefix_len-first_len.result c.prefix_len-second_len.result (at ∙ c.min-least.ensures))
    ∙ ap is_lt (sym c.loop-k.invariant.rest)
