use Rattle.std.proofs.Common.{◌≡◌, ◌+◌, ◌*◌, drop, ap, ◌∙◌, arith}
use Rattle.byteorder.specs.Endian.{little_number}
use Rattle.fst_bytes.specs.Reading.{number_count}
use Rattle.fst_binary.proofs.Whole.{whole_arc}
use Rattle.fst_binary.proofs.decoding.read_whole_arc.Goals as goal

pub returns : goal.returns
returns g c =
    let kind = g.W.Weight.KIND in
    let bytes = c.args.bytes.now in
    let at = c.args.at in
    let after = at + 8 + 1 + 8 * number_count kind in
    let numbers : number_count c.KIND.result ≡ number_count kind = ap number_count c.KIND.ensures in
    let place : at + 8 + c.numbered_length.result ≡ after = omega (arith, numbers, c.numbered_length.ensures) in
    let next = c.word_at-next.ensures ∙ ap (λ n. little_number 4 (drop n bytes)) place in
    whole_arc kind c.args.states bytes at after (at + 13 + 8 * number_count kind) c.word_at-ilabel.result c.word_at-olabel.result c.word_at-next.result (g.W.Weight.value c.in-Some.weight) (omega arith) (omega arith) c.requires
    c.word_at-ilabel.ensures c.if-ilabel-gt-MOST_LABEL.false c.word_at-olabel.ensures c.if-olabel-gt-MOST_LABEL.false c.in-Some.ensures.found c.in-Some.ensures.not_zero next c.if-next-states.false
