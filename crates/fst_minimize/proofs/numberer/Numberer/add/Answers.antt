use Rattle.std.proofs.Common.{◌≡◌, ◌<◌, ◌==◌, ◌++◌, ◌∷◌, [], ℕ, List, length, sym, subst, ◌∙◌, arith, eq-eqb, eqb-true}
use Rattle.fst_table.specs.Placed.{placed_in}
use Rattle.fst_minimize.specs.Numbered.{Notes, Numbers}
use Rattle.fst_minimize.proofs.Numbered.{numbers_push, small_row}
use Rattle.fst_minimize.proofs.numberer.Numberer.add.Goals as goal

pub returns-clause-seen : goal.returns-clause-seen
returns-clause-seen c = λ seen h.
    let self = c.args.self.now in
    let nodes2 = placed_in c.spell.new.self.table in
    let ends2 = placed_in c.number.new.self.table in
    let n = c.in_ok-number.number in
    let row = c.args.row.now in
    let first = n == c.count-known.result in
    let place : c.len-place.result ≡ length self.numbers.items = omega (arith, c.len-place.ensures) in
    let notes : Notes first (length self.numbers.items) self.least.items c.note_first.new.least.items = subst (λ (k : ℕ). Notes first k self.least.items c.note_first.new.least.items) place c.in_ok-note_first.ensures in
    let short : length row < 4294967296 = omega arith in
    let all = numbers_push (placed_in self.nodes.table) (placed_in self.ends.table) nodes2 ends2 self.ends.count c.number.new.self.count seen self.numbers.items self.least.items
    c.note_first.new.least.items c.args.head row c.in_ok-end.end n first h c.in_ok-end.ensures.kept c.in_ok-number.ensures.kept (small_row row c.type_inv.row) short c.in_ok-end.ensures.spells c.in_ok-number.ensures.known
    c.in_ok-number.ensures.next ((λ e. eqb-true n c.count-known.result e ∙ c.count-known.ensures), (λ e. eq-eqb n c.count-known.result (e ∙ sym c.count-known.ensures))) notes in
    subst (λ (l : List ℕ). Numbers nodes2 ends2 c.number.new.self.count (seen ++ (c.args.head, row) ∷ []) l c.note_first.new.least.items) (sym c.in_ok-push.ensures.items) all
