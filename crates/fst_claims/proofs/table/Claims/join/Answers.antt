use Rattle.std.proofs.Common.{◌≡◌, ◌<◌, rules, arith, subst, sym, ap, ◌∙◌}
use Rattle.atomic_table.specs.Seated.{TableId}
use Rattle.atomic_table.specs.Table.{Me}
use Rattle.fst_claims.specs.declared.view.View.{View}
use Rattle.fst_claims.specs.Plays.{Knows}
use Rattle.fst_claims.proofs.Counts.{pairs}
use Rattle.fst_claims.proofs.Joins.{joins}
use Rattle.fst_claims.proofs.Steps.{learns}
use Rattle.fst_claims.proofs.table.Claims.join.Goals as goal

pub join_seat-requires : goal.join_seat-requires
join_seat-requires c =
    let t = c.args.self.now.table.shared in
    (search rules, search rules, search rules, search rules, joins t.key c.args.into.now.seat.id c.args.into.now.seat.me.0 c.args.other.seat.id c.args.other.seat.me.0 c.args.into.now.some_part)

pub load-word-requires : goal.load-word-requires
load-word-requires c =
    let t = c.args.self.now.table.shared in
    let some : 0 < c.join_seat.new.seat.me.0.parts = omega (arith, ap (λ (m : Me (Unit {0}) View). m.0.parts) c.join_seat.ensures.2, c.args.into.now.some_part) in
    (search rules, search rules, learns t.key t.table_id.slots c.join_seat.new.seat.id 0 c.join_seat.new.seat.me some)

knows : (m m' : Me (Unit {0}) View) → m' ≡ m → Knows m.0 → Knows m'.0
knows m m' e k = subst (λ (x : Me (Unit {0}) View). Knows x.0) (sym e) k

pub returns-clause-distinct : goal.returns-clause-distinct
returns-clause-distinct c = pairs c.load-word.new.seat.me.0.won (knows c.join_seat.new.seat.me c.load-word.new.seat.me c.load-word.ensures.2.0 c.load-word.ensures.2.1).distinct

pub returns-clause-apart : goal.returns-clause-apart
returns-clause-apart c = (knows c.join_seat.new.seat.me c.load-word.new.seat.me c.load-word.ensures.2.0 c.load-word.ensures.2.1).apart

pub returns-clause-all_won : goal.returns-clause-all_won
returns-clause-all_won c = (knows c.join_seat.new.seat.me c.load-word.new.seat.me c.load-word.ensures.2.0 c.load-word.ensures.2.1).all_won

pub returns-clause-full : goal.returns-clause-full
returns-clause-full c =
    let places : c.load-word.new.seat.me.0.places ≡ c.args.self.now.places =
    ap (λ (m : Me (Unit {0}) View). m.0.places) (c.load-word.ensures.2.0 ∙ c.join_seat.ensures.2) ∙ (c.args.into.now.sized.1 ∙ (ap (λ (z : TableId). z.words) c.requires.passes.0 ∙ c.args.self.now.sized.0)) in
    λ whole every. (knows c.join_seat.new.seat.me c.load-word.new.seat.me c.load-word.ensures.2.0 c.load-word.ensures.2.1).full whole (λ i lt. every i (omega (arith, lt, places))) ∙ places
