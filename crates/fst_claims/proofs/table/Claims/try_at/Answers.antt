use Rattle.std.proofs.Common.{◌≡◌, ℕ, ◌+◌, ◌%◌, ◌<◌, rules, arith, ap, ◌∙◌, sym, subst, mod-lt}
use Rattle.fst_claims.specs.declared.view.View.{View}
use Rattle.fst_claims.specs.Claimed.{HasFound}
use Rattle.fst_claims.specs.Rule.{place_of}
use Rattle.fst_claims.proofs.Steps.{looks}
use Rattle.fst_claims.proofs.Takes.{takes}
use Rattle.fst_claims.proofs.table.Claims.try_at.Goals as goal

pub load-word-requires : goal.load-word-requires
load-word-requires c =
    let t = c.args.self.now.table.shared in
    let s = c.args.self.now in
    let within : (c.args.start + c.args.k) % s.places < s.places = mod-lt (c.args.start + c.args.k) s.sized.2 in
    (search rules, omega (arith, within, s.sized.0), looks t.key t.table_id.slots c.args.pass.now.seat.id _ c.args.pass.now.seat.me c.args.pass.now.some_part (omega (arith, within, s.sized.1)))

pub compare_exchange-requires : goal.compare_exchange-requires
compare_exchange-requires c =
    let s = c.args.self.now in
    let t = s.table.shared in
    let me = c.load-word.new.seat.me in
    let same : me.0 ≡ c.args.pass.now.seat.me.0 = c.load-word.ensures.2.1 (omega (arith, c.if-word-gt0.false)) in
    let some : 0 < me.0.parts = omega (arith, ap (λ (v : View). v.parts) same, c.args.pass.now.some_part) in
    let key : t.key ≡ s.places = s.sized.1 in
    let within : (c.args.start + c.args.k) % s.places < s.places = mod-lt (c.args.start + c.args.k) s.sized.2 in
    let place : (c.args.start + c.args.k) % s.places ≡ place_of t.key c.args.code c.args.k = ap (λ (z : ℕ). (z + c.args.k) % s.places) c.requires.start ∙ ap (λ (z : ℕ). place_of z c.args.code c.args.k) (sym key) in
    let passed : HasFound t.key c.args.code c.args.k me.0 = subst (λ (z : ℕ). HasFound z c.args.code c.args.k me.0) (sym key) (subst (HasFound s.places c.args.code c.args.k) (sym same) c.requires.passed) in
    (search rules, omega (arith, within, s.sized.0), takes t.key t.table_id.slots c.load-word.new.seat.id c.args.code c.args.k _ me some c.requires.code (omega (arith, c.requires.within, key)) passed place)
