use Rattle.std.proofs.Common.{◌≡◌, ap, ◌∙◌, arith}
use Rattle.atomic_table.specs.Seated.{TableId}
use Rattle.fst_claims.specs.Passes.{view}
use Rattle.fst_lattice.proofs.Blocking.{full_blocked, taken_blocked, won_free}
use Rattle.fst_lattice.proofs.serving.wins.Goals as goal

pub returns-in-Won-clause-won : goal.returns-in-Won-clause-won
returns-in-Won-clause-won c =
    let t = c.args.claims.now in
    let size : (view c.args.pass.now).places ≡ t.places = c.args.pass.now.sized.1 ∙ (ap (λ (z : TableId). z.words) c.requires.pass ∙ t.sized.0) in
    let h = c.in-Won.ensures.told in
    (h.won, won_free t.places c.args.code (view c.args.pass.now) (view c.claim.new.pass) size h, omega (arith, h.few, h.like.1, size))

pub returns-in-Taken-clause-won : goal.returns-in-Taken-clause-won
returns-in-Taken-clause-won c = let h = c.in-Taken.ensures.told in (h.won, taken_blocked c.args.claims.now.places c.args.code (view c.args.pass.now) (view c.claim.new.pass) h)

pub returns-in-Full-clause-won : goal.returns-in-Full-clause-won
returns-in-Full-clause-won c = let h = c.in-Full.ensures.told in (h.won, full_blocked c.args.claims.now.places c.args.code (view c.args.pass.now) (view c.claim.new.pass) h)
