use Rattle.std.proofs.Common.{◌+◌, sym, subst, arith}
use Rattle.fst_plain.specs.Plain.{cost_of, Fits}
use Rattle.fst_plain.proofs.Bounds.{Fits-sum, times-Fits}
use Rattle.fst_plain.proofs.listing.add_arc.Goals as goal

pub times_costs-requires : goal.times_costs-requires
times_costs-requires g c = Fits-sum c.requires.0 1 (cost_of c.args.part.now.product) (cost_of c.plain_cost-weight.result) (omega (arith, c.requires.1)) c.requires.2 c.plain_cost-weight.ensures.fits

pub returns-clause-fits : goal.returns-clause-fits
returns-clause-fits g c = λ n h. subst (λ z. Fits (n + 1) z) (sym c.times_costs.ensures) (times-Fits c.KIND.result n 1 (cost_of c.args.part.now.product) (cost_of c.plain_cost-weight.result) h c.plain_cost-weight.ensures.fits)
