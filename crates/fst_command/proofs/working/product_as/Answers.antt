use Rattle.std.proofs.Common.{ap, inl, refl, ◌∙◌}
use Rattle.fst_binary.specs.Sides.{Sides}
use Rattle.fst_verbs.specs.Meaning.{bytes_of}
use Rattle.fst_words.specs.Inputs.{expands}
use Rattle.fst_verbs.specs.Seeing.{given_with, made_seen}
use Rattle.fst_command.specs.Views.{product_seen}
use Rattle.fst_verbs.specs.declared.refusal.Refusal.TheVariants.{Memory}
use Rattle.fst_command.proofs.Decided.{decides_made, decides_stopped}
use Rattle.fst_command.proofs.Meters.{work_raised, work_refused, work_unspelled}
use Rattle.fst_command.proofs.working.product_as.Goals as goal

pub returns-in-Err-clause-decides : goal.returns-in-Err-clause-decides
returns-in-Err-clause-decides g c = λ held kind reads. decides_stopped c.args.plan.now held g.W.Weight.KIND (given_with c.args.tables.now g.W.Weight.KIND g.W.Weight.value c.args.given) c.in-Err.refusal kind reads c.in-Err.ensures.settles

pub returns-in-Err-clause-meter : goal.returns-in-Err-clause-meter
returns-in-Err-clause-meter g c = λ held kind reads. work_refused (expands c.args.plan.now) c.args.plan.now held c.in-Err.refusal c.in-Err.refusal _ _ c.in-Err.ensures.meter

pub returns-in-Ok-product_of-clause-decides : goal.returns-in-Ok-product_of-clause-decides
returns-in-Ok-product_of-clause-decides g c = λ held kind reads.
    decides_made c.args.plan.now held g.W.Weight.KIND (given_with c.args.tables.now g.W.Weight.KIND g.W.Weight.value c.args.given) (made_seen g.W.Weight.KIND g.W.Weight.value c.in-Ok.made) (product_seen c.in-Ok-product_of.product)
    kind reads c.in-Ok.ensures.settles (c.in-Ok-product_of.ensures.bytes ∙ ap (λ (s : Sides). bytes_of s (made_seen g.W.Weight.KIND g.W.Weight.value c.in-Ok.made)) c.tables_for.ensures) c.in-Ok-product_of.ensures.status

pub returns-in-Ok-product_of-clause-meter : goal.returns-in-Ok-product_of-clause-meter
returns-in-Ok-product_of-clause-meter g c = λ held kind reads.
    work_raised (expands c.args.plan.now) c.args.plan.now held g.W.Weight.KIND (given_with c.args.tables.now g.W.Weight.KIND g.W.Weight.value c.args.given) (made_seen g.W.Weight.KIND g.W.Weight.value c.in-Ok.made) (product_seen c.in-Ok-product_of.product) _ _
    kind reads c.in-Ok.ensures.settles (c.in-Ok-product_of.ensures.bytes ∙ ap (λ (s : Sides). bytes_of s (made_seen g.W.Weight.KIND g.W.Weight.value c.in-Ok.made)) c.tables_for.ensures) c.in-Ok-product_of.ensures.status c.in-Ok.ensures.meter

pub returns-in-Err-product_of-clause-decides : goal.returns-in-Err-product_of-clause-decides
returns-in-Err-product_of-clause-decides g c = λ held kind reads. inl refl

pub returns-in-Err-product_of-clause-meter : goal.returns-in-Err-product_of-clause-meter
returns-in-Err-product_of-clause-meter g c = λ held kind reads.
    work_unspelled (expands c.args.plan.now) c.args.plan.now held (made_seen g.W.Weight.KIND g.W.Weight.value c.in-Ok.made) Memory _ _ c.in-Ok.ensures.meter
