use Rattle.std.proofs.Common.{◌≡◌, ◌-◌, ◌*◌, ℕ, sym, ap, ◌∙◌, subst, arith}
use Rattle.fst_semiring.specs.Cost.{Cost}
use Rattle.fst_semiring.specs.Semiring.{Within}
use Rattle.fst_semiring.proofs.Ranges.{Within-more}
use Rattle.fst_machine.specs.Graph.{graph_of}
use Rattle.fst_machine.specs.Letters.{letter_of}
use Rattle.fst_machine.specs.Machine.{Arc, valued, valued_arc}
use Rattle.fst_machine.specs.Steps.{written}
use Rattle.fst_nbest.specs.Chains.{arc_at, chain_of}
use Rattle.fst_nbest.proofs.PathChains.{letter_in, letters-count, step_there}
use Rattle.fst_batch.proofs.Filled.{small_step}
use Rattle.fst_batch.proofs.Weighed.{rest_wide, rest_within, small_letters, weigh_more}
use Rattle.fst_batch.proofs.listing.path_product.Goals as goal

pub step_arc-arc-requires : goal.step_arc-arc-requires
step_arc-arc-requires g c = step_there (graph_of (valued g.W.Weight.wide_value c.args.fst.now)) c.args.path.now (c.loop-place.place - 1) c.item.result.now c.requires.steps c.item.ensures

pub wide_times-weight-requires-clause-a_wide : goal.wide_times-weight-requires-clause-a_wide
wide_times-weight-requires-clause-a_wide g c =
    let value = g.W.Weight.wide_value in
    let m = valued value c.args.fst.now in
    let step = step_there (graph_of m) c.args.path.now (c.loop-place.place - 1) c.item.result.now c.requires.steps c.item.ensures in
    let is : value c.arc.inside.weight ≡ (arc_at (graph_of m) (c.item.result.now.state, c.item.result.now.place)).weight = ap (λ (a : Arc Cost ℕ). a.weight) (ap (valued_arc value) c.arc.view_is ∙ c.step_arc-arc.ensures.value) in
    Within-more 2000000000000000000 1329227995784915872903807060280344575 (value c.arc.inside.weight) (omega arith) (subst (Within 2000000000000000000) (sym is) (small_step m c.requires.small (c.item.result.now.state, c.item.result.now.place) step))

pub wide_times-weight-requires-clause-b_wide : goal.wide_times-weight-requires-clause-b_wide
wide_times-weight-requires-clause-b_wide g c =
    let value = g.W.Weight.wide_value in
    let m = valued value c.args.fst.now in
    let letters = (chain_of (graph_of m) (written c.args.path.now)).letters in
    let long = letters-count (graph_of m) c.args.path.now in
    let few = c.requires.few in
    rest_wide g.W.Weight.KIND letters c.loop-place.place (value c.loop-place.weight) (small_letters m c.requires.small (written c.args.path.now) c.requires.steps) (omega (arith, long, few)) c.loop-place.invariant.product

pub loop-place-preserved : goal.loop-place-preserved
loop-place-preserved g c =
    let value = g.W.Weight.wide_value in
    let kind = g.W.Weight.KIND in
    let m = valued value c.args.fst.now in
    let letters = (chain_of (graph_of m) (written c.args.path.now)).letters in
    let s = c.item.result.now in
    let arc = arc_at (graph_of m) (s.state, s.place) in
    let is : value c.arc.inside.weight ≡ arc.weight = ap (λ (a : Arc Cost ℕ). a.weight) (ap (valued_arc value) c.arc.view_is ∙ c.step_arc-arc.ensures.value) in
    record {
      within = let low = c.loop-place.invariant.within in omega (arith, low);
      product = weigh_more kind letters (c.loop-place.place - 1) c.loop-place.place (letter_of arc) (value c.loop-place.weight) (value c.wide_times-weight.result) (value c.arc.inside.weight) (omega arith)
          (letter_in (graph_of m) c.args.path.now (c.loop-place.place - 1) s c.item.ensures) c.loop-place.invariant.product is c.wide_times-weight.ensures.product;
    }

pub returns-clause-range : goal.returns-clause-range
returns-clause-range g c =
    let value = g.W.Weight.wide_value in
    let m = valued value c.args.fst.now in
    let letters = (chain_of (graph_of m) (written c.args.path.now)).letters in
    let long = letters-count (graph_of m) c.args.path.now in
    let few = c.requires.few in
    subst (λ (k : ℕ). Within (k * 2000000000000000000) (value c.loop-place.weight)) long
    (rest_within g.W.Weight.KIND letters c.loop-place.place (value c.loop-place.weight) (small_letters m c.requires.small (written c.args.path.now) c.requires.steps) (omega (arith, long, few)) c.loop-place.invariant.product)
