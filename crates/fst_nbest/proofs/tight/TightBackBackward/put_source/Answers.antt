use Rattle.std.proofs.Common.{◌≡◌, ℕ, [], length, get_or, sym, ap, ◌∙◌, subst, arith}
use Rattle.fst_semiring.specs.Cost.{Cost}
use Rattle.fst_semiring.specs.Semiring.{times}
use Rattle.fst_machine.specs.BreadthFirst.{Has}
use Rattle.fst_machine.specs.Machine.{IsMachine}
use Rattle.fst_trim.specs.Links.{Link, turned_links}
use Rattle.fst_nbest.specs.Ready.{IsTightLink, Measured, dist_in}
use Rattle.fst_nbest.proofs.ClassWords.{link_known, link_low}
use Rattle.fst_nbest.proofs.Counted.{pushed_low, pushed_where}
use Rattle.fst_nbest.proofs.tight.TightBackBackward.put_source.Goals as goal

pub widened-requires : goal.widened-requires
widened-requires g c =
    let m = g.M.AsMachine.machine c.self.inside.fst.now in
    let there = subst (λ (k : Measured g.row.V.Denot g.row.W-Wide.Denot). Has (get_or (turned_links k.machine.states) c.args.name []) c.args.link.now) (sym c.self.view_is) c.requires.link in
    subst g.M.Widens.known (sym (ap (λ (l : Link g.row.V.Denot). l.weight) c.link.view_is)) (link_known g.M.Widens.known m c.self.invariant.0.weights c.args.name c.args.link.now there)

pub distance-requires-2 : goal.distance-requires-2
distance-requires-2 g c =
    let m = c.args.self.now.machine in
    let low = link_low g.M.AsMachine.value m (subst (λ (k : Measured g.row.V.Denot g.row.W-Wide.Denot). IsMachine g.M.AsMachine.value k.machine) c.self.view_is c.state_count-states.ensures.good) c.args.name c.args.link.now c.requires.link in
    let next = ap (λ (l : Link g.row.V.Denot). l.next) c.link.view_is in
    omega (arith, low, next)

pub returns-in_ok-push-clause-just : goal.returns-in_ok-push-clause-just
returns-in_ok-push-clause-just g c =
    let wide = g.W.Weight.wide_value in
    let s = c.args.self.now in
    let link = c.args.link.now in
    let next : c.link.inside.next ≡ link.next = ap (λ (l : Link g.row.V.Denot). l.next) c.link.view_is in
    let weight = ap (λ (l : Link g.row.V.Denot). g.M.AsMachine.value l.weight) c.link.view_is in
    let total : wide c.wide_times-total.result ≡ times g.W.Weight.KIND (g.M.AsMachine.value link.weight) (dist_in wide s.dist c.args.name) =
    c.wide_times-total.ensures.product ∙ (ap (λ (w : Cost). times g.W.Weight.KIND w (wide c.distance.result)) (c.widened.ensures.same ∙ weight) ∙ ap (times g.W.Weight.KIND (g.M.AsMachine.value link.weight)) c.distance.ensures.same) in
    let same : wide c.wide_times-total.result ≡ dist_in wide s.dist c.link.inside.next = c.is_same.ensures.0 c.if-is_same.true ∙ c.distance-2.ensures.same in
    pushed_where (λ (x : ℕ). IsTightLink g.W.Weight.KIND g.M.AsMachine.value wide s.dist link x c.args.name) c.args.sources.now.items c.push.new.self.items c.link.inside.next c.in_ok-push.ensures.items
    (sym next, sym total ∙ same) (λ x p. next ∙ p.0)

pub returns-in_ok-push-clause-low : goal.returns-in_ok-push-clause-low
returns-in_ok-push-clause-low g c all =
    let m = c.args.self.now.machine in
    let low = link_low g.M.AsMachine.value m (subst (λ (k : Measured g.row.V.Denot g.row.W-Wide.Denot). IsMachine g.M.AsMachine.value k.machine) c.self.view_is c.state_count-states.ensures.good) c.args.name c.args.link.now c.requires.link in
    let next = ap (λ (l : Link g.row.V.Denot). l.next) c.link.view_is in
    pushed_low (length m.states) c.args.sources.now.items c.push.new.self.items c.link.inside.next c.in_ok-push.ensures.items (omega (arith, low, next)) all
