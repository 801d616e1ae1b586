use Rattle.std.proofs.Common.{◌≡◌, ◌<◌, ◌≤◌, List, length, get_or, subst}
use Rattle.fst_trim.specs.Links.{Link}
use Rattle.fst_machine.specs.BreadthFirst.{Has}
use Rattle.fst_machine.proofs.Elements.{at_Has}
use Rattle.fst_nbest.proofs.Counted.{item_at, sources_done, sources_more}
use Rattle.fst_nbest.proofs.counting.put_sources.Goals as goal

pub put_source-requires-clause-link : goal.put_source-requires-clause-link
put_source-requires-clause-link g c =
    let items = c.links_to-link-items.result.now in
    subst (λ (l : List (Link g.row.V.Denot)). Has l c.link-item.result) c.links_to-link-items.ensures (at_Has items c.loop-link.link-index c.link-item.result (item_at items c.loop-link.link-index c.link-item.result c.loop-link-test.true c.link-item.is))

pub loop-link-preserved : goal.loop-link-preserved
loop-link-preserved g c =
    let b = g.B.Backward in
    let links = b.links c.args.back.now c.args.name in
    let same = c.links_to-link-items.ensures in
    record {
      just = sources_more (λ l x. b.leads c.args.back.now l x c.args.name) links c.loop-link.link-index c.link-item.result c.loop-link.sources.items c.put_source.new.sources.items
          (subst (λ (l : List (Link g.row.V.Denot)). c.loop-link.link-index < length l) same c.loop-link-test.true)
          (subst (λ (l : List (Link g.row.V.Denot)). c.link-item.result ≡ get_or l c.loop-link.link-index c.link-item.result) same c.link-item.is)
          c.loop-link.invariant.just c.in_ok-put_source.ensures.just;
      low = c.in_ok-put_source.ensures.low c.loop-link.invariant.low;
    }

pub returns-clause-just : goal.returns-clause-just
returns-clause-just g c =
    let b = g.B.Backward in
    let links = b.links c.args.back.now c.args.name in
    sources_done (λ l x. b.leads c.args.back.now l x c.args.name) links c.loop-link.link-index c.loop-link.sources.items
    (subst (λ (l : List (Link g.row.V.Denot)). length l ≤ c.loop-link.link-index) c.links_to-link-items.ensures c.loop-link-test.false) c.loop-link.invariant.just
