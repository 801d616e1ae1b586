use Rattle.std.proofs.Common.{◌≡◌, ◌<◌, ◌+◌, suc, ℕ, List, Some, slice_get, subst, arith}
use Rattle.fst_machine.proofs.Elements.{at_Has}
use Rattle.fst_nbest.specs.Counts.{Hops, MeetsAll, count_of}
use Rattle.fst_nbest.proofs.Counted.{count_begins, count_goes_on, count_read, counted, item_at, names_few, of_each}
use Rattle.fst_nbest.proofs.counting.counts_back.Given.{Over}
use Rattle.fst_nbest.proofs.counting.counts_back.Goals.{After-index-name, After-index-count}
use Rattle.fst_nbest.proofs.counting.counts_back.Goals as goal

-- the name that is taken stands in its place, and lies below
name_there : (g : Over) (c : After-index-name g) → slice_get c.loop-taken.names.items c.loop-taken.taken ≡ Some c.index-name.result.now
name_there g c = item_at c.loop-taken.names.items c.loop-taken.taken c.index-name.result.now (omega (arith, c.loop-taken-test.true, c.len.ensures)) c.index-name.ensures

name_low : (g : Over) (c : After-index-name g) → c.index-name.result.now < g.B.Backward.size c.args.back.now
name_low g c = c.loop-taken.invariant.counting.1.low c.index-name.result.now (at_Has c.loop-taken.names.items c.loop-taken.taken c.index-name.result.now (name_there g c))

-- and its count is read
read : (g : Over) (c : After-index-count g) → c.index-name.result.now < g.B.Backward.size c.args.back.now → count_of c.loop-taken.counts.items c.index-name.result.now ≡ c.index-count.result.now
read g c low = let size = c.loop-taken.invariant.counting.1.size in count_read c.loop-taken.counts.items c.index-name.result.now c.index-count.result.now (omega (arith, low, size)) c.index-count.ensures

pub loop-taken-init : goal.loop-taken-init
loop-taken-init g c =
    let b = g.B.Backward in
    let back = c.args.back.now in
    record {
      few = omega (arith, c.name_count.ensures.count, c.name_count.ensures.few);
      counting = (0, count_begins (b.size back) (b.stops back) (Hops (b.links back) (b.leads back)) c.meet_stops.new.counts.items c.meet_stops.new.names.items (g.met.B.Backward.within back) c.in_ok-meet_stops.ensures);
    }

pub index-count-requires : goal.index-count-requires
index-count-requires g c =
    let low = name_low g (goal.at.index-count-requires g c).After-index-name in
    omega (arith, low, c.loop-taken.invariant.counting.1.size)

pub put_sources-requires-clause-name : goal.put_sources-requires-clause-name
put_sources-requires-clause-name g c = name_low g (goal.at.put_sources-requires-clause-name g c).After-index-name

pub overflow_add-count : goal.overflow_add-count
overflow_add-count g c =
    let b = g.B.Backward in
    let back = c.args.back.now in
    let w = c.loop-taken.invariant.counting.1 in
    let at = (goal.at.overflow_add-count g c).After-index-name in
    let is = read g (goal.at.overflow_add-count g c).After-index-count (name_low g at) in
    let early = w.early c.loop-taken.taken c.index-name.result.now (name_there g at) in
    let few = names_few (b.size back) (b.stops back) (Hops (b.links back) (b.leads back)) c.loop-taken.counts.items c.loop-taken.names.items c.loop-taken.taken c.loop-taken.invariant.counting.0 w in
    omega (arith, is, early, few, c.loop-taken.invariant.few, c.loop-taken-test.true, c.len.ensures)

pub loop-taken-smaller : goal.loop-taken-smaller
loop-taken-smaller g c =
    let b = g.B.Backward in
    let back = c.args.back.now in
    let w = c.loop-taken.invariant.counting.1 in
    let few = names_few (b.size back) (b.stops back) (Hops (b.links back) (b.leads back)) c.loop-taken.counts.items c.loop-taken.names.items c.loop-taken.taken c.loop-taken.invariant.counting.0 w in
    omega (arith, few, c.loop-taken-test.true, c.len.ensures)

pub loop-taken-preserved : goal.loop-taken-preserved
loop-taken-preserved g c =
    let b = g.B.Backward in
    let back = c.args.back.now in
    let w = c.loop-taken.invariant.counting.1 in
    let names = c.loop-taken.names.items in
    let counts = c.loop-taken.counts.items in
    let name = c.index-name.result.now in
    let at = name_there g (goal.at.loop-taken-preserved g c).After-index-name in
    let read = read g (goal.at.loop-taken-preserved g c).After-index-count (name_low g (goal.at.loop-taken-preserved g c).After-index-name) in
    let next : c.index-count.result.now + 1 ≡ suc (count_of counts name) = omega (arith, read) in
    let sources = c.put_sources.new.sources.items in
    let met = subst (λ (k : ℕ). MeetsAll k counts names sources c.meet_all.new.counts.items c.meet_all.new.names.items) next
    (subst (λ (l : List ℕ). MeetsAll (c.index-count.result.now + 1) counts names l c.meet_all.new.counts.items c.meet_all.new.names.items) c.as_slice.ensures.value c.in_ok-meet_all.ensures.met) in
    record {
      few = c.loop-taken.invariant.few;
      counting = (
        count_of counts name,
        count_goes_on (b.size back) (b.stops back) (Hops (b.links back) (b.leads back)) c.loop-taken.invariant.few counts names c.meet_all.new.counts.items c.meet_all.new.names.items sources c.loop-taken.taken c.loop-taken.invariant.counting.0 name w at c.in_ok-put_sources.ensures.just
            (λ x there. of_each (λ z. z < b.size back) sources x c.in_ok-put_sources.ensures.low there) met,
      );
    }

pub returns-clause-least : goal.returns-clause-least
returns-clause-least g c =
    let b = g.B.Backward in
    let back = c.args.back.now in
    counted (b.size back) (b.stops back) (Hops (b.links back) (b.leads back)) c.loop-taken.invariant.few c.loop-taken.counts.items c.loop-taken.names.items c.loop-taken.taken c.loop-taken.invariant.counting.0 c.loop-taken.invariant.counting.1
    (omega (arith, c.loop-taken-test.false, c.len.ensures))
