use Rattle.std.proofs.Common.{◌⊎◌, inl, inr, ◌<◌, ◌≤◌, ℕ, get_or, arith}
use Rattle.std.proofs.lemmas.Bool.{cases_lt}
use Rattle.fst_trim.specs.Sides.{label_of}
use Rattle.fst_trim.proofs.Halving.{gone_along, none_here, none_lower}
use Rattle.fst_trim.proofs.run.run_from.Goals as goal

-- what holds below a place and from it on
joined : (P : ℕ → Type 0) (m k : ℕ) → (k < m → P k) → (m ≤ k → P k) → P k
joined P m k below above = by_order (cases_lt k m)
  where
    by_order : (k < m) ⊎ (m ≤ k) → P k
    by_order (inl low) = below low
    by_order (inr past) = above past

pub returns-in-Less-clause-run : goal.returns-in-Less-clause-run
returns-in-Less-clause-run g c =
    let arcs = c.args.arcs.now in
    let near = c.reach-low.ensures in
    let place = c.first_place-first.ensures in
    gone_along c.args.side arcs c.requires.sorted c.args.label _
    (λ k d low. joined (λ k. label_of c.args.side (get_or arcs k d) < c.args.label) c.reach-low.result.0 k (λ less. near.before k d less) (λ past. place.before k d past low))
    _ c.run_end.ensures.order c.run_end.ensures.within
    (λ k d past low. joined (λ k. c.args.label ≤ label_of c.args.side (get_or arcs k d)) c.reach-low.result.1 k (λ less. place.from k d past less) (λ high. near.from k d high low))
    c.run_end.ensures.here c.run_end.ensures.next

pub returns-in-Equal-clause-run : goal.returns-in-Equal-clause-run
returns-in-Equal-clause-run g c =
    gone_along c.args.side c.args.arcs.now c.requires.sorted c.args.label _ c.requires.before _ c.run_end-in-Equal.ensures.order c.run_end-in-Equal.ensures.within
    (λ k d past low. let least = none_lower c.args.side c.args.arcs.now c.requires.sorted c.args.start c.index-arcs-start.result (omega arith) c.index-arcs-start.is k d past low in omega (arith, least, c.in-Equal.ensures.order))
    c.run_end-in-Equal.ensures.here c.run_end-in-Equal.ensures.next

pub returns-in-Greater-clause-run : goal.returns-in-Greater-clause-run
returns-in-Greater-clause-run g c =
    none_here c.args.side c.args.arcs.now c.requires.sorted c.args.label _ c.requires.before c.requires.start
    (λ k d past low. let least = none_lower c.args.side c.args.arcs.now c.requires.sorted c.args.start c.index-arcs-start.result (omega arith) c.index-arcs-start.is k d past low in omega (arith, least, c.in-Greater.ensures.order))
