use Rattle.std.proofs.Common.{◌≡◌, ◌<◌, ◌++◌, ◌∙◌, ℕ, ap, get_or, length, map, sym, arith}
use Rattle.std.proofs.lemmas.List.{get_or_default}
use Rattle.std.specs.List.{flat_map}
use Rattle.fst_semiring.specs.Cost.{Cost}
use Rattle.fst_machine.specs.Machine.{Arc, valued_arc}
use Rattle.fst_walk.specs.Names.{key_arc}
use Rattle.fst_compose.specs.Composition.{match_arcs}
use Rattle.fst_compose.proofs.Appending.{brings_more}
use Rattle.fst_compose.proofs.Segments.{rest_none, run_along, run_none, run_whole, still_lower}
use Rattle.fst_compose.proofs.matching.put_merged.Goals.{then-next-a+in_ok-put_matches, else-next-a}
use Rattle.fst_compose.proofs.matching.put_merged.Goals as goal

pub returns-then-place-bs : goal.returns-then-place-bs
returns-then-place-bs g c =
    let rest = rest_none g.W.Weight.KIND g.W.Weight.value c.args.arcs.now c.args.bs.now c.loop-a.a-index (omega (arith, c.loop-a-test.true))
    (λ i j d e past low less. still_lower c.args.arcs.now c.args.bs.now _ c.a-item.result c.loop-a.a-index c.pass_lower-place.result c.requires.first c.loop-a-test.true c.a.view_is c.a-item.is c.pass_lower-place.ensures.before i j d e past low (omega (arith, c.if-place-bs.true))) in
    record { put = c.loop-a.invariant.put ∙ ap (λ zs. map (key_arc g.W.Weight.wide_value) c.args.out.now.items ++ zs) (sym rest) }

pub loop-a-preserved : goal.loop-a-preserved
loop-a-preserved g c =
    let a = c.a-item.result in
    let first = c.pass_lower-place.ensures in
    let made = λ (x : Arc Cost ℕ). flat_map (match_arcs {N = ℕ} {M = ℕ} g.W.Weight.KIND x) (map (valued_arc g.W.Weight.value) c.args.bs.now) in
    let new : map (key_arc g.W.Weight.wide_value) c.if-next-a.out.items ≡ map (key_arc g.W.Weight.wide_value) c.loop-a.out.items ++ made (valued_arc g.W.Weight.value a) =
    elim c.if-next-a.branch [
      | then-next-a+in_ok-put_matches w ↦
          (let last = w.run_end-end.ensures in
          let run = run_along c.args.bs.now c.a.inside.olabel _ _ c.requires.second last.order last.within first.before first.next last.here last.next in
          ap (λ o. map (key_arc g.W.Weight.wide_value) o.items) w.out-is ∙ run_whole g.W.Weight.KIND g.W.Weight.value _ a c.args.bs.now _ _ _ _ c.a.view_is run w.in_ok-put_matches.ensures)
      | else-next-a w ↦
          (let label : (d : Arc g.row.W.Denot ℕ) → c.pass_lower-place.result < length c.args.bs.now → c.next.inside.ilabel ≡ (get_or c.args.bs.now c.pass_lower-place.result d).ilabel =
          λ d low. ap (λ (z : Arc g.row.W.Denot ℕ). z.ilabel) (c.next.view_is ∙ (c.index-bs-place.is ∙ get_or_default c.args.bs.now c.pass_lower-place.result c.index-bs-place.result d low)) in
          let run = run_along c.args.bs.now c.a.inside.olabel c.pass_lower-place.result c.pass_lower-place.result c.requires.second (omega arith) first.within first.before first.next (λ k d past low. absurd (omega arith)) (λ d low e. w.if-next-a.false (label d low ∙ e)) in
          run_none g.W.Weight.KIND g.W.Weight.value _ a c.args.bs.now _ _ _ c.a.view_is run (ap (λ o. map (key_arc g.W.Weight.wide_value) o.items) w.out-is))
    ] in
    record {
      within = first.within;
      low = λ i j d e past low less. still_lower c.args.arcs.now c.args.bs.now _ a c.loop-a.a-index _ c.requires.first c.loop-a-test.true c.a.view_is c.a-item.is first.before i j d e (omega arith) low less;
      put = brings_more made (valued_arc g.W.Weight.value) c.args.arcs.now _ _ _ c.loop-a.a-index a c.loop-a-test.true c.a-item.is c.loop-a.invariant.put new;
    }
