use Rattle.std.proofs.Common.{◌≡◌, ◌+◌, ◌++◌, ◌∷◌, [], ℕ, List, Some, false, length, map, slice_get, take, refl, sym, ap, ◌∙◌}
use Rattle.std.proofs.lemmas.Option.{slice_get_read}
use Rattle.fst_semiring.specs.Cost.{Cost}
use Rattle.fst_semiring.specs.Semiring.{times}
use Rattle.fst_machine.specs.Machine.{Arc, valued_arc}
use Rattle.fst_machine.proofs.Narrowing.{taken}
use Rattle.fst_epsilon.specs.Construction.{behind_arc, is_silent, merged, put_arc, spoken}
use Rattle.fst_epsilon.proofs.Gathered.{merged-append, spoken-loud, spoken-silent}
use Rattle.fst_epsilon.proofs.gathering.put_arcs.Goals as goal

pub loop-arc-preserved-then-is_epsilon : goal.loop-arc-preserved-then-is_epsilon
loop-arc-preserved-then-is_epsilon g c =
    let value = g.W.Weight.value in
    let kind = g.W.Weight.KIND in
    let d = g.W.Weight.wide_value c.args.distance in
    let arcs = c.args.arcs.now in
    let i = c.loop-arc.arc-index in
    let b : Arc g.row.W.Denot ℕ = record { ilabel = c.arc.inside.ilabel; olabel = c.arc.inside.olabel; weight = c.arc.inside.weight; next = c.arc.inside.next } in
    let there : slice_get arcs i ≡ Some b = slice_get_read arcs (length arcs) i c.arc-item.result refl c.loop-arc-test.true c.arc-item.is ∙ ap Some (sym c.arc.view_is) in
    let on : spoken kind d (take (i + 1) (map (valued_arc value) arcs)) ≡ spoken kind d (take i (map (valued_arc value) arcs)) =
    ap (spoken kind d) (taken (valued_arc value) arcs i b there) ∙ spoken-silent kind d (take i (map (valued_arc value) arcs)) (valued_arc value b) (ap (λ (a : Arc g.row.W.Denot ℕ). is_silent (valued_arc value a)) c.arc.view_is ∙ (sym c.is_epsilon.ensures ∙ c.if-is_epsilon.true)) in
    record {
      paired = c.loop-arc.invariant.paired;
      arcs = c.loop-arc.invariant.arcs ∙ ap (merged (map (valued_arc g.W.Weight.wide_value) c.args.out.now.arcs.items)) (sym on);
    }

pub loop-arc-preserved : goal.loop-arc-preserved
loop-arc-preserved g c =
    let value = g.W.Weight.value in
    let wide = g.W.Weight.wide_value in
    let kind = g.W.Weight.KIND in
    let d = g.W.Weight.wide_value c.args.distance in
    let arcs = c.args.arcs.now in
    let i = c.loop-arc.arc-index in
    let done = map (valued_arc wide) c.args.out.now.arcs.items in
    let so_far = spoken kind d (take i (map (valued_arc value) arcs)) in
    let b : Arc g.row.W.Denot ℕ = record { ilabel = c.arc.inside.ilabel; olabel = c.arc.inside.olabel; weight = c.arc.inside.weight; next = c.arc.inside.next } in
    let there : slice_get arcs i ≡ Some b = slice_get_read arcs (length arcs) i c.arc-item.result refl c.loop-arc-test.true c.arc-item.is ∙ ap Some (sym c.arc.view_is) in
    let loud : is_silent (valued_arc value b) ≡ false = ap (λ (a : Arc g.row.W.Denot ℕ). is_silent (valued_arc value a)) c.arc.view_is ∙ (sym c.is_epsilon.ensures ∙ c.if-is_epsilon.false) in
    let on : spoken kind d (take (i + 1) (map (valued_arc value) arcs)) ≡ so_far ++ behind_arc kind d (valued_arc value b) ∷ [] =
    ap (spoken kind d) (taken (valued_arc value) arcs i b there) ∙ spoken-loud kind d (take i (map (valued_arc value) arcs)) (valued_arc value b) loud in
    let weight : wide c.wide_times.result ≡ times kind d (value c.arc.inside.weight) = c.wide_times.ensures.product ∙ ap (times kind d) c.widen.ensures.same in
    record {
      paired = c.in_ok-put.ensures.paired;
      arcs = c.in_ok-put.ensures.arcs
          ∙ (ap (λ (w : Cost). put_arc (map (valued_arc wide) c.loop-arc.out.arcs.items) (record { ilabel = c.arc.inside.ilabel; olabel = c.arc.inside.olabel; weight = w; next = c.arc.inside.next })) weight
          ∙ (ap (λ (zs : List (Arc Cost ℕ)). put_arc zs (behind_arc kind d (valued_arc value b))) c.loop-arc.invariant.arcs
          ∙ (sym (merged-append done so_far (behind_arc kind d (valued_arc value b) ∷ [])) ∙ ap (merged done) (sym on))));
    }
