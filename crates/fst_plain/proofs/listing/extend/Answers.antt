use Rattle.std.proofs.Common.{◌≡◌, ◌<◌, ◌+◌, ◌++◌, ◌∷◌, [], ℕ, List, length, map, take, sym, ap, ◌∙◌, subst, append_assoc, arith}
use Rattle.std.proofs.lemmas.List.{map_push}
use Rattle.std.proofs.lemmas.List.Elements.{All-push}
use Rattle.fst_machine.specs.Machine.{Arc, valued_arc}
use Rattle.fst_plain.specs.declared.path.PlainPart.{PlainPart}
use Rattle.fst_plain.specs.Plain.{cost_of, Fits}
use Rattle.fst_plain.specs.PlainPaths.{AllGood, Part, one_more, outgoing, part_of}
use Rattle.fst_plain.proofs.Parts.{outgoing_more}
use Rattle.fst_plain.proofs.listing.extend.Goals as goal

pub loop-place-preserved : goal.loop-place-preserved
loop-place-preserved g c =
    let kind = g.W.Weight.KIND in
    let view = valued_arc g.W.Weight.value in
    let part = part_of c.args.part.now in
    let old = c.loop-place.parts.items in
    let more = c.in_ok-more.more in
    let x = c.index-arcs-place.result in
    let i = c.loop-place.place in
    let low : i < length c.args.arcs.now = omega arith in
    let e : c.push.new.self.items ≡ old ++ more ∷ [] = c.in_ok-push.ensures.items in
    let last : part_of more ≡ one_more kind part (record { state = c.args.part.now.end; place = i; arc = view x }) = c.in_ok-more.ensures.value in
    let further = outgoing_more kind view c.args.part.now.end part c.args.arcs.now i x low c.index-arcs-place.is in
    let front = map part_of c.args.parts.now.items in
    record {
      value = ap (map part_of) e ∙ (map_push part_of old more ∙ ((λ j. c.loop-place.invariant.value j ++ last j ∷ []) ∙ (append_assoc front (map (one_more kind part) (outgoing c.args.part.now.end 0 (map view (take i c.args.arcs.now)))) (one_more kind part (record { state = c.args.part.now.end; place = i; arc = view x }) ∷ []) ∙ ap (λ zs. front ++ zs) (sym further))));
      good = λ states n fits arcs all. subst (λ (ps : List PlainPart). AllGood states (n + 1) ps) (sym e) (All-push (λ (p : PlainPart). (p.end < states) × Fits (n + 1) (cost_of p.product)) old more (c.loop-place.invariant.good states n fits arcs all) (subst (λ (m : ℕ). m < states) (sym (ap (λ (a : Part). a.end) last)) (subst (λ (a : Arc g.row.W.Denot ℕ). a.next < states) (sym c.index-arcs-place.is) (arcs i x low)), c.in_ok-more.ensures.fits n fits));
    }
