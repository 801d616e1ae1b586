use Rattle.std.proofs.Common.{◌≡◌, ◌+◌, ◌++◌, ◌∷◌, [], ℕ, List, map, take, Some, slice_get, refl, sym, ap, ◌∙◌, subst, arith}
use Rattle.std.proofs.lemmas.List.{map-append, take_all}
use Rattle.std.proofs.lemmas.Option.{slice_get_within}
use Rattle.fst_semiring.specs.Cost.{Cost}
use Rattle.fst_semiring.specs.Semiring.{InRange}
use Rattle.fst_machine.specs.Machine.{Arc, valued_arc}
use Rattle.fst_trim.proofs.Places.{read_here, none_more}
use Rattle.fst_codex.specs.Decoded.{PassesRange, decoded_arc}
use Rattle.fst_codex.specs.Table.{valued_table}
use Rattle.fst_codex.proofs.TurnedBack.{within_range}
use Rattle.fst_codex.proofs.Putting.{items_more}
use Rattle.fst_codex.proofs.decoding.decode_arcs.Goals as goal

pub returns-in_default : goal.returns-in_default
returns-in_default g c =
    let a = c.arc-item.result in
    (refl, c.loop-arc.arc-index, (record { arc = a; there = read_here c.args.arcs.now c.loop-arc.arc-index a c.loop-arc-test.true c.arc-item.is; past = c.in_default.ensures }, c.loop-arc.invariant.none))

pub loop-arc-preserved : goal.loop-arc-preserved
loop-arc-preserved g c =
    let value = g.W.Weight.value in
    let kind = g.W.Weight.KIND in
    let t = valued_table value c.args.codex.now in
    let i = c.loop-arc.arc-index in
    let a = c.arc-item.result in
    let d = c.in-Some.decoded in
    let there : slice_get c.args.arcs.now i ≡ Some a = read_here c.args.arcs.now i a c.loop-arc-test.true c.arc-item.is in
    let decode = decoded_arc kind t in
    let so_far = map (valued_arc value) (take i c.args.arcs.now) in
    let written : map (valued_arc value) c.push.new.self.items ≡ map decode so_far ++ decode (valued_arc value a) ∷ [] =
    ap (map (valued_arc value)) c.in-Ok.ensures.items ∙ (map-append (valued_arc value) c.loop-arc.out.items (d ∷ []) ∙ (ap (λ (xs : List (Arc Cost ℕ)). xs ++ valued_arc value d ∷ []) c.loop-arc.invariant.put ∙ ap (λ (b : Arc Cost ℕ). map decode so_far ++ b ∷ []) c.in-Some.ensures.0)) in
    let read : map decode (map (valued_arc value) (take (i + 1) c.args.arcs.now)) ≡ map decode so_far ++ decode (valued_arc value a) ∷ [] =
    ap (map decode) (items_more (valued_arc value) c.args.arcs.now i a c.loop-arc-test.true c.arc-item.is) ∙ map-append decode so_far (valued_arc value a ∷ []) in
    let good : InRange (decode (valued_arc value a)).weight = subst (λ (b : Arc Cost ℕ). InRange b.weight) c.in-Some.ensures.0 c.in-Some.ensures.1 in
    record {
      put = written ∙ sym read;
      none = none_more (PassesRange kind value t) c.args.arcs.now i c.loop-arc.invariant.none (within_range kind value t c.args.arcs.now i a there good);
    }

pub returns : goal.returns
returns g c =
    let value = g.W.Weight.value in
    let t = valued_table value c.args.codex.now in
    let whole : take c.loop-arc.arc-index c.args.arcs.now ≡ c.args.arcs.now = take_all c.loop-arc.arc-index c.args.arcs.now c.loop-arc-test.false in
    (c.loop-arc.invariant.put ∙ ap (λ (xs : List (Arc g.row.W.Denot ℕ)). map (decoded_arc g.W.Weight.KIND t) (map (valued_arc value) xs)) whole, λ place h. c.loop-arc.invariant.none place (let low = slice_get_within c.args.arcs.now place h.arc h.there in omega (arith, low, c.loop-arc-test.false)) h)
