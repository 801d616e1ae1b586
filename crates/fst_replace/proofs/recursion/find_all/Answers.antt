use Rattle.std.proofs.Common.{◌<◌, ◌∷◌, [], length, take, get_or, sym, ◌∙◌, subst, arith}
use Rattle.std.proofs.lemmas.Option.{slice_get-get_or}
use Rattle.fst_machine.specs.BreadthFirst.{Grows}
use Rattle.fst_machine.proofs.Elements.{at_Has}
use Rattle.fst_machine.proofs.Walks.{Grows-then}
use Rattle.fst_replace.proofs.Marking.{one_taken}
use Rattle.fst_replace.proofs.recursion.find_all.Goals as goal

pub find-requires-clause-within : goal.find-requires-clause-within
find-requires-clause-within c =
    let places = c.args.places.now in
    let at = c.loop-place.place-index in
    let low : at < length places = omega arith in
    let below = c.requires.within (get_or places at 0) (at_Has places at (get_or places at 0) (slice_get-get_or places at 0 low)) in
    omega (arith, below, c.loop-place.invariant.size)

pub loop-place-preserved : goal.loop-place-preserved
loop-place-preserved c =
    let f = c.in_ok-find.ensures in
    let places = c.args.places.now in
    let at = c.loop-place.place-index in
    let low : at < length places = omega arith in
    let next = get_or places at 0 in
    record {
      grows = subst (λ zs. Grows c.args.names.now.items zs c.find.new.names.items) (sym (one_taken places at next (slice_get-get_or places at 0 low))) (Grows-then (take at places) (next ∷ []) c.args.names.now.items c.loop-place.names.items c.find.new.names.items c.loop-place.invariant.grows f.grows);
      marks = f.marks;
      size = f.size ∙ c.loop-place.invariant.size;
    }
