use Rattle.std.proofs.Common.{◌≡◌, ◌<◌, ℕ, Some, length, slice_get, List, refl, ◌∙◌, subst, arith}
use Rattle.std.proofs.lemmas.Option.{slice_get_read}
use Rattle.fst_machine.specs.BreadthFirst.{Grows, Has}
use Rattle.fst_machine.proofs.Elements.{at_Has}
use Rattle.fst_machine.proofs.Walking.{found_within}
use Rattle.fst_replace.specs.Walks.{at_place}
use Rattle.fst_replace.proofs.Marking.{marking_begins, marking_few, marking_full, marking_goes_on}
use Rattle.fst_replace.proofs.recursion.mark_called.Goals as goal

pub find_all-requires-clause-within : goal.find_all-requires-clause-within
find_all-requires-clause-within c p h =
    let low = c.requires.closed c.args.rule p (subst (λ (zs : List ℕ). Has zs p) c.places_at.ensures h) in
    omega (arith, low, c.in_ok-seen.ensures.len)

pub loop-taken-init : goal.loop-taken-init
loop-taken-init c =
    let f = c.in_ok-find_all.ensures in
    let calls = at_place c.args.calls.now in
    record {
      marking = marking_begins calls c.args.rule c.find_all.new.names.items (subst (λ (zs : List ℕ). Grows zs (calls c.args.rule) c.find_all.new.names.items) c.new-names.ensures.items (subst (λ (zs : List ℕ). Grows c.new-names.result.items zs c.find_all.new.names.items) c.places_at.ensures f.grows));
      marks = f.marks;
      size = let all = c.in_ok-seen.ensures.len in omega (arith, f.size, all);
    }

pub places_at-requires-in-loop-taken : goal.places_at-requires-in-loop-taken
places_at-requires-in-loop-taken c =
    let names = c.loop-taken.names.items in
    let low : c.loop-taken.taken < length names = omega arith in
    let there : slice_get names c.loop-taken.taken ≡ Some c.index-next.result.now = slice_get_read names (length names) c.loop-taken.taken c.index-next.result.now refl low c.index-next.ensures in
    let marked = found_within c.loop-taken.seen.items names c.index-next.result.now c.loop-taken.invariant.marks (at_Has names c.loop-taken.taken c.index-next.result.now there) in
    omega (arith, marked, c.loop-taken.invariant.size)

pub find_all-requires-in-loop-taken-clause-within : goal.find_all-requires-in-loop-taken-clause-within
find_all-requires-in-loop-taken-clause-within c p h =
    let low = c.requires.closed c.index-next.result.now p (subst (λ (zs : List ℕ). Has zs p) c.places_at-in-loop-taken.ensures h) in
    omega (arith, low, c.loop-taken.invariant.size)

pub loop-taken-smaller : goal.loop-taken-smaller
loop-taken-smaller c =
    let few = marking_few c.loop-taken.seen.items c.loop-taken.names.items c.loop-taken.invariant.marking.apart c.loop-taken.invariant.marks in
    omega (arith, few, c.loop-taken.invariant.size)

pub loop-taken-preserved : goal.loop-taken-preserved
loop-taken-preserved c =
    let f = c.in_ok-find_all-2.ensures in
    let calls = at_place c.args.calls.now in
    let names = c.loop-taken.names.items in
    let next = c.index-next.result.now in
    let low : c.loop-taken.taken < length names = omega arith in
    let there : slice_get names c.loop-taken.taken ≡ Some next = slice_get_read names (length names) c.loop-taken.taken next refl low c.index-next.ensures in
    record {
      marking = marking_goes_on calls c.args.rule names c.find_all-in-loop-taken.new.names.items c.loop-taken.taken next c.loop-taken.invariant.marking there (subst (λ (zs : List ℕ). Grows names zs c.find_all-in-loop-taken.new.names.items) c.places_at-in-loop-taken.ensures f.grows);
      marks = f.marks;
      size = f.size ∙ c.loop-taken.invariant.size;
    }

pub returns-clause-marks : goal.returns-clause-marks
returns-clause-marks c j =
    let m = c.loop-taken.invariant.marking in
    let names = c.loop-taken.names.items in
    let marks = c.loop-taken.invariant.marks j in
    ((λ e. m.sound j (marks.0 e)), (λ h. marks.1 (marking_full (at_place c.args.calls.now) c.args.rule names c.loop-taken.taken m (omega arith) j h)))
