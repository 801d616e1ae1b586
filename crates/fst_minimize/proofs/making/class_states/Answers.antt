use Rattle.std.proofs.Common.{◌≡◌, ◌<◌, ◌≤◌, ◌+◌, ◌++◌, ◌∷◌, [], ℕ, List, Some, length, map, take, slice_get, sym, ap, ◌∙◌, subst, arith}
use Rattle.std.specs.List.{All}
use Rattle.std.proofs.lemmas.List.{take_all}
use Rattle.std.proofs.lemmas.Option.{slice_get-get_or}
use Rattle.std.proofs.lemmas.Bool.Decides.{not_from_Decides}
use Rattle.fst_semiring.specs.Cost.{Cost}
use Rattle.fst_machine.specs.Machine.{State, arc_total, most_arcs, valued_state}
use Rattle.fst_machine.specs.Narrowing.{IsInRange}
use Rattle.fst_machine.proofs.Valued.{arc_total-valued}
use Rattle.fst_minimize.specs.Classes.{class_state}
use Rattle.fst_minimize.specs.Laws.{totalled_state}
use Rattle.fst_minimize.proofs.Splitting.{count_below}
use Rattle.fst_minimize.proofs.Made.{made, made_at, made_size, made_total, least_low, put_step, range_step, room_step}
use Rattle.fst_minimize.proofs.making.class_states.Goals as goal

pub put_class-requires-clause-state : goal.put_class-requires-clause-state
put_class-requires-clause-state g c =
    let w = g.W.Weight in
    let m = c.args.pushed.now in
    let numbers = c.args.classes.now.numbers.items in
    let least = c.args.classes.now.least.items in
    let i = c.loop-class.class in
    let p = c.index-state.result.now in
    let low : i < length least = let a = c.len-count.ensures in let b = c.loop-class-test.true in omega arith in
    let there : slice_get least i ≡ Some p = slice_get-get_or least i p low ∙ ap Some (sym c.index-state.ensures) in
    least_low w.KIND (w.wide_value c.args.total) m numbers least c.requires.size c.requires.numbering i p there

pub put_class-requires-clause-room : goal.put_class-requires-clause-room
put_class-requires-clause-room g c =
    let w = g.W.Weight in
    let total = w.wide_value c.args.total in
    let m = c.args.pushed.now in
    let numbers = c.args.classes.now.numbers.items in
    let least = c.args.classes.now.least.items in
    let i = c.loop-class.class in
    let p = c.index-state.result.now in
    let low : i < length least = let a = c.len-count.ensures in let b = c.loop-class-test.true in omega arith in
    let there : slice_get least i ≡ Some p = slice_get-get_or least i p low ∙ ap Some (sym c.index-state.ensures) in
    let at = made_at w.KIND total m numbers least c.requires.size c.requires.numbering i p there in
    let states = (made w.KIND total m numbers least c.requires.size c.requires.numbering).states in
    let few : arc_total states ≤ most_arcs = let a = made_total w.KIND total m numbers least c.requires.size c.requires.numbering in let b = c.states-states.ensures.machine.few_arcs in omega arith in
    let so_far : arc_total c.loop-class.list ≡ arc_total (take i states) = sym (arc_total-valued w.value c.loop-class.list) ∙ ap arc_total c.loop-class.invariant.states in
    subst (λ (ns : List ℕ). arc_total c.loop-class.list + length (class_state m ns p).arcs ≤ most_arcs) (sym c.deref.ensures.value)
    (room_step states i (totalled_state w.KIND total (class_state m numbers p)) (arc_total c.loop-class.list) at so_far few)

pub overflow_cast-result : goal.overflow_cast-result
overflow_cast-result g c =
    let a = c.len-count.ensures in
    let b = c.loop-class-test.true in
    let d = count_below (length c.args.pushed.now.states) c.args.classes.now.numbers.items c.args.classes.now.least.items c.requires.numbering c.requires.size in
    let e = c.states-states.ensures.machine.few_states in
    omega arith

pub returns-then-not-branch-clause-fault : goal.returns-then-not-branch-clause-fault
returns-then-not-branch-clause-fault g c =
    let w = g.W.Weight in
    let total = w.wide_value c.args.total in
    let m = c.args.pushed.now in
    let numbers = c.args.classes.now.numbers.items in
    let least = c.args.classes.now.least.items in
    let i = c.loop-class.class in
    let p = c.index-state.result.now in
    let low : i < length least = let a = c.len-count.ensures in let b = c.loop-class-test.true in omega arith in
    let there : slice_get least i ≡ Some p = slice_get-get_or least i p low ∙ ap Some (sym c.index-state.ensures) in
    let same : totalled_state w.KIND total (class_state m c.deref.result.now p) ≡ totalled_state w.KIND total (class_state m numbers p) = ap (λ (ns : List ℕ). totalled_state w.KIND total (class_state m ns p)) c.deref.ensures.value in
    record {
      here = totalled_state w.KIND total (class_state m numbers p);
      there = made_at w.KIND total m numbers least c.requires.size c.requires.numbering i p there;
      past = (λ h. not_from_Decides _ c.in_ok-put_class.ensures.fits c.if-not-branch.true (subst IsInRange (sym same) h));
      before = c.loop-class.invariant.range;
    }

pub loop-class-preserved : goal.loop-class-preserved
loop-class-preserved g c =
    let w = g.W.Weight in
    let total = w.wide_value c.args.total in
    let m = c.args.pushed.now in
    let numbers = c.args.classes.now.numbers.items in
    let least = c.args.classes.now.least.items in
    let i = c.loop-class.class in
    let p = c.index-state.result.now in
    let low : i < length least = let a = c.len-count.ensures in let b = c.loop-class-test.true in omega arith in
    let there : slice_get least i ≡ Some p = slice_get-get_or least i p low ∙ ap Some (sym c.index-state.ensures) in
    let same : totalled_state w.KIND total (class_state m c.deref.result.now p) ≡ totalled_state w.KIND total (class_state m numbers p) = ap (λ (ns : List ℕ). totalled_state w.KIND total (class_state m ns p)) c.deref.ensures.value in
    let states = (made w.KIND total m numbers least c.requires.size c.requires.numbering).states in
    let s = totalled_state w.KIND total (class_state m numbers p) in
    let at = made_at w.KIND total m numbers least c.requires.size c.requires.numbering i p there in
    record {
      states = put_step states (map (valued_state w.value) c.loop-class.list) (map (valued_state w.value) c.put_class.new.list) i s at c.loop-class.invariant.states
          (c.in_ok-put_class.ensures.list c.if-not-branch.false ∙ ap (λ (t : State Cost). map (valued_state w.value) c.loop-class.list ++ t ∷ []) same);
      range = range_step states i s at c.loop-class.invariant.range (subst IsInRange same (c.in_ok-put_class.ensures.fits.0 c.if-not-branch.false));
    }

pub returns-clause-states : goal.returns-clause-states
returns-clause-states g c =
    let w = g.W.Weight in
    let m = c.args.pushed.now in
    let numbers = c.args.classes.now.numbers.items in
    let least = c.args.classes.now.least.items in
    let states = (made w.KIND (w.wide_value c.args.total) m numbers least c.requires.size c.requires.numbering).states in
    let high : length states ≤ c.loop-class.class = let a = made_size w.KIND (w.wide_value c.args.total) m numbers least c.requires.size c.requires.numbering in let b = c.len-count.ensures in let d = c.loop-class-test.false in omega arith in
    c.loop-class.invariant.states ∙ take_all c.loop-class.class states high

pub returns-clause-fits : goal.returns-clause-fits
returns-clause-fits g c =
    let w = g.W.Weight in
    let m = c.args.pushed.now in
    let numbers = c.args.classes.now.numbers.items in
    let least = c.args.classes.now.least.items in
    let states = (made w.KIND (w.wide_value c.args.total) m numbers least c.requires.size c.requires.numbering).states in
    let high : length states ≤ c.loop-class.class = let a = made_size w.KIND (w.wide_value c.args.total) m numbers least c.requires.size c.requires.numbering in let b = c.len-count.ensures in let d = c.loop-class-test.false in omega arith in
    subst (λ ss. All IsInRange ss) (take_all c.loop-class.class states high) c.loop-class.invariant.range
