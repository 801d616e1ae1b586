use Rattle.std.proofs.Common.{◌≡◌, ◌<◌, ℕ, List, Some, get_or, length, slice_get, sym, ap, ◌∙◌, arith}
use Rattle.std.proofs.lemmas.Option.{slice_get-get_or}
use Rattle.fst_machine.specs.Machine.{Arc}
use Rattle.fst_epsilon.specs.Merging.{same_key}
use Rattle.fst_epsilon.proofs.Putting.{all_none, found_here, none_more}
use Rattle.fst_epsilon.proofs.few.place_of.Goals as goal

read_there : {V : Type 0} (arcs : List (Arc V ℕ)) (i : ℕ) (x : Arc V ℕ) → i < length arcs → x ≡ get_or arcs i x → slice_get arcs i ≡ Some x
read_there arcs i x low read = slice_get-get_or arcs i x low ∙ ap Some (sym read)

pub returns-then-is_same : goal.returns-then-is_same
returns-then-is_same g c =
    let x = c.index-arcs-place.result in
    found_here c.args.key c.args.arcs.now c.loop-place.place x (read_there c.args.arcs.now c.loop-place.place x (omega arith) c.index-arcs-place.is)
    (ap (same_key c.args.key) (sym c.arc_key.ensures) ∙ (sym c.is_same.ensures ∙ c.if-is_same.true)) c.loop-place.invariant

pub loop-place-preserved : goal.loop-place-preserved
loop-place-preserved g c =
    let x = c.index-arcs-place.result in
    none_more c.args.key c.args.arcs.now c.loop-place.place x (read_there c.args.arcs.now c.loop-place.place x (omega arith) c.index-arcs-place.is)
    (ap (same_key c.args.key) (sym c.arc_key.ensures) ∙ (sym c.is_same.ensures ∙ c.if-is_same.false)) c.loop-place.invariant

pub returns : goal.returns
returns g c = all_none c.args.key c.args.arcs.now c.loop-place.place (omega arith) c.loop-place.invariant
