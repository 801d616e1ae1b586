use Rattle.std.proofs.Common.{◌≡◌, ℕ, List, length, get_or, sym, subst, arith}
use Rattle.std.proofs.lemmas.Option.{slice_get-get_or}
use Rattle.fst_machine.specs.BreadthFirst.{Has}
use Rattle.fst_machine.proofs.Elements.{at_Has}
use Rattle.fst_minimize.proofs.BlockArcs.{arcs_below, arcs_take}
use Rattle.fst_minimize.proofs.dividing.put_arcs_into.Goals as goal

pub put_arcs-requires : goal.put_arcs-requires
put_arcs-requires c = λ k d low.
    let members = c.deref.result.now in
    let has = subst (λ (qs : List ℕ). Has qs (get_or members k d)) c.deref.ensures.value (at_Has members k (get_or members k d) (slice_get-get_or members k d low)) in
    let below = ((c.in_ok-put_members.ensures (get_or members k d)).0 has).0 in
    let size = c.requires in
    omega arith

pub returns-clause-below : goal.returns-clause-below
returns-clause-below c = λ rows b. arcs_below rows c.args.backs.now b c.deref.result.now c.put_arcs.new.out.items c.in_ok-put_arcs.ensures.only

pub returns-clause-alike : goal.returns-clause-alike
returns-clause-alike c = λ g rows b are below keeps.
    let size : length rows ≡ length c.args.parts.now.blocks.items = let n = b.size in let m = c.requires in omega arith in
    let members = c.in_ok-put_members.ensures in
    arcs_take g rows are below c.args.parts.now.blocks.items keeps c.args.backs.now b c.deref.result.now c.args.block c.put_arcs.new.out.items
    (λ q has. ((members q).0 (subst (λ (qs : List ℕ). Has qs q) c.deref.ensures.value has)).1)
    (λ q low same. subst (λ (qs : List ℕ). Has qs q) (sym c.deref.ensures.value) ((members q).1 (omega arith) same))
    c.in_ok-put_arcs.ensures.only c.in_ok-put_arcs.ensures.all
