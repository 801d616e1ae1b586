use Rattle.std.proofs.Common.{◌≡◌, ℕ, Some, get_or, slice_get, refl, sym, ap, ◌∙◌, subst}
use Rattle.std.proofs.lemmas.Option.{get_or_from_slice_get, slice_get-get_or}
use Rattle.fst_semiring.specs.Cost.{plus}
use Rattle.fst_machine.specs.Machine.{Arc}
use Rattle.fst_epsilon.specs.Merging.{key_of}
use Rattle.fst_epsilon.proofs.few.better.Goals as goal

pub returns-clause-better : goal.returns-clause-better
returns-clause-better g c =
    let value = g.W.Weight.value in
    let items = c.args.arcs.now.items in
    let old : Arc g.row.W.Denot ℕ = record { ilabel = c.old.inside.ilabel; olabel = c.old.inside.olabel; weight = c.old.inside.weight; next = c.old.inside.next } in
    let new : Arc g.row.W.Denot ℕ = record { ilabel = c.old.inside.ilabel; olabel = c.old.inside.olabel; weight = c.plus-best.result; next = c.old.inside.next } in
    let is : old ≡ get_or items c.args.place old = subst (λ (z : Arc g.row.W.Denot ℕ). z ≡ get_or items c.args.place z) (sym c.old.view_is) c.index-old.ensures in
    let there : slice_get items c.args.place ≡ Some old = slice_get-get_or items c.args.place old c.requires ∙ ap Some (sym is) in
    let same : get_or items c.args.place new ≡ old = get_or_from_slice_get items c.args.place old new there in
    record {
      arc = new;
      items = refl;
      same = ap key_of (sym same);
      weight = c.plus-best.ensures ∙ ap (λ (z : Arc g.row.W.Denot ℕ). plus (value z.weight) (value c.args.weight)) (sym same);
    }
