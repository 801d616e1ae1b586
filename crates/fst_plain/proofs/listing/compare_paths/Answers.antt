use Rattle.std.proofs.Common.{◌≡◌, length, map, sym, ◌∙◌, arith}
use Rattle.std.specs.Ordering.{nat_cmp}
use Rattle.std.specs.Cmp.Lexicographic.{slice_cmp}
use Rattle.fst_plain.specs.declared.path.PlainTransition.{PlainTransition}
use Rattle.fst_plain.proofs.PlainOrder.{tied_cmp}
use Rattle.fst_plain.proofs.listing.compare_paths.Goals as goal

pub returns-in-Equal-cmp : goal.returns-in-Equal-cmp
returns-in-Equal-cmp c =
    let one : length c.args.a.now.transitions.items ≡ c.len.result = omega (arith, c.len.ensures) in
    let two : length c.args.b.now.transitions.items ≡ c.len-in-Equal.result = omega (arith, c.len-in-Equal.ensures) in
    let tied = tied_cmp c.args.a.now c.args.b.now (sym c.compare_costs.ensures ∙ c.in-Equal.is) ((λ i. nat_cmp (one i) (two i)) ∙ sym c.in-Equal-cmp.ensures) in
    c.compare_places.ensures ∙ ((λ i. slice_cmp nat_cmp (map (λ (t : PlainTransition). t.place) (c.as_slice.ensures.value i)) (map (λ (t : PlainTransition). t.place) (c.as_slice-in-Equal-cmp.ensures.value i))) ∙ tied)
