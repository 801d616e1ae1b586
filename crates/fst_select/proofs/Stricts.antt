-- Fronts with no string in common never tie.
use Rattle.std.proofs.Common.{◌≡◌, sym, refl, ap, ◌∙◌, subst, false, true}
use Rattle.std.proofs.Common.{Ordering, Less, Equal, Greater}
use Rattle.std.specs.Ordering.{is_gt, nat_cmp}
use Rattle.std.proofs.lemmas.Map.Lookups.{exact_bytes}
use Rattle.fst_semiring.specs.Cost.{cost_cmp}
use Rattle.fst_semiring.proofs.Order.{then_equal}
use Rattle.fst_select.specs.Frontier.{Covers, Disjoint, Front, front_cmp}
use Rattle.fst_select.proofs.Frontiers.{covers_prefix}

-- what does not come after another, as a heap tells, comes before it
pub strictly_before : (e f : Front) → Disjoint e f → is_gt (front_cmp e f) ≡ false → front_cmp e f ≡ Less
strictly_before e f apart late = by_order (front_cmp e f) refl
  where
    by_order : (o : Ordering) → front_cmp e f ≡ o → front_cmp e f ≡ Less
    by_order Less g = g
    by_order Greater g = absurd (let wrong : true ≡ false = sym (ap is_gt g) ∙ late in cc)
    by_order Equal g =
        let one = then_equal (cost_cmp e.total f.total) _ g in
        let two = then_equal (nat_cmp e.long f.long) _ one.1 in
        let same : e.prefix ≡ f.prefix = exact_bytes e.prefix f.prefix two.1 in
        absurd (apart e.prefix (covers_prefix e) (subst (Covers f) (sym same) (covers_prefix f)))
