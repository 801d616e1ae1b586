-- Subsets that compare as equal are one. (The laws of an impl cite specs alone, so the lemmas stand here.)
use Rattle.std.proofs.Common.{◌≡◌, true, true≢false, List, [], ◌∷◌, Ordering, Less, Equal, Greater, eqb, refl, sym, ap, ap₂, subst, ◌∙◌}
use Rattle.std.specs.Bool.{Decides}
use Rattle.std.specs.Cmp.{IsEquivalence, decided}
use Rattle.std.specs.Ordering.{is_eq}
use Rattle.std.proofs.lemmas.Bool.{and_from, and_parts, eq-eqb, eqb-true}
use Rattle.fst_semiring.specs.Cost.{Cost, cost_cmp}
use Rattle.fst_semiring.proofs.Order.{cost_cmp_equal, cost_cmp_same}
use Rattle.fst_determinize.specs.Kept.{same_cost, same_member, same_members}
use Rattle.fst_determinize.specs.Subsets.{Member}

equal_tells : (o : Ordering) → is_eq o ≡ true → o ≡ Equal
equal_tells Less e = absurd (true≢false (sym e))
equal_tells Equal e = refl
equal_tells Greater e = absurd (true≢false (sym e))

-- values that tie are one
pub cost_decides : (a b : Cost) → Decides (same_cost a b) (a ≡ b)
cost_decides a b = (
  (λ e. cost_cmp_equal a b (equal_tells (cost_cmp a b) e)),
  (λ e. ap (λ (z : Cost). is_eq (cost_cmp a z)) (sym e) ∙ ap is_eq (cost_cmp_same a)),
)

pub member_decides : (a b : Member) → Decides (same_member a b) (a ≡ b)
member_decides a b = (tells, λ e. subst (λ (m : Member). same_member a m ≡ true) e own)
  where
    tells : same_member a b ≡ true → a ≡ b
    tells e =
        let parts = and_parts (eqb a.state b.state) (same_cost a.residual b.residual) e in
        let states = eqb-true a.state b.state parts.0 in
        let residuals = (cost_decides a.residual b.residual).0 parts.1 in
        λ i. record { state = states i; residual = residuals i }

    own : same_member a a ≡ true
    own = and_from (eqb a.state a.state) (same_cost a.residual a.residual) (eq-eqb a.state a.state refl) ((cost_decides a.residual a.residual).1 refl)

pub same_decides : (a b : List Member) → Decides (same_members a b) (a ≡ b)
same_decides [] [] = ((λ e. refl), (λ e. refl))
same_decides [] (y ∷ b) = ((λ e. absurd (true≢false (sym e))), (λ e. absurd (cc)))
same_decides (x ∷ a) [] = ((λ e. absurd (true≢false (sym e))), (λ e. absurd (cc)))
same_decides (x ∷ a) (y ∷ b) =
    let head = member_decides x y in
    let rest = same_decides a b in (
      (λ e. let parts = and_parts (same_member x y) (same_members a b) e in ap₂ (◌∷◌) (head.0 parts.0) (rest.0 parts.1)),
      (λ e. let first : x ≡ y = cc in let more : a ≡ b = cc in and_from (same_member x y) (same_members a b) (head.1 first) (rest.1 more)),
    )

pub member_laws : IsEquivalence same_member
member_laws = decided same_member member_decides

pub subset_laws : IsEquivalence same_members
subset_laws = decided same_members same_decides
