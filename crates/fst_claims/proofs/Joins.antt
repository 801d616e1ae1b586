-- The split of a pass and the join of two keep the rule.
use Rattle.std.proofs.Common.{◌≡◌, ⊎_elim, ℕ, ◌+◌, ◌-◌, ◌<◌, [], ◌∷◌, ◌++◌, set, refl, sym, ◌∙◌, subst, arith}
use mathlib.Core.Option.{some}
use lib.ListN.{get_elem?}
use Rattle.atomic_table.specs.Table.{Joins, Splits}
use Rattle.atomic_table.proofs.Lists.{at_snoc, set_else}
use Rattle.fst_claims.specs.declared.view.View.{View}
use Rattle.fst_claims.specs.Counts.{times, total}
use Rattle.fst_claims.specs.Rule.{Fits, Kept}
use Rattle.fst_claims.specs.Plays.{both_views, one_part, spent_view, with_less}
use Rattle.fst_claims.proofs.Counts.{times-append, total-set, total-snoc}
use Rattle.fst_claims.proofs.Views.{fits_all, stands_both, stands_none}

module _ (p : ℕ) where
  pub splits : (id : ℕ) (v : View) → 1 < v.parts → Splits (Kept p) id v (with_less v) (one_part v)
  splits id v more s k at = record {
    sized = k.sized;
    won_once = λ c pos. same_won c ∙ k.won_once c pos;
    codes = same_won 0 ∙ k.codes;
    probed = k.probed;
    parts =
        let a = total-snoc (λ u. u.parts) (set s.views id (with_less v)) (one_part v) in
        let b : total (λ u. u.parts) (set s.views id (with_less v)) + v.parts ≡ total (λ u. u.parts) s.views + (v.parts - 1) = total-set (λ u. u.parts) s.views id v (with_less v) at in
        omega (arith, a, b, k.parts);
    each = λ j u e. ⊎_elim
        (λ (old : get_elem? (set s.views id (with_less v)) j ≡ some u). fits_all p s.words s.views id (with_less v) k.each less j u old)
        (λ (new : one_part v ≡ u). subst (Fits p s.words) new one)
        (at_snoc (set s.views id (with_less v)) (one_part v) u j e);
  }
    where
      fits : Fits p s.words v
      fits = k.each id v at

      less : Fits p s.words (with_less v)
      less = record { stands = fits.stands; idle = λ e. absurd (omega (arith, e)); sized = λ _. fits.sized (omega arith) }

      one : Fits p s.words (one_part v)
      one = record { stands = stands_none s.words; idle = λ e. absurd (omega (arith, e)); sized = λ _. fits.sized (omega arith) }

      same_won : (c : ℕ) → total (λ u. times c u.won) (set s.views id (with_less v) ++ one_part v ∷ []) ≡ total (λ u. times c u.won) s.views
      same_won c =
          let a : total (λ u. times c u.won) (set s.views id (with_less v) ++ one_part v ∷ []) ≡ total (λ u. times c u.won) (set s.views id (with_less v)) + 0 = total-snoc (λ u. times c u.won) (set s.views id (with_less v)) (one_part v) in
          let b : total (λ u. times c u.won) (set s.views id (with_less v)) + times c v.won ≡ total (λ u. times c u.won) s.views + times c v.won = total-set (λ u. times c u.won) s.views id v (with_less v) at in
          omega (arith, a, b)

  pub joins : (id : ℕ) (v : View) (other : ℕ) (w : View) → 0 < v.parts → Joins (Kept p) id v other w (both_views v w) spent_view
  joins id v other w has s k at far there = record {
    sized = k.sized;
    won_once = λ c pos. same (λ u. times c u.won) (times-append c v.won w.won) refl ∙ k.won_once c pos;
    codes = same (λ u. times 0 u.won) (times-append 0 v.won w.won) refl ∙ k.codes;
    probed = k.probed;
    parts = same (λ u. u.parts) refl refl ∙ k.parts;
    each = fits_all p s.words (set s.views id (both_views v w)) other spent_view (fits_all p s.words s.views id (both_views v w) k.each both) spent;
  }
    where
      beside : get_elem? s.views other ≡ some w
      beside = sym (set_else s.views id other (both_views v w) far) ∙ there

      fits : Fits p s.words v
      fits = k.each id v at

      both : Fits p s.words (both_views v w)
      both = record { stands = stands_both s.words v.found w.found fits.stands (k.each other w beside).stands; idle = λ e. absurd (omega (arith, e)); sized = λ _. fits.sized has }

      spent : Fits p s.words spent_view
      spent = record { stands = stands_none s.words; idle = λ _. (refl, refl); sized = λ e. absurd (omega (arith, e)) }

      same : (f : View → ℕ) → f (both_views v w) ≡ f v + f w → f spent_view ≡ 0 → total f (set (set s.views id (both_views v w)) other spent_view) ≡ total f s.views
      same f sums none =
          omega (arith, total-set f s.views id v (both_views v w) at, total-set f (set s.views id (both_views v w)) other w spent_view there, sums, none)
