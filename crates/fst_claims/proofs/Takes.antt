-- The exchange of 0 for a code keeps the rule, where the places before this one hold other codes.
use Rattle.std.proofs.Common.{List, zero, suc, ◌≡◌, ◌≢◌, ⊎_elim, ℕ, ◌+◌, ◌<◌, ◌≤◌, [], ◌∷◌, ◌++◌, length, set, get_or, length-set, get_or-set_same, get_or-set_other, eqb, refl, sym, ap, ◌∙◌, subst, arith}
use Rattle.std.proofs.lemmas.Bool.{cases_lt}
use mathlib.Core.Logic.{dite}
use mathlib.Core.Option.{none, some, some-ne-none}
use native.Mathlib.Decide.{ℕ_discrete}
use lib.ListN.{get_elem?}
use prog.Atomic.{either}
use Rattle.atomic_table.specs.Table.{Allows, Me, State, keeps, step}
use Rattle.atomic_table.proofs.Lists.{exchanged, set_here}
use Rattle.fst_claims.specs.declared.view.View.{View}
use Rattle.fst_claims.specs.Counts.{one_if, times, total}
use Rattle.fst_claims.specs.Rule.{Fits, IsOther, Kept, place_of}
use Rattle.fst_claims.specs.Plays.{IsNew, Took, wins}
use Rattle.fst_claims.specs.Claimed.{HasFound}
use Rattle.fst_claims.proofs.Counts.{one_other, times-here, times-none, times-one, times-set, total-set}
use Rattle.fst_claims.proofs.Places.{place-lt, place-onto, place-same}
use Rattle.fst_claims.proofs.Steps.{Goes, finds_word, knows, won_few}
use Rattle.fst_claims.proofs.Views.{fits_all, stands_set}

module _ (p : ℕ) (s : State (Unit {0}) View) (kept : Kept p s) (id : ℕ) (v : View) (at : get_elem? s.views id ≡ some v) (has : 0 < v.parts)
    (code k : ℕ) (pos : 0 < code) (lt : k < p) (passed : HasFound p code k v) (blank : get_or s.words (place_of p code k) 0 ≡ 0) where
  within : place_of p code k < length s.words
  within = omega (arith, place-lt p code k (omega arith), kept.sized)

  fits : Fits p s.words v
  fits = kept.each id v at

  -- no word holds the code
  no_step : (m : ℕ) → m < p → get_or s.words (place_of p code m) 0 ≢ code
  no_step m low e = ⊎_elim
      (λ (before : m < k). let w = passed m before in w.2 (sym (fits.stands (place_of p code m) w.0 w.1).2 ∙ e))
      (λ (rest : k ≤ m). ⊎_elim
      (λ (after : k < m). let o = kept.probed code m k pos low e after in omega (arith, o.0, blank))
      (λ (more : m ≤ k). let same : m ≡ k = omega (arith, rest, more) in let z : code ≡ 0 = sym e ∙ (ap (λ (j : ℕ). get_or s.words (place_of p code j) 0) same ∙ blank) in omega (arith, z))
      (cases_lt k m))
      (cases_lt m k)

  pub no_word : times code s.words ≡ 0
  no_word = times-none code s.words (λ j low e. let w = place-onto p code j (omega arith) (omega (arith, low, kept.sized)) in no_step w.0 w.1 (ap (λ (z : ℕ). get_or s.words z 0) w.2 ∙ e))

  pub is_new : IsNew code v
  is_new = record {
    not_won = omega (arith, won_few p s kept id v at code, no_word);
    not_found = λ place h. let x = fits.stands place code h in let w = times-here code s.words place x.0 x.2 in omega (arith, w, no_word);
    had_none = record { words = s.words; sized = kept.sized ∙ sym (fits.sized has); found = fits.stands; won = won_few p s kept id v at; none = no_word; free = place_of p code k; inside = within; unset = blank };
  }

  -- a place that is not this one
  apart : (j : ℕ) → j ≢ place_of p code k → get_or (set s.words (place_of p code k) code) j 0 ≡ get_or s.words j 0
  apart j far = get_or-set_other s.words (place_of p code k) j code 0 far

  probed : (c m j : ℕ) → 0 < c → m < p → get_or (set s.words (place_of p code k) code) (place_of p c m) 0 ≡ c → j < m
      → IsOther c (get_or (set s.words (place_of p code k) code) (place_of p c j) 0)
  probed c m j some' low e before = dite (ℕ_discrete (place_of p c m) (place_of p code k))
      (λ here.
      let same : c ≡ code = sym e ∙ (ap (λ (z : ℕ). get_or (set s.words (place_of p code k) code) z 0) here ∙ get_or-set_same s.words (place_of p code k) code 0 within) in
      let step' : m ≡ k = place-same p code m k low lt (ap (λ (z : ℕ). place_of p z m) (sym same) ∙ here) in
      let w = passed j (omega (arith, before, step')) in
      let x = fits.stands (place_of p code j) w.0 w.1 in
      let far : place_of p code j ≢ place_of p code k = λ q. let z : j ≡ k = place-same p code j k (omega (arith, before, step')) lt q in omega (arith, z, before, step') in
      let word : get_or (set s.words (place_of p code k) code) (place_of p code j) 0 ≡ w.0 = apart (place_of p code j) far ∙ x.2 in
      subst (λ (z : ℕ). IsOther z (get_or (set s.words (place_of p code k) code) (place_of p z j) 0)) (sym same)
      (subst (IsOther code) (sym word) (x.1, w.2)))
      (λ far.
      let o = kept.probed c m j some' low (sym (apart (place_of p c m) far) ∙ e) before in
      let far' : place_of p c j ≢ place_of p code k = λ q. let z : get_or s.words (place_of p c j) 0 ≡ 0 = ap (λ (y : ℕ). get_or s.words y 0) q ∙ blank in omega (arith, z, o.0) in
      subst (IsOther c) (sym (apart (place_of p c j) far')) o)

  pub put : Kept p (record { words = set s.words (place_of p code k) code; homes = s.homes; views = set s.views id (wins v code) })
  put = record {
    sized = length-set s.words (place_of p code k) code ∙ kept.sized;
    won_once = won_once;
    codes =
        let a : total (λ u. times 0 u.won) (set s.views id (wins v code)) + times 0 v.won ≡ total (λ u. times 0 u.won) s.views + times 0 (v.won ++ code ∷ []) = total-set (λ u. times 0 u.won) s.views id v (wins v code) at in
        omega (arith, a, times-one 0 code v.won, one_other 0 code (λ z. omega (arith, z)), kept.codes);
    probed = probed;
    parts =
        let a : total (λ u. u.parts) (set s.views id (wins v code)) + v.parts ≡ total (λ u. u.parts) s.views + v.parts = total-set (λ u. u.parts) s.views id v (wins v code) at in
        omega (arith, a, kept.parts);
    each = fits_all p (set s.words (place_of p code k) code) s.views id (wins v code)
        (λ j u there. let f = kept.each j u there in record { stands = stands_set s.words (place_of p code k) code u.found blank f.stands; idle = f.idle; sized = f.sized })
        (record { stands = stands_set s.words (place_of p code k) code v.found blank fits.stands; idle = λ e. absurd (omega (arith, e)); sized = fits.sized });
  }
    where
      won_once : (c : ℕ) → 0 < c → total (λ u. times c u.won) (set s.views id (wins v code)) ≡ times c (set s.words (place_of p code k) code)
      won_once c some' =
          let a : total (λ u. times c u.won) (set s.views id (wins v code)) + times c v.won ≡ total (λ u. times c u.won) s.views + times c (v.won ++ code ∷ []) = total-set (λ u. times c u.won) s.views id v (wins v code) at in
          let b = times-set c s.words (place_of p code k) code within in
          let n : ℕ = get_or s.words (place_of p code k) 0 in
          let z : one_if c n ≡ 0 = one_other c n (λ q. let y : c ≡ 0 = q ∙ blank in omega (arith, y)) in
          omega (arith, a, b, z, times-one c code v.won, kept.won_once c some')

within_at : {X : Type 0} (xs : List X) (i : ℕ) (x : X) → get_elem? xs i ≡ some x → i < length xs
within_at [] i x e = absurd (some-ne-none x (sym e))
within_at (y ∷ xs) zero x e = omega arith
within_at (y ∷ xs) (suc i) x e = omega (arith, within_at xs i x e)

-- no more are won than there are places
few_won : (p : ℕ) (s : State (Unit {0}) View) (id : ℕ) (v w : View) (words : List ℕ) → get_elem? s.views id ≡ some v → Kept p (record { words = words; homes = s.homes; views = set s.views id w }) → 0 < w.parts → length w.won ≤ w.places
few_won p s id v w words at kept has = (knows p (record { words = words; homes = s.homes; views = set s.views id w }) kept id w (set_here s.views id w (within_at s.views id v at)) has).few

pub takes : (p slots id code k i : ℕ) (me : Me (Unit {0}) View) → 0 < me.0.parts → 0 < code → k < p → HasFound p code k me.0 → i ≡ place_of p code k
    → Allows (Kept p) slots id me i (λ n. either (eqb n 0) code n) (Took (step slots i 0 code none) me)
takes p slots id code k i me has pos lt passed is s kept wide at small =
    exchanged (get_or s.words i 0) 0 code (λ m. Goes p s i m id me (Took (step slots i 0 code none) me))
    (λ blank.
    let blank' : get_or s.words (place_of p code k) 0 ≡ 0 = subst (λ (j : ℕ). get_or s.words j 0 ≡ 0) is blank in (
      wins me.0 code,
      keeps,
      tt,
      subst (λ (j : ℕ). Kept p (record { words = set s.words j code; homes = s.homes; views = set s.views id (wins me.0 code) })) (sym is) (put p s kept id me.0 at has code k pos lt passed blank'),
      (refl, (λ _. (refl, is_new p s kept id me.0 at has code k pos lt passed blank', few_won p s id me.0 (wins me.0 code) (set s.words (place_of p code k) code) at (put p s kept id me.0 at has code k pos lt passed blank') has)), λ full. absurd (full blank)),
    ))
    (λ full. finds_word p s kept i id me (Took (step slots i 0 code none) me) has (subst (λ (j : ℕ). j < p) (sym is) (place-lt p code k (omega arith))) at full (refl, (λ blank. absurd (full blank)), λ _. refl))
