-- The table at the start, and the steps that only look.
use Rattle.std.proofs.Common.{◌≡◌, ◌≢◌, ⊎_elim, ℕ, zero, suc, ◌+◌, ◌<◌, ◌≤◌, List, [], ◌∷◌, length, set, get_or, refl, sym, ap, ◌∙◌, subst, arith}
use Rattle.std.specs.List.{Contains}
use Rattle.std.proofs.lemmas.Bool.{cases_lt}
use Rattle.std.proofs.lemmas.List.{set-get_or}
use mathlib.Core.Logic.{dite}
use mathlib.Core.Option.{some, none, some-ne-none, some-injective}
use native.Mathlib.Decide.{ℕ_discrete}
use lib.ListN.{get_elem?}
use Rattle.atomic_table.specs.Table.{Allows, Act, Me, State, Valid, carried_after, keeps, opening, step, stepped}
use Rattle.fst_claims.specs.declared.view.View.{View}
use Rattle.fst_claims.specs.Counts.{times, total}
use Rattle.fst_claims.specs.Rule.{Fits, Kept, all_parts, place_of}
use Rattle.fst_claims.specs.Plays.{Knows, Learned, Looked, finds, first_view}
use Rattle.fst_claims.proofs.Counts.{fewer, times-Contains, times-here, times-none, times-once, total-alone, total-here, total-two}
use Rattle.fst_claims.proofs.Places.{place-onto}
use Rattle.fst_claims.proofs.Views.{fits_find, keep_view, stands_none}

pub opens : (p : ℕ) (words : List ℕ) → length words ≡ p → ((i : ℕ) → get_or words i 0 ≡ 0) → Kept p (opening words [] (first_view p))
opens p words sized blank = record {
  sized = sized;
  won_once = λ c pos. sym (times-none c words (λ i lt e. let z : c ≡ 0 = sym e ∙ blank i in omega (arith, z)));
  codes = refl;
  probed = λ c k j pos lt e before. let z : c ≡ 0 = sym e ∙ blank (place_of p c k) in absurd (omega (arith, z));
  parts = refl;
  each = one;
}
  where
    fits : Fits p words (first_view p)
    fits = record { stands = stands_none words; idle = λ e. absurd (omega (arith, e)); sized = λ _. refl }

    one : (id : ℕ) (v : View) → get_elem? (first_view p ∷ []) id ≡ some v → Fits p words v
    one zero v e = subst (Fits p words) (some-injective (first_view p) v e) fits
    one (suc id) v e = absurd (some-ne-none v (sym e))

module _ (p : ℕ) where
  -- no two words hold one code
  pub unique : (s : State (Unit {0}) View) → Kept p s → (c i j : ℕ) → 0 < c → i < p → j < p → get_or s.words i 0 ≡ c → get_or s.words j 0 ≡ c → i ≡ j
  unique s k c i j pos lt lt' e e' =
      let some' : 0 < p = omega arith in
      let a = place-onto p c i some' lt in
      let b = place-onto p c j some' lt' in
      let at_a : get_or s.words (place_of p c a.0) 0 ≡ c = ap (λ (z : ℕ). get_or s.words z 0) a.2 ∙ e in
      let at_b : get_or s.words (place_of p c b.0) 0 ≡ c = ap (λ (z : ℕ). get_or s.words z 0) b.2 ∙ e' in
      ⊎_elim
      (λ (l : a.0 < b.0). absurd ((k.probed c b.0 a.0 pos b.1 at_b l).1 at_a))
      (λ (l : b.0 ≤ a.0). ⊎_elim
      (λ (m : b.0 < a.0). absurd ((k.probed c a.0 b.0 pos a.1 at_a m).1 at_b))
      (λ (m : a.0 ≤ b.0). let same : a.0 ≡ b.0 = omega (arith, l, m) in sym a.2 ∙ (ap (place_of p c) same ∙ b.2))
      (cases_lt b.0 a.0))
      (cases_lt a.0 b.0)

  -- each code stands in the words once at most
  pub once : (s : State (Unit {0}) View) → Kept p s → (c : ℕ) → 0 < c → times c s.words ≤ 1
  once s k c pos = times-once c s.words (λ i j lt lt' e e'. unique s k c i j pos (omega (arith, lt, k.sized)) (omega (arith, lt', k.sized)) e e')

  -- a view has won no code more often than it stands in the words
  pub won_few : (s : State (Unit {0}) View) → Kept p s → (id : ℕ) (v : View) → get_elem? s.views id ≡ some v → (c : ℕ) → times c v.won ≤ times c s.words
  won_few s k id v at zero = let h : times 0 v.won ≤ total (λ u. times 0 u.won) s.views = total-here (λ u. times 0 u.won) s.views id v at in omega (arith, h, k.codes)
  won_few s k id v at (suc c) = let h : times (suc c) v.won ≤ total (λ u. times (suc c) u.won) s.views = total-here (λ u. times (suc c) u.won) s.views id v at in omega (arith, h, k.won_once (suc c) (omega arith))

  -- a view with all parts has won each code as often as it stands in the words
  won_all : (s : State (Unit {0}) View) → Kept p s → (id : ℕ) (v : View) → get_elem? s.views id ≡ some v → v.parts ≡ all_parts → (c : ℕ) → 0 < c → times c s.words ≡ times c v.won
  won_all s k id v at whole c pos =
      sym (k.won_once c pos) ∙ total-alone (λ u. times c u.won) s.views id v at
      (λ j u there other.
      let two : v.parts + u.parts ≤ total (λ x. x.parts) s.views = total-two (λ x. x.parts) s.views id j v u at there (λ e. other (sym e)) in
      let no_parts : u.parts ≡ 0 = omega (arith, two, k.parts, whole) in
      ap (times c) ((k.each j u there).idle no_parts).0)

  -- what the rule says of a view that has a part
  pub knows : (s : State (Unit {0}) View) → Kept p s → (id : ℕ) (v : View) → get_elem? s.views id ≡ some v → 0 < v.parts → Knows v
  knows s k id v at has = record {
    distinct = distinct;
    few = omega (arith, fewer v.won s.words (won_few s k id v at), k.sized, f.sized has);
    apart = λ a b c d h h' far same.
        let x = f.stands a c h in
        let y = f.stands b d h' in
        far (unique s k c a b x.1 (omega (arith, x.0, k.sized)) (omega (arith, y.0, k.sized)) x.2 (y.2 ∙ sym same));
    all_won = λ whole a c h.
        let x = f.stands a c h in
        times-Contains c v.won (omega (arith, times-here c s.words a x.0 x.2, won_all s k id v at whole c x.1));
    full = λ whole everywhere. sized_full whole everywhere;
  }
    where
      f : Fits p s.words v
      f = k.each id v at

      distinct : (c : ℕ) → times c v.won ≤ 1
      distinct zero = omega (arith, total-here (λ u. times 0 u.won) s.views id v at, k.codes)
      distinct (suc c) = omega (arith, won_few s k id v at (suc c), once s k (suc c) (omega arith))

      sized_full : v.parts ≡ all_parts → ((i : ℕ) → i < v.places → (d : ℕ) × Contains v.found (i, d)) → length v.won ≡ v.places
      sized_full whole everywhere =
          let back : length s.words ≤ length v.won = fewer s.words v.won more in
          let forth : length v.won ≤ length s.words = fewer v.won s.words (won_few s k id v at) in
          omega (arith, back, forth, k.sized, f.sized has)
        where
          more : (c : ℕ) → times c s.words ≤ times c v.won
          more zero = let none' : times 0 s.words ≡ 0 = times-none 0 s.words (λ i lt e. let w = everywhere i (omega (arith, lt, k.sized, f.sized has)) in let x = f.stands i w.0 w.1 in omega (arith, e, x.1, x.2)) in omega (arith, none')
          more (suc c) = omega (arith, won_all s k id v at whole (suc c) (omega arith))

  same_words : (s : State (Unit {0}) View) (i id : ℕ) (c : List (ℕ × Unit {0})) (w : View) → Kept p (record { words = s.words; homes = s.homes; views = set s.views id w }) → Kept p (stepped s i (get_or s.words i 0) id c w keeps)
  same_words s i id c w h = subst (λ (ws : List ℕ). Kept p (record { words = ws; homes = s.homes; views = set s.views id w })) (sym (set-get_or s.words i 0)) h

  abbrev pub Goes : State (Unit {0}) View → ℕ → ℕ → ℕ → Me (Unit {0}) View → (ℕ → Me (Unit {0}) View → Type 0) → Type 0
  Goes s i m id me then = (w : View) × (a : Act (Unit {0})) × Valid s.homes me.1 a × Kept p (stepped s i m id me.1 w a) × then (get_or s.words i 0) (w, carried_after me.1 a)

  -- the word is left as it is, and found
  pub finds_word : (s : State (Unit {0}) View) → Kept p s → (i id : ℕ) (me : Me (Unit {0}) View) (then : ℕ → Me (Unit {0}) View → Type 0) → 0 < me.0.parts → i < p → get_elem? s.views id ≡ some me.0
      → get_or s.words i 0 ≢ 0 → then (get_or s.words i 0) (finds me.0 i (get_or s.words i 0), me.1) → Goes s i (get_or s.words i 0) id me then
  finds_word s k i id me then has lt at full told =
      let n : ℕ = get_or s.words i 0 in
      let some' : 0 < n = omega (arith, full) in
      (finds me.0 i n, keeps, tt, same_words s i id me.1 (finds me.0 i n) (keep_view p s k id me.0 (finds me.0 i n) at refl refl (fits_find p s.words me.0 i has (omega (arith, k.sized)) some' (k.each id me.0 at))), told)

  -- the word and the view are left as they are
  leaves : (s : State (Unit {0}) View) → Kept p s → (i id : ℕ) (me : Me (Unit {0}) View) (then : ℕ → Me (Unit {0}) View → Type 0) → get_elem? s.views id ≡ some me.0
      → then (get_or s.words i 0) (me.0, me.1) → Goes s i (get_or s.words i 0) id me then
  leaves s k i id me then at told = (me.0, keeps, tt, same_words s i id me.1 me.0 (keep_view p s k id me.0 me.0 at refl refl (k.each id me.0 at)), told)

  pub looks : (slots id i : ℕ) (me : Me (Unit {0}) View) → 0 < me.0.parts → i < p → Allows (Kept p) slots id me i (λ n. n) (Looked (step slots i 0 0 none) me)
  looks slots id i me has lt s k wide at _ = dite (ℕ_discrete (get_or s.words i 0) 0)
      (λ blank. leaves s k i id me (Looked (step slots i 0 0 none) me) at (refl, (λ _. refl), λ full. absurd (full blank)))
      (λ full. finds_word s k i id me (Looked (step slots i 0 0 none) me) has lt at full (refl, (λ blank. absurd (full blank)), λ _. refl))

  pub learns : (slots id i : ℕ) (me : Me (Unit {0}) View) → 0 < me.0.parts → Allows (Kept p) slots id me i (λ n. n) (Learned (step slots i 0 0 none) me)
  learns slots id i me has s k wide at _ = leaves s k i id me (Learned (step slots i 0 0 none) me) at (refl, knows s k id me.0 at has)
