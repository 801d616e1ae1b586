-- The rule without its sums.
use Rattle.std.proofs.Common.{◌≡◌, ℕ, zero, suc, ◌+◌, ◌<◌, ◌≤◌, get_or, arith}
use Rattle.std.specs.List.{Contains}
use mathlib.Core.Logic.{dite}
use mathlib.Core.Option.{some}
use native.Mathlib.Decide.{ℕ_discrete}
use lib.ListN.{get_elem?}
use Rattle.atomic_table.specs.Table.{State}
use Rattle.fst_claims.specs.declared.view.View.{View}
use Rattle.fst_claims.specs.Counts.{times, total}
use Rattle.fst_claims.specs.Rule.{HasWonOnce, Kept, Says}
use Rattle.fst_claims.proofs.Counts.{Contains-times, times-at, times-here, total-here, total-some, total-two}
use Rattle.fst_claims.proofs.Steps.{once, unique, won_few}

module _ (p : ℕ) (s : State (Unit {0}) View) (k : Kept p s) where
  above : (id : ℕ) (v : View) → get_elem? s.views id ≡ some v → (c : ℕ) → Contains v.won c → 0 < c
  above id v at zero h = let t : 0 < times 0 v.won = Contains-times 0 v.won h in let e : times 0 v.won ≤ total (λ u. times 0 u.won) s.views = total-here (λ u. times 0 u.won) s.views id v at in absurd (omega (arith, t, e, k.codes))
  above id v at (suc c) h = omega arith

  set_words : (i c : ℕ) → i < p → 0 < c → get_or s.words i 0 ≡ c → (id : ℕ) × HasWonOnce s.views c id
  set_words i c lt pos e =
      let word : 0 < times c s.words = times-here c s.words i (omega (arith, lt, k.sized)) e in
      let w = total-some (λ u. times c u.won) s.views (omega (arith, word, k.won_once c pos)) in
      let one : times c w.1.won ≤ 1 = omega (arith, won_few p s k w.0 w.1 w.2 c, once p s k c pos) in
      (w.0, (w.1, w.2, omega (arith, one, w.3)))

  one_view : (c i j : ℕ) (v w : View) → get_elem? s.views i ≡ some v → get_elem? s.views j ≡ some w → Contains v.won c → Contains w.won c → i ≡ j
  one_view c i j v w at at' h h' = dite (ℕ_discrete i j) (λ e. e)
      (λ far.
      let pos : 0 < c = above i v at c h in
      let two : times c v.won + times c w.won ≤ total (λ u. times c u.won) s.views = total-two (λ u. times c u.won) s.views i j v w at at' far in
      absurd (omega (arith, two, k.won_once c pos, once p s k c pos, Contains-times c v.won h, Contains-times c w.won h')))

  won_words : (c id : ℕ) (v : View) → get_elem? s.views id ≡ some v → Contains v.won c → (0 < c) × (i : ℕ) × (i < p) × (get_or s.words i 0 ≡ c)
  won_words c id v at h =
      let w = times-at c s.words (omega (arith, won_few p s k id v at c, Contains-times c v.won h)) in
      (above id v at c h, w.0, omega (arith, w.1, k.sized), w.2)

  pub says : Says p s
  says = record { set_words = set_words; one_view = one_view; won_words = won_words; one_word = λ c i j pos lt lt' e e'. unique p s k c i j pos lt lt' e e' }
