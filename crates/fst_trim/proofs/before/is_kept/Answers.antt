use Rattle.std.proofs.Common.{◌≡◌, ◌⊎◌, inl, inr, ◌<◌, ◌≤◌, ℕ, Bool, true, false, List, Some, Result, Ok, Err, MatchResult, get_or, length, slice_get, refl, sym, ap, ◌∙◌, subst, arith}
use Rattle.std.specs.Bool.{Decides}
use Rattle.std.specs.Result.{is_ok}
use Rattle.std.proofs.lemmas.Bool.{cases_lt}
use Rattle.std.proofs.lemmas.List.Sorted.{searched}
use Rattle.std.proofs.lemmas.Option.{get_or_from_slice_get, slice_get-get_or}
use Rattle.fst_machine.specs.BreadthFirst.{Has}
use Rattle.fst_machine.proofs.Elements.{Has_at, at_Has}
use Rattle.fst_trim.proofs.before.is_kept.Goals as goal

-- what a binary search found
found_decides : (kept : List ℕ) (x : ℕ) (r : Result ℕ ℕ) → MatchResult r (λ i. (i < length kept) × (get_or kept i 0 ≡ x)) (λ i. (i ≤ length kept) × ((k : ℕ) → k < i → get_or kept k 0 < x) × ((k : ℕ) → i ≤ k → k < length kept → x < get_or kept k 0)) → Decides (is_ok r) (Has kept x)
found_decides kept x (Ok i) h = ((λ e. at_Has kept i x (slice_get-get_or kept i 0 h.0 ∙ ap Some h.1)), (λ has. refl))
found_decides kept x (Err i) h = ((λ e. let wrong : false ≡ true = e in absurd (cc)), (λ has. absurd (none has)))
  where
    none : Has kept x → ⊥
    none has = by_order (Has_at kept x has) (cases_lt (Has_at kept x has).0 i)
      where
        by_order : (at : (k : ℕ) × (slice_get kept k ≡ Some x) × (k < length kept)) → (at.0 < i) ⊎ (i ≤ at.0) → ⊥
        by_order at (inl low) = let read = get_or_from_slice_get kept at.0 x 0 at.1 in let less = h.1 at.0 low in omega arith
        by_order at (inr high) = let read = get_or_from_slice_get kept at.0 x 0 at.1 in let more = h.2 at.0 high at.2 in omega arith

pub returns : goal.returns
returns c = subst (λ (b : Bool). Decides b (Has c.args.kept.now c.args.state)) (sym c.is_ok.ensures.value) (found_decides c.args.kept.now c.args.state c.binary_search.result (searched c.args.kept.now c.args.state c.binary_search.result c.binary_search.ensures.position c.requires))
