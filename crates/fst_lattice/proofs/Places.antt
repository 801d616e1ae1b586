-- The place of a name in a table.
use Rattle.std.proofs.Common.{◌≡◌, ℕ, Bool, false, true≢false, List, Option, None, Some, slice_get, sym, ◌∙◌}
use Rattle.std.specs.Prelude.{MatchOption}
use Rattle.std.specs.Bool.{Decides}
use Rattle.std.specs.List.{list_any}
use Rattle.fst_machine.specs.BreadthFirst.{Has}
use Rattle.fst_machine.proofs.Elements.{Has-any}

pub placed : {K : Type 0} (eq : K → K → Bool) (same : (x y : K) → Decides (eq x y) (x ≡ y)) (ks : List K) (k : K) (o : Option ℕ)
    → MatchOption o (list_any (eq k) ks ≡ false) (λ place. slice_get ks place ≡ Some k) → MatchOption o (Has ks k → ⊥) (λ place. slice_get ks place ≡ Some k)
placed eq same ks k None none = λ there. true≢false (sym (Has-any eq same ks k there) ∙ none)
placed eq same ks k (Some place) there = there
