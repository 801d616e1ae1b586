-- The weight of a path, arc by arc from its end.
use Rattle.std.proofs.Common.{◌≡◌, inl, inr, ℕ, ◌+◌, ◌*◌, ◌≤◌, List, [], ◌∷◌, Option, None, Some, length, map, drop, slice_get, refl, sym, ap, ap₂, ◌∙◌, subst, arith}
use Rattle.std.specs.Prelude.{IfNone, IfSome, MatchOption}
use Rattle.std.specs.List.{All}
use Rattle.std.proofs.lemmas.List.{drop_all, length-drop}
use Rattle.std.proofs.lemmas.List.Elements.{All-cons, All-drop, All-nil}
use Rattle.fst_semiring.specs.Cost.{Cost}
use Rattle.fst_semiring.specs.Semiring.{InRange, IsWide, Within, times}
use Rattle.fst_semiring.specs.declared.arc_type.ArcType.{ArcType}
use Rattle.fst_semiring.proofs.Ranges.{Within-more}
use Rattle.fst_machine.specs.Graph.{Graph, graph_of}
use Rattle.fst_machine.specs.Letters.{Letter, letter_of, product}
use Rattle.fst_machine.specs.Machine.{Machine}
use Rattle.fst_machine.proofs.Letters.{Within-product}
use Rattle.fst_machine.specs.Steps.{written}
use Rattle.fst_machine.specs.declared.path.Step.{Step}
use Rattle.fst_nbest.specs.Chains.{arc_at, chain_of, last_weight}
use Rattle.fst_nbest.specs.Listing.{AreSteps}
use Rattle.fst_nbest.proofs.Remaining.{drop_at}
use Rattle.fst_batch.specs.Filling.{AreSmall}
use Rattle.fst_batch.proofs.Filled.{small_step}

-- one more arc is multiplied on
pub weigh_more : (kind : ArcType) (letters : List Letter) (i j : ℕ) (l : Letter) (w v a : Cost) → j ≡ i + 1 → slice_get letters i ≡ Some l → w ≡ product kind (drop j letters) → a ≡ l.weight → v ≡ times kind a w → v ≡ product kind (drop i letters)
weigh_more kind letters i j l w v a next at so_far one made =
    made ∙ (ap₂ (times kind) one (so_far ∙ ap (λ (k : ℕ). product kind (drop k letters)) next) ∙ ap (product kind) (sym (drop_at letters i l at)))

-- what is behind the end
pub weigh_none : (kind : ArcType) (letters : List Letter) (i : ℕ) (w : Cost) → length letters ≤ i → w ≡ product kind [] → w ≡ product kind (drop i letters)
weigh_none kind letters i w past is = is ∙ ap (product kind) (sym (drop_all i letters past))

-- the letters of steps have small weights
pub small_letters : (m : Machine Cost) → AreSmall m → (walk : List (ℕ × ℕ)) → AreSteps (graph_of m) walk → All (λ l. Within 2000000000000000000 l.weight) (map (λ (s : ℕ × ℕ). letter_of (arc_at (graph_of m) s)) walk)
small_letters m small [] steps = All-nil (λ (l : Letter). Within 2000000000000000000 l.weight)
small_letters m small (s ∷ walk) steps =
    All-cons (λ (l : Letter). Within 2000000000000000000 l.weight) (letter_of (arc_at (graph_of m) s)) (map (λ (t : ℕ × ℕ). letter_of (arc_at (graph_of m) t)) walk) (small_step m small s (steps s (inl refl)))
    (small_letters m small walk (λ t there. steps t (inr there)))

module _ (kind : ArcType) (letters : List Letter) (i : ℕ) (w : Cost) (small : All (λ l. Within 2000000000000000000 l.weight) letters) (few : length letters ≤ 1099511627776) (is : w ≡ product kind (drop i letters)) where
  -- what is behind an arc has no great numbers
  pub rest_within : Within (length letters * 2000000000000000000) w
  rest_within =
      let here = Within-product kind 2000000000000000000 (drop i letters) (All-drop (λ (l : Letter). Within 2000000000000000000 l.weight) i letters small) in
      let size = length-drop i letters in
      subst (Within (length letters * 2000000000000000000)) (sym is) (Within-more (length (drop i letters) * 2000000000000000000) (length letters * 2000000000000000000) (product kind (drop i letters)) (omega (arith, size)) here)

  pub rest_wide : IsWide w
  rest_wide = Within-more (length letters * 2000000000000000000) 1329227995784915872903807060280344575 w (omega (arith, few)) rest_within

-- a path without arcs ends where it starts
pub end_none : (g : Graph ℕ) (path : List Step) (start : ℕ) (w : Cost) → length path ≡ 0 → g.start ≡ Some start → w ≡ g.final start → w ≡ (chain_of g (written path)).last
end_none g [] start w none begins is = is ∙ ap (λ (o : Option ℕ). last_weight g o []) (sym begins)
end_none g (s ∷ path) start w none begins is = absurd (omega (arith, none))

-- there is a start
pub starts_somewhere : {X : Type 0} (o : Option X) (x : X) → o ≡ Some x → o ≡ None → ⊥
starts_somewhere {X} o x some none = let wrong : ◌≡◌ {A = Option X} None (Some x) = sym none ∙ some in absurd (cc)

-- a weight that is narrowed
pub narrowed : {V : Type 0} (value : V → Cost) (o : Option V) (wide w : Cost) → wide ≡ w → IfSome o (λ v. value v ≡ wide) → IfSome o (λ v. InRange (value v)) → IfNone o (InRange wide → ⊥)
    → MatchOption o (InRange w → ⊥) (λ v. (value v ≡ w) × InRange (value v))
narrowed value None wide w same found range none = λ fine. none (subst InRange (sym same) fine)
narrowed value (Some v) wide w same found range none = (found ∙ same, range)
