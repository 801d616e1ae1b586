-- The keys of fronts from subsets, and that the branches of a prefix and its own string have all strings that begin so.
use Rattle.std.proofs.Common.{◌≡◌, ◌≢◌, ◌⊎◌, inl, inr, sym, refl, ap, ◌∙◌, subst, ℕ, ◌+◌, List, [], ◌∷◌, ◌++◌, length, Some, slice_get, append_assoc, arith}
use Rattle.std.proofs.Common.{Ordering, Less, Equal, Greater}
use Rattle.std.specs.Ordering.{ordering_reverse}
use Rattle.std.proofs.lemmas.List.{length-append}
use Rattle.fst_semiring.specs.Cost.{Cost, infinite, cost_cmp, cost_total, plus}
use Rattle.fst_semiring.specs.declared.arc_type.ArcType.{ArcType}
use Rattle.fst_semiring.proofs.Order.{cost_cmp_equal, plus_antisym, plus_less}
use Rattle.fst_machine.specs.BreadthFirst.{Has}
use Rattle.fst_machine.specs.Machine.{Arc}
use Rattle.fst_machine.specs.Graph.{Graph}
use Rattle.fst_machine.specs.Cycles.{IsAccessible}
use Rattle.fst_machine.specs.Distance.{IsFinalDistance}
use Rattle.fst_machine.specs.Paths.{IsPath, Transition}
use Rattle.fst_nbest.specs.Words.{NoLess}
use Rattle.fst_trim.specs.Weighed.{IsWeighted}
use Rattle.fst_trim.specs.WordWeights.{WordWeighs}
use Rattle.fst_determinize.specs.Subsets.{IsSubset, Member}
use Rattle.fst_determinize.proofs.Best.{least_reached, least_some}
use Rattle.fst_determinize.proofs.Spelling.{word_first}
use Rattle.fst_select.specs.Strings.{IsSpelled, PrefixWeighs}
use Rattle.fst_select.specs.Keys.{IsShortest, PrefixLaws, best_total}
use Rattle.fst_select.specs.Frontier.{IsKey}
use Rattle.fst_select.specs.Branches.{Branch, closed_front, open_front}
use Rattle.fst_select.proofs.SubsetKeys.{cut_word, least_below, member_there, prefix_laws, word_solid}

-- what is no worse than a value is better than it or the same
no_worse_cases : (d v : Cost) → plus d v ≡ d → (cost_cmp d v ≡ Less) ⊎ (d ≡ v)
no_worse_cases d v h = by_order (cost_cmp d v) refl
  where
    by_order : (o : Ordering) → cost_cmp d v ≡ o → (cost_cmp d v ≡ Less) ⊎ (d ≡ v)
    by_order Less e = inl e
    by_order Equal e = inr (cost_cmp_equal d v e)
    by_order Greater e = inr (plus_antisym d v h (plus_less v d (cost_total.antisymm v d ∙ ap ordering_reverse e)))

module _ (kind : ArcType) (g : Graph ℕ) (weighted : IsWeighted kind g) (d : ℕ → Cost) (far : (q : ℕ) → IsAccessible g q → IsFinalDistance kind g q (d q))
    (x : List ℕ) (by : Cost) (members : List Member) (is : IsSubset kind g x by members) where
  laws : PrefixLaws kind g d x by members
  laws = prefix_laws kind g weighted d far x by members is

  -- the weight and the length of the best string that begins so
  pub open_key : (count : ℕ) → best_total kind d by members ≢ infinite → IsShortest kind g by (best_total kind d by members) members count
      → IsKey (IsSpelled kind g) (open_front kind d x by members count)
  open_key count not short =
      let s = laws.shortest count short in
      record {
        word = x ++ s.0;
        inside = (s.0, refl);
        weighs = (s.1, λ v h. no_better s.0 v h);
        long = length-append x s.0 ∙ ap (λ (n : ℕ). length x + n) s.2;
        least = λ y v inside h.
            let whole = subst (λ (t : List ℕ). WordWeighs kind g t v) inside.1 h.0 in
            by_order v inside.0 whole (ap length inside.1 ∙ length-append x inside.0) (no_worse_cases _ v (no_better inside.0 v whole));
      }
    where
      no_better : (rest : List ℕ) (v : Cost) → WordWeighs kind g (x ++ rest) v → plus (best_total kind d by members) v ≡ best_total kind d by members
      no_better rest v h = least_below (PrefixWeighs kind g x) _ v laws.ahead (record { rest = rest; whole = h })

      by_order : {n : ℕ} (v : Cost) (rest : List ℕ) → WordWeighs kind g (x ++ rest) v → n ≡ length x + length rest
          → (cost_cmp (best_total kind d by members) v ≡ Less) ⊎ (best_total kind d by members ≡ v) → NoLess (best_total kind d by members) (length x + count) v n
      by_order v rest h long (inl less) = inl less
      by_order v rest h long (inr same) =
          let few = laws.least count rest short (subst (WordWeighs kind g (x ++ rest)) (sym same) h) in
          inr (same, omega (arith, long, few))

  -- those of the string itself
  pub closed_key : best_total kind g.final by members ≢ infinite → IsKey (IsSpelled kind g) (closed_front kind g x by members)
  closed_key not =
      let own = least_reached (WordWeighs kind g x) _ laws.weighs not in
      record {
        word = x;
        inside = refl;
        weighs = own;
        long = refl;
        least = λ y v inside h. by_order v (ap length inside) (no_worse_cases _ v (own.1 v (subst (λ (t : List ℕ). WordWeighs kind g t v) inside h.0)));
      }
    where
      by_order : {n : ℕ} (v : Cost) → n ≡ length x → (cost_cmp (best_total kind g.final by members) v ≡ Less) ⊎ (best_total kind g.final by members ≡ v)
          → NoLess (best_total kind g.final by members) (length x) v n
      by_order v long (inl less) = inl less
      by_order v long (inr same) = inr (same, omega (arith, long))

  -- a string with a weight has a key of its own
  pub stop_solid : (w : Cost) → WordWeighs kind g x w → best_total kind g.final by members ≢ infinite
  stop_solid w h = (least_some (WordWeighs kind g x) _ w laws.weighs h (word_solid kind g weighted x w h)).1

  -- so has a prefix of one
  pub open_solid : (rest : List ℕ) (w : Cost) → WordWeighs kind g (x ++ rest) w → best_total kind d by members ≢ infinite
  open_solid rest w h = (least_some (PrefixWeighs kind g x) _ w laws.ahead (record { rest = rest; whole = h }) (word_solid kind g weighted (x ++ rest) w h)).1

-- The branches of a prefix that have the labels of all arcs of its members have all its longer strings.
pub in_branch : (kind : ArcType) (g : Graph ℕ) (weighted : IsWeighted kind g) (d : ℕ → Cost) (far : (q : ℕ) → IsAccessible g q → IsFinalDistance kind g q (d q))
    (x : List ℕ) (by : Cost) (members : List Member) (is : IsSubset kind g x by members)
    (branches : List Branch) → ((k : Branch) → Has branches k → IsSubset kind g (x ++ k.label ∷ []) k.by k.members)
    → ((m : Member) (j : ℕ) (a : Arc Cost ℕ) → Has members m → slice_get (g.arcs m.state) j ≡ Some a → (k : Branch) × Has branches k × (k.label ≡ a.ilabel))
    → (a : ℕ) (rest : List ℕ) (w : Cost) → WordWeighs kind g (x ++ a ∷ rest) w → (k : Branch) × Has branches k × (k.label ≡ a) × (best_total kind d k.by k.members ≢ infinite)
in_branch kind g weighted d far x by members is branches steps every a rest w h =
    let c = cut_word kind g weighted x (a ∷ rest) w h in
    let has = member_there kind g weighted x by members is c.state c.front c.spells in
    let t = word_first c.weighs.path a rest (sym c.weighs.word) in
    let leaves = subst (λ (ts : List (Transition ℕ)). IsPath g c.state ts c.weighs.last) t.2 c.weighs.leads in
    let k = every (record { state = c.state; residual = has.0 }) t.0.place t.0.arc has.1 leaves.0.1 in
    let label : k.0.label ≡ a = k.2 ∙ t.3 in
    let word : x ++ a ∷ rest ≡ (x ++ k.0.label ∷ []) ++ rest = ap (λ (n : ℕ). x ++ n ∷ rest) (sym label) ∙ sym (append_assoc x (k.0.label ∷ []) rest) in
    let whole : WordWeighs kind g ((x ++ k.0.label ∷ []) ++ rest) w = subst (λ (y : List ℕ). WordWeighs kind g y w) word h in
    (k.0, k.1, label, open_solid kind g weighted d far (x ++ k.0.label ∷ []) k.0.by k.0.members (steps k.0 k.1) rest w whole)
