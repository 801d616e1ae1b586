-- `equivalent` has one outcome: a word has one weight, and one word is the least.
use Rattle.std.proofs.Common.{◌≡◌, ◌⊎◌, inl, inr, ℕ, List, length, refl, sym, ap, ◌∙◌, subst}
use Rattle.fst_semiring.specs.declared.arc_type.ArcType.{ArcType}
use Rattle.fst_semiring.specs.Cost.{Cost}
use Rattle.fst_machine.specs.Graph.{graph_of}
use Rattle.fst_machine.specs.Machine.{Machine}
use Rattle.fst_binary.specs.Sides.{neither}
use Rattle.fst_trim.specs.WordOrder.{IsSooner}
use Rattle.fst_trim.specs.WordWeights.{IsSingle, IsWordWeight, SameWords}
use Rattle.fst_trim.proofs.WordOrder.{sooner_once}
use Rattle.fst_setops.specs.Separating.{IsSeparating, Separates}
use Rattle.fst_setops.specs.Verdicts.{IsSaid}
use Rattle.fst_setops.specs.declared.verdict.Verdict.{Verdict}
use Rattle.fst_setops.specs.declared.verdict.Verdict.TheVariants.{Equivalent, Separated}
use Rattle.fst_setops.proofs.Led.{one_weight}
use Rattle.fst_verbs.specs.Comparing.{IsCompared, IsSeparation, same_text, separation_text}
use Rattle.fst_verbs.specs.Meaning.{Made, bytes_of, separation, text}
use Rattle.fst_verbs.specs.OneMeaning.{One}
use Rattle.fst_verbs.proofs.OneMade.{IsOneMade}

module _ (kind : ArcType) (a b : Machine Cost) where
  -- one word is the least
  one_least : (x y : List ℕ) (s t u v : Cost) → IsSeparating kind (graph_of a) (graph_of b) x s t → IsSeparating kind (graph_of a) (graph_of b) y u v → x ≡ y
  one_least x y s t u v one two = by (one.least y u v two.separates) (two.least x s t one.separates)
    where
      by : (x ≡ y) ⊎ IsSooner x y → (y ≡ x) ⊎ IsSooner y x → x ≡ y
      by (inl e) other = e
      by (inr h) (inl e) = sym e
      by (inr h) (inr k) = absurd (sooner_once x y h k)

  -- and is told with one pair of weights
  one_separation : IsSingle (graph_of a) → IsSingle (graph_of b) → One (IsSeparation kind a b)
  one_separation first second x y one two =
      let word : one.word ≡ two.word = one_least one.word two.word one.first_weight one.second_weight two.first_weight two.second_weight one.separating two.separating in
      let v : one.first_weight ≡ two.first_weight =
      one_weight kind (graph_of a) first two.word one.first_weight two.first_weight (subst (λ (z : List ℕ). IsWordWeight kind (graph_of a) z one.first_weight) word one.separating.separates.first) two.separating.separates.first in
      let w : one.second_weight ≡ two.second_weight =
      one_weight kind (graph_of b) second two.word one.second_weight two.second_weight (subst (λ (z : List ℕ). IsWordWeight kind (graph_of b) z one.second_weight) word one.separating.separates.second) two.separating.separates.second in
      let told : separation (separation_text kind one.first_weight one.second_weight one.word) ≡ separation (separation_text kind two.first_weight two.second_weight two.word) = rw (word, v, w) refl in
      one.is ∙ (told ∙ sym two.is)

  -- where no word has different weights, none is told
  none_apart : (x : Made) → IsSingle (graph_of b) → SameWords kind (graph_of a) (graph_of b) → IsSeparation kind a b x → ⊥
  none_apart x second same apart =
      let s : Separates kind (graph_of a) (graph_of b) apart.word apart.first_weight apart.second_weight = apart.separating.separates in
      s.differ (one_weight kind (graph_of b) second apart.word apart.first_weight apart.second_weight ((same apart.word apart.first_weight).0 s.first) s.second)

  one_compared : One (IsCompared kind a b)
  one_compared x y one two = by one.says two.says
    where
      by : (SameWords kind (graph_of a) (graph_of b) × (x ≡ text same_text)) ⊎ IsSeparation kind a b x → (SameWords kind (graph_of a) (graph_of b) × (y ≡ text same_text)) ⊎ IsSeparation kind a b y → x ≡ y
      by (inl p) (inl q) = p.1 ∙ sym q.1
      by (inl p) (inr q) = absurd (none_apart y one.second p.0 q)
      by (inr p) (inl q) = absurd (none_apart x one.second q.0 p)
      by (inr p) (inr q) = one_separation one.first one.second x y p q

  compared_count : (made : Made) → IsCompared kind a b made → length (bytes_of neither made) ≡ 1
  compared_count made is = by is.says
    where
      by : (SameWords kind (graph_of a) (graph_of b) × (made ≡ text same_text)) ⊎ IsSeparation kind a b made → length (bytes_of neither made) ≡ 1
      by (inl p) = ap (λ (m : Made). length (bytes_of neither m)) p.1
      by (inr p) = ap (λ (m : Made). length (bytes_of neither m)) p.is

  pub a_comparison : IsOneMade 1 (IsCompared kind a b)
  a_comparison = record { one = one_compared; count = compared_count }

-- what is said of the two machines is what is told
module _ {V X : Type 0} (kind : ArcType) (value : X → Cost) (a b : Machine Cost) (single : IsSingle (graph_of a) × IsSingle (graph_of b)) (bytes : List ℕ) where
  pub told_same : (v : Verdict V X) → v ≡ Equivalent → IsSaid kind value (graph_of a) (graph_of b) v → bytes ≡ same_text → IsCompared kind a b (text bytes)
  told_same v e said is = record {
    first = single.0;
    second = single.1;
    says = inl (subst (λ (v : Verdict V X). IsSaid kind value (graph_of a) (graph_of b) v) e said, ap text is);
  }

  pub told_apart : (v : Verdict V X) (word : List ℕ) (s t : X) → v ≡ Separated word s t → IsSaid kind value (graph_of a) (graph_of b) v → bytes ≡ separation_text kind (value s) (value t) word → IsCompared kind a b (separation bytes)
  told_apart v word s t e said is = record {
    first = single.0;
    second = single.1;
    says = inr (record {
      word = word;
      first_weight = value s;
      second_weight = value t;
      separating = subst (λ (v : Verdict V X). IsSaid kind value (graph_of a) (graph_of b) v) e said;
      is = ap separation is;
    });
  }
