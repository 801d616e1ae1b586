-- How a search over fronts begins and ends, and that the first part of a front has the weight and the length of the whole.
use Rattle.std.proofs.Common.{◌≡◌, ◌⊎◌, inl, inr, sym, refl, ap, subst, ℕ, ◌≤◌, List, [], ◌∷◌, ◌++◌, length, Bool, false, arith}
use Rattle.std.proofs.Common.{Less}
use Rattle.fst_semiring.specs.Cost.{Cost, cost_cmp}
use Rattle.fst_semiring.specs.declared.arc_type.ArcType.{ArcType}
use Rattle.fst_semiring.proofs.Order.{plus_antisym}
use Rattle.fst_machine.specs.BreadthFirst.{Has}
use Rattle.fst_machine.specs.Graph.{Graph}
use Rattle.fst_nbest.specs.Words.{NoLess, WeightedWord, word_cmp}
use Rattle.fst_nbest.proofs.Ranks.{NoLess-antisym, NoLess-trans}
use Rattle.fst_select.specs.Strings.{AreFirstStrings, IsPlain, IsSpelled}
use Rattle.fst_select.specs.Frontier.{ComesFirst, Covers, CoversBy, Front, IsFrontier, IsKey, WeighsOnce, front_cmp}
use Rattle.fst_select.proofs.Frontiers.{IsShorter, front_cases}
use Rattle.fst_select.proofs.PlainStrings.{plain_strings}

module _ (Weighs : List ℕ → Cost → Type 0) where
  -- it begins with the front of all strings
  pub begins_whole : (e : Front) → e.prefix ≡ [] → e.closed ≡ false → IsKey Weighs e → IsFrontier Weighs [] (e ∷ [])
  begins_whole e root is_open key = record {
    ascends = tt;
    says = λ a none. absurd none;
    keys = λ f has. own f has;
    apart = ((λ f none. absurd none), tt);
    after = λ f b a has inside says none. absurd none;
    all = λ b says. inr (e, inl refl, subst (λ (z : Bool). CoversBy z e.prefix b.word) (sym is_open) (b.word, ap (λ (p : List ℕ). p ++ b.word) (sym root)));
  }
    where
      own : (f : Front) → Has (e ∷ []) f → IsKey Weighs f
      own f (inl same) = subst (IsKey Weighs) same key
      own f (inr none) = absurd none

  -- or with none, where there is no string
  pub begins_nothing : ((x : List ℕ) (v : Cost) → Weighs x v → ⊥) → IsFrontier Weighs [] []
  begins_nothing none = record { ascends = tt; says = λ a n. absurd n; keys = λ e n. absurd n; apart = tt; after = λ e b a n. absurd n; all = λ b says. absurd (none b.word b.weight says) }

  -- it ends with n listed, or with no front left
  pub ends_all : (listed : List WeightedWord) (es : List Front) (n : ℕ) → (length listed ≡ n) ⊎ (es ≡ []) → IsFrontier Weighs listed es
      → (b : WeightedWord) → Weighs b.word b.weight → Has listed b ⊎ ((length listed ≡ n) × ((a : WeightedWord) → Has listed a → word_cmp a b ≡ Less))
  ends_all listed es n done h b says = by_case done (h.all b says)
    where
      by_case : (length listed ≡ n) ⊎ (es ≡ []) → Has listed b ⊎ ((e : Front) × Has es e × Covers e b.word)
          → Has listed b ⊎ ((length listed ≡ n) × ((a : WeightedWord) → Has listed a → word_cmp a b ≡ Less))
      by_case k (inl has) = inl has
      by_case (inl full) (inr (e, has, inside)) = inr (full, λ a there. h.after e b a has inside says there)
      by_case (inr none) (inr (e, has, inside)) = absurd (subst (λ (l : List Front). Has l e) none has)

  -- what comes first has no greater key
  pub first_key : (first f : Front) → front_cmp first f ≡ Less → NoLess first.total first.long f.total f.long
  first_key first f h = by_case (front_cases first f h)
    where
      by_case : (cost_cmp first.total f.total ≡ Less) ⊎ ((first.total ≡ f.total) × IsShorter first f) → NoLess first.total first.long f.total f.long
      by_case (inl less) = inl less
      by_case (inr (g, (inl low))) = inr (g, omega (arith, low))
      by_case (inr (g, (inr tie))) = inr (g, omega (arith, tie.0))

  -- of fronts that have all strings of a front, and no others, the first has its weight and its length
  pub first_same : (e first : Front) (others : List Front) → IsKey Weighs e → ((f : Front) → Has (first ∷ others) f → IsKey Weighs f)
      → ((f : Front) (x : List ℕ) → Has (first ∷ others) f → Covers f x → Covers e x)
      → ((b : WeightedWord) → Weighs b.word b.weight → Covers e b.word → (f : Front) × Has (first ∷ others) f × Covers f b.word)
      → ComesFirst first others → (first.total ≡ e.total) × (first.long ≡ e.long)
  first_same e first others key keys inside all leads =
      let holder = all (record { word = key.word; weight = e.total }) key.weighs key.inside in
      let one : NoLess holder.0.total holder.0.long e.total e.long
      = subst (λ (n : ℕ). NoLess holder.0.total holder.0.long e.total n) key.long ((keys holder.0 holder.1).least key.word e.total holder.2 key.weighs) in
      let down : NoLess first.total first.long e.total e.long = NoLess-trans first.total holder.0.total e.total first.long holder.0.long e.long (lead holder.0 holder.1) one in
      let own = keys first (inl refl) in
      let up : NoLess e.total e.long first.total first.long
      = subst (λ (n : ℕ). NoLess e.total e.long first.total n) own.long (key.least own.word first.total (inside first own.word (inl refl) own.inside) own.weighs) in
      NoLess-antisym first.total e.total first.long e.long down up
    where
      lead : (f : Front) → Has (first ∷ others) f → NoLess first.total first.long f.total f.long
      lead f (inl e) = subst (λ (z : Front). NoLess first.total first.long z.total z.long) e (inr (refl, omega arith))
      lead f (inr has) = first_key first f (leads f has)

-- a string has one best weight
pub spelled_once : {N : Type 0} (kind : ArcType) (g : Graph N) → WeighsOnce (IsSpelled kind g)
spelled_once kind g x v w one two = plus_antisym v w (one.1 w two.0) (two.1 v one.0)

-- Of an acceptor without epsilon, what is listed at the end are the first n strings.
pub first_strings : {N : Type 0} (kind : ArcType) (g : Graph N) → IsPlain g → (listed : List WeightedWord) (es : List Front) (n : ℕ) → (length listed ≡ n) ⊎ (es ≡ []) → length listed ≤ n
    → IsFrontier (IsSpelled kind g) listed es → AreFirstStrings kind g n listed
first_strings kind g plain listed es n done few h = record {
  few = few;
  ascends = h.ascends;
  weighs = λ a has. (plain_strings kind g plain a.word a.weight).1 (h.says a has);
  others = λ b weighs. ends_all (IsSpelled kind g) listed es n done h b ((plain_strings kind g plain b.word b.weight).0 weighs);
}
