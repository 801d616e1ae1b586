-- The first word of a closed list in order whose weights differ is the separating word, and where there is none, all words
-- have the same weights.
use Rattle.std.proofs.Common.{◌≡◌, ◌≢◌, ◌⊎◌, inl, inr, ℕ, true, List, [], ◌∷◌, ◌++◌, refl, sym, ap, ◌∙◌, subst}
use Rattle.std.specs.declared.cmp.Ordering.{Ordering}
use Rattle.std.specs.declared.cmp.Ordering.TheVariants.{Less, Equal, Greater}
use Rattle.fst_semiring.specs.Cost.{Cost, cost_cmp}
use Rattle.fst_semiring.specs.declared.arc_type.ArcType.{ArcType}
use Rattle.fst_semiring.specs.Semiring.{cancels}
use Rattle.fst_semiring.proofs.Order.{cost_cmp_equal, cost_cmp_same}
use Rattle.fst_machine.specs.BreadthFirst.{Has}
use Rattle.fst_machine.specs.Graph.{Graph}
use Rattle.fst_trim.specs.WordWeights.{IsSingle}
use Rattle.fst_trim.specs.Weighed.{IsWeighted}
use Rattle.fst_trim.specs.WordWeights.{SameWords}
use Rattle.fst_setops.specs.Led.{weight_of}
use Rattle.fst_trim.specs.WordOrder.{IsSooner}
use Rattle.fst_setops.specs.Separating.{IsSeparating}
use Rattle.fst_setops.proofs.Led.{word_weight}
use Rattle.fst_setops.specs.Closing.{Ascend, Differ, IsClosed, IsCovered, IsFirstApart, NoLater, Ratios}
use Rattle.fst_setops.proofs.Covering.{alike_weights, covered, equal_weights, somewhere}
use Rattle.fst_setops.proofs.Words.{no_later_trans}

-- equal values are told
pub same_or_not : (v w : Cost) → (v ≡ w) ⊎ (v ≢ w)
same_or_not v w = by_order (cost_cmp v w) refl
  where
    by_order : (o : Ordering) → cost_cmp v w ≡ o → (v ≡ w) ⊎ (v ≢ w)
    by_order Equal e = inl (cost_cmp_equal v w e)
    by_order Less e = inr (λ same. let f : Equal ≡ Less = sym (cost_cmp_same v) ∙ (ap (cost_cmp v) same ∙ e) in absurd (cc))
    by_order Greater e = inr (λ same. let f : Equal ≡ Greater = sym (cost_cmp_same v) ∙ (ap (cost_cmp v) same ∙ e) in absurd (cc))

module _ {N M : Type 0} (kind : ArcType) (a : Graph N) (b : Graph M) where
  -- a word of the list that is no later separates
  pub record IsEarlier (words : List (List ℕ)) (w : List ℕ) : Type 0 where
    pub word : List ℕ
    pub has : Has words word
    pub before : NoLater word w
    pub differs : Differ kind a b word

  module _ (values_a : IsWeighted kind a) (values_b : IsWeighted kind b) (cancel : cancels kind ≡ true) (words : List (List ℕ)) (closed : IsClosed kind a b words) (begins : Has words []) where
    earlier : (w : List ℕ) → Differ kind a b w → IsEarlier words w
    earlier w differs = by_cover (covered kind a b values_a values_b cancel words closed begins w (somewhere kind a b values_a values_b cancel words closed w differs))
      where
        by_cover : IsCovered kind a b words w → IsEarlier words w
        by_cover (inl o) = record {
          word = o.word;
          has = o.has;
          before = o.before;
          differs = λ same. differs (alike_weights kind a b values_a values_b cancel words closed o.word w o.pair o.ratio same);
        }
        by_cover (inr t) = by_one (same_or_not (weight_of kind a t.one) (weight_of kind b t.one)) (same_or_not (weight_of kind a t.other) (weight_of kind b t.other))
          where
            by_one : (weight_of kind a t.one ≡ weight_of kind b t.one) ⊎ Differ kind a b t.one → (weight_of kind a t.other ≡ weight_of kind b t.other) ⊎ Differ kind a b t.other → IsEarlier words w
            by_one (inr d) other = record { word = t.one; has = t.has_one; before = t.before_one; differs = d }
            by_one (inl same) (inr d) = record { word = t.other; has = t.has_other; before = t.before_other; differs = d }
            by_one (inl one) (inl two) = by_ratio (equal_weights kind a b values_a values_b cancel words closed t.one t.other w t.pair_one t.pair_other one two)
              where
                by_ratio : Ratios kind a b t.one t.other ⊎ (weight_of kind a w ≡ weight_of kind b w) → IsEarlier words w
                by_ratio (inl r) = absurd (t.apart r)
                by_ratio (inr same) = absurd (differs same)

    module _ (single_a : IsSingle a) (single_b : IsSingle b) where
      -- no word of the list separates: then no word does
      pub same_words : ((y : List ℕ) → Has words y → weight_of kind a y ≡ weight_of kind b y) → SameWords kind a b
      same_words all x w = (
        λ h. (word_weight kind b single_b values_b x w).1 ((word_weight kind a single_a values_a x w).0 h ∙ equal),
        λ h. (word_weight kind a single_a values_a x w).1 ((word_weight kind b single_b values_b x w).0 h ∙ sym equal),
      )
        where
          equal : weight_of kind a x ≡ weight_of kind b x
          equal = by_same (same_or_not (weight_of kind a x) (weight_of kind b x))
            where
              by_same : (weight_of kind a x ≡ weight_of kind b x) ⊎ Differ kind a b x → weight_of kind a x ≡ weight_of kind b x
              by_same (inl same) = same
              by_same (inr differs) = let e = earlier x differs in absurd (e.differs (all e.word e.has))

      -- the first that does is the separating word
      pub separating : Ascend words → (x : List ℕ) → IsFirstApart kind a b words x → IsSeparating kind a b x (weight_of kind a x) (weight_of kind b x)
      separating ascend x first = record {
        separates = record {
          first = (word_weight kind a single_a values_a x (weight_of kind a x)).1 refl;
          second = (word_weight kind b single_b values_b x (weight_of kind b x)).1 refl;
          differ = first.differs;
        };
        least = λ y t u s. least y (λ same. s.differ ((word_weight kind a single_a values_a y t).0 s.first ∙ (same ∙ sym ((word_weight kind b single_b values_b y u).0 s.second))));
      }
        where
          -- words of the list are before it or no earlier
          place : (words front behind : List (List ℕ)) → words ≡ front ++ x ∷ behind → Ascend words → (y : List ℕ) → Has words y → Has front y ⊎ NoLater x y
          place [] [] behind parts ascend y has = absurd has
          place (z ∷ words) [] behind parts ascend y has = by_has has
            where
              heads : z ≡ x
              heads = cc

              by_has : (z ≡ y) ⊎ Has words y → Has [] y ⊎ NoLater x y
              by_has (inl same) = inr (inl (sym heads ∙ same))
              by_has (inr more) = inr (inr (subst (λ w. IsSooner w y) heads (ascend.0 y more)))
          place [] (f ∷ front) behind parts ascend y has = absurd has
          place (z ∷ words) (f ∷ front) behind parts ascend y has = by_has (λ tails more. place words front behind tails ascend.1 y more) has
            where
              heads : z ≡ f
              heads = cc

              tails : words ≡ front ++ x ∷ behind
              tails = cc

              by_rest : Has front y ⊎ NoLater x y → Has (f ∷ front) y ⊎ NoLater x y
              by_rest (inl h) = inl (inr h)
              by_rest (inr h) = inr h

              by_has : (words ≡ front ++ x ∷ behind → Has words y → Has front y ⊎ NoLater x y) → (z ≡ y) ⊎ Has words y → Has (f ∷ front) y ⊎ NoLater x y
              by_has go (inl same) = inl (inl (sym heads ∙ same))
              by_has go (inr more) = by_rest (go tails more)

          least : (y : List ℕ) → Differ kind a b y → NoLater x y
          least y differs = by_place (place words first.before first.behind first.parts ascend e.word e.has)
            where
              e : IsEarlier words y
              e = earlier y differs

              by_place : Has first.before e.word ⊎ NoLater x e.word → NoLater x y
              by_place (inl h) = absurd (e.differs (first.same e.word h))
              by_place (inr h) = no_later_trans x e.word y h e.before
