-- There is one list of first strings; and their words differ, have labels of the machine and weights that are not Zero.
use Rattle.std.proofs.Common.{◌≡◌, ◌⊎◌, inl, inr, ℕ, zero, suc, ◌≤◌, List, [], ◌∷◌, length, map, sym, refl, ap₂, ◌∙◌, subst, Less, Equal, arith}
use Rattle.std.specs.List.{All}
use Rattle.std.proofs.lemmas.Cmp.{tied_itself}
use Rattle.std.proofs.lemmas.List.Elements.{All-cons, All-nil}
use Rattle.fst_semiring.specs.Cost.{Cost, infinite}
use Rattle.fst_semiring.specs.declared.arc_type.ArcType.{ArcType}
use Rattle.fst_semiring.proofs.Laws.{times_only_zero}
use Rattle.fst_machine.specs.BreadthFirst.{Apart, Has}
use Rattle.fst_machine.specs.Graph.{Graph, graph_of}
use Rattle.fst_machine.specs.Letters.{before, input, product}
use Rattle.fst_machine.specs.Machine.{IsMachine, Machine, greatest_label}
use Rattle.fst_machine.specs.Paths.{IsPath, Transition, letters}
use Rattle.fst_machine.specs.Relation.{IsWeight, Rel}
use Rattle.fst_machine.proofs.Elements.{Apart_within}
use Rattle.fst_machine.proofs.Weights.{one_weight}
use Rattle.fst_trim.proofs.Weighed.{machine_arc}
use Rattle.fst_determinize.proofs.Runs.{Has_All}
use Rattle.fst_nbest.specs.Words.{WeightedWord, WordsAscend, word_cmp}
use Rattle.fst_nbest.proofs.Ranks.{word_total}
use Rattle.fst_nbest.proofs.Searches.{Has-map, map_Has}
use Rattle.fst_select.specs.Strings.{AreFirstStrings, weighted}
use Rattle.fst_select.specs.declared.strings.StringWeight.{StringWeight}
use Rattle.fst_select.proofs.GoodPaths.{product_solid}

-- ---- the order

-- a string does not come before itself
not_before_itself : (a : WeightedWord) → word_cmp a a ≡ Less → ⊥
not_before_itself a e = let tied : word_cmp a a ≡ Equal = tied_itself word_total a in let wrong : Less ≡ Equal = sym e ∙ tied in cc

-- nor two before each other
not_before_each_other : (a b : WeightedWord) → word_cmp a b ≡ Less → word_cmp b a ≡ Less → ⊥
not_before_each_other a b e f = not_before_itself a (word_total.trans a b a e f)

-- no string stands twice in an ascending list
ascends_apart : (strings : List WeightedWord) → WordsAscend strings → Apart strings
ascends_apart [] h = tt
ascends_apart (a ∷ strings) h = ((λ there. not_before_itself a (h.0 a there)), ascends_apart strings h.1)

-- lists in which the same stands are one list
abbrev pub AlikeThenSame : List WeightedWord → List WeightedWord → Type 0
AlikeThenSame xs ys = ((x : WeightedWord) → Has xs x → Has ys x) → ((x : WeightedWord) → Has ys x → Has xs x) → xs ≡ ys

-- ascending lists with the same strings are one list
same_ascending : (xs ys : List WeightedWord) → WordsAscend xs → WordsAscend ys → AlikeThenSame xs ys
same_ascending [] [] one two there back = refl
same_ascending [] (b ∷ ys) one two there back = absurd (back b (inl refl))
same_ascending (a ∷ xs) [] one two there back = absurd (there a (inl refl))
same_ascending (a ∷ xs) (b ∷ ys) one two there back = by_heads (there a (inl refl)) (back b (inl refl)) (λ onward backward. same_ascending xs ys one.1 two.1 onward backward)
  where
    rest : a ≡ b → AlikeThenSame xs ys → (a ∷ xs) ≡ (b ∷ ys)
    rest e tails = ap₂ (◌∷◌) e (tails onward backward)
      where
        onward : (x : WeightedWord) → Has xs x → Has ys x
        onward x h = by_place (there x (inr h))
          where
            by_place : Has (b ∷ ys) x → Has ys x
            by_place (inl f) = absurd (not_before_itself a (subst (λ (z : WeightedWord). word_cmp a z ≡ Less) (sym (e ∙ f)) (one.0 x h)))
            by_place (inr k) = k

        backward : (x : WeightedWord) → Has ys x → Has xs x
        backward x h = by_place (back x (inr h))
          where
            by_place : Has (a ∷ xs) x → Has xs x
            by_place (inl f) = absurd (not_before_itself b (subst (λ (z : WeightedWord). word_cmp b z ≡ Less) (sym (sym e ∙ f)) (two.0 x h)))
            by_place (inr k) = k

    by_heads : Has (b ∷ ys) a → Has (a ∷ xs) b → AlikeThenSame xs ys → (a ∷ xs) ≡ (b ∷ ys)
    by_heads (inl e) other tails = rest (sym e) tails
    by_heads (inr h) (inl e) tails = rest e tails
    by_heads (inr h) (inr k) tails = absurd (not_before_each_other a b (one.0 b k) (two.0 a h))

-- ---- one list

module _ {N : Type 0} (kind : ArcType) (g : Graph N) where
  -- of two lists of the first n strings, what stands in the one stands in the other
  first_within : (n : ℕ) (xs ys : List WeightedWord) → AreFirstStrings kind g n xs → AreFirstStrings kind g n ys → (a : WeightedWord) → Has xs a → Has ys a
  first_within n xs ys one two a here = by_case (two.others a (one.weighs a here))
    where
      by_case : Has ys a ⊎ ((length ys ≡ n) × ((b : WeightedWord) → Has ys b → word_cmp b a ≡ Less)) → Has ys a
      by_case (inl h) = h
      by_case (inr full) = absurd (omega (arith, too_many, full.0, one.few))
        where
          missing : Has ys a → ⊥
          missing h = not_before_itself a (full.1 a h)

          within : (b : WeightedWord) → Has (a ∷ ys) b → Has xs b
          within b (inl e) = subst (λ (z : WeightedWord). Has xs z) e here
          within b (inr h) = by_other (one.others b (two.weighs b h))
            where
              by_other : Has xs b ⊎ ((length xs ≡ n) × ((c : WeightedWord) → Has xs c → word_cmp c b ≡ Less)) → Has xs b
              by_other (inl k) = k
              by_other (inr after) = absurd (not_before_each_other a b (after.1 a here) (full.1 b h))

          too_many : length (a ∷ ys) ≤ length xs
          too_many = Apart_within (a ∷ ys) xs (missing, ascends_apart ys two.ascends) within

  -- the first n strings are one list
  pub one_first_strings : (n : ℕ) (xs ys : List WeightedWord) → AreFirstStrings kind g n xs → AreFirstStrings kind g n ys → xs ≡ ys
  one_first_strings n xs ys one two = same_ascending xs ys one.ascends two.ascends (first_within n xs ys one two) (first_within n ys xs two one)

  -- ---- their words

  -- strings with one word are one
  same_string : (a b : WeightedWord) → IsWeight kind g a.word a.word a.weight → IsWeight kind g b.word b.word b.weight → a.word ≡ b.word → a ≡ b
  same_string a b one two e =
      let weights : a.weight ≡ b.weight = one_weight kind g b.word b.word a.weight b.weight (subst (λ (x : List ℕ). IsWeight kind g x x a.weight) e one) two in
      λ i. record { word = e i; weight = weights i }

  module _ {W D : Type 0} (value : D → Cost) where
    apart_words : (strings : List (StringWeight W D)) → WordsAscend (map (weighted value) strings)
        → ((a : WeightedWord) → Has (map (weighted value) strings) a → IsWeight kind g a.word a.word a.weight) → Apart (map (λ s. s.word) strings)
    apart_words [] ascends weighs = tt
    apart_words (s ∷ strings) ascends weighs = (missing, apart_words strings ascends.1 (λ a h. weighs a (inr h)))
      where
        missing : Has (map (λ (t : StringWeight W D). t.word) strings) s.word → ⊥
        missing has =
            let t = Has-map (λ (t : StringWeight W D). t.word) strings s.word has in
            let there = map_Has (weighted value) strings t.0 t.1 in
            let same : weighted value s ≡ weighted value t.0 =
            same_string (weighted value s) (weighted value t.0) (weighs (weighted value s) (inl refl)) (weighs (weighted value t.0) (inr there)) (sym t.2) in
            not_before_itself (weighted value s) (subst (λ (z : WeightedWord). word_cmp (weighted value s) z ≡ Less) (sym same) (ascends.0 (weighted value t.0) there))

    -- no word is listed twice
    pub words_apart : (n : ℕ) (strings : List (StringWeight W D)) → AreFirstStrings kind g n (map (weighted value) strings) → Apart (map (λ s. s.word) strings)
    words_apart n strings first = apart_words strings first.ascends first.weighs

-- ---- their labels and weights

module _ (kind : ArcType) (m : Machine Cost) (good : IsMachine (λ (v : Cost). v) m) where
  -- a label of a string stands on an arc
  string_label : (path : List (Transition ℕ)) (p q : ℕ) → IsPath (graph_of m) p path q → (l : ℕ) → Has (input (letters path)) l → (1 ≤ l) × (l ≤ greatest_label)
  string_label [] p q leads l has = absurd has
  string_label (t ∷ path) p q leads l has = by t.arc.ilabel (machine_arc m good p t.place t.arc leads.0.1).ilabel (string_label path t.arc.next q leads.1 l) has
    where
      by : (n : ℕ) → n ≤ greatest_label → (Has (input (letters path)) l → (1 ≤ l) × (l ≤ greatest_label)) → Has (before n (input (letters path))) l → (1 ≤ l) × (l ≤ greatest_label)
      by zero small rest h = rest h
      by (suc n) small rest (inl e) = (omega (arith, e), omega (arith, e, small))
      by (suc n) small rest (inr h) = rest h

  -- a pair that is related has no weight Zero
  related_solid : (x y : List ℕ) (w : Cost) → Rel kind (graph_of m) x y w → w ≡ infinite → ⊥
  related_solid x y w r e = by (times_only_zero kind (product kind (letters r.says.path)) ((graph_of m).final r.says.last) (sym r.says.weight ∙ e))
    where
      by : (product kind (letters r.says.path) ≡ infinite) ⊎ ((graph_of m).final r.says.last ≡ infinite) → ⊥
      by (inl zero_product) = product_solid kind (graph_of m) (λ p k a at. (machine_arc m good p k a at).weight) r.says.path r.first r.says.last r.says.leads zero_product
      by (inr no_final) = r.says.final no_final

  module _ {W D : Type 0} (value : D → Cost) where
    labels_known : (strings : List (StringWeight W D)) → ((a : WeightedWord) → Has (map (weighted value) strings) a → IsWeight kind (graph_of m) a.word a.word a.weight)
        → All (λ s. All (λ l. (1 ≤ l) × (l ≤ greatest_label)) s.word) strings
    labels_known [] weighs = All-nil (λ (s : StringWeight W D). All (λ l. (1 ≤ l) × (l ≤ greatest_label)) s.word)
    labels_known (s ∷ strings) weighs =
        let r = (weighs (weighted value s) (inl refl)).reached in
        let own : All (λ l. (1 ≤ l) × (l ≤ greatest_label)) s.word = Has_All (λ l. (1 ≤ l) × (l ≤ greatest_label)) s.word
        (λ l has. string_label r.says.path r.first r.says.last r.says.leads l (subst (λ (word : List ℕ). Has word l) r.says.reads has)) in
        All-cons (λ (t : StringWeight W D). All (λ l. (1 ≤ l) × (l ≤ greatest_label)) t.word) s strings own (labels_known strings (λ a h. weighs a (inr h)))

    -- the labels of listed words are those of arcs, and not 0
    pub words_labels : (n : ℕ) (strings : List (StringWeight W D)) → AreFirstStrings kind (graph_of m) n (map (weighted value) strings)
        → All (λ s. All (λ l. (1 ≤ l) × (l ≤ greatest_label)) s.word) strings
    words_labels n strings first = labels_known strings first.weighs

  -- no listed weight is Zero
  pub listed_solid : (n : ℕ) (strings : List WeightedWord) → AreFirstStrings kind (graph_of m) n strings → (a : WeightedWord) → Has strings a → a.weight ≡ infinite → ⊥
  listed_solid n strings first a has = related_solid a.word a.word a.weight (first.weighs a has).reached
