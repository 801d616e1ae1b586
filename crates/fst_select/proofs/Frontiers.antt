-- A frontier stays one when an open prefix is taken apart, and when a closed one that comes first is listed.
use Rattle.std.proofs.Common.{◌≡◌, ◌⊎◌, inl, inr, sym, refl, ap, ap₂, ◌∙◌, subst, ℕ, ◌<◌, ◌≤◌, List, [], ◌∷◌, ◌++◌, length, Bool, true, false, append_assoc, append-nil, arith}
use Rattle.std.proofs.Common.{Less, Equal, Greater}
use Rattle.std.specs.Ordering.{nat_cmp, ordering_then}
use Rattle.std.specs.Cmp.Lexicographic.{slice_cmp}
use Rattle.std.proofs.lemmas.List.{length-append}
use Rattle.fst_semiring.specs.Cost.{Cost, cost_cmp}
use Rattle.fst_semiring.proofs.Order.{cost_cmp_equal, cost_cmp_same}
use Rattle.fst_machine.specs.BreadthFirst.{Has}
use Rattle.fst_machine.proofs.Elements.{Has-append_cases, Has-append_left, Has-append_right}
use Rattle.fst_nbest.specs.Words.{NoLess, WeightedWord, word_cmp}
use Rattle.fst_nbest.proofs.Ranks.{by_length, by_places, by_weight, cost_less_trans, nat_cases, nat_less, nat_same, then_cases, then_first, then_second}
use Rattle.fst_nbest.proofs.Covering.{ascends_push}
use Rattle.fst_select.specs.Frontier.{AllDisjoint, ComesFirst, Covers, CoversBy, Disjoint, Front, IsFrontier, IsKey, IsParted, WeighsOnce, front_cmp}

-- how two numbers compare
abbrev ComparedBy : ℕ → ℕ → Type 0
ComparedBy m n = ((m < n) × (nat_cmp m n ≡ Less)) ⊎ (((m ≡ n) × (nat_cmp m n ≡ Equal)) ⊎ ((n < m) × (nat_cmp m n ≡ Greater)))

-- a list comes before another, whatever stands behind both
abbrev pub StaysBefore : List ℕ → List ℕ → Type 0
StaysBefore p q = (r s : List ℕ) → slice_cmp nat_cmp (p ++ r) (q ++ s) ≡ Less

-- a list that comes before another differs from it at some place, or the other goes on
pub less_cases : (p q : List ℕ) → slice_cmp nat_cmp p q ≡ Less → StaysBefore p q ⊎ ((r : List ℕ) × (q ≡ p ++ r))
less_cases [] q h = inr (q, refl)
less_cases (k ∷ p) [] h = absurd (cc)
less_cases (k ∷ p) (l ∷ q) h = by_head (less_cases p q) (then_cases (nat_cmp k l) (slice_cmp nat_cmp p q) h)
  where
    same : ComparedBy k l → nat_cmp k l ≡ Equal → k ≡ l
    same (inl g) f = absurd (let wrong : Less ≡ Equal = sym g.1 ∙ f in cc)
    same (inr (inl g)) f = g.0
    same (inr (inr g)) f = absurd (let wrong : Greater ≡ Equal = sym g.1 ∙ f in cc)

    by_tail : nat_cmp k l ≡ Equal → StaysBefore p q ⊎ ((r : List ℕ) × (q ≡ p ++ r)) → StaysBefore (k ∷ p) (l ∷ q) ⊎ ((r : List ℕ) × (l ∷ q ≡ k ∷ p ++ r))
    by_tail e (inl d) = inl (λ r s. then_second (nat_cmp k l) _ e (d r s))
    by_tail e (inr (r, f)) = inr (r, ap₂ (◌∷◌) (sym (same (nat_cases k l) e)) f)

    by_head : (slice_cmp nat_cmp p q ≡ Less → StaysBefore p q ⊎ ((r : List ℕ) × (q ≡ p ++ r))) → (nat_cmp k l ≡ Less) ⊎ ((nat_cmp k l ≡ Equal) × (slice_cmp nat_cmp p q ≡ Less))
        → StaysBefore (k ∷ p) (l ∷ q) ⊎ ((r : List ℕ) × (l ∷ q ≡ k ∷ p ++ r))
    by_head on (inl e) = inl (λ r s. then_first (nat_cmp k l) _ e)
    by_head on (inr (e, more)) = by_tail e (on more)

-- the string of a closed front, with its weight
abbrev pub closed_string : Front → WeightedWord
closed_string e = record { word = e.prefix; weight = e.total }

-- the prefix is one of a front's strings, and each of them begins with it
pub covers_prefix : (e : Front) → Covers e e.prefix
covers_prefix e = by_form e.closed
  where
    by_form : (b : Bool) → CoversBy b e.prefix e.prefix
    by_form true = refl
    by_form false = ([], sym (append-nil e.prefix))

pub prefix_covered : (e : Front) (x : List ℕ) → Covers e x → (rest : List ℕ) × (x ≡ e.prefix ++ rest)
prefix_covered e x h = by_form e.closed h
  where
    by_form : (b : Bool) → CoversBy b e.prefix x → (rest : List ℕ) × (x ≡ e.prefix ++ rest)
    by_form true g = ([], g ∙ sym (append-nil e.prefix))
    by_form false g = g

-- an open front has all strings that begin with its prefix, a closed one the prefix alone
pub open_covers : (e : Front) → e.closed ≡ false → (rest : List ℕ) → Covers e (e.prefix ++ rest)
open_covers e is_open rest = subst (λ (b : Bool). CoversBy b e.prefix (e.prefix ++ rest)) (sym is_open) (rest, refl)

pub closed_covers : (e : Front) (x : List ℕ) → e.closed ≡ true → Covers e x → x ≡ e.prefix
closed_covers e x closed h = subst (λ (b : Bool). CoversBy b e.prefix x) closed h

-- by length, and by the prefixes where lengths tie
abbrev pub IsShorter : Front → Front → Type 0
IsShorter e f = (e.long < f.long) ⊎ ((e.long ≡ f.long) × (slice_cmp nat_cmp e.prefix f.prefix ≡ Less))

-- what it says that a front comes before another
pub front_cases : (e f : Front) → front_cmp e f ≡ Less → (cost_cmp e.total f.total ≡ Less) ⊎ ((e.total ≡ f.total) × IsShorter e f)
front_cases e f h = by_total (then_cases (cost_cmp e.total f.total) _ h)
  where
    by_number : ComparedBy e.long f.long → (nat_cmp e.long f.long ≡ Less) ⊎ ((nat_cmp e.long f.long ≡ Equal) × (slice_cmp nat_cmp e.prefix f.prefix ≡ Less)) → IsShorter e f
    by_number (inl n) q = inl n.0
    by_number (inr (inl n)) (inl q) = absurd (let wrong : Equal ≡ Less = sym n.1 ∙ q in cc)
    by_number (inr (inl n)) (inr q) = inr (n.0, q.1)
    by_number (inr (inr n)) (inl q) = absurd (let wrong : Greater ≡ Less = sym n.1 ∙ q in cc)
    by_number (inr (inr n)) (inr q) = absurd (let wrong : Greater ≡ Equal = sym n.1 ∙ q.0 in cc)

    by_total : (cost_cmp e.total f.total ≡ Less) ⊎ ((cost_cmp e.total f.total ≡ Equal) × (ordering_then (nat_cmp e.long f.long) (slice_cmp nat_cmp e.prefix f.prefix) ≡ Less))
        → (cost_cmp e.total f.total ≡ Less) ⊎ ((e.total ≡ f.total) × IsShorter e f)
    by_total (inl g) = inl g
    by_total (inr g) = inr (cost_cmp_equal e.total f.total g.0, by_number (nat_cases e.long f.long) (then_cases (nat_cmp e.long f.long) _ g.1))

-- a part with the weight and the length of the whole, and a longer prefix, comes before what the whole comes before
pub part_first : (e c f : Front) (more : List ℕ) → e.closed ≡ false → c.total ≡ e.total → c.long ≡ e.long → c.prefix ≡ e.prefix ++ more → Disjoint e f → front_cmp e f ≡ Less → front_cmp c f ≡ Less
part_first e c f more is_open total long prefix apart h = by_case (front_cases e f h)
  where
    tie : c.total ≡ f.total → cost_cmp c.total f.total ≡ Equal
    tie g = ap (λ (z : Cost). cost_cmp z f.total) g ∙ cost_cmp_same f.total

    tied : c.long ≡ f.long → nat_cmp c.long f.long ≡ Equal
    tied g = ap (λ (n : ℕ). nat_cmp n f.long) g ∙ nat_same f.long

    lists : StaysBefore e.prefix f.prefix ⊎ ((r : List ℕ) × (f.prefix ≡ e.prefix ++ r)) → slice_cmp nat_cmp c.prefix f.prefix ≡ Less
    lists (inl d) = ap₂ (slice_cmp nat_cmp) prefix (sym (append-nil f.prefix)) ∙ d more []
    lists (inr (r, g)) = absurd (apart f.prefix (subst (Covers e) (sym g) (open_covers e is_open r)) (covers_prefix f))

    by_case : (cost_cmp e.total f.total ≡ Less) ⊎ ((e.total ≡ f.total) × IsShorter e f) → front_cmp c f ≡ Less
    by_case (inl g) = then_first (cost_cmp c.total f.total) _ (ap (λ (z : Cost). cost_cmp z f.total) total ∙ g)
    by_case (inr (g, (inl low))) = then_second (cost_cmp c.total f.total) _ (tie (total ∙ g)) (then_first (nat_cmp c.long f.long) _ (nat_less c.long f.long (omega (arith, long, low))))
    by_case (inr (g, (inr (same, less)))) =
        then_second (cost_cmp c.total f.total) _ (tie (total ∙ g)) (then_second (nat_cmp c.long f.long) _ (tied (long ∙ same)) (lists (less_cases e.prefix f.prefix less)))

-- fronts that are disjoint, of two lists
apart_append : (xs ys : List Front) → AllDisjoint xs → AllDisjoint ys → ((x y : Front) → Has xs x → Has ys y → Disjoint x y) → AllDisjoint (xs ++ ys)
apart_append [] ys one two across = two
apart_append (x ∷ xs) ys one two across =
    ((λ f has. by_part f (Has-append_cases xs ys f has)), apart_append xs ys one.1 two (λ z y has there. across z y (inr has) there))
  where
    by_part : (f : Front) → Has xs f ⊎ Has ys f → Disjoint x f
    by_part f (inl has) = one.0 f has
    by_part f (inr has) = across x f (inl refl) has

module _ (Weighs : List ℕ → Cost → Type 0) where
  -- a closed front comes before each string of a front that comes after it
  closed_before : (e f : Front) (b : WeightedWord) → e.closed ≡ true → IsKey Weighs e → IsKey Weighs f → Disjoint e f → front_cmp e f ≡ Less → Covers f b.word → Weighs b.word b.weight
      → word_cmp (closed_string e) b ≡ Less
  closed_before e f b closed ke kf apart h inside weighs = by_case (front_cases e f h) (kf.least b.word b.weight inside weighs)
    where
      long_is : length e.prefix ≡ e.long
      long_is = sym (ap length (closed_covers e ke.word closed ke.inside)) ∙ ke.long

      rest : (r : List ℕ) × (b.word ≡ f.prefix ++ r)
      rest = prefix_covered f b.word inside

      up_to : (m n : ℕ) → m ≤ n → (m < n) ⊎ (m ≡ n)
      up_to m n low = decide (nat_cases m n)
        where
          decide : ComparedBy m n → (m < n) ⊎ (m ≡ n)
          decide (inl g) = inl g.0
          decide (inr (inl g)) = inr g.0
          decide (inr (inr g)) = absurd (omega (arith, g.0, low))

      nothing : (p s : List ℕ) → length p ≡ length (p ++ s) → s ≡ []
      nothing p [] g = refl
      nothing p (k ∷ s) g = absurd (let n = length-append p (k ∷ s) in omega (arith, g, n))

      tied : e.total ≡ b.weight → e.long ≡ length b.word → slice_cmp nat_cmp e.prefix f.prefix ≡ Less → word_cmp (closed_string e) b ≡ Less
      tied w l less = by_places (closed_string e) b w (long_is ∙ l) (lists (less_cases e.prefix f.prefix less))
        where
          lists : StaysBefore e.prefix f.prefix ⊎ ((r : List ℕ) × (f.prefix ≡ e.prefix ++ r)) → slice_cmp nat_cmp e.prefix b.word ≡ Less
          lists (inl d) = ap₂ (slice_cmp nat_cmp) (sym (append-nil e.prefix)) rest.1 ∙ d [] rest.0
          lists (inr (r, g)) =
              let whole : b.word ≡ e.prefix ++ (r ++ rest.0) = rest.1 ∙ (ap (λ (z : List ℕ). z ++ rest.0) g ∙ append_assoc e.prefix r rest.0) in
              let none = nothing e.prefix (r ++ rest.0) (long_is ∙ (l ∙ ap length whole)) in
              let same : b.word ≡ e.prefix = whole ∙ (ap (λ (z : List ℕ). e.prefix ++ z) none ∙ append-nil e.prefix) in
              absurd (apart b.word (subst (λ (z : Bool). CoversBy z e.prefix b.word) (sym closed) same) inside)

      by_long : (m : ℕ) → e.total ≡ b.weight → e.long ≤ m → m ≤ length b.word → (e.long ≡ m → slice_cmp nat_cmp e.prefix f.prefix ≡ Less) → word_cmp (closed_string e) b ≡ Less
      by_long m w low up lex = decide (up_to e.long (length b.word) (omega (arith, low, up)))
        where
          decide : (e.long < length b.word) ⊎ (e.long ≡ length b.word) → word_cmp (closed_string e) b ≡ Less
          decide (inl less) = by_length (closed_string e) b w (omega (arith, long_is, less))
          decide (inr same) = tied w same (lex (omega (arith, same, low, up)))

      by_case : (cost_cmp e.total f.total ≡ Less) ⊎ ((e.total ≡ f.total) × IsShorter e f) → NoLess f.total f.long b.weight (length b.word) → word_cmp (closed_string e) b ≡ Less
      by_case (inl g) (inl n) = by_weight (closed_string e) b (cost_less_trans e.total f.total b.weight g n)
      by_case (inl g) (inr n) = by_weight (closed_string e) b (subst (λ (z : Cost). cost_cmp e.total z ≡ Less) n.0 g)
      by_case (inr g) (inl n) = by_weight (closed_string e) b (subst (λ (z : Cost). cost_cmp z b.weight ≡ Less) (sym g.0) n)
      by_case (inr (g, (inl low))) (inr n) = by_long f.long (g ∙ n.0) (omega (arith, low)) n.1 (λ same. absurd (omega (arith, low, same)))
      by_case (inr (g, (inr (same, less)))) (inr n) = by_long f.long (g ∙ n.0) (omega (arith, same)) n.1 (λ z. less)

  -- the string of a closed front that comes first is listed
  pub lists_closed : WeighsOnce Weighs → (listed : List WeightedWord) (e : Front) (es : List Front) → e.closed ≡ true → IsFrontier Weighs listed (e ∷ es) → ComesFirst e es
      → IsFrontier Weighs (listed ++ closed_string e ∷ []) es
  lists_closed once listed e es closed h leads = record {
    ascends = ascends_push listed (closed_string e) h.ascends (λ b has. h.after e (closed_string e) b (inl refl) (covers_prefix e) weighs has);
    says = λ b has. said b (Has-append_cases listed (closed_string e ∷ []) b has);
    keys = λ f has. h.keys f (inr has);
    apart = h.apart.1;
    after = λ f b c has inside says listed_c. before f b c has inside says (Has-append_cases listed (closed_string e ∷ []) c listed_c);
    all = λ b says. found b says (h.all b says);
  }
    where
      key : IsKey Weighs e
      key = h.keys e (inl refl)

      weighs : Weighs e.prefix e.total
      weighs = subst (λ (z : List ℕ). Weighs z e.total) (closed_covers e key.word closed key.inside) key.weighs

      said : (b : WeightedWord) → Has listed b ⊎ Has (closed_string e ∷ []) b → Weighs b.word b.weight
      said b (inl has) = h.says b has
      said b (inr (inl same)) = subst (λ (z : WeightedWord). Weighs z.word z.weight) same weighs
      said b (inr (inr none)) = absurd none

      before : (f : Front) (b c : WeightedWord) → Has es f → Covers f b.word → Weighs b.word b.weight → Has listed c ⊎ Has (closed_string e ∷ []) c → word_cmp c b ≡ Less
      before f b c has inside says (inl there) = h.after f b c (inr has) inside says there
      before f b c has inside says (inr (inl same)) =
          subst (λ (z : WeightedWord). word_cmp z b ≡ Less) same (closed_before e f b closed key (h.keys f (inr has)) (h.apart.0 f has) (leads f has) inside says)
      before f b c has inside says (inr (inr none)) = absurd none

      here : (b : WeightedWord) → Weighs b.word b.weight → Covers e b.word → Has (listed ++ closed_string e ∷ []) b
      here b says inside =
          let word : b.word ≡ e.prefix = closed_covers e b.word closed inside in
          let weight : b.weight ≡ e.total = once e.prefix b.weight e.total (subst (λ (z : List ℕ). Weighs z b.weight) word says) weighs in
          let same : closed_string e ≡ b = λ i. record { word = sym word i; weight = sym weight i } in
          Has-append_right listed (closed_string e ∷ []) b (inl same)

      found : (b : WeightedWord) → Weighs b.word b.weight → Has listed b ⊎ ((f : Front) × Has (e ∷ es) f × Covers f b.word)
          → Has (listed ++ closed_string e ∷ []) b ⊎ ((f : Front) × Has es f × Covers f b.word)
      found b says (inl has) = inl (Has-append_left listed (closed_string e ∷ []) b has)
      found b says (inr (f, (inl same), inside)) = inl (here b says (subst (λ (z : Front). Covers z b.word) (sym same) inside))
      found b says (inr (f, (inr has), inside)) = inr (f, has, inside)

  -- the parts of an open front come in its place, and the first of them comes first where it did
  pub parts_open : (listed : List WeightedWord) (e : Front) (es : List Front) (first : Front) (others : List Front)
      → IsFrontier Weighs listed (e ∷ es) → ComesFirst e es → IsParted Weighs e first others
      → IsFrontier Weighs listed (first ∷ (others ++ es)) × ComesFirst first (others ++ es)
  parts_open listed e es first others h leads p = (
    record {
      ascends = h.ascends;
      says = h.says;
      keys = λ f has. keys f (Has-append_cases (first ∷ others) es f has);
      apart = apart_append (first ∷ others) es p.apart h.apart.1 (λ x y has there z in_x in_y. h.apart.0 y there z (p.inside x z has in_x) in_y);
      after = λ f b a has inside says listed_a. after f b a (Has-append_cases (first ∷ others) es f has) inside says listed_a;
      all = λ b says. found b says (h.all b says);
    },
    λ f has. lead f (Has-append_cases others es f has),
  )
    where
      keys : (f : Front) → Has (first ∷ others) f ⊎ Has es f → IsKey Weighs f
      keys f (inl has) = p.keys f has
      keys f (inr has) = h.keys f (inr has)

      after : (f : Front) (b a : WeightedWord) → Has (first ∷ others) f ⊎ Has es f → Covers f b.word → Weighs b.word b.weight → Has listed a → word_cmp a b ≡ Less
      after f b a (inl has) inside says there = h.after e b a (inl refl) (p.inside f b.word has inside) says there
      after f b a (inr has) inside says there = h.after f b a (inr has) inside says there

      in_parts : (b : WeightedWord) → (f : Front) × Has (first ∷ others) f × Covers f b.word → (f : Front) × Has ((first ∷ others) ++ es) f × Covers f b.word
      in_parts b (f, has, inside) = (f, Has-append_left (first ∷ others) es f has, inside)

      found : (b : WeightedWord) → Weighs b.word b.weight → Has listed b ⊎ ((f : Front) × Has (e ∷ es) f × Covers f b.word)
          → Has listed b ⊎ ((f : Front) × Has ((first ∷ others) ++ es) f × Covers f b.word)
      found b says (inl has) = inl has
      found b says (inr (f, (inl same), inside)) = inr (in_parts b (p.all b says (subst (λ (z : Front). Covers z b.word) (sym same) inside)))
      found b says (inr (f, (inr has), inside)) = inr (f, Has-append_right (first ∷ others) es f has, inside)

      lead : (f : Front) → Has others f ⊎ Has es f → front_cmp first f ≡ Less
      lead f (inl has) = p.leads f has
      lead f (inr has) = part_first e first f p.more p.is_open p.total p.long p.prefix (h.apart.0 f has) (leads f has)
