-- Subsets as lists of plain numbers, in an order. (The laws of an impl cite specs alone, so the lemmas stand here.)
use Rattle.std.proofs.Common.{◌≡◌, Bool, true, ◌&&◌, eqb, List, [], ◌∷◌, map, Ordering, refl, sym, ap, ap₂, subst, ◌∙◌}
use Rattle.std.specs.Bool.{Decides}
use Rattle.std.specs.Cmp.{IsEquivalence, IsTotalOrder, both_tied, decided, int_cmp_total, nat_cmp_total, on_total, signed_Decides, then_total, unsigned_ties}
use Rattle.std.specs.Cmp.Lexicographic.{pointwise, pointwise_decides}
use Rattle.std.specs.Ordering.{eq_by_cmp, int_cmp, int_eq, nat_cmp, ordering_then}
use Rattle.std.proofs.lemmas.Bool.{and_from, and_parts, eq-eqb, eqb-true}
use Rattle.fst_semiring.specs.Cost.{Cost, class_of, cost_cmp, first_of, second_of}
use Rattle.fst_semiring.specs.Keys.{key_cmp, key_of}
use Rattle.fst_semiring.specs.declared.key.Key.{Key}
use Rattle.fst_semiring.proofs.Order.{cost_cmp_equal, cost_cmp_same}
use Rattle.fst_determinize.specs.Subsets.{Member}
use Rattle.fst_determinize.specs.declared.listing.Ranked.{Ranked}

-- a member as plain numbers
abbrev pub ranked_of : Member → Ranked
ranked_of m = record { state = m.state; key = key_of m.residual }

abbrev pub listed_of : List Member → List Ranked
listed_of members = map ranked_of members

-- what `==` answers of keys, and of members as plain numbers, and their order
abbrev pub same_key : Key → Key → Bool
same_key a b = eqb a.class b.class && (int_eq a.first b.first && int_eq a.second b.second)

abbrev pub same_ranked : Ranked → Ranked → Bool
same_ranked a b = eqb a.state b.state && same_key a.key b.key

abbrev pub ranked_cmp : Ranked → Ranked → Ordering
ranked_cmp a b = ordering_then (nat_cmp a.state b.state) (key_cmp a.key b.key)

key_total : IsTotalOrder key_cmp
key_total = then_total (on_total (λ (k : Key). k.class) nat_cmp_total) (then_total (on_total (λ (k : Key). k.first) int_cmp_total) (on_total (λ (k : Key). k.second) int_cmp_total))

pub ranked_total : IsTotalOrder ranked_cmp
ranked_total = then_total (on_total (λ (r : Ranked). r.state) nat_cmp_total) (on_total (λ (r : Ranked). r.key) key_total)

key_ties : (a b : Key) → same_key a b ≡ eq_by_cmp key_cmp a b
key_ties a b =
    let numbers = both_tied _ _ (int_cmp a.first b.first) (int_cmp a.second b.second) refl refl in
    both_tied _ _ (nat_cmp a.class b.class) (ordering_then (int_cmp a.first b.first) (int_cmp a.second b.second)) (unsigned_ties a.class b.class) numbers

pub ranked_ties : (a b : Ranked) → same_ranked a b ≡ eq_by_cmp ranked_cmp a b
ranked_ties a b = both_tied _ _ (nat_cmp a.state b.state) (key_cmp a.key b.key) (unsigned_ties a.state b.state) (key_ties a.key b.key)

-- keys that compare as equal are one, and so are members as plain numbers
key_decides : (a b : Key) → Decides (same_key a b) (a ≡ b)
key_decides a b = (tells, λ e. subst (λ (k : Key). same_key a k ≡ true) e own)
  where
    tells : same_key a b ≡ true → a ≡ b
    tells e =
        let one = and_parts (eqb a.class b.class) (int_eq a.first b.first && int_eq a.second b.second) e in
        let two = and_parts (int_eq a.first b.first) (int_eq a.second b.second) one.1 in
        let classes = eqb-true a.class b.class one.0 in
        let firsts = (signed_Decides a.first b.first).0 two.0 in
        let seconds = (signed_Decides a.second b.second).0 two.1 in
        λ i. record { class = classes i; first = firsts i; second = seconds i }

    own : same_key a a ≡ true
    own =
        and_from (eqb a.class a.class) (int_eq a.first a.first && int_eq a.second a.second) (eq-eqb a.class a.class refl)
        (and_from (int_eq a.first a.first) (int_eq a.second a.second) ((signed_Decides a.first a.first).1 refl) ((signed_Decides a.second a.second).1 refl))

ranked_decides : (a b : Ranked) → Decides (same_ranked a b) (a ≡ b)
ranked_decides a b = (tells, λ e. subst (λ (r : Ranked). same_ranked a r ≡ true) e own)
  where
    tells : same_ranked a b ≡ true → a ≡ b
    tells e =
        let parts = and_parts (eqb a.state b.state) (same_key a.key b.key) e in
        let states = eqb-true a.state b.state parts.0 in
        let keys = (key_decides a.key b.key).0 parts.1 in
        λ i. record { state = states i; key = keys i }

    own : same_ranked a a ≡ true
    own = and_from (eqb a.state a.state) (same_key a.key a.key) (eq-eqb a.state a.state refl) ((key_decides a.key a.key).1 refl)

-- lists that compare as equal are one
pub listed_decides : (a b : List Ranked) → Decides (pointwise same_ranked a b) (a ≡ b)
listed_decides = pointwise_decides ranked_decides

pub listed_laws : IsEquivalence (pointwise same_ranked)
listed_laws = decided (pointwise same_ranked) listed_decides

-- values with the same numbers are one
cost_apart : (a b : Cost) → class_of a ≡ class_of b → first_of a ≡ first_of b → second_of a ≡ second_of b → a ≡ b
cost_apart a b c f s =
    let same : cost_cmp a b ≡ cost_cmp a a = λ i. ordering_then (nat_cmp (class_of a) (sym c i)) (ordering_then (int_cmp (first_of a) (sym f i)) (int_cmp (second_of a) (sym s i))) in
    cost_cmp_equal a b (same ∙ cost_cmp_same a)

ranked_apart : (m n : Member) → ranked_of m ≡ ranked_of n → m ≡ n
ranked_apart m n e =
    let states = ap (λ (r : Ranked). r.state) e in
    let residuals = cost_apart m.residual n.residual (ap (λ (r : Ranked). r.key.class) e) (ap (λ (r : Ranked). r.key.first) e) (ap (λ (r : Ranked). r.key.second) e) in
    λ i. record { state = states i; residual = residuals i }

-- and so are subsets with the same lists
pub listed_apart : (a b : List Member) → listed_of a ≡ listed_of b → a ≡ b
listed_apart [] [] e = refl
listed_apart [] (n ∷ b) e = absurd (cc)
listed_apart (m ∷ a) [] e = absurd (cc)
listed_apart (m ∷ a) (n ∷ b) e =
    let head : ranked_of m ≡ ranked_of n = cc in
    let rest : listed_of a ≡ listed_of b = cc in
    ap₂ (◌∷◌) (ranked_apart m n head) (listed_apart a b rest)
