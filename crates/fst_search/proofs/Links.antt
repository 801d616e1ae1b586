-- The links of a machine as hops along its arcs.
use Rattle.std.proofs.Common.{◌≡◌, ◌⊎◌, inl, inr, ℕ, ◌+◌, zero, suc, Bool, true, false, cond, List, [], ◌∷◌, None, Some, map, get_or, slice_get, sym, refl, ap, ◌∙◌, subst, arith}
use Rattle.std.proofs.lemmas.Bool.{cases_Bool}
use Rattle.std.proofs.lemmas.Option.{same_Some}
use Rattle.fst_semiring.specs.Cost.{Cost}
use Rattle.fst_machine.specs.BreadthFirst.{Has}
use Rattle.fst_machine.specs.Machine.{Arc, State, valued_arc, valued_state}
use Rattle.fst_machine.specs.Graph.{no_state}
use Rattle.fst_machine.proofs.Elements.{Has-append_cases, Has-append_left, Has-append_right}
use Rattle.fst_trim.specs.Links.{Link, backs_from, backs_of, links_from, links_of}

-- the link of an arc in this place
abbrev arc_link : {V : Type 0} → ℕ → Arc V ℕ → Link V
arc_link k a = record { weight = a.weight; next = a.next; place = k }

-- a link of arcs is that of an arc that passes the test
pub record IsLinkOf {V : Type 0} (test : Arc V ℕ → Bool) (k : ℕ) (arcs : List (Arc V ℕ)) (l : Link V) : Type 0 where
  pub index : ℕ
  pub arc : Arc V ℕ
  pub there : slice_get arcs index ≡ Some arc
  pub passes : test arc ≡ true
  pub same : l ≡ record { weight = arc.weight; next = arc.next; place = k + index }

links_only : {V : Type 0} (test : Arc V ℕ → Bool) (k : ℕ) (arcs : List (Arc V ℕ)) (l : Link V) → Has (links_of test k arcs) l → IsLinkOf test k arcs l
links_only test k [] l none = absurd none
links_only {V} test k (a ∷ arcs) l has = by_test (cases_Bool (test a)) (links_only test (k + 1) arcs l)
  where
    later : IsLinkOf test (k + 1) arcs l → IsLinkOf test k (a ∷ arcs) l
    later r = record { index = suc r.index; arc = r.arc; there = r.there; passes = r.passes; same = r.same ∙ ap (λ (p : ℕ). arc_link p r.arc) (let e : (k + 1) + r.index ≡ k + suc r.index = omega arith in e) }

    here : test a ≡ true → Has (arc_link k a ∷ links_of test (k + 1) arcs) l → (Has (links_of test (k + 1) arcs) l → IsLinkOf test (k + 1) arcs l) → IsLinkOf test k (a ∷ arcs) l
    here yes_test (inl e) rest = record { index = 0; arc = a; there = refl; passes = yes_test; same = sym e ∙ ap (λ (p : ℕ). arc_link p a) (let f : k ≡ k + 0 = omega arith in f) }
    here yes_test (inr h) rest = later (rest h)

    by_test : (test a ≡ true) ⊎ (test a ≡ false) → (Has (links_of test (k + 1) arcs) l → IsLinkOf test (k + 1) arcs l) → IsLinkOf test k (a ∷ arcs) l
    by_test (inl yes_test) rest = here yes_test (subst (λ (b : Bool). Has (cond b (arc_link k a ∷ links_of test (k + 1) arcs) (links_of test (k + 1) arcs)) l) yes_test has) rest
    by_test (inr no_test) rest = later (rest (subst (λ (b : Bool). Has (cond b (arc_link k a ∷ links_of test (k + 1) arcs) (links_of test (k + 1) arcs)) l) no_test has))

links_all : {V : Type 0} (test : Arc V ℕ → Bool) (k i : ℕ) (arcs : List (Arc V ℕ)) (a : Arc V ℕ) → slice_get arcs i ≡ Some a → test a ≡ true → Has (links_of test k arcs) (arc_link (k + i) a)
links_all test k i [] a there passes = absurd (let wrong : None ≡ Some a = there in cc)
links_all test k zero (b ∷ arcs) a there passes =
    let same : b ≡ a = same_Some b a there in
    let yes_test : test b ≡ true = ap test same ∙ passes in
    subst (λ (c : Bool). Has (cond c (arc_link k b ∷ links_of test (k + 1) arcs) (links_of test (k + 1) arcs)) (arc_link (k + 0) a)) (sym yes_test)
    (inl (ap (arc_link k) same ∙ ap (λ (p : ℕ). arc_link p a) (let f : k ≡ k + 0 = omega arith in f)))
links_all {V} test k (suc i) (b ∷ arcs) a there passes = by_test (cases_Bool (test b)) (subst (λ (p : ℕ). Has (links_of test (k + 1) arcs) (arc_link p a)) (let e : (k + 1) + i ≡ k + suc i = omega arith in e) (links_all test (k + 1) i arcs a there passes))
  where
    by_test : (test b ≡ true) ⊎ (test b ≡ false) → Has (links_of test (k + 1) arcs) (arc_link (k + suc i) a) → Has (links_of test k (b ∷ arcs)) (arc_link (k + suc i) a)
    by_test (inl yes_test) rest = subst (λ (c : Bool). Has (cond c (arc_link k b ∷ links_of test (k + 1) arcs) (links_of test (k + 1) arcs)) (arc_link (k + suc i) a)) (sym yes_test) (inr rest)
    by_test (inr no_test) rest = subst (λ (c : Bool). Has (cond c (arc_link k b ∷ links_of test (k + 1) arcs) (links_of test (k + 1) arcs)) (arc_link (k + suc i) a)) (sym no_test) rest

-- the arcs of a state, none where there is no such state
abbrev pub arcs_of : {V : Type 0} → List (State V) → ℕ → List (Arc V ℕ)
arcs_of [] q = []
arcs_of (s ∷ states) zero = s.arcs
arcs_of (s ∷ states) (suc q) = arcs_of states q

pub arcs_in_graph : {V : Type 0} (value : V → Cost) (states : List (State V)) (q : ℕ) → (get_or (map (valued_state value) states) q no_state).arcs ≡ map (valued_arc value) (arcs_of states q)
arcs_in_graph value [] q = refl
arcs_in_graph value (s ∷ states) zero = refl
arcs_in_graph value (s ∷ states) (suc q) = arcs_in_graph value states q

links_in : {V : Type 0} (test : Arc V ℕ → Bool) (states : List (State V)) (q : ℕ) → get_or (links_from test states) q [] ≡ links_of test 0 (arcs_of states q)
links_in test [] q = refl
links_in test (s ∷ states) zero = refl
links_in test (s ∷ states) (suc q) = links_in test states q

-- A link of a state is that of one of its arcs that pass the test.
pub link_only : {V : Type 0} (test : Arc V ℕ → Bool) (states : List (State V)) (q : ℕ) (l : Link V) → Has (get_or (links_from test states) q []) l → IsLinkOf test 0 (arcs_of states q) l
link_only {V} test states q l has = links_only test 0 (arcs_of states q) l (subst (λ (ls : List (Link V)). Has ls l) (links_in test states q) has)

pub link_all : {V : Type 0} (test : Arc V ℕ → Bool) (states : List (State V)) (q i : ℕ) (a : Arc V ℕ) → slice_get (arcs_of states q) i ≡ Some a → test a ≡ true
    → Has (get_or (links_from test states) q []) (record { weight = a.weight; next = a.next; place = 0 + i })
link_all {V} test states q i a there passes = subst (λ (ls : List (Link V)). Has ls (arc_link (0 + i) a)) (sym (links_in test states q)) (links_all test 0 i (arcs_of states q) a there passes)

-- An arc of these states, of which the first has this number, whose link leads back.
pub record IsBackOf {V : Type 0} (p : ℕ) (states : List (State V)) (l : Link V) (q : ℕ) : Type 0 where
  pub state : ℕ
  pub index : ℕ
  pub arc : Arc V ℕ
  pub there : slice_get (arcs_of states state) index ≡ Some arc
  pub leads : arc.next ≡ q
  pub same : l ≡ record { weight = arc.weight; next = p + state; place = index }

backs_only : {V : Type 0} (p k : ℕ) (arcs : List (Arc V ℕ)) (l : Link V) (q : ℕ) → Has (backs_of p k arcs) (l, q)
    → (i : ℕ) × (a : Arc V ℕ) × (slice_get arcs i ≡ Some a) × (a.next ≡ q) × (l ≡ record { weight = a.weight; next = p; place = k + i })
backs_only p k [] l q none = absurd none
backs_only {V} p k (a ∷ arcs) l q (inl e) =
    let link : record { weight = a.weight; next = p; place = k } ≡ l = ap (λ (z : Link V × ℕ). z.0) e in
    let next : a.next ≡ q = ap (λ (z : Link V × ℕ). z.1) e in
    (0, a, refl, next, sym link ∙ ap (λ (j : ℕ). record { weight = a.weight; next = p; place = j }) (let f : k ≡ k + 0 = omega arith in f))
backs_only p k (a ∷ arcs) l q (inr h) =
    let r = backs_only p (k + 1) arcs l q h in
    (suc r.0, r.1, r.2, r.3, r.4 ∙ ap (λ (j : ℕ). record { weight = r.1.weight; next = p; place = j }) (let e : (k + 1) + r.0 ≡ k + suc r.0 = omega arith in e))

backs_all : {V : Type 0} (p k i : ℕ) (arcs : List (Arc V ℕ)) (a : Arc V ℕ) → slice_get arcs i ≡ Some a → Has (backs_of p k arcs) (record { weight = a.weight; next = p; place = k + i }, a.next)
backs_all p k i [] a there = absurd (let wrong : None ≡ Some a = there in cc)
backs_all {V} p k zero (b ∷ arcs) a there =
    let same : b ≡ a = same_Some b a there in
    let f : k ≡ k + 0 = omega arith in
    inl (ap (λ (z : Arc V ℕ). (record { weight = z.weight; next = p; place = k }, z.next)) same ∙ ap (λ (j : ℕ). (record { weight = a.weight; next = p; place = j }, a.next)) f)
backs_all {V} p k (suc i) (b ∷ arcs) a there =
    let e : (k + 1) + i ≡ k + suc i = omega arith in
    inr (subst (λ (j : ℕ). Has {X = Link V × ℕ} (backs_of p (k + 1) arcs) (record { weight = a.weight; next = p; place = j }, a.next)) e (backs_all p (k + 1) i arcs a there))

pub from_only : {V : Type 0} (p : ℕ) (states : List (State V)) (l : Link V) (q : ℕ) → Has {X = Link V × ℕ} (backs_from p states) (l, q) → IsBackOf p states l q
from_only p [] l q none = absurd none
from_only {V} p (s ∷ states) l q has = by_part (Has-append_cases (backs_of p 0 s.arcs) (backs_from (p + 1) states) (l, q) has) (from_only (p + 1) states l q)
  where
    by_part : Has {X = Link V × ℕ} (backs_of p 0 s.arcs) (l, q) ⊎ Has {X = Link V × ℕ} (backs_from (p + 1) states) (l, q) → (Has {X = Link V × ℕ} (backs_from (p + 1) states) (l, q) → IsBackOf (p + 1) states l q) → IsBackOf p (s ∷ states) l q
    by_part (inl h) rest =
        let r = backs_only p 0 s.arcs l q h in
        let e : p ≡ p + 0 = omega arith in
        let f : 0 + r.0 ≡ r.0 = omega arith in
        record { state = 0; index = r.0; arc = r.1; there = r.2; leads = r.3; same = r.4 ∙ (ap (λ (j : ℕ). record { weight = r.1.weight; next = p; place = j }) f ∙ ap (λ (j : ℕ). record { weight = r.1.weight; next = j; place = r.0 }) e) }
    by_part (inr h) rest =
        let r = rest h in
        let e : (p + 1) + r.state ≡ p + suc r.state = omega arith in
        record { state = suc r.state; index = r.index; arc = r.arc; there = r.there; leads = r.leads; same = r.same ∙ ap (λ (j : ℕ). record { weight = r.arc.weight; next = j; place = r.index }) e }

pub from_all : {V : Type 0} (p j i : ℕ) (states : List (State V)) (a : Arc V ℕ) → slice_get (arcs_of states j) i ≡ Some a → Has {X = Link V × ℕ} (backs_from p states) (record { weight = a.weight; next = p + j; place = i }, a.next)
from_all p j i [] a there = absurd (let wrong : None ≡ Some a = there in cc)
from_all {V} p zero i (s ∷ states) a there =
    let e : p ≡ p + 0 = omega arith in
    let f : 0 + i ≡ i = omega arith in
    let has = backs_all p 0 i s.arcs a there in
    let moved = subst (λ (k : ℕ). Has {X = Link V × ℕ} (backs_of p 0 s.arcs) (record { weight = a.weight; next = p; place = k }, a.next)) f has in
    subst (λ (z : ℕ). Has {X = Link V × ℕ} (backs_from p (s ∷ states)) (record { weight = a.weight; next = z; place = i }, a.next)) e (Has-append_left (backs_of p 0 s.arcs) (backs_from (p + 1) states) (record { weight = a.weight; next = p; place = i }, a.next) moved)
from_all {V} p (suc j) i (s ∷ states) a there =
    let e : (p + 1) + j ≡ p + suc j = omega arith in
    subst (λ (z : ℕ). Has {X = Link V × ℕ} (backs_from p (s ∷ states)) (record { weight = a.weight; next = z; place = i }, a.next)) e (Has-append_right (backs_of p 0 s.arcs) (backs_from (p + 1) states) (record { weight = a.weight; next = (p + 1) + j; place = i }, a.next) (from_all (p + 1) j i states a there))
