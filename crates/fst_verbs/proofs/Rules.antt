-- Machines under the labels of rules.
use Rattle.std.proofs.Common.{◌≡◌, ℕ, ◌+◌, ◌<◌, ◌≤◌, ◌==◌, ◌&&◌, ◌||◌, Bool, true, false, not, List, [], ◌∷◌, ◌++◌, length, map, take, Some, slice_get, refl, sym, ap, ◌∙◌, subst, inl, inr, suc, zero, arith}
use Rattle.std.proofs.lemmas.Bool.Decides.{nat_tests}
use Rattle.std.specs.Prelude.{get_or}
use Rattle.fst_semiring.specs.Cost.{Cost}
use Rattle.std.specs.List.{filter_map, list_any}
use Rattle.fst_machine.specs.BreadthFirst.{Has}
use Rattle.fst_machine.specs.Machine.{Machine, valued}
use Rattle.fst_replace.specs.Rules.{labels_of, valued_rules}
use Rattle.fst_words.specs.declared.plan.Plan.{Plan}
use Rattle.fst_words.specs.Plans.{are_labels, is_allowed, is_replace, numbers_differ, pair_labels, rule_labels}
use Rattle.fst_words.specs.PlanLaws.{IsWhole}
use Rattle.fst_words.specs.Values.{label_of}
use Rattle.fst_verbs.specs.Replacing.{ruled}

some_same : {X : Type 0} (x y : X) → Some x ≡ Some y → x ≡ y
some_same x y e = cc

-- both tests pass
both : (a b : Bool) → (a && b) ≡ true → (a ≡ true) × (b ≡ true)
both true b e = (refl, e)
both false b e = absurd cc

otherwise : (a b : Bool) → a ≡ true → (not a || b) ≡ true → b ≡ true
otherwise true b e f = f
otherwise false b e f = absurd cc

-- the labels of a whole plan are labels, and no two are the same
pub labels_stand : (plan : Plan) → is_replace plan.command ≡ true → IsWhole plan → are_labels (pair_labels plan.names) ≡ true
unfolding is_allowed
labels_stand plan replace whole =
    let fits = both _ _ whole.rules in
    let labels = both _ _ fits.1 in
    otherwise (is_replace plan.command) (are_labels (pair_labels plan.names)) replace labels.0

-- a number that stands among others
or_right : (a b : Bool) → b ≡ true → (a || b) ≡ true
or_right true b e = refl
or_right false b e = e

found_any : (ns : List ℕ) (i n m : ℕ) → slice_get ns i ≡ Some n → m ≡ n → list_any (λ k. m == k) ns ≡ true
found_any [] i n m e same = absurd cc
found_any (k ∷ ns) zero n m e same =
    let here : k ≡ n = some_same k n e in
    let test : (m == k) ≡ true = grind (arith, nat_tests, here, same) in
    rw test refl
found_any (k ∷ ns) (suc i) n m e same = or_right (m == k) (list_any (λ j. m == j) ns) (found_any ns i n m e same)

not_true : (a : Bool) → not a ≡ true → a ≡ true → ⊥
not_true true e f = cc
not_true false e f = cc

-- where no two numbers are the same, none stands in front of itself
pub fresh_at : (labels : List ℕ) (i n : ℕ) → numbers_differ labels ≡ true → slice_get labels i ≡ Some n → Has (take i labels) n → ⊥
fresh_at [] i n differ e has = absurd cc
fresh_at (m ∷ labels) zero n differ e has = has
fresh_at (m ∷ labels) (suc i) n differ e (inl same) =
    not_true (list_any (λ k. m == k) labels) (both _ _ differ).0 (found_any labels i n m e same)
fresh_at (m ∷ labels) (suc i) n differ e (inr has) = fresh_at labels i n (both _ _ differ).1 e has

-- the element in a place
pub get_slice : {X : Type 0} (xs : List X) (i : ℕ) (x : X) → i < length xs → x ≡ get_or xs i x → slice_get xs i ≡ Some x
get_slice [] i x within e = absurd (omega (arith, within))
get_slice (y ∷ xs) zero x within e = ap Some (sym e)
get_slice (y ∷ xs) (suc i) x within e = get_slice xs i x (omega (arith, within)) e

-- rules, one more
pub ruled_more : {V : Type 0} (labels : List ℕ) (ms : List (Machine V)) (p label : ℕ) (m : Machine V) → slice_get labels p ≡ Some label → slice_get ms p ≡ Some m → ruled (take (suc p) labels) (take (suc p) ms) ≡ ruled (take p labels) (take p ms) ++ record { label = label; machine = m } ∷ []
ruled_more [] ms p label m e f = absurd cc
ruled_more (l ∷ labels) [] p label m e f = absurd cc
ruled_more (l ∷ labels) (n ∷ ms) zero label m e f =
    ap (λ (x : ℕ). record { label = x; machine = n } ∷ []) (some_same l label e)
    ∙ ap (λ (x : Machine _). record { label = label; machine = x } ∷ []) (some_same n m f)
ruled_more (l ∷ labels) (n ∷ ms) (suc p) label m e f = ap (λ rules. record { label = l; machine = n } ∷ rules) (ruled_more labels ms p label m e f)

-- their labels
pub labels_ruled : {V : Type 0} (labels : List ℕ) (ms : List (Machine V)) (p : ℕ) → length labels ≡ length ms → labels_of (ruled (take p labels) (take p ms)) ≡ take p labels
labels_ruled [] ms zero long = refl
labels_ruled [] ms (suc p) long = refl
labels_ruled (l ∷ labels) [] p long = absurd (omega (arith, long))
labels_ruled (l ∷ labels) (m ∷ ms) zero long = refl
labels_ruled (l ∷ labels) (m ∷ ms) (suc p) long = ap (λ ls. l ∷ ls) (labels_ruled labels ms p (omega (arith, long)))

-- with each weight as its value
pub ruled_valued : {V : Type 0} (value : V → Cost) (labels : List ℕ) (ms : List (Machine V)) → valued_rules value (ruled labels ms) ≡ ruled labels (map (valued value) ms)
ruled_valued value [] ms = refl
ruled_valued value (l ∷ labels) [] = refl
ruled_valued value (l ∷ labels) (m ∷ ms) = ap (λ rules. record { label = l; machine = valued value m } ∷ rules) (ruled_valued value labels ms)

-- no label of a rule stands in front of it
pub fresh_rule : (plan : Plan) (place label : ℕ) → is_replace plan.command ≡ true → IsWhole plan → slice_get (rule_labels plan) place ≡ Some label → Has (take place (rule_labels plan)) label → ⊥
fresh_rule plan place label replace whole at has =
    let same : rule_labels plan ≡ filter_map label_of (pair_labels plan.names) = rw replace refl in
    fresh_at (rule_labels plan) place label (subst (λ (ls : List ℕ). numbers_differ ls ≡ true) (sym same) (both _ _ (labels_stand plan replace whole)).1) at has

-- all of a list
take_past : {X : Type 0} (xs : List X) (n : ℕ) → length xs ≤ n → take n xs ≡ xs
take_past [] zero few = refl
take_past [] (suc n) few = refl
take_past (x ∷ xs) zero few = absurd (omega (arith, few))
take_past (x ∷ xs) (suc n) few = ap (λ ys. x ∷ ys) (take_past xs n (omega (arith, few)))

pub ruled_all : {V : Type 0} (labels : List ℕ) (ms : List (Machine V)) (n : ℕ) → length labels ≤ n → length ms ≤ n → ruled (take n labels) (take n ms) ≡ ruled labels ms
ruled_all labels ms n few some = ap (λ ls. ruled ls (take n ms)) (take_past labels n few) ∙ ap (λ xs. ruled labels xs) (take_past ms n some)

-- one rule more
pub ruled_next : {V : Type 0} (labels : List ℕ) (ms : List (Machine V)) (p label : ℕ) (m : Machine V) → slice_get labels p ≡ Some label → p < length ms → m ≡ get_or ms p m → ruled (take (p + 1) labels) (take (p + 1) ms) ≡ ruled (take p labels) (take p ms) ++ record { label = label; machine = m } ∷ []
ruled_next labels ms p label m at within is =
    let next : p + 1 ≡ suc p = omega arith in
    ap (λ n. ruled (take n labels) (take n ms)) next ∙ ruled_more labels ms p label m at (get_slice ms p m within is)
