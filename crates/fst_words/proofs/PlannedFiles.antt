-- The files of a plan and the labels of its rules, by their places.
use Rattle.std.proofs.Common.{◌≡◌, ◌∙◌, ◌<◌, ◌+◌, ◌*◌, ◌/◌, ◌&&◌, ℕ, Bool, cond, true, false, zero, suc, List, [], ◌∷◌, length, drop, Option, Some, None, refl, sym, ap, arith, is_some, not}
use Rattle.std.specs.Prelude.{◌||◌}
use Rattle.std.proofs.lemmas.Option.{slice_get-get_or}
use Rattle.std.specs.List.{filter_map, list_all, slice_get}
use Rattle.fst_words.specs.declared.plan.Plan.{Plan}
use Rattle.fst_words.specs.PlanLaws.{IsWhole}
use Rattle.fst_words.specs.Plans.{are_labels, flags_fit, input_files, inputs_fit, is_allowed, is_replace, labels_fit, outputs_fit, pair_labels, pair_machines, rule_labels}
use Rattle.fst_words.specs.Values.{label_of}

-- ---- pairs of a machine and a label

pub machine_count : (xs : List (List ℕ)) → length (pair_machines xs) ≡ length xs / 2
machine_count [] = refl
machine_count (x ∷ []) = refl
machine_count (x ∷ y ∷ xs) = let e = machine_count xs in omega arith

pub label_count : (xs : List (List ℕ)) → length (pair_labels xs) ≡ length xs / 2
label_count [] = refl
label_count (x ∷ []) = refl
label_count (x ∷ y ∷ xs) = let e = label_count xs in omega arith

pub machine_in : (xs : List (List ℕ)) (k : ℕ) (x : List ℕ) → k < length xs / 2 → slice_get xs (2 * k) ≡ Some x
    → slice_get (pair_machines xs) k ≡ Some x
machine_in [] k x lt e = absurd (omega arith)
machine_in (a ∷ []) k x lt e = absurd (omega arith)
machine_in (a ∷ b ∷ xs) zero x lt e = e
machine_in (a ∷ b ∷ xs) (suc k) x lt e =
    let next : 2 * suc k ≡ suc (suc (2 * k)) = omega arith in
    machine_in xs k x (omega arith) (rw next at e)

pub label_in : (xs : List (List ℕ)) (k : ℕ) (x : List ℕ) → k < length xs / 2 → slice_get xs (2 * k + 1) ≡ Some x
    → slice_get (pair_labels xs) k ≡ Some x
label_in [] k x lt e = absurd (omega arith)
label_in (a ∷ []) k x lt e = absurd (omega arith)
label_in (a ∷ b ∷ xs) zero x lt e = e
label_in (a ∷ b ∷ xs) (suc k) x lt e =
    let next : 2 * suc k + 1 ≡ suc (suc (2 * k + 1)) = omega arith in
    label_in xs k x (omega arith) (rw next at e)

-- ---- a list whose elements all have a value

both : (a b : Bool) → (a && b) ≡ true → (a ≡ true) × (b ≡ true)
both true b e = (refl, e)
both false b e = cc

has_value : {Y : Type 0} (o : Option Y) → is_some o ≡ true → (y : Y) × (o ≡ Some y)
has_value None e = cc
has_value (Some y) e = (y, refl)

pub value_count : {X Y : Type 0} (f : X → Option Y) (xs : List X) → list_all (λ x. is_some (f x)) xs ≡ true
    → length (filter_map f xs) ≡ length xs
value_count f [] all = refl
value_count f (x ∷ xs) all =
    let parts = both (is_some (f x)) (list_all (λ x. is_some (f x)) xs) all in
    let value = has_value (f x) parts.0 in
    rw value.1 (ap suc (value_count f xs parts.1))

pub value_at : {X Y : Type 0} (f : X → Option Y) (xs : List X) (k : ℕ) (x : X) (o : Option Y)
    → list_all (λ x. is_some (f x)) xs ≡ true → slice_get xs k ≡ Some x → f x ≡ o → slice_get (filter_map f xs) k ≡ o
value_at f [] k x o all at is = cc
value_at f (a ∷ xs) zero x o all at is =
    let value = has_value (f a) (both (is_some (f a)) (list_all (λ x. is_some (f x)) xs) all).0 in
    let same : a ≡ x = cc in
    rw value.1 (sym value.1 ∙ (ap f same ∙ is))
value_at f (a ∷ xs) (suc n) x o all at is =
    let parts = both (is_some (f a)) (list_all (λ x. is_some (f x)) xs) all in
    let value = has_value (f a) parts.0 in
    rw value.1 (value_at f xs n x o parts.1 at is)

-- ---- the labels of a whole plan

rules_pass : (a b c d : Bool) → (a && (b && (c && d))) ≡ true → b ≡ true
rules_pass true true c d e = refl
rules_pass true false c d e = e
rules_pass false b c d e = cc

labels_pass : (rules labels : Bool) → rules ≡ true → (not rules || labels) ≡ true → labels ≡ true
labels_pass true labels is e = e
labels_pass false labels is e = cc

-- all the labels of rules are labels
all_labels : (plan : Plan) → IsWhole plan → is_replace plan.command ≡ true
    → list_all (λ t. is_some (label_of t)) (pair_labels plan.names) ≡ true
unfolding is_allowed
all_labels plan whole rules =
    let fit = rules_pass (flags_fit plan.command plan.options) (labels_fit plan) (inputs_fit plan) (outputs_fit plan) whole.rules in
    let labels = labels_pass (is_replace plan.command) (are_labels (pair_labels plan.names)) rules fit in
    (both (list_all (λ t. is_some (label_of t)) (pair_labels plan.names)) _ labels).0

-- a plan with a label has rules, and its place is that of a pair
pub has_place : (plan : Plan) (k : ℕ) → IsWhole plan → k < length (rule_labels plan)
    → (is_replace plan.command ≡ true) × (k < length plan.names / 2)
has_place plan k whole lt = go (is_replace plan.command) refl lt
  where
    go : (rules : Bool) → is_replace plan.command ≡ rules → k < length (cond rules (filter_map label_of (pair_labels plan.names)) [])
        → (is_replace plan.command ≡ true) × (k < length plan.names / 2)
    go true is lt =
        let count = value_count label_of (pair_labels plan.names) (all_labels plan whole is) in
        let pairs = label_count plan.names in
        (is, omega arith)
    go false is lt = absurd (omega arith)

-- there is a label for each machine
pub label_for_each : (plan : Plan) → IsWhole plan → is_replace plan.command ≡ true
    → length (rule_labels plan) ≡ length (input_files plan)
label_for_each plan whole rules =
    let count = value_count label_of (pair_labels plan.names) (all_labels plan whole rules) in
    let labels = label_count plan.names in
    let machines = machine_count plan.names in
    rw rules (omega arith)

-- the label in a place
pub rule_label_at : (plan : Plan) (k : ℕ) (text : List ℕ) (label : Option ℕ) → IsWhole plan → k < length (rule_labels plan)
    → slice_get plan.names (2 * k + 1) ≡ Some text → label_of text ≡ label → slice_get (rule_labels plan) k ≡ label
rule_label_at plan k text label whole lt at is =
    let place = has_place plan k whole lt in
    rw place.0 (value_at label_of (pair_labels plan.names) k text label (all_labels plan whole place.0) (label_in plan.names k text place.1 at) is)

-- there is a label in each place
pub has_label : (plan : Plan) (k : ℕ) (text : List ℕ) → IsWhole plan → k < length (rule_labels plan)
    → slice_get plan.names (2 * k + 1) ≡ Some text → label_of text ≡ None → ⊥
has_label plan k text whole lt at none =
    let past = rule_label_at plan k text None whole lt at none in
    let here = slice_get-get_or (rule_labels plan) k 0 lt in
    cc

-- ---- what follows a place

pub get_after : {X : Type 0} (xs : List X) (start k : ℕ) → slice_get (drop start xs) k ≡ slice_get xs (start + k)
get_after xs zero k = let e : 0 + k ≡ k = omega arith in rw e refl
get_after [] (suc start) k = refl
get_after (x ∷ xs) (suc start) k = let e : suc start + k ≡ suc (start + k) = omega arith in rw e (get_after xs start k)
