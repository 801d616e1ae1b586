-- Pairs of a machine and a label, and names that stand twice.
use Rattle.std.proofs.Common.{◌≡◌, ◌∙◌, ◌<◌, ◌≤◌, ◌+◌, ◌*◌, ◌/◌, ◌&&◌, ℕ, Bool, not, suc, List, [], ◌∷◌, length, drop, count_by, cond, refl, ap, arith, get_or}
use Rattle.std.proofs.Math.Seq.{drop-cons}
use Rattle.std.proofs.lemmas.List.{length-drop}
use Rattle.std.proofs.lemmas.List.Sums.{sum_by-append}
use Rattle.std.specs.List.{list_any}
use Rattle.std.specs.Str.{bytes_eq}
use Rattle.fst_words.specs.Plans.{pair_labels, pair_machines, texts_differ}

-- the pair in place k, with the pairs behind it
pub pair_at : (xs : List (List ℕ)) (k : ℕ) → k < length xs / 2
    → drop (2 * k) xs ≡ get_or xs (2 * k) [] ∷ get_or xs (2 * k + 1) [] ∷ drop (2 * (k + 1)) xs
pair_at xs k lt =
    let second : 2 * k + 1 ≡ suc (2 * k) = omega arith in
    let after : 2 * (k + 1) ≡ suc (suc (2 * k)) = omega arith in
    rw (second, after) (drop-cons xs (2 * k) [] (omega arith) ∙ ap (λ (rest : List (List ℕ)). get_or xs (2 * k) [] ∷ rest) (drop-cons xs (suc (2 * k)) [] (omega arith)))

-- behind the pairs stands at most one name
no_pair : (xs : List (List ℕ)) → length xs ≤ 1 → (pair_machines xs ≡ []) × (pair_labels xs ≡ [])
no_pair [] short = (refl, refl)
no_pair (x ∷ []) short = (refl, refl)
no_pair (x ∷ y ∷ xs) short = absurd (omega arith)

pub pairs_end : (xs : List (List ℕ)) (k : ℕ) → length xs / 2 ≤ k
    → (pair_machines (drop (2 * k) xs) ≡ []) × (pair_labels (drop (2 * k) xs) ≡ [])
pairs_end xs k end = no_pair (drop (2 * k) xs) (omega (arith, length-drop (2 * k) xs))

count_cons : (p : List ℕ → Bool) (x : List ℕ) (xs : List (List ℕ)) → count_by p (x ∷ xs) ≡ count_by p xs + cond (p x) 1 0
count_cons p x xs = omega (arith, sum_by-append (λ (y : List ℕ). cond (p y) 1 0) (x ∷ []) xs)

pub machine_at : (p : List ℕ → Bool) (xs : List (List ℕ)) (k : ℕ) (b : Bool) → k < length xs / 2 → p (get_or xs (2 * k) []) ≡ b
    → count_by p (pair_machines (drop (2 * k) xs)) ≡ count_by p (pair_machines (drop (2 * (k + 1)) xs)) + cond b 1 0
machine_at p xs k b lt test =
    ap (λ (ys : List (List ℕ)). count_by p (pair_machines ys)) (pair_at xs k lt)
    ∙ (count_cons p (get_or xs (2 * k) []) (pair_machines (drop (2 * (k + 1)) xs))
    ∙ ap (λ (c : Bool). count_by p (pair_machines (drop (2 * (k + 1)) xs)) + cond c 1 0) test)

pub labels_at : (xs : List (List ℕ)) (k : ℕ) → k < length xs / 2
    → pair_labels (drop (2 * k) xs) ≡ get_or xs (2 * k + 1) [] ∷ pair_labels (drop (2 * (k + 1)) xs)
labels_at xs k lt = ap pair_labels (pair_at xs k lt)

-- the name in a place, and those behind it
pub differ_at : (xs : List (List ℕ)) (i : ℕ) (b : Bool) → i < length xs
    → list_any (λ other. bytes_eq other (get_or xs i [])) (drop (i + 1) xs) ≡ b
    → texts_differ (drop i xs) ≡ (not b && texts_differ (drop (i + 1) xs))
differ_at xs i b lt again =
    let next : suc i ≡ i + 1 = omega arith in
    let here : drop i xs ≡ get_or xs i [] ∷ drop (i + 1) xs =
    drop-cons xs i [] lt ∙ ap (λ (k : ℕ). get_or xs i [] ∷ drop k xs) next in
    ap texts_differ here ∙ ap (λ (c : Bool). not c && texts_differ (drop (i + 1) xs)) again
