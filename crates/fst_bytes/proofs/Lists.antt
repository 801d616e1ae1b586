-- Going over a list and writing each item: what is left, and how long it is.
use Rattle.std.proofs.Common.{◌≡◌, ℕ, zero, suc, ◌+◌, ◌<◌, ◌≤◌, List, [], ◌∷◌, ◌++◌, map, length, get_or, drop, take, All, sym, ap, subst, ◌∙◌, append_assoc, arith}
use Rattle.std.specs.List.{flat_map}
use Rattle.std.proofs.lemmas.List.{length-append}
use Rattle.std.proofs.lemmas.List.Elements.{All-more}

-- what is left of a list from a place on is the item there and the rest
item_and_rest : {X Y : Type 0} (f : X → Y) (xs : List X) (i : ℕ) (x : X) → i < length xs → x ≡ get_or xs i x → drop i (map f xs) ≡ f x ∷ drop (suc i) (map f xs)
item_and_rest f [] i x within e = absurd (omega arith)
item_and_rest f (x ∷ xs) zero y within e = ap (λ z. f z ∷ map f xs) (sym e)
item_and_rest f (x ∷ xs) (suc i) y within e = item_and_rest f xs i y (omega arith) e

pub item_left : {X Y : Type 0} (f : X → Y) (xs : List X) (i : ℕ) (x : X) → i < length xs → x ≡ get_or xs i x → drop i (map f xs) ≡ f x ∷ drop (i + 1) (map f xs)
item_left f xs i x within e =
    let next : suc i ≡ i + 1 = omega arith in
    subst (λ (j : ℕ). drop i (map f xs) ≡ f x ∷ drop j (map f xs)) next (item_and_rest f xs i x within e)

-- an item is written, and what is left of the list stays to be written
pub item_written : {Y : Type 0} (f : Y → List ℕ) (out : List ℕ) (y : Y) (ys rest : List Y) (whole : List ℕ) → rest ≡ y ∷ ys → out ++ flat_map f rest ≡ whole → (out ++ f y) ++ flat_map f ys ≡ whole
item_written f out y ys rest whole e h = append_assoc out (f y) (flat_map f ys) ∙ ap (λ zs. out ++ flat_map f zs) (sym e) ∙ h

-- there is room for an item where there is room for all
pub item_fits : {Y : Type 0} (f : Y → List ℕ) (out : List ℕ) (y : Y) (ys rest : List Y) (whole : List ℕ) (room : ℕ) → rest ≡ y ∷ ys → out ++ flat_map f rest ≡ whole → length whole ≤ room → length out + length (f y) ≤ room
item_fits f out y ys rest whole room e h fits =
    let n : length whole ≡ length (out ++ f y) + length (flat_map f ys) = ap length (sym (item_written f out y ys rest whole e h)) ∙ length-append (out ++ f y) (flat_map f ys) in
    let m = length-append out (f y) in
    omega (arith, n, m, fits)

-- an item is counted, and what is left of the list stays to be counted
pub item_counted : {Y : Type 0} (f : Y → List ℕ) (n : ℕ) (y : Y) (ys rest : List Y) (total : ℕ) → rest ≡ y ∷ ys → n + length (flat_map f rest) ≡ total → (n + length (f y)) + length (flat_map f ys) ≡ total
item_counted f n y ys rest total e h =
    let all : length (flat_map f rest) ≡ length (f y) + length (flat_map f ys) = ap (λ zs. length (flat_map f zs)) e ∙ length-append (f y) (flat_map f ys) in
    omega (arith, all, h)

-- what holds of the items so far, and of one more
pub item_more : {X : Type 0} (P : X → Type 0) (xs : List X) (i : ℕ) (x : X) → i < length xs → x ≡ get_or xs i x → All P (take i xs) → P x → All P (take (i + 1) xs)
item_more P xs i x within e so_far own = All-more P xs i x within so_far (subst P e own)
