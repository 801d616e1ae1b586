-- Paths with one arc more, and all paths with less than k arcs.
use Rattle.std.proofs.Common.{◌≡◌, ◌⊎◌, inl, inr, ℕ, ◌+◌, ◌<◌, zero, suc, List, [], ◌∷◌, ◌++◌, Some, length, take, map, get_or, slice_get, sym, refl, ap, ◌∙◌, subst, append-nil, arith}
use Rattle.std.specs.List.{flat_map}
use Rattle.std.proofs.lemmas.Grind.{flat_map-append}
use Rattle.std.proofs.lemmas.List.{map_more, map_push, length-map, length-take-le, length-append}
use Rattle.fst_semiring.specs.Cost.{Cost}
use Rattle.fst_semiring.specs.declared.arc_type.ArcType.{ArcType}
use Rattle.fst_semiring.specs.Semiring.{one_of, times}
use Rattle.fst_semiring.proofs.Laws.{times_one}
use Rattle.fst_machine.specs.Machine.{Arc}
use Rattle.fst_machine.specs.Graph.{Graph}
use Rattle.fst_machine.specs.Letters.{product}
use Rattle.fst_machine.specs.Paths.{Transition, IsPath, letters}
use Rattle.fst_machine.specs.BreadthFirst.{Has}
use Rattle.fst_machine.proofs.Letters.{letters-append, product-append}
use Rattle.fst_machine.proofs.PathParts.{IsPath-append, IsPath-split}
use Rattle.fst_machine.proofs.Elements.{Has-append_left, Has-append_right, Has-append_cases}
use Rattle.fst_plain.specs.PlainPaths.{Part, ArePartsBelow, extensions, no_arcs, one_more, outgoing}

-- elements of mapped lists
has_map : {X Y : Type 0} (f : X → Y) (xs : List X) (x : X) → Has xs x → Has (map f xs) (f x)
has_map f [] x h = absurd h
has_map f (y ∷ xs) x (inl e) = inl (ap f e)
has_map f (y ∷ xs) x (inr h) = inr (has_map f xs x h)

map_has : {X Y : Type 0} (f : X → Y) (xs : List X) (y : Y) → Has (map f xs) y → (x : X) × Has xs x × (f x ≡ y)
map_has f [] y h = absurd h
map_has f (x ∷ xs) y (inl e) = (x, inl refl, e)
map_has f (x ∷ xs) y (inr h) = let rest = map_has f xs y h in (rest.0, inr rest.1, rest.2)

has_flat : {X Y : Type 0} (f : X → List Y) (xs : List X) (x : X) (y : Y) → Has xs x → Has (f x) y → Has (flat_map f xs) y
has_flat f [] x y h k = absurd h
has_flat f (z ∷ xs) x y (inl e) k = Has-append_left (f z) (flat_map f xs) y (subst (λ w. Has (f w) y) (sym e) k)
has_flat f (z ∷ xs) x y (inr h) k = Has-append_right (f z) (flat_map f xs) y (has_flat f xs x y h k)

flat_has : {X Y : Type 0} (f : X → List Y) (xs : List X) (y : Y) → Has (flat_map f xs) y → (x : X) × Has xs x × Has (f x) y
flat_has f [] y h = absurd h
flat_has {X} {Y} f (x ∷ xs) y h = by_part (Has-append_cases (f x) (flat_map f xs) y h) (λ k. flat_has f xs y k)
  where
    by_part : Has (f x) y ⊎ Has (flat_map f xs) y → (Has (flat_map f xs) y → (z : X) × Has xs z × Has (f z) y) → (z : X) × Has (x ∷ xs) z × Has (f z) y
    by_part (inl k) more = (x, inl refl, k)
    by_part (inr k) more = let rest = more k in (rest.0, inr rest.1, rest.2)

-- the transitions by the arcs of a state leave it
outgoing_leaves : (p k : ℕ) (arcs : List (Arc Cost ℕ)) (t : Transition ℕ) → Has (outgoing p k arcs) t → (j : ℕ) × (t.state ≡ p) × (t.place ≡ k + j) × (slice_get arcs j ≡ Some t.arc)
outgoing_leaves p k [] t h = absurd h
outgoing_leaves p k (a ∷ arcs) t (inl e) = (0, ap (λ (u : Transition ℕ). u.state) (sym e), ap (λ (u : Transition ℕ). u.place) (sym e) ∙ (let here : k ≡ k + 0 = omega arith in here), ap (λ (u : Transition ℕ). Some u.arc) e)
outgoing_leaves p k (a ∷ arcs) t (inr h) = let rest = outgoing_leaves p (suc k) arcs t h in (suc rest.0, rest.1, rest.2 ∙ (let here : suc k + rest.0 ≡ k + suc rest.0 = omega arith in here), rest.3)

leaves_outgoing : (p k j : ℕ) (arcs : List (Arc Cost ℕ)) (t : Transition ℕ) → t.state ≡ p → t.place ≡ k + j → slice_get arcs j ≡ Some t.arc → Has (outgoing p k arcs) t
leaves_outgoing p k j [] t e f has = absurd (cc)
leaves_outgoing p k zero (a ∷ arcs) t e f has =
    let arc : a ≡ t.arc = cc in
    let place : k ≡ t.place = omega (arith, f) in
    inl (λ i. record { state = sym e i; place = place i; arc = arc i })
leaves_outgoing p k (suc j) (a ∷ arcs) t e f has = inr (leaves_outgoing p (suc k) j arcs t e (omega (arith, f)) has)

-- one arc more among them
outgoing-push : (p k : ℕ) (arcs : List (Arc Cost ℕ)) (a : Arc Cost ℕ) (n : ℕ) → n ≡ k + length arcs → outgoing p k (arcs ++ a ∷ []) ≡ outgoing p k arcs ++ record { state = p; place = n; arc = a } ∷ []
outgoing-push p k [] a n e =
    let place : k ≡ n = omega (arith, e) in
    let single : ℕ → List (Transition ℕ) = λ m. record { state = p; place = m; arc = a } ∷ [] in
    ap single place
outgoing-push p k (b ∷ arcs) a n e = ap (λ ts. record { state = p; place = k; arc = b } ∷ ts) (outgoing-push p (suc k) arcs a n (omega (arith, e)))

pub outgoing_more : {X : Type 0} (kind : ArcType) (view : X → Arc Cost ℕ) (p : ℕ) (part : Part) (xs : List X) (i : ℕ) (x : X) → i < length xs → x ≡ get_or xs i x → map (one_more kind part) (outgoing p 0 (map view (take (i + 1) xs))) ≡ map (one_more kind part) (outgoing p 0 (map view (take i xs))) ++ one_more kind part (record { state = p; place = i; arc = view x }) ∷ []
outgoing_more {X} kind view p part xs i x low at =
    let longer : map view (take (i + 1) xs) ≡ map view (take i xs) ++ view x ∷ [] = map_more view xs i x low ∙ ap (λ z. map view (take i xs) ++ view z ∷ []) (sym at) in
    let size : length (map view (take i xs)) ≡ i = length-map (take i xs) view ∙ length-take-le i xs (omega arith) in
    ap (λ arcs. map (one_more kind part) (outgoing p 0 arcs)) longer ∙ (ap (map (one_more kind part)) (outgoing-push p 0 (map view (take i xs)) (view x) i (omega arith)) ∙ map_push (one_more kind part) (outgoing p 0 (map view (take i xs))) (record { state = p; place = i; arc = view x }))

-- a path that is not empty has a last arc
last_arc : (t : Transition ℕ) (path : List (Transition ℕ)) → (front : List (Transition ℕ)) × (last : Transition ℕ) × (t ∷ path ≡ front ++ last ∷ [])
last_arc t [] = ([], t, refl)
last_arc t (u ∷ path) = let rest = last_arc u path in (t ∷ rest.0, rest.1, ap (λ ts. t ∷ ts) rest.2)

-- the product with one arc more
product-push : (kind : ArcType) (path : List (Transition ℕ)) (t : Transition ℕ) → product kind (letters (path ++ t ∷ [])) ≡ times kind (product kind (letters path)) t.arc.weight
product-push kind path t = ap (product kind) (letters-append path (t ∷ [])) ∙ (product-append kind (letters path) (letters (t ∷ [])) ∙ ap (times kind (product kind (letters path))) (times_one kind t.arc.weight))

-- the paths with less than k + 1 arcs are the one without arcs, and those with less than k with one arc more
pub parts_more : (kind : ArcType) (g : Graph ℕ) (start k : ℕ) (parts : List Part) → ArePartsBelow kind g start k parts → ArePartsBelow kind g start (k + 1) (no_arcs kind start ∷ extensions kind g parts)
parts_more kind g start k parts p = record { only = only; all = all }
  where
    longer : (b : Part) (t : Transition ℕ) (a : Part) → Has parts b → Has (outgoing b.end 0 (g.arcs b.end)) t → one_more kind b t ≡ a → IsPath g start a.path a.end × (length a.path < k + 1) × (a.product ≡ product kind (letters a.path))
    longer b t a there goes e =
        let old = p.only b there in
        let leaves = outgoing_leaves b.end 0 (g.arcs b.end) t goes in
        let place : leaves.0 ≡ t.place = omega (arith, leaves.2) in
        let leads : IsPath g start (b.path ++ t ∷ []) t.arc.next = IsPath-append g b.path (t ∷ []) start b.end t.arc.next old.0 ((leaves.1, ap (slice_get (g.arcs b.end)) (sym place) ∙ leaves.3), refl) in
        subst (λ (z : Part). IsPath g start z.path z.end × (length z.path < k + 1) × (z.product ≡ product kind (letters z.path))) e (leads, omega (arith, old.1, length-append b.path (t ∷ [])), ap (λ w. times kind w t.arc.weight) old.2 ∙ sym (product-push kind b.path t))

    only : (a : Part) → Has (no_arcs kind start ∷ extensions kind g parts) a → IsPath g start a.path a.end × (length a.path < k + 1) × (a.product ≡ product kind (letters a.path))
    only a (inl e) = subst (λ (z : Part). IsPath g start z.path z.end × (length z.path < k + 1) × (z.product ≡ product kind (letters z.path))) e (refl, omega arith, refl)
    only a (inr h) =
        let from = flat_has (λ (b : Part). map (one_more kind b) (outgoing b.end 0 (g.arcs b.end))) parts a h in
        let by = map_has (one_more kind from.0) (outgoing from.0.end 0 (g.arcs from.0.end)) a from.2 in
        longer from.0 by.0 a from.1 by.1 by.2

    ends : (front : List (Transition ℕ)) (t : Transition ℕ) (path : List (Transition ℕ)) (end : ℕ) → path ≡ front ++ t ∷ [] → IsPath g start path end → length path < k + 1 → Has (no_arcs kind start ∷ extensions kind g parts) (record { path = path; end = end; product = product kind (letters path) })
    ends front t path end same leads short =
        let cut = IsPath-split g front (t ∷ []) start end (subst (λ ts. IsPath g start ts end) same leads) in
        let old : Part = record { path = front; end = cut.0; product = product kind (letters front) } in
        let there = p.all front cut.0 cut.1 (omega (arith, ap length same, length-append front (t ∷ []))) in
        let goes = leaves_outgoing cut.0 0 t.place (g.arcs cut.0) t cut.2.0.0 (omega arith) cut.2.0.1 in
        let here : Has (extensions kind g parts) (one_more kind old t) = has_flat (λ (b : Part). map (one_more kind b) (outgoing b.end 0 (g.arcs b.end))) parts old (one_more kind old t) there (has_map (one_more kind old) (outgoing cut.0 0 (g.arcs cut.0)) t goes) in
        let weight : times kind (product kind (letters front)) t.arc.weight ≡ product kind (letters path) = sym (product-push kind front t) ∙ ap (λ ts. product kind (letters ts)) (sym same) in
        inr (subst (λ (z : Part). Has (extensions kind g parts) z) (λ i. record { path = sym same i; end = cut.2.1 i; product = weight i }) here)

    all : (path : List (Transition ℕ)) (end : ℕ) → IsPath g start path end → length path < k + 1 → Has (no_arcs kind start ∷ extensions kind g parts) (record { path = path; end = end; product = product kind (letters path) })
    all [] end here short = inl (λ i. record { path = []; end = here i; product = one_of kind })
    all (t ∷ path) end leads short = let last = last_arc t path in ends last.0 last.1 (t ∷ path) end last.2 leads short

-- none has less than 0 arcs
pub no_parts : (kind : ArcType) (g : Graph ℕ) (start : ℕ) → ArePartsBelow kind g start 0 []
no_parts kind g start = record { only = λ a none. absurd none; all = λ path end leads low. absurd (omega arith) }

-- one path more to be extended
pub extensions_more : {X : Type 0} (kind : ArcType) (g : Graph ℕ) (view : X → Part) (xs : List X) (i : ℕ) (x : X) → i < length xs → x ≡ get_or xs i x → extensions kind g (map view (take (i + 1) xs)) ≡ extensions kind g (map view (take i xs)) ++ map (one_more kind (view x)) (outgoing (view x).end 0 (g.arcs (view x).end))
extensions_more kind g view xs i x low at =
    let longer : map view (take (i + 1) xs) ≡ map view (take i xs) ++ view x ∷ [] = map_more view xs i x low ∙ ap (λ z. map view (take i xs) ++ view z ∷ []) (sym at) in
    let f : Part → List Part = λ a. map (one_more kind a) (outgoing a.end 0 (g.arcs a.end)) in
    ap (extensions kind g) longer ∙ (flat_map-append f (map view (take i xs)) (view x ∷ []) ∙ ap (λ zs. extensions kind g (map view (take i xs)) ++ zs) (append-nil (f (view x))))
