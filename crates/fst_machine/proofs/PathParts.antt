-- Paths that meet, paths that are cut, and paths as they are written down.
use Rattle.std.proofs.Common.{◌≡◌, ℕ, List, [], ◌∷◌, ◌++◌, Option, None, Some, slice_get, map, sym, refl, ap, ap₂, ◌∙◌, subst}
use Rattle.std.proofs.lemmas.Option.{same_Some}
use Rattle.fst_machine.specs.Graph.{Graph}
use Rattle.fst_machine.specs.Paths.{Transition, Leaves, IsPath, places, HasSome, IsWalk}

-- two paths that meet are one path
pub IsPath-append : {N : Type 0} (g : Graph N) (path rest : List (Transition N)) (p q r : N) → IsPath g p path q → IsPath g q rest r → IsPath g p (path ++ rest) r
IsPath-append g [] rest p q r here more = subst (λ z. IsPath g z rest r) (sym here) more
IsPath-append g (t ∷ path) rest p q r leads more = (leads.0, IsPath-append g path rest t.arc.next q r leads.1 more)

-- a path can be cut at any place
pub IsPath-split : {N : Type 0} (g : Graph N) (path rest : List (Transition N)) (p r : N) → IsPath g p (path ++ rest) r → (q : N) × IsPath g p path q × IsPath g q rest r
IsPath-split g [] rest p r leads = (p, refl, leads)
IsPath-split g (t ∷ path) rest p r leads =
    let cut = IsPath-split g path rest t.arc.next r leads.1 in
    (cut.0, (leads.0, cut.1), cut.2)

-- what is asked of an option's value holds of the value that it has
HasSome-at : {X : Type 0} (o : Option X) (P : X → Type 0) (x : X) → o ≡ Some x → P x → HasSome o P
HasSome-at o P x e h = subst (λ z. HasSome z P) (sym e) h

-- an option that has to have a value has one
HasSome-gives : {X : Type 0} (o : Option X) (P : X → Type 0) → HasSome o P → (x : X) × (o ≡ Some x) × P x
HasSome-gives None P h = absurd h
HasSome-gives (Some x) P h = (x, refl, h)

-- a path, written down, is a list of states and places that leads to the same end
pub walk_of_path : {N : Type 0} (g : Graph N) (path : List (Transition N)) (p q : N) → IsPath g p path q → IsWalk g p (places path) q
walk_of_path g [] p q here = here
walk_of_path g (t ∷ path) p q leads = (leads.0.0, HasSome-at (slice_get (g.arcs p) t.place) (λ a. IsWalk g a.next (places path) q) t.arc leads.0.1 (walk_of_path g path t.arc.next q leads.1))

-- a list of states and places that leads somewhere is a path, written down
pub path_of_walk : {N : Type 0} (g : Graph N) (walk : List (N × ℕ)) (p q : N) → IsWalk g p walk q → (path : List (Transition N)) × IsPath g p path q × (places path ≡ walk)
path_of_walk g [] p q here = ([], here, refl)
path_of_walk {N} g (s ∷ walk) p q leads =
    let has = HasSome-gives (slice_get (g.arcs p) s.1) (λ a. IsWalk g a.next walk q) leads.1 in
    let rest = path_of_walk g walk has.0.next q has.2 in
    let t : Transition N = record { state = s.0; place = s.1; arc = has.0 } in
    (t ∷ rest.0, ((leads.0, has.1), rest.1), ap (λ z. s ∷ z) rest.2)

-- two transitions that leave one name by one place are the same
pub same_transition : {N : Type 0} (g : Graph N) (p : N) (s t : Transition N) → Leaves g p s → Leaves g p t → s.place ≡ t.place → s ≡ t
same_transition {N} g p s t one two e =
    let arcs : s.arc ≡ t.arc = same_Some s.arc t.arc (sym one.1 ∙ (ap (slice_get (g.arcs p)) e ∙ two.1)) in
    let states : s.state ≡ t.state = one.0 ∙ sym two.0 in
    λ i. record { state = states i; place = e i; arc = arcs i }

-- the places of the arcs fix a path, and with it where it ends
pub same_path : {N : Type 0} (g : Graph N) (xs ys : List (Transition N)) (p q r : N) → IsPath g p xs q → IsPath g p ys r → ◌≡◌ {A = List ℕ} (map (λ t. t.place) xs) (map (λ t. t.place) ys) → (xs ≡ ys) × (q ≡ r)
same_path g [] [] p q r one two e = (refl, sym one ∙ two)
same_path g [] (t ∷ ys) p q r one two e = absurd (cc)
same_path g (s ∷ xs) [] p q r one two e = absurd (cc)
same_path {N} g (s ∷ xs) (t ∷ ys) p q r one two e =
    let here : s.place ≡ t.place = cc in
    let more : ◌≡◌ {A = List ℕ} (map (λ t. t.place) xs) (map (λ t. t.place) ys) = cc in
    let same : s ≡ t = same_transition g p s t one.0 two.0 here in
    let moved : IsPath g s.arc.next ys r = subst (λ (z : Transition N). IsPath g z.arc.next ys r) (sym same) two.1 in
    let rest = same_path g xs ys s.arc.next q r one.1 moved more in
    (ap₂ (◌∷◌) same rest.0, rest.1)
