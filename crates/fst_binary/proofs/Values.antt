-- Machines by the values of their weights.
use Rattle.std.proofs.Common.{◌≡◌, ℕ, List, [], ◌∷◌, map, refl, ap}
use Rattle.fst_semiring.specs.Cost.{Cost}
use Rattle.fst_machine.specs.Machine.{Arc, State, Machine, valued, valued_arc, valued_state}

same_arc : {V : Type 0} (value : V → Cost) (apart : (a b : V) → value a ≡ value b → a ≡ b) (a b : Arc V ℕ) → valued_arc value a ≡ valued_arc value b → a ≡ b
same_arc value apart a b e =
    let i : a.ilabel ≡ b.ilabel = ap (λ (x : Arc Cost ℕ). x.ilabel) e in
    let o : a.olabel ≡ b.olabel = ap (λ (x : Arc Cost ℕ). x.olabel) e in
    let w : a.weight ≡ b.weight = apart a.weight b.weight (ap (λ (x : Arc Cost ℕ). x.weight) e) in
    let n : a.next ≡ b.next = ap (λ (x : Arc Cost ℕ). x.next) e in
    λ j. record { ilabel = i j; olabel = o j; weight = w j; next = n j }

head_is : {X : Type 0} (x y : X) (xs ys : List X) → x ∷ xs ≡ y ∷ ys → x ≡ y
head_is x y xs ys e = cc

tail_is : {X : Type 0} (x y : X) (xs ys : List X) → x ∷ xs ≡ y ∷ ys → xs ≡ ys
tail_is x y xs ys e = cc

same_list : {X Y : Type 0} (f : X → Y) (apart : (a b : X) → f a ≡ f b → a ≡ b) (xs ys : List X) → map f xs ≡ map f ys → xs ≡ ys
same_list f apart [] [] e = refl
same_list f apart [] (y ∷ ys) e = absurd cc
same_list f apart (x ∷ xs) [] e = absurd cc
same_list f apart (x ∷ xs) (y ∷ ys) e =
    let first = apart x y (head_is (f x) (f y) (map f xs) (map f ys) e) in
    let rest = same_list f apart xs ys (tail_is (f x) (f y) (map f xs) (map f ys) e) in
    λ j. first j ∷ rest j

same_state : {V : Type 0} (value : V → Cost) (apart : (a b : V) → value a ≡ value b → a ≡ b) (s t : State V) → valued_state value s ≡ valued_state value t → s ≡ t
same_state value apart s t e =
    let f : s.final ≡ t.final = apart s.final t.final (ap (λ (x : State Cost). x.final) e) in
    let a : s.arcs ≡ t.arcs = same_list (valued_arc value) (same_arc value apart) s.arcs t.arcs (ap (λ (x : State Cost). x.arcs) e) in
    λ j. record { final = f j; arcs = a j }

pub same_machine : {V : Type 0} (value : V → Cost) (apart : (a b : V) → value a ≡ value b → a ≡ b) (m n : Machine V) → valued value m ≡ valued value n → m ≡ n
same_machine value apart m n e =
    let s : m.start ≡ n.start = ap (λ (x : Machine Cost). x.start) e in
    let t : m.states ≡ n.states = same_list (valued_state value) (same_state value apart) m.states n.states (ap (λ (x : Machine Cost). x.states) e) in
    λ j. record { start = s j; states = t j }
