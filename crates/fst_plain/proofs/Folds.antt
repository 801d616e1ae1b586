-- The best over arcs, one arc more, and over equal tables.
use Rattle.std.proofs.Common.{◌≡◌, ℕ, ◌+◌, ◌<◌, List, [], ◌∷◌, ◌++◌, length, take, map, get_or, sym, ap, ◌∙◌}
use Rattle.std.proofs.lemmas.List.{map_more}
use Rattle.fst_semiring.specs.Cost.{Cost, infinite, plus}
use Rattle.fst_semiring.specs.declared.arc_type.ArcType.{ArcType}
use Rattle.fst_semiring.specs.Semiring.{times}
use Rattle.fst_semiring.proofs.Order.{plus_assoc, plus_comm, plus_infinite}
use Rattle.fst_machine.specs.Machine.{Arc}
use Rattle.fst_machine.specs.Within.{behind, arc_weight, arcs_weight, ways_weight}

infinite_plus : (a : Cost) → plus infinite a ≡ a
infinite_plus a = plus_comm infinite a ∙ plus_infinite a

-- one way more
pub ways-push : (kind : ArcType) (rest : ℕ → Cost) (arcs : List (Arc Cost ℕ)) (a : Arc Cost ℕ) → ways_weight kind rest (arcs ++ a ∷ []) ≡ plus (ways_weight kind rest arcs) (times kind a.weight (rest a.next))
ways-push kind rest [] a = let way = times kind a.weight (rest a.next) in plus_infinite way ∙ sym (infinite_plus way)
ways-push kind rest (b ∷ arcs) a = ap (plus (times kind b.weight (rest b.next))) (ways-push kind rest arcs a) ∙ sym (plus_assoc (times kind b.weight (rest b.next)) (ways_weight kind rest arcs) (times kind a.weight (rest a.next)))

-- one arc more
pub arcs-push : (kind : ArcType) (rest : ℕ → List ℕ → List ℕ → Cost) (x y : List ℕ) (arcs : List (Arc Cost ℕ)) (a : Arc Cost ℕ) → arcs_weight kind rest x y (arcs ++ a ∷ []) ≡ plus (arcs_weight kind rest x y arcs) (arc_weight kind rest a (behind a.ilabel x) (behind a.olabel y))
arcs-push kind rest x y [] a = let way = arc_weight kind rest a (behind a.ilabel x) (behind a.olabel y) in plus_infinite way ∙ sym (infinite_plus way)
arcs-push kind rest x y (b ∷ arcs) a = ap (plus (arc_weight kind rest b (behind b.ilabel x) (behind b.olabel y))) (arcs-push kind rest x y arcs a) ∙ sym (plus_assoc (arc_weight kind rest b (behind b.ilabel x) (behind b.olabel y)) (arcs_weight kind rest x y arcs) (arc_weight kind rest a (behind a.ilabel x) (behind a.olabel y)))

-- the value of the first arcs, one more of them
pub ways_more : {X : Type 0} (kind : ArcType) (rest : ℕ → Cost) (view : X → Arc Cost ℕ) (xs : List X) (i : ℕ) (x : X) (w v : Cost) → i < length xs → x ≡ get_or xs i x → w ≡ ways_weight kind rest (map view (take i xs)) → v ≡ plus w (times kind (view x).weight (rest (view x).next)) → v ≡ ways_weight kind rest (map view (take (i + 1) xs))
ways_more kind rest view xs i x w v low at e f =
    let longer = map_more view xs i x low ∙ ap (λ z. map view (take i xs) ++ view z ∷ []) (sym at) in
    f ∙ (ap (λ z. plus z (times kind (view x).weight (rest (view x).next))) e ∙ (sym (ways-push kind rest (map view (take i xs)) (view x)) ∙ ap (ways_weight kind rest) (sym longer)))

-- the weight by the first arcs, one more of them
pub arcs_more : {X : Type 0} (kind : ArcType) (rest : ℕ → List ℕ → List ℕ → Cost) (view : X → Arc Cost ℕ) (x y : List ℕ) (xs : List X) (i : ℕ) (a : X) (e w v : Cost) → i < length xs → a ≡ get_or xs i a → w ≡ plus e (arcs_weight kind rest x y (map view (take i xs))) → v ≡ plus w (arc_weight kind rest (view a) (behind (view a).ilabel x) (behind (view a).olabel y)) → v ≡ plus e (arcs_weight kind rest x y (map view (take (i + 1) xs)))
arcs_more kind rest view x y xs i a e w v low at f g =
    let way = arc_weight kind rest (view a) (behind (view a).ilabel x) (behind (view a).olabel y) in
    let longer = map_more view xs i a low ∙ ap (λ z. map view (take i xs) ++ view z ∷ []) (sym at) in
    g ∙ (ap (λ z. plus z way) f ∙ (plus_assoc e (arcs_weight kind rest x y (map view (take i xs))) way ∙ ap (plus e) (sym (arcs-push kind rest x y (map view (take i xs)) (view a)) ∙ ap (arcs_weight kind rest x y) (sym longer))))
