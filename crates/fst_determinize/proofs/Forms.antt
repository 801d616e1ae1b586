-- Members and ways in their forms, and as plain values.
use Rattle.std.proofs.Common.{◌≡◌, ℕ, ◌+◌, ◌<◌, zero, suc, true, List, [], ◌∷◌, ◌++◌, Some, length, map, take, get_or, slice_get, refl, sym, ap, ◌∙◌, append-nil, append_assoc, arith}
use Rattle.std.specs.Option.{option_map}
use Rattle.std.proofs.lemmas.Grind.{flat_map-append}
use Rattle.std.proofs.lemmas.List.{map_more}
use Rattle.fst_semiring.specs.Cost.{Cost, best, finite, infinite, is_infinite, plus}
use Rattle.fst_semiring.specs.declared.arc_type.ArcType.{ArcType}
use Rattle.fst_semiring.proofs.Order.{plus_assoc, plus_comm}
use Rattle.fst_machine.specs.Graph.{graph_of}
use Rattle.fst_machine.specs.Machine.{Arc, Machine, valued, valued_arc}
use Rattle.fst_machine.proofs.Walking.{graph_arcs}
use Rattle.fst_determinize.specs.Kept.{HeldAs, member_as, members_as}
use Rattle.fst_determinize.specs.Subsets.{Member}
use Rattle.fst_determinize.specs.Ways.{Way, best_by, member_ways, way_by, ways}

-- what stands in a place
pub at_low : {X : Type 0} (xs : List X) (i : ℕ) (x : X) → slice_get xs i ≡ Some x → i < length xs
at_low [] i x e = absurd (cc)
at_low (y ∷ xs) zero x e = omega arith
at_low (y ∷ xs) (suc i) x e = let low = at_low xs i x e in omega (arith, low)

pub at_got : {X : Type 0} (xs : List X) (i : ℕ) (x : X) → slice_get xs i ≡ Some x → x ≡ get_or xs i x
at_got [] i x e = absurd (cc)
at_got (y ∷ xs) zero x e = cc
at_got (y ∷ xs) (suc i) x e = at_got xs i x e

-- a value that is told to be Zero is
pub zero_told : (v : Cost) → true ≡ is_infinite v → v ≡ infinite
zero_told best e = absurd (cc)
zero_told (finite a b) e = absurd (cc)
zero_told infinite e = refl

-- the best of elements with one more behind them
pub best_push : {X : Type 0} (weigh : X → Cost) (xs : List X) (x : X) → best_by weigh (xs ++ x ∷ []) ≡ plus (best_by weigh xs) (weigh x)
best_push weigh [] x = plus_comm (weigh x) infinite
best_push weigh (z ∷ xs) x = ap (plus (weigh z)) (best_push weigh xs x) ∙ sym (plus_assoc (weigh z) (best_by weigh xs) (weigh x))

-- one element more of a list that is seen in another form
pub best_more : {X Y : Type 0} (view : X → Y) (weigh : Y → Cost) (xs : List X) (i : ℕ) (x : X) (so_far new : Cost) → i < length xs → x ≡ get_or xs i x → so_far ≡ best_by weigh (map view (take i xs))
    → new ≡ plus so_far (weigh (view x)) → new ≡ best_by weigh (map view (take (i + 1) xs))
best_more view weigh xs i x so_far new low at before more =
    let longer = map_more view xs i x low in
    more ∙ (ap (λ v. plus v (weigh (view x))) before ∙ (sym (best_push weigh (map view (take i xs)) (view x)) ∙ ap (best_by weigh) (sym (longer ∙ ap (λ z. map view (take i xs) ++ view z ∷ []) (sym at)))))

-- the ways of one member more
module _ {V R : Type 0} (kind : ArcType) (value : V → Cost) (kept : R → Cost) (m : Machine V) (hs : List (HeldAs R)) where
  pub ways_more : (old so_far new : List Way) (i : ℕ) (h from : HeldAs R) (arcs : List (Arc V ℕ)) → i < length hs → h ≡ get_or hs i h → from ≡ h → option_map (λ s. s.arcs) (slice_get m.states from.state) ≡ Some arcs
      → so_far ≡ old ++ ways kind (graph_of (valued value m)) (members_as kept (take i hs)) → new ≡ so_far ++ map (way_by kind (member_as kept from)) (map (valued_arc value) arcs)
      → new ≡ old ++ ways kind (graph_of (valued value m)) (members_as kept (take (i + 1) hs))
  ways_more old so_far new i h from arcs low at here has before more =
      let g = graph_of (valued value m) in
      let f : Member → List Way = member_ways kind g in
      let own : map (way_by kind (member_as kept from)) (map (valued_arc value) arcs) ≡ f (member_as kept h) = ap (map (way_by kind (member_as kept from))) (sym (graph_arcs value m from.state arcs has)) ∙ ap (λ (z : HeldAs R). f (member_as kept z)) here in
      let longer = map_more (member_as kept) hs i h low in
      let whole : ways kind g (members_as kept (take (i + 1) hs)) ≡ ways kind g (members_as kept (take i hs)) ++ f (member_as kept h) =
      ap (ways kind g) (longer ∙ ap (λ (z : HeldAs R). members_as kept (take i hs) ++ member_as kept z ∷ []) (sym at)) ∙ (flat_map-append f (members_as kept (take i hs)) (member_as kept h ∷ []) ∙ ap (λ zs. ways kind g (members_as kept (take i hs)) ++ zs) (append-nil (f (member_as kept h)))) in
      more ∙ (ap (λ zs. so_far ++ zs) own ∙ (ap (λ zs. zs ++ f (member_as kept h)) before ∙ (append_assoc old (ways kind g (members_as kept (take i hs))) (f (member_as kept h)) ∙ ap (λ zs. old ++ zs) (sym whole))))
