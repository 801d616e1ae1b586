-- A subset of one member from which no label leads twice: each of its arcs is made of one way.
use Rattle.std.proofs.Common.{◌≡◌, ◌≢◌, ◌⊎◌, inl, inr, ℕ, ◌+◌, ◌<◌, ◌≤◌, List, [], ◌∷◌, ◌++◌, append-nil, Some, length, map, take, get_or, slice_get, refl, sym, ap, ◌∙◌, subst, arith}
use Rattle.std.specs.List.{All}
use Rattle.std.specs.Option.{option_map}
use Rattle.std.proofs.lemmas.List.{take_more}
use Rattle.fst_semiring.specs.Cost.{Cost, infinite}
use Rattle.fst_semiring.specs.Semiring.{IsWide, times}
use Rattle.fst_semiring.specs.declared.arc_type.ArcType.{ArcType}
use Rattle.fst_machine.specs.BreadthFirst.{Has}
use Rattle.fst_machine.specs.Graph.{Graph, graph_of}
use Rattle.fst_machine.specs.Machine.{Arc, Machine, valued, valued_arc}
use Rattle.fst_machine.proofs.Elements.{Has-append_cases}
use Rattle.fst_machine.proofs.Walking.{graph_arcs}
use Rattle.fst_determinize.specs.Kept.{HeldAs, member_as}
use Rattle.fst_determinize.specs.Subsets.{AscendsBy, Member}
use Rattle.fst_determinize.specs.Ways.{Way, arc_by, arcs_by, member_ways, single_arc, subsets, way_by, ways}
use Rattle.fst_trim.specs.Weighed.{IsWeighed}
use Rattle.fst_determinize.specs.Weighed.{AreMembers}
use Rattle.fst_determinize.proofs.Elements.{Has_flat_map, Has_map, map_Has}
use Rattle.fst_determinize.proofs.Grouped.{grouped_split}
use Rattle.fst_determinize.proofs.Machines.{ways_good}
use Rattle.fst_determinize.proofs.Runs.{Has_All}

module _ {X : Type 0} (key : X → ℕ) where
  -- an element with a greater key than all others may stand behind them
  ascends_push : (xs : List X) (x : X) → AscendsBy key xs → ((y : X) → Has xs y → key y < key x) → AscendsBy key (xs ++ x ∷ [])
  ascends_push [] x up low = ((λ y none. absurd none), tt)
  ascends_push (z ∷ xs) x up low = ((λ y h. first y (Has-append_cases xs (x ∷ []) y h)), ascends_push xs x up.1 (λ y h. low y (inr h)))
    where
      first : (y : X) → Has xs y ⊎ Has (x ∷ []) y → key z < key y
      first y (inl h) = up.0 y h
      first y (inr (inl e)) = subst (λ (u : X). key z < key u) e (low z (inl refl))
      first y (inr (inr none)) = absurd none

  -- all keys of a list stand below a bound
  abbrev pub AreBelow : ℕ → List X → Type 0
  AreBelow least xs = (y : X) → Has xs y → key y < least

  -- one element more that is not below the bound, and a bound above it
  pub ascends_more : (xs : List X) (i : ℕ) (x : X) (least more : ℕ) → i < length xs → x ≡ get_or xs i x → AscendsBy key (take i xs) → AreBelow least (take i xs) → least ≤ key x → more ≡ key x + 1
      → AscendsBy key (take (i + 1) xs) × AreBelow more (take (i + 1) xs)
  ascends_more xs i x least more low at up below le is =
      subst (λ (zs : List X). AscendsBy key zs × AreBelow more zs) (sym (take_more xs i x low ∙ ap (λ (y : X). take i xs ++ y ∷ []) (sym at)))
      (ascends_push (take i xs) x up (λ y h. let b = below y h in omega (arith, b, le)), λ y h. last y (Has-append_cases (take i xs) (x ∷ []) y h))
    where
      last : (y : X) → Has (take i xs) y ⊎ Has (x ∷ []) y → key y < more
      last y (inl h) = let b = below y h in omega (arith, b, le, is)
      last y (inr (inl e)) = let same : key x ≡ key y = ap key e in omega (arith, same, is)
      last y (inr (inr none)) = absurd none

-- lists of which one is made of the other, with the same keys
ascends_map : {X Y : Type 0} (own : X → ℕ) (key : Y → ℕ) (f : X → Y) → ((x : X) → key (f x) ≡ own x) → (xs : List X) → AscendsBy own xs → AscendsBy key (map f xs)
ascends_map own key f same [] up = tt
ascends_map {X} {Y} own key f same (x ∷ xs) up = ((λ y h. later y (map_Has f xs y h)), ascends_map own key f same xs up.1)
  where
    later : (y : Y) → (z : X) × Has xs z × (f z ≡ y) → key (f x) < key y
    later y from =
        let less = up.0 from.0 from.1 in
        let one = same x in
        let two : key y ≡ own from.0 = sym (ap key from.2) ∙ same from.0 in
        omega (arith, less, one, two)

-- where labels ascend, each arc is made of one way
pub arcs_single : (kind : ArcType) (ys : List Way) → AscendsBy (λ y. y.label) ys → arcs_by kind ys ≡ map (single_arc kind) ys
arcs_single kind [] up = refl
arcs_single kind (y ∷ ys) up = grouped_split (λ (z : Way). z.label) (arc_by kind) y.label y [] ys here up.0 ∙ ap (λ bs. single_arc kind y ∷ bs) (arcs_single kind ys up.1)
  where
    here : (z : Way) → Has (y ∷ []) z → z.label ≡ y.label
    here z (inl e) = sym (ap (λ (u : Way). u.label) e)
    here z (inr none) = absurd none

-- The arcs of the only member of a subset.
module _ {V R : Type 0} (kind : ArcType) (value : V → Cost) (m : Machine V) (kept : R → Cost) (first from : HeldAs R) (members : List Member) (arcs : List (Arc V ℕ))
    (same : member_as kept first ∷ [] ≡ members) (here : from ≡ first) (has : option_map (λ s. s.arcs) (slice_get m.states from.state) ≡ Some arcs) where
  own : (graph_of (valued value m)).arcs first.state ≡ map (valued_arc value) arcs
  own = sym (ap (λ (h : HeldAs R). (graph_of (valued value m)).arcs h.state) here) ∙ graph_arcs value m from.state arcs has

  -- the products of its residual and their weights can be divided, and divided by
  pub single_good : IsWeighed kind value m → AreMembers (length m.states) members
      → All (λ a. times kind (kept first.residual) (value a.weight) ≢ infinite) arcs × All (λ a. IsWide (times kind (kept first.residual) (value a.weight))) arcs
  single_good h good = (Has_All (λ (a : Arc V ℕ). times kind (kept first.residual) (value a.weight) ≢ infinite) arcs (λ a k. (one a k).2), Has_All (λ (a : Arc V ℕ). IsWide (times kind (kept first.residual) (value a.weight))) arcs (λ a k. (one a k).1))
    where
      g : Graph ℕ
      g = graph_of (valued value m)

      there : (a : Arc V ℕ) → Has arcs a → Has (ways kind g members) (way_by kind (member_as kept first) (valued_arc value a))
      there a k =
          Has_flat_map (member_ways kind g) members (member_as kept first) (way_by kind (member_as kept first) (valued_arc value a)) (subst (λ (ms : List Member). Has ms (member_as kept first)) same (inl refl))
          (Has_map (way_by kind (member_as kept first)) (g.arcs first.state) (valued_arc value a) (subst (λ (bs : List (Arc Cost ℕ)). Has bs (valued_arc value a)) (sym own) (Has_map (valued_arc value) arcs a k)))

      one : (a : Arc V ℕ) → Has arcs a → ((way_by kind (member_as kept first) (valued_arc value a)).state < 4294967296) × IsWide (times kind (kept first.residual) (value a.weight)) × (times kind (kept first.residual) (value a.weight) ≢ infinite)
      one a k = ways_good kind value m h members good (way_by kind (member_as kept first) (valued_arc value a)) (there a k)

  -- where their labels ascend, the arcs of the subset are those of single ways
  pub single_arcs : AscendsBy (λ a. a.ilabel) arcs → map (single_arc kind) (map (way_by kind (member_as kept first)) (map (valued_arc value) arcs)) ≡ (subsets kind (graph_of (valued value m))).arcs members
  single_arcs up =
      let n : Member = member_as kept first in
      let made : List Way = map (way_by kind n) (map (valued_arc value) arcs) in
      let ascends : AscendsBy (λ (y : Way). y.label) made =
      ascends_map (λ (a : Arc Cost ℕ). a.ilabel) (λ (y : Way). y.label) (way_by kind n) (λ a. refl) (map (valued_arc value) arcs) (ascends_map (λ (a : Arc V ℕ). a.ilabel) (λ (a : Arc Cost ℕ). a.ilabel) (valued_arc value) (λ a. refl) arcs up) in
      let whole : made ≡ ways kind (graph_of (valued value m)) (n ∷ []) = ap (map (way_by kind n)) (sym own) ∙ sym (append-nil (map (way_by kind n) ((graph_of (valued value m)).arcs first.state))) in
      sym (arcs_single kind made ascends) ∙ ap (arcs_by kind) (whole ∙ ap (ways kind (graph_of (valued value m))) same)
