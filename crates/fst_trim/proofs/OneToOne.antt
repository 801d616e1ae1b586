-- Where the arcs of tied states are tied, the successful paths are, one to one.
use Rattle.std.proofs.Common.{◌≡◌, ℕ, List, [], ◌∷◌, Some, map, slice_get, sym, refl, ap, ap₂, ◌∙◌, subst}
use Rattle.std.proofs.lemmas.Option.{same_Some}
use Rattle.fst_semiring.specs.Cost.{Cost, infinite}
use Rattle.fst_semiring.specs.declared.arc_type.ArcType.{ArcType}
use Rattle.fst_semiring.specs.Semiring.{times}
use Rattle.fst_machine.specs.Machine.{Arc}
use Rattle.fst_machine.specs.Graph.{Graph}
use Rattle.fst_machine.specs.Letters.{letter_of, product}
use Rattle.fst_machine.specs.Paths.{Transition, IsPath, letters}
use Rattle.fst_machine.specs.Relation.{IsSuccessful}
use Rattle.fst_machine.specs.Cycles.{IsCoaccessible}
use Rattle.fst_machine.proofs.PathParts.{same_path}
use Rattle.fst_trim.specs.OneToOne.{Tied, IsOneToOne}

-- As Serves, with the places of the arcs: an arc of g whose end can reach a final name is tied to an arc of h.
pub record TiesArcs {N M : Type 0} (R : N → M → Type 0) (At : N → M → ℕ → ℕ → Type 0) (g : Graph N) (h : Graph M) : Type 0 where
  pub start : (n : N) → g.start ≡ Some n → IsCoaccessible g n → (m : M) × (h.start ≡ Some m) × R n m
  pub arcs : (n : N) (m : M) (k : ℕ) (a : Arc Cost N) → R n m → slice_get (g.arcs n) k ≡ Some a → IsCoaccessible g a.next → (j : ℕ) × (b : Arc Cost M) × (slice_get (h.arcs m) j ≡ Some b) × (letter_of b ≡ letter_of a) × R a.next b.next × At n m k j
  pub final : (n : N) (m : M) → R n m → h.final m ≡ g.final n

-- a place of a name is tied to one place of the other
pub record TiesOnce {N M : Type 0} (R : N → M → Type 0) (At : N → M → ℕ → ℕ → Type 0) : Type 0 where
  pub place : (n : N) (m l : M) (k j i : ℕ) → R n m → R n l → At n m k j → At n l k i → j ≡ i

module _ {N M : Type 0} (R : N → M → Type 0) (At : N → M → ℕ → ℕ → Type 0) where
  -- tied paths seen from the other side
  turned : (path : List (Transition N)) (other : List (Transition M)) → Tied (λ m n. R n m) (λ m n j k. At n m k j) other path → Tied R At path other
  turned [] [] r = tt
  turned [] (u ∷ other) r = absurd r
  turned (t ∷ path) [] r = absurd r
  turned (t ∷ path) (u ∷ other) r = (r.0, r.1, turned path other r.2)

  turned_back : (path : List (Transition N)) (other : List (Transition M)) → Tied R At path other → Tied (λ m n. R n m) (λ m n j k. At n m k j) other path
  turned_back [] [] r = tt
  turned_back [] (u ∷ other) r = absurd r
  turned_back (t ∷ path) [] r = absurd r
  turned_back (t ∷ path) (u ∷ other) r = (r.0, r.1, turned_back path other r.2)

  -- the new places are those of one path
  new_places : TiesOnce R At → (path : List (Transition N)) (one other : List (Transition M)) → Tied R At path one → Tied R At path other → ◌≡◌ {A = List ℕ} (map (λ t. t.place) one) (map (λ t. t.place) other)
  new_places once [] [] [] r s = refl
  new_places once [] [] (u ∷ other) r s = absurd s
  new_places once [] (u ∷ one) other r s = absurd r
  new_places once (t ∷ path) [] other r s = absurd r
  new_places once (t ∷ path) (u ∷ one) [] r s = absurd s
  new_places once (t ∷ path) (u ∷ one) (v ∷ other) r s = ap₂ (◌∷◌) (once.place t.state u.state v.state t.place u.place v.place r.0 s.0 r.1 s.1) (new_places once path one other r.2 s.2)

  module _ (g : Graph N) (h : Graph M) (s : TiesArcs R At g h) where
    -- a path to a final name has one tied to it, between tied names
    tied_path : (p q : N) (m : M) (path : List (Transition N)) → (g.final q ≡ infinite → ⊥) → R p m → IsPath g p path q → (other : List (Transition M)) × (end : M) × IsPath h m other end × (letters other ≡ letters path) × R q end × Tied R At path other
    tied_path p q m [] final tied here = ([], m, refl, refl, subst (λ z. R z m) here tied, tt)
    tied_path p q m (t ∷ path) final tied leads =
        let b = s.arcs p m t.place t.arc tied leads.0.1 (record { last = q; path = path; leads = leads.1; final = final }) in
        let rest = tied_path t.arc.next q b.1.next path final b.4 leads.1 in
        let u : Transition M = record { state = m; place = b.0; arc = b.1 } in
        let place : At t.state m t.place b.0 = subst (λ z. At z m t.place b.0) (sym leads.0.0) b.5 in
        (u ∷ rest.0, rest.1, ((refl, b.2), rest.2), ap₂ (◌∷◌) b.3 rest.3, rest.4, (subst (λ z. R z m) (sym leads.0.0) tied, place, rest.5))

    -- so has a successful path
    tied_successful : (kind : ArcType) (path : List (Transition N)) (w : Cost) → IsSuccessful kind g path w → (other : List (Transition M)) × IsSuccessful kind h other w × Tied R At path other × (letters other ≡ letters path)
    tied_successful kind path w r =
        let start = s.start r.first r.starts (record { last = r.last; path = path; leads = r.leads; final = r.final }) in
        let other = tied_path r.first r.last start.0 path r.final start.2 r.leads in
        let final : h.final other.1 ≡ g.final r.last = s.final r.last other.1 other.4 in (
          other.0,
          record {
            first = start.0;
            last = other.1;
            starts = start.1;
            leads = other.2;
            final = subst (λ (z : Cost). z ≡ infinite → ⊥) (sym final) r.final;
            weight = r.weight ∙ ap₂ (times kind) (ap (product kind) (sym other.3)) (sym final);
          },
          other.5,
          other.3,
        )

-- two successful paths by the same places are the same
same_successful : {N : Type 0} (kind : ArcType) (g : Graph N) (one other : List (Transition N)) (v w : Cost) → IsSuccessful kind g one v → IsSuccessful kind g other w → ◌≡◌ {A = List ℕ} (map (λ t. t.place) one) (map (λ t. t.place) other) → one ≡ other
same_successful kind g one other v w s t same =
    let first : t.first ≡ s.first = same_Some t.first s.first (sym t.starts ∙ s.starts) in
    let leads : IsPath g s.first other t.last = subst (λ i. IsPath g i other t.last) first t.leads in
    (same_path g one other s.first s.last t.last s.leads leads same).0

-- where arcs are tied both ways, and each to one, the successful paths are tied one to one
pub tied_one_to_one : {N M : Type 0} (R : N → M → Type 0) (At : N → M → ℕ → ℕ → Type 0) (g : Graph N) (h : Graph M)
    → TiesArcs R At g h → TiesArcs (λ m n. R n m) (λ m n j k. At n m k j) h g → TiesOnce R At → TiesOnce (λ m n. R n m) (λ m n j k. At n m k j) → (kind : ArcType) → IsOneToOne kind g h (Tied R At)
tied_one_to_one R At g h there back once only kind = record {
  there = λ path w s. tied_successful R At g h there kind path w s;
  back = λ other w s. let path = tied_successful (λ m n. R n m) (λ m n j k. At n m k j) h g back kind other w s in (path.0, path.1, turned R At path.0 other path.2, sym path.3);
  once = λ path one other v w s t r q. same_successful kind h one other v w s t (new_places R At once path one other r q);
  only = λ one other path v w s t r q. same_successful kind g one other v w s t (new_places (λ m n. R n m) (λ m n j k. At n m k j) only path one other (turned_back R At one path r) (turned_back R At other path q));
}
