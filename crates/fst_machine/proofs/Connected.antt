-- The connected machine relates what the machine relates.
use Rattle.std.proofs.Common.{◌≡◌, ◌↔◌, inl, inr, ℕ, zero, suc, List, [], ◌∷◌, ◌++◌, Some, slice_get, sym, refl, ap, ◌∙◌, subst}
use Rattle.fst_semiring.specs.Cost.{Cost}
use Rattle.fst_semiring.specs.declared.arc_type.ArcType.{ArcType}
use Rattle.fst_machine.specs.Machine.{Arc, Machine}
use Rattle.fst_machine.specs.Graph.{Graph, graph_of}
use Rattle.fst_machine.specs.Letters.{letter_of}
use Rattle.fst_machine.specs.Relation.{Rel}
use Rattle.fst_machine.specs.Cycles.{IsAccessible}
use Rattle.fst_machine.specs.Serving.{Serves}
use Rattle.fst_machine.specs.BreadthFirst.{Has}
use Rattle.fst_machine.specs.Connected.{Kept, IsConnected, IsKeptAt}
use Rattle.fst_machine.proofs.PathParts.{IsPath-append}
use Rattle.fst_machine.proofs.Elements.{Has_at, at_Has}
use Rattle.fst_machine.proofs.Serving.{served-Rel}

-- an arc further leads from an accessible name to one
pub accessible_next : {N : Type 0} (g : Graph N) (p : N) (k : ℕ) (a : Arc Cost N) → IsAccessible g p → slice_get (g.arcs p) k ≡ Some a → IsAccessible g a.next
accessible_next g p k a h has = record {
  first = h.first;
  path = h.path ++ record { state = p; place = k; arc = a } ∷ [];
  starts = h.starts;
  leads = IsPath-append g h.path _ h.first p a.next h.leads ((refl, has), refl);
}

-- an arc that is left out moves no new place
skips : (kept : List ℕ) (a : Arc Cost ℕ) (arcs : List (Arc Cost ℕ)) (k j : ℕ) → (Has kept a.next → ⊥) → IsKeptAt kept arcs k j → IsKeptAt kept (a ∷ arcs) (suc k) j
skips kept a arcs k zero none h = (none, h)
skips kept a arcs k (suc j) none h = inr (none, h)

-- a kept arc has a new one, in its new place
pub Kept_has : (kept : List ℕ) (arcs new : List (Arc Cost ℕ)) (k : ℕ) (a : Arc Cost ℕ) → Kept kept arcs new → slice_get arcs k ≡ Some a → Has kept a.next → (j : ℕ) × (b : Arc Cost ℕ) × (slice_get new j ≡ Some b) × (letter_of b ≡ letter_of a) × (slice_get kept b.next ≡ Some a.next) × IsKeptAt kept arcs k j
Kept_has kept [] new k a h has stays = absurd (cc)
Kept_has kept (c ∷ arcs) [] zero a h has stays = let same : c ≡ a = cc in absurd (h.0 (subst (λ (d : Arc Cost ℕ). Has kept d.next) (sym same) stays))
Kept_has kept (c ∷ arcs) [] (suc k) a h has stays = let rest = Kept_has kept arcs [] k a h.1 has stays in (rest.0, rest.1, rest.2, rest.3, rest.4, skips kept c arcs k rest.0 h.0 rest.5)
Kept_has kept (c ∷ arcs) (b ∷ new) zero a (inl h) has stays = let same : c ≡ a = cc in absurd (h.0 (subst (λ (d : Arc Cost ℕ). Has kept d.next) (sym same) stays))
Kept_has kept (c ∷ arcs) (b ∷ new) zero a (inr h) has stays = let same : c ≡ a = cc in (0, b, refl, h.1 ∙ ap letter_of same, h.0 ∙ ap (λ (d : Arc Cost ℕ). Some d.next) same, (at_Has kept b.next c.next h.0, refl))
Kept_has kept (c ∷ arcs) (b ∷ new) (suc k) a (inl h) has stays = let rest = Kept_has kept arcs (b ∷ new) k a h.1 has stays in (rest.0, rest.1, rest.2, rest.3, rest.4, skips kept c arcs k rest.0 h.0 rest.5)
Kept_has kept (c ∷ arcs) (b ∷ new) (suc k) a (inr h) has stays = let rest = Kept_has kept arcs new k a h.2 has stays in (suc rest.0, rest.1, rest.2, rest.3, rest.4, inl (at_Has kept b.next c.next h.0, rest.5))

-- and a new arc comes from one, in its old place
pub Kept_from : (kept : List ℕ) (arcs new : List (Arc Cost ℕ)) (j : ℕ) (b : Arc Cost ℕ) → Kept kept arcs new → slice_get new j ≡ Some b → (k : ℕ) × (a : Arc Cost ℕ) × (slice_get arcs k ≡ Some a) × (letter_of a ≡ letter_of b) × (slice_get kept b.next ≡ Some a.next) × IsKeptAt kept arcs k j
Kept_from kept [] [] j b h has = absurd (cc)
Kept_from kept [] (c ∷ new) j b h has = absurd h
Kept_from kept (a ∷ arcs) [] j b h has = absurd (cc)
Kept_from kept (a ∷ arcs) (c ∷ new) j b (inl h) has = let rest = Kept_from kept arcs (c ∷ new) j b h.1 has in (suc rest.0, rest.1, rest.2, rest.3, rest.4, skips kept a arcs rest.0 j h.0 rest.5)
Kept_from kept (a ∷ arcs) (c ∷ new) zero b (inr h) has = let same : c ≡ b = cc in (0, a, refl, sym h.1 ∙ ap letter_of same, ap (λ (d : Arc Cost ℕ). slice_get kept d.next) (sym same) ∙ h.0, (at_Has kept c.next a.next h.0, refl))
Kept_from kept (a ∷ arcs) (c ∷ new) (suc j) b (inr h) has = let rest = Kept_from kept arcs new j b h.2 has in (suc rest.0, rest.1, rest.2, rest.3, rest.4, inl (at_Has kept c.next a.next h.0, rest.5))

-- the kept arc in a place has one new place
pub one_place : (kept : List ℕ) (arcs : List (Arc Cost ℕ)) (k j i : ℕ) → IsKeptAt kept arcs k j → IsKeptAt kept arcs k i → j ≡ i
one_place kept [] k j i h g = absurd h
one_place kept (a ∷ arcs) zero j i h g = h.1 ∙ sym g.1
one_place kept (a ∷ arcs) (suc k) zero zero h g = refl
one_place kept (a ∷ arcs) (suc k) zero (suc i) h (inl g) = absurd (h.0 g.0)
one_place kept (a ∷ arcs) (suc k) zero (suc i) h (inr g) = one_place kept arcs k zero (suc i) h.1 g.1
one_place kept (a ∷ arcs) (suc k) (suc j) zero (inl h) g = absurd (g.0 h.0)
one_place kept (a ∷ arcs) (suc k) (suc j) zero (inr h) g = one_place kept arcs k (suc j) zero h.1 g.1
one_place kept (a ∷ arcs) (suc k) (suc j) (suc i) (inl h) (inl g) = ap suc (one_place kept arcs k j i h.1 g.1)
one_place kept (a ∷ arcs) (suc k) (suc j) (suc i) (inl h) (inr g) = absurd (g.0 h.0)
one_place kept (a ∷ arcs) (suc k) (suc j) (suc i) (inr h) (inl g) = absurd (h.0 g.0)
one_place kept (a ∷ arcs) (suc k) (suc j) (suc i) (inr h) (inr g) = one_place kept arcs k (suc j) (suc i) h.1 g.1

-- and a new place is that of one arc
pub one_arc : (kept : List ℕ) (arcs : List (Arc Cost ℕ)) (k l j : ℕ) → IsKeptAt kept arcs k j → IsKeptAt kept arcs l j → k ≡ l
one_arc kept [] k l j h g = absurd h
one_arc kept (a ∷ arcs) zero zero j h g = refl
one_arc kept (a ∷ arcs) zero (suc l) zero h g = absurd (g.0 h.0)
one_arc kept (a ∷ arcs) zero (suc l) (suc j) h g = let e : suc j ≡ 0 = h.1 in absurd (cc)
one_arc kept (a ∷ arcs) (suc k) zero zero h g = absurd (h.0 g.0)
one_arc kept (a ∷ arcs) (suc k) zero (suc j) h g = let e : suc j ≡ 0 = g.1 in absurd (cc)
one_arc kept (a ∷ arcs) (suc k) (suc l) zero h g = ap suc (one_arc kept arcs k l zero h.1 g.1)
one_arc kept (a ∷ arcs) (suc k) (suc l) (suc j) (inl h) (inl g) = ap suc (one_arc kept arcs k l j h.1 g.1)
one_arc kept (a ∷ arcs) (suc k) (suc l) (suc j) (inl h) (inr g) = absurd (g.0 h.0)
one_arc kept (a ∷ arcs) (suc k) (suc l) (suc j) (inr h) (inl g) = absurd (h.0 g.0)
one_arc kept (a ∷ arcs) (suc k) (suc l) (suc j) (inr h) (inr g) = ap suc (one_arc kept arcs k l (suc j) h.1 g.1)

module _ (m c : Machine Cost) (h : IsConnected m c) where
  -- the arcs of the connected machine serve for those of the machine
  pub connected_serves : Serves (λ (p i : ℕ). slice_get h.kept i ≡ Some p) (graph_of m) (graph_of c)
  connected_serves = record {
    start = λ p starts reaches. let place = Has_at h.kept p ((h.useful p).1 (record { first = p; path = []; starts = starts; leads = refl }, reaches)) in (place.0, (h.start place.0).1 (p, starts, place.1), place.1);
    arcs = λ p i k a tied has reaches.
        let further = accessible_next (graph_of m) p k a ((h.useful p).0 (at_Has h.kept i p tied)).0 has in
        let new = Kept_has h.kept ((graph_of m).arcs p) ((graph_of c).arcs i) k a (h.arcs i p tied) has ((h.useful a.next).1 (further, reaches)) in
        (new.0, new.1, new.2, new.3, new.4);
    final = λ p i tied. h.final i p tied;
  }

  -- and the other way round
  pub machine_serves : Serves (λ (i p : ℕ). slice_get h.kept i ≡ Some p) (graph_of c) (graph_of m)
  machine_serves = record {
    start = λ i starts reaches. (h.start i).0 starts;
    arcs = λ i p j b tied has reaches. let old = Kept_from h.kept ((graph_of m).arcs p) ((graph_of c).arcs i) j b (h.arcs i p tied) has in (old.0, old.1, old.2, old.3, old.4);
    final = λ i p tied. sym (h.final i p tied);
  }

  -- so both relate the same
  pub connected-Rel : (kind : ArcType) (x y : List ℕ) (w : Cost) → Rel kind (graph_of m) x y w ↔ Rel kind (graph_of c) x y w
  connected-Rel kind x y w = (served-Rel _ (graph_of m) (graph_of c) connected_serves kind x y w, served-Rel _ (graph_of c) (graph_of m) machine_serves kind x y w)
