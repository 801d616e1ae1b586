-- Good paths stay.
use Rattle.std.proofs.Common.{◌≡◌, inl, inr, sym, refl, ap, ap₂, ◌∙◌, subst, ℕ, ◌+◌, zero, suc, List, [], ◌∷◌, ◌++◌, Some, slice_get, append_assoc, arith}
use Rattle.std.proofs.lemmas.Option.{same_Some}
use Rattle.fst_semiring.specs.Cost.{Cost}
use Rattle.fst_semiring.specs.declared.arc_type.ArcType.{ArcType}
use Rattle.fst_semiring.specs.Semiring.{times}
use Rattle.fst_machine.specs.Machine.{Arc, Machine}
use Rattle.fst_machine.specs.Graph.{graph_of}
use Rattle.fst_machine.specs.Letters.{letter_of, product}
use Rattle.fst_machine.specs.Paths.{IsPath, Transition, letters}
use Rattle.fst_machine.specs.Relation.{IsSuccessful}
use Rattle.fst_select.specs.Good.{Ends, IsGood, Meets, Takes}
use Rattle.fst_select.specs.Pruned.{GoodArc, IsPruned, KeptArcs, PrunedLaws}
use Rattle.fst_machine.proofs.Elements.{Has_at}
use Rattle.fst_machine.proofs.PathParts.{IsPath-append}

-- an arc that passes is kept
kept_there : (kept : List ℕ) (P : ℕ → Arc Cost ℕ → Type 0) (k : ℕ) (arcs new : List (Arc Cost ℕ)) (j : ℕ) (a : Arc Cost ℕ) → KeptArcs kept P k arcs new → slice_get arcs j ≡ Some a → P (k + j) a
    → (i : ℕ) × (b : Arc Cost ℕ) × (slice_get new i ≡ Some b) × (slice_get kept b.next ≡ Some a.next) × (letter_of b ≡ letter_of a)
kept_there kept P k [] new j a h at passes = absurd (cc)
kept_there kept P k (x ∷ arcs) [] zero a h at passes =
    let same : x ≡ a = same_Some x a at in
    let here : k + 0 ≡ k = omega arith in
    absurd (h.0 (subst (λ (z : Arc Cost ℕ). P k z) (sym same) (subst (λ (n : ℕ). P n a) here passes)))
kept_there kept P k (x ∷ arcs) [] (suc j) a h at passes =
    let on : k + suc j ≡ k + 1 + j = omega arith in
    kept_there kept P (k + 1) arcs [] j a h.1 at (subst (λ (n : ℕ). P n a) on passes)
kept_there kept P k (x ∷ arcs) (b ∷ new) zero a (inl h) at passes =
    let same : x ≡ a = same_Some x a at in
    let here : k + 0 ≡ k = omega arith in
    absurd (h.0 (subst (λ (z : Arc Cost ℕ). P k z) (sym same) (subst (λ (n : ℕ). P n a) here passes)))
kept_there kept P k (x ∷ arcs) (b ∷ new) (suc j) a (inl h) at passes =
    let on : k + suc j ≡ k + 1 + j = omega arith in
    kept_there kept P (k + 1) arcs (b ∷ new) j a h.1 at (subst (λ (n : ℕ). P n a) on passes)
kept_there kept P k (x ∷ arcs) (b ∷ new) zero a (inr h) at passes =
    let same : x ≡ a = same_Some x a at in
    (0, b, refl, h.1 ∙ ap (λ (z : Arc Cost ℕ). Some z.next) same, h.2 ∙ ap letter_of same)
kept_there kept P k (x ∷ arcs) (b ∷ new) (suc j) a (inr h) at passes =
    let on : k + suc j ≡ k + 1 + j = omega arith in
    let rest = kept_there kept P (k + 1) arcs new j a h.3 at (subst (λ (n : ℕ). P n a) on passes) in
    (suc rest.0, rest.1, rest.2, rest.3, rest.4)

-- and each that is kept passed
kept_back : (kept : List ℕ) (P : ℕ → Arc Cost ℕ → Type 0) (k : ℕ) (arcs new : List (Arc Cost ℕ)) (i : ℕ) (b : Arc Cost ℕ) → KeptArcs kept P k arcs new → slice_get new i ≡ Some b
    → (j : ℕ) × (a : Arc Cost ℕ) × (slice_get arcs j ≡ Some a) × P (k + j) a × (letter_of b ≡ letter_of a)
kept_back kept P k [] [] i b h at = absurd (cc)
kept_back kept P k [] (x ∷ new) i b h at = absurd h
kept_back kept P k (a ∷ arcs) [] i b h at = absurd (cc)
kept_back kept P k (a ∷ arcs) (x ∷ new) i b (inl h) at =
    let rest = kept_back kept P (k + 1) arcs (x ∷ new) i b h.1 at in
    let on : k + 1 + rest.0 ≡ k + suc rest.0 = omega arith in
    (suc rest.0, rest.1, rest.2, subst (λ (n : ℕ). P n rest.1) on rest.3, rest.4)
kept_back kept P k (a ∷ arcs) (x ∷ new) zero b (inr h) at =
    let same : x ≡ b = same_Some x b at in
    let here : k ≡ k + 0 = omega arith in
    (0, a, refl, subst (λ (n : ℕ). P n a) here h.0, ap letter_of (sym same) ∙ h.2)
kept_back kept P k (a ∷ arcs) (x ∷ new) (suc i) b (inr h) at =
    let rest = kept_back kept P (k + 1) arcs new i b h.3 at in
    let on : k + 1 + rest.0 ≡ k + suc rest.0 = omega arith in
    (suc rest.0, rest.1, rest.2, subst (λ (n : ℕ). P n rest.1) on rest.3, rest.4)

module _ (kind : ArcType) (threshold : Cost) (m c : Machine Cost) (is : IsPruned kind threshold m c) where
  -- the rest of a good path, by new numbers
  pub record Moved (i : ℕ) (rest : List (Transition ℕ)) (last : ℕ) : Type 0 where
    pub other : List (Transition ℕ)
    pub end : ℕ
    pub leads : IsPath (graph_of c) i other end
    pub ends : slice_get is.kept end ≡ Some last
    pub same : letters other ≡ letters rest

  go : (first last : ℕ) (front rest : List (Transition ℕ)) (p i : ℕ) (w : Cost) → IsPath (graph_of m) first front p → IsPath (graph_of m) p rest last → IsGood kind (graph_of m) is.bound (front ++ rest) w → slice_get is.kept i ≡ Some p → Moved i rest last
  go first last front [] p i w arrives goes good at = record { other = []; end = i; leads = refl; ends = at ∙ ap Some goes; same = refl }
  go first last front (t ∷ rest) p i w arrives goes good at =
      let u : Transition ℕ = record { state = p; place = t.place; arc = t.arc } in
      let same : t ≡ u = λ k. record { state = goes.0.0 k; place = t.place; arc = t.arc } in
      let takes : GoodArc kind (graph_of m) is.bound p t.place t.arc = subst (λ (z : Transition ℕ). Takes kind (graph_of m) is.bound z) same (record { front = front; back = rest; weight = w; good = good }) in
      let arc = kept_there is.kept (GoodArc kind (graph_of m) is.bound p) 0 ((graph_of m).arcs p) ((graph_of c).arcs i) t.place t.arc (is.arcs i p at) goes.0.1 (let z : t.place ≡ 0 + t.place = omega arith in subst (λ (n : ℕ). GoodArc kind (graph_of m) is.bound p n t.arc) z takes) in
      let after : IsPath (graph_of m) first (front ++ t ∷ []) t.arc.next = IsPath-append (graph_of m) front (t ∷ []) first p t.arc.next arrives (goes.0, refl) in
      let more = go first last (front ++ t ∷ []) rest t.arc.next arc.1.next w after goes.1 (subst (λ (ts : List (Transition ℕ)). IsGood kind (graph_of m) is.bound ts w) (sym (append_assoc front (t ∷ []) rest)) good) arc.3 in
      let v : Transition ℕ = record { state = i; place = arc.0; arc = arc.1 } in
      record { other = v ∷ more.other; end = more.end; leads = ((refl, arc.2), more.leads); ends = more.ends; same = ap₂ (◌∷◌) arc.4 more.same }

  pub stays : (path : List (Transition ℕ)) (w : Cost) → IsGood kind (graph_of m) is.bound path w → (other : List (Transition ℕ)) × IsSuccessful kind (graph_of c) other w × (letters other ≡ letters path)
  stays path w good =
      let ok = good.0 in
      let met : Meets kind (graph_of m) is.bound ok.first = record { first = ok.first; front = []; back = path; weight = w; starts = ok.starts; arrives = refl; good = good } in
      let at = Has_at is.kept ok.first ((is.meets ok.first).1 met) in
      let moved = go ok.first ok.last [] path ok.first at.0 w refl ok.leads good at.1 in
      let ends : Ends kind (graph_of m) is.bound ok.last = record { first = ok.first; path = path; weight = w; starts = ok.starts; arrives = ok.leads; good = good } in
      let final = is.ends moved.end ok.last moved.ends ends in (
        moved.other,
        record {
          first = at.0;
          last = moved.end;
          starts = (is.start at.0).1 (ok.first, ok.starts, at.1);
          leads = moved.leads;
          final = λ e. ok.final (sym final ∙ e);
          weight = ok.weight ∙ ap₂ (times kind) (ap (product kind) (sym moved.same)) (sym final);
        },
        moved.same,
      )

  pub pruned_laws : PrunedLaws kind threshold m c is
  pruned_laws = record {
    stays = stays;
    good = λ i p k b at there.
        let from = kept_back is.kept (GoodArc kind (graph_of m) is.bound p) 0 ((graph_of m).arcs p) ((graph_of c).arcs i) k b (is.arcs i p at) there in
        record { place = from.0; arc = from.1; there = from.2; good = (let z : 0 + from.0 ≡ from.0 = omega arith in subst (λ (n : ℕ). GoodArc kind (graph_of m) is.bound p n from.1) z from.3); same = from.4 };
  }
