-- Hops along arcs are paths told from their end, and hops back along arcs are paths.
use Rattle.std.proofs.Common.{◌≡◌, ℕ, List, [], ◌∷◌, ◌++◌, map, reverse, slice_get, sym, refl, ap, ap₂, ◌∙◌, subst}
use Rattle.std.proofs.lemmas.List.{map-append, reverse-append}
use Rattle.fst_semiring.specs.Cost.{Cost}
use Rattle.fst_semiring.specs.declared.arc_type.ArcType.{ArcType}
use Rattle.fst_semiring.specs.Semiring.{times}
use Rattle.fst_semiring.proofs.Laws.{times_comm, times_one}
use Rattle.fst_machine.specs.Machine.{Arc}
use Rattle.fst_machine.specs.Graph.{Graph}
use Rattle.fst_machine.specs.Letters.{product}
use Rattle.fst_machine.specs.Paths.{Transition, IsPath, letters, places}
use Rattle.fst_machine.specs.Distance.{AllArcs}
use Rattle.fst_machine.specs.Steps.{written}
use Rattle.fst_machine.specs.declared.path.Step.{Step}
use Rattle.fst_machine.proofs.Letters.{letters-append, product-append}
use Rattle.fst_machine.proofs.PathParts.{IsPath-append}
use Rattle.fst_search.specs.ArcHops.{Along, Back}
use Rattle.fst_search.specs.declared.direction.Direction.TheVariants.{FromStart, ToFinals}
use Rattle.fst_search.specs.Cycles.{hop_step}
use Rattle.fst_search.specs.Hops.{Hop, IsBack, hops_product}
use Rattle.fst_search.proofs.Chains.{hops_product-append}
use Rattle.fst_search.proofs.Ending.{IsBack-append}

written-push : (steps : List Step) (s : Step) → written (steps ++ s ∷ []) ≡ written steps ++ (s.state, s.place) ∷ []
written-push steps s = map-append (λ z. (z.state, z.place)) steps (s ∷ [])

places-push : (path : List (Transition ℕ)) (t : Transition ℕ) → places (path ++ t ∷ []) ≡ places path ++ (t.state, t.place) ∷ []
places-push path t = map-append (λ z. (z.state, z.place)) path (t ∷ [])

module _ (kind : ArcType) (g : Graph ℕ) (Goes : Hop → Type 0) where
  module _ (Class : Arc Cost ℕ → Type 0) where
    AllArcs-append : (path rest : List (Transition ℕ)) → AllArcs Class path → AllArcs Class rest → AllArcs Class (path ++ rest)
    AllArcs-append [] rest one two = two
    AllArcs-append (t ∷ path) rest one two = (one.0, AllArcs-append path rest one.1 two)

    -- A path of arcs of the class that the hops are, told from its end.
    pub record Forward (p q : ℕ) (back : List Hop) : Type 0 where
      pub path : List (Transition ℕ)
      pub leads : IsPath g p path q
      pub class : AllArcs Class path
      pub product_same : product kind (letters path) ≡ hops_product kind back
      pub steps : written (reverse (map (hop_step FromStart) back)) ≡ places path

    pub forward_path : ((h : Hop) → Goes h → Along g Class h) → (back : List Hop) (q p : ℕ) → IsBack Goes q back p → Forward p q back
    forward_path along [] q p leads = record { path = []; leads = sym leads; class = tt; product_same = refl; steps = refl }
    forward_path along (h ∷ back) q p leads =
        let r = forward_path along back h.from p leads.2 in
        let a = along h leads.0 in
        let t : Transition ℕ = record { state = h.from; place = h.place; arc = a.arc } in
        record {
          path = r.path ++ t ∷ [];
          leads = IsPath-append g r.path (t ∷ []) p h.from q r.leads ((refl, a.there), a.next ∙ leads.1);
          class = AllArcs-append r.path (t ∷ []) r.class (a.class, tt);
          product_same = ap (product kind) (letters-append r.path (t ∷ [])) ∙ (product-append kind (letters r.path) (letters (t ∷ [])) ∙ (ap₂ (times kind) r.product_same (times_one kind a.arc.weight ∙ a.weight) ∙ times_comm kind (hops_product kind back) h.weight));
          steps = ap written (reverse-append (hop_step FromStart h ∷ []) (map (hop_step FromStart) back)) ∙ (written-push (reverse (map (hop_step FromStart) back)) (hop_step FromStart h) ∙ (ap (λ zs. zs ++ (h.from, h.place) ∷ []) r.steps ∙ sym (places-push r.path t)));
        }

    pub forward_back : ((h : Hop) → Along g Class h → Goes h) → (path : List (Transition ℕ)) (p q : ℕ) → IsPath g p path q → AllArcs Class path
        → (back : List Hop) × IsBack Goes q back p × (hops_product kind back ≡ product kind (letters path))
    forward_back goes [] p q leads class = ([], sym leads, refl)
    forward_back goes (t ∷ path) p q leads class =
        let rest = forward_back goes path t.arc.next q leads.1 class.1 in
        let h : Hop = record { from = p; to = t.arc.next; place = t.place; weight = t.arc.weight } in
        let hop : Goes h = goes h (record { arc = t.arc; there = leads.0.1; class = class.0; next = refl; weight = refl }) in (
          rest.0 ++ h ∷ [],
          IsBack-append kind Goes rest.0 (h ∷ []) q t.arc.next p rest.1 (hop, refl, refl),
          hops_product-append kind rest.0 (h ∷ []) ∙ (ap₂ (times kind) rest.2 (times_one kind t.arc.weight) ∙ times_comm kind (product kind (letters path)) t.arc.weight),
        )

  -- A path that the hops are.
  pub record Backward (p q : ℕ) (back : List Hop) : Type 0 where
    pub path : List (Transition ℕ)
    pub leads : IsPath g q path p
    pub product_same : product kind (letters path) ≡ hops_product kind back
    pub steps : written (map (hop_step ToFinals) back) ≡ places path

  pub backward_path : ((h : Hop) → Goes h → Back g h) → (back : List Hop) (q p : ℕ) → IsBack Goes q back p → Backward p q back
  backward_path along [] q p leads = record { path = []; leads = leads; product_same = refl; steps = refl }
  backward_path along (h ∷ back) q p leads =
      let r = backward_path along back h.from p leads.2 in
      let a = along h leads.0 in
      let t : Transition ℕ = record { state = h.to; place = h.place; arc = a.arc } in
      record {
        path = t ∷ r.path;
        leads = ((leads.1, ap (λ (z : ℕ). slice_get (g.arcs z) h.place) (sym leads.1) ∙ a.there), subst (λ (z : ℕ). IsPath g z r.path p) (sym a.next) r.leads);
        product_same = ap₂ (times kind) a.weight r.product_same;
        steps = ap (λ zs. (h.to, h.place) ∷ zs) r.steps;
      }

  -- a path between names of a domain, which arcs keep, as hops
  pub backward_back : (Domain : ℕ → Type 0) → ((h : Hop) → Domain h.to → Back g h → Goes h × Domain h.from) → (path : List (Transition ℕ)) (q p : ℕ) → Domain q → IsPath g q path p
      → (back : List Hop) × IsBack Goes q back p × (hops_product kind back ≡ product kind (letters path))
  backward_back Domain goes [] q p meant leads = ([], leads, refl)
  backward_back Domain goes (t ∷ path) q p meant leads =
      let h : Hop = record { from = t.arc.next; to = q; place = t.place; weight = t.arc.weight } in
      let hop = goes h meant (record { arc = t.arc; there = leads.0.1; next = refl; weight = refl }) in
      let rest = backward_back Domain goes path t.arc.next p hop.1 leads.1 in
      (h ∷ rest.0, (hop.0, refl, rest.1), ap (times kind t.arc.weight) rest.2)
