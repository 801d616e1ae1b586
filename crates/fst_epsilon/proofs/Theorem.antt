-- Removing epsilon arcs keeps the weight of every pair of strings.
use Rattle.std.proofs.Common.{◌≡◌, ◌⊎◌, ◌↔◌, inl, inr, ℕ, List, [], ◌∷◌, ◌++◌, Some, slice_get, sym, refl, ap, ap₂, ◌∙◌, subst, subst₂}
use Rattle.std.proofs.lemmas.Bool.{cases_eq}
use Rattle.fst_semiring.specs.Cost.{Cost, infinite}
use Rattle.fst_semiring.specs.declared.arc_type.ArcType.{ArcType}
use Rattle.fst_semiring.specs.Semiring.{one_of, times}
use Rattle.fst_semiring.proofs.Laws.{keeps_times, one_not_zero, one_times, times_assoc, times_keeps, times_one, times_only_zero, times_zero}
use Rattle.fst_semiring.proofs.Order.{plus_antisym, plus_trans}
use Rattle.fst_machine.specs.Machine.{Arc}
use Rattle.fst_machine.specs.Graph.{Graph}
use Rattle.fst_machine.specs.Letters.{before, input, output, product}
use Rattle.fst_machine.specs.Paths.{Transition, IsPath, letters}
use Rattle.fst_machine.specs.Relation.{IsWeight, Rel, RelFrom}
use Rattle.fst_machine.specs.Distance.{AllArcs, EpsilonArc, Reaches}
use Rattle.fst_machine.proofs.Letters.{input-append, letters-append, output-append, product-append}
use Rattle.fst_machine.proofs.PathParts.{IsPath-append}
use Rattle.fst_search.specs.Hops.{NoWorse}
use Rattle.fst_search.proofs.Order.{after_infinite}
use Rattle.fst_epsilon.specs.Removal.{Removes}

-- an arc is epsilon or not
pub epsilon_or_not : {N : Type 0} (a : Arc Cost N) → EpsilonArc a ⊎ (EpsilonArc a → ⊥)
epsilon_or_not {N} a = by_labels (cases_eq a.ilabel 0) (cases_eq a.olabel 0)
  where
    by_labels : (a.ilabel ≡ 0) ⊎ (a.ilabel ≡ 0 → ⊥) → (a.olabel ≡ 0) ⊎ (a.olabel ≡ 0 → ⊥) → EpsilonArc a ⊎ (EpsilonArc a → ⊥)
    by_labels (inl e) (inl f) = inl (e, f)
    by_labels (inl e) (inr f) = inr (λ h. f h.1)
    by_labels (inr e) o = inr (λ h. e h.0)

module _ {N : Type 0} (kind : ArcType) (g : Graph N) where
  -- a path of epsilon arcs says nothing
  silent_input : (path : List (Transition N)) → AllArcs EpsilonArc path → input (letters path) ≡ []
  silent_input [] all = refl
  silent_input (t ∷ path) all = ap (λ (l : ℕ). before l (input (letters path))) all.0.0 ∙ silent_input path all.1

  silent_output : (path : List (Transition N)) → AllArcs EpsilonArc path → output (letters path) ≡ []
  silent_output [] all = refl
  silent_output (t ∷ path) all = ap (λ (l : ℕ). before l (output (letters path))) all.0.1 ∙ silent_output path all.1

  pub AllArcs-append : (Class : Arc Cost N → Type 0) (path rest : List (Transition N)) → AllArcs Class path → AllArcs Class rest → AllArcs Class (path ++ rest)
  AllArcs-append Class [] rest one two = two
  AllArcs-append Class (t ∷ path) rest one two = (one.0, AllArcs-append Class path rest one.1 two)

  -- the path without arcs
  pub silent_here : (n : N) → Reaches kind g EpsilonArc n n (one_of kind)
  silent_here n = record { path = []; leads = refl; class = tt; weight = refl }

  -- one epsilon arc more
  pub silent_on : (n p : N) (c : Cost) (j : ℕ) (a : Arc Cost N) → Reaches kind g EpsilonArc n p c → slice_get (g.arcs p) j ≡ Some a → EpsilonArc a → Reaches kind g EpsilonArc n a.next (times kind c a.weight)
  silent_on n p c j a s there e =
      let t : Transition N = record { state = p; place = j; arc = a } in
      record {
        path = s.path ++ t ∷ [];
        leads = IsPath-append g s.path (t ∷ []) n p a.next s.leads ((refl, there), refl);
        class = AllArcs-append EpsilonArc s.path (t ∷ []) s.class (e, tt);
        weight = ap (λ z. times kind z a.weight) s.weight ∙ (ap (times kind (product kind (letters s.path))) (sym (times_one kind a.weight)) ∙ (sym (product-append kind (letters s.path) (letters (t ∷ []))) ∙ ap (product kind) (sym (letters-append s.path (t ∷ [])))));
      }

  -- what is said behind a path of epsilon arcs
  silent_before : (n p : N) (c : Cost) (x y : List ℕ) (w : Cost) → Reaches kind g EpsilonArc n p c → RelFrom kind g p x y w → RelFrom kind g n x y (times kind c w)
  silent_before n p c x y w s r = record {
    path = s.path ++ r.path;
    last = r.last;
    leads = IsPath-append g s.path r.path n p r.last s.leads r.leads;
    final = r.final;
    reads = r.reads ∙ (ap (λ z. z ++ input (letters r.path)) (sym (silent_input s.path s.class)) ∙ (sym (input-append (letters s.path) (letters r.path)) ∙ ap input (sym (letters-append s.path r.path))));
    writes = r.writes ∙ (ap (λ z. z ++ output (letters r.path)) (sym (silent_output s.path s.class)) ∙ (sym (output-append (letters s.path) (letters r.path)) ∙ ap output (sym (letters-append s.path r.path))));
    weight = ap₂ (times kind) s.weight r.weight ∙ (sym (times_assoc kind (product kind (letters s.path)) (product kind (letters r.path)) (g.final r.last)) ∙ ap (λ z. times kind z (g.final r.last)) (sym (product-append kind (letters s.path) (letters r.path)) ∙ ap (product kind) (sym (letters-append s.path r.path))));
  }

  -- what is said behind an arc
  arc_before : (p : N) (j : ℕ) (a : Arc Cost N) (x y : List ℕ) (w : Cost) → slice_get (g.arcs p) j ≡ Some a → RelFrom kind g a.next x y w → RelFrom kind g p (before a.ilabel x) (before a.olabel y) (times kind a.weight w)
  arc_before p j a x y w there r = record {
    path = record { state = p; place = j; arc = a } ∷ r.path;
    last = r.last;
    leads = ((refl, there), r.leads);
    final = r.final;
    reads = ap (before a.ilabel) r.reads;
    writes = ap (before a.olabel) r.writes;
    weight = ap (times kind a.weight) r.weight ∙ sym (times_assoc kind a.weight (product kind (letters r.path)) (g.final r.last));
  }

  -- what a final name says
  end_says : (p : N) → (g.final p ≡ infinite → ⊥) → RelFrom kind g p [] [] (g.final p)
  end_says p final = record { path = []; last = p; leads = refl; final = final; reads = refl; writes = refl; weight = sym (one_times kind (g.final p)) }

module _ {N : Type 0} (kind : ArcType) (g h : Graph N) (Domain : N → Type 0) (r : Removes kind g h Domain) where
  domain_along : (path : List (Transition N)) (n p : N) → Domain n → IsPath g n path p → Domain p
  domain_along [] n p meant leads = subst Domain leads meant
  domain_along (t ∷ path) n p meant leads = domain_along path t.arc.next p (r.within n t.place t.arc meant leads.0.1) leads.1

  path_solid : (path : List (Transition N)) (n p : N) → IsPath g n path p → product kind (letters path) ≡ infinite → ⊥
  path_solid [] n p leads e = one_not_zero kind e
  path_solid (t ∷ path) n p leads e = by_factor (path_solid path t.arc.next p leads.1) (times_only_zero kind t.arc.weight (product kind (letters path)) e)
    where
      by_factor : (product kind (letters path) ≡ infinite → ⊥) → (t.arc.weight ≡ infinite) ⊎ (product kind (letters path) ≡ infinite) → ⊥
      by_factor rest (inl zero_arc) = r.solid n t.place t.arc leads.0.1 zero_arc
      by_factor rest (inr zero_rest) = rest zero_rest

  -- whatever h says, g says
  removed_says : (path : List (Transition N)) (n last : N) → Domain n → IsPath h n path last → (h.final last ≡ infinite → ⊥) → RelFrom kind g n (input (letters path)) (output (letters path)) (times kind (product kind (letters path)) (h.final last))
  removed_says [] n last meant leads final = by_end (r.ends last (subst Domain leads meant))
    where
      by_end : (h.final last ≡ infinite) ⊎ ((p : N) × (c : Cost) × Reaches kind g EpsilonArc last p c × (h.final last ≡ times kind c (g.final p))) → RelFrom kind g n [] [] (times kind (one_of kind) (h.final last))
      by_end (inl none) = absurd (final none)
      by_end (inr (p, c, silent, is)) =
          subst₂ (λ (z : N) (w : Cost). RelFrom kind g z [] [] w) (sym leads) (sym is ∙ sym (one_times kind (h.final last)))
          (silent_before kind g last p c [] [] (g.final p) silent (end_says kind g p (λ e. final (is ∙ (ap (times kind c) e ∙ times_zero kind c)))))
  removed_says (t ∷ path) n last meant leads final =
      let b = r.from n t.place t.arc meant leads.0.1 in
      let next = b.stands.next in
      let there : Domain t.arc.next = subst Domain (sym next) (r.within b.state b.place b.arc (domain_along b.silent.path n b.state meant b.silent.leads) b.there) in
      let rest = removed_says path t.arc.next last there leads.1 final in
      let w = times kind (product kind (letters path)) (h.final last) in
      let said = silent_before kind g n b.state b.cost (before b.arc.ilabel (input (letters path))) (before b.arc.olabel (output (letters path))) (times kind b.arc.weight w) b.silent
      (arc_before kind g b.state b.place b.arc (input (letters path)) (output (letters path)) w b.there (subst (λ (z : N). RelFrom kind g z (input (letters path)) (output (letters path)) w) next rest)) in
      let weight : times kind b.cost (times kind b.arc.weight w) ≡ times kind (product kind (letters (t ∷ path))) (h.final last) = sym (times_assoc kind b.cost b.arc.weight w) ∙ (ap (λ z. times kind z w) (sym b.weight) ∙ sym (times_assoc kind t.arc.weight (product kind (letters path)) (h.final last))) in
      subst (RelFrom kind g n (before t.arc.ilabel (input (letters path))) (before t.arc.olabel (output (letters path)))) weight
      (subst₂ (λ (i o : ℕ). RelFrom kind g n (before i (input (letters path))) (before o (output (letters path))) (times kind b.cost (times kind b.arc.weight w))) (sym b.stands.ilabel) (sym b.stands.olabel) said)

  -- whatever g says behind a path of epsilon arcs, h says no worse
  abbrev Kept : N → List ℕ → List ℕ → Cost → Type 0
  Kept n x y w = (v : Cost) × RelFrom kind h n x y v × NoWorse v w

  kept_says : (path : List (Transition N)) (n p last : N) (c : Cost) → Domain n → Reaches kind g EpsilonArc n p c → IsPath g p path last → (g.final last ≡ infinite → ⊥)
      → Kept n (input (letters path)) (output (letters path)) (times kind c (times kind (product kind (letters path)) (g.final last)))
  kept_says [] n p last c meant silent leads final =
      let worth : times kind c (g.final p) ≡ times kind c (times kind (one_of kind) (g.final last)) = ap (times kind c) (ap g.final leads ∙ sym (one_times kind (g.final last))) in
      let bound = r.finals n p c meant silent in
      let finite_c : c ≡ infinite → ⊥ = λ e. path_solid silent.path n p silent.leads (sym silent.weight ∙ e) in
      let is_final : h.final n ≡ infinite → ⊥ = λ e. by_factor finite_c (times_only_zero kind c (g.final p) (after_infinite (h.final n) (times kind c (g.final p)) bound e)) in
      (h.final n, end_says kind h n is_final, subst (NoWorse (h.final n)) worth bound)
    where
      by_factor : (c ≡ infinite → ⊥) → (c ≡ infinite) ⊎ (g.final p ≡ infinite) → ⊥
      by_factor f (inl e) = f e
      by_factor f (inr e) = final (ap g.final (sym leads) ∙ e)
  kept_says (t ∷ path) n p last c meant silent leads final = by_arc (epsilon_or_not t.arc) (λ m d there s. kept_says path m t.arc.next last d there s leads.1 final)
    where
      w : Cost
      w = times kind (product kind (letters path)) (g.final last)

      by_arc : EpsilonArc t.arc ⊎ (EpsilonArc t.arc → ⊥) → ((m : N) (d : Cost) → Domain m → Reaches kind g EpsilonArc m t.arc.next d → Kept m (input (letters path)) (output (letters path)) (times kind d (times kind (product kind (letters path)) (g.final last))))
          → Kept n (before t.arc.ilabel (input (letters path))) (before t.arc.olabel (output (letters path))) (times kind c (times kind (product kind (letters (t ∷ path))) (g.final last)))
      by_arc (inl e) again =
          let k = again n (times kind c t.arc.weight) meant (silent_on kind g n p c t.place t.arc silent leads.0.1 e) in
          let worth = times_assoc kind c t.arc.weight (times kind (product kind (letters path)) (g.final last)) ∙ ap (times kind c) (sym (times_assoc kind t.arc.weight (product kind (letters path)) (g.final last))) in
          (k.0, subst₂ (λ (i o : ℕ). RelFrom kind h n (before i (input (letters path))) (before o (output (letters path))) k.0) (sym e.0) (sym e.1) k.1, subst (NoWorse k.0) worth k.2)
      by_arc (inr speaks) again =
          let b = r.each n p c t.place t.arc meant silent leads.0.1 speaks in
          let k = again t.arc.next (one_of kind) (domain_along (t ∷ []) p t.arc.next (domain_along silent.path n p meant silent.leads) (leads.0, refl)) (silent_here kind g t.arc.next) in
          let rest : RelFrom kind h b.1.next (input (letters path)) (output (letters path)) k.0 = subst (λ (z : N). RelFrom kind h z (input (letters path)) (output (letters path)) k.0) (sym b.3.next) k.1 in
          let said = arc_before kind h n b.0 b.1 (input (letters path)) (output (letters path)) k.0 b.2 rest in
          let w = times kind (product kind (letters path)) (g.final last) in
          let one : NoWorse (times kind b.1.weight k.0) (times kind (times kind c t.arc.weight) k.0) = keeps_times kind k.0 b.1.weight (times kind c t.arc.weight) b.4 in
          let two : NoWorse (times kind (times kind c t.arc.weight) k.0) (times kind (times kind c t.arc.weight) w) = times_keeps kind (times kind c t.arc.weight) k.0 w (subst (NoWorse k.0) (one_times kind w) k.2) in
          let worth = times_assoc kind c t.arc.weight w ∙ ap (times kind c) (sym (times_assoc kind t.arc.weight (product kind (letters path)) (g.final last))) in (
            times kind b.1.weight k.0,
            subst₂ (λ (i o : ℕ). RelFrom kind h n (before i (input (letters path))) (before o (output (letters path))) (times kind b.1.weight k.0)) b.3.ilabel b.3.olabel said,
            subst (NoWorse (times kind b.1.weight k.0)) worth (plus_trans _ _ _ one two),
          )

  there_says : (x y : List ℕ) (w : Cost) → Rel kind h x y w → Rel kind g x y w
  there_says x y w s =
      let starts = sym r.start ∙ s.starts in
      let t = s.says in
      let said = removed_says t.path s.first t.last (r.begins s.first starts) t.leads t.final in
      record { first = s.first; starts = starts; says = subst (RelFrom kind g s.first x y) (sym t.weight) (subst₂ (λ (i o : List ℕ). RelFrom kind g s.first i o (times kind (product kind (letters t.path)) (h.final t.last))) (sym t.reads) (sym t.writes) said) }

  back_says : (x y : List ℕ) (w : Cost) → Rel kind g x y w → (v : Cost) × Rel kind h x y v × NoWorse v w
  back_says x y w s =
      let t = s.says in
      let k = kept_says t.path s.first s.first t.last (one_of kind) (r.begins s.first s.starts) (silent_here kind g s.first) t.leads t.final in
      let said = subst₂ (λ (i o : List ℕ). RelFrom kind h s.first i o k.0) (sym t.reads) (sym t.writes) k.1 in
      (k.0, record { first = s.first; starts = r.start ∙ s.starts; says = said }, subst (NoWorse k.0) (one_times kind _ ∙ sym t.weight) k.2)

  -- each pair has the same weight
  pub same_weights : (x y : List ℕ) (w : Cost) → IsWeight kind g x y w ↔ IsWeight kind h x y w
  same_weights x y w = (there, back)
    where
      there : IsWeight kind g x y w → IsWeight kind h x y w
      there is =
          let k = back_says x y w is.reached in
          let same : k.0 ≡ w = plus_antisym k.0 w k.2 (is.least k.0 (there_says x y k.0 k.1)) in
          record { reached = subst (Rel kind h x y) same k.1; least = λ u s. is.least u (there_says x y u s) }

      back : IsWeight kind h x y w → IsWeight kind g x y w
      back is = record { reached = there_says x y w is.reached; least = λ u s. (let k = back_says x y u s in plus_trans w k.0 u (is.least k.0 k.1) k.2) }
