-- Paths under pushed weights.
use Rattle.std.proofs.Common.{◌≡◌, ◌⊎◌, inl, inr, ◌↔◌, ℕ, List, [], ◌∷◌, Some, map, slice_get, sym, refl, ap, ap₂, ◌∙◌, subst}
use Rattle.fst_semiring.specs.Cost.{Cost, infinite}
use Rattle.fst_semiring.specs.declared.arc_type.ArcType.{ArcType}
use Rattle.fst_semiring.specs.Semiring.{times}
use Rattle.fst_semiring.proofs.Laws.{times_assoc, one_times, times_one, times_zero, times_only_zero}
use Rattle.fst_semiring.proofs.Dividing.{push_undone}
use Rattle.fst_machine.specs.Machine.{Arc}
use Rattle.fst_machine.specs.Graph.{Graph}
use Rattle.fst_machine.specs.Letters.{before, input, output, product}
use Rattle.fst_machine.specs.Paths.{Transition, IsPath, letters}
use Rattle.fst_machine.specs.Relation.{RelFrom}
use Rattle.fst_machine.proofs.Arcs.{mapped_at, at_mapped}
use Rattle.fst_distance.specs.Pushing.{pushed_arc, Pushes}
use Rattle.fst_distance.specs.PushLaws.{IsPotential}

module _ {N : Type 0} (kind : ArcType) (d : N → Cost) where
  -- the path with its weights pushed
  abbrev pub pushed_path : List (Transition N) → List (Transition N)
  pushed_path path = map (λ t. record { state = t.state; place = t.place; arc = pushed_arc kind d t.state t.arc }) path

  pub pushed_input : (path : List (Transition N)) → input (letters (pushed_path path)) ≡ input (letters path)
  pushed_input [] = refl
  pushed_input (t ∷ path) = ap (before t.arc.ilabel) (pushed_input path)

  pub pushed_output : (path : List (Transition N)) → output (letters (pushed_path path)) ≡ output (letters path)
  pushed_output [] = refl
  pushed_output (t ∷ path) = ap (before t.arc.olabel) (pushed_output path)

module _ {N : Type 0} (kind : ArcType) (d : N → Cost) (g h : Graph N) (D : N → Type 0) (pushes : Pushes kind d g h D) where
  -- an arc, with its weight pushed, and the other way round
  pub arc_there : (p : N) (k : ℕ) (a : Arc Cost N) → D p → slice_get (g.arcs p) k ≡ Some a → slice_get (h.arcs p) k ≡ Some (pushed_arc kind d p a)
  arc_there p k a here has = subst (λ (arcs : List (Arc Cost N)). slice_get arcs k ≡ Some (pushed_arc kind d p a)) (sym (pushes.arcs p here)) (at_mapped (pushed_arc kind d p) (g.arcs p) k a has)

  pub arc_back : (p : N) (k : ℕ) (b : Arc Cost N) → D p → slice_get (h.arcs p) k ≡ Some b → (a : Arc Cost N) × (slice_get (g.arcs p) k ≡ Some a) × (pushed_arc kind d p a ≡ b)
  arc_back p k b here has = mapped_at (pushed_arc kind d p) (g.arcs p) k b (subst (λ (arcs : List (Arc Cost N)). slice_get arcs k ≡ Some b) (pushes.arcs p here) has)

  pub path_there : (path : List (Transition N)) (p q : N) → D p → IsPath g p path q → IsPath h p (pushed_path kind d path) q × D q
  path_there [] p q here leads = (leads, subst D leads here)
  path_there (t ∷ path) p q here leads =
      let rest = path_there path t.arc.next q (pushes.within p t.place t.arc here leads.0.1) leads.1 in
      let arc = arc_there p t.place t.arc here leads.0.1 in
      (((leads.0.0, subst (λ (s : N). slice_get (h.arcs p) t.place ≡ Some (pushed_arc kind d s t.arc)) (sym leads.0.0) arc), rest.0), rest.1)

  pub path_back : (path : List (Transition N)) (p q : N) → D p → IsPath h p path q → (old : List (Transition N)) × IsPath g p old q × (pushed_path kind d old ≡ path)
  path_back [] p q here leads = ([], leads, refl)
  path_back (t ∷ path) p q here leads =
      let a = arc_back p t.place t.arc here leads.0.1 in
      let next : a.0.next ≡ t.arc.next = ap (λ (b : Arc Cost N). b.next) a.2 in
      let inside : D t.arc.next = subst D next (pushes.within p t.place a.0 here a.1) in
      let rest = path_back path t.arc.next q inside leads.1 in
      let u : Transition N = record { state = p; place = t.place; arc = a.0 } in
      let same : record { state = p; place = t.place; arc = pushed_arc kind d p a.0 } ≡ t = λ i. record { state = sym leads.0.0 i; place = t.place; arc = a.2 i } in
      (u ∷ rest.0, ((refl, a.1), subst (λ (s : N). IsPath g s rest.0 q) (sym next) rest.1), ap₂ (◌∷◌) same rest.2)

  module _ (pot : IsPotential kind d g D) where
    -- the value of a name Times the pushed weight is the weight Times the value of the end
    pub arc_undone : (p : N) (k : ℕ) (a : Arc Cost N) → D p → slice_get (g.arcs p) k ≡ Some a → times kind (d p) (pushed_arc kind d p a).weight ≡ times kind a.weight (d a.next)
    arc_undone p k a here has = push_undone kind (times kind a.weight (d a.next)) (d p) (pot.of_kind p here) (pot.not_zero p here) (pot.arc p k a here has)

    pub final_undone : (p : N) → D p → times kind (d p) (h.final p) ≡ g.final p
    final_undone p here = ap (times kind (d p)) (pushes.final p here) ∙ push_undone kind (g.final p) (d p) (pot.of_kind p here) (pot.not_zero p here) (pot.final p here)

    pub path_undone : (path : List (Transition N)) (p q : N) → D p → IsPath g p path q → times kind (d p) (product kind (letters (pushed_path kind d path))) ≡ times kind (product kind (letters path)) (d q)
    path_undone [] p q here leads = times_one kind (d p) ∙ (ap d leads ∙ sym (one_times kind (d q)))
    path_undone (t ∷ path) p q here leads =
        let new = product kind (letters (pushed_path kind d path)) in
        let old = product kind (letters path) in
        let rest = path_undone path t.arc.next q (pushes.within p t.place t.arc here leads.0.1) leads.1 in
        ap (λ (s : N). times kind (d p) (times kind (pushed_arc kind d s t.arc).weight new)) leads.0.0
        ∙ (sym (times_assoc kind (d p) (pushed_arc kind d p t.arc).weight new)
        ∙ (ap (λ w. times kind w new) (arc_undone p t.place t.arc here leads.0.1)
        ∙ (times_assoc kind t.arc.weight (d t.arc.next) new
        ∙ (ap (times kind t.arc.weight) rest ∙ sym (times_assoc kind t.arc.weight old (d q))))))

    -- the value of a name Times the pushed weight of a path to a name, with its final weight, is the old weight
    pub finish_undone : (path : List (Transition N)) (p q : N) → D p → IsPath g p path q
        → times kind (d p) (times kind (product kind (letters (pushed_path kind d path))) (h.final q)) ≡ times kind (product kind (letters path)) (g.final q)
    finish_undone path p q here leads =
        let new = product kind (letters (pushed_path kind d path)) in
        let old = product kind (letters path) in
        sym (times_assoc kind (d p) new (h.final q))
        ∙ (ap (λ w. times kind w (h.final q)) (path_undone path p q here leads)
        ∙ (times_assoc kind old (d q) (h.final q) ∙ ap (times kind old) (final_undone q (path_there path p q here leads).1)))

    -- final names stay final, and no others become so
    pub final_there : (p : N) → D p → (g.final p ≡ infinite → ⊥) → h.final p ≡ infinite → ⊥
    final_there p here final e = final (sym (final_undone p here) ∙ (ap (times kind (d p)) e ∙ times_zero kind (d p)))

    pub final_back : (p : N) → D p → (h.final p ≡ infinite → ⊥) → g.final p ≡ infinite → ⊥
    final_back p here final e = by (times_only_zero kind (d p) (h.final p) (final_undone p here ∙ e))
      where
        by : (d p ≡ infinite) ⊎ (h.final p ≡ infinite) → ⊥
        by (inl z) = pot.not_zero p here z
        by (inr z) = final z

    -- what a name says under pushed weights, with its value as a factor, is what it says
    pub pushed_says : (p : N) (x y : List ℕ) (w : Cost) → D p → RelFrom kind g p x y w ↔ ((v : Cost) × RelFrom kind h p x y v × (w ≡ times kind (d p) v))
    pushed_says p x y w here = (there, back)
      where
        there : RelFrom kind g p x y w → (v : Cost) × RelFrom kind h p x y v × (w ≡ times kind (d p) v)
        there r =
            let leads = path_there r.path p r.last here r.leads in (
              times kind (product kind (letters (pushed_path kind d r.path))) (h.final r.last),
              record {
                path = pushed_path kind d r.path;
                last = r.last;
                leads = leads.0;
                final = final_there r.last leads.1 r.final;
                reads = r.reads ∙ sym (pushed_input kind d r.path);
                writes = r.writes ∙ sym (pushed_output kind d r.path);
                weight = refl;
              },
              r.weight ∙ sym (finish_undone r.path p r.last here r.leads),
            )

        back : (v : Cost) × RelFrom kind h p x y v × (w ≡ times kind (d p) v) → RelFrom kind g p x y w
        back v =
            let r = v.1 in
            let old = path_back r.path p r.last here r.leads in
            let inside = (path_there old.0 p r.last here old.1).1 in
            let whole : times kind (product kind (letters r.path)) (h.final r.last) ≡ times kind (product kind (letters (pushed_path kind d old.0))) (h.final r.last) = ap (λ (path : List (Transition N)). times kind (product kind (letters path)) (h.final r.last)) (sym old.2) in
            record {
              path = old.0;
              last = r.last;
              leads = old.1;
              final = final_back r.last inside r.final;
              reads = r.reads ∙ (ap (λ (path : List (Transition N)). input (letters path)) (sym old.2) ∙ pushed_input kind d old.0);
              writes = r.writes ∙ (ap (λ (path : List (Transition N)). output (letters path)) (sym old.2) ∙ pushed_output kind d old.0);
              weight = v.2 ∙ (ap (times kind (d p)) (r.weight ∙ whole) ∙ finish_undone old.0 p r.last here old.1);
            }
