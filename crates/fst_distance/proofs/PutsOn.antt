-- The total put on the start, or on a copy of it, multiplies what a machine relates.
use Rattle.std.proofs.Common.{◌≡◌, ◌≢◌, ◌⊎◌, inl, inr, ◌↔◌, ℕ, ◌<◌, List, [], ◌∷◌, Option, None, Some, length, map, slice_get, sym, refl, ap, ap₂, ◌∙◌, subst}
use Rattle.fst_semiring.specs.Cost.{Cost, infinite}
use Rattle.fst_semiring.specs.declared.arc_type.ArcType.{ArcType}
use Rattle.fst_semiring.specs.Semiring.{one_of, times}
use Rattle.fst_semiring.proofs.Laws.{times_assoc, one_times, times_zero, times_only_zero}
use Rattle.fst_machine.specs.Machine.{Arc, State, Machine}
use Rattle.fst_machine.specs.Graph.{Graph, graph_of}
use Rattle.fst_machine.specs.Letters.{before, input, output, product}
use Rattle.fst_machine.specs.Paths.{Transition, IsPath, letters}
use Rattle.fst_machine.specs.Relation.{RelFrom, Rel}
use Rattle.fst_machine.proofs.Arcs.{mapped_at, at_mapped}
use Rattle.fst_distance.specs.Totals.{IsAmong, IsEntered, IsPlace, put_on, scaled_arc}
use Rattle.fst_distance.specs.declared.placing.Place.{Place}
use Rattle.fst_distance.specs.declared.placing.Place.TheVariants.{Nowhere, OnStart, OnCopy}
use Rattle.fst_distance.proofs.TotalPut.{at_copy, at_start, off_copy, off_start}

-- In h the start has the arcs and the final weight of the start of g with a factor, and the names that are meant, to
-- which these lead, are as in g.
pub record PutsOn (kind : ArcType) (total : Cost) (g h : Graph ℕ) (D : ℕ → Type 0) (old new : ℕ) : Type 0 where
  pub arcs : h.arcs new ≡ map (scaled_arc kind total) (g.arcs old)
  pub final : h.final new ≡ times kind total (g.final old)
  pub enters : (k : ℕ) (a : Arc Cost ℕ) → slice_get (g.arcs old) k ≡ Some a → D a.next
  pub within : (p k : ℕ) (a : Arc Cost ℕ) → D p → slice_get (g.arcs p) k ≡ Some a → D a.next
  pub same_arcs : (p : ℕ) → D p → h.arcs p ≡ g.arcs p
  pub same_final : (p : ℕ) → D p → h.final p ≡ g.final p

module _ (kind : ArcType) (total : Cost) (g h : Graph ℕ) (D : ℕ → Type 0) (old new : ℕ) (o : PutsOn kind total g h D old new) (some : total ≢ infinite) where
  -- a path among the names that are meant
  path_there : (path : List (Transition ℕ)) (p q : ℕ) → D p → IsPath g p path q → IsPath h p path q × D q
  path_there [] p q here leads = (leads, subst D leads here)
  path_there (t ∷ path) p q here leads =
      let rest = path_there path t.arc.next q (o.within p t.place t.arc here leads.0.1) leads.1 in
      (((leads.0.0, ap (λ (arcs : List (Arc Cost ℕ)). slice_get arcs t.place) (o.same_arcs p here) ∙ leads.0.1), rest.0), rest.1)

  path_back : (path : List (Transition ℕ)) (p q : ℕ) → D p → IsPath h p path q → IsPath g p path q × D q
  path_back [] p q here leads = (leads, subst D leads here)
  path_back (t ∷ path) p q here leads =
      let has : slice_get (g.arcs p) t.place ≡ Some t.arc = ap (λ (arcs : List (Arc Cost ℕ)). slice_get arcs t.place) (sym (o.same_arcs p here)) ∙ leads.0.1 in
      let rest = path_back path t.arc.next q (o.within p t.place t.arc here has) leads.1 in
      (((leads.0.0, has), rest.0), rest.1)

  -- the factor goes out
  factor_out : (a p f : Cost) → times kind (times kind (times kind total a) p) f ≡ times kind total (times kind (times kind a p) f)
  factor_out a p f = ap (λ v. times kind v f) (times_assoc kind total a p) ∙ times_assoc kind total (times kind a p) f

  bare_out : (f : Cost) → times kind (one_of kind) (times kind total f) ≡ times kind total (times kind (one_of kind) f)
  bare_out f = one_times kind (times kind total f) ∙ ap (times kind total) (sym (one_times kind f))

  final_some : (p : ℕ) → (times kind total (g.final p) ≡ infinite → ⊥) → g.final p ≡ infinite → ⊥
  final_some p final e = final (ap (times kind total) e ∙ times_zero kind total)

  scaled_some : (v : Cost) → (v ≡ infinite → ⊥) → times kind total v ≡ infinite → ⊥
  scaled_some v final e = by (times_only_zero kind total v e)
    where
      by : (total ≡ infinite) ⊎ (v ≡ infinite) → ⊥
      by (inl z) = some z
      by (inr z) = final z

  there : (path : List (Transition ℕ)) (last : ℕ) (x y : List ℕ) (w : Cost) → IsPath h new path last → (h.final last ≡ infinite → ⊥) → x ≡ input (letters path) → y ≡ output (letters path)
      → w ≡ times kind (product kind (letters path)) (h.final last) → (v : Cost) × RelFrom kind g old x y v × (w ≡ times kind total v)
  there [] last x y w leads final reads writes weight =
      let end : h.final last ≡ times kind total (g.final old) = ap h.final (sym leads) ∙ o.final in (
        times kind (one_of kind) (g.final old),
        record { path = []; last = old; leads = refl; final = final_some old (λ e. final (end ∙ e)); reads = reads; writes = writes; weight = refl },
        weight ∙ (ap (times kind (one_of kind)) end ∙ bare_out (g.final old)),
      )
  there (t ∷ path) last x y w leads final reads writes weight =
      let from = mapped_at (scaled_arc kind total) (g.arcs old) t.place t.arc (ap (λ (arcs : List (Arc Cost ℕ)). slice_get arcs t.place) (sym o.arcs) ∙ leads.0.1) in
      let a : Arc Cost ℕ = from.0 in
      let next : a.next ≡ t.arc.next = ap (λ (b : Arc Cost ℕ). b.next) from.2 in
      let inside : D t.arc.next = subst D next (o.enters t.place a from.1) in
      let rest = path_back path t.arc.next last inside leads.1 in
      let u : Transition ℕ = record { state = old; place = t.place; arc = a } in
      let p : Cost = product kind (letters path) in
      let end : h.final last ≡ g.final last = o.same_final last rest.1 in (
        times kind (times kind a.weight p) (g.final last),
        record {
          path = u ∷ path;
          last = last;
          leads = ((refl, from.1), subst (λ (s : ℕ). IsPath g s path last) (sym next) rest.0);
          final = (λ e. final (end ∙ e));
          reads = reads ∙ ap (λ (b : Arc Cost ℕ). before b.ilabel (input (letters path))) (sym from.2);
          writes = writes ∙ ap (λ (b : Arc Cost ℕ). before b.olabel (output (letters path))) (sym from.2);
          weight = refl;
        },
        weight ∙ (ap₂ (λ (b : Arc Cost ℕ) f. times kind (times kind b.weight p) f) (sym from.2) end ∙ factor_out a.weight p (g.final last)),
      )

  back : (path : List (Transition ℕ)) (last : ℕ) (x y : List ℕ) (v w : Cost) → IsPath g old path last → (g.final last ≡ infinite → ⊥) → x ≡ input (letters path) → y ≡ output (letters path)
      → v ≡ times kind (product kind (letters path)) (g.final last) → w ≡ times kind total v → RelFrom kind h new x y w
  back [] last x y v w leads final reads writes weight whole =
      let end : h.final new ≡ times kind total (g.final last) = o.final ∙ ap (λ (q : ℕ). times kind total (g.final q)) leads in
      record {
        path = [];
        last = new;
        leads = refl;
        final = (λ e. scaled_some (g.final last) final (sym end ∙ e));
        reads = reads;
        writes = writes;
        weight = whole ∙ (ap (times kind total) weight ∙ (sym (bare_out (g.final last)) ∙ ap (times kind (one_of kind)) (sym end)));
      }
  back (t ∷ path) last x y v w leads final reads writes weight whole =
      let a : Arc Cost ℕ = scaled_arc kind total t.arc in
      let has : slice_get (h.arcs new) t.place ≡ Some a = ap (λ (arcs : List (Arc Cost ℕ)). slice_get arcs t.place) o.arcs ∙ at_mapped (scaled_arc kind total) (g.arcs old) t.place t.arc leads.0.1 in
      let rest = path_there path t.arc.next last (o.enters t.place t.arc leads.0.1) leads.1 in
      let u : Transition ℕ = record { state = new; place = t.place; arc = a } in
      let p : Cost = product kind (letters path) in
      let end : h.final last ≡ g.final last = o.same_final last rest.1 in
      record {
        path = u ∷ path;
        last = last;
        leads = ((refl, has), rest.0);
        final = (λ e. final (sym end ∙ e));
        reads = reads;
        writes = writes;
        weight = whole ∙ (ap (times kind total) weight ∙ (sym (factor_out t.arc.weight p (g.final last)) ∙ ap (times kind (times kind (times kind total t.arc.weight) p)) (sym end)));
      }

  pub puts_says : (x y : List ℕ) (w : Cost) → RelFrom kind h new x y w ↔ ((v : Cost) × RelFrom kind g old x y v × (w ≡ times kind total v))
  puts_says x y w = (
    (λ r. there r.path r.last x y w r.leads r.final r.reads r.writes r.weight),
    (λ r. back r.1.path r.1.last x y r.0 w r.1.leads r.1.final r.1.reads r.1.writes r.1.weight r.2),
  )

module _ (kind : ArcType) (total : Cost) (m : Machine Cost) (next : (p k : ℕ) (a : Arc Cost ℕ) → slice_get ((graph_of m).arcs p) k ≡ Some a → a.next < length m.states) where
  -- on a start that no arc enters
  start_puts : (s : ℕ) → s < length m.states → (IsEntered m s → ⊥) → PutsOn kind total (graph_of m) (graph_of (put_on kind total m (OnStart s))) (λ p. s ≢ p) s s
  start_puts s low apart = record {
    arcs = ap (λ (t : State Cost). t.arcs) (at_start kind total m s low);
    final = ap (λ (t : State Cost). t.final) (at_start kind total m s low);
    enters = λ k a has e. apart (record { from = s; place = k; arc = a; there = has; leads = sym e });
    within = λ p k a other has e. apart (record { from = p; place = k; arc = a; there = has; leads = sym e });
    same_arcs = λ p other. ap (λ (t : State Cost). t.arcs) (off_start kind total m s p other);
    same_final = λ p other. ap (λ (t : State Cost). t.final) (off_start kind total m s p other);
  }

  -- on a copy
  copy_puts : (s : ℕ) → PutsOn kind total (graph_of m) (graph_of (put_on kind total m (OnCopy s))) (λ p. p < length m.states) s (length m.states)
  copy_puts s = record {
    arcs = ap (λ (t : State Cost). t.arcs) (at_copy kind total m s);
    final = ap (λ (t : State Cost). t.final) (at_copy kind total m s);
    enters = λ k a has. next s k a has;
    within = λ p k a low has. next p k a has;
    same_arcs = λ p low. ap (λ (t : State Cost). t.arcs) (off_copy kind total m s p low);
    same_final = λ p low. ap (λ (t : State Cost). t.final) (off_copy kind total m s p low);
  }

  -- what starts in one start and in the other
  starting : (h : Graph ℕ) (s new : ℕ) → m.start ≡ Some s → h.start ≡ Some new → ((x y : List ℕ) (w : Cost) → RelFrom kind h new x y w ↔ ((v : Cost) × RelFrom kind (graph_of m) s x y v × (w ≡ times kind total v)))
      → (x y : List ℕ) (w : Cost) → Rel kind h x y w ↔ ((v : Cost) × Rel kind (graph_of m) x y v × (w ≡ times kind total v))
  starting h s new starts begins says x y w = (
    (λ r. let o = (says x y w).0 (subst (λ (q : ℕ). RelFrom kind h q x y w) (one_start h.start r.first new r.starts begins) r.says) in (o.0, record { first = s; starts = starts; says = o.1 }, o.2)),
    (λ r. record { first = new; starts = begins; says = (says x y w).1 (r.0, subst (λ (q : ℕ). RelFrom kind (graph_of m) q x y r.0) (one_start m.start r.1.first s r.1.starts starts) r.1.says, r.2) }),
  )
    where
      one_start : (o : Option ℕ) (p q : ℕ) → o ≡ Some p → o ≡ Some q → p ≡ q
      one_start o p q e f = let same : Some p ≡ Some q = sym e ∙ f in cc

  -- the total is put where it belongs: what the machine then relates is what it relates, with the total as a factor
  pub placed_relates : (place : Place) → IsPlace kind total m place → IsAmong (length m.states) place → ((s : ℕ) → m.start ≡ Some s → total ≢ infinite) → (x y : List ℕ) (w : Cost)
      → Rel kind (graph_of (put_on kind total m place)) x y w ↔ ((v : Cost) × Rel kind (graph_of m) x y v × (w ≡ times kind total v))
  placed_relates Nowhere (inl none) among some x y w = ((λ r. absurd (let e : None ≡ Some r.first = sym none ∙ r.starts in cc)), (λ r. absurd (let e : None ≡ Some r.1.first = sym none ∙ r.1.starts in cc)))
  placed_relates Nowhere (inr one) among some x y w =
      let same : (v : Cost) → times kind total v ≡ v = λ v. ap (λ t. times kind t v) one ∙ one_times kind v in
      ((λ r. (w, r, sym (same w))), (λ r. subst (Rel kind (graph_of m) x y) (sym (r.2 ∙ same r.0)) r.1))
  placed_relates (OnStart s) is among some x y w =
      starting (graph_of (put_on kind total m (OnStart s))) s s is.0 is.0 (puts_says kind total (graph_of m) (graph_of (put_on kind total m (OnStart s))) (λ p. s ≢ p) s s (start_puts s among is.2) (some s is.0)) x y w
  placed_relates (OnCopy s) is among some x y w =
      starting (graph_of (put_on kind total m (OnCopy s))) s (length m.states) is.0 refl (puts_says kind total (graph_of m) (graph_of (put_on kind total m (OnCopy s))) (λ p. p < length m.states) s (length m.states) (copy_puts s) (some s is.0)) x y w
