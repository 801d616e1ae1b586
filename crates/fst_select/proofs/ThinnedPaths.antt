-- The connected machine of one with the arcs and final weights alone that good paths have is the pruned machine.
use Rattle.std.proofs.Common.{◌≡◌, inl, inr, ℕ, ◌+◌, suc, Bool, true, false, cond, List, [], ◌∷◌, ◌++◌, None, Some, filter, slice_get, refl, sym, ap, ◌∙◌, subst, append_assoc, append-nil, arith}
use Rattle.std.specs.Bool.{Decides}
use Rattle.fst_semiring.specs.Cost.{Cost, infinite}
use Rattle.fst_semiring.specs.declared.arc_type.ArcType.{ArcType}
use Rattle.fst_semiring.specs.Semiring.{times}
use Rattle.fst_machine.specs.Machine.{Arc, Machine, no_states}
use Rattle.fst_machine.specs.Graph.{Graph, graph_of}
use Rattle.fst_machine.specs.Paths.{Transition, IsPath}
use Rattle.fst_machine.specs.Relation.{IsSuccessful}
use Rattle.fst_machine.specs.Cycles.{IsCoaccessible, IsUseful}
use Rattle.fst_machine.specs.Connected.{IsConnected, Kept}
use Rattle.fst_machine.proofs.PathParts.{IsPath-append, IsPath-split}
use Rattle.fst_select.specs.Good.{Ends, IsBound, IsGood, Meets}
use Rattle.fst_select.specs.Pruned.{GoodArc, IsPruned, KeptArcs}
use Rattle.fst_select.specs.Surveyed.{GoodLaws, IsSurveyed, best_of_start}
use Rattle.fst_select.specs.Thinned.{arc_passes, is_within}
use Rattle.fst_select.proofs.GoodPaths.{cut, good_laws}
use Rattle.fst_select.proofs.ThinnedMachine.{at_filter, filter_at, thin, thinned_arcs, thinned_final, within_decides}

-- ---- a machine none of whose paths is successful

pub nothing_pruned : (kind : ArcType) (threshold : Cost) (m : Machine Cost) → ((path : List (Transition ℕ)) (w : Cost) → IsSuccessful kind (graph_of m) path w → ⊥) → IsPruned kind threshold m no_states
nothing_pruned kind threshold m none = record {
  bound = times kind infinite threshold;
  is_bound = record { best = infinite; least = inl ((λ w h. none h.path w h.successful), refl); same = refl };
  kept = [];
  ascending = λ i j p q low one two. absurd cc;
  meets = λ p. ((λ has. absurd has), (λ h. absurd (none (h.front ++ h.back) h.weight h.good.0)));
  states = refl;
  start = λ i. ((λ e. absurd cc), (λ h. absurd (let wrong : None ≡ Some h.0 = h.2 in cc)));
  ends = λ i p there. absurd cc;
  others = λ i p there. absurd cc;
  arcs = λ i p there. absurd cc;
}

-- ---- a machine whose distances are known

module _ (kind : ArcType) (threshold : Cost) (m c : Machine Cost) (s d : ℕ → Cost) (is : IsSurveyed kind (graph_of m) s d) (bound : Cost) (same : bound ≡ times kind (best_of_start d m.start) threshold) (h : IsConnected (thin kind bound s d m) c) where
  abbrev g : Graph ℕ
  g = graph_of m

  abbrev left : Graph ℕ
  left = graph_of (thin kind bound s d m)

  laws : GoodLaws kind g s d
  laws = good_laws kind g s d is

  -- an arc passes exactly where some good path goes by it
  abbrev at_arc : ℕ → ℕ → Arc Cost ℕ → Transition ℕ
  at_arc p k a = record { state = p; place = k; arc = a }

  passes : (p k : ℕ) (a : Arc Cost ℕ) → slice_get (g.arcs p) k ≡ Some a → Decides (arc_passes (λ v. v) kind bound d (s p) a) (GoodArc kind g bound p k a)
  passes p k a there =
      let law = laws.takes bound (at_arc p k a) (refl, there) in
      let test = within_decides bound (times kind (s p) (times kind a.weight (d a.next))) in
      ((λ e. law.1 (test.0 e)), (λ good. test.1 (law.0 good)))

  -- and a final weight stays exactly where some good path ends with it
  stays : (p : ℕ) → Decides (is_within bound (times kind (s p) (g.final p))) (Ends kind g bound p)
  stays p =
      let law = laws.ends bound p in
      let test = within_decides bound (times kind (s p) (g.final p)) in
      ((λ e. law.1 (test.0 e)), (λ ends. test.1 (law.0 ends)))

  final_stays : (p : ℕ) → Ends kind g bound p → left.final p ≡ g.final p
  final_stays p ends = thinned_final kind bound s d m p ∙ ap (λ (b : Bool). cond b (g.final p) infinite) ((stays p).1 ends)

  final_goes : (p : ℕ) → (Ends kind g bound p → ⊥) → left.final p ≡ infinite
  final_goes p not = thinned_final kind bound s d m p ∙ by (is_within bound (times kind (s p) (g.final p))) refl
    where
      by : (b : Bool) → is_within bound (times kind (s p) (g.final p)) ≡ b → cond b (g.final p) infinite ≡ infinite
      by true e = absurd (not ((stays p).0 e))
      by false e = refl

  -- ---- states

  -- where a good path goes by an arc, its state and its end are met
  from_met : (p k : ℕ) (a : Arc Cost ℕ) → GoodArc kind g bound p k a → Meets kind g bound p
  from_met p k a t =
      let ok = t.good.0 in
      let parts = IsPath-split g t.front (at_arc p k a ∷ t.back) ok.first ok.last ok.leads in
      let here : parts.0 ≡ p = sym parts.2.0.0 in
      record { first = ok.first; front = t.front; back = at_arc p k a ∷ t.back; weight = t.weight; starts = ok.starts; arrives = subst (IsPath g ok.first t.front) here parts.1; good = t.good }

  to_met : (p k : ℕ) (a : Arc Cost ℕ) → GoodArc kind g bound p k a → Meets kind g bound a.next
  to_met p k a t =
      let ok = t.good.0 in
      let parts = IsPath-split g t.front (at_arc p k a ∷ t.back) ok.first ok.last ok.leads in
      record {
        first = ok.first;
        front = t.front ++ at_arc p k a ∷ [];
        back = t.back;
        weight = t.weight;
        starts = ok.starts;
        arrives = IsPath-append g t.front (at_arc p k a ∷ []) ok.first parts.0 a.next parts.1 (parts.2.0, refl);
        good = subst (λ (ts : List (Transition ℕ)). IsGood kind g bound ts t.weight) (sym (append_assoc t.front (at_arc p k a ∷ []) t.back)) t.good;
      }

  useful_met : (q : ℕ) → IsCoaccessible left q → Meets kind g bound q
  useful_met q co = by co.path co.leads
    where
      by : (path : List (Transition ℕ)) → IsPath left q path co.last → Meets kind g bound q
      by [] leads = at_end (is_within bound (times kind (s q) (g.final q))) refl
        where
          at_end : (b : Bool) → is_within bound (times kind (s q) (g.final q)) ≡ b → Meets kind g bound q
          at_end true e =
              let ends = (stays q).0 e in
              record { first = ends.first; front = ends.path; back = []; weight = ends.weight; starts = ends.starts; arrives = ends.arrives; good = subst (λ (ts : List (Transition ℕ)). IsGood kind g bound ts ends.weight) (sym (append-nil ends.path)) ends.good }
          at_end false e = absurd (co.final (subst (λ (k : ℕ). left.final k ≡ infinite) leads (thinned_final kind bound s d m q ∙ ap (λ (b : Bool). cond b (g.final q) infinite) e)))
      by (t ∷ path) leads =
          let from = filter_at (arc_passes (λ v. v) kind bound d (s q)) (g.arcs q) t.place t.arc (ap (λ (arcs : List (Arc Cost ℕ)). slice_get arcs t.place) (sym (thinned_arcs kind bound s d m q)) ∙ leads.0.1) in
          from_met q from.0 t.arc ((passes q from.0 t.arc from.1).0 from.2)

  -- the arcs of a good path are left
  left_path : (pre rest post : List (Transition ℕ)) (p r : ℕ) (w : Cost) → IsPath g p rest r → IsGood kind g bound (pre ++ (rest ++ post)) w → (other : List (Transition ℕ)) × IsPath left p other r
  left_path pre [] post p r w leads good = ([], leads)
  left_path pre (t ∷ rest) post p r w leads good =
      let u : Transition ℕ = at_arc p t.place t.arc in
      let alike : t ≡ u = λ j. record { state = leads.0.0 j; place = t.place; arc = t.arc } in
      let takes : GoodArc kind g bound p t.place t.arc = record { front = pre; back = rest ++ post; weight = w; good = subst (λ (z : Transition ℕ). IsGood kind g bound (pre ++ z ∷ (rest ++ post)) w) alike good } in
      let at = at_filter (arc_passes (λ v. v) kind bound d (s p)) (g.arcs p) t.place t.arc leads.0.1 ((passes p t.place t.arc leads.0.1).1 takes) in
      let more = left_path (pre ++ t ∷ []) rest post t.arc.next r w leads.1 (subst (λ (ts : List (Transition ℕ)). IsGood kind g bound ts w) (sym (append_assoc pre (t ∷ []) (rest ++ post))) good) in
      (at_arc p at.0 t.arc ∷ more.0, ((refl, ap (λ (arcs : List (Arc Cost ℕ)). slice_get arcs at.0) (thinned_arcs kind bound s d m p) ∙ at.1), more.1))

  met_useful : (q : ℕ) → Meets kind g bound q → IsUseful left q
  met_useful q t =
      let ok = t.good.0 in
      let parts = cut kind g s d is t.first q t.front t.back t.weight t.starts t.arrives ok in
      let path = parts.0 in
      let back : IsPath g q t.back path.last = subst (λ (ts : List (Transition ℕ)). IsPath g q ts path.last) parts.2 path.goes in
      let front = left_path [] t.front t.back t.first q t.weight t.arrives t.good in
      let behind = left_path t.front t.back [] q path.last t.weight back (subst (λ (ts : List (Transition ℕ)). IsGood kind g bound (t.front ++ ts) t.weight) (sym (append-nil t.back)) t.good) in
      let ends : Ends kind g bound path.last = record { first = t.first; path = t.front ++ t.back; weight = t.weight; starts = t.starts; arrives = IsPath-append g t.front t.back t.first q path.last t.arrives back; good = t.good } in (
        record { first = t.first; path = front.0; starts = t.starts; leads = front.1 },
        record { last = path.last; path = behind.0; leads = behind.1; final = λ e. path.final (sym (final_stays path.last ends) ∙ e) },
      )

  -- ---- arcs

  kept_passes : (p k : ℕ) (arcs new : List (Arc Cost ℕ)) → ((j : ℕ) (a : Arc Cost ℕ) → slice_get arcs j ≡ Some a → slice_get (g.arcs p) (k + j) ≡ Some a)
      → Kept h.kept (filter (arc_passes (λ v. v) kind bound d (s p)) arcs) new → KeptArcs h.kept (GoodArc kind g bound p) k arcs new
  kept_passes p k [] [] each kept = tt
  kept_passes p k [] (b ∷ new) each kept = absurd kept
  kept_passes p k (a ∷ arcs) new each kept = by (arc_passes (λ v. v) kind bound d (s p) a) refl new kept (λ others more. kept_passes p (k + 1) arcs others behind more)
    where
      here : slice_get (g.arcs p) k ≡ Some a
      here = let none : k + 0 ≡ k = omega arith in subst (λ (n : ℕ). slice_get (g.arcs p) n ≡ Some a) none (each 0 a refl)

      behind : (j : ℕ) (b : Arc Cost ℕ) → slice_get arcs j ≡ Some b → slice_get (g.arcs p) (k + 1 + j) ≡ Some b
      behind j b there = let place : k + suc j ≡ k + 1 + j = omega arith in subst (λ (n : ℕ). slice_get (g.arcs p) n ≡ Some b) place (each (suc j) b there)

      by : (b : Bool) → arc_passes (λ v. v) kind bound d (s p) a ≡ b → (new : List (Arc Cost ℕ)) → Kept h.kept (cond b (a ∷ filter (arc_passes (λ v. v) kind bound d (s p)) arcs) (filter (arc_passes (λ v. v) kind bound d (s p)) arcs)) new
          → ((others : List (Arc Cost ℕ)) → Kept h.kept (filter (arc_passes (λ v. v) kind bound d (s p)) arcs) others → KeptArcs h.kept (GoodArc kind g bound p) (k + 1) arcs others) → KeptArcs h.kept (GoodArc kind g bound p) k (a ∷ arcs) new
      by true e [] kept rest = absurd (kept.0 ((h.useful a.next).1 (met_useful a.next (to_met p k a ((passes p k a here).0 e)))))
      by true e (b ∷ new) (inl kept) rest = absurd (kept.0 ((h.useful a.next).1 (met_useful a.next (to_met p k a ((passes p k a here).0 e)))))
      by true e (b ∷ new) (inr kept) rest = inr ((passes p k a here).0 e, kept.0, kept.1, rest new kept.2)
      by false e [] kept rest = ((λ good. let wrong : false ≡ true = sym e ∙ (passes p k a here).1 good in absurd cc), rest [] kept)
      by false e (b ∷ new) kept rest = inl ((λ good. let wrong : false ≡ true = sym e ∙ (passes p k a here).1 good in absurd cc), rest (b ∷ new) kept)

  pub thinned_pruned : IsPruned kind threshold m c
  thinned_pruned = record {
    bound = bound;
    is_bound = subst (IsBound kind g threshold) (sym same) (laws.bound threshold);
    kept = h.kept;
    ascending = h.ascending;
    meets = λ p. ((λ has. useful_met p ((h.useful p).0 has).1), (λ met. (h.useful p).1 (met_useful p met)));
    states = h.states;
    start = h.start;
    ends = λ i p there ends. h.final i p there ∙ final_stays p ends;
    others = λ i p there not. h.final i p there ∙ final_goes p not;
    arcs = λ i p there. kept_passes p 0 (g.arcs p) ((graph_of c).arcs i) (λ j a at. let none : j ≡ 0 + j = omega arith in subst (λ (n : ℕ). slice_get (g.arcs p) n ≡ Some a) none at)
        (subst (λ (arcs : List (Arc Cost ℕ)). Kept h.kept arcs ((graph_of c).arcs i)) (thinned_arcs kind bound s d m p) (h.arcs i p there));
  }
