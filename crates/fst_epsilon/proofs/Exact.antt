-- The exact machine is one without epsilon arcs, as the theorem takes it.
use Rattle.std.proofs.Common.{◌≡◌, ◌⊎◌, inl, inr, ℕ, Bool, true, false, true≢false, cond, List, [], ◌∷◌, Some, slice_get, eqb-true, eq-eqb, sym, refl, ap, ◌∙◌, subst}
use Rattle.std.specs.Prelude.{nat_eq}
use Rattle.std.proofs.lemmas.Bool.{and_from, and_parts, cases_Bool}
use Rattle.fst_semiring.specs.Cost.{Cost, infinite, plus}
use Rattle.fst_semiring.specs.declared.arc_type.ArcType.{ArcType}
use Rattle.fst_semiring.specs.Semiring.{times}
use Rattle.fst_semiring.proofs.Laws.{times_comm, times_keeps}
use Rattle.fst_semiring.proofs.Order.{plus_picks, plus_trans}
use Rattle.fst_machine.specs.BreadthFirst.{Has}
use Rattle.fst_machine.specs.Cycles.{IsAccessible}
use Rattle.fst_machine.specs.Distance.{EpsilonArc, IsDistance, Reaches}
use Rattle.fst_machine.specs.Graph.{Graph}
use Rattle.fst_machine.specs.Machine.{Arc}
use Rattle.fst_machine.proofs.Connected.{accessible_next}
use Rattle.fst_machine.proofs.Elements.{at_Has, Has_at, Has-append_cases, Has-append_left, Has-append_right}
use Rattle.fst_search.specs.Hops.{NoWorse}
use Rattle.fst_epsilon.specs.Construction.{IsClosureList, IsRemoved, behind_arc, best_final, collected, is_silent, merged, spoken}
use Rattle.fst_epsilon.specs.Removal.{IsBehind, Removes, StandsFor}
use Rattle.fst_epsilon.proofs.Merging.{Best, From, merged_each, merged_from, no_worse_left, no_worse_right}

module _ (kind : ArcType) (g : Graph ℕ) where
  spoken_from : (c : Cost) (arcs : List (Arc Cost ℕ)) (x : Arc Cost ℕ) → Has (spoken kind c arcs) x → (a : Arc Cost ℕ) × Has arcs a × (is_silent a ≡ false) × (behind_arc kind c a ≡ x)
  spoken_from c [] x h = absurd h
  spoken_from c (a ∷ arcs) x h = by_test (cases_Bool (is_silent a)) (spoken_from c arcs x)
    where
      Found : List (Arc Cost ℕ) → Type 0
      Found l = (a : Arc Cost ℕ) × Has l a × (is_silent a ≡ false) × (behind_arc kind c a ≡ x)

      later : Found arcs → Found (a ∷ arcs)
      later f = (f.0, inr f.1, f.2, f.3)

      other : is_silent a ≡ false → Has (behind_arc kind c a ∷ spoken kind c arcs) x → (Has (spoken kind c arcs) x → Found arcs) → Found (a ∷ arcs)
      other e (inl is) rest = (a, inl refl, e, is)
      other e (inr more) rest = later (rest more)

      by_test : (is_silent a ≡ true) ⊎ (is_silent a ≡ false) → (Has (spoken kind c arcs) x → Found arcs) → Found (a ∷ arcs)
      by_test (inl e) rest = later (rest (subst (λ (t : Bool). Has (cond t (spoken kind c arcs) (behind_arc kind c a ∷ spoken kind c arcs)) x) e h))
      by_test (inr e) rest = other e (subst (λ (t : Bool). Has (cond t (spoken kind c arcs) (behind_arc kind c a ∷ spoken kind c arcs)) x) e h) rest

  spoken_each : (c : Cost) (arcs : List (Arc Cost ℕ)) (a : Arc Cost ℕ) → Has arcs a → is_silent a ≡ false → Has (spoken kind c arcs) (behind_arc kind c a)
  spoken_each c [] a h e = absurd h
  spoken_each c (z ∷ arcs) a h e = by_test (cases_Bool (is_silent z)) h (λ more. spoken_each c arcs a more e)
    where
      out : (z ≡ a) ⊎ Has arcs a → (Has arcs a → Has (spoken kind c arcs) (behind_arc kind c a)) → is_silent z ≡ true → Has (spoken kind c arcs) (behind_arc kind c a)
      out (inl is) rest t = absurd (true≢false (sym t ∙ (ap is_silent is ∙ e)))
      out (inr more) rest t = rest more

      in_front : (z ≡ a) ⊎ Has arcs a → (Has arcs a → Has (spoken kind c arcs) (behind_arc kind c a)) → Has (behind_arc kind c z ∷ spoken kind c arcs) (behind_arc kind c a)
      in_front (inl is) rest = inl (ap (behind_arc kind c) is)
      in_front (inr more) rest = inr (rest more)

      by_test : (is_silent z ≡ true) ⊎ (is_silent z ≡ false) → (z ≡ a) ⊎ Has arcs a → (Has arcs a → Has (spoken kind c arcs) (behind_arc kind c a)) → Has (spoken kind c (z ∷ arcs)) (behind_arc kind c a)
      by_test (inl t) there rest = subst (λ (t : Bool). Has (cond t (spoken kind c arcs) (behind_arc kind c z ∷ spoken kind c arcs)) (behind_arc kind c a)) (sym t) (out there rest t)
      by_test (inr t) there rest = subst (λ (t : Bool). Has (cond t (spoken kind c arcs) (behind_arc kind c z ∷ spoken kind c arcs)) (behind_arc kind c a)) (sym t) (in_front there rest)

  collected_from : (closure : List (ℕ × Cost)) (x : Arc Cost ℕ) → Has (collected kind g closure) x → (e : ℕ × Cost) × Has closure e × Has (spoken kind e.1 (g.arcs e.0)) x
  collected_from [] x h = absurd h
  collected_from (e ∷ closure) x h = by_place (Has-append_cases (spoken kind e.1 (g.arcs e.0)) (collected kind g closure) x h) (collected_from closure x)
    where
      Found : List (ℕ × Cost) → Type 0
      Found l = (e : ℕ × Cost) × Has l e × Has (spoken kind e.1 (g.arcs e.0)) x

      later : Found closure → Found (e ∷ closure)
      later f = (f.0, inr f.1, f.2)

      by_place : Has (spoken kind e.1 (g.arcs e.0)) x ⊎ Has (collected kind g closure) x → (Has (collected kind g closure) x → Found closure) → Found (e ∷ closure)
      by_place (inl here) rest = (e, inl refl, here)
      by_place (inr more) rest = later (rest more)

  collected_each : (closure : List (ℕ × Cost)) (e : ℕ × Cost) (x : Arc Cost ℕ) → Has closure e → Has (spoken kind e.1 (g.arcs e.0)) x → Has (collected kind g closure) x
  collected_each [] e x h here = absurd h
  collected_each (z ∷ closure) e x (inl is) here =
      Has-append_left (spoken kind z.1 (g.arcs z.0)) (collected kind g closure) x (subst (λ (w : ℕ × Cost). Has (spoken kind w.1 (g.arcs w.0)) x) (sym is) here)
  collected_each (z ∷ closure) e x (inr h) here =
      Has-append_right (spoken kind z.1 (g.arcs z.0)) (collected kind g closure) x (collected_each closure e x h here)

  best_from : (closure : List (ℕ × Cost)) → (best_final kind g closure ≡ infinite) ⊎ ((e : ℕ × Cost) × Has closure e × (best_final kind g closure ≡ times kind e.1 (g.final e.0)))
  best_from [] = inl refl
  best_from (e ∷ closure) = by_pick (plus_picks (times kind e.1 (g.final e.0)) (best_final kind g closure)) (best_from closure)
    where
      whole : Cost
      whole = plus (times kind e.1 (g.final e.0)) (best_final kind g closure)

      by_pick : (whole ≡ times kind e.1 (g.final e.0)) ⊎ (whole ≡ best_final kind g closure)
          → (best_final kind g closure ≡ infinite) ⊎ ((d : ℕ × Cost) × Has closure d × (best_final kind g closure ≡ times kind d.1 (g.final d.0)))
          → (whole ≡ infinite) ⊎ ((d : ℕ × Cost) × Has (e ∷ closure) d × (whole ≡ times kind d.1 (g.final d.0)))
      by_pick (inl p) rest = inr (e, inl refl, p)
      by_pick (inr p) (inl none) = inl (p ∙ none)
      by_pick (inr p) (inr some) = inr (some.0, inr some.1, p ∙ some.2)

  best_below : (closure : List (ℕ × Cost)) (e : ℕ × Cost) → Has closure e → NoWorse (best_final kind g closure) (times kind e.1 (g.final e.0))
  best_below [] e h = absurd h
  best_below (z ∷ closure) e (inl is) =
      subst (λ (w : ℕ × Cost). NoWorse (best_final kind g (z ∷ closure)) (times kind w.1 (g.final w.0))) is (no_worse_left (times kind z.1 (g.final z.0)) (best_final kind g closure))
  best_below (z ∷ closure) e (inr h) =
      plus_trans (best_final kind g (z ∷ closure)) (best_final kind g closure) (times kind e.1 (g.final e.0)) (no_worse_right (times kind z.1 (g.final z.0)) (best_final kind g closure)) (best_below closure e h)

  -- a product with a better first value is no worse
  keeps_left : (a b c : Cost) → NoWorse a b → NoWorse (times kind a c) (times kind b c)
  keeps_left a b c e = subst (λ z. plus z (times kind b c) ≡ z) (times_comm kind c a) (subst (λ z. plus (times kind c a) z ≡ times kind c a) (times_comm kind c b) (times_keeps kind c a b e))

  pub least_reached : (q p : ℕ) (d : Cost) → (d ≡ infinite → ⊥) → IsDistance kind g EpsilonArc q p d → Reaches kind g EpsilonArc q p d
  least_reached q p d finite (inl none) = absurd (finite none.1)
  least_reached q p d finite (inr one) = one.0

  least_below : (q p : ℕ) (d c : Cost) → Reaches kind g EpsilonArc q p c → IsDistance kind g EpsilonArc q p d → NoWorse d c
  least_below q p d c way (inl none) = absurd (none.0 c way)
  least_below q p d c way (inr one) = one.1 c way

  loud : (a : Arc Cost ℕ) → is_silent a ≡ false → EpsilonArc a → ⊥
  loud a e both = true≢false (sym (and_from (nat_eq a.ilabel 0) (nat_eq a.olabel 0) (eq-eqb a.ilabel 0 both.0) (eq-eqb a.olabel 0 both.1)) ∙ e)

  not_silent : (a : Arc Cost ℕ) → (EpsilonArc a → ⊥) → is_silent a ≡ false
  not_silent a loudly = by (cases_Bool (is_silent a))
    where
      by : (is_silent a ≡ true) ⊎ (is_silent a ≡ false) → is_silent a ≡ false
      by (inl e) = let parts = and_parts (nat_eq a.ilabel 0) (nat_eq a.olabel 0) e in absurd (loudly (eqb-true a.ilabel 0 parts.0, eqb-true a.olabel 0 parts.1))
      by (inr e) = e

  module _ (q : ℕ) (closure : List (ℕ × Cost)) (l : IsClosureList kind g q closure) where
    pub arc_from : (b : Arc Cost ℕ) → Has (merged [] (collected kind g closure)) b → IsBehind kind g q b
    arc_from b h = behind (merged_from [] (collected kind g closure) b h)
      where
        placed : (f : From (collected kind g closure) b) (e : ℕ × Cost) → Has closure e → (a : Arc Cost ℕ) → Has (g.arcs e.0) a → is_silent a ≡ false → behind_arc kind e.1 a ≡ f.arc → IsBehind kind g q b
        placed f e here a there s is =
            let spot = Has_at (g.arcs e.0) a there in
            let i = f.stands.ilabel ∙ ap (λ (z : Arc Cost ℕ). z.ilabel) (sym is) in
            let o = f.stands.olabel ∙ ap (λ (z : Arc Cost ℕ). z.olabel) (sym is) in
            record {
              state = e.0;
              cost = e.1;
              place = spot.0;
              arc = a;
              silent = least_reached q e.0 e.1 (l.finite e.0 e.1 here) (l.distances e.0 e.1 here);
              there = spot.1;
              stands = record { ilabel = i; olabel = o; next = f.stands.next ∙ ap (λ (z : Arc Cost ℕ). z.next) (sym is) };
              weight = f.weight ∙ ap (λ (z : Arc Cost ℕ). z.weight) (sym is);
              speaks = λ both. loud a s (sym i ∙ both.0, sym o ∙ both.1);
            }

        behind : From (collected kind g closure) b → IsBehind kind g q b
        behind f =
            let e = collected_from closure f.arc f.there in
            let a = spoken_from e.0.1 (g.arcs e.0.0) f.arc e.2 in
            placed f e.0 e.1 a.0 a.1 a.2 a.3

    arc_each : (p : ℕ) (c : Cost) (j : ℕ) (a : Arc Cost ℕ) → Reaches kind g EpsilonArc q p c → slice_get (g.arcs p) j ≡ Some a → (EpsilonArc a → ⊥)
        → (b : Arc Cost ℕ) × Has (merged [] (collected kind g closure)) b × StandsFor a b × NoWorse b.weight (times kind c a.weight)
    arc_each p c j a way there speaks = better (l.all p c way)
      where
        Found : Type 0
        Found = (b : Arc Cost ℕ) × Has (merged [] (collected kind g closure)) b × StandsFor a b × NoWorse b.weight (times kind c a.weight)

        taken : (d : Cost) → NoWorse d c → Best (merged [] (collected kind g closure)) (behind_arc kind d a) → Found
        taken d less b = (
          b.arc,
          b.there,
          record { ilabel = b.stands.ilabel; olabel = b.stands.olabel; next = b.stands.next },
          plus_trans b.arc.weight (times kind d a.weight) (times kind c a.weight) b.no_worse (keeps_left d c a.weight less),
        )

        better : (d : Cost) × Has closure (p, d) → Found
        better f =
            let out = spoken_each f.0 (g.arcs p) a (at_Has (g.arcs p) j a there) (not_silent a speaks) in
            let all = collected_each closure (p, f.0) (behind_arc kind f.0 a) f.1 out in
            taken f.0 (least_below q p f.0 c way (l.distances p f.0 f.1)) (merged_each [] (collected kind g closure) (behind_arc kind f.0 a) (inr all))

    final_from : (best_final kind g closure ≡ infinite) ⊎ ((p : ℕ) × (c : Cost) × Reaches kind g EpsilonArc q p c × (best_final kind g closure ≡ times kind c (g.final p)))
    final_from = by (best_from closure)
      where
        by : (best_final kind g closure ≡ infinite) ⊎ ((e : ℕ × Cost) × Has closure e × (best_final kind g closure ≡ times kind e.1 (g.final e.0)))
            → (best_final kind g closure ≡ infinite) ⊎ ((p : ℕ) × (c : Cost) × Reaches kind g EpsilonArc q p c × (best_final kind g closure ≡ times kind c (g.final p)))
        by (inl e) = inl e
        by (inr f) = inr (f.0.0, f.0.1, least_reached q f.0.0 f.0.1 (l.finite f.0.0 f.0.1 f.1) (l.distances f.0.0 f.0.1 f.1), f.2)

    final_below : (p : ℕ) (c : Cost) → Reaches kind g EpsilonArc q p c → NoWorse (best_final kind g closure) (times kind c (g.final p))
    final_below p c way = by (l.all p c way)
      where
        by : (d : Cost) × Has closure (p, d) → NoWorse (best_final kind g closure) (times kind c (g.final p))
        by f = plus_trans (best_final kind g closure) (times kind f.0 (g.final p)) (times kind c (g.final p)) (best_below closure (p, f.0) f.1)
            (keeps_left f.0 c (g.final p) (least_below q p f.0 c way (l.distances p f.0 f.1)))

  -- the exact machine removes
  pub removed_removes : (h : Graph ℕ) → ((n : ℕ) (k : ℕ) (a : Arc Cost ℕ) → slice_get (g.arcs n) k ≡ Some a → a.weight ≡ infinite → ⊥) → IsRemoved kind g h → Removes kind g h (IsAccessible g)
  removed_removes h solid r = record {
    start = r.start;
    begins = λ n e. record { first = n; path = []; starts = e; leads = refl };
    within = λ n k a near there. accessible_next g n k a near there;
    solid = solid;
    from = λ n k b near there. arc_from n (r.closure n near) (r.closes n near) b (at_Has (merged [] (collected kind g (r.closure n near))) k b (subst (λ (l : List (Arc Cost ℕ)). slice_get l k ≡ Some b) (r.arcs n near) there));
    each = λ n p c j a near way there speaks. put n near a c (arc_each n (r.closure n near) (r.closes n near) p c j a way there speaks);
    ends = λ n near. subst (λ (f : Cost). (f ≡ infinite) ⊎ ((p : ℕ) × (c : Cost) × Reaches kind g EpsilonArc n p c × (f ≡ times kind c (g.final p)))) (sym (r.final n near)) (final_from n (r.closure n near) (r.closes n near));
    finals = λ n p c near way. subst (λ (f : Cost). NoWorse f (times kind c (g.final p))) (sym (r.final n near)) (final_below n (r.closure n near) (r.closes n near) p c way);
  }
    where
      put : (n : ℕ) (near : IsAccessible g n) (a : Arc Cost ℕ) (c : Cost)
          → (b : Arc Cost ℕ) × Has (merged [] (collected kind g (r.closure n near))) b × StandsFor a b × NoWorse b.weight (times kind c a.weight)
          → (k : ℕ) × (b : Arc Cost ℕ) × (slice_get (h.arcs n) k ≡ Some b) × StandsFor a b × NoWorse b.weight (times kind c a.weight)
      put n near a c f =
          let spot = Has_at (merged [] (collected kind g (r.closure n near))) f.0 f.1 in
          (spot.0, f.0, subst (λ (l : List (Arc Cost ℕ)). slice_get l spot.0 ≡ Some f.0) (sym (r.arcs n near)) spot.1, f.2, f.3)
