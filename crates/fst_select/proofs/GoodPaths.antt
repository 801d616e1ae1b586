-- Distances decide what lies on good paths.
use Rattle.std.proofs.Common.{◌≡◌, ◌⊎◌, inl, inr, sym, refl, ap, ap₂, ◌∙◌, subst, ℕ, List, [], ◌∷◌, ◌++◌, Option, None, Some, slice_get}
use Rattle.std.proofs.lemmas.Option.{same_Some}
use Rattle.fst_semiring.specs.Cost.{Cost, infinite, plus}
use Rattle.fst_semiring.specs.declared.arc_type.ArcType.{ArcType}
use Rattle.fst_semiring.specs.Semiring.{times}
use Rattle.fst_semiring.proofs.Laws.{keeps_times, one_not_zero, one_times, times_assoc, times_keeps, times_only_zero, times_zero, zero_times}
use Rattle.fst_semiring.proofs.Order.{plus_infinite, plus_trans, plus_comm}
use Rattle.fst_machine.specs.Machine.{Arc}
use Rattle.fst_machine.specs.Graph.{Graph}
use Rattle.fst_machine.specs.Letters.{product}
use Rattle.fst_machine.specs.Paths.{Transition, IsPath, Leaves, letters}
use Rattle.fst_machine.specs.Relation.{IsSuccessful}
use Rattle.fst_machine.specs.Cycles.{IsAccessible, IsCoaccessible}
use Rattle.fst_machine.specs.Distance.{AllArcs, AnyArc, Finishes, IsFinalDistance, IsLeast}
use Rattle.fst_machine.proofs.PathParts.{IsPath-append, IsPath-split, same_path}
use Rattle.fst_machine.proofs.Letters.{letters-append, product-append}
use Rattle.fst_search.specs.Hops.{NoWorse}
use Rattle.fst_select.specs.Good.{Ends, IsPathWeight, Meets, Takes}
use Rattle.fst_select.specs.Surveyed.{Comes, GoodLaws, IsSurveyed, IsWithinBound, best_of_start}

module _ {N : Type 0} (kind : ArcType) (g : Graph N) (solid : (q : N) (k : ℕ) (a : Arc Cost N) → slice_get (g.arcs q) k ≡ Some a → a.weight ≡ infinite → ⊥) where
  -- no product of arcs is Zero
  pub product_solid : (path : List (Transition N)) (p q : N) → IsPath g p path q → product kind (letters path) ≡ infinite → ⊥
  product_solid [] p q leads zero_product = one_not_zero kind zero_product
  product_solid (t ∷ path) p q leads zero_product = by_case (product_solid path t.arc.next q leads.1) (times_only_zero kind t.arc.weight (product kind (letters path)) zero_product)
    where
      by_case : (product kind (letters path) ≡ infinite → ⊥) → (t.arc.weight ≡ infinite) ⊎ (product kind (letters path) ≡ infinite) → ⊥
      by_case rest (inl h) = solid p t.place t.arc leads.0.1 h
      by_case rest (inr h) = rest h

  -- nor is the weight of a path to a final name
  finish_solid : (p : N) (w : Cost) → Finishes kind g p w → w ≡ infinite → ⊥
  finish_solid p w f e = by_case (times_only_zero kind _ _ (sym f.weight ∙ e))
    where
      by_case : (product kind (letters f.path) ≡ infinite) ⊎ (g.final f.last ≡ infinite) → ⊥
      by_case (inl z) = product_solid f.path p f.last f.leads z
      by_case (inr z) = f.final z

  -- so a name from which a path leads to a final one has a distance that is not Zero
  pub distance_some : (p : N) (d : Cost) → IsFinalDistance kind g p d → IsCoaccessible g p → d ≡ infinite → ⊥
  distance_some p d (inl none) co e = none.0 _ (record { last = co.last; path = co.path; leads = co.leads; final = co.final; weight = refl })
  distance_some p d (inr some) co e = finish_solid p d some.0 e

  -- and one whose distance is not Zero has such a path
  pub some_distance : (p : N) (d : Cost) → IsFinalDistance kind g p d → (d ≡ infinite → ⊥) → IsCoaccessible g p
  some_distance p d (inl none) not = absurd (not none.1)
  some_distance p d (inr some) not = record { last = some.0.last; path = some.0.path; leads = some.0.leads; final = some.0.final }

module _ {N : Type 0} (kind : ArcType) (g : Graph N) (s d : N → Cost) (is : IsSurveyed kind g s d) where
  all_any : (path : List (Transition N)) → AllArcs (AnyArc {N = N}) path
  all_any [] = tt
  all_any (t ∷ path) = (tt, all_any path)

  -- a value that is least of those that are there is Zero or is there
  least_there : (A : Cost → Type 0) (v : Cost) → IsLeast A v → (v ≡ infinite → ⊥) → A v
  least_there A v (inl none) not = absurd (not none.1)
  least_there A v (inr some) not = some.0

  least_below : (A : Cost → Type 0) (v w : Cost) → IsLeast A v → A w → NoWorse v w
  least_below A v w (inl none) h = absurd (none.0 w h)
  least_below A v w (inr some) h = some.1 w h

  product_parts : (front back : List (Transition N)) → product kind (letters (front ++ back)) ≡ times kind (product kind (letters front)) (product kind (letters back))
  product_parts front back = ap (product kind) (letters-append front back) ∙ product-append kind (letters front) (letters back)

  -- a value no worse than one that is not Zero is not Zero
  not_zero_down : (v w : Cost) → NoWorse v w → (w ≡ infinite → ⊥) → v ≡ infinite → ⊥
  not_zero_down v w h not e = not (sym (plus_infinite w) ∙ (plus_comm w infinite ∙ (ap (λ z. plus z w) (sym e) ∙ (h ∙ e))))

  both_no_worse : (a b v w : Cost) → NoWorse a v → NoWorse b w → NoWorse (times kind a b) (times kind v w)
  both_no_worse a b v w one two = plus_trans (times kind a b) (times kind v b) (times kind v w) (keeps_times kind b a v one) (times_keeps kind v b w two)

  comes : (first q last : N) (front back : List (Transition N)) → g.start ≡ Some first → IsPath g first front q → IsPath g q back last → (g.final last ≡ infinite → ⊥) → NoWorse (s q) (product kind (letters front))
  comes first q last front back starts arrives goes final =
      least_below (Comes kind g q) (s q) (product kind (letters front)) (is.from_start q) (record {
        first = first;
        starts = starts;
        reaches = record { path = front; leads = arrives; class = all_any front; weight = refl };
        goes_on = record { last = last; path = back; leads = goes; final = final };
      })

  finishes : (first q last : N) (front back : List (Transition N)) → g.start ≡ Some first → IsPath g first front q → IsPath g q back last → (g.final last ≡ infinite → ⊥)
      → NoWorse (d q) (times kind (product kind (letters back)) (g.final last))
  finishes first q last front back starts arrives goes final =
      least_below (Finishes kind g q) (d q) _ (is.to_final q (record { first = first; path = front; starts = starts; leads = arrives }))
      (record { last = last; path = back; leads = goes; final = final; weight = refl })

  -- a path from the start to q, the rest of it, and its weight
  pub record Through (q : N) (w : Cost) : Type 0 where
    pub first : N
    pub last : N
    pub front : List (Transition N)
    pub back : List (Transition N)
    pub starts : g.start ≡ Some first
    pub arrives : IsPath g first front q
    pub goes : IsPath g q back last
    pub final : g.final last ≡ infinite → ⊥
    pub weight : w ≡ times kind (product kind (letters front)) (times kind (product kind (letters back)) (g.final last))

  successful : (q : N) (w : Cost) → (h : Through q w) → IsSuccessful kind g (h.front ++ h.back) w
  successful q w h = record {
    first = h.first;
    last = h.last;
    starts = h.starts;
    leads = IsPath-append g h.front h.back h.first q h.last h.arrives h.goes;
    final = h.final;
    weight = h.weight ∙ (sym (times_assoc kind _ _ _) ∙ ap (λ z. times kind z (g.final h.last)) (sym (product_parts h.front h.back)));
  }

  not_zero : (q : N) (w : Cost) → Through q w → w ≡ infinite → ⊥
  not_zero q w h e = by_case (times_only_zero kind _ _ (sym h.weight ∙ e))
    where
      last_case : (product kind (letters h.back) ≡ infinite) ⊎ (g.final h.last ≡ infinite) → ⊥
      last_case (inl z) = product_solid kind g is.solid h.back q h.last h.goes z
      last_case (inr z) = h.final z

      by_case : (product kind (letters h.front) ≡ infinite) ⊎ (times kind (product kind (letters h.back)) (g.final h.last) ≡ infinite) → ⊥
      by_case (inl z) = product_solid kind g is.solid h.front h.first q h.arrives z
      by_case (inr z) = last_case (times_only_zero kind _ _ z)

  -- the distances are no worse than each path through q
  through_least : (q : N) (w : Cost) → Through q w → NoWorse (times kind (s q) (d q)) w
  through_least q w h = subst (NoWorse (times kind (s q) (d q))) (sym h.weight)
      (both_no_worse (s q) (d q) _ _ (comes h.first q h.last h.front h.back h.starts h.arrives h.goes h.final)
      (finishes h.first q h.last h.front h.back h.starts h.arrives h.goes h.final))

  one_end : (front : List (Transition N)) (p q r : N) → IsPath g p front q → IsPath g p front r → q ≡ r
  one_end front p q r one two = (same_path g front front p q r one two refl).1

  -- a successful path that is cut at q is a path through q
  pub cut : (first q : N) (front back : List (Transition N)) (w : Cost) → g.start ≡ Some first → IsPath g first front q → IsSuccessful kind g (front ++ back) w
      → (h : Through q w) × (h.front ≡ front) × (h.back ≡ back)
  cut first q front back w starts arrives ok =
      let begins : ok.first ≡ first = same_Some ok.first first (sym ok.starts ∙ starts) in
      let parts = IsPath-split g front back first ok.last (subst (λ z. IsPath g z (front ++ back) ok.last) begins ok.leads) in
      let here : parts.0 ≡ q = one_end front first parts.0 q parts.1 arrives in (
        record {
          first = first;
          last = ok.last;
          front = front;
          back = back;
          starts = starts;
          arrives = arrives;
          goes = subst (λ z. IsPath g z back ok.last) here parts.2;
          final = ok.final;
          weight = ok.weight ∙ (ap (λ z. times kind z (g.final ok.last)) (product_parts front back) ∙ times_assoc kind _ _ _);
        },
        refl,
        refl,
      )

  infinite_left : (a b : Cost) → (times kind a b ≡ infinite → ⊥) → a ≡ infinite → ⊥
  infinite_left a b not e = not (ap (λ z. times kind z b) e ∙ zero_times kind b)

  infinite_right : (a b : Cost) → (times kind a b ≡ infinite → ⊥) → b ≡ infinite → ⊥
  infinite_right a b not e = not (ap (times kind a) e ∙ times_zero kind a)

  -- a best path to q that goes on
  best_to : (q : N) → (s q ≡ infinite → ⊥) → Comes kind g q (s q)
  best_to q not = least_there (Comes kind g q) (s q) (is.from_start q) not

  reached : (q : N) (w : Cost) → Comes kind g q w → IsAccessible g q
  reached q w c = record { first = c.first; path = c.reaches.path; starts = c.starts; leads = c.reaches.leads }

  best_from : (q : N) → IsAccessible g q → (d q ≡ infinite → ⊥) → Finishes kind g q (d q)
  best_from q access not = least_there (Finishes kind g q) (d q) (is.to_final q access) not

  -- and they are had by one
  through_best : (q : N) → (times kind (s q) (d q) ≡ infinite → ⊥) → Through q (times kind (s q) (d q))
  through_best q not =
      let c = best_to q (infinite_left (s q) (d q) not) in
      let f = best_from q (reached q (s q) c) (infinite_right (s q) (d q) not) in
      record {
        first = c.first;
        last = f.last;
        front = c.reaches.path;
        back = f.path;
        starts = c.starts;
        arrives = c.reaches.leads;
        goes = f.leads;
        final = f.final;
        weight = ap₂ (times kind) c.reaches.weight f.weight;
      }

  meets_there : (bound : Cost) (q : N) → Meets kind g bound q → IsWithinBound bound (times kind (s q) (d q))
  meets_there bound q h =
      let c = cut h.first q h.front h.back h.weight h.starts h.arrives h.good.0 in
      let below = through_least q h.weight c.0 in
      (not_zero_down _ h.weight below (not_zero q h.weight c.0), plus_trans _ h.weight bound below h.good.1)

  meets_back : (bound : Cost) (q : N) → IsWithinBound bound (times kind (s q) (d q)) → Meets kind g bound q
  meets_back bound q h =
      let t = through_best q h.0 in
      record { first = t.first; front = t.front; back = t.back; weight = times kind (s q) (d q); starts = t.starts; arrives = t.arrives; good = (successful q _ t, h.1) }

  -- a path through an arc
  by_arc : Transition N → Cost
  by_arc t = times kind (s t.state) (times kind t.arc.weight (d t.arc.next))

  takes_there : (bound : Cost) (t : Transition N) → Leaves g t.state t → Takes kind g bound t → IsWithinBound bound (times kind (s t.state) (times kind t.arc.weight (d t.arc.next)))
  takes_there bound t leaves h =
      let ok = h.good.0 in
      let parts = IsPath-split g h.front (t ∷ h.back) ok.first ok.last ok.leads in
      let here : parts.0 ≡ t.state = sym parts.2.0.0 in
      let arrives : IsPath g ok.first h.front t.state = subst (IsPath g ok.first h.front) here parts.1 in
      let after : IsPath g ok.first (h.front ++ t ∷ []) t.arc.next = IsPath-append g h.front (t ∷ []) ok.first t.state t.arc.next arrives (leaves, refl) in
      let there = comes ok.first t.state ok.last h.front (t ∷ h.back) ok.starts arrives (leaves, parts.2.1) ok.final in
      let rest = finishes ok.first t.arc.next ok.last (h.front ++ t ∷ []) h.back ok.starts after parts.2.1 ok.final in
      let c = cut ok.first t.state h.front (t ∷ h.back) h.weight ok.starts arrives ok in
      let whole : h.weight ≡ times kind (product kind (letters h.front)) (times kind t.arc.weight (times kind (product kind (letters h.back)) (g.final ok.last)))
      = ok.weight ∙ (ap (λ z. times kind z (g.final ok.last)) (product_parts h.front (t ∷ h.back)) ∙ (times_assoc kind _ _ _ ∙ ap (times kind (product kind (letters h.front))) (times_assoc kind _ _ _))) in
      let below : NoWorse (times kind (s t.state) (times kind t.arc.weight (d t.arc.next))) h.weight
      = subst (NoWorse _) (sym whole) (both_no_worse (s t.state) (times kind t.arc.weight (d t.arc.next)) _ _ there (times_keeps kind t.arc.weight (d t.arc.next) _ rest)) in
      (not_zero_down _ h.weight below (not_zero t.state h.weight c.0), plus_trans _ h.weight bound below h.good.1)

  takes_back : (bound : Cost) (t : Transition N) → Leaves g t.state t → IsWithinBound bound (times kind (s t.state) (times kind t.arc.weight (d t.arc.next))) → Takes kind g bound t
  takes_back bound t leaves h =
      let c = best_to t.state (infinite_left (s t.state) _ h.0) in
      let access : IsAccessible g t.arc.next = record { first = c.first; path = c.reaches.path ++ t ∷ []; starts = c.starts; leads = IsPath-append g c.reaches.path (t ∷ []) c.first t.state t.arc.next c.reaches.leads (leaves, refl) } in
      let f = best_from t.arc.next access (infinite_right t.arc.weight _ (infinite_right (s t.state) _ h.0)) in
      let path : Through t.state (times kind (s t.state) (times kind t.arc.weight (d t.arc.next))) = record {
        first = c.first;
        last = f.last;
        front = c.reaches.path;
        back = t ∷ f.path;
        starts = c.starts;
        arrives = c.reaches.leads;
        goes = (leaves, f.leads);
        final = f.final;
        weight = ap₂ (times kind) c.reaches.weight (ap (times kind t.arc.weight) f.weight ∙ sym (times_assoc kind _ _ _));
      } in
      record { front = c.reaches.path; back = f.path; weight = _; good = (successful t.state _ path, h.1) }

  ends_there : (bound : Cost) (q : N) → Ends kind g bound q → IsWithinBound bound (times kind (s q) (g.final q))
  ends_there bound q h =
      let ok = h.good.0 in
      let begins : ok.first ≡ h.first = same_Some ok.first h.first (sym ok.starts ∙ h.starts) in
      let leads : IsPath g h.first h.path ok.last = subst (λ z. IsPath g z h.path ok.last) begins ok.leads in
      let last : ok.last ≡ q = one_end h.path h.first ok.last q leads h.arrives in
      let final : g.final q ≡ infinite → ⊥ = subst (λ z. g.final z ≡ infinite → ⊥) last ok.final in
      let weight : h.weight ≡ times kind (product kind (letters h.path)) (g.final q) = ok.weight ∙ ap (λ z. times kind (product kind (letters h.path)) (g.final z)) last in
      let there = comes h.first q q h.path [] h.starts h.arrives refl final in
      let below : NoWorse (times kind (s q) (g.final q)) h.weight = subst (NoWorse _) (sym weight) (keeps_times kind (g.final q) (s q) _ there) in
      let whole : Through q h.weight = record {
        first = h.first;
        last = q;
        front = h.path;
        back = [];
        starts = h.starts;
        arrives = h.arrives;
        goes = refl;
        final = final;
        weight = weight ∙ ap (times kind (product kind (letters h.path))) (sym (one_times kind (g.final q)));
      } in
      (not_zero_down _ h.weight below (not_zero q h.weight whole), plus_trans _ h.weight bound below h.good.1)

  ends_back : (bound : Cost) (q : N) → IsWithinBound bound (times kind (s q) (g.final q)) → Ends kind g bound q
  ends_back bound q h =
      let c = best_to q (infinite_left (s q) _ h.0) in
      record {
        first = c.first;
        path = c.reaches.path;
        weight = times kind (s q) (g.final q);
        starts = c.starts;
        arrives = c.reaches.leads;
        good = (record { first = c.first; last = q; starts = c.starts; leads = c.reaches.leads; final = infinite_right (s q) _ h.0; weight = ap (λ z. times kind z (g.final q)) c.reaches.weight }, h.1);
      }

  best_weight : (o : Option N) → g.start ≡ o → IsLeast (IsPathWeight kind g) (best_of_start d o)
  best_weight None none = inl ((λ w h. let wrong : ◌≡◌ {A = Option N} None (Some h.successful.first) = sym none ∙ h.successful.starts in cc), refl)
  best_weight (Some first) starts = by_case (is.to_final first (record { first = first; path = []; starts = starts; leads = refl }))
    where
      finish : (w : Cost) → IsPathWeight kind g w → Finishes kind g first w
      finish w h =
          let ok = h.successful in
          let begins : ok.first ≡ first = same_Some ok.first first (sym ok.starts ∙ starts) in
          record { last = ok.last; path = h.path; leads = subst (λ z. IsPath g z h.path ok.last) begins ok.leads; final = ok.final; weight = ok.weight }

      by_case : IsFinalDistance kind g first (d first) → IsLeast (IsPathWeight kind g) (d first)
      by_case (inl none) = inl ((λ w h. none.0 w (finish w h)), none.1)
      by_case (inr some) = inr (record { path = some.0.path; successful = record { first = first; last = some.0.last; starts = starts; leads = some.0.leads; final = some.0.final; weight = some.0.weight } }, (λ w h. some.1 w (finish w h)))

  pub good_laws : GoodLaws kind g s d
  good_laws = record {
    bound = λ threshold. record { best = best_of_start d g.start; least = best_weight g.start refl; same = refl };
    meets = λ bound q. (meets_there bound q, meets_back bound q);
    takes = λ bound t leaves. (takes_there bound t leaves, takes_back bound t leaves);
    ends = λ bound q. (ends_there bound q, ends_back bound q);
  }
