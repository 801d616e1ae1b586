-- Graphs continued by an epsilon arc: what their paths are.
use Rattle.std.proofs.Common.{◌≡◌, ◌⊎◌, inl, inr, ℕ, ◌+◌, zero, suc, List, [], ◌∷◌, ◌++◌, Some, length, map, slice_get, sym, refl, ap, ap₂, ◌∙◌, subst, arith}
use Rattle.fst_semiring.specs.Cost.{Cost, best, finite, infinite}
use Rattle.fst_semiring.specs.declared.arc_type.ArcType.{ArcType}
use Rattle.fst_semiring.specs.Semiring.{times}
use Rattle.fst_semiring.proofs.Laws.{times_assoc}
use Rattle.fst_machine.specs.Machine.{Arc}
use Rattle.fst_machine.specs.Graph.{Graph, renamed}
use Rattle.fst_machine.specs.Letters.{input, output, product}
use Rattle.fst_machine.specs.Paths.{Transition, IsPath, letters}
use Rattle.fst_machine.specs.Renaming.{moved}
use Rattle.fst_machine.specs.Continuing.{epsilon_arc, leaving, Continues, Stays, GoesOn}
use Rattle.fst_machine.proofs.Arcs.{mapped_at, at_mapped, at_append_left, at_append_right, append_at}
use Rattle.fst_machine.proofs.Letters.{letters-append, input-append, output-append, product-append}
use Rattle.fst_machine.proofs.Renaming.{moved-letters}

-- a final name has the epsilon arc, in the first place of those that leave
pub leaving_has : {M : Type 0} (w : Cost) (c : M) → (w ≡ infinite → ⊥) → slice_get (leaving w c) 0 ≡ Some (epsilon_arc w c)
leaving_has best c final = refl
leaving_has (finite a b) c final = refl
leaving_has infinite c final = absurd (final refl)

-- what leaves is the epsilon arc, and the name is final
pub leaving_only : {M : Type 0} (w : Cost) (c : M) (k : ℕ) (a : Arc Cost M) → slice_get (leaving w c) k ≡ Some a → (w ≡ infinite → ⊥) × (epsilon_arc w c ≡ a)
leaving_only best c zero a e = ((λ no_weight. absurd (cc)), cc)
leaving_only best c (suc k) a e = absurd (cc)
leaving_only (finite x y) c zero a e = ((λ no_weight. absurd (cc)), cc)
leaving_only (finite x y) c (suc k) a e = absurd (cc)
leaving_only infinite c k a e = absurd (cc)

module _ {N M : Type 0} (f : N → M) (g : Graph N) (h : Graph M) (D : N → Type 0) (c : M) (s : Continues f g h D c) where
  -- an arc of a name, renamed, is an arc of its other name
  inner_arc : (n : N) (k : ℕ) (a : Arc Cost N) → D n → slice_get (g.arcs n) k ≡ Some a → slice_get (h.arcs (f n)) k ≡ Some (renamed f a)
  inner_arc n k a within has = ap (λ arcs. slice_get arcs k) (s.arcs n within) ∙ at_append_left (map (renamed f) (g.arcs n)) (leaving (g.final n) c) k (renamed f a) (at_mapped (renamed f) (g.arcs n) k a has)

  -- a final name goes on by the epsilon arc
  outer_arc : (n : N) → D n → (g.final n ≡ infinite → ⊥) → slice_get (h.arcs (f n)) (length (map (renamed f) (g.arcs n)) + 0) ≡ Some (epsilon_arc (g.final n) c)
  outer_arc n within final = ap (λ arcs. slice_get arcs (length (map (renamed f) (g.arcs n)) + 0)) (s.arcs n within) ∙ at_append_right (map (renamed f) (g.arcs n)) (leaving (g.final n) c) 0 (epsilon_arc (g.final n) c) (leaving_has (g.final n) c final)

  -- a path of g, renamed, is a path of h
  pub continued_stays : (p q : N) (path : List (Transition N)) → D p → IsPath g p path q → IsPath h (f p) (moved f path) (f q)
  continued_stays p q [] within here = ap f here
  continued_stays p q (t ∷ path) within leads = ((ap f leads.0.0, inner_arc p t.place t.arc within leads.0.1), continued_stays t.arc.next q path (s.within p t.place t.arc within leads.0.1) leads.1)

  -- from a final name it goes on by the epsilon arc and any path from c
  pub continued_on : (p q : N) (path : List (Transition N)) (rest : List (Transition M)) (last : M) → D p → IsPath g p path q → (g.final q ≡ infinite → ⊥) → IsPath h c rest last → (place : ℕ) × IsPath h (f p) (moved f path ++ (record { state = f q; place = place; arc = epsilon_arc (g.final q) c } ∷ rest)) last
  continued_on p q [] rest last within here final goes =
      let there : f q ≡ f p = ap f (sym here) in
      let has = outer_arc q (subst D here within) final in
      (_, ((there, ap (λ z. slice_get (h.arcs z) (length (map (renamed f) (g.arcs q)) + 0)) (sym there) ∙ has), goes))
  continued_on p q (t ∷ path) rest last within leads final goes =
      let more = continued_on t.arc.next q path rest last (s.within p t.place t.arc within leads.0.1) leads.1 final goes in
      (more.0, ((ap f leads.0.0, inner_arc p t.place t.arc within leads.0.1), more.1))

  -- and a path of h from a renamed name does nothing else
  pub continued_cases : (p : N) (path : List (Transition M)) (last : M) → D p → IsPath h (f p) path last → Stays f g D p path last ⊎ GoesOn f g h D c p path last
  continued_cases p [] last within here = inl (record { old = []; end = p; leads = refl; within = within; same = refl; ends = here })
  continued_cases p (t ∷ path) last within leads = by_arc (append_at (map (renamed f) (g.arcs p)) (leaving (g.final p) c) t.place t.arc (ap (λ arcs. slice_get arcs t.place) (sym (s.arcs p within)) ∙ leads.0.1)) (λ n inside e. continued_cases n path last inside (subst (λ (z : M). IsPath h z path last) (sym e) leads.1))
    where
      step : Arc Cost N → Transition N
      step a = record { state = p; place = t.place; arc = a }

      by_rest : (a : Arc Cost N) → slice_get (g.arcs p) t.place ≡ Some a → renamed f a ≡ t.arc → Stays f g D a.next path last ⊎ GoesOn f g h D c a.next path last → Stays f g D p (t ∷ path) last ⊎ GoesOn f g h D c p (t ∷ path) last
      by_rest a has e (inl r) =
          let same : ◌≡◌ {A = Transition M} (record { state = f p; place = t.place; arc = renamed f a }) t = λ i. record { state = sym leads.0.0 i; place = t.place; arc = e i } in
          inl (record { old = step a ∷ r.old; end = r.end; leads = ((refl, has), r.leads); within = r.within; same = ap₂ (◌∷◌) same r.same; ends = r.ends })
      by_rest a has e (inr r) =
          let same : ◌≡◌ {A = Transition M} t (record { state = f p; place = t.place; arc = renamed f a }) = λ i. record { state = leads.0.0 i; place = t.place; arc = sym e i } in
          inr (record { old = step a ∷ r.old; end = r.end; leads = ((refl, has), r.leads); within = r.within; final = r.final; place = r.place; rest = r.rest; same = ap₂ (◌∷◌) same r.same; goes = r.goes; shorter = omega (arith, r.shorter) })

      by_arc : (slice_get (map (renamed f) (g.arcs p)) t.place ≡ Some t.arc) ⊎ ((j : ℕ) × (slice_get (leaving (g.final p) c) j ≡ Some t.arc) × (t.place ≡ length (map (renamed f) (g.arcs p)) + j)) → ((n : N) → D n → f n ≡ t.arc.next → Stays f g D n path last ⊎ GoesOn f g h D c n path last) → Stays f g D p (t ∷ path) last ⊎ GoesOn f g h D c p (t ∷ path) last
      by_arc (inl e) further =
          let from = mapped_at (renamed f) (g.arcs p) t.place t.arc e in
          by_rest from.0 from.1 from.2 (further from.0.next (s.within p t.place from.0 within from.1) (ap (λ (a : Arc Cost M). a.next) from.2))
      by_arc (inr e) further =
          let leaves = leaving_only (g.final p) c e.0 t.arc e.1 in
          let same : ◌≡◌ {A = Transition M} t (record { state = f p; place = t.place; arc = epsilon_arc (g.final p) c }) = λ i. record { state = leads.0.0 i; place = t.place; arc = sym leaves.1 i } in
          inr (record { old = []; end = p; leads = refl; within = within; final = leaves.0; place = t.place; rest = path; same = ap (λ z. z ∷ path) same; goes = subst (λ (a : Arc Cost M). IsPath h a.next path last) (sym leaves.1) leads.1; shorter = omega arith })

  -- the strings and the product of a path that goes on
  pub GoesOn-input : (p : N) (path : List (Transition M)) (last : M) → (r : GoesOn f g h D c p path last) → input (letters path) ≡ input (letters r.old) ++ input (letters r.rest)
  GoesOn-input p path last r = ap (λ ts. input (letters ts)) r.same ∙ (ap input (letters-append (moved f r.old) _) ∙ (input-append (letters (moved f r.old)) _ ∙ ap (λ ls. input ls ++ input (letters r.rest)) (moved-letters f r.old)))

  pub GoesOn-output : (p : N) (path : List (Transition M)) (last : M) → (r : GoesOn f g h D c p path last) → output (letters path) ≡ output (letters r.old) ++ output (letters r.rest)
  GoesOn-output p path last r = ap (λ ts. output (letters ts)) r.same ∙ (ap output (letters-append (moved f r.old) _) ∙ (output-append (letters (moved f r.old)) _ ∙ ap (λ ls. output ls ++ output (letters r.rest)) (moved-letters f r.old)))

  pub GoesOn-product : (kind : ArcType) (p : N) (path : List (Transition M)) (last : M) → (r : GoesOn f g h D c p path last) → product kind (letters path) ≡ times kind (times kind (product kind (letters r.old)) (g.final r.end)) (product kind (letters r.rest))
  GoesOn-product kind p path last r = ap (λ ts. product kind (letters ts)) r.same ∙ (ap (product kind) (letters-append (moved f r.old) _) ∙ (product-append kind (letters (moved f r.old)) _ ∙ (ap (λ ls. times kind (product kind ls) (times kind (g.final r.end) (product kind (letters r.rest)))) (moved-letters f r.old) ∙ sym (times_assoc kind _ _ _))))
