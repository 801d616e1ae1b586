-- Words along paths: where a word leads, what goes on from there, and what weights are.
use Rattle.std.proofs.Common.{◌≡◌, ◌≢◌, inl, inr, ℕ, List, [], ◌∷◌, ◌++◌, Some, slice_get, sym, refl, ap, ap₂, ◌∙◌, subst}
use Rattle.fst_semiring.specs.Cost.{Cost, infinite, plus}
use Rattle.fst_semiring.specs.declared.arc_type.ArcType.{ArcType}
use Rattle.fst_semiring.specs.Semiring.{one_of, times, IsCost}
use Rattle.fst_semiring.proofs.Laws.{times_assoc, times_comm, one_times, one_not_zero}
use Rattle.fst_semiring.proofs.OfKind.{IsCost-one, IsCost-times}
use Rattle.fst_machine.specs.Machine.{Arc}
use Rattle.fst_machine.specs.Graph.{Graph}
use Rattle.fst_machine.specs.Letters.{label_word, product}
use Rattle.fst_machine.specs.Paths.{Transition, IsPath, letters}
use Rattle.fst_machine.specs.Distance.{IsFinalDistance}
use Rattle.fst_machine.proofs.Letters.{label_word-append, product-append, letters-append}
use Rattle.fst_machine.proofs.PathParts.{IsPath-append}
use Rattle.fst_distance.proofs.Potential.{times_not_zero}
use Rattle.fst_trim.specs.Weighed.{IsWeighted}
use Rattle.fst_trim.specs.WordWeights.{IsSingle, Weighs}

-- the outer of two factors put inside
pub swapped : (kind : ArcType) (c d v : Cost) → times kind d (times kind c v) ≡ times kind c (times kind d v)
swapped kind c d v = sym (times_assoc kind d c v) ∙ (ap (λ z. times kind z v) (times_comm kind d c) ∙ times_assoc kind c d v)

module _ {N : Type 0} (kind : ArcType) (g : Graph N) where
  -- Some path from p to q has this word and this product.
  pub record Goes (p : N) (x : List ℕ) (a : Cost) (q : N) : Type 0 where
    pub path : List (Transition N)
    pub leads : IsPath g p path q
    pub word : x ≡ label_word (letters path)
    pub weight : a ≡ product kind (letters path)

  -- The word begins with an arc, and goes on from its end.
  pub record StartsWith (p : N) (l : ℕ) (x : List ℕ) (w : Cost) : Type 0 where
    pub place : ℕ
    pub arc : Arc Cost N
    pub has : slice_get (g.arcs p) place ≡ Some arc
    pub label : arc.ilabel ≡ l
    pub rest : Cost
    pub weighs : Weighs kind g arc.next x rest
    pub weight : w ≡ times kind arc.weight rest

  pub starts_with : (p : N) (l : ℕ) (x : List ℕ) (w : Cost) → Weighs kind g p (l ∷ x) w → StartsWith p l x w
  starts_with p l x w h = by_path h.path h.leads h.word h.weight
    where
      by_path : (path : List (Transition N)) → IsPath g p path h.last → l ∷ x ≡ label_word (letters path) → w ≡ times kind (product kind (letters path)) (g.final h.last) → StartsWith p l x w
      by_path [] leads e f = absurd (cc)
      by_path (t ∷ path) leads e f =
          let head : t.arc.ilabel ≡ l = cc in
          let tail : x ≡ label_word (letters path) = cc in
          record {
            place = t.place;
            arc = t.arc;
            has = leads.0.1;
            label = head;
            rest = times kind (product kind (letters path)) (g.final h.last);
            weighs = record { path = path; last = h.last; leads = leads.1; final = h.final; word = tail; weight = refl };
            weight = f ∙ times_assoc kind t.arc.weight (product kind (letters path)) (g.final h.last);
          }

  -- an arc before a word that goes on from its end
  pub arc_before : (p : N) (k : ℕ) (a : Arc Cost N) (x : List ℕ) (w : Cost) → slice_get (g.arcs p) k ≡ Some a → Weighs kind g a.next x w → Weighs kind g p (a.ilabel ∷ x) (times kind a.weight w)
  arc_before p k a x w has h =
      let t : Transition N = record { state = p; place = k; arc = a } in
      record {
        path = t ∷ h.path;
        last = h.last;
        leads = ((refl, has), h.leads);
        final = h.final;
        word = ap (λ z. a.ilabel ∷ z) h.word;
        weight = ap (times kind a.weight) h.weight ∙ sym (times_assoc kind a.weight (product kind (letters h.path)) (g.final h.last));
      }

  -- the empty word ends where it begins
  pub word_ends : (p : N) (w : Cost) → Weighs kind g p [] w → (w ≡ g.final p) × (g.final p ≢ infinite)
  word_ends p w h = by_path h.path h.leads h.word h.weight
    where
      by_path : (path : List (Transition N)) → IsPath g p path h.last → ◌≡◌ {A = List ℕ} [] (label_word (letters path)) → w ≡ times kind (product kind (letters path)) (g.final h.last) → (w ≡ g.final p) × (g.final p ≢ infinite)
      by_path [] here e f = (f ∙ (one_times kind (g.final h.last) ∙ ap g.final (sym here)), (λ z. h.final (ap g.final (sym here) ∙ z)))
      by_path (t ∷ path) leads e f = absurd (cc)

  pub ends_word : (p : N) → g.final p ≢ infinite → Weighs kind g p [] (g.final p)
  ends_word p final = record { path = []; last = p; leads = refl; final = final; word = refl; weight = sym (one_times kind (g.final p)) }

  -- a word, and what goes on from where it leads
  pub joins : (p q : N) (x z : List ℕ) (a w : Cost) → Goes p x a q → Weighs kind g q z w → Weighs kind g p (x ++ z) (times kind a w)
  joins p q x z a w there on = record {
    path = there.path ++ on.path;
    last = on.last;
    leads = IsPath-append g there.path on.path p q on.last there.leads on.leads;
    final = on.final;
    word = ap₂ (◌++◌) there.word on.word ∙ (sym (label_word-append (letters there.path) (letters on.path)) ∙ ap label_word (sym (letters-append there.path on.path)));
    weight = ap₂ (times kind) there.weight on.weight ∙ (sym (times_assoc kind (product kind (letters there.path)) (product kind (letters on.path)) (g.final on.last)) ∙ ap (λ v. times kind v (g.final on.last)) (sym (product-append kind (letters there.path) (letters on.path)) ∙ ap (product kind) (sym (letters-append there.path on.path))));
  }

  -- where arcs of a name have different labels, a word that begins like a path goes on from its end
  path_goes_on : IsSingle g → (path : List (Transition N)) (p q : N) (z : List ℕ) (w : Cost) → IsPath g p path q → Weighs kind g p (label_word (letters path) ++ z) w → (u : Cost) × Weighs kind g q z u × (w ≡ times kind (product kind (letters path)) u)
  path_goes_on single [] p q z w here h = (w, subst (λ r. Weighs kind g r z w) here h, sym (one_times kind w))
  path_goes_on single (t ∷ path) p q z w leads h =
      let s = starts_with p t.arc.ilabel (label_word (letters path) ++ z) w h in
      let same : s.arc ≡ t.arc = single p s.place t.place s.arc t.arc s.has leads.0.1 s.label in
      let rest = path_goes_on single path t.arc.next q z s.rest leads.1 (subst (λ (a : Arc Cost N). Weighs kind g a.next (label_word (letters path) ++ z) s.rest) same s.weighs) in
      (rest.0, rest.1, s.weight ∙ (ap₂ (times kind) (ap (λ (a : Arc Cost N). a.weight) same) rest.2 ∙ sym (times_assoc kind t.arc.weight (product kind (letters path)) rest.0)))

  pub goes_on : IsSingle g → (p q : N) (x z : List ℕ) (a w : Cost) → Goes p x a q → Weighs kind g p (x ++ z) w → (u : Cost) × Weighs kind g q z u × (w ≡ times kind a u)
  goes_on single p q x z a w there h =
      let on = path_goes_on single there.path p q z w there.leads (subst (λ y. Weighs kind g p (y ++ z) w) there.word h) in
      (on.0, on.1, on.2 ∙ ap (λ v. times kind v on.0) (sym there.weight))

  -- a path has a product of the arc type that is not Zero, and so has a word
  pub path_kind : IsWeighted kind g → (path : List (Transition N)) (p q : N) → IsPath g p path q → IsCost kind (product kind (letters path)) × (product kind (letters path) ≢ infinite)
  path_kind of_kind [] p q here = (IsCost-one kind, (λ e. one_not_zero kind e))
  path_kind of_kind (t ∷ path) p q leads =
      let here = of_kind.arcs p t.place t.arc leads.0.1 in
      let rest = path_kind of_kind path t.arc.next q leads.1 in
      (IsCost-times kind t.arc.weight (product kind (letters path)) here.0 rest.0, times_not_zero kind t.arc.weight (product kind (letters path)) here.1 rest.1)

  pub Goes_kind : IsWeighted kind g → (p q : N) (x : List ℕ) (a : Cost) → Goes p x a q → IsCost kind a × (a ≢ infinite)
  Goes_kind of_kind p q x a there =
      let k = path_kind of_kind there.path p q there.leads in
      subst (λ v. IsCost kind v × (v ≢ infinite)) (sym there.weight) k

  pub Weighs_kind : IsWeighted kind g → (p : N) (x : List ℕ) (w : Cost) → Weighs kind g p x w → IsCost kind w × (w ≢ infinite)
  Weighs_kind of_kind p x w h =
      let k = path_kind of_kind h.path p h.last h.leads in
      let whole : IsCost kind (times kind (product kind (letters h.path)) (g.final h.last)) × (times kind (product kind (letters h.path)) (g.final h.last) ≢ infinite) =
      (IsCost-times kind (product kind (letters h.path)) (g.final h.last) k.0 (of_kind.final h.last), times_not_zero kind (product kind (letters h.path)) (g.final h.last) k.1 h.final) in
      subst (λ v. IsCost kind v × (v ≢ infinite)) (sym h.weight) whole

  -- where the distance to the final names is One, some word weighs One, and none is better
  pub one_word : (p : N) → IsFinalDistance kind g p (one_of kind) → (x : List ℕ) × Weighs kind g p x (one_of kind)
  one_word p (inl none) = absurd (one_not_zero kind none.1)
  one_word p (inr some) = (label_word (letters some.0.path), record { path = some.0.path; last = some.0.last; leads = some.0.leads; final = some.0.final; word = refl; weight = some.0.weight })

  pub no_better : (p : N) (x : List ℕ) (w : Cost) → IsFinalDistance kind g p (one_of kind) → Weighs kind g p x w → plus (one_of kind) w ≡ one_of kind
  no_better p x w (inl none) h = absurd (one_not_zero kind none.1)
  no_better p x w (inr some) h = some.1 w (record { last = h.last; path = h.path; leads = h.leads; final = h.final; weight = h.weight })
