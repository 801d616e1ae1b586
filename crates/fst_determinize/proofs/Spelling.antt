-- Paths by the words that they spell.
use Rattle.std.proofs.Common.{◌≡◌, ◌≢◌, ◌⊎◌, inl, inr, ℕ, ◌+◌, ◌*◌, List, [], ◌∷◌, ◌++◌, Some, slice_get, length, refl, sym, ap, ap₂, ◌∙◌, subst, arith}
use Rattle.fst_semiring.specs.Cost.{Cost, infinite}
use Rattle.fst_semiring.specs.Semiring.{one_of, times, IsCost, Within}
use Rattle.fst_semiring.specs.declared.arc_type.ArcType.{ArcType}
use Rattle.fst_semiring.proofs.Laws.{one_not_zero, times_one, times_only_zero}
use Rattle.fst_semiring.proofs.OfKind.{IsCost-one, IsCost-times}
use Rattle.fst_semiring.proofs.Ranges.{Within-more, Within-one, Within-times}
use Rattle.fst_machine.specs.Graph.{Graph}
use Rattle.fst_machine.specs.Letters.{label_word, product}
use Rattle.fst_machine.specs.Machine.{Arc}
use Rattle.fst_machine.specs.Paths.{IsPath, Transition, letters}
use Rattle.fst_machine.proofs.Letters.{label_word-append, letters-append, product-append}
use Rattle.fst_machine.proofs.PathParts.{IsPath-append, IsPath-split}
use Rattle.fst_determinize.specs.Subsets.{Spells}
use Rattle.fst_trim.specs.Weighed.{IsWeighted}

module _ {N : Type 0} where
  -- a path is cut where its label word is
  pub word_split : (path : List (Transition N)) (x y : List ℕ) → label_word (letters path) ≡ x ++ y
      → (front : List (Transition N)) × (back : List (Transition N)) × (path ≡ front ++ back) × (label_word (letters front) ≡ x) × (label_word (letters back) ≡ y)
  word_split path [] y e = ([], path, refl, refl, e)
  word_split [] (a ∷ x) y e = absurd (cc)
  word_split (t ∷ path) (a ∷ x) y e =
      let head : t.arc.ilabel ≡ a = cc in
      let tail : label_word (letters path) ≡ x ++ y = cc in
      let rest = word_split path x y tail in
      (t ∷ rest.0, rest.1, ap (λ ts. t ∷ ts) rest.2, ap₂ (◌∷◌) head rest.3, rest.4)

  -- a path with no labels, and one with a first label
  pub no_word : (path : List (Transition N)) → label_word (letters path) ≡ [] → path ≡ []
  no_word [] e = refl
  no_word (t ∷ path) e = absurd (cc)

  pub word_first : (path : List (Transition N)) (a : ℕ) (y : List ℕ) → label_word (letters path) ≡ a ∷ y
      → (t : Transition N) × (rest : List (Transition N)) × (path ≡ t ∷ rest) × (t.arc.ilabel ≡ a) × (label_word (letters rest) ≡ y)
  word_first [] a y e = absurd (cc)
  word_first (t ∷ path) a y e =
      let head : t.arc.ilabel ≡ a = cc in
      let tail : label_word (letters path) ≡ y = cc in
      (t, path, refl, head, tail)

  pub word_length : (path : List (Transition N)) → length (label_word (letters path)) ≡ length path
  word_length [] = refl
  word_length (t ∷ path) = let rest = word_length path in omega (arith, rest)

  -- the letters of a path and one arc more
  pub word-push : (path : List (Transition N)) (t : Transition N) → label_word (letters (path ++ t ∷ [])) ≡ label_word (letters path) ++ t.arc.ilabel ∷ []
  word-push path t = ap label_word (letters-append path (t ∷ [])) ∙ label_word-append (letters path) (letters (t ∷ []))

  pub product-push : (kind : ArcType) (path : List (Transition N)) (t : Transition N) → product kind (letters (path ++ t ∷ [])) ≡ times kind (product kind (letters path)) t.arc.weight
  product-push kind path t = ap (product kind) (letters-append path (t ∷ [])) ∙ (product-append kind (letters path) (letters (t ∷ [])) ∙ ap (times kind (product kind (letters path))) (times_one kind t.arc.weight))

module _ (kind : ArcType) (g : Graph ℕ) where
  -- a path and an arc
  pub spells_on : (word : List ℕ) (p : ℕ) (w : Cost) (k : ℕ) (a : Arc Cost ℕ) → Spells kind g word p w → slice_get (g.arcs p) k ≡ Some a
      → Spells kind g (word ++ a.ilabel ∷ []) a.next (times kind w a.weight)
  spells_on word p w k a s at =
      let t : Transition ℕ = record { state = p; place = k; arc = a } in
      record {
        first = s.first;
        path = s.path ++ t ∷ [];
        starts = s.starts;
        leads = IsPath-append g s.path (t ∷ []) s.first p a.next s.leads ((refl, at), refl);
        reads = word-push s.path t ∙ ap (λ z. z ++ a.ilabel ∷ []) s.reads;
        weight = ap (λ z. times kind z a.weight) s.weight ∙ sym (product-push kind s.path t);
      }

  -- a path without its last arc
  pub record Before (word : List ℕ) (label q : ℕ) (w : Cost) : Type 0 where
    pub state : ℕ
    pub weight : Cost
    pub spells : Spells kind g word state weight
    pub place : ℕ
    pub arc : Arc Cost ℕ
    pub has : slice_get (g.arcs state) place ≡ Some arc
    pub reads : arc.ilabel ≡ label
    pub leads : arc.next ≡ q
    pub weighs : w ≡ times kind weight arc.weight

  pub spells_back : (word : List ℕ) (label q : ℕ) (w : Cost) → Spells kind g (word ++ label ∷ []) q w → Before word label q w
  spells_back word label q w s = by_parts (word_split s.path word (label ∷ []) s.reads)
    where
      by_last : (front : List (Transition ℕ)) → label_word (letters front) ≡ word
          → (t : Transition ℕ) (rest : List (Transition ℕ)) → s.path ≡ front ++ t ∷ rest → t.arc.ilabel ≡ label → rest ≡ [] → Before word label q w
      by_last front reads t rest parts here none =
          let whole : s.path ≡ front ++ t ∷ [] = parts ∙ ap (λ ts. front ++ t ∷ ts) none in
          let cut = IsPath-split g front (t ∷ []) s.first q (subst (λ ts. IsPath g s.first ts q) whole s.leads) in
          record {
            state = cut.0;
            weight = product kind (letters front);
            spells = record { first = s.first; path = front; starts = s.starts; leads = cut.1; reads = reads; weight = refl };
            place = t.place;
            arc = t.arc;
            has = cut.2.0.1;
            reads = here;
            leads = cut.2.1;
            weighs = s.weight ∙ (ap (λ ts. product kind (letters ts)) whole ∙ product-push kind front t);
          }

      by_parts : (front : List (Transition ℕ)) × (back : List (Transition ℕ)) × (s.path ≡ front ++ back) × (label_word (letters front) ≡ word) × (label_word (letters back) ≡ label ∷ []) → Before word label q w
      by_parts h =
          let first = word_first h.1 label [] h.4 in
          by_last h.0 h.3 first.0 first.1 (h.2 ∙ ap (λ ts. h.0 ++ ts) first.2) first.3 (no_word first.1 first.4)

  -- the empty word
  pub spells_nothing : (q : ℕ) (w : Cost) → Spells kind g [] q w → (g.start ≡ Some q) × (w ≡ one_of kind)
  spells_nothing q w s =
      let none = no_word s.path s.reads in
      let here : s.first ≡ q = subst (λ ts. IsPath g s.first ts q) none s.leads in
      (s.starts ∙ ap Some here, s.weight ∙ ap (λ ts. product kind (letters ts)) none)

  pub spells_start : (p : ℕ) → g.start ≡ Some p → Spells kind g [] p (one_of kind)
  spells_start p starts = record { first = p; path = []; starts = starts; leads = refl; reads = refl; weight = refl }

  module _ (weighted : IsWeighted kind g) where
    -- products of paths are of the arc type and not Zero
    path_weighs : (path : List (Transition ℕ)) (p q : ℕ) → IsPath g p path q → IsCost kind (product kind (letters path)) × (product kind (letters path) ≢ infinite)
    path_weighs [] p q here = (IsCost-one kind, one_not_zero kind)
    path_weighs (t ∷ path) p q leads =
        let arc = weighted.arcs p t.place t.arc leads.0.1 in
        let rest = path_weighs path t.arc.next q leads.1 in
        (IsCost-times kind t.arc.weight (product kind (letters path)) arc.0 rest.0, λ e. by_part arc.1 rest.1 (times_only_zero kind t.arc.weight (product kind (letters path)) e))
      where
        by_part : t.arc.weight ≢ infinite → product kind (letters path) ≢ infinite → (t.arc.weight ≡ infinite) ⊎ (product kind (letters path) ≡ infinite) → ⊥
        by_part one two (inl e) = one e
        by_part one two (inr e) = two e

    pub spells_weighs : (word : List ℕ) (q : ℕ) (w : Cost) → Spells kind g word q w → IsCost kind w × (w ≢ infinite)
    spells_weighs word q w s = subst (λ v. IsCost kind v × (v ≢ infinite)) (sym s.weight) (path_weighs s.path s.first q s.leads)

  -- numbers of the products of paths
  path_within : (n : ℕ) → ((p k : ℕ) (a : Arc Cost ℕ) → slice_get (g.arcs p) k ≡ Some a → Within n a.weight) → (path : List (Transition ℕ)) (p q : ℕ) → IsPath g p path q
      → Within (length path * n) (product kind (letters path))
  path_within n small [] p q here = Within-one (length {A = Transition ℕ} [] * n) kind
  path_within n small (t ∷ path) p q leads =
      Within-more (n + length path * n) (length (t ∷ path) * n) (times kind t.arc.weight (product kind (letters path))) (omega arith)
      (Within-times kind n (length path * n) t.arc.weight (product kind (letters path)) (small p t.place t.arc leads.0.1) (path_within n small path t.arc.next q leads.1))

  pub spells_within : (n : ℕ) → ((p k : ℕ) (a : Arc Cost ℕ) → slice_get (g.arcs p) k ≡ Some a → Within n a.weight) → (word : List ℕ) (q : ℕ) (w : Cost) → Spells kind g word q w → Within (length word * n) w
  spells_within n small word q w s =
      let long : length s.path ≡ length word = sym (word_length s.path) ∙ ap length s.reads in
      subst (λ v. Within (length word * n) v) (sym s.weight) (subst (λ (m : ℕ). Within (m * n) (product kind (letters s.path))) long (path_within n small s.path s.first q s.leads))
