-- Paths of the graph of subsets: each leads to the subset of its word, and each subset of a word is reached.
use Rattle.std.proofs.Common.{◌≡◌, ◌≢◌, inl, inr, ℕ, List, [], ◌∷◌, ◌++◌, Some, slice_get, sym, refl, ap, ap₂, ◌∙◌, subst, append_assoc, append-nil}
use Rattle.std.specs.Option.{option_map}
use Rattle.std.proofs.lemmas.Option.{same_Some}
use Rattle.fst_semiring.specs.Cost.{Cost, infinite}
use Rattle.fst_semiring.specs.Division.{quotient}
use Rattle.fst_semiring.specs.Semiring.{one_of, times}
use Rattle.fst_semiring.specs.declared.arc_type.ArcType.{ArcType}
use Rattle.fst_semiring.proofs.Laws.{one_not_zero, one_times, times_assoc, times_one}
use Rattle.fst_machine.specs.BreadthFirst.{Has}
use Rattle.fst_machine.specs.Distance.{IsLeast}
use Rattle.fst_machine.specs.Graph.{Graph}
use Rattle.fst_machine.specs.Letters.{label_word, product}
use Rattle.fst_machine.specs.Machine.{Arc}
use Rattle.fst_machine.specs.Paths.{IsPath, Transition, letters}
use Rattle.fst_machine.proofs.Arcs.{mapped_some}
use Rattle.fst_machine.proofs.Elements.{Has_at}
use Rattle.fst_machine.proofs.Least.{least_one}
use Rattle.fst_machine.proofs.PathParts.{IsPath-split}
use Rattle.fst_determinize.specs.Subsets.{HasSubset, IsSubset, Member, Spells, SpellsSome}
use Rattle.fst_trim.specs.Weighed.{IsWeighted}
use Rattle.fst_determinize.specs.Ways.{Way, arc_by, arcs_by, having, start_members, subsets, way_by, ways}
use Rattle.fst_determinize.proofs.Dividing.{one_quotient}
use Rattle.fst_determinize.proofs.Members.{Has_ways, one_subset}
use Rattle.fst_determinize.proofs.Spelling.{spells_nothing, spells_start, spells_weighs, word_first, word_split}
use Rattle.fst_determinize.proofs.Stepping.{arc_steps, way_arc}

module _ (kind : ArcType) (g : Graph ℕ) where
  -- the subset of the empty word
  pub start_subset : (p : ℕ) → g.start ≡ Some p → IsSubset kind g [] (one_of kind) (start_members kind p)
  start_subset p starts = record {
    least = least_one (SpellsSome kind g []) (one_of kind) (p, spells_start kind g p starts) (λ w h. (spells_nothing kind g h.0 w h.1).1);
    ascends = ((λ y none. absurd none), tt);
    listed = λ m h. listed m h;
    all = λ q w s n. (one_of kind, inl (let here : p ≡ q = same_Some p q (sym starts ∙ (spells_nothing kind g q w s).0) in ap (λ (z : ℕ). record { state = z; residual = one_of kind }) here));
  }
    where
      listed : (m : Member) → Has (start_members kind p) m → (w : Cost) × IsLeast (Spells kind g [] m.state) w × (w ≢ infinite) × (m.residual ≡ quotient kind w (one_of kind))
      listed m (inl e) =
          subst (λ (m : Member). (w : Cost) × IsLeast (Spells kind g [] m.state) w × (w ≢ infinite) × (m.residual ≡ quotient kind w (one_of kind))) e
          (one_of kind, least_one (Spells kind g [] p) (one_of kind) (spells_start kind g p starts) (λ w h. (spells_nothing kind g p w h).1), one_not_zero kind, sym (one_quotient kind))
      listed m (inr none) = absurd none

  pub start_has : (p : ℕ) → g.start ≡ Some p → HasSubset kind g [] (start_members kind p)
  start_has p starts = ((one_of kind, start_subset p starts), (record { state = p; residual = one_of kind }, inl refl))

  -- where the graph of subsets starts
  pub starts_there : (s : List Member) → (subsets kind g).start ≡ Some s → (p : ℕ) × (g.start ≡ Some p) × (start_members kind p ≡ s)
  starts_there s e = mapped_some (start_members kind) g.start s e

  module _ (weighted : IsWeighted kind g) where
    -- a path of subsets, from the subset of a word on
    pub follow : (path : List (Transition (List Member))) (word : List ℕ) (b : Cost) (s t : List Member) → IsSubset kind g word b s → IsPath (subsets kind g) s path t
        → IsSubset kind g (word ++ label_word (letters path)) (times kind b (product kind (letters path))) t
    follow [] word b s t sub here =
        subst (λ (z : List Member). IsSubset kind g (word ++ []) (times kind b (one_of kind)) z) here
        (subst (λ (x : List ℕ). IsSubset kind g x (times kind b (one_of kind)) s) (sym (append-nil word)) (subst (λ (v : Cost). IsSubset kind g word v s) (sym (times_one kind b)) sub))
    follow (r ∷ path) word b s t sub leads =
        let steps = arc_steps kind g weighted word b s sub r.place r.arc leads.0.1 in
        let rest = follow path (word ++ r.arc.ilabel ∷ []) (times kind b r.arc.weight) r.arc.next t steps.exact leads.1 in
        subst (λ (x : List ℕ). IsSubset kind g x (times kind b (product kind (letters (r ∷ path)))) t) (append_assoc word (r.arc.ilabel ∷ []) (label_word (letters path)))
        (subst (λ (v : Cost). IsSubset kind g ((word ++ r.arc.ilabel ∷ []) ++ label_word (letters path)) v t) (times_assoc kind b r.arc.weight (product kind (letters path))) rest)

    -- it never becomes empty
    pub follow_some : (path : List (Transition (List Member))) (word : List ℕ) (b : Cost) (s t : List Member) → IsSubset kind g word b s → ((m : Member) × Has s m) → IsPath (subsets kind g) s path t → (m : Member) × Has t m
    follow_some [] word b s t sub some here = subst (λ (z : List Member). (m : Member) × Has z m) here some
    follow_some (r ∷ path) word b s t sub some leads =
        let steps = arc_steps kind g weighted word b s sub r.place r.arc leads.0.1 in
        follow_some path (word ++ r.arc.ilabel ∷ []) (times kind b r.arc.weight) r.arc.next t steps.exact steps.subset.1 leads.1

    -- a path from the start leads to the subset of its word, whose best product is that of the path
    pub follow_start : (s t : List Member) (path : List (Transition (List Member))) → (subsets kind g).start ≡ Some s → IsPath (subsets kind g) s path t
        → IsSubset kind g (label_word (letters path)) (product kind (letters path)) t × ((m : Member) × Has t m)
    follow_start s t path starts leads =
        let p = starts_there s starts in
        let sub : IsSubset kind g [] (one_of kind) s = subst (λ (z : List Member). IsSubset kind g [] (one_of kind) z) p.2 (start_subset p.0 p.1) in
        let some : (m : Member) × Has s m = subst (λ (z : List Member). (m : Member) × Has z m) p.2 (record { state = p.0; residual = one_of kind }, inl refl) in
        (subst (λ (v : Cost). IsSubset kind g (label_word (letters path)) v t) (one_times kind (product kind (letters path))) (follow path [] (one_of kind) s t sub leads), follow_some path [] (one_of kind) s t sub some leads)

    -- the arc that a word goes on by
    pub record GoesOn (s : List Member) (label : ℕ) : Type 0 where
      pub place : ℕ
      pub arc : Arc Cost (List Member)
      pub has : slice_get ((subsets kind g).arcs s) place ≡ Some arc
      pub reads : arc.ilabel ≡ label

    -- where some path spells a word and more, the word's subset has an arc on the next label
    goes_on : (word : List ℕ) (b : Cost) (s : List Member) → IsSubset kind g word b s → (label : ℕ) (rest : List ℕ) (q : ℕ) (w : Cost) → Spells kind g (word ++ label ∷ rest) q w → GoesOn s label
    goes_on word b s sub label rest q w h =
        let parts = word_split h.path word (label ∷ rest) h.reads in
        let first = word_first parts.1 label rest parts.4 in
        let whole : h.path ≡ parts.0 ++ first.0 ∷ first.1 = parts.2 ∙ ap (λ ts. parts.0 ++ ts) first.2 in
        let cut = IsPath-split g parts.0 (first.0 ∷ first.1) h.first q (subst (λ ts. IsPath g h.first ts q) whole h.leads) in
        let spells : Spells kind g word cut.0 (product kind (letters parts.0)) = record { first = h.first; path = parts.0; starts = h.starts; leads = cut.1; reads = parts.3; weight = refl } in
        let there = sub.all cut.0 (product kind (letters parts.0)) spells (spells_weighs kind g weighted word cut.0 (product kind (letters parts.0)) spells).1 in
        let m : Member = record { state = cut.0; residual = there.0 } in
        let y : Way = way_by kind m first.0.arc in
        let arc = way_arc kind g weighted word b s sub y (Has_ways kind g s m first.0.place first.0.arc there.1 cut.2.0.1) in
        let made : Arc Cost (List Member) = arc_by kind y.label (having (λ y. y.label) y.label (ways kind g s)) in
        let at = Has_at (arcs_by kind (ways kind g s)) made arc in
        record { place = at.0; arc = made; has = at.1; reads = first.3 }

    -- what is spelled is reached
    pub reach : (rest word : List ℕ) (b : Cost) (s : List Member) → IsSubset kind g word b s → (q : ℕ) (w : Cost) → Spells kind g (word ++ rest) q w
        → (t : List Member) × (path : List (Transition (List Member))) × IsPath (subsets kind g) s path t × (label_word (letters path) ≡ rest)
    reach [] word b s sub q w h = (s, [], refl, refl)
    reach (label ∷ rest) word b s sub q w h =
        let on = goes_on word b s sub label rest q w h in
        let steps = arc_steps kind g weighted word b s sub on.place on.arc on.has in
        let exact : IsSubset kind g (word ++ label ∷ []) (times kind b on.arc.weight) on.arc.next = subst (λ (l : ℕ). IsSubset kind g (word ++ l ∷ []) (times kind b on.arc.weight) on.arc.next) on.reads steps.exact in
        let more = reach rest (word ++ label ∷ []) (times kind b on.arc.weight) on.arc.next exact q w (subst (λ (x : List ℕ). Spells kind g x q w) (sym (append_assoc word (label ∷ []) rest)) h) in
        let t : Transition (List Member) = record { state = s; place = on.place; arc = on.arc } in
        (more.0, t ∷ more.1, ((refl, on.has), more.2), ap₂ (◌∷◌) on.reads more.3)

    -- What a word spells from the start, the graph of subsets reads.
    pub reach_word : (word : List ℕ) (q : ℕ) (w : Cost) → Spells kind g word q w
        → (s : List Member) × (t : List Member) × (path : List (Transition (List Member))) × ((subsets kind g).start ≡ Some s) × IsPath (subsets kind g) s path t × (label_word (letters path) ≡ word)
    reach_word word q w h =
        let more = reach word [] (one_of kind) (start_members kind h.first) (start_subset h.first h.starts) q w h in
        (start_members kind h.first, more.0, more.1, ap (option_map (start_members kind)) h.starts, more.2, more.3)

    -- a subset that is not empty is at the end of such a path
    pub reach_subset : (word : List ℕ) (t : List Member) → HasSubset kind g word t
        → (s : List Member) × (path : List (Transition (List Member))) × ((subsets kind g).start ≡ Some s) × IsPath (subsets kind g) s path t × (label_word (letters path) ≡ word)
    reach_subset word t h =
        let m = h.1.0 in
        let l = h.0.1.listed m h.1.1 in
        let spelled = spelled_by m.state l.0 l.1 l.2 in
        let more = reach_word word m.state l.0 spelled in
        let there : IsSubset kind g word (product kind (letters more.2)) more.1 = subst (λ (x : List ℕ). IsSubset kind g x (product kind (letters more.2)) more.1) more.5 (follow_start more.0 more.1 more.2 more.3 more.4).0 in
        let same : more.1 ≡ t = (one_subset kind g word (product kind (letters more.2)) h.0.0 more.1 t there h.0.1).1 in
        (more.0, more.2, more.3, subst (λ (z : List Member). IsPath (subsets kind g) more.0 more.2 z) same more.4, more.5)
      where
        spelled_by : (q : ℕ) (w : Cost) → IsLeast (Spells kind g word q) w → w ≢ infinite → Spells kind g word q w
        spelled_by q w (inl none) n = absurd (n none.1)
        spelled_by q w (inr some) n = some.0
