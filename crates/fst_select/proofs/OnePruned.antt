-- One machine is the pruned one.
use Rattle.std.proofs.Common.{◌≡◌, inl, inr, ℕ, ◌+◌, ◌<◌, List, [], ◌∷◌, Option, None, Some, length, get_or, slice_get, refl, sym, ap, ◌∙◌, subst, arith}
use Rattle.std.specs.declared.cmp.Ordering.{Ordering}
use Rattle.std.specs.declared.cmp.Ordering.TheVariants.{Less, Equal, Greater}
use Rattle.std.proofs.lemmas.Option.{slice_get-get_or}
use Rattle.fst_semiring.specs.Cost.{Cost, cost_cmp}
use Rattle.fst_semiring.specs.declared.arc_type.ArcType.{ArcType}
use Rattle.fst_semiring.specs.Semiring.{times}
use Rattle.fst_semiring.proofs.Order.{cost_cmp_equal, cost_cmp_same}
use Rattle.fst_machine.specs.BreadthFirst.{Apart}
use Rattle.fst_machine.specs.Machine.{Arc, Machine}
use Rattle.fst_machine.specs.Graph.{graph_of}
use Rattle.fst_machine.proofs.Elements.{Apart_at}
use Rattle.fst_machine.proofs.OneMachine.{Ascends-Apart, one_arc, one_ascending, one_machine}
use Rattle.fst_machine.proofs.Weights.{one_least}
use Rattle.fst_select.specs.Good.{Ends, IsPathWeight, Meets}
use Rattle.fst_select.specs.Pruned.{GoodArc, IsPruned, KeptArcs}

-- values that are not different are the same
settle : (x y : Cost) → ((x ≡ y → ⊥) → ⊥) → x ≡ y
settle x y not = by (cost_cmp x y) refl
  where
    by : (o : Ordering) → cost_cmp x y ≡ o → x ≡ y
    by Equal e = cost_cmp_equal x y e
    by Less e = absurd (not (λ same. let wrong : Less ≡ Equal = sym e ∙ (ap (cost_cmp x) (sym same) ∙ cost_cmp_same x) in absurd cc))
    by Greater e = absurd (not (λ same. let wrong : Greater ≡ Equal = sym e ∙ (ap (cost_cmp x) (sym same) ∙ cost_cmp_same x) in absurd cc))

-- the arcs that are kept
one_kept : (kept : List ℕ) → Apart kept → (P : ℕ → Arc Cost ℕ → Type 0) (k : ℕ) (arcs new others : List (Arc Cost ℕ)) → KeptArcs kept P k arcs new → KeptArcs kept P k arcs others → new ≡ others
one_kept kept apart P k [] [] [] one two = refl
one_kept kept apart P k [] [] (c ∷ others) one two = absurd two
one_kept kept apart P k [] (b ∷ new) others one two = absurd one
one_kept kept apart P k (a ∷ arcs) [] [] one two = refl
one_kept kept apart P k (a ∷ arcs) [] (c ∷ others) one (inl two) = one_kept kept apart P (k + 1) arcs [] (c ∷ others) one.1 two.1
one_kept kept apart P k (a ∷ arcs) [] (c ∷ others) one (inr two) = absurd (one.0 two.0)
one_kept kept apart P k (a ∷ arcs) (b ∷ new) [] (inl one) two = one_kept kept apart P (k + 1) arcs (b ∷ new) [] one.1 two.1
one_kept kept apart P k (a ∷ arcs) (b ∷ new) [] (inr one) two = absurd (two.0 one.0)
one_kept kept apart P k (a ∷ arcs) (b ∷ new) (c ∷ others) (inl one) (inl two) = one_kept kept apart P (k + 1) arcs (b ∷ new) (c ∷ others) one.1 two.1
one_kept kept apart P k (a ∷ arcs) (b ∷ new) (c ∷ others) (inl one) (inr two) = absurd (one.0 two.0)
one_kept kept apart P k (a ∷ arcs) (b ∷ new) (c ∷ others) (inr one) (inl two) = absurd (two.0 one.0)
one_kept kept apart P k (a ∷ arcs) (b ∷ new) (c ∷ others) (inr one) (inr two) =
    let next : b.next ≡ c.next = Apart_at kept b.next c.next a.next apart one.1 two.1 in
    let first : b ≡ c = one_arc b c (one.2 ∙ sym two.2) next in
    rw (first, one_kept kept apart P (k + 1) arcs new others one.3 two.3) refl

pub one_pruned : (kind : ArcType) (threshold : Cost) (m c d : Machine Cost) → IsPruned kind threshold m c → IsPruned kind threshold m d → c ≡ d
one_pruned kind threshold m c d one two = one_machine c d start size at
  where
    bounds : one.bound ≡ two.bound
    bounds = one.is_bound.same ∙ (ap (λ (w : Cost). times kind w threshold) (one_least (IsPathWeight kind (graph_of m)) one.is_bound.best two.is_bound.best one.is_bound.least two.is_bound.least) ∙ sym two.is_bound.same)

    lists : one.kept ≡ two.kept
    lists = one_ascending one.kept two.kept one.ascending two.ascending (λ p. (
      (λ has. (two.meets p).1 (subst (λ (b : Cost). Meets kind (graph_of m) b p) bounds ((one.meets p).0 has))),
      (λ has. (one.meets p).1 (subst (λ (b : Cost). Meets kind (graph_of m) b p) (sym bounds) ((two.meets p).0 has))),
    ))

    size : length c.states ≡ length d.states
    size = one.states ∙ (ap (λ (kept : List ℕ). length kept) lists ∙ sym two.states)

    start_there : (i : ℕ) → c.start ≡ Some i → d.start ≡ Some i
    start_there i e = let from = (one.start i).0 e in (two.start i).1 (from.0, from.1, ap (λ (kept : List ℕ). slice_get kept i) (sym lists) ∙ from.2)

    start_back : (i : ℕ) → d.start ≡ Some i → c.start ≡ Some i
    start_back i e = let from = (two.start i).0 e in (one.start i).1 (from.0, from.1, ap (λ (kept : List ℕ). slice_get kept i) lists ∙ from.2)

    start : c.start ≡ d.start
    start = by c.start d.start refl refl
      where
        by : (o p : Option ℕ) → c.start ≡ o → d.start ≡ p → c.start ≡ d.start
        by (Some i) p e f = e ∙ sym (start_there i e)
        by None (Some j) e f = start_back j f ∙ sym f
        by None None e f = e ∙ sym f

    finals : (i p : ℕ) → slice_get one.kept i ≡ Some p → slice_get two.kept i ≡ Some p → (graph_of c).final i ≡ (graph_of d).final i
    finals i p here there = settle _ _ (λ differ.
        let none : Ends kind (graph_of m) one.bound p → ⊥ = λ ends. differ (one.ends i p here ends ∙ sym (two.ends i p there (subst (λ (b : Cost). Ends kind (graph_of m) b p) bounds ends))) in
        differ (one.others i p here none ∙ sym (two.others i p there (λ ends. none (subst (λ (b : Cost). Ends kind (graph_of m) b p) (sym bounds) ends)))))

    at : (i : ℕ) → i < length c.states → ((graph_of c).final i ≡ (graph_of d).final i) × ((graph_of c).arcs i ≡ (graph_of d).arcs i)
    at i low =
        let p = get_or one.kept i 0 in
        let here : slice_get one.kept i ≡ Some p = slice_get-get_or one.kept i 0 (omega (arith, low, one.states)) in
        let there : slice_get two.kept i ≡ Some p = ap (λ (kept : List ℕ). slice_get kept i) (sym lists) ∙ here in
        let arcs : KeptArcs one.kept (GoodArc kind (graph_of m) one.bound p) 0 ((graph_of m).arcs p) ((graph_of d).arcs i) =
        subst (λ (kept : List ℕ). KeptArcs kept (GoodArc kind (graph_of m) one.bound p) 0 ((graph_of m).arcs p) ((graph_of d).arcs i)) (sym lists) (subst (λ (b : Cost). KeptArcs two.kept (GoodArc kind (graph_of m) b p) 0 ((graph_of m).arcs p) ((graph_of d).arcs i)) (sym bounds) (two.arcs i p there)) in
        (finals i p here there, one_kept one.kept (Ascends-Apart one.kept one.ascending) (GoodArc kind (graph_of m) one.bound p) 0 ((graph_of m).arcs p) ((graph_of c).arcs i) ((graph_of d).arcs i) (one.arcs i p here) arcs)
