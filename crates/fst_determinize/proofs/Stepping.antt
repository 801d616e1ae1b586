-- The step: the arc of a word's subset on a label leads to the subset of the word followed by that label.
use Rattle.std.proofs.Common.{◌≡◌, ◌≢◌, inl, inr, ℕ, false, List, [], ◌∷◌, ◌++◌, Some, slice_get, sym, refl, ap, ◌∙◌, subst}
use Rattle.fst_semiring.specs.Cost.{Cost, infinite, plus}
use Rattle.fst_semiring.specs.Division.{quotient}
use Rattle.fst_semiring.specs.Semiring.{cancels, times, IsCost}
use Rattle.fst_semiring.specs.declared.arc_type.ArcType.{ArcType}
use Rattle.fst_semiring.proofs.Laws.{keeps_times, times_assoc, times_only_zero}
use Rattle.fst_semiring.proofs.OfKind.{IsCost-times}
use Rattle.fst_semiring.proofs.Order.{plus_infinite, plus_trans}
use Rattle.fst_machine.specs.BreadthFirst.{Has}
use Rattle.fst_machine.specs.Distance.{IsLeast}
use Rattle.fst_machine.specs.Graph.{Graph}
use Rattle.fst_machine.specs.Machine.{Arc}
use Rattle.fst_machine.proofs.Elements.{at_Has}
use Rattle.fst_determinize.specs.Subsets.{HasSubset, IsSubset, Member, Spells, SpellsSome}
use Rattle.fst_trim.specs.Weighed.{IsWeighted}
use Rattle.fst_determinize.specs.Ways.{Way, arc_by, arcs_by, best_of, having, member_by, members_of, ways}
use Rattle.fst_determinize.proofs.Best.{Weighs, best_holds, best_least, best_no_worse, least_through}
use Rattle.fst_trim.proofs.Weighed.{zero_kind}
use Rattle.fst_determinize.proofs.Dividing.{quotient_kept, quotient_shared, times_worsens}
use Rattle.fst_determinize.proofs.Grouped.{Has_grouped, Has_having, grouped_Has, grouped_ascends, having_Has}
use Rattle.fst_determinize.proofs.Members.{Has_ways, member_stands, residual_kind, ways_Has}
use Rattle.fst_determinize.proofs.Spelling.{spells_back, spells_on, spells_weighs}

module _ (kind : ArcType) (g : Graph ℕ) (weighted : IsWeighted kind g) where
  module _ (word : List ℕ) (b : Cost) (s : List Member) (sub : IsSubset kind g word b s) where
    -- a way is a path of the word and one label more
    pub way_spells : (y : Way) → Has (ways kind g s) y → Spells kind g (word ++ y.label ∷ []) y.state (times kind b y.weight)
    way_spells y h =
        let way = ways_Has kind g s y h in
        let m = way.member in
        let from = member_stands kind g weighted word b s sub m way.stands in
        let weight : times kind from.weight way.arc.weight ≡ times kind b (times kind m.residual way.arc.weight) = ap (λ v. times kind v way.arc.weight) (sym from.undone) ∙ times_assoc kind b m.residual way.arc.weight in
        subst (λ (z : Way). Spells kind g (word ++ z.label ∷ []) z.state (times kind b z.weight)) way.is
        (subst (λ (v : Cost). Spells kind g (word ++ way.arc.ilabel ∷ []) way.arc.next v) weight (spells_on kind g word m.state from.weight way.place way.arc from.spells way.has))

    -- a path of the word and one label more is no better than some way
    pub spells_way : (label q : ℕ) (w : Cost) → Spells kind g (word ++ label ∷ []) q w → (y : Way) × Has (ways kind g s) y × (y.label ≡ label) × (y.state ≡ q) × (plus (times kind b y.weight) w ≡ times kind b y.weight)
    spells_way label q w h =
        let cut = spells_back kind g word label q w h in
        let there = sub.all cut.state cut.weight cut.spells (spells_weighs kind g weighted word cut.state cut.weight cut.spells).1 in
        let m : Member = record { state = cut.state; residual = there.0 } in
        let from = member_stands kind g weighted word b s sub m there.1 in
        let low : plus (times kind from.weight cut.arc.weight) (times kind cut.weight cut.arc.weight) ≡ times kind from.weight cut.arc.weight = keeps_times kind cut.arc.weight from.weight cut.weight (from.least cut.weight cut.spells) in
        let weight : times kind from.weight cut.arc.weight ≡ times kind b (times kind there.0 cut.arc.weight) = ap (λ v. times kind v cut.arc.weight) (sym from.undone) ∙ times_assoc kind b there.0 cut.arc.weight in
        let made : plus (times kind b (times kind there.0 cut.arc.weight)) w ≡ times kind b (times kind there.0 cut.arc.weight) = ap (plus (times kind b (times kind there.0 cut.arc.weight))) cut.weighs ∙ subst (λ (v : Cost). plus v (times kind cut.weight cut.arc.weight) ≡ v) weight low in
        (record { label = cut.arc.ilabel; state = cut.arc.next; weight = times kind there.0 cut.arc.weight }, Has_ways kind g s m cut.place cut.arc there.1 cut.has, cut.reads, cut.leads, made)

    -- a way weighs a value of the arc type that is not Zero
    pub way_weighs : (y : Way) → Has (ways kind g s) y → IsCost kind y.weight × (y.weight ≢ infinite)
    way_weighs y h =
        let way = ways_Has kind g s y h in
        let from = member_stands kind g weighted word b s sub way.member way.stands in
        let r = residual_kind kind g weighted word b way.member from in
        let a = weighted.arcs way.member.state way.place way.arc way.has in
        subst (λ (z : Way). IsCost kind z.weight × (z.weight ≢ infinite)) way.is
        (IsCost-times kind way.member.residual way.arc.weight r.0 a.0, λ e. elim (times_only_zero kind way.member.residual way.arc.weight e) [ inl one ↦ r.1 one | inr two ↦ a.1 two ])

    -- where factors do not cancel, it is no better than the best of the word
    way_worse : cancels kind ≡ false → (y : Way) → Has (ways kind g s) y → plus b y.weight ≡ b
    way_worse free y h =
        let way = ways_Has kind g s y h in
        let m = way.member in
        let from = member_stands kind g weighted word b s sub m way.stands in
        let kept : m.residual ≡ from.weight = from.residual ∙ quotient_kept kind from.weight b free in
        let low : plus b m.residual ≡ b = subst (λ (v : Cost). plus b v ≡ b) (sym kept) from.no_worse in
        subst (λ (z : Way). plus b z.weight ≡ b) way.is (plus_trans b m.residual (times kind m.residual way.arc.weight) low (times_worsens kind m.residual way.arc.weight free))

    -- the ways with a label, and those of them to a state
    on_label : ℕ → List Way
    on_label label = having (λ y. y.label) label (ways kind g s)

    to_state : ℕ → ℕ → List Way
    to_state label q = having (λ y. y.state) q (on_label label)

    from_label : (label : ℕ) (y : Way) → Has (on_label label) y → Has (ways kind g s) y × (y.label ≡ label)
    unfolding on_label
    from_label label y h = having_Has (λ y. y.label) label (ways kind g s) y h

    from_state : (label q : ℕ) (y : Way) → Has (to_state label q) y → Has (on_label label) y × (y.state ≡ q)
    unfolding to_state
    from_state label q y h = having_Has (λ y. y.state) q (on_label label) y h

    label_spells : (label : ℕ) (y : Way) → Has (on_label label) y → Spells kind g (word ++ label ∷ []) y.state (times kind b y.weight)
    label_spells label y h = let from = from_label label y h in subst (λ (l : ℕ). Spells kind g (word ++ l ∷ []) y.state (times kind b y.weight)) from.1 (way_spells y from.0)

    label_least : (label : ℕ) → IsLeast (SpellsSome kind g (word ++ label ∷ [])) (times kind b (best_of (on_label label)))
    unfolding on_label
    label_least label = least_through kind b (SpellsSome kind g (word ++ label ∷ [])) (Weighs (λ (y : Way). y.weight) (on_label label)) (best_of (on_label label)) (best_least (λ (y : Way). y.weight) (on_label label)) to back
      where
        to : (w : Cost) → Weighs (λ (y : Way). y.weight) (on_label label) w → SpellsSome kind g (word ++ label ∷ []) (times kind b w)
        to w h = (h.0.state, subst (λ (v : Cost). Spells kind g (word ++ label ∷ []) h.0.state (times kind b v)) (sym h.2) (label_spells label h.0 h.1))

        back : (w : Cost) → SpellsSome kind g (word ++ label ∷ []) w → (v : Cost) × Weighs (λ (y : Way). y.weight) (on_label label) v × (plus (times kind b v) w ≡ times kind b v)
        back w h = let r = spells_way label h.0 w h.1 in (r.0.weight, (r.0, Has_having (λ y. y.label) label (ways kind g s) r.0 r.1 r.2, refl), r.4)

    state_least : (label q : ℕ) → IsLeast (Spells kind g (word ++ label ∷ []) q) (times kind b (best_of (to_state label q)))
    unfolding on_label to_state
    state_least label q = least_through kind b (Spells kind g (word ++ label ∷ []) q) (Weighs (λ (y : Way). y.weight) (to_state label q)) (best_of (to_state label q)) (best_least (λ (y : Way). y.weight) (to_state label q)) to back
      where
        to : (w : Cost) → Weighs (λ (y : Way). y.weight) (to_state label q) w → Spells kind g (word ++ label ∷ []) q (times kind b w)
        to w h =
            let from = from_state label q h.0 h.1 in
            subst (λ (p : ℕ). Spells kind g (word ++ label ∷ []) p (times kind b w)) from.1
            (subst (λ (v : Cost). Spells kind g (word ++ label ∷ []) h.0.state (times kind b v)) (sym h.2) (label_spells label h.0 from.0))

        back : (w : Cost) → Spells kind g (word ++ label ∷ []) q w → (v : Cost) × Weighs (λ (y : Way). y.weight) (to_state label q) v × (plus (times kind b v) w ≡ times kind b v)
        back w h = let r = spells_way label q w h in (r.0.weight, (r.0, Has_having (λ y. y.state) q (on_label label) r.0 (Has_having (λ y. y.label) label (ways kind g s) r.0 r.1 r.2) r.3, refl), r.4)

    -- the best of some of the ways, of which one is known
    some_kind : (us : List Way) → ((y : Way) → Has us y → Has (ways kind g s) y) → IsCost kind (best_of us)
    some_kind us from = best_holds (λ (y : Way). y.weight) (λ v. IsCost kind v) (zero_kind kind) us (λ y h. (way_weighs y (from y h)).0)

    some_not_zero : (us : List Way) → ((y : Way) → Has us y → Has (ways kind g s) y) → (y : Way) → Has us y → best_of us ≢ infinite
    some_not_zero us from y h = (best_no_worse (λ (y : Way). y.weight) us y h (way_weighs y (from y h)).1).0

    some_worse : cancels kind ≡ false → (us : List Way) → ((y : Way) → Has us y → Has (ways kind g s) y) → plus b (best_of us) ≡ b
    some_worse free us from = best_holds (λ (y : Way). y.weight) (λ v. plus b v ≡ b) (plus_infinite b) us (λ y h. way_worse free y (from y h))

    -- the weight of the arc on a label is of the arc type and not Zero
    pub arc_weighs : (y : Way) → Has (ways kind g s) y → IsCost kind (arc_by kind y.label (having (λ y. y.label) y.label (ways kind g s))).weight × ((arc_by kind y.label (having (λ y. y.label) y.label (ways kind g s))).weight ≢ infinite)
    unfolding on_label
    arc_weighs y h =
        let here : Has (on_label y.label) y = Has_having (λ y. y.label) y.label (ways kind g s) y h refl in
        let from : (z : Way) → Has (on_label y.label) z → Has (ways kind g s) z = λ z k. (from_label y.label z k).0 in
        (some_kind (on_label y.label) from, some_not_zero (on_label y.label) from y here)

    -- The arc on a label leads to the subset of the word and that label.
    pub step : (y : Way) → Has (ways kind g s) y → (let zs : List Way = having (λ y. y.label) y.label (ways kind g s) in IsSubset kind g (word ++ y.label ∷ []) (times kind b (best_of zs)) (members_of kind (best_of zs) zs))
    unfolding on_label to_state
    step y h = record {
      least = label_least label;
      ascends = grouped_ascends (λ z. z.state) (member_by kind (best_of (on_label label))) (λ m. m.state) (λ q us. refl) (on_label label);
      listed = λ m k. listed m k;
      all = λ q w k n. all q w k;
    }
      where
        label : ℕ
        label = y.label

        here : Has (on_label label) y
        here = Has_having (λ y. y.label) y.label (ways kind g s) y h refl

        from : (z : Way) → Has (on_label label) z → Has (ways kind g s) z
        from z k = (from_label label z k).0

        stands : IsCost kind b × (b ≢ infinite)
        stands = let way = ways_Has kind g s y h in let m = member_stands kind g weighted word b s sub way.member way.stands in (m.best_kind, m.best_not_zero)

        listed : (m : Member) → Has (members_of kind (best_of (on_label label)) (on_label label)) m
            → (w : Cost) × IsLeast (Spells kind g (word ++ label ∷ []) m.state) w × (w ≢ infinite) × (m.residual ≡ quotient kind w (times kind b (best_of (on_label label))))
        listed m k =
            let z = grouped_Has (λ z. z.state) (member_by kind (best_of (on_label label))) (on_label label) m k in
            let us = to_state label z.0.state in
            let there : Has us z.0 = Has_having (λ y. y.state) z.0.state (on_label label) z.0 z.1 refl in
            let only : (x : Way) → Has us x → Has (ways kind g s) x = λ x i. from x (from_state label z.0.state x i).0 in
            let some : best_of us ≢ infinite = some_not_zero us only z.0 there in
            let none : times kind b (best_of us) ≢ infinite = λ e. elim (times_only_zero kind b (best_of us) e) [ inl one ↦ stands.1 one | inr two ↦ some two ] in
            let shared = quotient_shared kind b (best_of (on_label label)) (best_of us) stands.0 stands.1 (some_kind (on_label label) from) (some_not_zero (on_label label) from y here) (λ free. some_worse free us only) in
            subst (λ (m : Member). (w : Cost) × IsLeast (Spells kind g (word ++ label ∷ []) m.state) w × (w ≢ infinite) × (m.residual ≡ quotient kind w (times kind b (best_of (on_label label))))) z.2
            (times kind b (best_of us), state_least label z.0.state, none, sym shared)

        all : (q : ℕ) (w : Cost) → Spells kind g (word ++ label ∷ []) q w → (r : Cost) × Has (members_of kind (best_of (on_label label)) (on_label label)) (record { state = q; residual = r })
        all q w k =
            let r = spells_way label q w k in
            let there : Has (on_label label) r.0 = Has_having (λ y. y.label) label (ways kind g s) r.0 r.1 r.2 in
            subst (λ (p : ℕ). (r : Cost) × Has (members_of kind (best_of (on_label label)) (on_label label)) (record { state = p; residual = r })) r.3
            (quotient kind (best_of (to_state label r.0.state)) (best_of (on_label label)), Has_grouped (λ z. z.state) (member_by kind (best_of (on_label label))) (on_label label) r.0 there)

    -- so does each arc of the graph of subsets, and its end is not empty
    pub record Steps (a : Arc Cost (List Member)) : Type 0 where
      pub labels : a.ilabel ≡ a.olabel
      pub kind_of : IsCost kind a.weight
      pub not_zero : a.weight ≢ infinite
      pub subset : HasSubset kind g (word ++ a.ilabel ∷ []) a.next
      pub exact : IsSubset kind g (word ++ a.ilabel ∷ []) (times kind b a.weight) a.next
      pub way : (y : Way) × Has (ways kind g s) y × (y.label ≡ a.ilabel)

    pub arc_steps : (k : ℕ) (a : Arc Cost (List Member)) → slice_get (arcs_by kind (ways kind g s)) k ≡ Some a → Steps a
    arc_steps k a at =
        let y = grouped_Has (λ y. y.label) (arc_by kind) (ways kind g s) a (at_Has (arcs_by kind (ways kind g s)) k a at) in
        let w = arc_weighs y.0 y.1 in
        let zs = having (λ y. y.label) y.0.label (ways kind g s) in
        let here : Has zs y.0 = Has_having (λ y. y.label) y.0.label (ways kind g s) y.0 y.1 refl in
        let exact = step y.0 y.1 in
        subst Steps y.2 (record {
          labels = refl;
          kind_of = w.0;
          not_zero = w.1;
          subset = ((times kind b (best_of zs), exact), (member_by kind (best_of zs) y.0.state (having (λ y. y.state) y.0.state zs), Has_grouped (λ z. z.state) (member_by kind (best_of zs)) zs y.0 here));
          exact = exact;
          way = (y.0, y.1, refl);
        })

    -- each label of a way has its arc
    pub way_arc : (y : Way) → Has (ways kind g s) y → Has (arcs_by kind (ways kind g s)) (arc_by kind y.label (having (λ y. y.label) y.label (ways kind g s)))
    way_arc y h = Has_grouped (λ y. y.label) (arc_by kind) (ways kind g s) y h
