-- The parts of a prefix, arc by arc.
use Rattle.std.proofs.Common.{◌≡◌, ◌≢◌, ◌⊎◌, inl, inr, ℕ, ◌<◌, suc, Bool, false, List, [], ◌∷◌, ◌++◌, Some, length, map, slice_get, refl, sym, ap, ◌∙◌, subst, append_assoc, arith}
use Rattle.std.proofs.lemmas.List.{map-append}
use Rattle.fst_semiring.specs.Cost.{Cost, infinite}
use Rattle.fst_semiring.specs.Semiring.{times}
use Rattle.fst_semiring.specs.declared.arc_type.ArcType.{ArcType}
use Rattle.fst_machine.specs.BreadthFirst.{Apart, Has}
use Rattle.fst_machine.specs.Cycles.{IsAccessible}
use Rattle.fst_machine.specs.Distance.{IsFinalDistance}
use Rattle.fst_machine.specs.Graph.{Graph}
use Rattle.fst_machine.specs.Machine.{Arc}
use Rattle.fst_machine.proofs.Arcs.{at_append_left}
use Rattle.fst_machine.proofs.Elements.{Apart-push, Has-append_cases, Has-append_left, Has-append_right}
use Rattle.fst_trim.specs.Weighed.{IsWeighted}
use Rattle.fst_trim.specs.WordWeights.{WordWeighs}
use Rattle.fst_determinize.specs.Subsets.{IsSubset, Member}
use Rattle.fst_determinize.proofs.Elements.{Has_map, map_Has}
use Rattle.fst_distance.proofs.Lists.{push_last}
use Rattle.fst_select.specs.declared.entry.Entry.{Entry}
use Rattle.fst_select.specs.Branches.{Branch}
use Rattle.fst_select.specs.Keys.{best_total}
use Rattle.fst_select.specs.Parting.{AreOpenParts, AreParts, GoesOn, IsClosedPart, IsOpenPart, arcs_of, number_by, part_number}
use Rattle.fst_select.proofs.BranchFronts.{in_branch, stop_solid}
use Rattle.fst_select.proofs.PrefixArcs.{arc_subset, member_arc}

-- one element less is left of a list, and one more is done
pub one_done : {X Y : Type 0} (f : X → Y) (all done : List Y) (left rest : List X) (x : X) → left ≡ rest ++ x ∷ [] → all ≡ map f left ++ done → all ≡ map f rest ++ f x ∷ done
one_done f all done left rest x e h =
    h ∙ (ap (λ (xs : List _). map f xs ++ done) e ∙ (ap (λ (ys : List _). ys ++ done) (map-append f rest (x ∷ [])) ∙ append_assoc (map f rest) (f x ∷ []) done))

-- an element stands where it is between others
pub between : {X : Type 0} (all front back : List X) (x : X) → all ≡ front ++ x ∷ back → Has all x
between all front back x e = subst (λ (xs : List _). Has xs x) (sym e) (Has-append_right front (x ∷ back) x (inl refl))

-- numbers that are one more than others are apart where these are
apart_more : {X : Type 0} (f h : X → ℕ) (xs : List X) → ((x : X) → Has xs x → h x ≡ suc (f x)) → Apart (map f xs) → Apart (map h xs)
apart_more f h [] same apart = tt
apart_more {X} f h (x ∷ xs) same apart = ((λ there. again (map_Has h xs (h x) there)), apart_more f h xs (λ y k. same y (inr k)) apart.1)
  where
    again : (y : X) × Has xs y × (h y ≡ h x) → ⊥
    again (y, there, e) =
        let one = same x (inl refl) in
        let two = same y (inr there) in
        let equal : f y ≡ f x = omega (arith, e, one, two) in
        apart.0 (subst (λ (n : ℕ). Has (map f xs) n) equal (Has_map f xs y there))

module _ {D : Type 0} (kind : ArcType) (g : Graph ℕ) (d : ℕ → Cost) (due : Cost) (value : D → Cost) where
  module _ (x : List ℕ) (by : Cost) (owner depth : ℕ) where
    -- no arcs have no parts
    pub no_parts : (subsets : List (List Member)) (parts : List (Entry D)) → parts ≡ [] → AreOpenParts kind g d due value x by owner depth [] subsets parts
    no_parts subsets parts none = subst (λ (es : List (Entry D)). AreOpenParts kind g d due value x by owner depth [] subsets es) (sym none)
        (record { each = λ e h. absurd h; labels = λ e h. absurd h; all = λ a h not. absurd h; apart = tt })

    -- one arc more, with a lesser label
    module _ (a : Arc Cost (List Member)) (arcs : List (Arc Cost (List Member))) (subsets : List (List Member)) (parts : List (Entry D))
        (before : AreOpenParts kind g d due value x by owner depth arcs subsets parts) where
      -- by which no string goes on
      pub one_skipped : best_total kind d (times kind by a.weight) a.next ≡ infinite → AreOpenParts kind g d due value x by owner depth (a ∷ arcs) subsets parts
      one_skipped none = record {
        each = before.each;
        labels = λ e h. let from = before.labels e h in (from.0, inr from.1, from.2);
        all = all;
        apart = before.apart;
      }
        where
          all : (b : Arc Cost (List Member)) → Has (a ∷ arcs) b → best_total kind d (times kind by b.weight) b.next ≢ infinite → (e : Entry D) × Has parts e × (e.tail ≡ b.ilabel)
          all b (inl same) not = absurd (not (subst (λ (c : Arc Cost (List Member)). best_total kind d (times kind by c.weight) c.next ≡ infinite) same none))
          all b (inr there) not = before.all b there not

      -- by which some do
      added : (leads : IsSubset kind g (x ++ a.ilabel ∷ []) (times kind by a.weight) a.next) (less : (b : Arc Cost (List Member)) → Has arcs b → a.ilabel < b.ilabel)
          (e : Entry D) → e.slot ≡ length subsets → e.tail ≡ a.ilabel → value e.by ≡ times kind by a.weight → GoesOn kind g d due value a.next owner depth e
          → AreOpenParts kind g d due value x by owner depth (a ∷ arcs) (subsets ++ a.next ∷ []) (parts ++ e ∷ [])
      added leads less e slot tail weight goes = record {
        each = λ f h. each f (Has-append_cases parts (e ∷ []) f h);
        labels = λ f h. labels f (Has-append_cases parts (e ∷ []) f h);
        all = all;
        apart = subst (λ (ns : List ℕ). Apart ns) (sym (map-append (λ (f : Entry D). f.tail) parts (e ∷ [])))
            (Apart-push (map (λ (f : Entry D). f.tail) parts) e.tail before.apart (λ h. again (map_Has (λ (f : Entry D). f.tail) parts e.tail h)));
      }
        where
          own : IsOpenPart kind g d due value x owner depth (subsets ++ a.next ∷ []) e
          own = record {
            members = a.next;
            there = ap (slice_get (subsets ++ a.next ∷ [])) slot ∙ push_last subsets a.next;
            subset = subst (λ (w : Cost). IsSubset kind g (x ++ e.tail ∷ []) w a.next) (sym weight)
                (subst (λ (l : ℕ). IsSubset kind g (x ++ l ∷ []) (times kind by a.weight) a.next) (sym tail) leads);
            goes = goes;
          }

          each : (f : Entry D) → Has parts f ⊎ Has (e ∷ []) f → IsOpenPart kind g d due value x owner depth (subsets ++ a.next ∷ []) f
          each f (inl old) = let p = before.each f old in record { members = p.members; there = at_append_left subsets (a.next ∷ []) f.slot p.members p.there; subset = p.subset; goes = p.goes }
          each f (inr (inl same)) = subst (λ (z : Entry D). IsOpenPart kind g d due value x owner depth (subsets ++ a.next ∷ []) z) same own
          each f (inr (inr none)) = absurd none

          labels : (f : Entry D) → Has parts f ⊎ Has (e ∷ []) f → (b : Arc Cost (List Member)) × Has (a ∷ arcs) b × (b.ilabel ≡ f.tail)
          labels f (inl old) = let from = before.labels f old in (from.0, inr from.1, from.2)
          labels f (inr (inl same)) = (a, inl refl, sym tail ∙ ap (λ (z : Entry D). z.tail) same)
          labels f (inr (inr none)) = absurd none

          all : (b : Arc Cost (List Member)) → Has (a ∷ arcs) b → best_total kind d (times kind by b.weight) b.next ≢ infinite → (f : Entry D) × Has (parts ++ e ∷ []) f × (f.tail ≡ b.ilabel)
          all b (inl same) not = (e, Has-append_right parts (e ∷ []) e (inl refl), tail ∙ ap (λ (c : Arc Cost (List Member)). c.ilabel) same)
          all b (inr there) not = let f = before.all b there not in (f.0, Has-append_left parts (e ∷ []) f.0 f.1, f.2)

          again : (f : Entry D) × Has parts f × (f.tail ≡ e.tail) → ⊥
          again (f, old, same) = let from = before.labels f old in let low = less from.0 from.1 in omega (arith, low, from.2, same, tail)

      pub one_added : IsSubset kind g (x ++ a.ilabel ∷ []) (times kind by a.weight) a.next → ((b : Arc Cost (List Member)) → Has arcs b → a.ilabel < b.ilabel)
          → (e : Entry D) (more : List (List Member)) (new : List (Entry D)) → new ≡ parts ++ e ∷ [] → more ≡ subsets ++ a.next ∷ []
          → e.slot ≡ length subsets → e.tail ≡ a.ilabel → value e.by ≡ times kind by a.weight → GoesOn kind g d due value a.next owner depth e
          → AreOpenParts kind g d due value x by owner depth (a ∷ arcs) more new
      one_added leads less e more new put grown slot tail weight goes =
          subst (λ (s : List (List Member)). AreOpenParts kind g d due value x by owner depth (a ∷ arcs) s new) (sym grown)
          (subst (λ (es : List (Entry D)). AreOpenParts kind g d due value x by owner depth (a ∷ arcs) (subsets ++ a.next ∷ []) es) (sym put) (added leads less e slot tail weight goes))

    -- The parts by all arcs of the subset, and the string that ends with the prefix, where it has a weight.
    module _ (weighted : IsWeighted kind g) (far : (q : ℕ) → IsAccessible g q → IsFinalDistance kind g q (d q)) (members : List Member) (is : IsSubset kind g x by members)
        (subsets : List (List Member)) (parts : List (Entry D)) (h : AreOpenParts kind g d due value x by owner depth (arcs_of kind g members) subsets parts) where
      branch_by : Arc Cost (List Member) → Branch
      branch_by a = record { label = a.ilabel; by = times kind by a.weight; members = a.next }

      goes : (label : ℕ) (rest : List ℕ) (w : Cost) → WordWeighs kind g (x ++ label ∷ rest) w → (e : Entry D) × Has parts e × (e.closed ≡ false) × (e.tail ≡ label)
      unfolding branch_by
      goes label rest w says =
          let k = in_branch kind g weighted d far x by members is (map branch_by (arcs_of kind g members)) leads covers label rest w says in
          let from = map_Has branch_by (arcs_of kind g members) k.0 k.1 in
          let not : best_total kind d (times kind by from.0.weight) from.0.next ≢ infinite = subst (λ (b : Branch). best_total kind d b.by b.members ≢ infinite) (sym from.2) k.3 in
          let e = h.all from.0 from.1 not in
          (e.0, e.1, (h.each e.0 e.1).goes.closed, e.2 ∙ (ap (λ (b : Branch). b.label) from.2 ∙ k.2))
        where
          leads : (k : Branch) → Has (map branch_by (arcs_of kind g members)) k → IsSubset kind g (x ++ k.label ∷ []) k.by k.members
          leads k there =
              let from = map_Has branch_by (arcs_of kind g members) k there in
              subst (λ (b : Branch). IsSubset kind g (x ++ b.label ∷ []) b.by b.members) from.2 (arc_subset kind g members weighted x by is from.0 from.1)

          covers : (m : Member) (j : ℕ) (b : Arc Cost ℕ) → Has members m → slice_get (g.arcs m.state) j ≡ Some b → (k : Branch) × Has (map branch_by (arcs_of kind g members)) k × (k.label ≡ b.ilabel)
          covers m j b there at =
              let a = member_arc kind g members weighted x by is m j b there at in
              (branch_by a.0, Has_map branch_by (arcs_of kind g members) a.0 a.1, a.2)

      number_is : (e : Entry D) → Has parts e → part_number e ≡ suc e.tail
      number_is e there = ap (λ (b : Bool). number_by b e.tail) (h.each e there).goes.closed

      pub open_only : best_total kind g.final by members ≡ infinite → AreParts kind g d due value x owner depth subsets parts
      open_only none = record {
        by = by;
        members = members;
        subset = is;
        each = λ e there. inr (h.each e there);
        apart = apart_more (λ (e : Entry D). e.tail) part_number parts number_is h.apart;
        stops = λ w says. absurd (stop_solid kind g weighted d far x by members is w says none);
        goes = goes;
      }

      pub with_closed : (e : Entry D) → IsClosedPart kind g value by members owner depth e → AreParts kind g d due value x owner depth subsets (parts ++ e ∷ [])
      with_closed e closed = record {
        by = by;
        members = members;
        subset = is;
        each = λ f there. each f (Has-append_cases parts (e ∷ []) f there);
        apart = subst (λ (ns : List ℕ). Apart ns) (sym (map-append part_number parts (e ∷ [])))
            (Apart-push (map part_number parts) (part_number e) (apart_more (λ (f : Entry D). f.tail) part_number parts number_is h.apart)
            (λ there. again (map_Has part_number parts (part_number e) there)));
        stops = λ w says. (e, Has-append_right parts (e ∷ []) e (inl refl), closed.closed);
        goes = λ label rest w says. let f = goes label rest w says in (f.0, Has-append_left parts (e ∷ []) f.0 f.1, f.2, f.3);
      }
        where
          each : (f : Entry D) → Has parts f ⊎ Has (e ∷ []) f → IsClosedPart kind g value by members owner depth f ⊎ IsOpenPart kind g d due value x owner depth subsets f
          each f (inl old) = inr (h.each f old)
          each f (inr (inl same)) = inl (subst (λ (z : Entry D). IsClosedPart kind g value by members owner depth z) same closed)
          each f (inr (inr none)) = absurd none

          again : (f : Entry D) × Has parts f × (part_number f ≡ part_number e) → ⊥
          again (f, old, same) =
              let own : part_number e ≡ 0 = ap (λ (b : Bool). number_by b e.tail) closed.closed in
              let other = number_is f old in
              omega (arith, same, own, other)
