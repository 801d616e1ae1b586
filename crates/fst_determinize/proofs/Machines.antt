-- The arcs of a machine, as its graph has them, and the ways from a subset of its states.
use Rattle.std.proofs.Common.{◌≡◌, ◌≢◌, inl, inr, ℕ, ◌+◌, ◌*◌, ◌<◌, List, [], ◌∷◌, ◌++◌, Ok, Err, Option, None, Some, length, sym, ap, ◌∙◌, subst, arith}
use Rattle.std.specs.Prelude.{IfSome, OnOk, Result}
use Rattle.std.proofs.lemmas.List.{length-map}
use Rattle.std.proofs.lemmas.Option.{same_Some}
use Rattle.fst_semiring.specs.Cost.{Cost, infinite}
use Rattle.fst_semiring.specs.Division.{quotient}
use Rattle.fst_semiring.specs.Semiring.{IsWide, times}
use Rattle.fst_semiring.specs.declared.arc_type.ArcType.{ArcType}
use Rattle.fst_semiring.proofs.Laws.{times_only_zero}
use Rattle.fst_semiring.proofs.Ranges.{Within-more, Within-times}
use Rattle.fst_machine.specs.BreadthFirst.{Has}
use Rattle.fst_machine.specs.Graph.{graph_of}
use Rattle.fst_machine.specs.Machine.{Arc, IsMachine, Machine, most_states, valued, valued_state}
use Rattle.fst_machine.specs.Paths.{IsPath, Transition}
use Rattle.fst_machine.proofs.Valued.{IsMachine-valued}
use Rattle.fst_trim.specs.Weighed.{IsWeighed}
use Rattle.fst_trim.proofs.Weighed.{machine_arc}
use Rattle.fst_walk.specs.Names.{IsNear}
use Rattle.fst_determinize.specs.Kept.{AreGoodWays, IsGoodWay, WayAs, rank, way_as, ways_as}
use Rattle.fst_determinize.specs.Subsets.{IsSubset, Member}
use Rattle.fst_determinize.specs.Ways.{Way, arc_by, arcs_by, best_of, members_of, member_by, subsets, ways}
use Rattle.fst_determinize.specs.Weighed.{AreMembers, HasGoodArcs}
use Rattle.fst_determinize.proofs.Best.{best_alike}
use Rattle.fst_determinize.proofs.Elements.{Alike, Has_map, map_alike}
use Rattle.fst_determinize.proofs.Grouped.{grouped_alike}
use Rattle.fst_determinize.proofs.Members.{member_stands, residual_kind, ways_Has}
use Rattle.fst_determinize.proofs.Runs.{permuted, rises_from}
use Rattle.fst_determinize.proofs.Stepping.{arc_steps}
use Rattle.fst_determinize.proofs.Theorem.{near_subset, residual_within}
use Rattle.std.specs.List.Sorted.{IsNonDecreasingBy, IsPermutation}

-- what follows from what holds where a call succeeds
pub on_ok : {X E : Type 0} (r : Result X E) (P Q : Type 0) → (P → Q) → OnOk r P → OnOk r Q
on_ok (Ok x) P Q more h = more h
on_ok (Err e) P Q more h = h

module _ (m : Machine Cost) (h : IsMachine (λ (v : Cost). v) m) where
  -- paths stay among its states
  pub path_inside : (path : List (Transition ℕ)) (p q : ℕ) → IsPath (graph_of m) p path q → p < length m.states → q < length m.states
  path_inside [] p q here low = subst (λ (z : ℕ). z < length m.states) here low
  path_inside (t ∷ path) p q leads low = path_inside path t.arc.next q leads.1 (machine_arc m h p t.place t.arc leads.0.1).next

  pub start_below : (p : ℕ) → m.start ≡ Some p → p < length m.states
  start_below p e = in_some m.start p h.start e
    where
      in_some : (o : Option ℕ) (p : ℕ) → IfSome o (λ s. s < length m.states) → o ≡ Some p → p < length m.states
      in_some None p k e = absurd (cc)
      in_some (Some s) p k e = subst (λ (z : ℕ). z < length m.states) (same_Some s p e) k

-- what is made of ways does not depend on their order
module _ (kind : ArcType) where
  members_alike : (by : Cost) (us vs : List Way) → Alike us vs → members_of kind by us ≡ members_of kind by vs
  members_alike by us vs h = grouped_alike (λ (y : Way). y.state) (member_by kind by) (λ q xs ys k. ap (λ (v : Cost). record { state = q; residual = quotient kind v by }) (best_alike (λ (y : Way). y.weight) xs ys k)) us vs h

  pub arcs_alike : (us vs : List Way) → Alike us vs → arcs_by kind us ≡ arcs_by kind vs
  arcs_alike us vs h = grouped_alike (λ (y : Way). y.label) (arc_by kind) arc_alike us vs h
    where
      arc_alike : (label : ℕ) (xs ys : List Way) → Alike xs ys → arc_by kind label xs ≡ arc_by kind label ys
      arc_alike label xs ys k =
          let made : List Member → Cost → Arc Cost (List Member) = λ ms v. record { ilabel = label; olabel = label; weight = v; next = ms } in
          ap (λ (v : Cost). made (members_of kind v xs) v) (best_alike (λ (y : Way). y.weight) xs ys k) ∙ ap (λ (ms : List Member). made ms (best_of ys)) (members_alike (best_of ys) xs ys k)

module _ {V : Type 0} (kind : ArcType) (value : V → Cost) (m : Machine V) (h : IsWeighed kind value m) where
  whole : Machine Cost
  whole = valued value m

  limits : IsMachine (λ (v : Cost). v) (valued value m)
  limits = IsMachine-valued value m h.machine

  long : length (valued value m).states ≡ length m.states
  long = length-map m.states (valued_state value)

  -- the ways from members are good
  pub ways_good : (members : List Member) → AreMembers (length m.states) members → (y : Way) → Has (ways kind (graph_of (valued value m)) members) y → (y.state < 4294967296) × IsWide y.weight × (y.weight ≢ infinite)
  ways_good members good y k =
      let way = ways_Has kind (graph_of (valued value m)) members y k in
      let arc = machine_arc (valued value m) limits way.member.state way.place way.arc way.has in
      let range = h.ranged way.member.state way.place way.arc way.has in
      let weight = h.weighted.arcs way.member.state way.place way.arc way.has in
      let low = arc.next in
      let few = h.machine.few_states in
      let same = long in
      let small : way.arc.next < 4294967296 = omega (arith, low, few, same) in
      let wide : IsWide (times kind way.member.residual way.arc.weight) =
      Within-more (332306998946228968225951765070086144 + 1000000000000000000) 1329227995784915872903807060280344575 (times kind way.member.residual way.arc.weight) (omega arith)
      (Within-times kind 332306998946228968225951765070086144 1000000000000000000 way.member.residual way.arc.weight (good.modest way.member way.stands) range) in
      subst (λ (z : Way). (z.state < 4294967296) × IsWide z.weight × (z.weight ≢ infinite)) way.is
      (small, wide, λ e. elim (times_only_zero kind way.member.residual way.arc.weight e) [ inl one ↦ good.not_zero way.member way.stands one | inr two ↦ weight.1 two ])

  -- the members of the subset of a word that is not too long
  pub subset_members : (word : List ℕ) (b : Cost) (s : List Member) → IsSubset kind (graph_of (valued value m)) word b s → length word < most_states → AreMembers (length m.states) s
  subset_members word b s sub short = record {
    state = λ n k.
        let from = member_stands kind (graph_of (valued value m)) h.weighted word b s sub n k in
        let same = long in
        let low = path_inside (valued value m) limits from.spells.path from.spells.first n.state from.spells.leads (start_below (valued value m) limits from.spells.first from.spells.starts) in
        omega (arith, low, same);
    modest = λ n k.
        Within-more (2 * (length word * 1000000000000000000)) 332306998946228968225951765070086144 n.residual (omega (arith, short))
        (residual_within kind (graph_of (valued value m)) h.weighted 1000000000000000000 h.ranged word b s n sub k);
    not_zero = λ n k. (residual_kind kind (graph_of (valued value m)) h.weighted word b n (member_stands kind (graph_of (valued value m)) h.weighted word b s sub n k)).1;
  }

  -- a name near the start has members that can be gone on from
  pub near_members : (s : List Member) → IsNear (subsets kind (graph_of (valued value m))) s → AreMembers (length m.states) s
  near_members s near = let sub = near_subset kind (graph_of (valued value m)) h.weighted s near in subset_members sub.0 sub.1 s sub.2 sub.3

  -- and its arcs are arcs of a machine
  pub good_arcs : HasGoodArcs kind (graph_of (valued value m))
  good_arcs s near k a at =
      let sub = near_subset kind (graph_of (valued value m)) h.weighted s near in
      let steps = arc_steps kind (graph_of (valued value m)) h.weighted sub.0 sub.1 s sub.2 k a at in
      let way = ways_Has kind (graph_of (valued value m)) s steps.way.0 steps.way.1 in
      let arc = machine_arc (valued value m) limits way.member.state way.place way.arc way.has in
      let low = arc.ilabel in
      let own : way.arc.ilabel ≡ a.ilabel = ap (λ (y : Way). y.label) way.is ∙ steps.way.2 in
      let other = steps.labels in
      record { ilabel = omega (arith, low, own); olabel = omega (arith, low, own, other); weight = steps.not_zero }

  -- ways in order, as they are made and sorted
  module _ {U : Type 0} (wide : U → Cost) (cleared made sorted : List (WayAs U)) (members held : List Member) (good : AreMembers (length m.states) members) (none : cleared ≡ []) (same : held ≡ members)
      (put : ways_as wide made ≡ ways_as wide cleared ++ ways kind (graph_of (valued value m)) held) (moved : IsPermutation made sorted) (ranked : IsNonDecreasingBy rank sorted) where
    made_are : ways_as wide made ≡ ways kind (graph_of (valued value m)) members
    made_are = put ∙ (ap (λ (zs : List (WayAs U)). ways_as wide zs ++ ways kind (graph_of (valued value m)) held) none ∙ ap (ways kind (graph_of (valued value m))) same)

    pub sorted_good : AreGoodWays wide sorted
    sorted_good = record { ranked = rises_from rank sorted ranked; good = λ y k. one y k }
      where
        one : (y : WayAs U) → Has sorted y → IsGoodWay wide y
        one y k =
            let there : Has (ways_as wide made) (way_as wide y) = Has_map (way_as wide) made y ((permuted made sorted moved).back y k) in
            let all = ways_good members good (way_as wide y) (subst (λ (ys : List Way). Has ys (way_as wide y)) made_are there) in
            record { state = all.0; wide = all.1; not_zero = all.2 }

    pub sorted_arcs : arcs_by kind (ways_as wide sorted) ≡ (subsets kind (graph_of (valued value m))).arcs members
    sorted_arcs = sym (arcs_alike kind (ways_as wide made) (ways_as wide sorted) (map_alike (way_as wide) made sorted (permuted made sorted moved))) ∙ ap (arcs_by kind) made_are
