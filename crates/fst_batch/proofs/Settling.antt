-- What settles the answer of a line.
use Rattle.std.proofs.Common.{◌≡◌, ℕ, ◌<◌, ◌≤◌, List, [], Option, None, Some, map, refl, sym, ap, ◌∙◌, subst, arith}
use Rattle.fst_semiring.specs.Cost.{Cost}
use Rattle.fst_semiring.specs.Semiring.{InRange}
use Rattle.fst_semiring.specs.declared.arc_type.ArcType.{ArcType}
use Rattle.fst_machine.specs.BreadthFirst.{Has, IsBreadthFirst}
use Rattle.fst_machine.specs.Graph.{Graph}
use Rattle.fst_machine.specs.Machine.{most_arcs}
use Rattle.fst_machine.specs.PathOrder.{IsFirst, WeightedPath}
use Rattle.fst_machine.specs.Paths.{IsPath}
use Rattle.fst_machine.proofs.BreadthFirst.{one_breadth_first}
use Rattle.fst_machine.proofs.PathOrder.{one_IsFirst}
use Rattle.fst_walk.specs.Answers.{HasManyArcs, ReachesMore}
use Rattle.fst_walk.specs.Making.{IsReached, arcs_of}
use Rattle.fst_walk.proofs.Refusing.{reached_few}
use Rattle.fst_lattice.specs.Lattice.{HasNoZero, Point, lattice}
use Rattle.fst_batch.specs.BestPaths.{HasGreatWeight, Improves, IsNotText, Told, first_not_text, labels_of, told_of, valued_told}
use Rattle.fst_batch.specs.Answers.{IsAnswer, NoneBefore, all_faults}
use Rattle.fst_batch.specs.declared.fault.LineFault.TheVariants.{BadByte, ImprovingCycle, NotText, Overflow, StateLimit, TooManyArcs}
use Rattle.fst_batch.specs.declared.answer.LineAnswer.TheVariants.{Listed, Refused}
use Rattle.fst_batch.proofs.Numbered.{none_first}

-- the names of a graph are not more than the limit and more
module _ {N : Type 0} (g : Graph N) (limit : ℕ) (names : List N) (h : IsReached g limit names) where
  one_start : (p : N) → g.start ≡ Some p → p ≡ h.start
  one_start p starts = let e : ◌≡◌ {A = Option N} (Some p) (Some h.start) = sym starts ∙ h.starts in cc

  few_reached : ReachesMore g limit → ⊥
  few_reached more =
      let same = one_start more.start more.starts in
      let fewer = reached_few g h.start names more.names h.listed more.apart (λ z has. let path = more.reached z has in (path.0, subst (λ (p : N). IsPath g p path.0 z) same path.1)) in
      let low = h.few in
      let many = more.more in
      omega (arith, fewer, low, many)

  -- nor have they few arcs and many
  few_counted : arcs_of g names ≤ most_arcs → HasManyArcs g limit → ⊥
  few_counted few many =
      let listed = subst (λ (p : N). IsBreadthFirst g p many.names) (one_start many.reached.start many.reached.starts) many.reached.listed in
      let same : many.names ≡ names = one_breadth_first g h.start many.names names listed h.listed in
      let over : most_arcs < arcs_of g names = subst (λ (ns : List N). most_arcs < arcs_of g ns) same many.many in
      omega (arith, few, over)

module _ {N V : Type 0} (kind : ArcType) (value : V → Cost) (g : Graph N) (n limit : ℕ) (line : List ℕ) where
  -- each fault in front of a place is kept out
  none_before : (k : ℕ) → (0 < k → HasNoZero line) → (1 < k → ReachesMore (lattice line g) limit → ⊥) → (2 < k → HasManyArcs (lattice line g) limit → ⊥) → (3 < k → Improves kind (lattice line g) → ⊥)
      → (4 < k → HasGreatWeight kind (lattice line g) n → ⊥) → (5 < k → (label : ℕ) → IsNotText kind (lattice line g) n label → ⊥) → NoneBefore kind g n limit line k
  none_before k clear few arcs cycles great text BadByte low stands = stands (clear low)
  none_before k clear few arcs cycles great text (StateLimit most) low stands = few low stands.1
  none_before k clear few arcs cycles great text TooManyArcs low stands = arcs low stands
  none_before k clear few arcs cycles great text ImprovingCycle low stands = cycles low stands
  none_before k clear few arcs cycles great text Overflow low stands = great low stands
  none_before k clear few arcs cycles great text (NotText label) low stands = text low label stands

  -- a line with a byte 0
  pub bad_answer : (HasNoZero line → ⊥) → IsAnswer kind g n limit line value (Refused BadByte)
  bad_answer bad = ((λ fault low. absurd (omega (arith, low))), bad)

  module _ (clear : HasNoZero line) where
    -- more names than the limit
    pub limit_answer : ReachesMore (lattice line g) limit → IsAnswer kind g n limit line value (Refused (StateLimit limit))
    limit_answer more = (
      none_before 1 (λ low. clear) (λ low. absurd (omega (arith, low))) (λ low. absurd (omega (arith, low))) (λ low. absurd (omega (arith, low))) (λ low. absurd (omega (arith, low))) (λ low. absurd (omega (arith, low))),
      (refl, more),
    )

    -- no start
    pub empty_answer : (lattice line g).start ≡ None → IsAnswer kind g n limit line value (Listed [])
    empty_answer none = (
      none_before all_faults (λ low. clear) (λ low more. not_there more.start more.starts) (λ low many. not_there many.reached.start many.reached.starts)
          (λ low improves. not_there improves.useful.0.first improves.useful.0.starts)
          (λ low great. by_has great.paths great.path (one_IsFirst kind (lattice line g) n great.paths [] great.first first) great.has)
          (λ low label bad. by_label label bad.paths (one_IsFirst kind (lattice line g) n bad.paths [] bad.first first) bad.not_text),
      record { paths = []; first = first; told = refl },
    )
      where
        first : IsFirst kind (lattice line g) n []
        first = none_first kind (lattice line g) n none

        not_there : (p : Point N) → (lattice line g).start ≡ Some p → ⊥
        not_there p some = absurd (let wrong : ◌≡◌ {A = Option (Point N)} None (Some p) = sym none ∙ some in cc)

        by_has : (paths : List (WeightedPath (Point N))) (path : WeightedPath (Point N)) → paths ≡ [] → Has paths path → ⊥
        by_has paths path same has = subst (λ (ps : List (WeightedPath (Point N))). Has ps path) same has

        by_label : (label : ℕ) (paths : List (WeightedPath (Point N))) → paths ≡ [] → first_not_text (labels_of paths) ≡ Some label → ⊥
        by_label label paths same is = absurd (let wrong : ◌≡◌ {A = Option ℕ} None (Some label) = sym (ap (λ (ps : List (WeightedPath (Point N))). first_not_text (labels_of ps)) same) ∙ is in cc)

    module _ (names : List (Point N)) (reached : IsReached (lattice line g) limit names) where
      few_names : ReachesMore (lattice line g) limit → ⊥
      few_names = few_reached (lattice line g) limit names reached

      -- too many arcs
      pub many_answer : most_arcs < arcs_of (lattice line g) names → IsAnswer kind g n limit line value (Refused TooManyArcs)
      many_answer many = (
        none_before 2 (λ low. clear) (λ low. few_names) (λ low. absurd (omega (arith, low))) (λ low. absurd (omega (arith, low))) (λ low. absurd (omega (arith, low))) (λ low. absurd (omega (arith, low))),
        record { names = names; reached = reached; many = many },
      )

      module _ (few : arcs_of (lattice line g) names ≤ most_arcs) where
        few_arcs : HasManyArcs (lattice line g) limit → ⊥
        few_arcs = few_counted (lattice line g) limit names reached few

        -- an improving cycle
        pub cycle_answer : Improves kind (lattice line g) → IsAnswer kind g n limit line value (Refused ImprovingCycle)
        cycle_answer improves = (
          none_before 3 (λ low. clear) (λ low. few_names) (λ low. few_arcs) (λ low. absurd (omega (arith, low))) (λ low. absurd (omega (arith, low))) (λ low. absurd (omega (arith, low))),
          improves,
        )

        module _ (none : Improves kind (lattice line g) → ⊥) (paths : List (WeightedPath (Point N))) (first : IsFirst kind (lattice line g) n paths) where
          -- a weight out of range
          pub great_answer : (a : WeightedPath (Point N)) → Has paths a → (InRange a.weight → ⊥) → IsAnswer kind g n limit line value (Refused Overflow)
          great_answer a has great = (
            none_before 4 (λ low. clear) (λ low. few_names) (λ low. few_arcs) (λ low. none) (λ low. absurd (omega (arith, low))) (λ low. absurd (omega (arith, low))),
            record { paths = paths; first = first; path = a; has = has; great = great },
          )

          module _ (range : (a : WeightedPath (Point N)) → Has paths a → InRange a.weight) where
            none_great : HasGreatWeight kind (lattice line g) n → ⊥
            none_great h =
                let same = one_IsFirst kind (lattice line g) n h.paths paths h.first first in
                h.great (range h.path (subst (λ (ps : List (WeightedPath (Point N))). Has ps h.path) same h.has))

            -- a label that is no text
            pub text_answer : (label : ℕ) → first_not_text (labels_of paths) ≡ Some label → IsAnswer kind g n limit line value (Refused (NotText label))
            text_answer label is = (
              none_before 5 (λ low. clear) (λ low. few_names) (λ low. few_arcs) (λ low. none) (λ low. none_great) (λ low. absurd (omega (arith, low))),
              record { paths = paths; first = first; not_text = is },
            )

            -- none of these
            pub listed_answer : (told : List (Told V)) → first_not_text (labels_of paths) ≡ None → map (valued_told value) told ≡ map told_of paths → IsAnswer kind g n limit line value (Listed told)
            listed_answer told is same = (
              none_before all_faults (λ low. clear) (λ low. few_names) (λ low. few_arcs) (λ low. none) (λ low. none_great) (λ low. not_text),
              record { paths = paths; first = first; told = same },
            )
              where
                not_text : (label : ℕ) → IsNotText kind (lattice line g) n label → ⊥
                not_text label h =
                    let paths_are = one_IsFirst kind (lattice line g) n h.paths paths h.first first in
                    absurd (let wrong : ◌≡◌ {A = Option ℕ} None (Some label) = sym is ∙ (ap (λ (ps : List (WeightedPath (Point N))). first_not_text (labels_of ps)) (sym paths_are) ∙ h.not_text) in cc)
