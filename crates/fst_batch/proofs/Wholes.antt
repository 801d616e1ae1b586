-- A name of the lattice of a line whose walk is over.
use Rattle.std.proofs.Common.{◌≡◌, ℕ, ◌+◌, ◌<◌, List, Some, length, map, slice_get, sym, ap, ◌∙◌, subst, arith}
use Rattle.std.specs.List.{All, AllZip}
use Rattle.std.proofs.lemmas.List.{length-map}
use Rattle.std.proofs.lemmas.Option.{slice_get_within}
use Rattle.fst_semiring.specs.Cost.{Cost}
use Rattle.fst_semiring.specs.Semiring.{Within}
use Rattle.fst_semiring.specs.declared.arc_type.ArcType.{ArcType}
use Rattle.fst_machine.specs.BreadthFirst.{Has}
use Rattle.fst_machine.specs.Graph.{Graph, nexts}
use Rattle.fst_machine.specs.Machine.{Arc, IsArc, Machine, arc_total, changed, most_arcs, valued, valued_arc, valued_state}
use Rattle.fst_machine.proofs.Elements.{at_Has}
use Rattle.fst_machine.proofs.Valued.{arc_total-valued}
use Rattle.fst_walk.specs.Making.{IsNumberedArc, arcs_of}
use Rattle.fst_walk.specs.Names.{key_arc}
use Rattle.fst_delayed.specs.Caches.{Entries, IsTrueOf}
use Rattle.fst_delayed.specs.Graphs.{HasSmallArcs, IsKeyOf, delayed_graph}
use Rattle.fst_delayed.specs.Handed.{Name}
use Rattle.fst_delayed.proofs.Keys.{Has-map}
use Rattle.fst_lattice.specs.Lattice.{Point, lattice, point_arcs}
use Rattle.fst_lattice.proofs.Jobs.{Has-All}
use Rattle.fst_batch.specs.Building.{IsWhole}
use Rattle.fst_batch.specs.Filling.{AreSmall, IsFilling, filled}
use Rattle.fst_batch.proofs.Filled.{filled_small, filling_many, filling_more, valued_filled}
use Rattle.fst_batch.proofs.Lattices.{lattice_small, listed_found, numbered_fine}

module _ {W V : Type 0} (kind : ArcType) (value : W → Cost) (wide : V → Cost) (d : Machine W × Machine W) (line : List ℕ) (known : List (Name ℕ ℕ)) (points : List (Point (Name ℕ ℕ)))
    (h : IsWhole kind value d line known points) (i : ℕ) (p : Point (Name ℕ ℕ)) (at : slice_get points i ≡ Some p) where
  abbrev L : Graph (Point (Name ℕ ℕ))
  L = lattice line (delayed_graph kind value d)

  -- its name in the composition is a name of states, and known
  pub whole_key : IsKeyOf d p.name
  whole_key = Has-All (λ (q : Point (Name ℕ ℕ)). IsKeyOf d q.name) points p h.keys (at_Has points i p at)

  pub whole_held : Has known p.name
  whole_held = h.held p.name (Has-map (λ (q : Point (Name ℕ ℕ)). q.name) points p (at_Has points i p at))

  module _ (cache : Entries V (Name ℕ ℕ)) (entries : IsTrueOf wide (delayed_graph kind value d) cache) (arcs : List (Arc V (Name ℕ ℕ))) (has : Has cache (p.name, arcs)) where
    -- the cache has its arcs
    arcs_there : L.arcs p ≡ point_arcs line p.position (map (key_arc wide) arcs)
    arcs_there = ap (point_arcs line p.position) (sym (Has-All (λ (e : Name ℕ ℕ × List (Arc V (Name ℕ ℕ))). map (key_arc wide) e.1 ≡ (delayed_graph kind value d).arcs e.0) cache (p.name, arcs) entries has))

    -- which lead to names of the list
    pub whole_found : (n : Point (Name ℕ ℕ)) → Has (nexts (point_arcs line p.position (map (key_arc wide) arcs))) n → Has points n
    whole_found n there = listed_found L h.start points i p n h.listed at (subst (λ (xs : List (Arc Cost (Point (Name ℕ ℕ)))). Has (nexts xs) n) (sym arcs_there) there)

    module _ (out : List (Arc V ℕ)) (zipped : AllZip (IsNumberedArc points) (point_arcs line p.position (map (key_arc wide) arcs)) (map (valued_arc wide) out)) (m : Machine V) (filling : IsFilling L points i (valued wide m)) where
      numbered : AllZip (IsNumberedArc points) (L.arcs p) (map (valued_arc wide) out)
      numbered = subst (λ (xs : List (Arc Cost (Point (Name ℕ ℕ)))). AllZip (IsNumberedArc points) xs (map (valued_arc wide) out)) (sym arcs_there) zipped

      -- there is no room for them
      pub whole_many : most_arcs < arc_total m.states + length out → most_arcs < arcs_of L points
      whole_many over =
          let total = arc_total-valued wide m.states in
          let long = length-map out (valued_arc wide) in
          filling_many L points i p at (valued wide m) filling (map (valued_arc wide) out) numbered (omega (arith, over, total, long))

      size : length m.states ≡ length points
      size = let long = length-map m.states (valued_state wide) in let same = filling.size in omega (arith, long, same)

      fine : HasSmallArcs kind value d → All (IsArc wide (length m.states)) out × ((a : Arc Cost ℕ) → Has (map (valued_arc wide) out) a → Within 2000000000000000000 a.weight)
      fine small = numbered_fine wide points (L.arcs p) out numbered (lattice_small kind value d line small p whole_key) (length m.states) size

      -- they are arcs of the machine
      pub whole_arcs : HasSmallArcs kind value d → All (IsArc wide (length m.states)) out
      whole_arcs small = (fine small).0

      pub whole_state : i < length m.states
      whole_state = let low = slice_get_within points i p at in omega (arith, low, size)

      -- the state is filled
      pub whole_more : (last : V) (new : Machine V) → wide last ≡ L.final p → new ≡ record { start = m.start; states = changed (filled last out) m.states i } → IsFilling L points (i + 1) (valued wide new)
      whole_more last new final put =
          let made : ◌≡◌ {A = Machine Cost} (record { start = m.start; states = changed (filled (wide last) (map (valued_arc wide) out)) (map (valued_state wide) m.states) i }) (valued wide new) =
          (λ j. record { start = m.start; states = sym (valued_filled wide last out m.states i) j }) ∙ ap (valued wide) (sym put) in
          subst (IsFilling L points (i + 1)) made (filling_more L points i p at (valued wide m) filling (map (valued_arc wide) out) numbered (wide last) final)

      pub whole_small : HasSmallArcs kind value d → AreSmall (valued wide m) → (last : V) (new : Machine V) → Within 2000000000000000000 (wide last) → new ≡ record { start = m.start; states = changed (filled last out) m.states i } → AreSmall (valued wide new)
      whole_small small old last new range put =
          let made : ◌≡◌ {A = Machine Cost} (record { start = m.start; states = changed (filled (wide last) (map (valued_arc wide) out)) (map (valued_state wide) m.states) i }) (valued wide new) =
          (λ j. record { start = m.start; states = sym (valued_filled wide last out m.states i) j }) ∙ ap (valued wide) (sym put) in
          subst AreSmall made (filled_small (valued wide m) i (wide last) (map (valued_arc wide) out) old range (fine small).1)
