-- The arcs at a name of a lattice are made of the transitions at its name in the graph.
use Rattle.std.proofs.Common.{◌≡◌, ◌≢◌, ◌⊎◌, inl, inr, ℕ, ◌+◌, nat_eq, List, ◌++◌, Option, None, Some, length, map, slice_get, refl, sym, ap, ap₂, ◌∙◌, eq-eqb, eqb-true, arith}
use Rattle.std.proofs.lemmas.List.{length-map}
use Rattle.fst_semiring.specs.Cost.{Cost}
use Rattle.fst_machine.specs.BreadthFirst.{Apart, Has}
use Rattle.fst_machine.specs.Graph.{Graph}
use Rattle.fst_machine.specs.Machine.{Arc}
use Rattle.fst_machine.specs.Paths.{Leaves, Transition}
use Rattle.fst_machine.proofs.Arcs.{append_at, at_append_left, at_append_right, at_mapped, mapped_at}
use Rattle.fst_machine.proofs.Elements.{Has_at, at_Has}
use Rattle.fst_delayed.specs.Handed.{transitions}
use Rattle.fst_delayed.proofs.Handed.{Apart-append, leaves_transitions, transitions-Apart, transitions_from-arcs, transitions_leave}
use Rattle.fst_lattice.specs.Lattice.{Point, arc_to, byte_arcs, lattice, reading}
use Rattle.fst_lattice.specs.LinePaths.{byte_moves, moves_at, moving}
use Rattle.fst_lattice.proofs.Filtering.{Has-filter, filter_Apart, filter_Has, filter_map-of, map-map}

module _ {N : Type 0} where
  -- the arc of a lattice that a transition makes
  abbrev pub step_to : ℕ → Transition N → Arc Cost (Point N)
  step_to i t = arc_to i t.arc

  reading_moving : (label i : ℕ) (ts : List (Transition N)) → map (arc_to i) (reading label (map (λ (t : Transition N). t.arc) ts)) ≡ map (step_to i) (moving label ts)
  reading_moving label i ts = ap (map (arc_to i)) (filter_map-of (λ (t : Transition N). t.arc) (λ (a : Arc Cost N). nat_eq a.ilabel label) ts) ∙ map-map (arc_to i) (λ (t : Transition N). t.arc) (moving label ts)

  byte_moving : (byte : Option ℕ) (i : ℕ) (ts : List (Transition N)) → byte_arcs byte i (map (λ (t : Transition N). t.arc) ts) ≡ map (step_to (i + 1)) (byte_moves byte ts)
  byte_moving None i ts = refl
  byte_moving (Some b) i ts = reading_moving b (i + 1) ts

  module _ (line : List ℕ) (g : Graph N) (p : Point N) where
    -- the arcs there
    arcs_are : (lattice line g).arcs p ≡ map (step_to (p.position + 1)) (byte_moves (slice_get line p.position) (transitions g p.name)) ++ map (step_to p.position) (moving 0 (transitions g p.name))
    arcs_are =
        let own : map (λ (t : Transition N). t.arc) (transitions g p.name) ≡ g.arcs p.name = transitions_from-arcs p.name 0 (g.arcs p.name) in
        ap (λ arcs. byte_arcs (slice_get line p.position) p.position arcs ++ map (arc_to p.position) (reading 0 arcs)) (sym own)
        ∙ ap₂ (λ xs ys. xs ++ ys) (byte_moving (slice_get line p.position) p.position (transitions g p.name)) (reading_moving 0 p.position (transitions g p.name))

    -- a byte is read, or none is
    pub data IsStep (u : Transition N) (a : Arc Cost (Point N)) : Type 0 where
      reads_byte : slice_get line p.position ≡ Some u.arc.ilabel → a ≡ step_to (p.position + 1) u → IsStep u a
      stays : u.arc.ilabel ≡ 0 → a ≡ step_to p.position u → IsStep u a

    -- a move of a byte reads it
    byte_move : (byte : Option ℕ) (us : List (Transition N)) (u : Transition N) → Has (byte_moves byte us) u → Has us u × (byte ≡ Some u.arc.ilabel)
    byte_move None us u h = absurd h
    byte_move (Some b) us u h = let f = filter_Has (λ (t : Transition N). nat_eq t.arc.ilabel b) us u h in (f.0, ap Some (sym (eqb-true u.arc.ilabel b f.1)))

    move_byte : (byte : Option ℕ) (us : List (Transition N)) (u : Transition N) → Has us u → byte ≡ Some u.arc.ilabel → Has (byte_moves byte us) u
    move_byte None us u h e = absurd (cc)
    move_byte (Some b) us u h e = let same : b ≡ u.arc.ilabel = cc in Has-filter (λ (t : Transition N). nat_eq t.arc.ilabel b) us u h (eq-eqb u.arc.ilabel b (sym same))

    -- an arc there is made of the transition in its place
    pub arc_is_step : (k : ℕ) (a : Arc Cost (Point N)) → slice_get ((lattice line g).arcs p) k ≡ Some a → (u : Transition N) × (slice_get (moves_at line g p) k ≡ Some u) × Leaves g p.name u × IsStep u a
    arc_is_step k a at = by_part (append_at (map (step_to (p.position + 1)) (byte_moves (slice_get line p.position) (transitions g p.name))) (map (step_to p.position) (moving 0 (transitions g p.name))) k a (ap (λ arcs. slice_get arcs k) (sym arcs_are) ∙ at))
      where
        by_part : (slice_get (map (step_to (p.position + 1)) (byte_moves (slice_get line p.position) (transitions g p.name))) k ≡ Some a)
            ⊎ ((j : ℕ) × (slice_get (map (step_to p.position) (moving 0 (transitions g p.name))) j ≡ Some a) × (k ≡ length (map (step_to (p.position + 1)) (byte_moves (slice_get line p.position) (transitions g p.name))) + j))
            → (u : Transition N) × (slice_get (moves_at line g p) k ≡ Some u) × Leaves g p.name u × IsStep u a
        by_part (inl here) =
            let own = mapped_at (step_to (p.position + 1)) (byte_moves (slice_get line p.position) (transitions g p.name)) k a here in
            let move = byte_move (slice_get line p.position) (transitions g p.name) own.0 (at_Has (byte_moves (slice_get line p.position) (transitions g p.name)) k own.0 own.1) in (
              own.0,
              at_append_left (byte_moves (slice_get line p.position) (transitions g p.name)) (moving 0 (transitions g p.name)) k own.0 own.1,
              transitions_leave g p.name own.0 move.0,
              reads_byte move.1 (sym own.2),
            )
        by_part (inr (j, here, is)) =
            let own = mapped_at (step_to p.position) (moving 0 (transitions g p.name)) j a here in
            let move = filter_Has (λ (t : Transition N). nat_eq t.arc.ilabel 0) (transitions g p.name) own.0 (at_Has (moving 0 (transitions g p.name)) j own.0 own.1) in
            let place : length (byte_moves (slice_get line p.position) (transitions g p.name)) + j ≡ k = omega (arith, is, length-map (byte_moves (slice_get line p.position) (transitions g p.name)) (step_to (p.position + 1))) in (
              own.0,
              ap (slice_get (moves_at line g p)) (sym place) ∙ at_append_right (byte_moves (slice_get line p.position) (transitions g p.name)) (moving 0 (transitions g p.name)) j own.0 own.1,
              transitions_leave g p.name own.0 move.0,
              stays (eqb-true own.0.arc.ilabel 0 move.1) (sym own.2),
            )

    -- a transition that reads the byte makes an arc
    pub byte_step : (u : Transition N) → Leaves g p.name u → slice_get line p.position ≡ Some u.arc.ilabel
        → (k : ℕ) × (slice_get (moves_at line g p) k ≡ Some u) × (slice_get ((lattice line g).arcs p) k ≡ Some (step_to (p.position + 1) u))
    byte_step u leaves byte =
        let place = Has_at (byte_moves (slice_get line p.position) (transitions g p.name)) u (move_byte (slice_get line p.position) (transitions g p.name) u (leaves_transitions g p.name u leaves) byte) in (
          place.0,
          at_append_left (byte_moves (slice_get line p.position) (transitions g p.name)) (moving 0 (transitions g p.name)) place.0 u place.1,
          ap (λ arcs. slice_get arcs place.0) arcs_are
              ∙ at_append_left (map (step_to (p.position + 1)) (byte_moves (slice_get line p.position) (transitions g p.name))) (map (step_to p.position) (moving 0 (transitions g p.name))) place.0 (step_to (p.position + 1) u)
              (at_mapped (step_to (p.position + 1)) (byte_moves (slice_get line p.position) (transitions g p.name)) place.0 u place.1),
        )

    -- so does one that reads epsilon
    pub silent_step : (u : Transition N) → Leaves g p.name u → u.arc.ilabel ≡ 0
        → (k : ℕ) × (slice_get (moves_at line g p) k ≡ Some u) × (slice_get ((lattice line g).arcs p) k ≡ Some (step_to p.position u))
    silent_step u leaves silent =
        let place = Has_at (moving 0 (transitions g p.name)) u (Has-filter (λ (t : Transition N). nat_eq t.arc.ilabel 0) (transitions g p.name) u (leaves_transitions g p.name u leaves) (eq-eqb u.arc.ilabel 0 silent)) in
        let long = length-map (byte_moves (slice_get line p.position) (transitions g p.name)) (step_to (p.position + 1)) in
        let same : length (map (step_to (p.position + 1)) (byte_moves (slice_get line p.position) (transitions g p.name))) + place.0 ≡ length (byte_moves (slice_get line p.position) (transitions g p.name)) + place.0 = omega (arith, long) in (
          length (byte_moves (slice_get line p.position) (transitions g p.name)) + place.0,
          at_append_right (byte_moves (slice_get line p.position) (transitions g p.name)) (moving 0 (transitions g p.name)) place.0 u place.1,
          ap (λ arcs. slice_get arcs (length (byte_moves (slice_get line p.position) (transitions g p.name)) + place.0)) arcs_are
              ∙ (ap (slice_get (map (step_to (p.position + 1)) (byte_moves (slice_get line p.position) (transitions g p.name)) ++ map (step_to p.position) (moving 0 (transitions g p.name)))) (sym same)
              ∙ at_append_right (map (step_to (p.position + 1)) (byte_moves (slice_get line p.position) (transitions g p.name))) (map (step_to p.position) (moving 0 (transitions g p.name))) place.0 (step_to p.position u)
              (at_mapped (step_to p.position) (moving 0 (transitions g p.name)) place.0 u place.1)),
        )

    byte_moves-Apart : (byte : Option ℕ) (us : List (Transition N)) → Apart us → Apart (byte_moves byte us)
    byte_moves-Apart None us apart = tt
    byte_moves-Apart (Some b) us apart = filter_Apart (λ (t : Transition N). nat_eq t.arc.ilabel b) us apart

    -- no transition stands there twice, where the byte is not 0
    pub moves-Apart : ((b : ℕ) → slice_get line p.position ≡ Some b → b ≢ 0) → Apart (moves_at line g p)
    moves-Apart other =
        Apart-append (byte_moves (slice_get line p.position) (transitions g p.name)) (moving 0 (transitions g p.name)) (byte_moves-Apart (slice_get line p.position) (transitions g p.name) (transitions-Apart g p.name))
        (filter_Apart (λ (t : Transition N). nat_eq t.arc.ilabel 0) (transitions g p.name) (transitions-Apart g p.name))
        (λ u h h'. other u.arc.ilabel (byte_move (slice_get line p.position) (transitions g p.name) u h).1 (eqb-true u.arc.ilabel 0 (filter_Has (λ (t : Transition N). nat_eq t.arc.ilabel 0) (transitions g p.name) u h').1))
