-- The arcs of a lattice, and the lattice of a line whose walk is over.
use Rattle.std.proofs.Common.{◌≡◌, ℕ, zero, suc, ◌+◌, ◌<◌, ◌≤◌, Bool, true, false, cond, nat_eq, List, [], ◌∷◌, ◌++◌, Option, None, Some, length, map, take, get_or, slice_get, refl, sym, ap, ◌∙◌, subst, eq-eqb, eqb-true, arith}
use Rattle.std.specs.Prelude.{MatchOption}
use Rattle.std.specs.List.{All, AllZip}
use Rattle.std.proofs.lemmas.List.{map-append, take_all}
use Rattle.std.proofs.lemmas.Option.{slice_get-get_or, slice_get_within}
use Rattle.fst_semiring.specs.Cost.{Cost, infinite}
use Rattle.fst_semiring.specs.Semiring.{Within}
use Rattle.fst_semiring.specs.declared.arc_type.ArcType.{ArcType}
use Rattle.fst_machine.specs.BreadthFirst.{Has, IsBreadthFirst}
use Rattle.fst_machine.specs.Graph.{Graph, nexts}
use Rattle.fst_machine.specs.Machine.{Arc, IsArc, Machine, greatest_label, most_states, valued_arc}
use Rattle.fst_machine.specs.Paths.{Leaves, Transition}
use Rattle.fst_machine.proofs.Arcs.{at_mapped, mapped_at}
use Rattle.fst_machine.proofs.BreadthFirst.{breadth_first_of_walked}
use Rattle.fst_machine.proofs.Elements.{Has-append_left, Has-append_right, Has_at, at_Has}
use Rattle.fst_machine.proofs.Walking.{walking_ends}
use Rattle.fst_machine.proofs.Walks.{Grows-front}
use Rattle.fst_walk.specs.Answers.{ReachesMore}
use Rattle.fst_walk.specs.Making.{IsNumberedArc, IsReached}
use Rattle.fst_walk.specs.Names.{IsGoodArc, key_arc}
use Rattle.fst_walk.proofs.Putting.{items_more, zip_back}
use Rattle.fst_delayed.specs.Ascending.{those_reading}
use Rattle.fst_delayed.specs.Graphs.{HasSmallArcs, IsKeyOf, IsSmallArc, delayed_graph}
use Rattle.fst_delayed.specs.Handed.{Name}
use Rattle.fst_delayed.proofs.Keys.{Has-map}
use Rattle.fst_lattice.specs.Lattice.{HasNoZero, Point, arc_to, byte_arcs, lattice, point, point_arcs, reading}
use Rattle.fst_lattice.specs.LinePaths.{moves_at}
use Rattle.fst_lattice.specs.Walks.{AreAmong, IsAt, IsJob, IsOver, IsWalkOf, LineWalk, label_arcs}
use Rattle.fst_lattice.specs.declared.stage.Stage.{Stage}
use Rattle.fst_lattice.specs.declared.stage.Stage.TheVariants.{Bad, Going, Stopped}
use Rattle.fst_lattice.proofs.Filtering.{Has-filter, filter_Has, filter_map-of}
use Rattle.fst_lattice.proofs.Finding.{label_append, nexts-append}
use Rattle.fst_lattice.proofs.Jobs.{Has-All}
use Rattle.fst_lattice.proofs.Steps.{IsStep, arc_is_step, reads_byte, stays}
use Rattle.fst_batch.specs.Building.{AreFound, IsWhole}
use Rattle.fst_batch.specs.Filling.{Continues}
use Rattle.fst_batch.proofs.Continuing.{continues_none, continues_one, continues_then}
use Rattle.fst_batch.proofs.Reaching.{passes_reach}

-- ---- the arcs that read a label

module _ {N : Type 0} (label i : ℕ) (a : Arc Cost N) where
  -- an arc that reads the label is one of them, and no other
  pub label_one : a.ilabel ≡ label → label_arcs label i (a ∷ []) ≡ arc_to i a ∷ []
  label_one e = ap (λ (b : Bool). map (arc_to i) (cond b (a ∷ []) [])) (eq-eqb a.ilabel label e)

  pub label_other : (a.ilabel ≡ label → ⊥) → label_arcs label i (a ∷ []) ≡ []
  label_other other = by (nat_eq a.ilabel label) refl
    where
      by : (b : Bool) → nat_eq a.ilabel label ≡ b → map (arc_to i) (cond b (a ∷ []) []) ≡ []
      by true is = absurd (other (eqb-true a.ilabel label is))
      by false is = refl

  pub label_next : (arcs : List (Arc Cost N)) → Has arcs a → a.ilabel ≡ label → Has (nexts (label_arcs label i arcs)) (point i a.next)
  label_next arcs h e =
      Has-map (λ (b : Arc Cost (Point N)). b.next) (label_arcs label i arcs) (arc_to i a)
      (Has-map (arc_to i) (reading label arcs) a (Has-filter (λ (b : Arc Cost N). nat_eq b.ilabel label) arcs a h (eq-eqb a.ilabel label e)))

-- where the arcs of a name lead to names of a list, those that read a label do
module _ {N : Type 0} (names : List (Point N)) (line : List ℕ) (position : ℕ) (arcs : List (Arc Cost N)) (found : (n : Point N) → Has (nexts (point_arcs line position arcs)) n → Has names n) where
  parts : nexts (point_arcs line position arcs) ≡ nexts (byte_arcs (slice_get line position) position arcs) ++ nexts (label_arcs 0 position arcs)
  parts = nexts-append (byte_arcs (slice_get line position) position arcs) (label_arcs 0 position arcs)

  pub found_silent : AreFound names 0 position arcs
  found_silent a h e =
      let n = point position a.next in
      found n (subst (λ ns. Has ns n) (sym parts) (Has-append_right (nexts (byte_arcs (slice_get line position) position arcs)) (nexts (label_arcs 0 position arcs)) n (label_next 0 position a arcs h e)))

  pub found_byte : (b : ℕ) → slice_get line position ≡ Some b → AreFound names b (position + 1) arcs
  found_byte b at a h e =
      let n = point (position + 1) a.next in
      let here : Has (nexts (byte_arcs (slice_get line position) position arcs)) n = subst (λ (o : Option ℕ). Has (nexts (byte_arcs o position arcs)) n) (sym at) (label_next b (position + 1) a arcs h e) in
      found n (subst (λ ns. Has ns n) (sym parts) (Has-append_left (nexts (byte_arcs (slice_get line position) position arcs)) (nexts (label_arcs 0 position arcs)) n here))

-- and those that a run of them has
pub run_found : {V N : Type 0} (names : List (Point N)) (label position : ℕ) (value : V → Cost) (run arcs : List (Arc V N)) → run ≡ those_reading label arcs → AreFound names label position (map (key_arc value) arcs)
    → AreFound names label position (map (key_arc value) run)
run_found {V} {N} names label position value run arcs is found a h e =
    let reads : Arc Cost N → Bool = λ b. nat_eq b.ilabel label in
    let there : Has (map (key_arc value) (those_reading label arcs)) a = subst (λ (xs : List (Arc V N)). Has (map (key_arc value) xs) a) is h in
    found a (filter_Has reads (map (key_arc value) arcs) a (subst (λ (ys : List (Arc Cost N)). Has ys a) (sym (filter_map-of (key_arc value) reads arcs)) there)).0 e

-- the arcs of a name of a finished list lead to its names
pub listed_found : {N : Type 0} (g : Graph N) (start : N) (names : List N) (i : ℕ) (p n : N) → IsBreadthFirst g start names → slice_get names i ≡ Some p → Has (nexts (g.arcs p)) n → Has names n
listed_found {N} g start names i p n listed at h =
    let place = Has_at (nexts (g.arcs p)) n h in
    let arc = mapped_at (λ (a : Arc Cost N). a.next) (g.arcs p) place.0 n place.1 in
    listed.closed i place.0 n (record { name = p; arc = arc.0; there = at; has = arc.1; leads = arc.2 })

-- ---- how large the numbers are

module _ {V : Type 0} (kind : ArcType) (value : V → Cost) (d : Machine V × Machine V) (line : List ℕ) where
  -- the arcs of a name of the lattice are as small as those of its name in the composition
  pub lattice_small : HasSmallArcs kind value d → (p : Point (Name ℕ ℕ)) → IsKeyOf d p.name → (k : ℕ) (a : Arc Cost (Point (Name ℕ ℕ))) → slice_get ((lattice line (delayed_graph kind value d)).arcs p) k ≡ Some a
      → IsGoodArc a × Within 2000000000000000000 a.weight
  lattice_small small p key k a at = by (arc_is_step line (delayed_graph kind value d) p k a at)
    where
      one : (u : Transition (Name ℕ ℕ)) → Leaves (delayed_graph kind value d) p.name u → IsSmallArc u.arc
      one u leaves = Has-All IsSmallArc ((delayed_graph kind value d).arcs p.name) u.arc (small p.name key) (at_Has ((delayed_graph kind value d).arcs p.name) u.place u.arc leaves.1)

      kept : (i : ℕ) (u : Transition (Name ℕ ℕ)) → IsSmallArc u.arc → a ≡ arc_to i u.arc → IsGoodArc a × Within 2000000000000000000 a.weight
      kept i u s is = subst (λ (b : Arc Cost (Point (Name ℕ ℕ))). IsGoodArc b × Within 2000000000000000000 b.weight) (sym is) (record { ilabel = s.good.ilabel; olabel = s.good.olabel; weight = s.good.weight }, s.small)

      by : (u : Transition (Name ℕ ℕ)) × (slice_get (moves_at line (delayed_graph kind value d) p) k ≡ Some u) × Leaves (delayed_graph kind value d) p.name u × IsStep line (delayed_graph kind value d) p u a → IsGoodArc a × Within 2000000000000000000 a.weight
      by (u, place, leaves, reads_byte byte is) = kept (p.position + 1) u (one u leaves) is
      by (u, place, leaves, stays silent is) = kept p.position u (one u leaves) is

-- the final weight of a name of the lattice
pub last_here : {N : Type 0} (line : List ℕ) (g : Graph N) (i : ℕ) (n : N) (w : Cost) → i ≡ length line → w ≡ g.final n → w ≡ (lattice line g).final (point i n)
last_here line g i n w e is = is ∙ ap (λ (b : Bool). cond b (g.final n) infinite) (sym (eq-eqb i (length line) e))

pub last_far : {N : Type 0} (line : List ℕ) (g : Graph N) (i : ℕ) (n : N) (w : Cost) → (i ≡ length line → ⊥) → w ≡ infinite → w ≡ (lattice line g).final (point i n)
last_far line g i n w far is = by (nat_eq i (length line)) refl
  where
    by : (b : Bool) → nat_eq i (length line) ≡ b → w ≡ cond b (g.final n) infinite
    by true e = absurd (far (eqb-true i (length line) e))
    by false e = is

-- ---- a job that is over

module _ {V : Type 0} (kind : ArcType) (value : V → Cost) (d : Machine V × Machine V) (line : List ℕ) (known : List (Name ℕ ℕ)) (w : LineWalk) (h : IsJob kind value d line known w) where
  abbrev G : Graph (Name ℕ ℕ)
  G = delayed_graph kind value d

  at_stage : (stage : Stage) → w.stage ≡ stage → IsAt line G w.limit w.points w.taken stage
  at_stage stage is = subst (IsAt line G w.limit w.points w.taken) is h.walk

  -- the line holds no byte 0, or holds one
  pub going_clear : w.stage ≡ Going → HasNoZero line
  going_clear is = (at_stage Going is).0

  pub bad_line : w.stage ≡ Bad → HasNoZero line → ⊥
  bad_line is = (at_stage Bad is).0

  -- the lattice has more names than the limit
  pub stopped_more : w.stage ≡ Stopped → HasNoZero line × ReachesMore (lattice line G) w.limit
  stopped_more is =
      let stop = (at_stage Stopped is).1 in
      ((at_stage Stopped is).0, passes_reach (lattice line G) stop.start stop.before stop.last stop.walking w.limit stop.name stop.starts stop.there stop.passes)

  module _ (going : w.stage ≡ Going) (over : IsOver w) where
    -- a walk that has found nothing has no start
    pub going_empty : length w.points ≡ 0 → (lattice line G).start ≡ None
    going_empty none = by (lattice line G).start refl (at_stage Going going).1
      where
        by : (o : Option (Point (Name ℕ ℕ))) → (lattice line G).start ≡ o → MatchOption o ((w.points ≡ []) × (w.taken ≡ 0)) (λ start. IsWalkOf (lattice line G) w.limit w.points w.taken) → (lattice line G).start ≡ None
        by None is nothing = is
        by (Some start) is walk =
            let front = Grows-front _ (walk.start ∷ []) w.points walk.walking.grown in
            let long : length w.points ≡ length ((walk.start ∷ []) ++ front.0) = ap length front.1 in
            absurd (omega (arith, none, long))

    module _ (some : length w.points ≡ 0 → ⊥) where
      -- the walk of one that has found something
      going_walk : IsWalkOf (lattice line G) w.limit w.points w.taken
      going_walk = by (lattice line G).start (at_stage Going going).1
        where
          by : (o : Option (Point (Name ℕ ℕ))) → MatchOption o ((w.points ≡ []) × (w.taken ≡ 0)) (λ start. IsWalkOf (lattice line G) w.limit w.points w.taken) → IsWalkOf (lattice line G) w.limit w.points w.taken
          by None nothing = absurd (some (ap length nothing.0))
          by (Some start) walk = walk

      -- its names are those of the lattice
      pub going_reached : IsReached (lattice line G) w.limit w.points
      going_reached = record {
        start = going_walk.start;
        starts = going_walk.starts;
        listed = breadth_first_of_walked (lattice line G) going_walk.start w.points (walking_ends (lattice line G) going_walk.start w.points w.taken going_walk.walking (over going));
        few = going_walk.few;
      }

      pub going_whole : w.limit ≤ most_states → IsWhole kind value d line known w.points
      going_whole small =
          let all : take w.taken w.points ≡ w.points = take_all w.taken w.points (over going) in
          let few = going_walk.few in
          record {
            start = going_reached.start;
            starts = going_reached.starts;
            listed = going_reached.listed;
            few = omega (arith, few, small);
            keys = h.keys going;
            held = subst (λ (ps : List (Point (Name ℕ ℕ))). AreAmong (map (λ (p : Point (Name ℕ ℕ)). p.name) ps) known) all h.held;
          }

-- ---- the arcs that read a label, numbered

module _ {N : Type 0} (names : List (Point N)) (label i : ℕ) where
  -- an arc that reads another label is left out
  pub numbered_other : (a : Arc Cost N) (old : List (Arc Cost ℕ)) → (a.ilabel ≡ label → ⊥) → Continues names (label_arcs label i (a ∷ [])) old old
  numbered_other a old other = subst (λ (xs : List (Arc Cost (Point N))). Continues names xs old old) (sym (label_other label i a other)) (continues_none names old)

  -- one that reads it is put
  pub numbered_one : {V : Type 0} (value : V → Cost) (a : Arc V N) (place : ℕ) (old new : List (Arc V ℕ)) → a.ilabel ≡ label → slice_get names place ≡ Some (point i a.next) → new ≡ old ++ record { ilabel = a.ilabel; olabel = a.olabel; weight = a.weight; next = place } ∷ []
      → Continues names (label_arcs label i (key_arc value a ∷ [])) (map (valued_arc value) old) (map (valued_arc value) new)
  numbered_one value a place old new own there put =
      let b : Arc Cost ℕ = record { ilabel = a.ilabel; olabel = a.olabel; weight = value a.weight; next = place } in
      let all : map (valued_arc value) new ≡ map (valued_arc value) old ++ b ∷ [] = ap (map (valued_arc value)) put ∙ map-append (valued_arc value) old (record { ilabel = a.ilabel; olabel = a.olabel; weight = a.weight; next = place } ∷ []) in
      subst (λ (xs : List (Arc Cost (Point N))). Continues names xs (map (valued_arc value) old) (map (valued_arc value) new)) (sym (label_one label i (key_arc value a) own))
      (subst (Continues names (arc_to i (key_arc value a) ∷ []) (map (valued_arc value) old)) (sym all)
      (continues_one names (arc_to i (key_arc value a)) b (map (valued_arc value) old) (record { ilabel = refl; olabel = refl; weight = refl; next = there })))

  -- and one after the other
  pub numbers_more : {X : Type 0} (f : X → Arc Cost N) (xs : List X) (k : ℕ) (x : X) (old mid new : List (Arc Cost ℕ)) → k < length xs → x ≡ get_or xs k x → Continues names (label_arcs label i (map f (take k xs))) old mid
      → Continues names (label_arcs label i (f x ∷ [])) mid new → Continues names (label_arcs label i (map f (take (k + 1) xs))) old new
  numbers_more f xs k x old mid new low is so_far one =
      let all : label_arcs label i (map f (take (k + 1) xs)) ≡ label_arcs label i (map f (take k xs)) ++ label_arcs label i (f x ∷ []) =
      ap (label_arcs label i) (items_more f xs k x low is) ∙ label_append label i (map f (take k xs)) (f x ∷ []) in
      subst (λ (ys : List (Arc Cost (Point N))). Continues names ys old new) (sym all) (continues_then names (label_arcs label i (map f (take k xs))) (label_arcs label i (f x ∷ [])) old mid new so_far one)

-- the arcs of a name that is numbered are arcs of a machine, and small
pub numbered_fine : {V N : Type 0} (value : V → Cost) (names : List N) (arcs : List (Arc Cost N)) (out : List (Arc V ℕ)) → AllZip (IsNumberedArc names) arcs (map (valued_arc value) out)
    → ((k : ℕ) (a : Arc Cost N) → slice_get arcs k ≡ Some a → IsGoodArc a × Within 2000000000000000000 a.weight) → (size : ℕ) → size ≡ length names
    → All (IsArc value size) out × ((a : Arc Cost ℕ) → Has (map (valued_arc value) out) a → Within 2000000000000000000 a.weight)
numbered_fine {V} value names arcs out zipped fine size same = (arc_good, arc_small)
  where
    arc_good : All (IsArc value size) out
    arc_good k d low =
        let c = get_or out k d in
        let old = zip_back (IsNumberedArc names) arcs (map (valued_arc value) out) k (valued_arc value c) zipped (at_mapped (valued_arc value) out k c (slice_get-get_or out k d low)) in
        let good = (fine k old.0 old.1).0 in
        let inside = slice_get_within names c.next old.0.next old.2.next in
        record {
          ilabel = subst (λ (n : ℕ). n ≤ greatest_label) (sym old.2.ilabel) good.ilabel;
          olabel = subst (λ (n : ℕ). n ≤ greatest_label) (sym old.2.olabel) good.olabel;
          weight = λ z. good.weight (sym old.2.weight ∙ z);
          next = omega (arith, inside, same);
        }

    arc_small : (a : Arc Cost ℕ) → Has (map (valued_arc value) out) a → Within 2000000000000000000 a.weight
    arc_small a h =
        let place = Has_at (map (valued_arc value) out) a h in
        let old = zip_back (IsNumberedArc names) arcs (map (valued_arc value) out) place.0 a zipped place.1 in
        subst (Within 2000000000000000000) (sym old.2.weight) (fine place.0 old.0 old.1).1

-- behind the end of a line there is no byte
pub past_end : (line : List ℕ) (i : ℕ) → length line ≤ i → slice_get line i ≡ None
past_end [] i past = refl
past_end (b ∷ line) zero past = absurd (omega (arith, past))
past_end (b ∷ line) (suc i) past = past_end line i (omega (arith, past))
