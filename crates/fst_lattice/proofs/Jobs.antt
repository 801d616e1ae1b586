-- A job begins, takes names, and stops.
use Rattle.std.proofs.Common.{◌≡◌, ◌⊎◌, inl, inr, ⊎_elim, ℕ, ◌+◌, ◌<◌, ◌≤◌, List, [], ◌∷◌, ◌++◌, Option, Some, None, length, map, take, get_or, slice_get, refl, sym, ap, ◌∙◌, subst, arith}
use Rattle.std.specs.Prelude.{MatchOption}
use Rattle.std.specs.List.{All}
use Rattle.std.specs.Option.{option_map}
use Rattle.std.proofs.lemmas.List.{map-append, take-append-le, take_more}
use Rattle.std.proofs.lemmas.Option.{get_or_from_slice_get, slice_get-get_or, slice_get_within}
use Rattle.fst_semiring.specs.Cost.{Cost}
use Rattle.fst_semiring.specs.declared.arc_type.ArcType.{ArcType}
use Rattle.fst_machine.specs.BreadthFirst.{Grows, Has}
use Rattle.fst_machine.specs.Graph.{Graph, nexts}
use Rattle.fst_machine.specs.Machine.{Arc, IsMachine, Machine}
use Rattle.fst_machine.specs.Paths.{Leaves, Transition}
use Rattle.fst_machine.proofs.Arcs.{mapped_at}
use Rattle.fst_machine.proofs.Elements.{Has-append_cases, Has_at, at_Has}
use Rattle.fst_machine.proofs.Walking.{walking_begins, walking_goes_on}
use Rattle.fst_machine.proofs.Walks.{Grows-front, Grows-only}
use Rattle.fst_walk.specs.Making.{Passes}
use Rattle.fst_delayed.specs.Graphs.{IsKeyOf, delayed_graph}
use Rattle.fst_delayed.specs.Handed.{Keeps, Name}
use Rattle.fst_delayed.proofs.Inside.{delayed_keeps}
use Rattle.fst_lattice.specs.declared.stage.Stage.{Stage}
use Rattle.fst_lattice.specs.declared.stage.Stage.TheVariants.{Bad, Going, Stopped}
use Rattle.fst_lattice.specs.Lattice.{HasNoZero, Point, lattice, point}
use Rattle.fst_lattice.specs.LinePaths.{moves_at}
use Rattle.fst_lattice.specs.Walks.{AreAmong, IsAt, IsHead, IsJob, IsWalkOf}
use Rattle.fst_lattice.proofs.Steps.{IsStep, arc_is_step, reads_byte, stays}

All-Has : {X : Type 0} (P : X → Type 0) (xs : List X) → ((x : X) → Has xs x → P x) → All P xs
All-Has P xs each k d low = each (get_or xs k d) (at_Has xs k (get_or xs k d) (slice_get-get_or xs k d low))

pub Has-All : {X : Type 0} (P : X → Type 0) (xs : List X) (x : X) → All P xs → Has xs x → P x
Has-All P xs x all h = let at = Has_at xs x h in subst P (get_or_from_slice_get xs at.0 x x at.1) (all at.0 x at.2)

-- what arcs of the graph keep, arcs of the lattice keep of the names in it
pub lattice_keeps : (line : List ℕ) (G : Graph (Name ℕ ℕ)) (P : Name ℕ ℕ → Type 0) → Keeps P G → Keeps (λ (p : Point (Name ℕ ℕ)). P p.name) (lattice line G)
lattice_keeps line G P keeps at k a own here = by (arc_is_step line G at k a here)
  where
    by : (u : Transition (Name ℕ ℕ)) × (slice_get (moves_at line G at) k ≡ Some u) × Leaves G at.name u × IsStep line G at u a → P a.next.name
    by (u, place, leaves, reads_byte byte is) = subst P (ap (λ (b : Arc Cost (Point (Name ℕ ℕ))). b.next.name) (sym is)) (keeps at.name u.place u.arc own leaves.1)
    by (u, place, leaves, stays silent is) = subst P (ap (λ (b : Arc Cost (Point (Name ℕ ℕ))). b.next.name) (sym is)) (keeps at.name u.place u.arc own leaves.1)

module _ (line : List ℕ) (G : Graph (Name ℕ ℕ)) (limit : ℕ) (points : List (Point (Name ℕ ℕ))) (taken : ℕ) (at : Point (Name ℕ ℕ)) (there : slice_get points taken ≡ Some at) where
  -- a name is left to take, so the lattice has a start
  pub walk_at : IsAt line G limit points taken Going → IsWalkOf (lattice line G) limit points taken
  walk_at h = by ((lattice line G).start) h.1
    where
      by : (o : Option (Point (Name ℕ ℕ))) → MatchOption o ((points ≡ []) × (taken ≡ 0)) (λ start. IsWalkOf (lattice line G) limit points taken) → IsWalkOf (lattice line G) limit points taken
      by None none = absurd (let wrong : slice_get [] taken ≡ Some at = ap (λ ns. slice_get ns taken) (sym none.0) ∙ there in cc)
      by (Some start) walk = walk

  goes : IsWalkOf (lattice line G) limit points taken → (new : List (Point (Name ℕ ℕ))) → Grows points (nexts ((lattice line G).arcs at)) new → length new ≤ limit → IsWalkOf (lattice line G) limit new (taken + 1)
  goes h new grown few = record { start = h.start; starts = h.starts; walking = walking_goes_on (lattice line G) h.start points new taken at h.walking there grown; few = few }

  pub goes_on : IsAt line G limit points taken Going → (new : List (Point (Name ℕ ℕ))) → Grows points (nexts ((lattice line G).arcs at)) new → length new ≤ limit → IsAt line G limit new (taken + 1) Going
  goes_on h new grown few =
      let w = walk_at h in
      (h.0, subst (λ o. MatchOption o ((new ≡ []) × (taken + 1 ≡ 0)) (λ start. IsWalkOf (lattice line G) limit new (taken + 1))) (sym w.starts) (goes w new grown few))

  pub stops : IsAt line G limit points taken Going → (new more : List (Point (Name ℕ ℕ))) → new ≡ points ++ more → Passes limit points (nexts ((lattice line G).arcs at)) → IsAt line G limit new (taken + 1) Stopped
  stops h new more front passes =
      let w = walk_at h in
      (h.0, record { start = w.start; starts = w.starts; before = points; last = taken; name = at; walking = w.walking; few = w.few; there = there; passes = passes; more = more; front = front; count = refl })

  -- the names that were taken, and this one
  pub taken_more : (new more : List (Point (Name ℕ ℕ))) → new ≡ points ++ more → take (taken + 1) new ≡ take taken points ++ at ∷ []
  taken_more new more front =
      let below : taken < length points = slice_get_within points taken at there in
      let low : taken + 1 ≤ length points = omega (arith, below) in
      ap (take (taken + 1)) front ∙ (take-append-le (taken + 1) points more low ∙ (take_more points taken at below ∙ ap (λ z. take taken points ++ z ∷ []) (get_or_from_slice_get points taken at at there)))

  pub held_more : (known : List (Name ℕ ℕ)) (new more : List (Point (Name ℕ ℕ))) → new ≡ points ++ more → Has known at.name → AreAmong (map (λ (p : Point (Name ℕ ℕ)). p.name) (take taken points)) known
      → AreAmong (map (λ (p : Point (Name ℕ ℕ)). p.name) (take (taken + 1) new)) known
  held_more known new more front has among n h =
      ⊎_elim (λ (old : Has (map (λ (p : Point (Name ℕ ℕ)). p.name) (take taken points)) n). among n old) (λ (last : Has (at.name ∷ []) n). by last)
      (Has-append_cases (map (λ (p : Point (Name ℕ ℕ)). p.name) (take taken points)) (at.name ∷ []) n
      (subst (λ ns. Has ns n) (ap (map (λ (p : Point (Name ℕ ℕ)). p.name)) (taken_more new more front) ∙ map-append (λ (p : Point (Name ℕ ℕ)). p.name) (take taken points) (at ∷ [])) h))
    where
      by : Has (at.name ∷ []) n → Has known n
      by (inl e) = subst (Has known) e has
      by (inr none) = absurd none

  -- what arcs keep holds of the names that are found
  pub keys_more : (P : Name ℕ ℕ → Type 0) → Keeps P G → (new : List (Point (Name ℕ ℕ))) → Grows points (nexts ((lattice line G).arcs at)) new → All (λ p. P p.name) points → All (λ p. P p.name) new
  keys_more P keeps new grown all = All-Has (λ (p : Point (Name ℕ ℕ)). P p.name) new each
    where
      own : P at.name
      own = Has-All (λ (p : Point (Name ℕ ℕ)). P p.name) points at all (at_Has points taken at there)

      each : (z : Point (Name ℕ ℕ)) → Has new z → P z.name
      each z h = by (Grows-only (nexts ((lattice line G).arcs at)) points new z grown h)
        where
          by : Has points z ⊎ Has (nexts ((lattice line G).arcs at)) z → P z.name
          by (inl old) = Has-All (λ (p : Point (Name ℕ ℕ)). P p.name) points z all old
          by (inr found) =
              let place = Has_at (nexts ((lattice line G).arcs at)) z found in
              let arc = mapped_at (λ (a : Arc Cost (Point (Name ℕ ℕ))). a.next) ((lattice line G).arcs at) place.0 z place.1 in
              subst (λ (p : Point (Name ℕ ℕ)). P p.name) arc.2 (lattice_keeps line G P keeps at place.0 arc.0 own arc.1)

-- a job takes the name at its head
module _ {V : Type 0} (kind : ArcType) (value : V → Cost) (d : Machine V × Machine V) (left : IsMachine value d.0) (right : IsMachine value d.1) (line : List ℕ) (known : List (Name ℕ ℕ))
    (index limit taken : ℕ) (points : List (Point (Name ℕ ℕ))) (stage : Stage) (at : Point (Name ℕ ℕ))
    (h : IsJob kind value d line known (record { index = index; limit = limit; stage = stage; points = points; taken = taken }))
    (head : IsHead (record { index = index; limit = limit; stage = stage; points = points; taken = taken }) at) (has : Has known at.name) where
  walking : IsAt line (delayed_graph kind value d) limit points taken Going
  walking = subst (IsAt line (delayed_graph kind value d) limit points taken) head.going h.walk

  -- with all names to which its arcs lead
  pub job_goes : (new : List (Point (Name ℕ ℕ))) → Grows points (nexts ((lattice line (delayed_graph kind value d)).arcs at)) new → length new ≤ limit
      → IsJob kind value d line known (record { index = index; limit = limit; stage = stage; points = new; taken = taken + 1 })
  job_goes new grown few =
      let front = Grows-front (nexts ((lattice line (delayed_graph kind value d)).arcs at)) points new grown in
      record {
        walk = subst (IsAt line (delayed_graph kind value d) limit new (taken + 1)) (sym head.going) (goes_on line (delayed_graph kind value d) limit points taken at head.there walking new grown few);
        keys = λ going. keys_more line (delayed_graph kind value d) limit points taken at head.there (IsKeyOf d) (delayed_keeps kind value d left right) new grown (h.keys going);
        held = held_more line (delayed_graph kind value d) limit points taken at head.there known new front.0 front.1 has h.held;
      }

  -- with more names than the limit
  pub job_stops : (new more : List (Point (Name ℕ ℕ))) → new ≡ points ++ more → Passes limit points (nexts ((lattice line (delayed_graph kind value d)).arcs at))
      → IsJob kind value d line known (record { index = index; limit = limit; stage = Stopped; points = new; taken = taken + 1 })
  job_stops new more front passes = record {
    walk = stops line (delayed_graph kind value d) limit points taken at head.there walking new more front passes;
    keys = λ going. absurd (let wrong : Stopped ≡ Going = going in cc);
    held = held_more line (delayed_graph kind value d) limit points taken at head.there known new more front has h.held;
  }

-- a job begins
module _ {V : Type 0} (kind : ArcType) (value : V → Cost) (d : Machine V × Machine V) (line : List ℕ) (index limit : ℕ) where
  nothing_held : AreAmong {N = Name ℕ ℕ} [] []
  nothing_held n h = h

  pub job_bad : (HasNoZero line → ⊥) → IsJob kind value d line [] (record { index = index; limit = limit; stage = Bad; points = []; taken = 0 })
  job_bad zero' = record { walk = (zero', refl, refl); keys = λ going. absurd (let wrong : Bad ≡ Going = going in cc); held = nothing_held }

  no_start : (o : Option (Name ℕ ℕ)) → None ≡ o → (points : List (Point (Name ℕ ℕ))) (taken : ℕ) → points ≡ [] → taken ≡ 0 → (W : Type 0) → MatchOption (option_map (point 0) o) ((points ≡ []) × (taken ≡ 0)) (λ s. W)
  no_start None e points taken a b W = (a, b)
  no_start (Some s) e points taken a b W = absurd (cc)

  pub job_empty : HasNoZero line → None ≡ (delayed_graph kind value d).start → IsJob kind value d line [] (record { index = index; limit = limit; stage = Going; points = []; taken = 0 })
  job_empty none start = record {
    walk = (none, no_start (delayed_graph kind value d).start start [] 0 refl refl (IsWalkOf (lattice line (delayed_graph kind value d)) limit [] 0));
    keys = λ going k p low. absurd (omega (arith, low));
    held = nothing_held;
  }

  has_start : {X : Type 0} {x : X} (o : Option X) → Some x ≡ o → (points : List (Point (Name ℕ ℕ))) (taken : ℕ) (W : Type 0) → W → MatchOption o ((points ≡ []) × (taken ≡ 0)) (λ s. W)
  has_start None e points taken W w = absurd (cc)
  has_start (Some s) e points taken W w = w

  pub job_begins : HasNoZero line → (start : Name ℕ ℕ) → Some start ≡ (delayed_graph kind value d).start → IsKeyOf d start → 0 < limit → (points : List (Point (Name ℕ ℕ))) → Grows [] (point 0 start ∷ []) points
      → IsJob kind value d line [] (record { index = index; limit = limit; stage = Going; points = points; taken = 0 })
  job_begins none start starts key some' points grown = record {
    walk = (none, has_start ((lattice line (delayed_graph kind value d)).start) at_start points 0 (IsWalkOf (lattice line (delayed_graph kind value d)) limit points 0) walk);
    keys = λ going. subst (All (λ (p : Point (Name ℕ ℕ)). IsKeyOf d p.name)) one (All-Has (λ (p : Point (Name ℕ ℕ)). IsKeyOf d p.name) (point 0 start ∷ []) first);
    held = nothing_held;
  }
    where
      one : point 0 start ∷ [] ≡ points
      one = from grown
        where
          from : Grows [] (point 0 start ∷ []) points → point 0 start ∷ [] ≡ points
          from (inl old) = absurd old.0
          from (inr new) = new.1

      at_start : Some (point 0 start) ≡ (lattice line (delayed_graph kind value d)).start
      at_start = ap (option_map (point 0)) starts

      first : (p : Point (Name ℕ ℕ)) → Has (point 0 start ∷ []) p → IsKeyOf d p.name
      first p (inl e) = subst (λ (q : Point (Name ℕ ℕ)). IsKeyOf d q.name) e key
      first p (inr none') = absurd none'

      walk : IsWalkOf (lattice line (delayed_graph kind value d)) limit points 0
      walk = record {
        start = point 0 start;
        starts = sym at_start;
        walking = walking_begins (lattice line (delayed_graph kind value d)) (point 0 start) points grown;
        few = let l : length points ≡ 1 = ap length (sym one) in omega (arith, l, some');
      }
