-- What a line needs is what its walk has taken when it is over.
use Rattle.std.proofs.Common.{◌≡◌, inl, inr, ℕ, ◌^◌, ◌<◌, ◌≤◌, List, [], ◌∷◌, Option, Some, None, length, map, take, slice_get, refl, sym, ap, ◌∙◌, subst, arith}
use Rattle.std.specs.Prelude.{IfSome, MatchOption}
use Rattle.std.specs.Option.{option_map}
use Rattle.std.proofs.lemmas.List.{length-map}
use Rattle.std.proofs.lemmas.Option.{slice_get_within}
use Rattle.fst_semiring.specs.Cost.{Cost}
use Rattle.fst_semiring.specs.declared.arc_type.ArcType.{ArcType}
use Rattle.fst_machine.specs.BreadthFirst.{Apart, Has}
use Rattle.fst_machine.specs.Graph.{Graph}
use Rattle.fst_machine.specs.Machine.{IsMachine, Machine, most_states}
use Rattle.fst_machine.specs.Walking.{IsWalking}
use Rattle.fst_machine.proofs.Arcs.{at_append_left, at_mapped}
use Rattle.fst_machine.proofs.BreadthFirst.{at_take}
use Rattle.fst_machine.proofs.Elements.{Apart_below, at_Has}
use Rattle.fst_delayed.specs.Caches.{keys}
use Rattle.fst_delayed.specs.Coding.{code_of}
use Rattle.fst_delayed.specs.Graphs.{IsKeyOf, delayed_graph}
use Rattle.fst_delayed.specs.Handed.{IsNameBelow, Name}
use Rattle.fst_delayed.proofs.Apart.{codes_differ}
use Rattle.fst_delayed.proofs.Inside.{delayed_keeps}
use Rattle.fst_lattice.specs.declared.stage.Stage.{Stage}
use Rattle.fst_lattice.specs.declared.stage.Stage.TheVariants.{Bad, Going, Stopped}
use Rattle.fst_lattice.specs.Expansions.{IsNeededOf}
use Rattle.fst_lattice.specs.Lattice.{HasNoZero, Point, lattice, point}
use Rattle.fst_lattice.specs.Needed.{IsNeeded, IsTaken}
use Rattle.fst_lattice.specs.Walks.{IsAt, IsJob, IsOver, IsStopped, IsWalkOf, LineWalk, taken_names}
use Rattle.fst_lattice.proofs.Jobs.{lattice_keeps}
use Rattle.fst_lattice.proofs.TwoWalks.{all_keep, ends_last, same_place, stops_last}

one : {X : Type 0} (a b : X) → Some a ≡ Some b → a ≡ b
one a b e = cc

module _ (line : List ℕ) (G : Graph (Name ℕ ℕ)) (limit : ℕ) (points : List (Point (Name ℕ ℕ))) (taken : ℕ) (z : Point (Name ℕ ℕ)) (need : IsTaken (lattice line G) limit z) where
  -- a walk that has followed all its names has taken it
  ended_takes : IsWalkOf (lattice line G) limit points taken → length points ≤ taken → (slice_get points need.place ≡ Some z) × (need.place < taken)
  ended_takes w all =
      let same = one need.start w.start (sym need.starts ∙ w.starts) in
      let walking = subst (λ (s : Point (Name ℕ ℕ)). IsWalking (lattice line G) s need.found need.place) same need.walking in
      let low = ends_last (lattice line G) w.start points need.found taken need.place z w.walking walking all need.there in
      let there = same_place (lattice line G) w.start points need.found taken need.place z w.walking walking low need.there in
      (there, let inside = slice_get_within points need.place z there in omega (arith, inside, all))

  -- so has one that has stopped
  stopped_takes : IsStopped (lattice line G) limit points taken → (slice_get points need.place ≡ Some z) × (need.place < taken)
  stopped_takes w =
      let same = one need.start w.start (sym need.starts ∙ w.starts) in
      let walking = subst (λ (s : Point (Name ℕ ℕ)). IsWalking (lattice line G) s need.found need.place) same need.walking in
      let low = stops_last (lattice line G) w.start w.before need.found w.last need.place limit w.name z w.walking walking w.there w.passes need.few need.there in
      let there = same_place (lattice line G) w.start w.before need.found w.last need.place z w.walking walking low need.there in
      (ap (λ ns. slice_get ns need.place) w.front ∙ at_append_left w.before w.more need.place z there, omega (arith, low, w.count))

  no_walk : (o : Option (Point (Name ℕ ℕ))) → (lattice line G).start ≡ o → MatchOption o ((points ≡ []) × (taken ≡ 0)) (λ start. IsWalkOf (lattice line G) limit points taken) → IsWalkOf (lattice line G) limit points taken
  no_walk None e none = absurd (let wrong : None ≡ Some need.start = sym e ∙ need.starts in cc)
  no_walk (Some s) e walk = walk

  over_takes : (stage : Stage) → IsAt line G limit points taken stage → HasNoZero line → (stage ≡ Going → length points ≤ taken) → (slice_get points need.place ≡ Some z) × (need.place < taken)
  over_takes Going h none over = ended_takes (no_walk (lattice line G).start refl h.1) (over refl)
  over_takes Stopped h none over = stopped_takes h.1
  over_takes Bad h none over = absurd (h.0 none)

-- a job that is over knows all names that its line needs
pub over_needed : {V : Type 0} (kind : ArcType) (value : V → Cost) (d : Machine V × Machine V) (line : List ℕ) (known : List (Name ℕ ℕ)) (w : LineWalk) → IsJob kind value d line known w → IsOver w
    → (n : Name ℕ ℕ) → IsNeeded line (delayed_graph kind value d) w.limit n → Has known n
over_needed kind value d line known w h over n need =
    let t = over_takes line (delayed_graph kind value d) w.limit w.points w.taken need.at need.taken w.stage h.walk need.no_zero over in
    let front = at_take w.points w.taken need.taken.place need.at t.0 t.1 in
    h.held n (subst (Has (taken_names w)) need.same (at_Has (taken_names w) need.taken.place need.at.name (at_mapped (λ (p : Point (Name ℕ ℕ)). p.name) (take w.taken w.points) need.taken.place need.at front)))

-- names of states of machines are not many
few_names : (states others : ℕ) → states ≤ most_states → others ≤ most_states → (names : List (Name ℕ ℕ)) → Apart names → ((n : Name ℕ ℕ) → Has names n → IsNameBelow states others n) → length names < 2 ^ 46
few_names states others few few' names apart below =
    let low = Apart_below 35184372088834 (map code_of names) codes_apart small in
    omega (arith, low, length-map names code_of)
  where
    back : (ns : List (Name ℕ ℕ)) (c : ℕ) → Has (map code_of ns) c → (n : Name ℕ ℕ) × Has ns n × (code_of n ≡ c)
    back [] c h = absurd h
    back (m ∷ ns) c (inl e) = (m, inl refl, e)
    back (m ∷ ns) c (inr h) = let rest = back ns c h in (rest.0, inr rest.1, rest.2)

    small : (c : ℕ) → Has (map code_of names) c → c < 35184372088834
    small c h = let m = back names c h in let b = below m.0 m.1 in omega (arith, m.2, b.0, b.1, b.2, few, few')

    apart_of : (ns : List (Name ℕ ℕ)) → Apart ns → ((n : Name ℕ ℕ) → Has ns n → Has names n) → Apart (map code_of ns)
    apart_of [] a inside = tt
    apart_of (m ∷ ns) a inside = (
      (λ h. let n = back ns (code_of m) h in a.0 (subst (Has ns) (codes_differ states others few few' n.0 m (below n.0 (inside n.0 (inr n.1))) (below m (inside m (inl refl))) n.2) n.1)),
      apart_of ns a.1 (λ n h. inside n (inr h)),
    )

    codes_apart : Apart (map code_of names)
    codes_apart = apart_of names apart (λ n h. h)

module _ {V : Type 0} (kind : ArcType) (value : V → Cost) (d : Machine V × Machine V) (left : IsMachine value d.0) (right : IsMachine value d.1) (first : IfSome (delayed_graph kind value d).start (IsKeyOf d)) (limit : ℕ) where
  -- a name that a line needs is one of states of the machines
  pub needed_key : (line : List ℕ) (n : Name ℕ ℕ) → IsNeeded line (delayed_graph kind value d) limit n → IsKeyOf d n
  needed_key line n need =
      let t = need.taken in
      let g = delayed_graph kind value d in
      subst (IsKeyOf d) need.same (all_keep (lattice line g) t.start (λ (p : Point (Name ℕ ℕ)). IsKeyOf d p.name) (lattice_keeps line g (IsKeyOf d) (delayed_keeps kind value d left right)) (start_key g.start refl t.start t.starts) t.found t.place t.walking need.at (at_Has t.found t.place need.at t.there))
    where
      start_key : (o : Option (Name ℕ ℕ)) → (delayed_graph kind value d).start ≡ o → (s : Point (Name ℕ ℕ)) → option_map (point 0) (delayed_graph kind value d).start ≡ Some s → IsKeyOf d s.name
      start_key None e s is = absurd (let wrong : None ≡ Some s = sym (ap (option_map (point 0)) e) ∙ is in cc)
      start_key (Some k) e s is = let same : point 0 k ≡ s = one (point 0 k) s (sym (ap (option_map (point 0)) e) ∙ is) in subst (λ (p : Point (Name ℕ ℕ)). IsKeyOf d p.name) same (subst (λ (q : Option (Name ℕ ℕ)). IfSome q (IsKeyOf d)) e first)

  -- so they are not many
  pub few_needed : (lines : List (List ℕ)) (names : List (Name ℕ ℕ)) → Apart names → ((n : Name ℕ ℕ) → Has names n → IsNeededOf lines (delayed_graph kind value d) limit n) → length names < 2 ^ 46
  few_needed lines names apart needed = few_names (length d.0.states) (length d.1.states) left.few_states right.few_states names apart (λ n h. let need = needed n h in needed_key need.line n need.need)

  -- nor are the entries of a cache of them
  pub few_entries : {A : Type 0} (lines : List (List ℕ)) (cache : List (Name ℕ ℕ × A)) → Apart (keys cache) → ((n : Name ℕ ℕ) → Has (keys cache) n → IsNeededOf lines (delayed_graph kind value d) limit n) → length cache < 2 ^ 46
  few_entries {A} lines cache apart needed = let few = few_needed lines (keys cache) apart needed in omega (arith, few, length-map cache (λ (e : Name ℕ ℕ × A). e.0))
