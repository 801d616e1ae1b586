-- The paths of a composition are runs of both machines side by side.
use Rattle.std.proofs.Common.{◌≡◌, List, [], ◌∷◌, Some, map, slice_get, sym, refl, ap, ap₂, ◌∙◌, subst}
use Rattle.std.proofs.lemmas.Option.{same_Some}
use Rattle.fst_semiring.specs.Cost.{Cost}
use Rattle.fst_semiring.specs.declared.arc_type.ArcType.{ArcType}
use Rattle.fst_machine.specs.Machine.{Arc}
use Rattle.fst_machine.specs.Graph.{Graph}
use Rattle.fst_machine.specs.Letters.{letter_of}
use Rattle.fst_machine.specs.Paths.{Transition, Leaves, IsPath, letters}
use Rattle.fst_machine.proofs.Arcs.{mapped_at, at_mapped}
use Rattle.fst_machine.proofs.Elements.{at_Has, Has_at, Apart_at}
use Rattle.fst_machine.proofs.PathParts.{same_transition}
use Rattle.fst_compose.specs.Names.{Name}
use Rattle.fst_compose.specs.Composition.{composed}
use Rattle.fst_compose.specs.Moves.{Move, both, first_only, second_only, firsts, seconds, IsMerge, moves_at, arc_by}
use Rattle.fst_compose.specs.Reading.{ReadsOff}
use Rattle.fst_compose.proofs.Moves.{writes, reads, composed_arcs, IsMove, listed_is_move, move_is_listed, moves-Apart}
use Rattle.fst_compose.proofs.Words.{letter_by, arc_by-letter}

module _ {N M : Type 0} (kind : ArcType) (a : Graph N) (b : Graph M) where
  -- The moves run from the name to p in the first machine and to q in the second, and the filter lets them
  -- through.
  abbrev pub IsRun : Name N M → List (Move (Transition N) (Transition M)) → N → M → Type 0
  IsRun n ms p q = IsPath a n.first (firsts ms) p × IsPath b n.second (seconds ms) q × IsMerge writes reads n.filter ms

  -- a move of the name before a run from where its arc leads is a run
  run_more : (n : Name N M) (m : Move (Transition N) (Transition M)) (ms : List (Move (Transition N) (Transition M))) (p : N) (q : M) → IsMove a b n m → IsRun (arc_by kind n m).next ms p q → IsRun n (m ∷ ms) p q
  run_more n (both s t) ms p q is run = ((is.0.0, run.0), (is.0.1, run.1), (is.1, run.2))
  run_more n (first_only s) ms p q is run = ((is.0, run.0), run.1, (is.1, run.2))
  run_more n (second_only t) ms p q is run = (run.0, (is.0, run.1), (is.1, run.2))

  -- and back
  run_less : (n : Name N M) (m : Move (Transition N) (Transition M)) (ms : List (Move (Transition N) (Transition M))) (p : N) (q : M) → IsRun n (m ∷ ms) p q → IsMove a b n m × IsRun (arc_by kind n m).next ms p q
  run_less n (both s t) ms p q run = (((run.0.0, run.1.0), run.2.0), (run.0.1, run.1.1, run.2.1))
  run_less n (first_only s) ms p q run = ((run.0.0, run.2.0), (run.0.1, run.1, run.2.1))
  run_less n (second_only t) ms p q run = ((run.1.0, run.2.0), (run.0, run.1.1, run.2.1))

  -- the arc of a transition is made by the move in its place
  made_by : (n : Name N M) (t : Transition (Name N M)) (m : Move (Transition N) (Transition M)) → Leaves (composed kind a b) n t → slice_get (moves_at a b t.state) t.place ≡ Some m → (slice_get (moves_at a b n) t.place ≡ Some m) × (arc_by kind n m ≡ t.arc)
  made_by n t m leaves has =
      let here : slice_get (moves_at a b n) t.place ≡ Some m = ap (λ (z : Name N M). slice_get (moves_at a b z) t.place) (sym leaves.0) ∙ has in
      let made : slice_get ((composed kind a b).arcs n) t.place ≡ Some (arc_by kind n m) = ap (λ arcs. slice_get arcs t.place) (composed_arcs kind a b n) ∙ at_mapped (arc_by kind n) (moves_at a b n) t.place m here in
      (here, same_Some (arc_by kind n m) t.arc (sym made ∙ leaves.1))

  -- each path has moves that it is read off to
  pub readable : (n to : Name N M) (path : List (Transition (Name N M))) → IsPath (composed kind a b) n path to → (ms : List (Move (Transition N) (Transition M))) × ReadsOff a b path ms
  readable n to [] leads = ([], tt)
  readable n to (t ∷ path) leads =
      let from = mapped_at (arc_by kind n) (moves_at a b n) t.place t.arc (ap (λ arcs. slice_get arcs t.place) (sym (composed_arcs kind a b n)) ∙ leads.0.1) in
      let rest = readable t.arc.next to path leads.1 in
      (from.0 ∷ rest.0, (ap (λ (z : Name N M). slice_get (moves_at a b z) t.place) leads.0.0 ∙ from.1, rest.1))

  -- which are a run
  pub read_run : (n to : Name N M) (path : List (Transition (Name N M))) (ms : List (Move (Transition N) (Transition M))) → IsPath (composed kind a b) n path to → ReadsOff a b path ms → IsRun n ms to.first to.second
  read_run n to [] [] here r = (ap (λ (z : Name N M). z.first) here, ap (λ (z : Name N M). z.second) here, tt)
  read_run n to [] (m ∷ ms) here r = absurd r
  read_run n to (t ∷ path) [] leads r = absurd r
  read_run n to (t ∷ path) (m ∷ ms) leads r =
      let made = made_by n t m leads.0 r.0 in
      let is : IsMove a b n m = listed_is_move a b n m (at_Has (moves_at a b n) t.place m made.0) in
      let rest : IsRun t.arc.next ms to.first to.second = read_run t.arc.next to path ms leads.1 r.1 in
      run_more n m ms to.first to.second is (subst (λ (c : Arc Cost (Name N M)). IsRun c.next ms to.first to.second) (sym made.1) rest)

  -- and say the same
  pub read_letters : (n to : Name N M) (path : List (Transition (Name N M))) (ms : List (Move (Transition N) (Transition M))) → IsPath (composed kind a b) n path to → ReadsOff a b path ms → letters path ≡ map (letter_by kind) ms
  read_letters n to [] [] here r = refl
  read_letters n to [] (m ∷ ms) here r = absurd r
  read_letters n to (t ∷ path) [] leads r = absurd r
  read_letters n to (t ∷ path) (m ∷ ms) leads r =
      ap₂ (◌∷◌) (ap letter_of (sym (made_by n t m leads.0 r.0).1) ∙ arc_by-letter kind n m) (read_letters t.arc.next to path ms leads.1 r.1)

  -- each run is read off from a path
  pub run_path : (n : Name N M) (p : N) (q : M) (ms : List (Move (Transition N) (Transition M))) → IsRun n ms p q → (path : List (Transition (Name N M))) × (to : Name N M) × IsPath (composed kind a b) n path to × ReadsOff a b path ms × (to.first ≡ p) × (to.second ≡ q)
  run_path n p q [] run = ([], n, refl, tt, run.0, run.1)
  run_path n p q (m ∷ ms) run =
      let less = run_less n m ms p q run in
      let at = Has_at (moves_at a b n) m (move_is_listed a b n m less.0) in
      let rest = run_path (arc_by kind n m).next p q ms less.1 in
      let t : Transition (Name N M) = record { state = n; place = at.0; arc = arc_by kind n m } in
      let has : slice_get ((composed kind a b).arcs n) at.0 ≡ Some (arc_by kind n m) = ap (λ arcs. slice_get arcs at.0) (composed_arcs kind a b n) ∙ at_mapped (arc_by kind n) (moves_at a b n) at.0 m at.1 in
      (t ∷ rest.0, rest.1, ((refl, has), rest.2), (at.1, rest.3), rest.4, rest.5)

  -- and from one only
  pub one_path : (n to end : Name N M) (path other : List (Transition (Name N M))) (ms : List (Move (Transition N) (Transition M))) → IsPath (composed kind a b) n path to → IsPath (composed kind a b) n other end → ReadsOff a b path ms → ReadsOff a b other ms → path ≡ other
  one_path n to end [] [] [] one two r q = refl
  one_path n to end [] other (m ∷ ms) one two r q = absurd r
  one_path n to end (t ∷ path) other [] one two r q = absurd r
  one_path n to end [] (u ∷ other) [] one two r q = absurd q
  one_path n to end (t ∷ path) [] (m ∷ ms) one two r q = absurd q
  one_path n to end (t ∷ path) (u ∷ other) (m ∷ ms) one two r q =
      let places : t.place ≡ u.place = Apart_at (moves_at a b n) t.place u.place m (moves-Apart a b n) (made_by n t m one.0 r.0).0 (made_by n u m two.0 q.0).0 in
      let same : t ≡ u = same_transition (composed kind a b) n t u one.0 two.0 places in
      let rest : IsPath (composed kind a b) t.arc.next other end = subst (λ (z : Transition (Name N M)). IsPath (composed kind a b) z.arc.next other end) (sym same) two.1 in
      ap₂ (◌∷◌) same (one_path t.arc.next to end path other ms one.1 rest r.1 q.1)

-- a path is read off to one list of moves
pub one_reading : {N M : Type 0} (a : Graph N) (b : Graph M) (path : List (Transition (Name N M))) (ms others : List (Move (Transition N) (Transition M))) → ReadsOff a b path ms → ReadsOff a b path others → ms ≡ others
one_reading a b [] [] [] r q = refl
one_reading a b [] (m ∷ ms) others r q = absurd r
one_reading a b [] [] (m ∷ others) r q = absurd q
one_reading a b (t ∷ path) [] others r q = absurd r
one_reading a b (t ∷ path) (m ∷ ms) [] r q = absurd q
one_reading a b (t ∷ path) (m ∷ ms) (o ∷ others) r q = ap₂ (◌∷◌) (same_Some m o (sym r.0 ∙ q.0)) (one_reading a b path ms others r.1 q.1)
