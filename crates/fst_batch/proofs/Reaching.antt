-- What a walk on its way has found can be reached.
use Rattle.std.proofs.Common.{◌≡◌, ◌⊎◌, inl, inr, ℕ, zero, suc, ◌+◌, ◌<◌, ◌≤◌, List, [], ◌∷◌, ◌++◌, Some, length, take, drop, slice_get, refl, sym, ap, ◌∙◌, subst, arith}
use Rattle.std.specs.List.{flat_map}
use Rattle.std.proofs.lemmas.Bool.{cases_lt}
use Rattle.std.proofs.lemmas.List.{length-take-le, take-append-drop}
use Rattle.std.proofs.lemmas.Option.{slice_get_within}
use Rattle.fst_machine.specs.BreadthFirst.{Has}
use Rattle.fst_machine.specs.Graph.{Graph, nexts}
use Rattle.fst_machine.specs.Machine.{Arc}
use Rattle.fst_machine.specs.Paths.{IsPath, Transition}
use Rattle.fst_machine.specs.Walking.{IsWalking}
use Rattle.fst_machine.proofs.Arcs.{at_append_front, at_append_left, mapped_at}
use Rattle.fst_machine.proofs.Elements.{Has-append_left, Has_at, at_Has}
use Rattle.fst_machine.proofs.PathParts.{IsPath-append}
use Rattle.fst_machine.proofs.Walking.{walking_apart}
use Rattle.fst_machine.proofs.Walks.{Grows-Apart, Grows-only, followed, follows}
use Rattle.fst_walk.specs.Answers.{ReachesMore}
use Rattle.fst_walk.specs.Making.{Passes}

-- more of a list has what less of it has
take_kept : {X : Type 0} (t i : ℕ) (xs : List X) (x : X) → t ≤ i → Has (take t xs) x → Has (take i xs) x
take_kept zero i xs x low h = absurd h
take_kept (suc t) zero xs x low h = absurd (omega (arith, low))
take_kept (suc t) (suc i) [] x low h = absurd h
take_kept (suc t) (suc i) (y ∷ xs) x low (inl e) = inl e
take_kept (suc t) (suc i) (y ∷ xs) x low (inr h) = inr (take_kept t i xs x (omega (arith, low)) h)

module _ {N : Type 0} (g : Graph N) (start : N) (names : List N) (taken : ℕ) (w : IsWalking g start names taken) where
  -- the name in a place is the start, or an arc of an earlier name leads to it
  walking_earlier : (i : ℕ) (z : N) → slice_get names i ≡ Some z → (start ≡ z) ⊎ Has (flat_map (λ n. nexts (g.arcs n)) (take i names)) z
  walking_earlier i z at = by_order (cases_lt i taken)
    where
      by_part : (t : ℕ) → t ≤ i → Has (start ∷ []) z ⊎ Has (flat_map (λ n. nexts (g.arcs n)) (take t names)) z → (start ≡ z) ⊎ Has (flat_map (λ n. nexts (g.arcs n)) (take i names)) z
      by_part t low (inl (inl e)) = inl e
      by_part t low (inl (inr none)) = absurd none
      by_part t low (inr h) =
          let source = followed g (take t names) z h in
          inr (follows g (take i names) source.0 z source.1 source.2 (take_kept t i names source.0 low source.3) source.4 source.5)

      by_order : (i < taken) ⊎ (taken ≤ i) → (start ≡ z) ⊎ Has (flat_map (λ n. nexts (g.arcs n)) (take i names)) z
      by_order (inl low) =
          let found = w.earlier i low in
          let there : slice_get found.0 i ≡ Some z = at_append_front found.0 found.1 i z found.4 (ap (λ ns. slice_get ns i) (sym found.3) ∙ at) in
          by_part i (omega arith) (Grows-only (flat_map (λ n. nexts (g.arcs n)) (take i names)) (start ∷ []) found.0 z found.2 (at_Has found.0 i z there))
      by_order (inr high) = by_part taken high (Grows-only (flat_map (λ n. nexts (g.arcs n)) (take taken names)) (start ∷ []) names z w.grown (at_Has names i z at))

  -- so it is the end of a path from the start
  reached_by : (fuel i : ℕ) → i < fuel → (z : N) → slice_get names i ≡ Some z → (path : List (Transition N)) × IsPath g start path z
  reached_by zero i low z at = absurd (omega (arith, low))
  reached_by (suc fuel) i low z at = by (walking_earlier i z at) (λ j y early there. reached_by fuel j (omega (arith, low, early)) y there)
    where
      by : (start ≡ z) ⊎ Has (flat_map (λ n. nexts (g.arcs n)) (take i names)) z → ((j : ℕ) (y : N) → j < i → slice_get names j ≡ Some y → (path : List (Transition N)) × IsPath g start path y) → (path : List (Transition N)) × IsPath g start path z
      by (inl e) sooner = ([], e)
      by (inr h) sooner =
          let source = followed g (take i names) z h in
          let place = Has_at (take i names) source.0 source.3 in
          let there : slice_get names place.0 ≡ Some source.0 = ap (λ ns. slice_get ns place.0) (sym (take-append-drop i names)) ∙ at_append_left (take i names) (drop i names) place.0 source.0 place.1 in
          let path = sooner place.0 source.0 (before place.0 place.2) there in
          let last : Transition N = record { state = source.0; place = source.1; arc = source.2 } in
          (path.0 ++ last ∷ [], IsPath-append g path.0 (last ∷ []) start source.0 z path.1 ((refl, source.4), source.5))
        where
          before : (j : ℕ) → j < length (take i names) → j < i
          before j inside =
              let far = slice_get_within names i z at in
              let size = length-take-le i names (omega (arith, far)) in
              omega (arith, inside, size)

  pub walking_reached : (z : N) → Has names z → (path : List (Transition N)) × IsPath g start path z
  walking_reached z h = let place = Has_at names z h in reached_by (place.0 + 1) place.0 (omega arith) z place.1

  -- a walk that finds more names than the limit shows that so many can be reached
  pub passes_reach : (limit : ℕ) (n : N) → g.start ≡ Some start → slice_get names taken ≡ Some n → Passes limit names (nexts (g.arcs n)) → ReachesMore g limit
  passes_reach limit n starts at p = record {
    start = start;
    starts = starts;
    names = p.found;
    apart = Grows-Apart p.front names p.found (walking_apart g start names taken w) p.grown;
    reached = λ z has. by z (Grows-only p.front names p.found z p.grown has);
    more = p.more;
  }
    where
      by : (z : N) → Has names z ⊎ Has p.front z → (path : List (Transition N)) × IsPath g start path z
      by z (inl old) = walking_reached z old
      by z (inr new) =
          let place = Has_at (nexts (g.arcs n)) z (subst (λ zs. Has zs z) (sym p.parts) (Has-append_left p.front p.rest z new)) in
          let arc = mapped_at (λ (a : Arc _ N). a.next) (g.arcs n) place.0 z place.1 in
          let path = walking_reached n (at_Has names taken n at) in
          let last : Transition N = record { state = n; place = place.0; arc = arc.0 } in
          (path.0 ++ last ∷ [], IsPath-append g path.0 (last ∷ []) start n z path.1 ((refl, arc.1), arc.2))
