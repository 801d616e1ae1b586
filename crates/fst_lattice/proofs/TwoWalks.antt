-- Two walks from one start find the same names, as far as both have come.
use Rattle.std.proofs.Common.{◌≡◌, ◌⊎◌, inl, inr, ℕ, zero, suc, ◌+◌, ◌<◌, ◌≤◌, List, [], ◌∷◌, ◌++◌, Some, length, take, get_or, slice_get, refl, sym, ap, ◌∙◌, subst, append-nil, arith}
use Rattle.std.proofs.lemmas.Bool.{cases_lt}
use Rattle.std.proofs.lemmas.Grind.{flat_map-append}
use Rattle.std.proofs.lemmas.List.{length-append, take_more}
use Rattle.std.proofs.lemmas.Option.{get_or_from_slice_get, slice_get-get_or, slice_get_within}
use Rattle.fst_machine.specs.BreadthFirst.{After, Grows, Has}
use Rattle.fst_machine.specs.Graph.{Graph, nexts}
use Rattle.fst_machine.specs.Walking.{IsWalking}
use Rattle.fst_machine.proofs.Arcs.{at_append_front, at_append_left}
use Rattle.fst_machine.proofs.Elements.{Has_at, at_Has}
use Rattle.fst_machine.proofs.Pairs.{arrivals}
use Rattle.fst_machine.proofs.Walks.{Grows-append, Grows-front, Grows-only, Grows_once, followed}
use Rattle.fst_walk.specs.Making.{Passes}
use Rattle.fst_delayed.specs.Handed.{Keeps}

take_place : {X : Type 0} (xs : List X) (i j : ℕ) (x : X) → slice_get (take i xs) j ≡ Some x → (j < i) × (slice_get xs j ≡ Some x)
take_place xs zero j x e = absurd (cc)
take_place [] (suc i) j x e = absurd (cc)
take_place (y ∷ xs) (suc i) zero x e = (omega arith, e)
take_place (y ∷ xs) (suc i) (suc j) x e = let rest = take_place xs i j x e in (omega (arith, rest.0), rest.1)

module _ {N : Type 0} (g : Graph N) (start : N) where
  -- what a walk had found when it had followed so many names
  pub found_by : (names : List N) (taken : ℕ) → IsWalking g start names taken → (i : ℕ) → i ≤ taken → (found : List N) × (rest : List N) × After g start names i found × (names ≡ found ++ rest)
  found_by names taken w i low = by (cases_lt i taken)
    where
      by : (i < taken) ⊎ (taken ≤ i) → (found : List N) × (rest : List N) × After g start names i found × (names ≡ found ++ rest)
      by (inl sooner) = let e = w.earlier i sooner in (e.0, e.1, e.2, e.3)
      by (inr now) = let same : taken ≡ i = omega (arith, low, now) in (names, [], subst (λ (j : ℕ). After g start names j names) same w.grown, sym (append-nil names))

  take_one : (xs : List N) (i : ℕ) (z : N) → slice_get xs i ≡ Some z → take (suc i) xs ≡ take i xs ++ z ∷ []
  take_one xs i z there =
      let one : i + 1 ≡ suc i = omega arith in
      ap (λ (j : ℕ). take j xs) (sym one) ∙ (take_more xs i z (slice_get_within xs i z there) ∙ ap (λ y. take i xs ++ y ∷ []) (get_or_from_slice_get xs i z z there))

  module _ (xs ys : List N) (a b : ℕ) (w : IsWalking g start xs a) (v : IsWalking g start ys b) where
    -- they have the same names as far as both have followed them
    pub agree : (i : ℕ) → i ≤ a → i ≤ b → take i xs ≡ take i ys
    agree zero low low' = refl
    agree (suc i) low low' =
        let same = agree i (omega (arith, low)) (omega (arith, low')) in
        let e = w.earlier i (omega (arith, low)) in
        let f = v.earlier i (omega (arith, low')) in
        let one : e.0 ≡ f.0 = Grows_once (arrivals g (take i ys)) (start ∷ []) e.0 f.0 (subst (λ ns. Grows (start ∷ []) (arrivals g ns) e.0) same e.2) f.2 in
        let z = get_or e.0 i start in
        let there : slice_get e.0 i ≡ Some z = slice_get-get_or e.0 i start e.4 in
        let left : slice_get xs i ≡ Some z = ap (λ ns. slice_get ns i) e.3 ∙ at_append_left e.0 e.1 i z there in
        let right : slice_get ys i ≡ Some z = ap (λ ns. slice_get ns i) f.3 ∙ at_append_left f.0 f.1 i z (ap (λ ns. slice_get ns i) (sym one) ∙ there) in
        take_one xs i z left ∙ (ap (λ ns. ns ++ z ∷ []) same ∙ sym (take_one ys i z right))

    -- what the second has found in all is the front of what the first has, if that has come as far
    pub front_of : b ≤ a → (rest : List N) × (xs ≡ ys ++ rest)
    front_of low =
        let f = found_by xs a w b low in
        let one : f.0 ≡ ys = Grows_once (arrivals g (take b ys)) (start ∷ []) f.0 ys (subst (λ ns. Grows (start ∷ []) (arrivals g ns) f.0) (agree b low (omega arith)) f.2) v.grown in
        (f.1, f.3 ∙ ap (λ ns. ns ++ f.1) one)

  -- a name that a walk is about to take, and that another has taken as many as, stands in the same place there
  pub same_place : (xs ys : List N) (a b : ℕ) (z : N) → IsWalking g start xs a → IsWalking g start ys b → b ≤ a → slice_get ys b ≡ Some z → slice_get xs b ≡ Some z
  same_place xs ys a b z w v low there = let f = front_of xs ys a b w v low in ap (λ ns. slice_get ns b) f.1 ∙ at_append_left ys f.0 b z there

  -- a walk that has followed all its names is not behind another that is about to take one
  pub ends_last : (xs ys : List N) (a b : ℕ) (z : N) → IsWalking g start xs a → IsWalking g start ys b → length xs ≤ a → slice_get ys b ≡ Some z → b ≤ a
  ends_last xs ys a b z w v all there = by (cases_lt a b)
    where
      by : (a < b) ⊎ (b ≤ a) → b ≤ a
      by (inr low) = low
      by (inl less) =
          let f = v.earlier a less in
          let one : f.0 ≡ xs = Grows_once (arrivals g (take a xs)) (start ∷ []) f.0 xs (subst (λ ns. Grows (start ∷ []) (arrivals g ns) f.0) (sym (agree xs ys a b w v a (omega arith) (omega (arith, less)))) f.2) w.grown in
          absurd (let l = ap length one in omega (arith, f.4, l, all))

  -- a walk that finds more than the limit by the name that it is about to take, is not behind one that has found no more than
  -- the limit
  pub stops_last : (xs ys : List N) (a b limit : ℕ) (n z : N) → IsWalking g start xs a → IsWalking g start ys b → slice_get xs a ≡ Some n → Passes limit xs (nexts (g.arcs n)) → length ys ≤ limit → slice_get ys b ≡ Some z → b ≤ a
  stops_last xs ys a b limit n z w v at passes few there = by (cases_lt a b)
    where
      by : (a < b) ⊎ (b ≤ a) → b ≤ a
      by (inr low) = low
      by (inl less) =
          let front = front_of ys xs b a v w (omega (arith, less)) in
          let here : slice_get ys a ≡ Some n = ap (λ ns. slice_get ns a) front.1 ∙ at_append_left xs front.0 a n at in
          let f = found_by ys b v (suc a) (omega (arith, less)) in
          let more : arrivals g (take (suc a) ys) ≡ arrivals g (take a ys) ++ nexts (g.arcs n) =
          ap (arrivals g) (take_one ys a n here) ∙ (flat_map-append (λ y. nexts (g.arcs y)) (take a ys) (n ∷ []) ∙ ap (λ zs. arrivals g (take a ys) ++ zs) (append-nil (nexts (g.arcs n)))) in
          let cut = Grows-append (arrivals g (take a ys)) (nexts (g.arcs n)) (start ∷ []) f.0 (subst (λ zs. Grows (start ∷ []) zs f.0) more f.2) in
          let mid : cut.0 ≡ xs = Grows_once (arrivals g (take a xs)) (start ∷ []) cut.0 xs (subst (λ ns. Grows (start ∷ []) (arrivals g ns) cut.0) (sym (agree xs ys a b w v a (omega arith) (omega (arith, less)))) cut.1) w.grown in
          let onward : Grows xs (passes.front ++ passes.rest) f.0 = subst (λ zs. Grows xs zs f.0) passes.parts (subst (λ ns. Grows ns (nexts (g.arcs n)) f.0) mid cut.2) in
          let part = Grows-append passes.front passes.rest xs f.0 onward in
          let one : part.0 ≡ passes.found = Grows_once passes.front xs part.0 passes.found part.1 passes.grown in
          let rest = Grows-front passes.rest part.0 f.0 part.2 in
          let long : length f.0 ≡ length part.0 + length rest.0 = ap length rest.1 ∙ length-append part.0 rest.0 in
          let whole : length ys ≡ length f.0 + length f.1 = ap length f.3 ∙ length-append f.0 f.1 in
          absurd (let l = ap length one in omega (arith, long, whole, l, passes.more, few))

  -- what arcs keep holds of all names that a walk finds
  module _ (P : N → Type 0) (keeps : Keeps P g) (first : P start) (names : List N) (taken : ℕ) (w : IsWalking g start names taken) where
    -- the start has it, and names to which arcs of earlier ones lead
    next_keep : (j : ℕ) → j ≤ taken → ((k : ℕ) → k < j → (found : List N) → After g start names k found → (y : N) → Has found y → P y) → (z : N) → Has (start ∷ []) z ⊎ Has (arrivals g (take j names)) z → P z
    next_keep j inside early z (inl (inl e)) = subst P e first
    next_keep j inside early z (inl (inr none)) = absurd none
    next_keep j inside early z (inr h) =
        let f = followed g (take j names) z h in
        let at = Has_at (take j names) f.0 f.3 in
        let place = take_place names j at.0 f.0 at.1 in
        let e = w.earlier at.0 (omega (arith, place.0, inside)) in
        let last = at_append_front e.0 e.1 at.0 f.0 e.4 (ap (λ ns. slice_get ns at.0) (sym e.3) ∙ place.1) in
        subst P f.5 (keeps f.0 f.1 f.2 (early at.0 place.0 e.0 e.2 f.0 (at_Has e.0 at.0 f.0 last)) f.4)

    found_keep : (i j : ℕ) → j ≤ i → j ≤ taken → (found : List N) → After g start names j found → (z : N) → Has found z → P z
    found_keep zero j low inside found grown z h = next_keep j inside (λ k below. absurd (omega (arith, below, low))) z (Grows-only (arrivals g (take j names)) (start ∷ []) found z grown h)
    found_keep (suc i) j low inside found grown z h =
        next_keep j inside (λ k below found' grown' y h'. found_keep i k (omega (arith, below, low)) (omega (arith, below, inside)) found' grown' y h') z (Grows-only (arrivals g (take j names)) (start ∷ []) found z grown h)

    pub all_keep : (z : N) → Has names z → P z
    all_keep z h = found_keep taken taken (omega arith) (omega arith) names w.grown z h
