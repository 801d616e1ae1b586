-- What a walk has found on its way is the front of the finished list.
use Rattle.std.proofs.Common.{◌≡◌, ◌⊎◌, inl, inr, ℕ, ◌+◌, ◌<◌, ◌≤◌, zero, suc, List, [], ◌∷◌, ◌++◌, Some, length, take, get_or, slice_get, sym, refl, ap, ◌∙◌, subst, append_assoc, append-nil, arith}
use Rattle.std.proofs.lemmas.Bool.{cases_lt}
use Rattle.std.proofs.lemmas.Grind.{flat_map-append}
use Rattle.std.proofs.lemmas.List.{take_more}
use Rattle.std.proofs.lemmas.Option.{slice_get-get_or, slice_get_within, get_or_from_slice_get}
use Rattle.fst_machine.specs.Graph.{Graph, nexts}
use Rattle.fst_machine.specs.BreadthFirst.{Grows, After, IsWalked}
use Rattle.fst_machine.specs.Walking.{IsWalking}
use Rattle.fst_machine.proofs.Arcs.{at_append_left}
use Rattle.fst_machine.proofs.Walks.{Grows-append, Grows_once, Grows-front}
use Rattle.fst_machine.proofs.Pairs.{arrivals}

module _ {N : Type 0} (g : Graph N) (start : N) (names : List N) (whole : IsWalked g start names) where
  -- the finished list after i of its names begins with what was found by then
  found_by : (i : ℕ) → i ≤ length names → (found : List N) × (rest : List N) × After g start names i found × (names ≡ found ++ rest)
  found_by i few = by_place (cases_lt i (length names))
    where
      by_place : (i < length names) ⊎ (length names ≤ i) → (found : List N) × (rest : List N) × After g start names i found × (names ≡ found ++ rest)
      by_place (inl more) = let f = whole.before i more in (f.0, f.1, f.2, f.3)
      by_place (inr last) =
          let all : length names ≡ i = omega arith in
          (names, [], subst (λ (j : ℕ). After g start names j names) all whole.all, sym (append-nil names))

  -- a list that agrees with the finished one as far as it was followed is its front
  front_of : (found : List N) (i : ℕ) → i ≤ length names → take i found ≡ take i names → After g start found i found → (rest : List N) × (names ≡ found ++ rest)
  front_of found i few same grown =
      let f = found_by i few in
      let equal : f.0 ≡ found = Grows_once (arrivals g (take i names)) (start ∷ []) f.0 found f.2 (subst (λ ns. Grows (start ∷ []) (arrivals g ns) found) same grown) in
      (f.1, f.3 ∙ ap (λ ns. ns ++ f.1) equal)

module _ {N : Type 0} (g : Graph N) (start : N) (names found : List N) (taken : ℕ) (whole : IsWalked g start names) (w : IsWalking g start found taken) where
  -- both lists have the same first names
  same_taken : (i : ℕ) → i ≤ taken → (take i found ≡ take i names) × (i ≤ length names)
  same_taken zero few = (refl, omega arith)
  same_taken (suc i) few =
      let same = same_taken i (omega arith) in
      let early = w.earlier i (omega arith) in
      let f = found_by g start names whole i same.1 in
      let equal : f.0 ≡ early.0 = Grows_once (arrivals g (take i names)) (start ∷ []) f.0 early.0 f.2 (subst (λ ns. Grows (start ∷ []) (arrivals g ns) early.0) same.0 early.2) in
      let z = get_or early.0 i start in
      let there : slice_get early.0 i ≡ Some z = slice_get-get_or early.0 i start early.4 in
      let left : slice_get found i ≡ Some z = ap (λ ns. slice_get ns i) early.3 ∙ at_append_left early.0 early.1 i z there in
      let right : slice_get names i ≡ Some z = ap (λ ns. slice_get ns i) f.3 ∙ at_append_left f.0 f.1 i z (ap (λ ns. slice_get ns i) equal ∙ there) in
      one_more i z same.0 left right
    where
      one_more : (i : ℕ) (z : N) → take i found ≡ take i names → slice_get found i ≡ Some z → slice_get names i ≡ Some z → (take (suc i) found ≡ take (suc i) names) × (suc i ≤ length names)
      one_more i z same left right =
          let here : i < length found = slice_get_within found i z left in
          let there : i < length names = slice_get_within names i z right in
          let one : take (i + 1) found ≡ take i found ++ z ∷ [] = take_more found i z here ∙ ap (λ y. take i found ++ y ∷ []) (get_or_from_slice_get found i z z left) in
          let two : take (i + 1) names ≡ take i names ++ z ∷ [] = take_more names i z there ∙ ap (λ y. take i names ++ y ∷ []) (get_or_from_slice_get names i z z right) in
          let next : i + 1 ≡ suc i = omega arith in
          (ap (λ (j : ℕ). take j found) (sym next) ∙ (one ∙ (ap (λ ns. ns ++ z ∷ []) same ∙ (sym two ∙ ap (λ (j : ℕ). take j names) next))), omega arith)

  -- what is found is the front
  pub walking_front : (rest : List N) × (names ≡ found ++ rest)
  walking_front =
      let same = same_taken taken (omega arith) in
      front_of g start names whole found taken same.1 same.0 w.grown

-- one name more is followed
followed_more : {N : Type 0} (g : Graph N) (names : List N) (taken : ℕ) (n : N) → taken < length names → slice_get names taken ≡ Some n → arrivals g (take (taken + 1) names) ≡ arrivals g (take taken names) ++ nexts (g.arcs n)
followed_more g names taken n low there =
    let more : take (taken + 1) names ≡ take taken names ++ n ∷ [] = take_more names taken n low ∙ ap (λ y. take taken names ++ y ∷ []) (get_or_from_slice_get names taken n n there) in
    ap (arrivals g) more ∙ (flat_map-append (λ z. nexts (g.arcs z)) (take taken names) (n ∷ []) ∙ ap (λ zs. arrivals g (take taken names) ++ zs) (append-nil (nexts (g.arcs n))))

-- fronts of fronts
joined : {N : Type 0} (names out rest part now more : List N) → names ≡ out ++ rest → out ≡ part ++ more → part ≡ now → names ≡ now ++ (more ++ rest)
joined names out rest part now more whole front same = whole ∙ (ap (λ ns. ns ++ rest) (front ∙ ap (λ ns. ns ++ more) same) ∙ append_assoc now more rest)

-- also when the arcs of one more name are followed in part
pub walking_further : {N : Type 0} (g : Graph N) (start : N) (names found : List N) (taken : ℕ) → IsWalked g start names → IsWalking g start found taken → (n : N) (done left now : List N) → slice_get found taken ≡ Some n → nexts (g.arcs n) ≡ done ++ left → Grows found done now → (rest : List N) × (names ≡ now ++ rest)
walking_further {N} g start names found taken whole w n done left now at parts grows =
    let front = walking_front g start names found taken whole w in
    let there : slice_get names taken ≡ Some n = ap (λ ns. slice_get ns taken) front.1 ∙ at_append_left found front.0 taken n at in
    let low : taken < length names = slice_get_within names taken n there in
    let f = found_by g start names whole (taken + 1) (omega arith) in
    let cut = Grows-append (arrivals g (take taken names)) (nexts (g.arcs n)) (start ∷ []) f.0 (subst (λ zs. Grows (start ∷ []) zs f.0) (followed_more g names taken n low there) f.2) in
    let same = same_taken g start names found taken whole w taken (omega arith) in
    let here : cut.0 ≡ found = Grows_once (arrivals g (take taken names)) (start ∷ []) cut.0 found cut.1 (subst (λ ns. Grows (start ∷ []) (arrivals g ns) found) same.0 w.grown) in
    let onward : Grows found (done ++ left) f.0 = subst (λ zs. Grows found zs f.0) parts (subst (λ ns. Grows ns (nexts (g.arcs n)) f.0) here cut.2) in
    let part = Grows-append done left found f.0 onward in
    let now_is : part.0 ≡ now = Grows_once done found part.0 now part.1 grows in
    let more = Grows-front left part.0 f.0 part.2 in
    (more.0 ++ f.1, joined names f.0 f.1 part.0 now more.0 f.3 more.1 now_is)
