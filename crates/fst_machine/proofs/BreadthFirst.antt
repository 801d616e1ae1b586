-- The breadth-first list and the list of a walk are the same, and there is one.
use Rattle.std.proofs.Common.{◌≡◌, ◌⊎◌, ◌↔◌, inl, inr, ℕ, ◌+◌, ◌<◌, ◌≤◌, zero, suc, List, [], ◌∷◌, ◌++◌, Some, length, take, drop, slice_get, get_or, sym, refl, ap, ◌∙◌, subst, arith, add-one}
use Rattle.std.proofs.Common.{take-append-drop}
use Rattle.std.proofs.lemmas.Bool.{cases_lt}
use Rattle.std.proofs.lemmas.Grind.{flat_map-append}
use Rattle.std.proofs.lemmas.List.{take_all, take_more_same}
use Rattle.std.proofs.lemmas.Option.{slice_get-get_or, get_or_from_slice_get}
use Rattle.fst_machine.specs.Graph.{Graph, nexts}
use Rattle.fst_machine.specs.BreadthFirst.{Has, LeadsTo, IsLeastPair, IsBreadthFirst, Grows, After, IsWalked}
use Rattle.fst_machine.proofs.Arcs.{at_append_left}
use Rattle.fst_machine.proofs.Elements.{Has_at, at_Has, Apart_at}
use Rattle.fst_machine.proofs.Walks.{Grows-append, Grows_once, Grows-front, Grows-has, Grows-kept, walked_begins, walked_apart, walked_closed, walked_earlier}
use Rattle.fst_machine.proofs.Appearances.{grown_first, grown_order, grows_in_order}
use Rattle.fst_machine.proofs.Pairs.{arrivals, offset, at_pair, pair_at, pair_lt, lt_pair, least_of_first, first_of_least}

-- the first i names of a list, and what stands among them
take_at : {X : Type 0} (xs : List X) (i j : ℕ) (x : X) → slice_get (take i xs) j ≡ Some x → (slice_get xs j ≡ Some x) × (j < i)
take_at xs zero j x e = absurd (cc)
take_at [] (suc i) j x e = absurd (cc)
take_at (y ∷ xs) (suc i) zero x e = (e, omega arith)
take_at (y ∷ xs) (suc i) (suc j) x e = let rest = take_at xs i j x e in (rest.0, omega (arith, rest.1))

pub at_take : {X : Type 0} (xs : List X) (i j : ℕ) (x : X) → slice_get xs j ≡ Some x → j < i → slice_get (take i xs) j ≡ Some x
at_take [] i j x e low = absurd (cc)
at_take (y ∷ xs) zero j x e low = absurd (omega arith)
at_take (y ∷ xs) (suc i) zero x e low = e
at_take (y ∷ xs) (suc i) (suc j) x e low = at_take xs i j x e (omega arith)

module _ {N : Type 0} (g : Graph N) (start : N) (names : List N) where
  -- all names together are the first of their number
  whole : take (length names) names ≡ names
  whole = take_all (length names) names (omega arith)

  -- the list of a walk is the breadth-first list
  pub breadth_first_of_walked : IsWalked g start names → IsBreadthFirst g start names
  breadth_first_of_walked w = record {
    begins = let front = walked_begins g start names w in ap (λ ns. slice_get ns 0) front.1;
    apart = walked_apart g start names w;
    closed = λ i k z h. subst (λ y. Has names y) h.leads (walked_closed g start names w h.name k h.arc (at_Has names i h.name h.there) h.has);
    found = found;
    ordered = λ n m y z i k j l later less e f one two. lt_pair g names y z i k j l one.leads two.leads (grown_order (arrivals g names) (start ∷ []) names n m y z (offset g names i + k) (offset g names j + l) ((λ none. none), tt) grown (omega arith) less e f (first_of_least g names y i k one) (first_of_least g names z j l two));
  }
    where
      grown : Grows (start ∷ []) (arrivals g names) names
      grown = subst (λ ns. Grows (start ∷ []) (arrivals g ns) names) whole w.all

      early : (n : ℕ) (z : N) → (start ≡ z) ⊎ Has (arrivals g (take n names)) z → slice_get names n ≡ Some z → 0 < n → (i : ℕ) × (k : ℕ) × LeadsTo g names z i k × (i < n)
      early n z (inl e) at later =
          let front = walked_begins g start names w in
          let first : slice_get names 0 ≡ Some z = ap (λ ns. slice_get ns 0) front.1 ∙ ap Some e in
          absurd (let same = Apart_at names 0 n z (walked_apart g start names w) first at in omega arith)
      early n z (inr h) at later =
          let place = Has_at (arrivals g (take n names)) z h in
          let pair = pair_at g (take n names) z place.0 place.1 in
          let there = take_at names n pair.0 pair.2.name pair.2.there in
          (pair.0, pair.1, record { name = pair.2.name; arc = pair.2.arc; there = there.0; has = pair.2.has; leads = pair.2.leads }, there.1)

      found : (n : ℕ) (z : N) → slice_get names n ≡ Some z → 0 < n → (i : ℕ) × (k : ℕ) × IsLeastPair g names z i k × (i < n)
      found n z at later =
          let place = grown_first (arrivals g names) (start ∷ []) names n z ((λ none. none), tt) grown (omega arith) at in
          let pair = least_of_first g names z place.0 place.1 in
          let sooner = early n z (walked_earlier g start names w n z at) at later in
          (pair.0, pair.1, pair.2, by_position (cases_lt sooner.0 pair.0) sooner.3 (λ before. pair.2.least sooner.0 sooner.1 sooner.2 (inl before)))
        where
          by_position : {i j : ℕ} → (i < j) ⊎ (j ≤ i) → i < n → (i < j → ⊥) → j < n
          by_position (inl before) low none = absurd (none before)
          by_position (inr late) low none = omega arith

  -- the breadth-first list is the list of a walk
  pub walked_of_breadth_first : IsBreadthFirst g start names → IsWalked g start names
  walked_of_breadth_first b = record { all = subst (λ ns. Grows (start ∷ []) (arrivals g ns) names) (sym whole) grown; before = before }
    where
      rest : (ns : List N) → slice_get ns 0 ≡ Some start → (more : List N) × (ns ≡ (start ∷ []) ++ more)
      rest [] e = absurd (cc)
      rest (n ∷ ns) e = (ns, (let same : n ≡ start = cc in ap (λ z. z ∷ ns) same))

      within : (z : N) → Has (arrivals g names) z → Has names z
      within z h =
          let place = Has_at (arrivals g names) z h in
          let pair = pair_at g names z place.0 place.1 in
          b.closed pair.0 pair.1 z pair.2

      grown : Grows (start ∷ []) (arrivals g names) names
      grown =
          let front = rest names b.begins in
          grows_in_order (arrivals g names) (start ∷ []) names (record {
            more = front.0;
            front = front.1;
            apart = b.apart;
            within = within;
            first = λ n z far e. let pair = b.found n z e (omega arith) in (offset g names pair.0 + pair.1, first_of_least g names z pair.0 pair.1 pair.2);
            ordered = λ n m y z k l far less e f one two. let i = least_of_first g names y k one in let j = least_of_first g names z l two in let earlier = pair_lt g names y z i.0 i.1 j.0 j.1 i.2.leads j.2.leads (b.ordered n m y z i.0 i.1 j.0 j.1 (omega arith) less e f i.2 j.2) in omega (arith, i.3, j.3);
          })

      before : (i : ℕ) → i < length names → (found : List N) × (rest : List N) × After g start names i found × (names ≡ found ++ rest) × (i < length found)
      before i low =
          let parts : arrivals g (take i names) ++ arrivals g (drop i names) ≡ arrivals g names = sym (flat_map-append (λ n. nexts (g.arcs n)) (take i names) (drop i names)) ∙ ap (arrivals g) (take-append-drop i names) in
          let cut = Grows-append (arrivals g (take i names)) (arrivals g (drop i names)) (start ∷ []) names (subst (λ zs. Grows (start ∷ []) zs names) (sym parts) grown) in
          let behind = Grows-front (arrivals g (drop i names)) cut.0 names cut.2 in
          let z = get_or names i start in
          let at : slice_get names i ≡ Some z = slice_get-get_or names i start low in
          let has = Has_at cut.0 z (standing i z at cut.0 cut.1 (cases_lt 0 i)) in
          let same = Apart_at names has.0 i z b.apart (ap (λ ns. slice_get ns has.0) behind.1 ∙ at_append_left cut.0 behind.0 has.0 z has.1) at in
          (cut.0, behind.0, cut.1, behind.1, omega (arith, has.2))
        where
          standing : (i : ℕ) (z : N) → slice_get names i ≡ Some z → (found : List N) → Grows (start ∷ []) (arrivals g (take i names)) found → (0 < i) ⊎ (i ≤ 0) → Has found z
          standing i z at found g' (inl later) =
              let pair = b.found i z at later in
              let leads = pair.2.leads in
              let earlier : LeadsTo g (take i names) z pair.0 pair.1 = record { name = leads.name; arc = leads.arc; there = at_take names i pair.0 leads.name leads.there pair.3; has = leads.has; leads = leads.leads } in
              Grows-has (arrivals g (take i names)) (start ∷ []) found z g' (at_Has (arrivals g (take i names)) (offset g (take i names) pair.0 + pair.1) z (at_pair g (take i names) z pair.0 pair.1 earlier))
          standing i z at found g' (inr first) =
              let none : i ≡ 0 = omega arith in
              let same : Some start ≡ Some z = sym b.begins ∙ (ap (slice_get names) (sym none) ∙ at) in
              let equal : start ≡ z = cc in
              Grows-kept (arrivals g (take i names)) (start ∷ []) found z g' (inl equal)

  -- so both say the same
  pub walked_is_breadth_first : IsWalked g start names ↔ IsBreadthFirst g start names
  walked_is_breadth_first = (breadth_first_of_walked, walked_of_breadth_first)

-- two walks from one start have the same first names, as far as the first of them goes
same_front : {N : Type 0} (g : Graph N) (start : N) (xs ys : List N) → IsWalked g start xs → IsWalked g start ys → (i : ℕ) → i ≤ length xs → (take i xs ≡ take i ys) × (i ≤ length ys)
same_front g start xs ys one two zero few = (refl, omega arith)
same_front {N} g start xs ys one two (suc i) few = by_length (same_front g start xs ys one two i (omega arith)) (cases_lt i (length ys))
  where
    found : (found : List N) × (rest : List N) × After g start xs i found × (xs ≡ found ++ rest) × (i < length found)
    found = one.before i (omega arith)

    by_length : (take i xs ≡ take i ys) × (i ≤ length ys) → (i < length ys) ⊎ (length ys ≤ i) → (take (suc i) xs ≡ take (suc i) ys) × (suc i ≤ length ys)
    by_length same (inr short) =
        let all : take i ys ≡ ys = take_all i ys short in
        let grown : Grows (start ∷ []) (arrivals g (take i xs)) ys = subst (λ ns. Grows (start ∷ []) (arrivals g ns) ys) (take_all (length ys) ys (omega arith) ∙ sym (same.0 ∙ all)) two.all in
        let equal : found.0 ≡ ys = Grows_once (arrivals g (take i xs)) (start ∷ []) found.0 ys found.2 grown in
        absurd (let size = ap length equal in let far = found.4 in omega arith)
    by_length same (inl further) =
        let other = two.before i further in
        let equal : found.0 ≡ other.0 = Grows_once (arrivals g (take i xs)) (start ∷ []) found.0 other.0 found.2 (subst (λ ns. Grows (start ∷ []) (arrivals g ns) other.0) (sym same.0) other.2) in
        let z = get_or found.0 i start in
        let there : slice_get found.0 i ≡ Some z = slice_get-get_or found.0 i start found.4 in
        let left : slice_get xs i ≡ Some z = ap (λ ns. slice_get ns i) found.3 ∙ at_append_left found.0 found.1 i z there in
        let right : slice_get ys i ≡ Some z = ap (λ ns. slice_get ns i) other.3 ∙ at_append_left other.0 other.1 i z (ap (λ ns. slice_get ns i) (sym equal) ∙ there) in
        let element : get_or xs i start ≡ get_or ys i start = get_or_from_slice_get xs i z start left ∙ sym (get_or_from_slice_get ys i z start right) in
        let more : take (i + 1) xs ≡ take (i + 1) ys = take_more_same xs ys i start (omega arith) further same.0 element in
        (ap (λ (j : ℕ). take j xs) (sym (add-one i)) ∙ (more ∙ ap (λ (j : ℕ). take j ys) (add-one i)), omega arith)

-- there is one list of a walk
pub one_walk : {N : Type 0} (g : Graph N) (start : N) (xs ys : List N) → IsWalked g start xs → IsWalked g start ys → xs ≡ ys
one_walk g start xs ys one two =
    let there = same_front g start xs ys one two (length xs) (omega arith) in
    let back = same_front g start ys xs two one (length ys) (omega arith) in
    let size : length xs ≡ length ys = omega (arith, there.1, back.1) in
    sym (take_all (length xs) xs (omega arith)) ∙ (there.0 ∙ take_all (length xs) ys (omega arith))

-- and so one breadth-first list
pub one_breadth_first : {N : Type 0} (g : Graph N) (start : N) (xs ys : List N) → IsBreadthFirst g start xs → IsBreadthFirst g start ys → xs ≡ ys
one_breadth_first g start xs ys one two = one_walk g start xs ys (walked_of_breadth_first g start xs one) (walked_of_breadth_first g start ys two)
