-- A machine that is told by its states, by the names that it numbers, or as connected, is one machine.
use Rattle.std.proofs.Common.{◌≡◌, ◌↔◌, inl, inr, ℕ, zero, suc, ◌<◌, List, [], ◌∷◌, Option, None, Some, length, map, get_or, slice_get, refl, sym, ap, ◌∙◌, subst, arith}
use Rattle.std.specs.List.{AllZip}
use Rattle.std.proofs.lemmas.Option.{get_or_from_slice_get, slice_get-get_or, slice_get_within}
use Rattle.fst_semiring.specs.Cost.{Cost}
use Rattle.fst_machine.specs.Machine.{Arc, State, Machine}
use Rattle.fst_machine.specs.Graph.{Graph, graph_of, no_state, renamed}
use Rattle.fst_machine.specs.Letters.{Letter, letter_of}
use Rattle.fst_machine.specs.BreadthFirst.{Apart, Has}
use Rattle.fst_machine.specs.Numbering.{IsNumbered}
use Rattle.fst_machine.specs.Connected.{IsConnected, Kept}
use Rattle.fst_machine.proofs.Elements.{Apart_at, at_Has, Has_at}

-- ---- lists, arcs and states

-- lists with the same elements in the same places
pub one_list : {X : Type 0} (xs ys : List X) → length xs ≡ length ys → ((i : ℕ) (d : X) → i < length xs → get_or xs i d ≡ get_or ys i d) → xs ≡ ys
one_list [] [] size same = refl
one_list [] (y ∷ ys) size same = absurd (omega (arith, size))
one_list (x ∷ xs) [] size same = absurd (omega (arith, size))
one_list (x ∷ xs) (y ∷ ys) size same =
    let first : x ≡ y = same 0 x (omega arith) in
    let rest : xs ≡ ys = one_list xs ys (omega (arith, size)) (λ i d low. same (suc i) d (omega (arith, low))) in
    rw (first, rest) refl

-- states with one final weight and the same arcs
pub one_state : {V : Type 0} (s t : State V) → s.final ≡ t.final → s.arcs ≡ t.arcs → s ≡ t
one_state {V} s t final arcs = ap (λ (w : V). state w s.arcs) final ∙ ap (state t.final) arcs
  where
    state : V → List (Arc V ℕ) → State V
    state w listed = record { final = w; arcs = listed }

-- machines with one start and the same states
pub one_whole : {V : Type 0} (m n : Machine V) → m.start ≡ n.start → m.states ≡ n.states → m ≡ n
one_whole {V} m n start states = ap (λ (s : Option ℕ). machine s m.states) start ∙ ap (machine n.start) states
  where
    machine : Option ℕ → List (State V) → Machine V
    machine s listed = record { start = s; states = listed }

-- arcs with one letter and one end
pub one_arc : (b c : Arc Cost ℕ) → letter_of b ≡ letter_of c → b.next ≡ c.next → b ≡ c
one_arc b c letters next = ap (λ (l : Letter). arc l b.next) letters ∙ ap (arc (letter_of c)) next
  where
    arc : Letter → ℕ → Arc Cost ℕ
    arc l n = record { ilabel = l.ilabel; olabel = l.olabel; weight = l.weight; next = n }

-- lists that stand to one list, place by place, in a way in which one thing stands to each of its elements
pub one_zip : {A B : Type 0} (R : A → B → Type 0) → ((x : A) (y z : B) → R x y → R x z → y ≡ z) → (xs : List A) (ys zs : List B) → AllZip R xs ys → AllZip R xs zs → ys ≡ zs
one_zip R one [] [] [] left right = refl
one_zip R one [] [] (z ∷ zs) left right = absurd right
one_zip R one [] (y ∷ ys) zs left right = absurd left
one_zip R one (x ∷ xs) [] zs left right = absurd left
one_zip R one (x ∷ xs) (y ∷ ys) [] left right = absurd right
one_zip R one (x ∷ xs) (y ∷ ys) (z ∷ zs) left right = rw (one x y z left.0 right.0, one_zip R one xs ys zs left.1 right.1) refl

-- machines whose graphs have the same arcs and final weights in each state
pub one_machine : (m n : Machine Cost) → m.start ≡ n.start → length m.states ≡ length n.states → ((i : ℕ) → i < length m.states → ((graph_of m).final i ≡ (graph_of n).final i) × ((graph_of m).arcs i ≡ (graph_of n).arcs i)) → m ≡ n
one_machine m n start size same = one_whole m n start (one_list m.states n.states size at)
  where
    at : (i : ℕ) (d : State Cost) → i < length m.states → get_or m.states i d ≡ get_or n.states i d
    at i d low =
        let left : get_or m.states i d ≡ get_or m.states i no_state = get_or_from_slice_get m.states i (get_or m.states i no_state) d (slice_get-get_or m.states i no_state low) in
        let right : get_or n.states i d ≡ get_or n.states i no_state = get_or_from_slice_get n.states i (get_or n.states i no_state) d (slice_get-get_or n.states i no_state (omega (arith, low, size))) in
        left ∙ (one_state (get_or m.states i no_state) (get_or n.states i no_state) (same i low).0 (same i low).1 ∙ sym right)

-- ---- numbers of names

module _ {N : Type 0} (names : List N) (apart : Apart names) (d : N) where
  one_number : (i j : ℕ) → i < length names → j < length names → get_or names i d ≡ get_or names j d → i ≡ j
  one_number i j low below same = Apart_at names i j (get_or names i d) apart (slice_get-get_or names i d low) (slice_get-get_or names j d below ∙ ap Some (sym same))

  -- arcs that stand for the same arcs
  one_numbering : (arcs others : List (Arc Cost ℕ)) → ((k : ℕ) (a : Arc Cost ℕ) → slice_get arcs k ≡ Some a → a.next < length names) → ((k : ℕ) (a : Arc Cost ℕ) → slice_get others k ≡ Some a → a.next < length names)
      → map (renamed (λ j. get_or names j d)) arcs ≡ map (renamed (λ j. get_or names j d)) others → arcs ≡ others
  one_numbering [] [] within inside same = refl
  one_numbering [] (b ∷ others) within inside same = absurd cc
  one_numbering (a ∷ arcs) [] within inside same = absurd cc
  one_numbering (a ∷ arcs) (b ∷ others) within inside same =
      let head : renamed (λ j. get_or names j d) a ≡ renamed (λ j. get_or names j d) b = cc in
      let tail : map (renamed (λ j. get_or names j d)) arcs ≡ map (renamed (λ j. get_or names j d)) others = cc in
      let next : a.next ≡ b.next = one_number a.next b.next (within 0 a refl) (inside 0 b refl) (ap (λ (c : Arc Cost N). c.next) head) in
      let first : a ≡ b = one_arc a b (ap (λ (c : Arc Cost N). letter_of c) head) next in
      let rest : arcs ≡ others = one_numbering arcs others (λ k c there. within (suc k) c there) (λ k c there. inside (suc k) c there) tail in
      rw (first, rest) refl

-- a place inside a list is not empty
outside : {X : Type 0} (xs : List X) (j : ℕ) → j < length xs → slice_get xs j ≡ None → ⊥
outside [] j inside none = omega (arith, inside)
outside (x ∷ xs) zero inside none = absurd cc
outside (x ∷ xs) (suc j) inside none = outside xs j (omega (arith, inside)) none

-- the machine of names, numbered
pub one_numbered : {N : Type 0} (g : Graph N) (names : List N) (m n : Machine Cost) → Apart names → IsNumbered g names m → IsNumbered g names n → m ≡ n
one_numbered {N} g names m n apart one two = one_machine m n (one.start ∙ sym two.start) (one.states ∙ sym two.states) at
  where
    at : (i : ℕ) → i < length m.states → ((graph_of m).final i ≡ (graph_of n).final i) × ((graph_of m).arcs i ≡ (graph_of n).arcs i)
    at i low = by_name (slice_get names i) refl
      where
        by_name : (o : Option N) → slice_get names i ≡ o → ((graph_of m).final i ≡ (graph_of n).final i) × ((graph_of m).arcs i ≡ (graph_of n).arcs i)
        by_name None none = absurd (outside names i (omega (arith, low, one.states)) none)
        by_name (Some name) there =
            let below : i < length names = slice_get_within names i name there in (
              sym (one.final i name there) ∙ two.final i name there,
              one_numbering names apart name ((graph_of m).arcs i) ((graph_of n).arcs i) (λ k a has. one.within i k a below has) (λ k a has. two.within i k a below has) (sym (one.arcs i name name there) ∙ two.arcs i name name there),
            )

-- ---- connected machines

-- each number of the list is below those behind it
abbrev pub Ascends : List ℕ → Type 0
Ascends xs = (i j p q : ℕ) → i < j → slice_get xs i ≡ Some p → slice_get xs j ≡ Some q → p < q

tail_ascends : (x : ℕ) (xs : List ℕ) → Ascends (x ∷ xs) → Ascends xs
tail_ascends x xs up i j p q less one two = up (suc i) (suc j) p q (omega (arith, less)) one two

head_below : (x : ℕ) (xs : List ℕ) → Ascends (x ∷ xs) → (p : ℕ) → Has xs p → x < p
head_below x xs up p has = let at = Has_at xs p has in up 0 (suc at.0) x p (omega arith) refl at.1

pub Ascends-Apart : (xs : List ℕ) → Ascends xs → Apart xs
Ascends-Apart [] up = tt
Ascends-Apart (x ∷ xs) up = ((λ has. omega (arith, head_below x xs up x has)), Ascends-Apart xs (tail_ascends x xs up))

-- ascending lists of the same numbers
pub one_ascending : (xs ys : List ℕ) → Ascends xs → Ascends ys → ((p : ℕ) → Has xs p ↔ Has ys p) → xs ≡ ys
one_ascending [] [] up rise same = refl
one_ascending [] (y ∷ ys) up rise same = absurd ((same y).1 (inl refl))
one_ascending (x ∷ xs) [] up rise same = absurd ((same x).0 (inl refl))
one_ascending (x ∷ xs) (y ∷ ys) up rise same = rw (first, one_ascending xs ys (tail_ascends x xs up) (tail_ascends y ys rise) (λ p. (there p, back p))) refl
  where
    first : x ≡ y
    first = by ((same x).0 (inl refl)) ((same y).1 (inl refl))
      where
        by : Has (y ∷ ys) x → Has (x ∷ xs) y → x ≡ y
        by (inl e) k = sym e
        by (inr h) (inl e) = e
        by (inr h) (inr k) = absurd (omega (arith, head_below y ys rise x h, head_below x xs up y k))

    there : (p : ℕ) → Has xs p → Has ys p
    there p has = by ((same p).0 (inr has))
      where
        by : Has (y ∷ ys) p → Has ys p
        by (inl e) = absurd (omega (arith, first, e, head_below x xs up p has))
        by (inr h) = h

    back : (p : ℕ) → Has ys p → Has xs p
    back p has = by ((same p).1 (inr has))
      where
        by : Has (x ∷ xs) p → Has xs p
        by (inl e) = absurd (omega (arith, first, e, head_below y ys rise p has))
        by (inr h) = h

-- the arcs that are kept
one_kept : (kept : List ℕ) → Apart kept → (arcs new others : List (Arc Cost ℕ)) → Kept kept arcs new → Kept kept arcs others → new ≡ others
one_kept kept apart [] [] [] one two = refl
one_kept kept apart [] [] (c ∷ others) one two = absurd two
one_kept kept apart [] (b ∷ new) others one two = absurd one
one_kept kept apart (a ∷ arcs) [] [] one two = refl
one_kept kept apart (a ∷ arcs) [] (c ∷ others) one (inl two) = one_kept kept apart arcs [] (c ∷ others) one.1 two.1
one_kept kept apart (a ∷ arcs) [] (c ∷ others) one (inr two) = absurd (one.0 (at_Has kept c.next a.next two.0))
one_kept kept apart (a ∷ arcs) (b ∷ new) [] (inl one) two = one_kept kept apart arcs (b ∷ new) [] one.1 two.1
one_kept kept apart (a ∷ arcs) (b ∷ new) [] (inr one) two = absurd (two.0 (at_Has kept b.next a.next one.0))
one_kept kept apart (a ∷ arcs) (b ∷ new) (c ∷ others) (inl one) (inl two) = one_kept kept apart arcs (b ∷ new) (c ∷ others) one.1 two.1
one_kept kept apart (a ∷ arcs) (b ∷ new) (c ∷ others) (inl one) (inr two) = absurd (one.0 (at_Has kept c.next a.next two.0))
one_kept kept apart (a ∷ arcs) (b ∷ new) (c ∷ others) (inr one) (inl two) = absurd (two.0 (at_Has kept b.next a.next one.0))
one_kept kept apart (a ∷ arcs) (b ∷ new) (c ∷ others) (inr one) (inr two) =
    let next : b.next ≡ c.next = Apart_at kept b.next c.next a.next apart one.0 two.0 in
    let letters : letter_of b ≡ letter_of c = one.1 ∙ sym two.1 in
    let first : b ≡ c = one_arc b c letters next in
    rw (first, one_kept kept apart arcs new others one.2 two.2) refl

-- the connected machine
pub one_connected : (m c d : Machine Cost) → IsConnected m c → IsConnected m d → c ≡ d
one_connected m c d one two = one_machine c d start size at
  where
    lists : one.kept ≡ two.kept
    lists = one_ascending one.kept two.kept one.ascending two.ascending (λ p. ((λ has. (two.useful p).1 ((one.useful p).0 has)), (λ has. (one.useful p).1 ((two.useful p).0 has))))

    size : length c.states ≡ length d.states
    size = one.states ∙ (ap (λ (kept : List ℕ). length kept) lists ∙ sym two.states)

    start_there : (i : ℕ) → c.start ≡ Some i → d.start ≡ Some i
    start_there i e = let from = (one.start i).0 e in (two.start i).1 (from.0, from.1, ap (λ (kept : List ℕ). slice_get kept i) (sym lists) ∙ from.2)

    start_back : (i : ℕ) → d.start ≡ Some i → c.start ≡ Some i
    start_back i e = let from = (two.start i).0 e in (one.start i).1 (from.0, from.1, ap (λ (kept : List ℕ). slice_get kept i) lists ∙ from.2)

    start : c.start ≡ d.start
    start = by c.start d.start refl refl
      where
        by : (o p : Option ℕ) → c.start ≡ o → d.start ≡ p → c.start ≡ d.start
        by (Some i) p e f = e ∙ sym (start_there i e)
        by None (Some j) e f = start_back j f ∙ sym f
        by None None e f = e ∙ sym f

    at : (i : ℕ) → i < length c.states → ((graph_of c).final i ≡ (graph_of d).final i) × ((graph_of c).arcs i ≡ (graph_of d).arcs i)
    at i low =
        let here : slice_get one.kept i ≡ Some (get_or one.kept i 0) = slice_get-get_or one.kept i 0 (omega (arith, low, one.states)) in
        let there : slice_get two.kept i ≡ Some (get_or one.kept i 0) = ap (λ (kept : List ℕ). slice_get kept i) (sym lists) ∙ here in
        let arcs : Kept one.kept ((graph_of m).arcs (get_or one.kept i 0)) ((graph_of d).arcs i) = subst (λ (kept : List ℕ). Kept kept ((graph_of m).arcs (get_or one.kept i 0)) ((graph_of d).arcs i)) (sym lists) (two.arcs i (get_or one.kept i 0) there) in (
          one.final i (get_or one.kept i 0) here ∙ sym (two.final i (get_or one.kept i 0) there),
          one_kept one.kept (Ascends-Apart one.kept one.ascending) ((graph_of m).arcs (get_or one.kept i 0)) ((graph_of c).arcs i) ((graph_of d).arcs i) (one.arcs i (get_or one.kept i 0) here) arcs,
        )
