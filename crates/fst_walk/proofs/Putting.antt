-- Arcs with numbers in place of names, while names are found.
use Rattle.std.proofs.Common.{◌≡◌, ℕ, ◌+◌, ◌-◌, ◌<◌, ◌≤◌, zero, suc, Bool, true, List, [], ◌∷◌, ◌++◌, Some, length, map, take, get_or, slice_get, refl, sym, ap, subst, ◌∙◌, append_assoc, append-nil, arith}
use Rattle.std.specs.Bool.{Decides}
use Rattle.std.specs.List.{All, AllZip}
use Rattle.std.proofs.lemmas.List.{get_or_append_left, length-append, map-append, map_more}
use Rattle.std.proofs.lemmas.List.Elements.{All-append, All-nil, All-push}
use Rattle.std.proofs.lemmas.Slice.Zip.{AllZip-long}
use Rattle.std.proofs.Math.Seq.{get_or-append_right, get_or-append_seam}
use Rattle.fst_semiring.specs.Cost.{Cost}
use Rattle.fst_semiring.specs.Semiring.{InRange}
use Rattle.fst_machine.specs.BreadthFirst.{Grows}
use Rattle.fst_machine.specs.Graph.{nexts}
use Rattle.fst_machine.specs.Machine.{Arc}
use Rattle.fst_machine.proofs.Arcs.{at_append_left}
use Rattle.fst_machine.proofs.Walks.{Grows-front, Grows-then}
use Rattle.fst_walk.specs.Making.{IsFound, IsNumberedArc, Passes, PutsArcs, placed_arc}

pub All-front : {X : Type 0} (P : X → Type 0) (xs ys : List X) → All P (xs ++ ys) → All P xs
All-front P xs ys all k d low = subst P (get_or_append_left xs ys d k low) (all k d (omega (arith, low, length-append xs ys)))

pub All-last : {X : Type 0} (P : X → Type 0) (xs : List X) (x : X) → All P (xs ++ x ∷ []) → P x
All-last P xs x all = subst P (get_or-append_seam xs x [] x) (all (length xs) x (omega (arith, length-append xs (x ∷ []))))

pub All-behind : {X : Type 0} (P : X → Type 0) (xs ys : List X) → All P (xs ++ ys) → All P ys
All-behind P xs ys all k d low =
    let at : length xs + k - length xs ≡ k = omega arith in
    subst P (get_or-append_right xs ys (length xs + k) d (omega arith) ∙ ap (λ (i : ℕ). get_or ys i d) at) (all (length xs + k) d (omega (arith, low, length-append xs ys)))

module _ {A B : Type 0} where
  pub zip_push : (R : A → B → Type 0) (xs : List A) (ys : List B) (x : A) (y : B) → AllZip R xs ys → R x y → AllZip R (xs ++ x ∷ []) (ys ++ y ∷ [])
  zip_push R [] [] x y h r = (r, tt)
  zip_push R [] (b ∷ ys) x y h r = absurd h
  zip_push R (a ∷ xs) [] x y h r = absurd h
  zip_push R (a ∷ xs) (b ∷ ys) x y h r = (h.0, zip_push R xs ys x y h.1 r)

  pub zip_append : (R : A → B → Type 0) (xs : List A) (ys : List B) (more : List A) (others : List B) → AllZip R xs ys → AllZip R more others → AllZip R (xs ++ more) (ys ++ others)
  zip_append R [] [] more others h both = both
  zip_append R [] (b ∷ ys) more others h both = absurd h
  zip_append R (a ∷ xs) [] more others h both = absurd h
  zip_append R (a ∷ xs) (b ∷ ys) more others h both = (h.0, zip_append R xs ys more others h.1 both)

  pub zip_weaker : (R S : A → B → Type 0) → ((a : A) (b : B) → R a b → S a b) → (xs : List A) (ys : List B) → AllZip R xs ys → AllZip S xs ys
  zip_weaker R S f [] [] h = tt
  zip_weaker R S f [] (b ∷ ys) h = absurd h
  zip_weaker R S f (a ∷ xs) [] h = absurd h
  zip_weaker R S f (a ∷ xs) (b ∷ ys) h = (f a b h.0, zip_weaker R S f xs ys h.1)

  -- what stands beside an element
  pub zip_at : (R : A → B → Type 0) (xs : List A) (ys : List B) (i : ℕ) (x : A) → AllZip R xs ys → slice_get xs i ≡ Some x → (y : B) × (slice_get ys i ≡ Some y) × R x y
  zip_at R [] ys i x h e = absurd (cc)
  zip_at R (a ∷ xs) [] i x h e = absurd h
  zip_at R (a ∷ xs) (b ∷ ys) zero x h e = (b, refl, (let same : a ≡ x = cc in subst (λ z. R z b) same h.0))
  zip_at R (a ∷ xs) (b ∷ ys) (suc i) x h e = zip_at R xs ys i x h.1 e

  pub zip_back : (R : A → B → Type 0) (xs : List A) (ys : List B) (i : ℕ) (y : B) → AllZip R xs ys → slice_get ys i ≡ Some y → (x : A) × (slice_get xs i ≡ Some x) × R x y
  zip_back R xs [] i y h e = absurd (cc)
  zip_back R [] (b ∷ ys) i y h e = absurd h
  zip_back R (a ∷ xs) (b ∷ ys) zero y h e = (a, refl, (let same : b ≡ y = cc in subst (λ z. R a z) same h.0))
  zip_back R (a ∷ xs) (b ∷ ys) (suc i) y h e = zip_back R xs ys i y h.1 e

-- one item more of a list, mapped
pub items_more : {X Y : Type 0} (f : X → Y) (xs : List X) (i : ℕ) (x : X) → i < length xs → x ≡ get_or xs i x → map f (take (i + 1) xs) ≡ map f (take i xs) ++ f x ∷ []
items_more f xs i x within e = map_more f xs i x within ∙ ap (λ y. map f (take i xs) ++ f y ∷ []) (sym e)

-- what stands before and after an element
pub around : {X : Type 0} (xs : List X) (i : ℕ) (x : X) → slice_get xs i ≡ Some x → (rest : List X) × (xs ≡ take i xs ++ x ∷ rest)
around [] i x e = absurd (cc)
around (y ∷ xs) zero x e = (xs, (let same : y ≡ x = cc in ap (λ z. z ∷ xs) same))
around (y ∷ xs) (suc i) x e = let r = around xs i x e in (r.0, ap (λ zs. y ∷ zs) r.1)

module _ {N : Type 0} where
  -- an arc stays numbered while names are found
  pub later_arc : (old xs new : List N) → Grows old xs new → (a : Arc Cost N) (c : Arc Cost ℕ) → IsNumberedArc old a c → IsNumberedArc new a c
  later_arc old xs new g a c h =
      let front = Grows-front xs old new g in
      record { ilabel = h.ilabel; olabel = h.olabel; weight = h.weight; next = ap (λ ns. slice_get ns c.next) front.1 ∙ at_append_left old front.0 c.next a.next h.next }

  -- no arcs yet
  pub puts_none : (limit : ℕ) (may : Type 0) (names : List N) (out : List (Arc Cost ℕ)) (fits : Bool) → length names ≤ limit → Decides fits may → PutsArcs limit may [] names names out out fits
  puts_none limit may names out fits few decides = record {
    grown = refl;
    few = few;
    range = ((λ t. (decides.0 t, All-nil (λ (a : Arc Cost N). InRange a.weight))), (λ all. decides.1 all.0));
    put = λ t. ([], sym (append-nil out), tt);
  }

  -- one arc more
  pub puts_more : (limit : ℕ) (may : Type 0) (so_far : List (Arc Cost N)) (old mid new : List N) (start out more : List (Arc Cost ℕ)) (fits fit : Bool) (a : Arc Cost N) (next : ℕ)
      → PutsArcs limit may so_far old mid start out fits → IsFound limit mid a.next new next → Decides fit ((fits ≡ true) × InRange a.weight) → (fit ≡ true → more ≡ out ++ placed_arc a next ∷ [])
      → PutsArcs limit may (so_far ++ a ∷ []) old new start more fit
  puts_more limit may so_far old mid new start out more fits fit a next puts found range put = record {
    grown = subst (λ zs. Grows old zs new) (sym (map-append (λ (z : Arc Cost N). z.next) so_far (a ∷ []))) (Grows-then (nexts so_far) (a.next ∷ []) old mid new puts.grown found.grown);
    few = found.few;
    range = (
      (λ t. let before = puts.range.0 (range.0 t).0 in (before.0, All-push (λ (z : Arc Cost N). InRange z.weight) so_far a before.1 (range.0 t).1)),
      (λ all. range.1 (puts.range.1 (all.0, All-front (λ (z : Arc Cost N). InRange z.weight) so_far (a ∷ []) all.1), All-last (λ (z : Arc Cost N). InRange z.weight) so_far a all.1)),
    );
    put = λ t.
        let before = puts.put (range.0 t).0 in (
          before.0 ++ placed_arc a next ∷ [],
          put t ∙ (ap (λ zs. zs ++ placed_arc a next ∷ []) before.1 ∙ append_assoc start before.0 (placed_arc a next ∷ [])),
          zip_push (IsNumberedArc new) so_far before.0 a (placed_arc a next)
              (zip_weaker (IsNumberedArc mid) (IsNumberedArc new) (later_arc mid (a.next ∷ []) new found.grown) so_far before.0 before.2)
              (record { ilabel = refl; olabel = refl; weight = refl; next = found.there }),
        );
  }

  -- the arcs that were put are as many as those for which they stand
  pub puts_many : (limit : ℕ) (may : Type 0) (arcs : List (Arc Cost N)) (old new : List N) (out more : List (Arc Cost ℕ)) (fits : Bool) → PutsArcs limit may arcs old new out more fits → fits ≡ true → length more ≡ length out + length arcs
  puts_many limit may arcs old new out more fits puts t =
      let put = puts.put t in
      omega (arith, ap length put.1, length-append out put.0, AllZip-long (IsNumberedArc new) arcs put.0 put.2)

  -- where there were none, they stand for these
  pub puts_whole : (limit : ℕ) (may : Type 0) (arcs : List (Arc Cost N)) (old new : List N) (more : List (Arc Cost ℕ)) (fits : Bool) → PutsArcs limit may arcs old new [] more fits → fits ≡ true → AllZip (IsNumberedArc new) arcs more
  puts_whole limit may arcs old new more fits puts t = let put = puts.put t in subst (λ (zs : List (Arc Cost ℕ)). AllZip (IsNumberedArc new) arcs zs) (sym put.1) put.2

  -- Some arcs more, if they may go on, which is so where all before fit and all may be put.
  pub puts_then : (limit : ℕ) (may other : Type 0) (xs ys : List (Arc Cost N)) (old mid new : List N) (start out more : List (Arc Cost ℕ)) (fits go fit : Bool)
      → (other → may) → Decides go ((fits ≡ true) × other) → PutsArcs limit may xs old mid start out fits → PutsArcs limit (go ≡ true) ys mid new out more fit
      → PutsArcs limit other (xs ++ ys) old new start more fit
  puts_then limit may other xs ys old mid new start out more fits go fit narrower goes before after = record {
    grown = subst (λ zs. Grows old zs new) (sym (map-append (λ (z : Arc Cost N). z.next) xs ys)) (Grows-then (nexts xs) (nexts ys) old mid new before.grown after.grown);
    few = after.few;
    range = (
      (λ t.
          let own = after.range.0 t in
          let on = goes.0 own.0 in
          (on.1, All-append (λ (z : Arc Cost N). InRange z.weight) xs ys (before.range.0 on.0).1 own.1)),
      (λ all. after.range.1 (goes.1 (before.range.1 (narrower all.0, All-front (λ (z : Arc Cost N). InRange z.weight) xs ys all.1), all.0), All-behind (λ (z : Arc Cost N). InRange z.weight) xs ys all.1)),
    );
    put = λ t.
        let own = after.put t in
        let first = before.put (goes.0 (after.range.0 t).0).0 in (
          first.0 ++ own.0,
          own.1 ∙ (ap (λ zs. zs ++ own.0) first.1 ∙ append_assoc start first.0 own.0),
          zip_append (IsNumberedArc new) xs first.0 ys own.0 (zip_weaker (IsNumberedArc mid) (IsNumberedArc new) (later_arc mid (nexts ys) new after.grown) xs first.0 first.2) own.2,
        );
  }

  -- more names than the limit by some arcs are more by all
  pub passes_then : (limit : ℕ) (all so_far part rest : List (Arc Cost N)) (old mid : List N)
      → Grows old (nexts so_far) mid → Passes limit mid (nexts part) → all ≡ so_far ++ (part ++ rest) → Passes limit old (nexts all)
  passes_then limit all so_far part rest old mid grown p whole = record {
    front = nexts so_far ++ p.front;
    rest = p.rest ++ nexts rest;
    parts = ap nexts whole
        ∙ (map-append (λ (z : Arc Cost N). z.next) so_far (part ++ rest)
        ∙ (ap (λ zs. nexts so_far ++ zs) (map-append (λ (z : Arc Cost N). z.next) part rest)
        ∙ (ap (λ zs. nexts so_far ++ (zs ++ nexts rest)) p.parts
        ∙ (ap (λ zs. nexts so_far ++ zs) (append_assoc p.front p.rest (nexts rest)) ∙ sym (append_assoc (nexts so_far) p.front (p.rest ++ nexts rest))))));
    found = p.found;
    grown = Grows-then (nexts so_far) p.front old mid p.found grown p.grown;
    more = p.more;
  }

-- the arcs before and after one, mapped
pub around-map : {X Y : Type 0} (f : X → Y) (xs : List X) (i : ℕ) (x : X) → slice_get xs i ≡ Some x → (rest : List Y) × (map f xs ≡ map f (take i xs) ++ f x ∷ rest)
around-map f xs i x e = let r = around xs i x e in (map f r.0, ap (map f) r.1 ∙ map-append f (take i xs) (x ∷ r.0))
