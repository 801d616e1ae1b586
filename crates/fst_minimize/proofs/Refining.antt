-- Numberings refined by rounds: what a round keeps, and what holds where it changes nothing.
use Rattle.std.proofs.Common.{◌≡◌, ◌⊎◌, inl, inr, ℕ, ◌<◌, zero, suc, List, [], ◌∷◌, Some, slice_get, sym, refl, ap, ap₂, ◌∙◌, subst, arith}
use Rattle.fst_semiring.specs.Cost.{Cost}
use Rattle.fst_machine.specs.Machine.{Arc}
use Rattle.fst_machine.specs.Graph.{Graph}
use Rattle.fst_machine.specs.Letters.{Letter, letter_of}
use Rattle.fst_machine.proofs.Elements.{at_Has}
use Rattle.fst_trim.specs.WordWeights.{IsSingle}
use Rattle.fst_minimize.specs.Behaviour.{Alike, GoesOn, Follows, IsStable}
use Rattle.fst_minimize.specs.Refining.{LabelsAscend, spelling, row, IsRefined, IsRound}
use Rattle.fst_minimize.proofs.Stable.{alike_stable, stable_alike}

-- Two lists of arcs with ascending labels, where each arc has one of the other list beside it, are paired arc for arc.
module _ {N M : Type 0} (R : N → M → Type 0) where
  -- the arcs have one letter and their ends are tied, place by place
  abbrev pub Paired : List (Arc Cost N) → List (Arc Cost M) → Type 0
  Paired [] [] = Unit {0}
  Paired [] (b ∷ ys) = ⊥
  Paired (a ∷ xs) [] = ⊥
  Paired (a ∷ xs) (b ∷ ys) = (letter_of a ≡ letter_of b) × R a.next b.next × Paired xs ys

  label_same : (a : Arc Cost N) (b : Arc Cost M) → letter_of a ≡ letter_of b → a.ilabel ≡ b.ilabel
  label_same a b e = ap (λ (l : Letter). l.ilabel) e

  abbrev Match : List (Arc Cost N) → List (Arc Cost M) → Type 0
  Match xs ys = (k : ℕ) (a : Arc Cost N) → slice_get xs k ≡ Some a → Follows R a ys

  abbrev Back : List (Arc Cost N) → List (Arc Cost M) → Type 0
  Back xs ys = (k : ℕ) (b : Arc Cost M) → slice_get ys k ≡ Some b → Follows (λ m n. R n m) b xs

  -- the first arcs are beside each other
  heads : (a : Arc Cost N) (b : Arc Cost M) (xs : List (Arc Cost N)) (ys : List (Arc Cost M)) → LabelsAscend (a ∷ xs) → LabelsAscend (b ∷ ys) → Follows R a (b ∷ ys) → Follows (λ m n. R n m) b (a ∷ xs) → (letter_of a ≡ letter_of b) × R a.next b.next
  heads a b xs ys up down f g = by_place f.place f.arc f.has f.same f.tied
    where
      earlier : a.ilabel < b.ilabel ⊎ (a.ilabel ≡ b.ilabel)
      earlier = from g.place g.arc g.has g.same
        where
          from : (k : ℕ) (c : Arc Cost N) → slice_get (a ∷ xs) k ≡ Some c → letter_of b ≡ letter_of c → a.ilabel < b.ilabel ⊎ (a.ilabel ≡ b.ilabel)
          from zero c e same = let here : a ≡ c = cc in inr (ap (λ (x : Arc Cost N). x.ilabel) here ∙ sym (ap (λ (l : Letter). l.ilabel) same))
          from (suc k) c e same = let low = up.0 c (at_Has xs k c e) in let l : b.ilabel ≡ c.ilabel = ap (λ (l : Letter). l.ilabel) same in inl (omega arith)

      by_place : (k : ℕ) (c : Arc Cost M) → slice_get (b ∷ ys) k ≡ Some c → letter_of a ≡ letter_of c → R a.next c.next → (letter_of a ≡ letter_of b) × R a.next b.next
      by_place zero c e same tied = let here : c ≡ b = cc in (same ∙ ap letter_of here, subst (λ (x : Arc Cost M). R a.next x.next) here tied)
      by_place (suc k) c e same tied =
          let low = down.0 c (at_Has ys k c e) in
          let l = label_same a c same in
          absurd (not_both earlier (omega arith))
        where
          not_both : a.ilabel < b.ilabel ⊎ (a.ilabel ≡ b.ilabel) → b.ilabel < a.ilabel → ⊥
          not_both (inl x) y = omega arith
          not_both (inr x) y = omega arith

  tail_there : (a : Arc Cost N) (b : Arc Cost M) (xs : List (Arc Cost N)) (ys : List (Arc Cost M)) → LabelsAscend (a ∷ xs) → a.ilabel ≡ b.ilabel → Match (a ∷ xs) (b ∷ ys) → Match xs ys
  tail_there a b xs ys up label m k c e = by_place f.place f.arc f.has f.same f.tied
    where
      f : Follows R c (b ∷ ys)
      f = m (suc k) c e

      by_place : (j : ℕ) (d : Arc Cost M) → slice_get (b ∷ ys) j ≡ Some d → letter_of c ≡ letter_of d → R c.next d.next → Follows R c ys
      by_place zero d h same tied =
          let here : b ≡ d = cc in
          let low = up.0 c (at_Has xs k c e) in
          let one : c.ilabel ≡ d.ilabel = label_same c d same in
          let two : b.ilabel ≡ d.ilabel = ap (λ (x : Arc Cost M). x.ilabel) here in
          absurd (omega arith)
      by_place (suc j) d h same tied = record { place = j; arc = d; has = h; same = same; tied = tied }

  tail_back : (a : Arc Cost N) (b : Arc Cost M) (xs : List (Arc Cost N)) (ys : List (Arc Cost M)) → LabelsAscend (b ∷ ys) → a.ilabel ≡ b.ilabel → Back (a ∷ xs) (b ∷ ys) → Back xs ys
  tail_back a b xs ys down label m k c e = by_place f.place f.arc f.has f.same f.tied
    where
      f : Follows (λ m n. R n m) c (a ∷ xs)
      f = m (suc k) c e

      by_place : (j : ℕ) (d : Arc Cost N) → slice_get (a ∷ xs) j ≡ Some d → letter_of c ≡ letter_of d → R d.next c.next → Follows (λ m n. R n m) c xs
      by_place zero d h same tied =
          let here : a ≡ d = cc in
          let low = down.0 c (at_Has ys k c e) in
          let one : c.ilabel ≡ d.ilabel = ap (λ (l : Letter). l.ilabel) same in
          let two : a.ilabel ≡ d.ilabel = ap (λ (x : Arc Cost N). x.ilabel) here in
          absurd (omega arith)
      by_place (suc j) d h same tied = record { place = j; arc = d; has = h; same = same; tied = tied }

  pub paired : (xs : List (Arc Cost N)) (ys : List (Arc Cost M)) → LabelsAscend xs → LabelsAscend ys → Match xs ys → Back xs ys → Paired xs ys
  paired [] [] up down m b = tt
  paired [] (y ∷ ys) up down m b = absurd (let f = b 0 y refl in let e = f.has in cc)
  paired (x ∷ xs) [] up down m b = absurd (let f = m 0 x refl in let e = f.has in cc)
  paired (x ∷ xs) (y ∷ ys) up down m b =
      let h = heads x y xs ys up down (m 0 x refl) (b 0 y refl) in
      let label = label_same x y h.0 in
      (h.0, h.1, paired xs ys up.1 down.1 (tail_there x y xs ys up label m) (tail_back x y xs ys down label b))

-- lists paired arc for arc spell the same, and their ends are tied
pub paired_spelling : {N M : Type 0} (R : N → M → Type 0) (xs : List (Arc Cost N)) (ys : List (Arc Cost M)) → Paired R xs ys → spelling xs ≡ spelling ys
paired_spelling R [] [] p = refl
paired_spelling R [] (y ∷ ys) p = absurd p
paired_spelling R (x ∷ xs) [] p = absurd p
paired_spelling R (x ∷ xs) (y ∷ ys) p = ap₂ (◌∷◌) p.0 (paired_spelling R xs ys p.2)

-- the ends of arcs that are in range
abbrev pub EndsBelow : ℕ → List (Arc Cost ℕ) → Type 0
EndsBelow n arcs = (k : ℕ) (a : Arc Cost ℕ) → slice_get arcs k ≡ Some a → a.next < n

-- lists paired arc for arc have one row, where ends that are tied have one number
pub paired_row : (R : ℕ → ℕ → Type 0) (C : ℕ → ℕ) (xs ys : List (Arc Cost ℕ)) → ((k : ℕ) (a b : Arc Cost ℕ) → slice_get xs k ≡ Some a → slice_get ys k ≡ Some b → R a.next b.next → C a.next ≡ C b.next)
    → Paired R xs ys → row C xs ≡ row C ys
paired_row R C [] [] same p = refl
paired_row R C [] (y ∷ ys) same p = absurd p
paired_row R C (x ∷ xs) [] same p = absurd p
paired_row R C (x ∷ xs) (y ∷ ys) same p = ap₂ (◌∷◌) (same 0 x y refl refl p.1) (paired_row R C xs ys (λ k a b e f. same (suc k) a b e f) p.2)

-- two states have one number
abbrev pub OneNumber : ℕ → (ℕ → ℕ) → ℕ → ℕ → Type 0
OneNumber n C p q = (p < n) × (q < n) × (C p ≡ C q)

-- in lists that spell the same, and whose ends have the same numbers, each arc has one beside it
beside : (C : ℕ → ℕ) (n : ℕ) (xs ys : List (Arc Cost ℕ)) → EndsBelow n xs → EndsBelow n ys → spelling xs ≡ spelling ys → row C xs ≡ row C ys → (k : ℕ) (a : Arc Cost ℕ) → slice_get xs k ≡ Some a → Follows (OneNumber n C) a ys
beside C n [] ys low less one two k a e = absurd (cc)
beside C n (x ∷ xs) [] low less one two k a e = absurd (cc)
beside C n (x ∷ xs) (y ∷ ys) low less one two zero a e =
    let here : x ≡ a = cc in
    let letter : letter_of x ≡ letter_of y = cc in
    let number : C x.next ≡ C y.next = cc in
    subst (λ (b : Arc Cost ℕ). Follows (OneNumber n C) b (y ∷ ys)) here
    (record { place = 0; arc = y; has = refl; same = letter; tied = (low 0 x refl, less 0 y refl, number) })
beside C n (x ∷ xs) (y ∷ ys) low less one two (suc k) a e =
    let letters : spelling xs ≡ spelling ys = cc in
    let numbers : row C xs ≡ row C ys = cc in
    let f = beside C n xs ys (λ k a e. low (suc k) a e) (λ k a e. less (suc k) a e) letters numbers k a e in
    record { place = suc f.place; arc = f.arc; has = f.has; same = f.same; tied = f.tied }

-- A graph over the numbers of n states, whose arcs stand by their labels.
module _ (g : Graph ℕ) (n : ℕ) (single : IsSingle g) (goes : GoesOn g) (ascend : (p : ℕ) → p < n → LabelsAscend (g.arcs p)) (within : (p : ℕ) → p < n → EndsBelow n (g.arcs p)) where
  pub alike_paired : (p q : ℕ) → p < n → q < n → Alike g g p q → Paired (Alike g g) (g.arcs p) (g.arcs q)
  alike_paired p q low less alike =
      let s = alike_stable g g single single goes goes in
      paired (Alike g g) (g.arcs p) (g.arcs q) (ascend p low) (ascend q less) (λ k a e. s.there p q k a alike e) (λ k b e. s.back p q k b alike e)

  -- what a numbering by final weights and spellings is
  pub first_refined : (C : ℕ → ℕ) → ((p q : ℕ) → p < n → q < n → C p ≡ C q → (g.final p ≡ g.final q) × (spelling (g.arcs p) ≡ spelling (g.arcs q)))
      → ((p q : ℕ) → p < n → q < n → g.final p ≡ g.final q → spelling (g.arcs p) ≡ spelling (g.arcs q) → C p ≡ C q) → IsRefined g n C
  first_refined C same other = record {
    coarse = λ p q low less alike. other p q low less ((alike_stable g g single single goes goes).final p q alike) (paired_spelling (Alike g g) (g.arcs p) (g.arcs q) (alike_paired p q low less alike));
    finals = λ p q low less e. (same p q low less e).0;
    letters = λ p q low less e. (same p q low less e).1;
  }

  -- a round keeps it
  pub round_refined : (C C2 : ℕ → ℕ) → IsRefined g n C → IsRound g n C C2 → IsRefined g n C2
  round_refined C C2 r s = record {
    coarse = λ p q low less alike. s.other p q low less (r.coarse p q low less alike) (paired_row (Alike g g) C (g.arcs p) (g.arcs q) (λ k a b e f t. r.coarse a.next b.next (within p low k a e) (within q less k b f) t) (alike_paired p q low less alike));
    finals = λ p q low less e. r.finals p q low less (s.same p q low less e).0;
    letters = λ p q low less e. r.letters p q low less (s.same p q low less e).0;
  }

  -- where a round splits nothing, states with one number have equal behaviour
  pub round_last : (C C2 : ℕ → ℕ) → IsRefined g n C → IsRound g n C C2 → ((p q : ℕ) → p < n → q < n → C p ≡ C q → C2 p ≡ C2 q)
      → (p q : ℕ) → p < n → q < n → C p ≡ C q → Alike g g p q
  round_last C C2 r s last p q low less e = stable_alike g g (OneNumber n C) stable p q (low, less, e)
    where
      there : (p q k : ℕ) (a : Arc Cost ℕ) → OneNumber n C p q → slice_get (g.arcs p) k ≡ Some a → Follows (OneNumber n C) a (g.arcs q)
      there p q k a t has = beside C n (g.arcs p) (g.arcs q) (within p t.0) (within q t.1) (r.letters p q t.0 t.1 t.2) (s.same p q t.0 t.1 (last p q t.0 t.1 t.2)).1 k a has

      turned : (p q : ℕ) → OneNumber n C p q → OneNumber n C q p
      turned p q t = (t.1, t.0, sym t.2)

      stable : IsStable g g (OneNumber n C)
      stable = record {
        final = λ p q t. r.finals p q t.0 t.1 t.2;
        there = there;
        back = λ p q k b t has. let f = there q p k b (turned p q t) has in record { place = f.place; arc = f.arc; has = f.has; same = f.same; tied = turned b.next f.arc.next f.tied };
      }
