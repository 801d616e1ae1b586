-- Two words that lead to one name of another deterministic graph with the same word weights lead to names of equal
-- behaviour, where the distance from each name to the final names is One.
use Rattle.std.proofs.Common.{◌≡◌, ◌≢◌, ◌⊎◌, inl, inr, ◌↔◌, true, Option, ℕ, List, [], ◌∷◌, ◌++◌, Some, slice_get, sym, ap, ◌∙◌, subst}
use Rattle.fst_semiring.specs.Cost.{Cost, infinite, plus}
use Rattle.fst_semiring.specs.declared.arc_type.ArcType.{ArcType}
use Rattle.fst_semiring.specs.Semiring.{cancels, one_of, times, IsCost}
use Rattle.fst_semiring.proofs.Laws.{times_assoc, times_one, times_keeps}
use Rattle.fst_semiring.proofs.OfKind.{IsCost-times}
use Rattle.fst_semiring.proofs.Cancelling.{times_cancels}
use Rattle.fst_semiring.proofs.Order.{plus_antisym}
use Rattle.fst_machine.specs.Machine.{Arc}
use Rattle.fst_machine.specs.Graph.{Graph}
use Rattle.fst_machine.specs.Letters.{letter_of}
use Rattle.fst_machine.specs.Distance.{IsFinalDistance}
use Rattle.fst_distance.proofs.Potential.{times_not_zero, zero_or_not}
use Rattle.fst_trim.specs.Weighed.{IsWeighted}
use Rattle.fst_trim.specs.WordWeights.{IsSingle, Weighs, WordWeighs}
use Rattle.fst_minimize.specs.Behaviour.{Alike, Follows}
use Rattle.fst_minimize.proofs.Stable.{stable_alike}
use Rattle.fst_minimize.proofs.Spelling.{Goes, starts_with, arc_before, word_ends, ends_word, joins, goes_on, Goes_kind, one_word, no_better, swapped}

-- Each word of g has the total Times its weight in o, and o has no other words.
pub record TotalTimes {N M : Type 0} (kind : ArcType) (total : Cost) (g : Graph N) (o : Graph M) : Type 0 where
  pub there : (x : List ℕ) (w : Cost) → WordWeighs kind g x w → WordWeighs kind o x (times kind total w)
  pub back : (x : List ℕ) (v : Cost) → WordWeighs kind o x v → (w : Cost) × WordWeighs kind g x w × (v ≡ times kind total w)

-- Each arc leads from a name that is meant to one that is, the distance from each of these to the final names is One,
-- and labels on an arc are equal.
pub record IsPushedGraph {N : Type 0} (kind : ArcType) (g : Graph N) (D : N → Type 0) : Type 0 where
  pub single : IsSingle g
  pub values : IsWeighted kind g
  pub within : (p : N) (k : ℕ) (a : Arc Cost N) → D p → slice_get (g.arcs p) k ≡ Some a → D a.next
  pub one : (p : N) → D p → IsFinalDistance kind g p (one_of kind)
  pub acceptor : (p : N) (k : ℕ) (a : Arc Cost N) → slice_get (g.arcs p) k ≡ Some a → a.olabel ≡ a.ilabel

-- products regrouped
three : (kind : ArcType) (d t a w : Cost) → times kind (times kind d (times kind t a)) w ≡ times kind d (times kind t (times kind a w))
three kind d t a w = times_assoc kind d (times kind t a) w ∙ ap (times kind d) (times_assoc kind t a w)

-- the value of an option is one
pub same_start : {X : Type 0} (o : Option X) (x y : X) → o ≡ Some x → o ≡ Some y → x ≡ y
same_start o x y e f = let g : Some x ≡ Some y = sym e ∙ f in cc

module _ {N : Type 0} (kind : ArcType) (g : Graph N) (D : N → Type 0) (cancel : cancels kind ≡ true) (h : IsPushedGraph kind g D) where
  -- What goes on from p with weight w goes on from q with some u, and A Times w is B Times u.
  abbrev pub Scaled : Cost → Cost → N → N → Type 0
  Scaled A B p q = (z : List ℕ) (w : Cost) → Weighs kind g p z w → (u : Cost) × Weighs kind g q z u × (times kind A w ≡ times kind B u)

  -- then B is no worse than A
  scaled_order : (A B : Cost) (p q : N) → D p → D q → Scaled A B p q → plus B A ≡ B
  scaled_order A B p q here there scaled =
      let best = one_word kind g p (h.one p here) in
      let u = scaled best.0 (one_of kind) best.1 in
      let least = no_better kind g q best.0 u.0 (h.one q there) u.1 in
      let kept : plus (times kind B (one_of kind)) (times kind B u.0) ≡ times kind B (one_of kind) = times_keeps kind B (one_of kind) u.0 least in
      let same : A ≡ times kind B u.0 = sym (times_one kind A) ∙ u.2 in
      ap (plus B) same ∙ (ap (λ z. plus z (times kind B u.0)) (sym (times_one kind B)) ∙ (kept ∙ times_one kind B))

  scaled_same : (A B : Cost) (p q : N) → D p → D q → Scaled A B p q → Scaled B A q p → A ≡ B
  scaled_same A B p q here there one two = plus_antisym A B (scaled_order B A q p there here two) (scaled_order A B p q here there one)

  -- each word goes on with the same weight from both
  abbrev pub Twin : N → N → Type 0
  Twin p q = D p × D q × ((z : List ℕ) (w : Cost) → Weighs kind g p z w ↔ Weighs kind g q z w)

  scaled_half : (A B : Cost) (p q : N) → A ≡ B → IsCost kind A → A ≢ infinite → Scaled A B p q → (z : List ℕ) (w : Cost) → Weighs kind g p z w → Weighs kind g q z w
  scaled_half A B p q same of_kind some scaled z w weighs =
      let u = scaled z w weighs in
      let e : w ≡ u.0 = times_cancels kind A w u.0 cancel of_kind some (u.2 ∙ ap (λ b. times kind b u.0) (sym same)) in
      subst (λ v. Weighs kind g q z v) (sym e) u.1

  scaled_twin : (A B : Cost) (p q : N) → D p → D q → IsCost kind A → A ≢ infinite → Scaled A B p q → Scaled B A q p → Twin p q
  scaled_twin A B p q here there of_kind some one two =
      let same = scaled_same A B p q here there one two in
      let of_B = subst (λ z. IsCost kind z × (z ≢ infinite)) same (of_kind, some) in
      (here, there, (λ z w. (scaled_half A B p q same of_kind some one z w, scaled_half B A q p (sym same) of_B.0 of_B.1 two z w)))

  twin_sym : (p q : N) → Twin p q → Twin q p
  twin_sym p q t = (t.1, t.0, (λ z w. ((t.2 z w).1, (t.2 z w).0)))

  -- twins have one final weight
  twin_final : (p q : N) → Twin p q → g.final p ≡ g.final q
  twin_final p q t = by_zero (zero_or_not (g.final p)) (zero_or_not (g.final q))
    where
      by_zero : (g.final p ≡ infinite) ⊎ (g.final p ≡ infinite → ⊥) → (g.final q ≡ infinite) ⊎ (g.final q ≡ infinite → ⊥) → g.final p ≡ g.final q
      by_zero (inr some) other = (word_ends kind g q (g.final p) ((t.2 [] (g.final p)).0 (ends_word kind g p some))).0
      by_zero (inl none) (inr some) = sym (word_ends kind g p (g.final q) ((t.2 [] (g.final q)).1 (ends_word kind g q some))).0
      by_zero (inl none) (inl nor) = none ∙ sym nor

  -- an arc of a twin has one of the other beside it with the label of the first, which is no worse
  record Beside (q : N) (a : Arc Cost N) : Type 0 where
    place : ℕ
    arc : Arc Cost N
    has : slice_get (g.arcs q) place ≡ Some arc
    label : arc.ilabel ≡ a.ilabel
    no_worse : plus arc.weight a.weight ≡ arc.weight

  twin_beside : (p q : N) (k : ℕ) (a : Arc Cost N) → Twin p q → slice_get (g.arcs p) k ≡ Some a → Beside q a
  twin_beside p q k a t has =
      let best = one_word kind g a.next (h.one a.next (h.within p k a t.0 has)) in
      let w = times kind a.weight (one_of kind) in
      let s = starts_with kind g q a.ilabel best.0 w ((t.2 (a.ilabel ∷ best.0) w).0 (arc_before kind g p k a best.0 (one_of kind) has best.1)) in
      let least = no_better kind g s.arc.next best.0 s.rest (h.one s.arc.next (h.within q s.place s.arc t.1 s.has)) s.weighs in
      let kept : plus (times kind s.arc.weight (one_of kind)) (times kind s.arc.weight s.rest) ≡ times kind s.arc.weight (one_of kind) = times_keeps kind s.arc.weight (one_of kind) s.rest least in
      let same : a.weight ≡ times kind s.arc.weight s.rest = sym (times_one kind a.weight) ∙ s.weight in
      record {
        place = s.place;
        arc = s.arc;
        has = s.has;
        label = s.label;
        no_worse = ap (plus s.arc.weight) same ∙ (ap (λ z. plus z (times kind s.arc.weight s.rest)) (sym (times_one kind s.arc.weight)) ∙ (kept ∙ times_one kind s.arc.weight));
      }

  -- arcs of twins with one label weigh the same
  twin_weight : (p q : N) (k j : ℕ) (a b : Arc Cost N) → Twin p q → slice_get (g.arcs p) k ≡ Some a → slice_get (g.arcs q) j ≡ Some b → b.ilabel ≡ a.ilabel → plus b.weight a.weight ≡ b.weight → a.weight ≡ b.weight
  twin_weight p q k j a b t one two label no_worse =
      let o = twin_beside q p j b (twin_sym p q t) two in
      let same : o.arc ≡ a = h.single p o.place k o.arc a o.has one (o.label ∙ label) in
      let other : plus a.weight b.weight ≡ a.weight = subst (λ (c : Arc Cost N). plus c.weight b.weight ≡ c.weight) same o.no_worse in
      plus_antisym a.weight b.weight other no_worse

  -- and their ends are twins
  twin_goes : (p q : N) (k j : ℕ) (a b : Arc Cost N) → Twin p q → slice_get (g.arcs p) k ≡ Some a → slice_get (g.arcs q) j ≡ Some b → b.ilabel ≡ a.ilabel → a.weight ≡ b.weight → (z : List ℕ) (w : Cost) → Weighs kind g a.next z w → Weighs kind g b.next z w
  twin_goes p q k j a b t one two label weight z w weighs =
      let s = starts_with kind g q a.ilabel z (times kind a.weight w) ((t.2 (a.ilabel ∷ z) (times kind a.weight w)).0 (arc_before kind g p k a z w one weighs)) in
      let same : s.arc ≡ b = h.single q s.place j s.arc b s.has two (s.label ∙ sym label) in
      let as_a : s.arc.weight ≡ a.weight = ap (λ (c : Arc Cost N). c.weight) same ∙ sym weight in
      let kind_a = h.values.arcs p k a one in
      let e : w ≡ s.rest = times_cancels kind a.weight w s.rest cancel kind_a.0 kind_a.1 (s.weight ∙ ap (λ v. times kind v s.rest) as_a) in
      subst (λ v. Weighs kind g b.next z v) (sym e) (subst (λ (c : Arc Cost N). Weighs kind g c.next z s.rest) same s.weighs)

  twin_there : (p q : N) (k : ℕ) (a : Arc Cost N) → Twin p q → slice_get (g.arcs p) k ≡ Some a → Follows Twin a (g.arcs q)
  twin_there p q k a t has =
      let b = twin_beside p q k a t has in
      let weight = twin_weight p q k b.place a b.arc t has b.has b.label b.no_worse in
      let outputs : a.olabel ≡ b.arc.olabel = h.acceptor p k a has ∙ (sym b.label ∙ sym (h.acceptor q b.place b.arc b.has)) in
      let letters : letter_of a ≡ letter_of b.arc = λ i. record { ilabel = sym b.label i; olabel = outputs i; weight = weight i } in
      record {
        place = b.place;
        arc = b.arc;
        has = b.has;
        same = letters;
        tied = (
          h.within p k a t.0 has,
          h.within q b.place b.arc t.1 b.has,
          (λ z w. (twin_goes p q k b.place a b.arc t has b.has b.label weight z w, twin_goes q p b.place k b.arc a (twin_sym p q t) b.has has (sym b.label) (sym weight) z w)),
        );
      }

  -- so twins have equal behaviour
  pub twin_alike : (p q : N) → Twin p q → Alike g g p q
  twin_alike = stable_alike g g Twin (record {
    final = twin_final;
    there = twin_there;
    back = (λ p q k b t has. let f = twin_there q p k b (twin_sym p q t) has in record { place = f.place; arc = f.arc; has = f.has; same = f.same; tied = twin_sym b.next f.arc.next f.tied });
  })

  module _ {M : Type 0} (o : Graph M) (total : Cost) (s : N) (t : M) (start : g.start ≡ Some s) (begin : o.start ≡ Some t)
      (single : IsSingle o) (values : IsWeighted kind o) (tied : TotalTimes kind total g o) where
    -- a word from the start has the total Times its weight in the other graph, and the other way round
    word_there : (x : List ℕ) (w : Cost) → Weighs kind g s x w → Weighs kind o t x (times kind total w)
    word_there x w weighs =
        let there = tied.there x w (record { first = s; starts = start; weighs = weighs }) in
        subst (λ (m : M). Weighs kind o m x (times kind total w)) (same_start o.start there.first t there.starts begin) there.weighs

    word_back : (x : List ℕ) (v : Cost) → Weighs kind o t x v → (w : Cost) × Weighs kind g s x w × (v ≡ times kind total w)
    word_back x v weighs =
        let back = tied.back x v (record { first = t; starts = begin; weighs = weighs }) in
        (back.0, subst (λ (n : N). Weighs kind g n x back.0) (same_start g.start back.1.first s back.1.starts start) back.1.weighs, back.2)

    -- what goes on from p by the one word goes on from q by the other
    scaled : (x y : List ℕ) (a b c d : Cost) (p q : N) (r : M) → Goes kind g s x a p → Goes kind g s y b q → Goes kind o t x c r → Goes kind o t y d r → Scaled (times kind d (times kind total a)) (times kind c (times kind total b)) p q
    scaled x y a b c d p q r to_p to_q one two z w weighs =
        let first = goes_on kind o single t r x z c (times kind total (times kind a w)) one (word_there (x ++ z) (times kind a w) (joins kind g s p x z a w to_p weighs)) in
        let back = word_back (y ++ z) (times kind d first.0) (joins kind o t r y z d first.0 two first.1) in
        let last = goes_on kind g h.single s q y z b back.0 to_q back.1 in
        let left : times kind (times kind d (times kind total a)) w ≡ times kind d (times kind c first.0) = three kind d total a w ∙ ap (times kind d) first.2 in
        let inner : times kind d first.0 ≡ times kind total (times kind b last.0) = back.2 ∙ ap (times kind total) last.2 in
        let right : times kind (times kind c (times kind total b)) last.0 ≡ times kind c (times kind d first.0) = three kind c total b last.0 ∙ ap (times kind c) (sym inner) in
        (last.0, last.1, left ∙ (swapped kind c d first.0 ∙ sym right))

    -- two words that lead to one name of the other graph lead to names with equal behaviour
    pub one_name : IsCost kind total → total ≢ infinite → (x y : List ℕ) (a b c d : Cost) (p q : N) (r : M) → D p → D q → Goes kind g s x a p → Goes kind g s y b q → Goes kind o t x c r → Goes kind o t y d r → Alike g g p q
    one_name of_kind some x y a b c d p q r here there to_p to_q one two =
        let kind_a = Goes_kind kind g h.values s p x a to_p in
        let kind_d = Goes_kind kind o values t r y d two in
        let A = times kind d (times kind total a) in
        let of_A : IsCost kind A = IsCost-times kind d (times kind total a) kind_d.0 (IsCost-times kind total a of_kind kind_a.0) in
        let some_A : A ≢ infinite = times_not_zero kind d (times kind total a) kind_d.1 (times_not_zero kind total a some kind_a.1) in
        twin_alike p q (scaled_twin A (times kind c (times kind total b)) p q here there of_A some_A (scaled x y a b c d p q r to_p to_q one two) (scaled y x b a d c q p r to_q to_p two one))
