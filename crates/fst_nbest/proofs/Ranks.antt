-- What is ahead of moves is exact, and words compare by it.
use Rattle.std.proofs.Common.{◌≡◌, ◌⊎◌, inl, inr, ℕ, ◌+◌, ◌<◌, ◌≤◌, zero, suc, List, [], ◌∷◌, Option, None, Some, length, refl, sym, ap, subst, ◌∙◌, true, arith}
use Rattle.std.proofs.Common.{Ordering, Less, Equal, Greater}
use Rattle.std.specs.Ordering.{nat_cmp, ordering_then, ordering_reverse}
use Rattle.std.specs.Cmp.{nat_cmp_is, IsTotalOrder}
use Rattle.std.specs.Cmp.Lexicographic.{slice_cmp}
use Rattle.std.proofs.lemmas.Bool.{cases_lt, cases_eq}
use Rattle.std.proofs.lemmas.Cmp.{then_total, on_total, nat_cmp_total, nat_list_cmp_total}
use Rattle.std.proofs.lemmas.Option.{same_Some}
use Rattle.fst_semiring.specs.Cost.{Cost, infinite, cost_cmp, cost_total, plus}
use Rattle.fst_semiring.specs.declared.arc_type.ArcType.{ArcType}
use Rattle.fst_semiring.specs.Semiring.{cancels, times, IsCost}
use Rattle.fst_semiring.proofs.Order.{cost_cmp_equal, cost_cmp_same, plus_less, plus_least}
use Rattle.fst_semiring.proofs.Laws.{times_keeps}
use Rattle.fst_semiring.proofs.Cancelling.{times_cancels}
use Rattle.fst_machine.specs.BreadthFirst.{Has}
use Rattle.fst_nbest.specs.Words.{Words, WeightedWord, word_cmp, first_move, NoLess, Ahead, move_cmp, Says, IsAhead, ahead_of, ahead_of_stop, ahead_of_step, IsOrder, AreWords}

-- ---- orders

pub word_total : IsTotalOrder word_cmp
word_total = then_total (on_total (λ (a : WeightedWord). a.weight) cost_total) (then_total (on_total (λ (a : WeightedWord). length a.word) nat_cmp_total) (on_total (λ (a : WeightedWord). a.word) nat_list_cmp_total))

pub nat_less : (m n : ℕ) → m < n → nat_cmp m n ≡ Less
nat_less m n h = sym (nat_cmp_is m n Less h)

pub nat_same : (m : ℕ) → nat_cmp m m ≡ Equal
nat_same m = sym (nat_cmp_is m m Equal refl)

-- what a comparison of numbers says
pub nat_cases : (m n : ℕ) → ((m < n) × (nat_cmp m n ≡ Less)) ⊎ (((m ≡ n) × (nat_cmp m n ≡ Equal)) ⊎ ((n < m) × (nat_cmp m n ≡ Greater)))
nat_cases m n = by (cases_lt m n) (cases_eq m n)
  where
    by : (m < n) ⊎ (n ≤ m) → (m ≡ n) ⊎ (m ≡ n → ⊥) → ((m < n) × (nat_cmp m n ≡ Less)) ⊎ (((m ≡ n) × (nat_cmp m n ≡ Equal)) ⊎ ((n < m) × (nat_cmp m n ≡ Greater)))
    by (inl low) q = inl (low, nat_less m n low)
    by (inr high) (inl e) = inr (inl (e, sym (nat_cmp_is m n Equal e)))
    by (inr high) (inr other) = let h : n < m = omega arith in inr (inr (h, sym (nat_cmp_is m n Greater h)))

-- the first comparison decides, or it ties and the rest does
pub then_cases : (o p : Ordering) → ordering_then o p ≡ Less → (o ≡ Less) ⊎ ((o ≡ Equal) × (p ≡ Less))
then_cases Less p e = inl refl
then_cases Equal p e = inr (refl, e)
then_cases Greater p e = absurd (cc)

pub then_first : (o p : Ordering) → o ≡ Less → ordering_then o p ≡ Less
then_first o p e = ap (λ (q : Ordering). ordering_then q p) e

pub then_second : (o p : Ordering) → o ≡ Equal → p ≡ Less → ordering_then o p ≡ Less
then_second o p e f = ap (λ (q : Ordering). ordering_then q p) e ∙ f

-- words compare by weight, by length, by places
pub by_weight : (a b : WeightedWord) → cost_cmp a.weight b.weight ≡ Less → word_cmp a b ≡ Less
by_weight a b e = then_first (cost_cmp a.weight b.weight) _ e

pub by_length : (a b : WeightedWord) → a.weight ≡ b.weight → length a.word < length b.word → word_cmp a b ≡ Less
by_length a b e low =
    then_second (cost_cmp a.weight b.weight) _ (ap (λ (w : Cost). cost_cmp w b.weight) e ∙ cost_cmp_same b.weight)
    (then_first (nat_cmp (length a.word) (length b.word)) _ (nat_less (length a.word) (length b.word) low))

pub by_places : (a b : WeightedWord) → a.weight ≡ b.weight → length a.word ≡ length b.word → slice_cmp nat_cmp a.word b.word ≡ Less → word_cmp a b ≡ Less
by_places a b e long f =
    then_second (cost_cmp a.weight b.weight) _ (ap (λ (w : Cost). cost_cmp w b.weight) e ∙ cost_cmp_same b.weight)
    (then_second (nat_cmp (length a.word) (length b.word)) _ (ap (λ (n : ℕ). nat_cmp n (length b.word)) long ∙ nat_same (length b.word)) f)

pub cost_itself : (a : Cost) → cost_cmp a a ≡ Less → ⊥
cost_itself a e = let f = cost_cmp_same a in let g : Less ≡ Equal = sym e ∙ f in cc

pub cost_less_trans : (a b c : Cost) → cost_cmp a b ≡ Less → cost_cmp b c ≡ Less → cost_cmp a c ≡ Less
cost_less_trans a b c e f = cost_total.trans a b c e f

-- a factor that can be cancelled keeps what is less
pub less_times : (kind : ArcType) (w a b : Cost) → cancels kind ≡ true → IsCost kind w → (w ≡ infinite → ⊥) → cost_cmp a b ≡ Less → cost_cmp (times kind w a) (times kind w b) ≡ Less
less_times kind w a b cancel cost solid e = by (cost_cmp (times kind w a) (times kind w b)) refl
  where
    kept : plus (times kind w a) (times kind w b) ≡ times kind w a
    kept = times_keeps kind w a b (plus_less a b e)

    by : (o : Ordering) → cost_cmp (times kind w a) (times kind w b) ≡ o → cost_cmp (times kind w a) (times kind w b) ≡ Less
    by Less f = f
    by Equal f =
        let same : a ≡ b = times_cancels kind w a b cancel cost solid (cost_cmp_equal (times kind w a) (times kind w b) f) in
        absurd (cost_itself b (subst (λ (z : Cost). cost_cmp z b ≡ Less) same e))
    by Greater f =
        let back : cost_cmp (times kind w b) (times kind w a) ≡ Less = cost_total.antisymm (times kind w b) (times kind w a) ∙ ap ordering_reverse f in
        absurd (plus_least (times kind w a) (times kind w b) kept back)

-- ranks: weights, and lengths where these tie
pub NoLess-trans : (a b c : Cost) (i j k : ℕ) → NoLess a i b j → NoLess b j c k → NoLess a i c k
NoLess-trans a b c i j k (inl e) (inl f) = inl (cost_less_trans a b c e f)
NoLess-trans a b c i j k (inl e) (inr f) = inl (subst (λ (z : Cost). cost_cmp a z ≡ Less) f.0 e)
NoLess-trans a b c i j k (inr e) (inl f) = inl (subst (λ (z : Cost). cost_cmp z c ≡ Less) (sym e.0) f)
NoLess-trans a b c i j k (inr e) (inr f) = inr (e.0 ∙ f.0, omega (arith, e.1, f.1))

pub NoLess-antisym : (a b : Cost) (i j : ℕ) → NoLess a i b j → NoLess b j a i → (a ≡ b) × (i ≡ j)
NoLess-antisym a b i j (inl e) (inl f) = absurd (cost_itself a (cost_less_trans a b a e f))
NoLess-antisym a b i j (inl e) (inr f) = absurd (cost_itself a (subst (λ (z : Cost). cost_cmp a z ≡ Less) f.0 e))
NoLess-antisym a b i j (inr e) (inl f) = absurd (cost_itself b (subst (λ (z : Cost). cost_cmp b z ≡ Less) e.0 f))
NoLess-antisym a b i j (inr e) (inr f) = (e.0, omega (arith, e.1, f.1))

pub NoLess-times : (kind : ArcType) (w a b : Cost) (p i j : ℕ) → cancels kind ≡ true → IsCost kind w → (w ≡ infinite → ⊥) → NoLess a i b j → NoLess (times kind w a) (p + i) (times kind w b) (p + j)
NoLess-times kind w a b p i j cancel cost solid (inl e) = inl (less_times kind w a b cancel cost solid e)
NoLess-times kind w a b p i j cancel cost solid (inr e) = inr (ap (λ (z : Cost). times kind w z) e.0, omega (arith, e.1))

pub NoLess-suc : (kind : ArcType) (w a b : Cost) (i j : ℕ) → cancels kind ≡ true → IsCost kind w → (w ≡ infinite → ⊥) → NoLess a i b j → NoLess (times kind w a) (suc i) (times kind w b) (suc j)
NoLess-suc kind w a b i j cancel cost solid (inl e) = inl (less_times kind w a b cancel cost solid e)
NoLess-suc kind w a b i j cancel cost solid (inr e) = inr (ap (λ (z : Cost). times kind w z) e.0, omega (arith, e.1))

-- what comes first in the order of moves has no more ahead
pub move_less : (m j : ℕ) (e f : Ahead) → move_cmp m e j f ≡ Less → (cost_cmp e.total f.total ≡ Less) ⊎ ((e.total ≡ f.total) × ((e.arcs < f.arcs) ⊎ ((e.arcs ≡ f.arcs) × (m < j))))
move_less m j e f h = by_total (then_cases (cost_cmp e.total f.total) _ h)
  where
    by_move : (nat_cmp m j ≡ Less) → e.arcs ≡ f.arcs → (e.arcs < f.arcs) ⊎ ((e.arcs ≡ f.arcs) × (m < j))
    by_move g same = by (nat_cases m j)
      where
        by : ((m < j) × (nat_cmp m j ≡ Less)) ⊎ (((m ≡ j) × (nat_cmp m j ≡ Equal)) ⊎ ((j < m) × (nat_cmp m j ≡ Greater))) → (e.arcs < f.arcs) ⊎ ((e.arcs ≡ f.arcs) × (m < j))
        by (inl r) = inr (same, r.0)
        by (inr (inl r)) = absurd (let q : Less ≡ Equal = sym g ∙ r.1 in cc)
        by (inr (inr r)) = absurd (let q : Less ≡ Greater = sym g ∙ r.1 in cc)

    by_arcs : (nat_cmp e.arcs f.arcs ≡ Less) ⊎ ((nat_cmp e.arcs f.arcs ≡ Equal) × (nat_cmp m j ≡ Less)) → (e.arcs < f.arcs) ⊎ ((e.arcs ≡ f.arcs) × (m < j))
    by_arcs q = by (nat_cases e.arcs f.arcs) q
      where
        by : ((e.arcs < f.arcs) × (nat_cmp e.arcs f.arcs ≡ Less)) ⊎ (((e.arcs ≡ f.arcs) × (nat_cmp e.arcs f.arcs ≡ Equal)) ⊎ ((f.arcs < e.arcs) × (nat_cmp e.arcs f.arcs ≡ Greater)))
            → (nat_cmp e.arcs f.arcs ≡ Less) ⊎ ((nat_cmp e.arcs f.arcs ≡ Equal) × (nat_cmp m j ≡ Less)) → (e.arcs < f.arcs) ⊎ ((e.arcs ≡ f.arcs) × (m < j))
        by (inl r) s = inl r.0
        by (inr (inl r)) (inl s) = absurd (let q : Equal ≡ Less = sym r.1 ∙ s in cc)
        by (inr (inl r)) (inr s) = by_move s.1 r.0
        by (inr (inr r)) (inl s) = absurd (let q : Greater ≡ Less = sym r.1 ∙ s in cc)
        by (inr (inr r)) (inr s) = absurd (let q : Greater ≡ Equal = sym r.1 ∙ s.0 in cc)

    by_total : (cost_cmp e.total f.total ≡ Less) ⊎ ((cost_cmp e.total f.total ≡ Equal) × (ordering_then (nat_cmp e.arcs f.arcs) (nat_cmp m j) ≡ Less))
        → (cost_cmp e.total f.total ≡ Less) ⊎ ((e.total ≡ f.total) × ((e.arcs < f.arcs) ⊎ ((e.arcs ≡ f.arcs) × (m < j))))
    by_total (inl g) = inl g
    by_total (inr g) = inr (cost_cmp_equal e.total f.total g.0, by_arcs (then_cases (nat_cmp e.arcs f.arcs) (nat_cmp m j) g.1))

pub move_NoLess : (m j : ℕ) (e f : Ahead) → move_cmp m e j f ≡ Less → NoLess e.total e.arcs f.total f.arcs
move_NoLess m j e f h = by (move_less m j e f h)
  where
    by : (cost_cmp e.total f.total ≡ Less) ⊎ ((e.total ≡ f.total) × ((e.arcs < f.arcs) ⊎ ((e.arcs ≡ f.arcs) × (m < j)))) → NoLess e.total e.arcs f.total f.arcs
    by (inl g) = inl g
    by (inr (e0, (inl low))) = inr (e0, omega (arith, low))
    by (inr (e0, (inr same))) = inr (e0, omega (arith, same.0))

-- ---- what is ahead of moves

module _ {N : Type 0} (kind : ArcType) (g : Words N) (dist : N → Cost) (count : N → ℕ) (cancel : cancels kind ≡ true) (good : AreWords kind g dist count) where
  -- a word has no less ahead than its first move
  pub word_ahead : (x : N) (word : List ℕ) (v : Cost) → Says kind g x word v → (e : Ahead) × (ahead_of kind g dist count x (first_move word) ≡ Some e) × NoLess e.total e.arcs v (length word)
  word_ahead x [] v says = (record { total = v; arcs = 0 }, ap (ahead_of_stop kind g dist count) says, inr (refl, omega arith))
  word_ahead x (k ∷ word) v (w, y, u, step, says, weight) =
      let h = good.ahead x y k w step in
      let rest : NoLess (times kind w (dist y)) (suc (count y)) (times kind w u) (suc (length word)) = NoLess-suc kind w (dist y) u (count y) (length word) cancel (good.cost x y k w step) (good.solid x y k w step) (h.least word u says) in
      (record { total = times kind w (dist y); arcs = suc (count y) }, ap (ahead_of_step kind g dist count) step, subst (λ (z : Cost). NoLess (times kind w (dist y)) (suc (count y)) z (suc (length word))) (sym weight) rest)

  -- and some word has just this
  pub move_word : (x : N) (m : ℕ) (e : Ahead) → ahead_of kind g dist count x m ≡ Some e → (word : List ℕ) × Says kind g x word e.total × (length word ≡ e.arcs) × (first_move word ≡ m)
  move_word x zero e is = by_stop (g.stop x) refl is
    where
      by_stop : (o : Option Cost) → g.stop x ≡ o → ahead_of_stop kind g dist count o ≡ Some e → (word : List ℕ) × Says kind g x word e.total × (length word ≡ e.arcs) × (first_move word ≡ 0)
      by_stop None f h = absurd (cc)
      by_stop (Some v) f h =
          let same : record { total = v; arcs = 0 } ≡ e = same_Some _ e h in
          ([], f ∙ ap (λ (a : Ahead). Some a.total) same, ap (λ (a : Ahead). a.arcs) same, refl)
  move_word x (suc k) e is = by_step (g.step x k) refl is
    where
      by_step : (o : Option (Cost × N)) → g.step x k ≡ o → ahead_of_step kind g dist count o ≡ Some e → (word : List ℕ) × Says kind g x word e.total × (length word ≡ e.arcs) × (first_move word ≡ suc k)
      by_step None f h = absurd (cc)
      by_step (Some (w, y)) f h =
          let same : record { total = times kind w (dist y); arcs = suc (count y) } ≡ e = same_Some _ e h in
          let r = good.ahead x y k w f in
          (k ∷ r.word, (w, y, dist y, f, r.says, sym (ap (λ (a : Ahead). a.total) same)), ap suc r.long ∙ ap (λ (a : Ahead). a.arcs) same, refl)

  -- the first of all moves of a name from which words go on has what is ahead of the name
  pub first_ahead : (x : N) (m : ℕ) (moves : List ℕ) (d : Cost) (c : ℕ) (e : Ahead) → IsAhead kind g x d c → IsOrder kind g dist count x (m ∷ moves) → ahead_of kind g dist count x m ≡ Some e → (e.total ≡ d) × (e.arcs ≡ c)
  first_ahead x m moves d c e h order is =
      let own = move_word x m e is in
      let there = word_ahead x h.word d h.says in
      let above : NoLess d c e.total e.arcs = subst (λ (n : ℕ). NoLess d c e.total n) own.2 (h.least own.0 e.total own.1) in
      let below : NoLess e.total e.arcs d c = subst (λ (n : ℕ). NoLess e.total e.arcs d n) h.long (NoLess-trans e.total there.0.total d e.arcs there.0.arcs (length h.word) (first_least there.0 (first_move h.word) there.1 (order.all (first_move h.word) there.0 there.1)) there.2) in
      let both = NoLess-antisym d e.total c e.arcs above below in
      (sym both.0, sym both.1)
    where
      first_least : (f : Ahead) (j : ℕ) → ahead_of kind g dist count x j ≡ Some f → Has (m ∷ moves) j → NoLess e.total e.arcs f.total f.arcs
      first_least f j is_f (inl same) =
          let one : e ≡ f = same_Some e f (sym is ∙ (ap (ahead_of kind g dist count x) same ∙ is_f)) in
          inr (ap (λ (a : Ahead). a.total) one, omega (arith, ap (λ (a : Ahead). a.arcs) one))
      first_least f j is_f (inr later) =
          let one : order.ordered.0 ≡ e = same_Some order.ordered.0 e (sym order.ordered.1 ∙ is) in
          subst (λ (a : Ahead). NoLess a.total a.arcs f.total f.arcs) one (move_NoLess m j order.ordered.0 f (order.ordered.2 j f later is_f))

  -- a name from which words go on has a move
  pub some_move : (x : N) (moves : List ℕ) (d : Cost) (c : ℕ) → IsAhead kind g x d c → IsOrder kind g dist count x moves → moves ≡ [] → ⊥
  some_move x moves d c h order none =
      let there = word_ahead x h.word d h.says in
      subst (λ (ms : List ℕ). Has ms (first_move h.word)) none (order.all (first_move h.word) there.0 there.1)
