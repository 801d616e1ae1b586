-- How the first words are found: a family is taken, walked to the end of its best word, and leaves one family at each
-- name on the way.
use Rattle.std.proofs.Common.{◌≡◌, ◌⊎◌, inl, inr, ℕ, ◌+◌, ◌<◌, ◌≤◌, suc, List, [], ◌∷◌, ◌++◌, Some, length, refl, sym, ap, subst, ◌∙◌, true, false, append_assoc, append-nil, arith}
use Rattle.std.proofs.Common.{Ordering, Less, Equal, Greater}
use Rattle.std.specs.Ordering.{nat_cmp, ordering_then, is_gt}
use Rattle.std.specs.Cmp.Lexicographic.{slice_cmp}
use Rattle.std.specs.List.Sorted.{IsPermutation}
use Rattle.std.proofs.lemmas.Option.{same_Some}
use Rattle.std.proofs.lemmas.List.{length-append, append_cancel_left}
use Rattle.std.proofs.lemmas.List.Sorted.{IsPermutation-sym}
use Rattle.std.proofs.lemmas.Map.Lookups.{exact_bytes, exact_unsigned}
use Rattle.fst_semiring.specs.Cost.{Cost, infinite, cost_cmp}
use Rattle.fst_semiring.specs.declared.arc_type.ArcType.{ArcType}
use Rattle.fst_semiring.specs.Semiring.{cancels, one_of, times}
use Rattle.fst_semiring.proofs.Order.{cost_cmp_equal, then_equal}
use Rattle.fst_semiring.proofs.Laws.{one_not_zero, one_times, times_assoc, times_only_zero}
use Rattle.fst_semiring.proofs.OfKind.{IsCost-one, IsCost-times}
use Rattle.fst_machine.specs.BreadthFirst.{Has}
use Rattle.fst_machine.proofs.Elements.{Has-append_left, Has-append_right, Has-append_cases}
use Rattle.fst_nbest.specs.Words.{Words, WeightedWord, word_cmp, first_move, Ahead, Says, ahead_of, ahead_of_step, ahead_of_stop, InOrder, IsOrder, AreWords, AreFirstWords}
use Rattle.fst_nbest.specs.Families.{Family, route, family_cmp, Holds, AreDisjoint, IsFamily, IsCovered, IsLeading}
use Rattle.fst_nbest.proofs.Ranks.{by_weight, by_length, by_places, cost_less_trans, first_ahead, nat_cases, move_word, then_cases, word_ahead}
use Rattle.fst_nbest.proofs.Covering.{Behind, Has-permutation, AreApart-permutation, apart_cons, apart_head, apart_tail, ascends_push, by_behind, first_once, holds_behind, holds_says, leads_on, route_less, route_same, says_holds, says_rest, slice_behind, slice_move}

-- the family behind one more step
abbrev pub next_family : {N : Type 0} → ArcType → Family N → ℕ → Cost → N → List ℕ → Family N
next_family kind f k w y moves = record { prefix = f.prefix ++ k ∷ []; at = y; front = times kind f.front w; moves = moves }

-- the family with these moves left
abbrev pub left_family : {N : Type 0} → Family N → List ℕ → Family N
left_family f moves = record { prefix = f.prefix; at = f.at; front = f.front; moves = moves }

-- ---- what the rest of moves has

no_move : (word : List ℕ) → first_move word ≡ 0 → word ≡ []
no_move [] e = refl
no_move (k ∷ word) e = absurd (omega (arith, e))

some_first : (word : List ℕ) (k : ℕ) → first_move word ≡ suc k → (rest : List ℕ) × (word ≡ k ∷ rest)
some_first [] k e = absurd (omega (arith, e))
some_first (j ∷ word) k e = let same : j ≡ k = omega (arith, e) in (word, ap (λ (i : ℕ). i ∷ word) same)

other_moves : (moves : List ℕ) (m j : ℕ) → (Has moves m → ⊥) → Has moves j → m ≡ j → ⊥
other_moves moves m j none there e = none (subst (λ (i : ℕ). Has moves i) (sym e) there)

module _ {N : Type 0} (kind : ArcType) (g : Words N) (dist : N → Cost) (count : N → ℕ) (start : N) where
  -- families in another order
  pub covered_permutation : (listed : List WeightedWord) (xs ys : List (Family N)) → IsPermutation xs ys → IsCovered kind g dist count start listed xs → IsCovered kind g dist count start listed ys
  covered_permutation listed xs ys p c = record {
    ascends = c.ascends;
    says = c.says;
    good = λ f there. c.good f (Has-permutation xs ys f p there);
    apart = AreApart-permutation kind g xs ys p c.apart;
    after = λ f b a there holds here. c.after f b a (Has-permutation xs ys f p there) holds here;
    all = λ b says. by b (c.all b says);
  }
    where
      by : (b : WeightedWord) → Has listed b ⊎ ((f : Family N) × Has xs f × Holds kind g f b) → Has listed b ⊎ ((f : Family N) × Has ys f × Holds kind g f b)
      by b (inl here) = inl here
      by b (inr (f, there, holds)) = inr (f, Has-permutation ys xs f (IsPermutation-sym xs ys p) there, holds)

  -- a family leads where fewer families are beside it
  pub leading_fewer : (core : Family N) (xs ys : List (Family N)) (t : Cost) (n : ℕ) → ((f : Family N) → Has ys f → Has xs f) → IsLeading kind g dist count start core xs t n → IsLeading kind g dist count start core ys t n
  leading_fewer core xs ys t n fewer l = record {
    move = l.move;
    others = l.others;
    ahead = l.ahead;
    moves = l.moves;
    is = l.is;
    weighs = l.weighs;
    counts = l.counts;
    beats = λ rest u says first weight long f b there holds. l.beats rest u says first weight long f b (fewer f there) holds;
  }

  pub leading_permutation : (core : Family N) (xs ys : List (Family N)) (t : Cost) (n : ℕ) → IsPermutation xs ys → IsLeading kind g dist count start core xs t n → IsLeading kind g dist count start core ys t n
  leading_permutation core xs ys t n p l = leading_fewer core xs ys t n (λ f there. Has-permutation xs ys f p there) l

  -- a family with no moves left has no words
  pub covered_empty : (listed : List WeightedWord) (e : Family N) (families : List (Family N)) → e.moves ≡ [] → IsCovered kind g dist count start listed (e ∷ families) → IsCovered kind g dist count start listed families
  covered_empty listed e families none c = record {
    ascends = c.ascends;
    says = c.says;
    good = λ f there. c.good f (inr there);
    apart = apart_tail kind g e families c.apart;
    after = λ f b a there. c.after f b a (inr there);
    all = λ b says. by b (c.all b says);
  }
    where
      by : (b : WeightedWord) → Has listed b ⊎ ((f : Family N) × Has (e ∷ families) f × Holds kind g f b) → Has listed b ⊎ ((f : Family N) × Has families f × Holds kind g f b)
      by b (inl here) = inl here
      by b (inr (f, (inl same), holds)) = absurd (subst (λ (ms : List ℕ). Has ms (first_move holds.rest)) (ap (λ (h : Family N). h.moves) (sym same) ∙ none) holds.move)
      by b (inr (f, (inr there), holds)) = inr (f, there, holds)

  -- the listed words are the first where they are so many, or no family is left
  pub covered_first : (listed : List WeightedWord) (families : List (Family N)) (n : ℕ) → length listed ≤ n → (length listed ≡ n) ⊎ (families ≡ []) → IsCovered kind g dist count start listed families → AreFirstWords kind g start n listed
  covered_first listed families n few done c = record { few = few; ascends = c.ascends; says = c.says; others = λ b says. by b done (c.all b says) }
    where
      by : (b : WeightedWord) → (length listed ≡ n) ⊎ (families ≡ []) → Has listed b ⊎ ((f : Family N) × Has families f × Holds kind g f b)
          → Has listed b ⊎ ((length listed ≡ n) × ((a : WeightedWord) → Has listed a → word_cmp a b ≡ Less))
      by b any (inl here) = inl here
      by b (inl full) (inr (f, there, holds)) = inr (full, λ a here. c.after f b a there holds here)
      by b (inr none) (inr (f, there, holds)) = absurd (subst (λ (fs : List (Family N)). Has fs f) none there)

  module _ (cancel : cancels kind ≡ true) (good : AreWords kind g dist count) where
    -- all words go on by the moves of the start
    pub covered_start : (d : Cost) (c : ℕ) (moves : List ℕ) → IsOrder kind g dist count start moves → IsCovered kind g dist count start [] (record { prefix = []; at = start; front = one_of kind; moves = moves } ∷ [])
    covered_start d c moves order = record {
      ascends = tt;
      says = λ a none. absurd none;
      good = λ f there. by f there;
      apart = apart_cons kind g whole [] (λ f none. absurd none) (λ i j e f at_i. absurd (cc));
      after = λ f b a there holds none. absurd none;
      all = λ b says. inr (whole, inl refl, all b says);
    }
      where
        whole : Family N
        whole = record { prefix = []; at = start; front = one_of kind; moves = moves }

        fine : IsFamily kind g dist count start (record { prefix = []; at = start; front = one_of kind; moves = moves })
        fine = record { cost = IsCost-one kind; solid = one_not_zero kind; ordered = order.ordered; leads = (refl, refl) }

        by : (f : Family N) → Has (record { prefix = []; at = start; front = one_of kind; moves = moves } ∷ []) f → IsFamily kind g dist count start f
        by f (inl same) = subst (λ (h : Family N). IsFamily kind g dist count start h) same fine
        by f (inr none) = absurd none

        all : (b : WeightedWord) → Says kind g start b.word b.weight → Holds kind g (record { prefix = []; at = start; front = one_of kind; moves = moves }) b
        all b says =
            let there = word_ahead kind g dist count cancel good start b.word b.weight says in
            record { rest = b.word; ahead = b.weight; says = says; word = refl; weight = sym (one_times kind b.weight); move = order.all (first_move b.word) there.0 there.1 }

    -- ---- a family is taken

    -- what is known of a family that waits: its first move, and what is ahead of it
    pub record IsWaiting (f : Family N) : Type 0 where
      pub move : ℕ
      pub others : List ℕ
      pub ahead : Ahead
      pub moves : f.moves ≡ move ∷ others
      pub is : ahead_of kind g dist count f.at move ≡ Some ahead

    -- a family that waits has a word
    waiting_word : (f : Family N) (w : IsWaiting f) → IsFamily kind g dist count start f → (b : WeightedWord) × (h : Holds kind g f b) × (first_move h.rest ≡ w.move)
    waiting_word f w family =
        let own = move_word kind g dist count cancel good f.at w.move w.ahead w.is in (
          record { word = f.prefix ++ own.0; weight = times kind f.front w.ahead.total },
          record { rest = own.0; ahead = w.ahead.total; says = own.1; word = refl; weight = refl; move = subst (λ (ms : List ℕ). Has ms (first_move own.0)) (sym w.moves) (inl (sym own.3)) },
          own.3,
        )

    module _ (listed : List WeightedWord) (e : Family N) (families : List (Family N)) (c : IsCovered kind g dist count start listed (e ∷ families)) (w : IsWaiting e) where
      abbrev total : Cost
      total = times kind e.front w.ahead.total

      abbrev long : ℕ
      long = length e.prefix + w.ahead.arcs

      family_of_e : IsFamily kind g dist count start e
      family_of_e = c.good e (inl refl)

      -- the best words of a family that compares Less come before all words of the other
      less_beats : (f : Family N) (v : IsWaiting f) → Has families f → family_cmp kind e w.move w.ahead f v.move v.ahead ≡ Less → (rest : List ℕ) (u : Cost) → Says kind g e.at rest u → first_move rest ≡ w.move → times kind e.front u ≡ total
          → length e.prefix + length rest ≡ long → (b : WeightedWord) → Holds kind g f b → word_cmp (record { word = e.prefix ++ rest; weight = total }) b ≡ Less
      less_beats f v there order rest u says first weight count_is b holds = by_total (then_cases (cost_cmp total (times kind f.front v.ahead.total)) _ order)
        where
          one : WeightedWord
          one = record { word = e.prefix ++ rest; weight = total }

          one_long : length (e.prefix ++ rest) ≡ long
          one_long = length-append e.prefix rest ∙ count_is

          behind : Behind (times kind f.front v.ahead.total) (length f.prefix + v.ahead.arcs) v.move b.weight (length b.word) (first_move holds.rest)
          behind = holds_behind kind g dist count cancel good start f v.move v.others v.ahead b holds (c.good f (inr there)) v.moves v.is

          apart : (k : ℕ) (more : List ℕ) → f.prefix ≡ e.prefix ++ (k ∷ more) → suc k ≡ w.move → ⊥
          apart k more inside same =
              let word : b.word ≡ e.prefix ++ (k ∷ (more ++ holds.rest)) = holds.word ∙ (ap (λ (p : List ℕ). p ++ holds.rest) inside ∙ append_assoc e.prefix (k ∷ more) holds.rest) in
              let move : Has e.moves (suc k) = subst (λ (ms : List ℕ). Has ms (suc k)) (sym w.moves) (inl (sym same)) in
              apart_head kind g e families c.apart f there b
              (says_holds kind g dist count cancel good start e b (k ∷ (more ++ holds.rest)) family_of_e (holds_says kind g dist count cancel good start f b (c.good f (inr there)) holds) word move) holds

          places : long ≡ length f.prefix + v.ahead.arcs → slice_cmp nat_cmp (route e.prefix w.move) (route f.prefix v.move) ≡ Less → v.move ≤ first_move holds.rest → slice_cmp nat_cmp (e.prefix ++ rest) b.word ≡ Less
          places tie routes low = subst (λ (word : List ℕ). slice_cmp nat_cmp (e.prefix ++ rest) word ≡ Less) (sym holds.word) (route_less e.prefix f.prefix rest holds.rest w.move v.move routes first low apart)

          by_routes : total ≡ times kind f.front v.ahead.total → long ≡ length f.prefix + v.ahead.arcs → slice_cmp nat_cmp (route e.prefix w.move) (route f.prefix v.move) ≡ Less → word_cmp (record { word = e.prefix ++ rest; weight = total }) b ≡ Less
          by_routes same tie routes = by behind
            where
              by : Behind (times kind f.front v.ahead.total) (length f.prefix + v.ahead.arcs) v.move b.weight (length b.word) (first_move holds.rest) → word_cmp (record { word = e.prefix ++ rest; weight = total }) b ≡ Less
              by (inl lower) = by_weight _ b (subst (λ (z : Cost). cost_cmp z b.weight ≡ Less) (sym same) lower)
              by (inr (weighs, (inl shorter))) = by_length _ b (same ∙ weighs) (omega (arith, one_long, tie, shorter))
              by (inr (weighs, (inr (level, low)))) = by_places _ b (same ∙ weighs) (one_long ∙ (tie ∙ level)) (places tie routes low)

          by_long : total ≡ times kind f.front v.ahead.total → (nat_cmp long (length f.prefix + v.ahead.arcs) ≡ Less) ⊎ ((nat_cmp long (length f.prefix + v.ahead.arcs) ≡ Equal) × (slice_cmp nat_cmp (route e.prefix w.move) (route f.prefix v.move) ≡ Less))
              → word_cmp (record { word = e.prefix ++ rest; weight = total }) b ≡ Less
          by_long same (inr (tie, routes)) = by_routes same (exact_unsigned long (length f.prefix + v.ahead.arcs) tie) routes
          by_long same (inl shorter) = by (nat_cases long (length f.prefix + v.ahead.arcs)) behind
            where
              by : ((long < length f.prefix + v.ahead.arcs) × (nat_cmp long (length f.prefix + v.ahead.arcs) ≡ Less)) ⊎ (((long ≡ length f.prefix + v.ahead.arcs) × (nat_cmp long (length f.prefix + v.ahead.arcs) ≡ Equal)) ⊎ ((length f.prefix + v.ahead.arcs < long) × (nat_cmp long (length f.prefix + v.ahead.arcs) ≡ Greater)))
                  → Behind (times kind f.front v.ahead.total) (length f.prefix + v.ahead.arcs) v.move b.weight (length b.word) (first_move holds.rest) → word_cmp (record { word = e.prefix ++ rest; weight = total }) b ≡ Less
              by (inl low) (inl lower) = by_weight _ b (subst (λ (z : Cost). cost_cmp z b.weight ≡ Less) (sym same) lower)
              by (inl low) (inr (weighs, (inl more))) = by_length _ b (same ∙ weighs) (omega (arith, one_long, low.0, more))
              by (inl low) (inr (weighs, (inr (level, move)))) = by_length _ b (same ∙ weighs) (omega (arith, one_long, low.0, level))
              by (inr (inl tie)) h = absurd (let q : Less ≡ Equal = sym shorter ∙ tie.1 in cc)
              by (inr (inr high)) h = absurd (let q : Less ≡ Greater = sym shorter ∙ high.1 in cc)

          by_total : (cost_cmp total (times kind f.front v.ahead.total) ≡ Less) ⊎ ((cost_cmp total (times kind f.front v.ahead.total) ≡ Equal)
              × (ordering_then (nat_cmp long (length f.prefix + v.ahead.arcs)) (slice_cmp nat_cmp (route e.prefix w.move) (route f.prefix v.move)) ≡ Less)) → word_cmp (record { word = e.prefix ++ rest; weight = total }) b ≡ Less
          by_total (inl lower) = by behind
            where
              by : Behind (times kind f.front v.ahead.total) (length f.prefix + v.ahead.arcs) v.move b.weight (length b.word) (first_move holds.rest) → word_cmp (record { word = e.prefix ++ rest; weight = total }) b ≡ Less
              by (inl more) = by_weight _ b (cost_less_trans total (times kind f.front v.ahead.total) b.weight lower more)
              by (inr (weighs, tie)) = by_weight _ b (subst (λ (z : Cost). cost_cmp total z ≡ Less) weighs lower)
          by_total (inr (same, more)) = by_long (cost_cmp_equal total (times kind f.front v.ahead.total) same) (then_cases (nat_cmp long (length f.prefix + v.ahead.arcs)) _ more)

      -- families apart do not tie
      no_tie : (f : Family N) (v : IsWaiting f) → Has families f → family_cmp kind e w.move w.ahead f v.move v.ahead ≡ Equal → ⊥
      no_tie f v there tie =
          let outer = then_equal (cost_cmp total (times kind f.front v.ahead.total)) _ tie in
          let inner = then_equal (nat_cmp long (length f.prefix + v.ahead.arcs)) _ outer.1 in
          let same = route_same e.prefix f.prefix w.move v.move (exact_bytes (route e.prefix w.move) (route f.prefix v.move) inner.1) in
          let own = waiting_word f v (c.good f (inr there)) in
          let move : Has e.moves (first_move own.1.rest) = subst (λ (ms : List ℕ). Has ms (first_move own.1.rest)) (sym w.moves) (inl (same.1 ∙ sym own.2)) in
          apart_head kind g e families c.apart f there own.0
          (says_holds kind g dist count cancel good start e own.0 own.1.rest family_of_e (holds_says kind g dist count cancel good start f own.0 (c.good f (inr there)) own.1) (own.1.word ∙ ap (λ (p : List ℕ). p ++ own.1.rest) (sym same.0)) move) own.1

      -- a family that none comes before leads
      pub taken_leading : ((f : Family N) → Has families f → (v : IsWaiting f) × (is_gt (family_cmp kind e w.move w.ahead f v.move v.ahead) ≡ false)) → IsLeading kind g dist count start e families total long
      taken_leading first = record {
        move = w.move;
        others = w.others;
        ahead = w.ahead;
        moves = w.moves;
        is = w.is;
        weighs = refl;
        counts = refl;
        beats = λ rest u says move weight count_is f b there holds. by (first f there).0 there (family_cmp kind e w.move w.ahead f (first f there).0.move (first f there).0.ahead) refl (first f there).1 rest u says move weight count_is b holds;
      }
        where
          by : {f : Family N} (v : IsWaiting f) → Has families f → (o : Ordering) → family_cmp kind e w.move w.ahead f v.move v.ahead ≡ o → is_gt (family_cmp kind e w.move w.ahead f v.move v.ahead) ≡ false → (rest : List ℕ) (u : Cost) → Says kind g e.at rest u
              → first_move rest ≡ w.move → times kind e.front u ≡ total → length e.prefix + length rest ≡ long → (b : WeightedWord) → Holds kind g f b → word_cmp (record { word = e.prefix ++ rest; weight = total }) b ≡ Less
          by {f} v there Less o not_after = less_beats f v there o
          by {f} v there Equal o not_after = λ rest u says move weight count_is b holds. absurd (no_tie f v there o)
          by {f} v there Greater o not_after = absurd (let q : true ≡ false = sym (ap is_gt o) ∙ not_after in cc)

    -- ---- one step of a walk

    module _ (core : Family N) (m : ℕ) (ms : List ℕ) (same : core.moves ≡ m ∷ ms) (family : IsFamily kind g dist count start core) where
      in_order : InOrder kind g dist count core.at (m ∷ ms)
      in_order = subst (λ (js : List ℕ). InOrder kind g dist count core.at js) same family.ordered

      left_good : IsFamily kind g dist count start (left_family core ms)
      left_good = record { cost = family.cost; solid = family.solid; ordered = in_order.3; leads = family.leads }

      abbrev left_held : (b : WeightedWord) → Holds kind g (left_family core ms) b → Holds kind g core b
      left_held b h = record { rest = h.rest; ahead = h.ahead; says = h.says; word = h.word; weight = h.weight; move = subst (λ (js : List ℕ). Has js (first_move h.rest)) (sym same) (inr h.move) }

      core_cases : (b : WeightedWord) (h : Holds kind g core b) → (first_move h.rest ≡ m) ⊎ Holds kind g (left_family core ms) b
      core_cases b h = by (subst (λ (js : List ℕ). Has js (first_move h.rest)) same h.move)
        where
          by : Has (m ∷ ms) (first_move h.rest) → (first_move h.rest ≡ m) ⊎ Holds kind g (left_family core ms) b
          by (inl e) = inl (sym e)
          by (inr there) = inr (record { rest = h.rest; ahead = h.ahead; says = h.says; word = h.word; weight = h.weight; move = there })

      left_other : (b : WeightedWord) (h : Holds kind g (left_family core ms) b) → m ≡ first_move h.rest → ⊥
      left_other b h e = first_once kind g dist count cancel good core.at m ms in_order (subst (λ (j : ℕ). Has ms j) (sym e) h.move)

      -- the family that is left comes behind words of this weight and length that go on by the first move
      left_behind : (a : Ahead) → ahead_of kind g dist count core.at m ≡ Some a → (rest : List ℕ) (t : Cost) → times kind core.front a.total ≡ t → length core.prefix + a.arcs ≡ length core.prefix + length rest → first_move rest ≡ m
          → (b : WeightedWord) → Holds kind g (left_family core ms) b → word_cmp (record { word = core.prefix ++ rest; weight = t }) b ≡ Less
      left_behind a is rest t weighs counts first b h =
          by_behind (record { word = core.prefix ++ rest; weight = t }) b m (first_move h.rest) moved (λ w l low. places low)
        where
          moved : Behind t (length (core.prefix ++ rest)) m b.weight (length b.word) (first_move h.rest)
          moved =
              let long : length (core.prefix ++ rest) ≡ length core.prefix + a.arcs = length-append core.prefix rest ∙ sym counts in
              subst (λ (n : ℕ). Behind t n m b.weight (length b.word) (first_move h.rest)) (sym long)
              (subst (λ (z : Cost). Behind z (length core.prefix + a.arcs) m b.weight (length b.word) (first_move h.rest)) weighs (holds_behind kind g dist count cancel good start core m ms a b (left_held b h) family same is))

          places : m ≤ first_move h.rest → slice_cmp nat_cmp (core.prefix ++ rest) b.word ≡ Less
          places low =
              let other : first_move rest < first_move h.rest = strict m (first_move h.rest) low (left_other b h) first in
              subst (λ (word : List ℕ). slice_cmp nat_cmp (core.prefix ++ rest) word ≡ Less) (sym h.word) (slice_behind core.prefix rest h.rest ∙ slice_move rest h.rest other)
            where
              strict : (i j : ℕ) → i ≤ j → (i ≡ j → ⊥) → first_move rest ≡ i → first_move rest < j
              strict i j low other e = omega arith

    -- the walk takes a step
    module _ (listed : List WeightedWord) (core : Family N) (families : List (Family N)) (k : ℕ) (ms : List ℕ) (w : Cost) (y : N) (moves : List ℕ) (c : IsCovered kind g dist count start listed (core ∷ families))
        (same : core.moves ≡ suc k ∷ ms) (step : g.step core.at k ≡ Some (w, y)) (order : IsOrder kind g dist count y moves) where
      abbrev next : Family N
      next = next_family kind core k w y moves

      abbrev left : Family N
      left = left_family core ms

      core_good : IsFamily kind g dist count start core
      core_good = c.good core (inl refl)

      next_good : IsFamily kind g dist count start next
      next_good = record {
        cost = IsCost-times kind core.front w core_good.cost (good.cost core.at y k w step);
        solid = λ e. by (times_only_zero kind core.front w e);
        ordered = order.ordered;
        leads = leads_on kind g start core.prefix core.at core.front k w y core_good.leads step;
      }
        where
          by : (core.front ≡ infinite) ⊎ (w ≡ infinite) → ⊥
          by (inl e) = core_good.solid e
          by (inr e) = good.solid core.at y k w step e

      next_held : (b : WeightedWord) → Holds kind g next b → Holds kind g core b
      next_held b h = record {
        rest = k ∷ h.rest;
        ahead = times kind w h.ahead;
        says = (w, y, h.ahead, step, h.says, refl);
        word = h.word ∙ append_assoc core.prefix (k ∷ []) h.rest;
        weight = h.weight ∙ times_assoc kind core.front w h.ahead;
        move = subst (λ (js : List ℕ). Has js (suc k)) (sym same) (inl refl);
      }

      core_parted : (b : WeightedWord) → Holds kind g core b → Holds kind g next b ⊎ Holds kind g left b
      core_parted b h = by (core_cases core (suc k) ms same core_good b h)
        where
          by : (first_move h.rest ≡ suc k) ⊎ Holds kind g left b → Holds kind g next b ⊎ Holds kind g left b
          by (inr there) = inr there
          by (inl first) =
              let parted = some_first h.rest k first in
              let on = says_rest kind g core.at k parted.0 h.ahead w y (subst (λ (word : List ℕ). Says kind g core.at word h.ahead) parted.1 h.says) step in
              let there = word_ahead kind g dist count cancel good y parted.0 on.0 on.1 in
              inl (record {
                rest = parted.0;
                ahead = on.0;
                says = on.1;
                word = h.word ∙ (ap (λ (r : List ℕ). core.prefix ++ r) parted.1 ∙ sym (append_assoc core.prefix (k ∷ []) parted.0));
                weight = h.weight ∙ (ap (λ (z : Cost). times kind core.front z) on.2 ∙ sym (times_assoc kind core.front w on.0));
                move = order.all (first_move parted.0) there.0 there.1;
              })

      next_left : AreDisjoint kind g next left
      next_left b in_next in_left =
          let rests : k ∷ in_next.rest ≡ in_left.rest = append_cancel_left core.prefix (k ∷ in_next.rest) in_left.rest (sym (in_next.word ∙ append_assoc core.prefix (k ∷ []) in_next.rest) ∙ in_left.word) in
          left_other core (suc k) ms same core_good b in_left (ap first_move rests)

      pub step_covered : IsCovered kind g dist count start listed (next ∷ (left ∷ families))
      step_covered = record {
        ascends = c.ascends;
        says = c.says;
        good = λ f there. fine f there;
        apart = apart_cons kind g next (left ∷ families) (λ f there. next_apart f there)
            (apart_cons kind g left families (λ f there b in_left in_f. apart_head kind g core families c.apart f there b (left_held core (suc k) ms same core_good b in_left) in_f) (apart_tail kind g core families c.apart));
        after = λ f b a there holds here. behind f b a there holds here;
        all = λ b says. by b (c.all b says);
      }
        where
          fine : (f : Family N) → Has (next ∷ (left ∷ families)) f → IsFamily kind g dist count start f
          fine f (inl e) = subst (λ (h : Family N). IsFamily kind g dist count start h) e next_good
          fine f (inr (inl e)) = subst (λ (h : Family N). IsFamily kind g dist count start h) e (left_good core (suc k) ms same core_good)
          fine f (inr (inr there)) = c.good f (inr there)

          next_apart : (f : Family N) → Has (left ∷ families) f → AreDisjoint kind g next f
          next_apart f (inl e) = subst (λ (h : Family N). AreDisjoint kind g next h) e next_left
          next_apart f (inr there) = λ b in_next in_f. apart_head kind g core families c.apart f there b (next_held b in_next) in_f

          behind : (f : Family N) (b a : WeightedWord) → Has (next ∷ (left ∷ families)) f → Holds kind g f b → Has listed a → word_cmp a b ≡ Less
          behind f b a (inl e) holds here = c.after core b a (inl refl) (next_held b (subst (λ (h : Family N). Holds kind g h b) (sym e) holds)) here
          behind f b a (inr (inl e)) holds here = c.after core b a (inl refl) (left_held core (suc k) ms same core_good b (subst (λ (h : Family N). Holds kind g h b) (sym e) holds)) here
          behind f b a (inr (inr there)) holds here = c.after f b a (inr there) holds here

          part : (b : WeightedWord) → Holds kind g next b ⊎ Holds kind g left b → Has listed b ⊎ ((f : Family N) × Has (next ∷ (left ∷ families)) f × Holds kind g f b)
          part b (inl holds) = inr (next, inl refl, holds)
          part b (inr holds) = inr (left, inr (inl refl), holds)

          by : (b : WeightedWord) → Has listed b ⊎ ((f : Family N) × Has (core ∷ families) f × Holds kind g f b) → Has listed b ⊎ ((f : Family N) × Has (next ∷ (left ∷ families)) f × Holds kind g f b)
          by b (inl here) = inl here
          by b (inr (f, (inl e), holds)) = part b (core_parted b (subst (λ (h : Family N). Holds kind g h b) (sym e) holds))
          by b (inr (f, (inr there), holds)) = inr (f, inr (inr there), holds)

      -- the next family leads as the one before did
      pub step_leading : (t : Cost) (n : ℕ) → IsLeading kind g dist count start core families t n → (e : ℕ) (es : List ℕ) → moves ≡ e ∷ es → (a : Ahead) → ahead_of kind g dist count y e ≡ Some a → IsLeading kind g dist count start next (left ∷ families) t n
      step_leading t n l e es begins a is = record {
        move = e;
        others = es;
        ahead = a;
        moves = begins;
        is = is;
        weighs = times_assoc kind core.front w a.total ∙ (ap (λ (z : Cost). times kind core.front (times kind w z)) first.0 ∙ (ap (λ (b : Ahead). times kind core.front b.total) ahead_is ∙ l.weighs));
        counts = omega (arith, length-append core.prefix (k ∷ []), first.1, ap (λ (b : Ahead). b.arcs) ahead_is, l.counts);
        beats = λ rest u says move weight count_is f b there holds. beats rest u says move weight count_is f b there holds;
      }
        where
          heads : suc k ≡ l.move
          heads = let f : suc k ∷ ms ≡ l.move ∷ l.others = sym same ∙ l.moves in cc

          ahead_is : record { total = times kind w (dist y); arcs = suc (count y) } ≡ l.ahead
          ahead_is = same_Some _ l.ahead (sym (ap (ahead_of_step kind g dist count) step) ∙ (ap (ahead_of kind g dist count core.at) heads ∙ l.is))

          first : (a.total ≡ dist y) × (a.arcs ≡ count y)
          first = first_ahead kind g dist count cancel good y e es (dist y) (count y) a (good.ahead core.at y k w step) (subst (λ (js : List ℕ). IsOrder kind g dist count y js) begins order) is

          beats : (rest : List ℕ) (u : Cost) → Says kind g y rest u → first_move rest ≡ e → times kind (times kind core.front w) u ≡ t → length (core.prefix ++ k ∷ []) + length rest ≡ n
              → (f : Family N) (b : WeightedWord) → Has (left ∷ families) f → Holds kind g f b → word_cmp (record { word = (core.prefix ++ k ∷ []) ++ rest; weight = t }) b ≡ Less
          beats rest u says move weight count_is f b there holds =
              subst (λ (word : List ℕ). word_cmp (record { word = word; weight = t }) b ≡ Less) (sym (append_assoc core.prefix (k ∷ []) rest)) (by there)
            where
              counted : length core.prefix + length (k ∷ rest) ≡ n
              counted = omega (arith, length-append core.prefix (k ∷ []), count_is)

              by : Has (left ∷ families) f → word_cmp (record { word = core.prefix ++ (k ∷ rest); weight = t }) b ≡ Less
              by (inl e) =
                  left_behind core (suc k) ms same core_good l.ahead (ap (ahead_of kind g dist count core.at) heads ∙ l.is) (k ∷ rest) t l.weighs (l.counts ∙ sym counted) refl b (subst (λ (h : Family N). Holds kind g h b) (sym e) holds)
              by (inr later) = l.beats (k ∷ rest) (times kind w u) (w, y, u, step, says, refl) heads (sym (times_assoc kind core.front w u) ∙ weight) counted f b later holds

    -- the walk stops
    module _ (listed : List WeightedWord) (core : Family N) (families : List (Family N)) (ms : List ℕ) (v : Cost) (c : IsCovered kind g dist count start listed (core ∷ families))
        (same : core.moves ≡ 0 ∷ ms) (stop : g.stop core.at ≡ Some v) (t : Cost) (n : ℕ) (l : IsLeading kind g dist count start core families t n) where
      abbrev ended : WeightedWord
      ended = record { word = core.prefix; weight = t }

      heads : 0 ≡ l.move
      heads = let f : 0 ∷ ms ≡ l.move ∷ l.others = sym same ∙ l.moves in cc

      weight_is : times kind core.front v ≡ t
      weight_is =
          let ahead_is : record { total = v; arcs = 0 } ≡ l.ahead = same_Some _ l.ahead (sym (ap (ahead_of_stop kind g dist count) stop) ∙ (ap (ahead_of kind g dist count core.at) heads ∙ l.is)) in
          ap (λ (b : Ahead). times kind core.front b.total) ahead_is ∙ l.weighs

      counts_is : length core.prefix + 0 ≡ n
      counts_is =
          let ahead_is : record { total = v; arcs = 0 } ≡ l.ahead = same_Some _ l.ahead (sym (ap (ahead_of_stop kind g dist count) stop) ∙ (ap (ahead_of kind g dist count core.at) heads ∙ l.is)) in
          omega (arith, ap (λ (b : Ahead). b.arcs) ahead_is, l.counts)

      stop_good : IsFamily kind g dist count start core
      stop_good = c.good core (inl refl)

      ended_held : Holds kind g core ended
      ended_held = record { rest = []; ahead = v; says = stop; word = sym (append-nil core.prefix); weight = sym weight_is; move = subst (λ (js : List ℕ). Has js 0) (sym same) (inl refl) }

      -- the one word that stops here
      only_ended : (b : WeightedWord) (h : Holds kind g core b) → first_move h.rest ≡ 0 → ended ≡ b
      only_ended b h first =
          let none : h.rest ≡ [] = no_move h.rest first in
          let u : h.ahead ≡ v = same_Some h.ahead v (sym (subst (λ (word : List ℕ). Says kind g core.at word h.ahead) none h.says) ∙ stop) in
          let word : b.word ≡ core.prefix = h.word ∙ (ap (λ (r : List ℕ). core.prefix ++ r) none ∙ append-nil core.prefix) in
          let weight : b.weight ≡ t = h.weight ∙ (ap (λ (z : Cost). times kind core.front z) u ∙ weight_is) in
          λ i. record { word = sym word i; weight = sym weight i }

      ended_before : (f : Family N) (b : WeightedWord) → Has (left_family core ms ∷ families) f → Holds kind g f b → word_cmp ended b ≡ Less
      ended_before f b there holds = subst (λ (word : List ℕ). word_cmp (record { word = word; weight = t }) b ≡ Less) (append-nil core.prefix) (by there)
        where
          by : Has (left_family core ms ∷ families) f → word_cmp (record { word = core.prefix ++ []; weight = t }) b ≡ Less
          by (inl e) =
              left_behind core 0 ms same stop_good l.ahead (ap (ahead_of kind g dist count core.at) heads ∙ l.is) [] t l.weighs (l.counts ∙ sym counts_is) refl b (subst (λ (h : Family N). Holds kind g h b) (sym e) holds)
          by (inr later) = l.beats [] v stop heads weight_is counts_is f b later holds

      pub stop_covered : IsCovered kind g dist count start (listed ++ ended ∷ []) (left_family core ms ∷ families)
      stop_covered = record {
        ascends = ascends_push listed ended c.ascends (λ a here. c.after core ended a (inl refl) ended_held here);
        says = λ a here. says a (Has-append_cases listed (ended ∷ []) a here);
        good = λ f there. fine f there;
        apart = apart_cons kind g (left_family core ms) families (λ f there b in_left in_f. apart_head kind g core families c.apart f there b (left_held core 0 ms same stop_good b in_left) in_f) (apart_tail kind g core families c.apart);
        after = λ f b a there holds here. after f b a there holds (Has-append_cases listed (ended ∷ []) a here);
        all = λ b says. by b (c.all b says);
      }
        where
          says : (a : WeightedWord) → Has listed a ⊎ Has (ended ∷ []) a → Says kind g start a.word a.weight
          says a (inl here) = c.says a here
          says a (inr (inl e)) = subst (λ (z : WeightedWord). Says kind g start z.word z.weight) e (holds_says kind g dist count cancel good start core ended stop_good ended_held)
          says a (inr (inr none)) = absurd none

          fine : (f : Family N) → Has (left_family core ms ∷ families) f → IsFamily kind g dist count start f
          fine f (inl e) = subst (λ (h : Family N). IsFamily kind g dist count start h) e (left_good core 0 ms same stop_good)
          fine f (inr there) = c.good f (inr there)

          before : (f : Family N) (b a : WeightedWord) → Has (left_family core ms ∷ families) f → Holds kind g f b → Has listed a → word_cmp a b ≡ Less
          before f b a (inl e) holds here = c.after core b a (inl refl) (left_held core 0 ms same stop_good b (subst (λ (h : Family N). Holds kind g h b) (sym e) holds)) here
          before f b a (inr there) holds here = c.after f b a (inr there) holds here

          after : (f : Family N) (b a : WeightedWord) → Has (left_family core ms ∷ families) f → Holds kind g f b → Has listed a ⊎ Has (ended ∷ []) a → word_cmp a b ≡ Less
          after f b a there holds (inl here) = before f b a there holds here
          after f b a there holds (inr (inl e)) = subst (λ (z : WeightedWord). word_cmp z b ≡ Less) e (ended_before f b there holds)
          after f b a there holds (inr (inr none)) = absurd none

          part : (b : WeightedWord) (h : Holds kind g core b) → (first_move h.rest ≡ 0) ⊎ Holds kind g (left_family core ms) b → Has (listed ++ ended ∷ []) b ⊎ ((f : Family N) × Has (left_family core ms ∷ families) f × Holds kind g f b)
          part b h (inl first) = inl (Has-append_right listed (ended ∷ []) b (inl (only_ended b h first)))
          part b h (inr holds) = inr (left_family core ms, inl refl, holds)

          by : (b : WeightedWord) → Has listed b ⊎ ((f : Family N) × Has (core ∷ families) f × Holds kind g f b) → Has (listed ++ ended ∷ []) b ⊎ ((f : Family N) × Has (left_family core ms ∷ families) f × Holds kind g f b)
          by b (inl here) = inl (Has-append_left listed (ended ∷ []) b here)
          by b (inr (f, (inl e), holds)) =
              let in_core : Holds kind g core b = subst (λ (h : Family N). Holds kind g h b) (sym e) holds in
              part b in_core (core_cases core 0 ms same stop_good b in_core)
          by b (inr (f, (inr there), holds)) = inr (f, inr there, holds)
