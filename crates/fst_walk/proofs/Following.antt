-- A walk on its way: its start, its steps and its stop.
use Rattle.std.proofs.Common.{◌≡◌, ◌⊎◌, inl, inr, ℕ, ◌+◌, ◌<◌, ◌≤◌, Bool, true, List, [], ◌∷◌, ◌++◌, Option, None, Some, length, take, slice_get, refl, sym, ap, subst, ◌∙◌, append-nil, arith}
use Rattle.std.specs.Bool.{Decides}
use Rattle.std.specs.Prelude.{MatchOption}
use Rattle.std.specs.List.{All, AllZip}
use Rattle.std.proofs.lemmas.Bool.{cases_lt}
use Rattle.std.proofs.lemmas.List.{length-append, length-take-le, take-append-le, take_more}
use Rattle.std.proofs.lemmas.List.Elements.{All-nil, All-push}
use Rattle.std.proofs.lemmas.List.Sums.{sum_by-cons, sum_by_push}
use Rattle.std.proofs.lemmas.Option.{get_or_from_slice_get, slice_get_within}
use Rattle.std.proofs.lemmas.Slice.Zip.{AllZip-long}
use Rattle.fst_semiring.specs.Cost.{Cost}
use Rattle.fst_semiring.specs.Semiring.{InRange}
use Rattle.fst_machine.specs.BreadthFirst.{Grows, Has}
use Rattle.fst_machine.specs.Graph.{Graph, nexts}
use Rattle.fst_machine.specs.Machine.{Arc, State, arc_total, most_arcs, most_states}
use Rattle.fst_machine.specs.Paths.{IsPath, Transition}
use Rattle.fst_machine.proofs.Arcs.{at_append_front, at_append_left, at_append_right, append_at, mapped_at}
use Rattle.fst_machine.proofs.Elements.{Has-append_left, Has_at, at_Has}
use Rattle.fst_machine.proofs.PathParts.{IsPath-append}
use Rattle.fst_machine.proofs.Walking.{walking_apart, walking_begins, walking_goes_on}
use Rattle.fst_machine.proofs.Walks.{Grows-Apart, Grows-front, Grows-only}
use Rattle.fst_walk.specs.Answers.{ReachesMore}
use Rattle.fst_walk.specs.Making.{Fits, IsMaking, IsCounted, IsFirstOut, IsFound, IsNumberedArc, IsNumberedState, NextRange, Passes, PutsArcs, PutsState, arcs_of}
use Rattle.fst_walk.specs.Names.{IsNear}
use Rattle.fst_walk.proofs.Putting.{later_arc, puts_whole, zip_push, zip_weaker}

-- numbered states have the arcs of their names
pub zip_total : {N : Type 0} (g : Graph N) (names ns : List N) (states : List (State Cost)) → AllZip (IsNumberedState g names) ns states → arc_total states ≡ arcs_of g ns
zip_total g names [] [] h = refl
zip_total g names [] (s ∷ states) h = absurd h
zip_total g names (n ∷ ns) [] h = absurd h
zip_total g names (n ∷ ns) (s ∷ states) h =
    let all = sum_by-cons (λ (t : State Cost). length t.arcs) s states in
    let own = sum_by-cons (λ m. length (g.arcs m)) n ns in
    let rest = zip_total g names ns states h.1 in
    let same = AllZip-long (IsNumberedArc names) (g.arcs n) s.arcs h.0.arcs in
    omega (arith, all, own, rest, same)

module _ {N : Type 0} (g : Graph N) (limit : ℕ) where
  -- the start is found, and nothing is followed
  pub making_begins : (start : N) (names : List N) → g.start ≡ Some start → Grows [] (start ∷ []) names → length names ≤ limit → IsMaking g limit names [] 0 None 0
  making_begins start names starts grows few = record {
    start = start;
    starts = starts;
    walking = walking_begins g start names grows;
    reached = λ i z at. by_part i z (Grows-only (start ∷ []) [] names z grows (at_Has names i z at));
    few = few;
    counted = ((λ low. refl), (λ over. absurd (omega (arith, over))));
    range = λ low. All-nil (Fits g);
    made = λ none low. tt;
  }
    where
      by_part : (i : ℕ) (z : N) → ⊥ ⊎ Has (start ∷ []) z → (path : List (Transition N)) × IsPath g start path z × (length path ≤ i)
      by_part i z (inl none) = absurd none
      by_part i z (inr (inl e)) = ([], e, omega arith)
      by_part i z (inr (inr none)) = absurd none

  module _ (names : List N) (states : List (State Cost)) (total : ℕ) (overflow : Option ℕ) (taken : ℕ) (h : IsMaking g limit names states total overflow taken) (n : N) (at : slice_get names taken ≡ Some n) where
    below : taken < length names
    below = slice_get_within names taken n at

    -- Whatever is found by some of the arcs of a name that can be reached, can be reached, by no more arcs than there are
    -- names before it.
    found_placed : (front rest found : List N) → nexts (g.arcs n) ≡ front ++ rest → Grows names front found → (i : ℕ) (z : N) → slice_get found i ≡ Some z → (path : List (Transition N)) × IsPath g h.start path z × (length path ≤ i)
    found_placed front rest found parts grown i z there = by_part (append_at names longer.0 i z (ap (λ xs. slice_get xs i) (sym longer.1) ∙ there))
      where
        longer : (more : List N) × (found ≡ names ++ more)
        longer = Grows-front front names found grown

        by_kind : length names ≤ i → Has names z ⊎ Has front z → (path : List (Transition N)) × IsPath g h.start path z × (length path ≤ i)
        by_kind late (inl old) =
            let place = Has_at names z old in
            let path = h.reached place.0 z place.1 in
            let low = slice_get_within names place.0 z place.1 in
            let short = path.2 in
            (path.0, path.1, omega (arith, late, low, short))
        by_kind late (inr new) =
            let place = Has_at (nexts (g.arcs n)) z (subst (λ zs. Has zs z) (sym parts) (Has-append_left front rest z new)) in
            let arc = mapped_at (λ (a : Arc Cost N). a.next) (g.arcs n) place.0 z place.1 in
            let path = h.reached taken n at in
            let low = below in
            let short = path.2 in
            let last : List (Transition N) = record { state = n; place = place.0; arc = arc.0 } ∷ [] in
            (path.0 ++ last, IsPath-append g path.0 last h.start n z path.1 ((refl, arc.1), arc.2), omega (arith, late, low, short, length-append path.0 last))

        by_part : (slice_get names i ≡ Some z) ⊎ ((j : ℕ) × (slice_get longer.0 j ≡ Some z) × (i ≡ length names + j)) → (path : List (Transition N)) × IsPath g h.start path z × (length path ≤ i)
        by_part (inl early) = h.reached i z early
        by_part (inr late) = by_kind (let is = late.2 in omega (arith, is)) (Grows-only front names found z grown (at_Has found i z there))

    -- so the name is near the start
    pub near : limit ≤ most_states → IsNear g n
    near small =
        let path = h.reached taken n at in
        let low = below in
        let few = h.few in
        let short = path.2 in
        record { start = h.start; starts = h.starts; path = path.0; leads = path.1; short = omega (arith, low, few, short, small) }

    -- more names than the limit are found
    pub making_stops : Passes limit names (nexts (g.arcs n)) → ReachesMore g limit
    making_stops p = record {
      start = h.start;
      starts = h.starts;
      names = p.found;
      apart = Grows-Apart p.front names p.found (walking_apart g h.start names taken h.walking) p.grown;
      reached = λ z has. let place = Has_at p.found z has in let path = found_placed p.front p.rest p.found p.parts p.grown place.0 z place.1 in (path.0, path.1);
      more = p.more;
    }

    -- the names that were followed, and this one
    followed : (new : List N) → Grows names (nexts (g.arcs n)) new → take (taken + 1) new ≡ take taken names ++ n ∷ []
    followed new grown =
        let front = Grows-front (nexts (g.arcs n)) names new grown in
        let low : taken + 1 ≤ length names = omega (arith, below) in
        ap (take (taken + 1)) front.1 ∙ (take-append-le (taken + 1) names front.0 low ∙ (take_more names taken n below ∙ ap (λ z. take taken names ++ z ∷ []) (get_or_from_slice_get names taken n n at)))

    size : length (take taken names) ≡ taken
    size = length-take-le taken names (omega (arith, below))

    -- the first name out of range, if there is one
    range_next : (before : List N) (o next : Option ℕ) (fits : Bool) (last : Cost) → length before ≡ taken → last ≡ g.final n → Decides fits ((o ≡ None) × All (λ a. InRange a.weight) (g.arcs n))
        → MatchOption o (All (Fits g) before) (IsFirstOut g before) → NextRange taken ((fits ≡ true) × InRange last) o next → MatchOption next (All (Fits g) (before ++ n ∷ [])) (IsFirstOut g (before ++ n ∷ []))
    range_next before None next fits last long final arcs all (inl fine) =
        subst (λ o. MatchOption o (All (Fits g) (before ++ n ∷ [])) (IsFirstOut g (before ++ n ∷ []))) (sym fine.1)
        (All-push (Fits g) before n all ((arcs.0 fine.0.0).1, subst InRange final fine.0.1))
    range_next before None next fits last long final arcs all (inr out) =
        subst (λ o. MatchOption o (All (Fits g) (before ++ n ∷ [])) (IsFirstOut g (before ++ n ∷ []))) (sym out.1) (record {
          name = n;
          there = let here : length before + 0 ≡ taken = omega (arith, long) in ap (slice_get (before ++ n ∷ [])) (sym here) ∙ at_append_right before (n ∷ []) 0 n refl;
          out = λ fit. out.0 (arcs.1 (refl, fit.0), subst InRange (sym final) fit.1);
          first = λ i m low e.
              let early : slice_get before i ≡ Some m = at_append_front before (n ∷ []) i m (omega (arith, low, long)) e in
              subst (Fits g) (get_or_from_slice_get before i m m early) (all i m (slice_get_within before i m early));
        })
    range_next before (Some k) next fits last long final arcs first same =
        subst (λ o. MatchOption o (All (Fits g) (before ++ n ∷ [])) (IsFirstOut g (before ++ n ∷ []))) (sym same) (record {
          name = first.name;
          there = at_append_left before (n ∷ []) k first.name first.there;
          out = first.out;
          first = λ i m low e. first.first i m low (at_append_front before (n ∷ []) i m (let deep = slice_get_within before k first.name first.there in omega (arith, low, deep)) e);
        })

    -- the arcs before were not too many
    pub few_before : (count more : ℕ) → count ≤ most_arcs → IsCounted count (arcs_of g (take taken names) + more) → total ≤ most_arcs
    few_before count more low counted = by_size (cases_lt most_arcs total)
      where
        by_size : (most_arcs < total) ⊎ (total ≤ most_arcs) → total ≤ most_arcs
        by_size (inl many) = absurd (let over = h.counted.1 many in let is = counted.0 low in omega (arith, over, is, low))
        by_size (inr few) = few

    -- there is room for so many of its arcs
    pub room : (count more : ℕ) → IsCounted count (arcs_of g (take taken names) + more) → overflow ≡ None → count ≤ most_arcs → arc_total states + more ≤ most_arcs
    room count more counted none low =
        let total_is = zip_total g names (take taken names) states (h.made none (few_before count more low counted)) in
        let is = counted.0 low in
        omega (arith, total_is, is, low)

    -- the name's arcs are followed, and its state is put
    pub making_goes : (new : List N) (out : List (Arc Cost ℕ)) (fits : Bool) (last : Cost) (count : ℕ) (next : Option ℕ) (more : List (State Cost)) → PutsArcs limit ((overflow ≡ None) × (count ≤ most_arcs)) (g.arcs n) names new [] out fits → last ≡ g.final n
        → IsCounted count (arcs_of g (take taken names) + length (g.arcs n)) → PutsState taken fits last out count overflow next states more → IsMaking g limit new more count next (taken + 1)
    making_goes new out fits last count next more puts final counted state = record {
      start = h.start;
      starts = h.starts;
      walking = walking_goes_on g h.start names new taken n h.walking at puts.grown;
      reached = λ i z there. found_placed (nexts (g.arcs n)) [] new (sym (append-nil (nexts (g.arcs n)))) puts.grown i z there;
      few = puts.few;
      counted = subst (IsCounted count) (sym sum) counted;
      range = λ low. subst (λ ns. MatchOption next (All (Fits g) ns) (IsFirstOut g ns)) (sym (followed new puts.grown)) (range_next (take taken names) overflow next fits last size final (decides low) (h.range (few_before count (length (g.arcs n)) low counted)) (state.range low));
      made = λ none low. made overflow refl none low;
    }
      where
        sum : arcs_of g (take (taken + 1) new) ≡ arcs_of g (take taken names) + length (g.arcs n)
        sum = ap (arcs_of g) (followed new puts.grown) ∙ sum_by_push (λ m. length (g.arcs m)) (take taken names) n

        decides : count ≤ most_arcs → Decides fits ((overflow ≡ None) × All (λ a. InRange a.weight) (g.arcs n))
        decides low = ((λ t. let is = puts.range.0 t in (is.0.0, is.1)), (λ all. puts.range.1 ((all.0, low), all.1)))

        later : (m : N) (s : State Cost) → IsNumberedState g names m s → IsNumberedState g new m s
        later m s numbered = record { arcs = zip_weaker (IsNumberedArc names) (IsNumberedArc new) (later_arc names (nexts (g.arcs n)) new puts.grown) (g.arcs m) s.arcs numbered.arcs; final = numbered.final }

        made : (o : Option ℕ) → overflow ≡ o → next ≡ None → count ≤ most_arcs → AllZip (IsNumberedState g new) (take (taken + 1) new) more
        made (Some k) was none low = absurd (let same = subst (λ o. NextRange taken ((fits ≡ true) × InRange last) o next) was (state.range low) in let wrong : ◌≡◌ {A = Option ℕ} (Some k) None = sym same ∙ none in cc)
        made None was none low =
            let few : total ≤ most_arcs = few_before count (length (g.arcs n)) low counted in
            let own = in_range (subst (λ o. NextRange taken ((fits ≡ true) × InRange last) o next) was (state.range low)) none in
            let old = zip_weaker (IsNumberedState g names) (IsNumberedState g new) later (take taken names) states (h.made was few) in
            let both = zip_push (IsNumberedState g new) (take taken names) states n (record { final = last; arcs = out }) old (record { arcs = puts_whole limit ((overflow ≡ None) × (count ≤ most_arcs)) (g.arcs n) names new out fits puts own; final = final }) in
            subst (λ (ns : List N). AllZip (IsNumberedState g new) ns more) (sym (followed new puts.grown)) (subst (λ (zs : List (State Cost)). AllZip (IsNumberedState g new) (take taken names ++ n ∷ []) zs) (sym (state.put none low)) both)
          where
            in_range : NextRange taken ((fits ≡ true) × InRange last) None next → next ≡ None → fits ≡ true
            in_range (inl fine) e = fine.0.0
            in_range (inr out) e = absurd (let wrong : ◌≡◌ {A = Option ℕ} (Some taken) None = sym out.1 ∙ e in cc)

-- a list grows by no more than there is to grow by
Grows-length : {N : Type 0} (xs a b : List N) → Grows a xs b → length b ≤ length a + length xs
Grows-length [] a b g = omega (arith, ap length g)
Grows-length (x ∷ xs) a b (inl old) = let rest = Grows-length xs a b old.1 in omega (arith, rest)
Grows-length (x ∷ xs) a b (inr new) = let rest = Grows-length xs (a ++ x ∷ []) b new.1 in omega (arith, rest, length-append a (x ∷ []))

-- the first name is not past the limit
pub start_found : {N : Type 0} (limit : ℕ) (start : N) (new : List N) (found : Option ℕ) → 0 < limit → MatchOption found (Passes limit [] (start ∷ [])) (IsFound limit [] start new) → Grows [] (start ∷ []) new × (length new ≤ limit)
start_found limit start new (Some place) some h = (h.grown, h.few)
start_found limit start new None some p = absurd (let few = Grows-length p.front [] p.found p.grown in let more = p.more in omega (arith, few, more, ap length p.parts, length-append p.front p.rest, some))
