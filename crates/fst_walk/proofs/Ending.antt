-- The end of a walk, and what its states make.
use Rattle.std.proofs.Common.{◌≡◌, ℕ, ◌<◌, ◌≤◌, List, [], ◌∷◌, Option, None, Some, length, map, take, get_or, slice_get, refl, sym, ap, subst, ◌∙◌, arith}
use Rattle.std.specs.Prelude.{MatchOption}
use Rattle.std.specs.List.{All, AllZip}
use Rattle.std.proofs.lemmas.List.{take_all}
use Rattle.std.proofs.lemmas.Option.{get_or_from_slice_get, slice_get-get_or, slice_get_within}
use Rattle.std.proofs.lemmas.Slice.Zip.{AllZip-long}
use Rattle.fst_semiring.specs.Cost.{Cost}
use Rattle.fst_machine.specs.BreadthFirst.{Has, IsBreadthFirst}
use Rattle.fst_machine.specs.Graph.{Graph, no_state, renamed}
use Rattle.fst_machine.specs.Machine.{Arc, IsArc, IsMachine, State, greatest_label, most_arcs, most_states}
use Rattle.fst_machine.specs.Numbering.{IsNumbered, start_of}
use Rattle.fst_machine.proofs.BreadthFirst.{breadth_first_of_walked}
use Rattle.fst_machine.proofs.Elements.{Has_at, at_Has}
use Rattle.fst_machine.proofs.Walking.{walking_ends}
use Rattle.fst_walk.specs.Answers.{HasManyArcs, IsFine, IsNamed, IsOut}
use Rattle.fst_walk.specs.Names.{IsGoodArc, IsNear}
use Rattle.fst_walk.specs.Making.{Fits, IsMaking, IsCounted, IsDone, IsFirstOut, IsNumberedArc, IsNumberedState, arcs_of}
use Rattle.fst_walk.proofs.Following.{zip_total}
use Rattle.fst_walk.proofs.Putting.{zip_at, zip_back}

module _ {N : Type 0} (g : Graph N) (limit : ℕ) (names : List N) (states : List (State Cost)) (total : ℕ) (overflow : Option ℕ) where
  -- all names were followed
  pub making_ends : (taken : ℕ) → IsMaking g limit names states total overflow taken → length names ≤ taken → IsDone g limit names states total overflow
  making_ends taken h done =
      let all : take taken names ≡ names = take_all taken names done in
      record {
        reached = record { start = h.start; starts = h.starts; listed = breadth_first_of_walked g h.start names (walking_ends g h.start names taken h.walking done); few = h.few };
        near = λ small n has.
            let place = Has_at names n has in
            let path = h.reached place.0 n place.1 in
            let low = slice_get_within names place.0 n place.1 in
            let few = h.few in
            let short = path.2 in
            record { start = h.start; starts = h.starts; path = path.0; leads = path.1; short = omega (arith, low, few, short, small) };
        counted = subst (λ ns. IsCounted total (arcs_of g ns)) all h.counted;
        range = λ low. subst (λ ns. MatchOption overflow (All (Fits g) ns) (IsFirstOut g ns)) all (h.range low);
        made = λ none low. subst (λ (ns : List N). AllZip (IsNumberedState g names) ns states) all (h.made none low);
      }

  -- too many arcs
  pub done_many : IsDone g limit names states total overflow → most_arcs < total → HasManyArcs g limit
  done_many h many = record { names = names; reached = h.reached; many = h.counted.1 many }

-- a weight out of range
pub done_out : {N : Type 0} (g : Graph N) (limit : ℕ) (names : List N) (states : List (State Cost)) (total place : ℕ) → IsDone g limit names states total (Some place) → total ≤ most_arcs → IsOut g limit place
done_out g limit names states total place h low = record { names = names; reached = h.reached; few = subst (λ (n : ℕ). n ≤ most_arcs) (h.counted.0 low) low; out = h.range low }

-- a list that begins has a first number
starts_at : {N : Type 0} (names : List N) (start : N) → slice_get names 0 ≡ Some start → start_of names ≡ Some 0
starts_at [] start e = absurd (cc)
starts_at (n ∷ names) start e = refl

module _ {N : Type 0} (g : Graph N) (names : List N) where
  -- the arcs of a numbered state
  numbered_arcs : (d : N) (arcs : List (Arc Cost N)) (out : List (Arc Cost ℕ)) → AllZip (IsNumberedArc names) arcs out → arcs ≡ map (renamed (λ j. get_or names j d)) out
  numbered_arcs d [] [] h = refl
  numbered_arcs d [] (c ∷ out) h = absurd h
  numbered_arcs d (a ∷ arcs) [] h = absurd h
  numbered_arcs d (a ∷ arcs) (c ∷ out) h = λ i. (arc i) ∷ (numbered_arcs d arcs out h.1 i)
    where
      next : a.next ≡ get_or names c.next d
      next = sym (get_or_from_slice_get names c.next a.next d h.0.next)

      arc : a ≡ renamed (λ j. get_or names j d) c
      arc = λ i. record { ilabel = sym h.0.ilabel i; olabel = sym h.0.olabel i; weight = sym h.0.weight i; next = next i }

  module _ (states : List (State Cost)) (made : AllZip (IsNumberedState g names) names states) where
    -- the state of a number
    state_at : (i : ℕ) (s : State Cost) → slice_get states i ≡ Some s → get_or states i no_state ≡ s
    state_at i s e = get_or_from_slice_get states i s no_state e

    -- the machine of the states is the graph, numbered
    pub done_numbered : (start : N) → g.start ≡ Some start → IsBreadthFirst g start names → IsNumbered g names (record { start = Some 0; states = states })
    done_numbered start starts listed = record {
      start = sym (starts_at names start listed.begins);
      first = starts ∙ sym listed.begins;
      states = AllZip-long (IsNumberedState g names) names states made;
      arcs = λ i n d e.
          let s = zip_at (IsNumberedState g names) names states i n made e in
          numbered_arcs d (g.arcs n) s.0.arcs s.2.arcs ∙ sym (ap (λ (t : State Cost). map (renamed (λ j. get_or names j d)) t.arcs) (state_at i s.0 s.1));
      final = λ i n e.
          let s = zip_at (IsNumberedState g names) names states i n made e in
          sym s.2.final ∙ sym (ap (λ (t : State Cost). t.final) (state_at i s.0 s.1));
      within = λ i k a low e.
          let s = zip_at (IsNumberedState g names) names states i (get_or names i start) made (slice_get-get_or names i start low) in
          let there : slice_get s.0.arcs k ≡ Some a = ap (λ (t : State Cost). slice_get t.arcs k) (sym (state_at i s.0 s.1)) ∙ e in
          let arc = zip_back (IsNumberedArc names) (g.arcs (get_or names i start)) s.0.arcs k a s.2.arcs there in
          slice_get_within names a.next arc.0.next arc.2.next;
    }

    -- and is a machine
    pub done_machine : ((n : N) → Has names n → (k : ℕ) (a : Arc Cost N) → slice_get (g.arcs n) k ≡ Some a → IsGoodArc a) → 0 < length names → length names ≤ most_states → arcs_of g names ≤ most_arcs → IsMachine (λ (v : Cost). v) (record { start = Some 0; states = states })
    done_machine good some few_states few_arcs = record {
      start = omega (arith, size, some);
      arcs = λ i d low. state_good (get_or states i d) i (slice_get-get_or states i d low);
      few_states = omega (arith, size, few_states);
      few_arcs = let total_is = zip_total g names names states made in omega (arith, total_is, few_arcs);
    }
      where
        size : length states ≡ length names
        size = AllZip-long (IsNumberedState g names) names states made

        state_good : (s : State Cost) (i : ℕ) → slice_get states i ≡ Some s → All (IsArc (λ (v : Cost). v) (length states)) s.arcs
        state_good s i e k d low =
            let name = zip_back (IsNumberedState g names) names states i s made e in
            let c = get_or s.arcs k d in
            let arc = zip_back (IsNumberedArc names) (g.arcs name.0) s.arcs k c name.2.arcs (slice_get-get_or s.arcs k d low) in
            let fine = good name.0 (at_Has names i name.0 name.1) k arc.0 arc.1 in
            let within = slice_get_within names c.next arc.0.next arc.2.next in
            record {
              ilabel = subst (λ (n : ℕ). n ≤ greatest_label) (sym arc.2.ilabel) fine.ilabel;
              olabel = subst (λ (n : ℕ). n ≤ greatest_label) (sym arc.2.olabel) fine.olabel;
              weight = λ z. fine.weight (sym arc.2.weight ∙ z);
              next = omega (arith, within, size);
            }

module _ {N : Type 0} (g : Graph N) (limit : ℕ) (names : List N) (states : List (State Cost)) (total : ℕ) (h : IsDone g limit names states total None) (low : total ≤ most_arcs) where
  few : arcs_of g names ≤ most_arcs
  few = subst (λ (n : ℕ). n ≤ most_arcs) (h.counted.0 low) low

  -- nothing stands against the machine
  pub done_fine : IsFine g limit names
  done_fine = record { reached = h.reached; few = few; range = h.range low }

  -- which is the graph of the names, numbered
  pub done_made : IsNamed g names (record { start = Some 0; states = states })
  done_made = record {
    listed = subst (λ o. MatchOption o (names ≡ []) (λ s. IsBreadthFirst g s names)) (sym h.reached.starts) h.reached.listed;
    numbered = done_numbered g names states (h.made refl low) h.reached.start h.reached.starts h.reached.listed;
  }

  -- and a machine
  pub done_good : ((n : N) → IsNear g n → (k : ℕ) (a : Arc Cost N) → slice_get (g.arcs n) k ≡ Some a → IsGoodArc a) → limit ≤ most_states → IsMachine (λ (v : Cost). v) (record { start = Some 0; states = states })
  done_good good small =
      let some : 0 < length names = slice_get_within names 0 h.reached.start h.reached.listed.begins in
      let fewer = h.reached.few in
      done_machine g names states (h.made refl low) (λ n has. good n (h.near small n has)) some (omega (arith, fewer, small)) few
