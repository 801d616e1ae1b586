-- A walk that has followed a part of the arcs of a name.
use Rattle.std.proofs.Common.{◌≡◌, ◌⊎◌, inl, inr, ℕ, ◌+◌, ◌-◌, ◌<◌, ◌≤◌, suc, Bool, true, false, not, true≢false, List, [], ◌++◌, Option, None, Some, length, take, slice_get, refl, sym, ap, subst, ◌∙◌, append_assoc, append-nil, arith}
use Rattle.std.specs.Bool.{Decides}
use Rattle.std.specs.Option.{is_some}
use Rattle.std.proofs.lemmas.Bool.{cases_lt}
use Rattle.std.proofs.lemmas.List.{length-append}
use Rattle.std.proofs.lemmas.List.Elements.{All-nil}
use Rattle.std.proofs.lemmas.Option.{slice_get_within}
use Rattle.fst_semiring.specs.Cost.{Cost}
use Rattle.fst_semiring.specs.Semiring.{InRange}
use Rattle.fst_machine.specs.Graph.{Graph, nexts}
use Rattle.fst_machine.specs.Machine.{Arc, State, arc_total, most_arcs, most_states}
use Rattle.fst_machine.proofs.Arcs.{at_append_left}
use Rattle.fst_machine.proofs.Walks.{Grows-front}
use Rattle.fst_walk.specs.Answers.{ReachesMore}
use Rattle.fst_walk.specs.Making.{IsCounted, IsMaking, IsTaking, Passes, PutsArcs, PutsState, arcs_of}
use Rattle.fst_walk.specs.Names.{IsNear}
use Rattle.fst_walk.proofs.Following.{making_goes, making_stops, near, room}
use Rattle.fst_walk.proofs.Putting.{passes_then, puts_many, puts_then}

-- how many places there can still be
abbrev pub places_left : Option ℕ → ℕ
places_left None = 0
places_left (Some from) = suc (4294967295 - from)

-- whether there is no place out of range yet
pub none_so_far : (o : Option ℕ) (b go : Bool) (P : Type 0) → is_some o ≡ not b → Decides go ((b ≡ true) × P) → Decides go ((o ≡ None) × P)
none_so_far None true go P is goes = ((λ t. (refl, (goes.0 t).1)), (λ both. goes.1 (refl, both.1)))
none_so_far None false go P is goes = absurd (true≢false (sym is))
none_so_far (Some k) true go P is goes = absurd (true≢false is)
none_so_far (Some k) false go P is goes = ((λ t. absurd (true≢false (sym (goes.0 t).0))), (λ both. absurd (let wrong : ◌≡◌ {A = Option ℕ} (Some k) None = both.0 in cc)))

-- two elements of one place
one_element : {X : Type 0} (o : Option X) (x y : X) → o ≡ Some x → o ≡ Some y → x ≡ y
one_element {X} o x y one two = let e : ◌≡◌ {A = Option X} (Some x) (Some y) = sym one ∙ two in cc

module _ {N : Type 0} (g : Graph N) (limit place : ℕ) (names : List N) (states : List (State Cost)) (out : List (Arc Cost ℕ)) (total : ℕ) (overflow : Option ℕ) (fits : Bool) where
  -- no arc of the next name is followed
  pub taking_begins : (rest : N → List (Arc Cost N)) (n : N) → IsMaking g limit names states total overflow place → slice_get names place ≡ Some n → rest n ≡ g.arcs n → (overflow ≡ None → total ≤ most_arcs → out ≡ []) → Decides fits ((overflow ≡ None) × (total ≤ most_arcs))
      → IsTaking g limit place rest names states out total overflow fits
  taking_begins rest n making there all closed decides = record {
    old = names;
    before = total;
    making = making;
    name = n;
    there = there;
    so_far = [];
    whole = all;
    puts = record {
      grown = refl;
      few = making.few;
      range = ((λ t. (decides.0 t, All-nil (λ (a : Arc Cost N). InRange a.weight))), (λ is. decides.1 is.0));
      put = λ t. let is = decides.0 t in ([], closed is.0 is.1, tt);
    };
    counted = let same : arcs_of g (take place names) ≡ arcs_of g (take place names) + 0 = omega arith in subst (IsCounted total) same making.counted;
  }

  module _ (rest : N → List (Arc Cost N)) (h : IsTaking g limit place rest names states out total overflow fits) where
    -- the name is still there
    taking_there : slice_get names place ≡ Some h.name
    taking_there =
        let front = Grows-front (nexts h.so_far) h.old names h.puts.grown in
        ap (λ ns. slice_get ns place) front.1 ∙ at_append_left h.old front.0 place h.name h.there

    pub taking_within : place < length names
    taking_within = slice_get_within names place h.name taking_there

    pub taking_name : (n : N) → slice_get names place ≡ Some n → h.name ≡ n
    taking_name n at = one_element (slice_get names place) h.name n taking_there at

    pub taking_near : limit ≤ most_states → (n : N) → slice_get names place ≡ Some n → IsNear g n
    taking_near small n at = subst (IsNear g) (taking_name n at) (near g limit h.old states h.before overflow place h.making h.name h.there small)

    -- more names than the limit are found by a part
    pub taking_stops : (n : N) (part left : List (Arc Cost N)) → slice_get names place ≡ Some n → part ++ left ≡ rest n → Passes limit names (nexts part) → ReachesMore g limit
    taking_stops n part left at is passes =
        let own : part ++ left ≡ rest h.name = is ∙ ap rest (sym (taking_name n at)) in
        making_stops g limit h.old states h.before overflow place h.making h.name h.there
        (passes_then limit (g.arcs h.name) h.so_far part left h.old names h.puts.grown passes (sym h.whole ∙ ap (λ zs. h.so_far ++ zs) (sym own)))

    module _ (part : List (Arc Cost N)) (count : ℕ) (counts : (k : ℕ) → IsCounted total k → IsCounted count (k + length part)) where
      whole_count : IsCounted count (arcs_of g (take place h.old) + length (h.so_far ++ part))
      whole_count =
          let same : arcs_of g (take place h.old) + length h.so_far + length part ≡ arcs_of g (take place h.old) + length (h.so_far ++ part) = omega (arith, length-append h.so_far part) in
          subst (IsCounted count) same (counts (arcs_of g (take place h.old) + length h.so_far) h.counted)

      -- what was counted before was not too much
      few_so_far : count ≤ most_arcs → total ≤ most_arcs
      few_so_far low = by_size (cases_lt most_arcs total)
        where
          by_size : (most_arcs < total) ⊎ (total ≤ most_arcs) → total ≤ most_arcs
          by_size (inl many) = absurd (let over = h.counted.1 many in let is = (counts (arcs_of g (take place h.old) + length h.so_far) h.counted).0 low in omega (arith, over, is, low))
          by_size (inr few) = few

      -- there is room for a part
      pub taking_room : fits ≡ true → count ≤ most_arcs → arc_total states + length out + length part ≤ most_arcs
      taking_room t low =
          let none : overflow ≡ None = (h.puts.range.0 t).0.0 in
          let own = room g limit h.old states h.before overflow place h.making h.name h.there count (length (h.so_far ++ part)) whole_count none low in
          let many : length out ≡ 0 + length h.so_far = puts_many limit ((overflow ≡ None) × (total ≤ most_arcs)) h.so_far h.old names [] out fits h.puts t in
          omega (arith, own, many, length-append h.so_far part)

      -- a part is followed
      pub taking_goes : (n : N) (later : N → List (Arc Cost N)) (new : List N) (more : List (Arc Cost ℕ)) (go fit : Bool)
          → slice_get names place ≡ Some n → part ++ later n ≡ rest n → Decides go ((fits ≡ true) × (count ≤ most_arcs)) → PutsArcs limit (go ≡ true) part names new out more fit
          → IsTaking g limit place later new states more count overflow fit
      taking_goes n later new more go fit at is goes puts = record {
        old = h.old;
        before = h.before;
        making = h.making;
        name = h.name;
        there = h.there;
        so_far = h.so_far ++ part;
        whole = append_assoc h.so_far part (later h.name) ∙ (ap (λ zs. h.so_far ++ zs) own ∙ h.whole);
        puts = puts_then limit ((overflow ≡ None) × (total ≤ most_arcs)) ((overflow ≡ None) × (count ≤ most_arcs)) h.so_far part h.old names new [] out more fits go fit
            (λ is. (is.0, few_so_far is.1))
            ((λ t. let on = goes.0 t in (on.0, ((h.puts.range.0 on.0).0.0, on.1))), (λ on. goes.1 (on.0, on.1.1)))
            h.puts puts;
        counted = whole_count;
      }
        where
          own : part ++ later h.name ≡ rest h.name
          own = subst (λ m. part ++ later m ≡ rest m) (sym (taking_name n at)) is

  -- all arcs of the name are followed, and its state is put
  pub taking_ends : (n : N) (last : Cost) (next : Option ℕ) (more : List (State Cost)) → IsTaking g limit place (λ m. []) names states out total overflow fits → slice_get names place ≡ Some n → last ≡ g.final n
      → PutsState place fits last out total overflow next states more → IsMaking g limit names more total next (place + 1)
  taking_ends n last next more h at final state =
      making_goes g limit h.old states h.before overflow place h.making h.name h.there names out fits last total next more
      (subst (λ zs. PutsArcs limit ((overflow ≡ None) × (total ≤ most_arcs)) zs h.old names [] out fits) all h.puts)
      (final ∙ ap g.final (sym (taking_name (λ m. []) h n at)))
      (subst (λ (zs : List (Arc Cost N)). IsCounted total (arcs_of g (take place h.old) + length zs)) all h.counted)
      state
    where
      all : h.so_far ≡ g.arcs h.name
      all = sym (append-nil h.so_far) ∙ h.whole
