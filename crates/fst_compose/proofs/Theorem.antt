-- The theorem of composition, for the graph: its successful paths are the matching pairs, one to one.
use Rattle.std.proofs.Common.{◌≡◌, ◌⊎◌, inl, inr, ◌↔◌, ℕ, List, Option, None, Some, map, sym, refl, ap, ap₂, ◌∙◌, subst}
use Rattle.fst_semiring.specs.Cost.{Cost, infinite}
use Rattle.fst_semiring.specs.declared.arc_type.ArcType.{ArcType}
use Rattle.fst_semiring.specs.Semiring.{times}
use Rattle.fst_semiring.proofs.Laws.{times_four, times_zero, zero_times, times_only_zero}
use Rattle.fst_machine.specs.Graph.{Graph}
use Rattle.fst_machine.specs.Letters.{input, output, product}
use Rattle.fst_machine.specs.Paths.{Transition, IsPath, letters}
use Rattle.fst_machine.specs.Relation.{IsSuccessful, Rel}
use Rattle.fst_machine.specs.Matching.{IsMatchingPair}
use Rattle.fst_compose.specs.Names.{Name, name_at}
use Rattle.fst_compose.specs.Composition.{start_name, composed}
use Rattle.fst_compose.specs.Moves.{Move, firsts, seconds}
use Rattle.fst_compose.specs.Reading.{ReadsOff, IsReadOff}
use Rattle.fst_compose.specs.Theorem.{Relates, RelatesNothing, IsComposed}
use Rattle.fst_compose.proofs.Merge.{word, merge, merge_is, merge_matches, merge_only}
use Rattle.fst_compose.proofs.Moves.{writes, reads, composed_arcs}
use Rattle.fst_compose.proofs.Words.{word-writes, word-reads, letter_by, moves-input, moves-output, moves-product}
use Rattle.fst_compose.proofs.Paths.{IsRun, readable, read_run, read_letters, run_path, one_path, one_reading}

-- a composition starts where both start
pub starts_at : {N M : Type 0} (s : Option N) (t : Option M) (n : Name N M) → start_name s t ≡ Some n → (p : N) × (q : M) × (s ≡ Some p) × (t ≡ Some q) × (name_at p q 0 ≡ n)
starts_at None t n e = absurd (cc)
starts_at (Some p) None n e = absurd (cc)
starts_at (Some p) (Some q) n e = (p, q, refl, refl, cc)

pub starts_both : {N M : Type 0} (s : Option N) (t : Option M) (p : N) (q : M) → s ≡ Some p → t ≡ Some q → start_name s t ≡ Some (name_at p q 0)
starts_both s t p q e f = ap₂ start_name e f

-- a path is read off to one pair
pub read_once : {N M : Type 0} (a : Graph N) (b : Graph M) (path : List (Transition (Name N M))) (one other : List (Transition N)) (two another : List (Transition M)) → IsReadOff a b path one two → IsReadOff a b path other another → (one ≡ other) × (two ≡ another)
read_once a b path one other two another r q =
    let same = one_reading a b path r.moves q.moves r.reads q.reads in
    (sym r.first ∙ (ap firsts same ∙ q.first), sym r.second ∙ (ap seconds same ∙ q.second))

module _ {N M : Type 0} (kind : ArcType) (a : Graph N) (b : Graph M) where
  -- the moves of a path from a start
  from_start : (path : List (Transition (Name N M))) (w : Cost) (s : IsSuccessful kind (composed kind a b) path w) → (p : N) × (q : M) × (a.start ≡ Some p) × (b.start ≡ Some q) × IsPath (composed kind a b) (name_at p q 0) path s.last
  from_start path w s =
      let at = starts_at a.start b.start s.first s.starts in
      (at.0, at.1, at.2, at.3, subst (λ (n : Name N M). IsPath (composed kind a b) n path s.last) (sym at.4) s.leads)

  -- the parts of a matching pair, from moves that run from the starts to final names
  pair_of : (p : N) (q : M) (to : Name N M) (path : List (Transition (Name N M))) (ms : List (Move (Transition N) (Transition M))) (w : Cost) → a.start ≡ Some p → b.start ≡ Some q → IsRun kind a b (name_at p q 0) ms to.first to.second → (times kind (a.final to.first) (b.final to.second) ≡ infinite → ⊥) → letters path ≡ map (letter_by kind) ms → w ≡ times kind (product kind (letters path)) (times kind (a.final to.first) (b.final to.second)) → IsMatchingPair kind a b (firsts ms) (seconds ms) (input (letters path)) (output (letters path)) w
  pair_of p q to path ms w at bt run final same weight =
      let u : Cost = product kind (letters (firsts ms)) in
      let v : Cost = product kind (letters (seconds ms)) in
      record {
        first_weight = times kind u (a.final to.first);
        second_weight = times kind v (b.final to.second);
        first = record { first = p; last = to.first; starts = at; leads = run.0; final = λ none. final (ap (λ z. times kind z (b.final to.second)) none ∙ zero_times kind (b.final to.second)); weight = refl };
        second = record { first = q; last = to.second; starts = bt; leads = run.1; final = λ none. final (ap (times kind (a.final to.first)) none ∙ times_zero kind (a.final to.first)); weight = refl };
        matches = sym (word-writes (firsts ms)) ∙ (merge_matches writes reads 0 ms run.2 ∙ word-reads (seconds ms));
        reads = ap input same ∙ moves-input kind ms;
        writes = ap output same ∙ moves-output kind ms;
        weight = weight ∙ (ap (λ z. times kind z (times kind (a.final to.first) (b.final to.second))) (ap (product kind) same ∙ moves-product kind ms) ∙ times_four kind u v (a.final to.first) (b.final to.second));
      }

  -- each successful path is read off to a matching pair with its triple
  pub reads_match : (path : List (Transition (Name N M))) (w : Cost) → IsSuccessful kind (composed kind a b) path w → (one : List (Transition N)) × (two : List (Transition M)) × IsReadOff a b path one two × IsMatchingPair kind a b one two (input (letters path)) (output (letters path)) w
  reads_match path w s =
      let from = from_start path w s in
      let n : Name N M = name_at from.0 from.1 0 in
      let r = readable kind a b n s.last path from.4 in
      let run = read_run kind a b n s.last path r.0 from.4 r.1 in
      let same = read_letters kind a b n s.last path r.0 from.4 r.1 in
      (firsts r.0, seconds r.0, record { moves = r.0; reads = r.1; first = refl; second = refl }, pair_of from.0 from.1 s.last path r.0 w from.2 from.3 run s.final same s.weight)

  -- the moves of a matching pair are a run
  pair_run : (p : N) (q : M) (one : List (Transition N)) (two : List (Transition M)) (x z : List ℕ) (w : Cost) (h : IsMatchingPair kind a b one two x z w) → a.start ≡ Some p → b.start ≡ Some q → h.first.first ≡ p → h.second.first ≡ q → (ms : List (Move (Transition N) (Transition M))) × IsRun kind a b (name_at p q 0) ms h.first.last h.second.last × (firsts ms ≡ one) × (seconds ms ≡ two)
  pair_run p q one two x z w h at bt fp fq =
      let words : word writes one ≡ word reads two = word-writes one ∙ (h.matches ∙ sym (word-reads two)) in
      let m = merge_is writes reads one two words in
      let first : IsPath a p one h.first.last = subst (λ (y : N). IsPath a y one h.first.last) fp h.first.leads in
      let second : IsPath b q two h.second.last = subst (λ (y : M). IsPath b y two h.second.last) fq h.second.leads in
      (merge writes reads one two, (subst (λ ts. IsPath a p ts h.first.last) (sym m.1) first, subst (λ ts. IsPath b q ts h.second.last) (sym m.2) second, m.0), m.1, m.2)

  -- a product of final weights that are not Zero is not Zero
  both_final : (u v : Cost) → (u ≡ infinite → ⊥) → (v ≡ infinite → ⊥) → times kind u v ≡ infinite → ⊥
  both_final u v one two e = by_factor (times_only_zero kind u v e)
    where
      by_factor : (u ≡ infinite) ⊎ (v ≡ infinite) → ⊥
      by_factor (inl none) = one none
      by_factor (inr none) = two none

  -- each matching pair is read off from a successful path with its triple
  pub match_has : (one : List (Transition N)) (two : List (Transition M)) (x z : List ℕ) (w : Cost) → IsMatchingPair kind a b one two x z w → (path : List (Transition (Name N M))) × IsSuccessful kind (composed kind a b) path w × IsReadOff a b path one two × (x ≡ input (letters path)) × (z ≡ output (letters path))
  match_has one two x z w h =
      let start : Name N M = name_at h.first.first h.second.first 0 in
      let r = pair_run h.first.first h.second.first one two x z w h h.first.starts h.second.starts refl refl in
      let made = run_path kind a b start h.first.last h.second.last r.0 r.1 in
      let same = read_letters kind a b start made.1 made.0 r.0 made.2 made.3 in
      finish r.0 made.0 made.1 made.2 made.3 made.4 made.5 r.2 r.3 same
    where
      finish : (ms : List (Move (Transition N) (Transition M))) (path : List (Transition (Name N M))) (to : Name N M) → IsPath (composed kind a b) (name_at h.first.first h.second.first 0) path to → ReadsOff a b path ms → to.first ≡ h.first.last → to.second ≡ h.second.last → firsts ms ≡ one → seconds ms ≡ two → letters path ≡ map (letter_by kind) ms → (path : List (Transition (Name N M))) × IsSuccessful kind (composed kind a b) path w × IsReadOff a b path one two × (x ≡ input (letters path)) × (z ≡ output (letters path))
      finish ms path to leads read first second ones twos same =
          let finals : times kind (a.final to.first) (b.final to.second) ≡ times kind (a.final h.first.last) (b.final h.second.last) = ap₂ (times kind) (ap a.final first) (ap b.final second) in
          let products : product kind (letters path) ≡ times kind (product kind (letters one)) (product kind (letters two)) = ap (product kind) same ∙ (moves-product kind ms ∙ ap₂ (times kind) (ap (λ ts. product kind (letters ts)) ones) (ap (λ ts. product kind (letters ts)) twos)) in
          let whole : times kind (product kind (letters path)) (times kind (a.final to.first) (b.final to.second)) ≡ times kind h.first_weight h.second_weight =
          ap₂ (times kind) products finals
          ∙ (times_four kind (product kind (letters one)) (product kind (letters two)) (a.final h.first.last) (b.final h.second.last)
          ∙ ap₂ (times kind) (sym h.first.weight) (sym h.second.weight)) in (
            path,
            record {
              first = name_at h.first.first h.second.first 0;
              last = to;
              starts = starts_both a.start b.start h.first.first h.second.first h.first.starts h.second.starts;
              leads = leads;
              final = λ none. both_final (a.final h.first.last) (b.final h.second.last) h.first.final h.second.final (sym finals ∙ none);
              weight = h.weight ∙ sym whole;
            },
            record { moves = ms; reads = read; first = ones; second = twos },
            h.reads ∙ sym (ap input same ∙ (moves-input kind ms ∙ ap (λ ts. input (letters ts)) ones)),
            h.writes ∙ sym (ap output same ∙ (moves-output kind ms ∙ ap (λ ts. output (letters ts)) twos)),
          )

  -- and from one only
  pub match_one : (path other : List (Transition (Name N M))) (v w : Cost) (one : List (Transition N)) (two : List (Transition M)) → IsSuccessful kind (composed kind a b) path v → IsSuccessful kind (composed kind a b) other w → IsReadOff a b path one two → IsReadOff a b other one two → path ≡ other
  match_one path other v w one two s t r q =
      let first : t.first ≡ s.first = let e : Some t.first ≡ Some s.first = sym t.starts ∙ s.starts in cc in
      let leads : IsPath (composed kind a b) s.first other t.last = subst (λ (y : Name N M). IsPath (composed kind a b) y other t.last) first t.leads in
      let here = read_run kind a b s.first s.last path r.moves s.leads r.reads in
      let there = read_run kind a b s.first t.last other q.moves leads q.reads in
      let merged : r.moves ≡ merge writes reads one two = merge_only writes reads s.first.filter r.moves here.2 ∙ ap₂ (merge writes reads) r.first r.second in
      let others : q.moves ≡ merge writes reads one two = merge_only writes reads s.first.filter q.moves there.2 ∙ ap₂ (merge writes reads) q.first q.second in
      one_path kind a b s.first s.last t.last path other r.moves s.leads leads r.reads (subst (λ ms. ReadsOff a b other ms) (others ∙ sym merged) q.reads)

  -- the relation is that of the two, one after the other
  pub composed-Rel : (x z : List ℕ) (w : Cost) → Rel kind (composed kind a b) x z w ↔ Relates kind a b x z w
  composed-Rel x z w = (there, back)
    where
      there : Rel kind (composed kind a b) x z w → Relates kind a b x z w
      there r =
          let m = reads_match r.says.path w (record { first = r.first; last = r.says.last; starts = r.starts; leads = r.says.leads; final = r.says.final; weight = r.says.weight }) in
          let h = m.3 in
          record {
            middle = output (letters m.0);
            first_weight = h.first_weight;
            second_weight = h.second_weight;
            first = record { first = h.first.first; starts = h.first.starts; says = record { path = m.0; last = h.first.last; leads = h.first.leads; final = h.first.final; reads = r.says.reads ∙ h.reads; writes = refl; weight = h.first.weight } };
            second = record { first = h.second.first; starts = h.second.starts; says = record { path = m.1; last = h.second.last; leads = h.second.leads; final = h.second.final; reads = h.matches; writes = r.says.writes ∙ h.writes; weight = h.second.weight } };
            weight = h.weight;
          }

      back : Relates kind a b x z w → Rel kind (composed kind a b) x z w
      back r =
          let one = r.first.says in
          let two = r.second.says in
          let m = match_has one.path two.path x z w (record {
            first_weight = r.first_weight;
            second_weight = r.second_weight;
            first = record { first = r.first.first; last = one.last; starts = r.first.starts; leads = one.leads; final = one.final; weight = one.weight };
            second = record { first = r.second.first; last = two.last; starts = r.second.starts; leads = two.leads; final = two.final; weight = two.weight };
            matches = sym one.writes ∙ two.reads;
            reads = one.reads;
            writes = two.writes;
            weight = r.weight;
          }) in
          let s = m.1 in
          record { first = s.first; starts = s.starts; says = record { path = m.0; last = s.last; leads = s.leads; final = s.final; reads = m.3; writes = m.4; weight = s.weight } }

  -- So the composition is what it is to be.
  pub composed_is : IsComposed kind a b (composed kind a b)
  composed_is = record {
    arcs = composed_arcs kind a b;
    pairs = record { reads = reads_match; clear = read_once a b; has = match_has; once = match_one; says = composed-Rel };
  }

  -- Where a start is missing, neither side relates anything.
  pub composition_of_nothing : start_name a.start b.start ≡ None → (x z : List ℕ) (w : Cost) → RelatesNothing kind a b x z w
  composition_of_nothing none x z w = record { composed_none = empty; none = λ r. empty ((composed-Rel x z w).1 r) }
    where
      empty : Rel kind (composed kind a b) x z w → ⊥
      empty r = let e : None ≡ Some r.first = sym none ∙ r.starts in cc
