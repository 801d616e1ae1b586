-- The result grows by a state.
use Rattle.std.proofs.Common.{◌≡◌, ◌⊎◌, inl, inr, ℕ, ◌+◌, ◌<◌, ◌≤◌, min, zero, suc, List, [], ◌∷◌, ◌++◌, Option, None, Some, true, false, true≢false, is_some, length, take, slice_get, refl, sym, ap, ◌∙◌, subst, arith}
use Rattle.std.specs.List.{All}
use Rattle.std.specs.Prelude.{IfSome}
use Rattle.std.proofs.lemmas.Bool.{cases_lt}
use Rattle.std.proofs.lemmas.List.Elements.{All-map, All-nil, All-push}
use Rattle.std.proofs.lemmas.List.Sums.{sum_by-append}
use Rattle.std.proofs.lemmas.Option.{same_Some, slice_get_within}
use Rattle.fst_semiring.specs.Cost.{Cost}
use Rattle.fst_semiring.specs.declared.arc_type.ArcType.{ArcType}
use Rattle.fst_semiring.specs.Semiring.{InRange}
use Rattle.fst_machine.specs.Graph.{Graph}
use Rattle.fst_machine.specs.Machine.{Arc, State, arc_total, most_arcs, valued_arc, valued_state}
use Rattle.fst_machine.specs.Narrowing.{IsFirstPast, IsInRange}
use Rattle.fst_machine.proofs.Arcs.{append_at, at_append_left, at_append_right}
use Rattle.fst_epsilon.specs.Answers.{AreRemoved, IsRemovedState}
use Rattle.fst_epsilon.specs.Making.{IsMade}

total_more : (all : List (State Cost)) (s : State Cost) → arc_total (all ++ s ∷ []) ≡ arc_total all + length s.arcs
total_more all s = let e = sum_by-append (λ (t : State Cost). length t.arcs) all (s ∷ []) in omega (arith, e)

take_front : {X : Type 0} (xs ys : List X) (i : ℕ) → i ≤ length xs → take i (xs ++ ys) ≡ take i xs
take_front xs ys zero low = refl
take_front [] ys (suc i) low = absurd (omega (arith, low))
take_front (x ∷ xs) ys (suc i) low = ap (λ zs. x ∷ zs) (take_front xs ys i (omega (arith, low)))

take_whole : {X : Type 0} (xs ys : List X) → take (length xs) (xs ++ ys) ≡ xs
take_whole [] ys = refl
take_whole (x ∷ xs) ys = ap (λ zs. x ∷ zs) (take_whole xs ys)

-- nothing is made yet
pub made_nothing : (kept : List (State Cost)) → kept ≡ [] → IsMade [] kept 0 None
made_nothing kept e = record { few = λ low. refl; many = λ high. absurd (omega (arith, high)); range = λ low. All-nil IsInRange; all_kept = λ low none. e }

module _ (all kept : List (State Cost)) (total count : ℕ) (s : State Cost) (size : count ≡ min (total + length s.arcs) 18446744073709551615) where
  few_more : (total ≤ most_arcs → total ≡ arc_total all) → count ≤ most_arcs → count ≡ arc_total (all ++ s ∷ [])
  few_more few low = let was = few (omega (arith, size, low)) in let more = total_more all s in omega (arith, size, low, was, more)

  many_more : (total ≤ most_arcs → total ≡ arc_total all) → (most_arcs < total → most_arcs < arc_total all) → most_arcs < count → most_arcs < arc_total (all ++ s ∷ [])
  many_more few many high = by (cases_lt most_arcs total)
    where
      by : (most_arcs < total) ⊎ (total ≤ most_arcs) → most_arcs < arc_total (all ++ s ∷ [])
      by (inl above) = let more = total_more all s in let was = many above in omega (arith, more, was)
      by (inr low) = let more = total_more all s in let was = few low in omega (arith, more, was, size, high)

  -- with too many arcs nothing is kept any more
  pub made_many : (new : List (State Cost)) (overflow : Option ℕ) → IsMade all kept total overflow → most_arcs < count → IsMade (all ++ s ∷ []) new count overflow
  made_many new overflow made high = record {
    few = few_more made.few;
    many = many_more made.few made.many;
    range = λ low. absurd (omega (arith, low, high));
    all_kept = λ low none. absurd (omega (arith, low, high));
  }

  -- after one that is out of range
  pub made_past : (place : ℕ) → IsMade all kept total (Some place) → IsMade (all ++ s ∷ []) kept count (Some place)
  made_past place made = record {
    few = few_more made.few;
    many = many_more made.few made.many;
    range = λ low. past_more (made.range (omega (arith, size, low)));
    all_kept = λ low none. absurd (let wrong : ◌≡◌ {A = Option ℕ} (Some place) None = none in cc);
  }
    where
      past_more : IsFirstPast (record { start = None; states = all }) place → IsFirstPast (record { start = None; states = all ++ s ∷ [] }) place
      past_more first = record {
        here = first.here;
        there = at_append_left all (s ∷ []) place first.here first.there;
        past = first.past;
        before = subst (λ (zs : List (State Cost)). All IsInRange zs) (sym (take_front all (s ∷ []) place (let low = slice_get_within all place first.here first.there in omega (arith, low)))) first.before;
      }

  -- the first that is out of range
  pub made_out : (new : List (State Cost)) (place : ℕ) → length all ≡ place → IsMade all kept total None → (IsInRange s → ⊥) → IsMade (all ++ s ∷ []) new count (Some place)
  made_out new place at made past = record {
    few = few_more made.few;
    many = many_more made.few made.many;
    range = λ low. record {
      here = s;
      there = subst (λ (k : ℕ). slice_get (all ++ s ∷ []) k ≡ Some s) (let e : length all + 0 ≡ place = omega (arith, at) in e) (at_append_right all (s ∷ []) 0 s refl);
      past = past;
      before = subst (λ (zs : List (State Cost)). All IsInRange zs) (sym (ap (λ (k : ℕ). take k (all ++ s ∷ [])) (sym at) ∙ take_whole all (s ∷ []))) (made.range (omega (arith, size, low)));
    };
    all_kept = λ low none. absurd (let wrong : ◌≡◌ {A = Option ℕ} (Some place) None = none in cc);
  }

  -- one that is in range
  pub made_more : (new : List (State Cost)) → IsMade all kept total None → IsInRange s → new ≡ kept ++ s ∷ [] → IsMade (all ++ s ∷ []) new count None
  made_more new made fits put = record {
    few = few_more made.few;
    many = many_more made.few made.many;
    range = λ low. All-push IsInRange all s (made.range (omega (arith, size, low))) fits;
    all_kept = λ low none. put ∙ ap (λ (zs : List (State Cost)). zs ++ s ∷ []) (made.all_kept (omega (arith, size, low)) refl);
  }

  -- the same, whether one was out of range or not
  pub after_past : (overflow : Option ℕ) → is_some overflow ≡ true → IsMade all kept total overflow → IsMade (all ++ s ∷ []) kept count overflow
  after_past None some made = absurd (true≢false (sym some))
  after_past (Some place) some made = made_past place made

  pub after_none_out : (overflow : Option ℕ) (new : List (State Cost)) (place : ℕ) → is_some overflow ≡ false → length all ≡ place → IsMade all kept total overflow → (IsInRange s → ⊥) → IsMade (all ++ s ∷ []) new count (Some place)
  after_none_out None new place none at made past = made_out new place at made past
  after_none_out (Some first) new place none at made past = absurd (true≢false none)

  pub after_none : (overflow : Option ℕ) (new : List (State Cost)) → is_some overflow ≡ false → IsMade all kept total overflow → IsInRange s → new ≡ kept ++ s ∷ [] → IsMade (all ++ s ∷ []) new count overflow
  after_none None new none made fits put = made_more new made fits put
  after_none (Some first) new none made fits put = absurd (true≢false none)

  -- there is room for it
  pub room : IsMade all kept total None → count ≤ most_arcs → arc_total kept + length s.arcs ≤ most_arcs
  room made low =
      let same : arc_total kept ≡ arc_total all = ap arc_total (made.all_kept (omega (arith, size, low)) refl) in
      let was = made.few (omega (arith, size, low)) in
      omega (arith, same, was, size, low)

-- one state more of the result
pub removed_more : (kind : ArcType) (g : Graph ℕ) (all : List (State Cost)) (s : State Cost) → AreRemoved kind g all → IsRemovedState kind g (length all) s → AreRemoved kind g (all ++ s ∷ [])
removed_more kind g all s before here q x at = by (append_at all (s ∷ []) q x at)
  where
    own : (j : ℕ) → slice_get (s ∷ []) j ≡ Some x → q ≡ length all + j → IsRemovedState kind g q x
    own zero e is = subst (λ (k : ℕ). IsRemovedState kind g k x) (let z : length all ≡ q = omega (arith, is) in z) (subst (IsRemovedState kind g (length all)) (same_Some s x e) here)
    own (suc j) e is = absurd (let wrong : ◌≡◌ {A = Option (State Cost)} None (Some x) = e in cc)

    by : (slice_get all q ≡ Some x) ⊎ ((j : ℕ) × (slice_get (s ∷ []) j ≡ Some x) × (q ≡ length all + j)) → IsRemovedState kind g q x
    by (inl there) = before q x there
    by (inr last) = own last.0 last.1 last.2

-- a state of arcs in range, where the final weight is in range too
pub near_state : {V : Type 0} (value : V → Cost) (last : Option V) (arcs : List (Arc V ℕ)) → IfSome last (λ w. InRange (value w)) → All (λ a. InRange (value a.weight)) arcs
    → IfSome last (λ w. IsInRange (valued_state value (record { final = w; arcs = arcs })))
near_state value None arcs ends all = tt
near_state value (Some w) arcs ends all = record { final = ends; arcs = All-map (λ (a : Arc Cost ℕ). InRange a.weight) (valued_arc value) arcs all }
