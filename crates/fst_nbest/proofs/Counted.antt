-- Counts by a walk back.
use Rattle.std.proofs.Common.{◌≡◌, ◌≢◌, ◌⊎◌, inl, inr, ◌↔◌, ℕ, ◌+◌, ◌<◌, ◌≤◌, zero, suc, List, [], ◌∷◌, ◌++◌, Some, length, get_or, set, slice_get, take, refl, sym, ap, subst, ◌∙◌, arith}
use Rattle.std.proofs.lemmas.Bool.{cases_eq, cases_lt}
use Rattle.std.proofs.lemmas.List.{get_or-set_same, get_or-set_other, length-append, length-set, take_all, take_more}
use Rattle.std.proofs.lemmas.List.Elements.{All-push}
use Rattle.std.proofs.lemmas.Option.{get_or_from_slice_get, same_Some, slice_get_read, slice_get_within}
use Rattle.std.specs.List.{All}
use Rattle.fst_machine.specs.BreadthFirst.{Has, Apart}
use Rattle.fst_search.proofs.MachineHops.{all_at}
use Rattle.fst_machine.proofs.Arcs.{append_at, at_append_left}
use Rattle.fst_machine.proofs.Elements.{Has-append_left, Has-append_right, Has-append_cases, at_Has, Has_at, Apart_below, Apart-push}
use Rattle.fst_nbest.specs.Counts.{AreStops, Ends, IsLeastCount, Meets, MeetsAll, count_of, uncounted}

-- what is in a place of a list with one more element
push_at : {X : Type 0} (xs : List X) (x y : X) (i : ℕ) → slice_get (xs ++ x ∷ []) i ≡ Some y → ((slice_get xs i ≡ Some y) × (i < length xs)) ⊎ ((i ≡ length xs) × (x ≡ y))
push_at {X} xs x y i there = by (append_at xs (x ∷ []) i y there)
  where
    last : (j : ℕ) → slice_get (x ∷ []) j ≡ Some y → (j ≡ 0) × (x ≡ y)
    last zero e = (refl, same_Some x y e)
    last (suc j) e = absurd (cc)

    by : (slice_get xs i ≡ Some y) ⊎ ((j : ℕ) × (slice_get (x ∷ []) j ≡ Some y) × (i ≡ length xs + j)) → ((slice_get xs i ≡ Some y) × (i < length xs)) ⊎ ((i ≡ length xs) × (x ≡ y))
    by (inl e) = inl (e, slice_get_within xs i y e)
    by (inr (j, e, at)) = let r = last j e in inr (omega (arith, at, r.0), r.1)

module _ (n : ℕ) (Stops : ℕ → Type 0) (Goes : ℕ → ℕ → Type 0) where
  -- A walk back: the names so far, of which the first ones have been taken, with their counts. The counts are at most
  -- one more than those of the names that are still to be taken.
  pub record IsCounting (counts names : List ℕ) (taken level : ℕ) : Type 0 where
    pub size : length counts ≡ n
    pub met : (x : ℕ) → Has names x → count_of counts x ≢ uncounted
    pub there : (x : ℕ) → count_of counts x ≢ uncounted → Has names x
    pub apart : Apart names
    pub low : (x : ℕ) → Has names x → x < n
    pub ends : (x : ℕ) → Has names x → Ends Stops Goes x (count_of counts x)
    pub early : (i x : ℕ) → slice_get names i ≡ Some x → count_of counts x ≤ i
    pub order : (i j x y : ℕ) → slice_get names i ≡ Some x → slice_get names j ≡ Some y → i ≤ j → count_of counts x ≤ count_of counts y
    pub few : (x : ℕ) → Has names x → count_of counts x ≤ suc level
    pub later : (i y : ℕ) → slice_get names i ≡ Some y → taken ≤ i → level ≤ count_of counts y
    pub stopped : (x : ℕ) → Stops x → count_of counts x ≡ 0
    pub done : (i x y : ℕ) → slice_get names i ≡ Some y → i < taken → Goes x y → count_of counts x ≤ suc (count_of counts y)
    pub within : taken ≤ length names

  pub names_few : (counts names : List ℕ) (taken level : ℕ) → IsCounting counts names taken level → length names ≤ n
  names_few counts names taken level c = Apart_below n names c.apart c.low

  -- what stays after some names got a count
  pub record Goes_on (counts names after found : List ℕ) (taken level : ℕ) : Type 0 where
    pub counting : IsCounting after found taken level
    pub same : (x : ℕ) → count_of counts x ≢ uncounted → count_of after x ≡ count_of counts x
    pub prefix : (i x : ℕ) → slice_get names i ≡ Some x → slice_get found i ≡ Some x
    pub longer : length names ≤ length found

  module _ (small : n ≤ 8388608) (level taken : ℕ) where
    -- a name that is not counted yet gets the next count
    push_next : (counts names : List ℕ) (x : ℕ) → IsCounting counts names taken level → suc level ≤ length names → x < n → count_of counts x ≡ uncounted → Ends Stops Goes x (suc level)
        → Goes_on counts names (set counts x (suc level)) (names ++ x ∷ []) taken level
    push_next counts names x c fits low blank ends = record {
      counting = record {
        size = length-set counts x (suc level) ∙ c.size;
        met = λ z there. by_name z there (λ old e. c.met z old (sym (kept z old) ∙ e)) (λ e h. (let f : suc level ≡ uncounted = sym here ∙ (ap after_of (sym e) ∙ h) in absurd (omega (arith, f, fits, few, small))));
        there = λ z some. by_there z some (cases_eq z x);
        apart = Apart-push names x c.apart (λ there. c.met x there blank);
        low = λ z there. by_name z there (λ old. c.low z old) (λ e. subst (λ (y : ℕ). y < n) (sym e) low);
        ends = λ z there. by_name z there (λ old. subst (λ (k : ℕ). Ends Stops Goes z k) (sym (kept z old)) (c.ends z old)) (λ e. subst (λ (y : ℕ). Ends Stops Goes y (after_of y)) (sym e) (subst (λ (k : ℕ). Ends Stops Goes x k) (sym here) ends));
        early = λ i z there. by_place i z there (λ old within. (let k = kept z (at_Has names i z old) in let e = c.early i z old in omega (arith, k, e)))
            (λ at e. (let h : after_of z ≡ suc level = ap after_of (sym e) ∙ here in omega (arith, at, h, fits)));
        order = λ i j y z one two before. by_place i y one
            (λ old within. by_place j z two
            (λ old_two within_two. (let k = kept y (at_Has names i y old) in let l = kept z (at_Has names j z old_two) in let o = c.order i j y z old old_two before in omega (arith, k, l, o)))
            (λ at e. (let k = kept y (at_Has names i y old) in let f = c.few y (at_Has names i y old) in let h : after_of z ≡ suc level = ap after_of (sym e) ∙ here in omega (arith, k, f, h))))
            (λ at e. by_place j z two
            (λ old_two within_two. absurd (omega (arith, at, within_two, before)))
            (λ at_two e_two. (let h : after_of y ≡ after_of z = ap after_of (sym e ∙ e_two) in omega (arith, h))));
        few = λ z there. by_name z there (λ old. (let k = kept z old in let f = c.few z old in omega (arith, k, f))) (λ e. (let h : after_of z ≡ suc level = ap after_of e ∙ here in omega (arith, h)));
        later = λ i z there past. by_place i z there (λ old within. (let k = kept z (at_Has names i z old) in let l = c.later i z old past in omega (arith, k, l))) (λ at e. (let h : after_of z ≡ suc level = ap after_of (sym e) ∙ here in omega (arith, h)));
        stopped = λ z stops. same z (λ e. (let s = c.stopped z stops in omega (arith, s, e))) ∙ c.stopped z stops;
        done = λ i z y there past goes. by_place i y there
            (λ old within. (
            let d = c.done i z y old past goes in
            let early = c.early i y old in
            let counted : count_of counts z ≢ uncounted = λ e. absurd (omega (arith, d, early, within, few, small, e)) in
            let s = same z counted in
            let k = kept y (at_Has names i y old) in
            omega (arith, d, s, k)))
            (λ at e. (let w = c.within in absurd (omega (arith, at, past, w))));
        within = (let l = length-append names (x ∷ []) in let w = c.within in omega (arith, l, w));
      };
      same = same;
      prefix = λ i z there. at_append_left names (x ∷ []) i z there;
      longer = (let l = length-append names (x ∷ []) in omega (arith, l));
    }
      where
        after_of : ℕ → ℕ
        after_of z = count_of (set counts x (suc level)) z

        few : length names ≤ n
        few = names_few counts names taken level c

        here : after_of x ≡ suc level
        here = get_or-set_same counts x (suc level) uncounted (let s = c.size in omega (arith, s, low))

        same : (z : ℕ) → count_of counts z ≢ uncounted → after_of z ≡ count_of counts z
        same z some = get_or-set_other counts x z (suc level) uncounted (λ e. some (ap (count_of counts) e ∙ blank))

        kept : (z : ℕ) → Has names z → after_of z ≡ count_of counts z
        kept z old = same z (c.met z old)

        by_name : {P : Type 0} (z : ℕ) → Has (names ++ x ∷ []) z → (Has names z → P) → (z ≡ x → P) → P
        by_name {P} z there one two = by (Has-append_cases names (x ∷ []) z there)
          where
            by : Has names z ⊎ Has (x ∷ []) z → P
            by (inl old) = one old
            by (inr (inl e)) = two (sym e)
            by (inr (inr none)) = absurd none

        by_place : {P : Type 0} (i z : ℕ) → slice_get (names ++ x ∷ []) i ≡ Some z → (slice_get names i ≡ Some z → i < length names → P) → (i ≡ length names → x ≡ z → P) → P
        by_place {P} i z there one two = by (push_at names x z i there)
          where
            by : ((slice_get names i ≡ Some z) × (i < length names)) ⊎ ((i ≡ length names) × (x ≡ z)) → P
            by (inl (old, within)) = one old within
            by (inr (at, e)) = two at e

        by_there : (z : ℕ) → after_of z ≢ uncounted → (z ≡ x) ⊎ (z ≡ x → ⊥) → Has (names ++ x ∷ []) z
        by_there z some (inl e) = Has-append_right names (x ∷ []) z (inl (sym e))
        by_there z some (inr other) = Has-append_left names (x ∷ []) z (c.there z (λ e. some (get_or-set_other counts x z (suc level) uncounted other ∙ e)))

    -- a name gets the next count, or has one
    meet_one : (counts names after found : List ℕ) (x : ℕ) → IsCounting counts names taken level → suc level ≤ length names → x < n → Ends Stops Goes x (suc level) → Meets (suc level) counts names x after found
        → Goes_on counts names after found taken level × (count_of after x ≤ suc level)
    meet_one counts names after found x c fits low ends (inl (some, same, still)) = (
      record {
        counting = subst (λ (l : List ℕ). IsCounting l found taken level) (sym same) (subst (λ (l : List ℕ). IsCounting counts l taken level) (sym still) c);
        same = λ z h. ap (λ (l : List ℕ). count_of l z) same;
        prefix = λ i z h. ap (λ (l : List ℕ). slice_get l i) still ∙ h;
        longer = (let l = ap length still in omega (arith, l));
      },
      (let f = c.few x (c.there x some) in let s = ap (λ (l : List ℕ). count_of l x) same in omega (arith, f, s)),
    )
    meet_one counts names after found x c fits low ends (inr (blank, is, put)) = (
      subst (λ (l : List ℕ). Goes_on counts names l found taken level) (sym is) (subst (λ (l : List ℕ). Goes_on counts names (set counts x (suc level)) l taken level) (sym put) (push_next counts names x c fits low blank ends)),
      (let s = ap (λ (l : List ℕ). count_of l x) is in let h = get_or-set_same counts x (suc level) uncounted (let s = c.size in omega (arith, s, low)) in omega (arith, s, h)),
    )

    meet_each : (counts names after found xs : List ℕ) → IsCounting counts names taken level → suc level ≤ length names → ((x : ℕ) → Has xs x → x < n) → ((x : ℕ) → Has xs x → Ends Stops Goes x (suc level)) → MeetsAll (suc level) counts names xs after found
        → Goes_on counts names after found taken level × ((x : ℕ) → Has xs x → count_of after x ≤ suc level)
    meet_each counts names after found [] c fits low ends (same, still) = (
      record {
        counting = subst (λ (l : List ℕ). IsCounting l found taken level) (sym same) (subst (λ (l : List ℕ). IsCounting counts l taken level) (sym still) c);
        same = λ z h. ap (λ (l : List ℕ). count_of l z) same;
        prefix = λ i z h. ap (λ (l : List ℕ). slice_get l i) still ∙ h;
        longer = (let l = ap length still in omega (arith, l));
      },
      λ x none. absurd none,
    )
    meet_each counts names after found (x ∷ xs) c fits low ends (mid, part, one, more) =
        let first = meet_one counts names mid part x c fits (low x (inl refl)) (ends x (inl refl)) one in
        let longer = first.0.longer in
        let rest = meet_each mid part after found xs first.0.counting (omega (arith, longer, fits)) (λ z there. low z (inr there)) (λ z there. ends z (inr there)) more in (
          record {
            counting = rest.0.counting;
            same = λ z some. (let f = first.0.same z some in rest.0.same z (λ e. some (sym f ∙ e)) ∙ f);
            prefix = λ i z there. rest.0.prefix i z (first.0.prefix i z there);
            longer = (let l = rest.0.longer in omega (arith, longer, l));
          },
          λ z there. by z there first.1 rest.0.same rest.1,
        )
      where
        by : (z : ℕ) → Has (x ∷ xs) z → count_of mid x ≤ suc level → ((z : ℕ) → count_of mid z ≢ uncounted → count_of after z ≡ count_of mid z) → ((z : ℕ) → Has xs z → count_of after z ≤ suc level) → count_of after z ≤ suc level
        by z (inl e) here same others =
            let few = names_few counts names taken level c in
            let s = same x (λ h. absurd (omega (arith, h, here, fits, few, small))) in
            subst (λ (y : ℕ). count_of after y ≤ suc level) e (omega (arith, s, here))
        by z (inr there) here same others = others z there

  -- one name more is taken
  pub count_goes_on : (small : n ≤ 8388608) (counts names after found sources : List ℕ) (taken level y : ℕ) → IsCounting counts names taken level → slice_get names taken ≡ Some y → ((x : ℕ) → Has sources x ↔ Goes x y) → ((x : ℕ) → Has sources x → x < n)
      → MeetsAll (suc (count_of counts y)) counts names sources after found → IsCounting after found (taken + 1) (count_of counts y)
  count_goes_on small counts names after found sources taken level y c at just low meets =
      let k = count_of counts y in
      let above = c.later taken y at (omega arith) in
      let early = c.early taken y at in
      let inside = slice_get_within names taken y at in
      let here : IsCounting counts names taken k = record {
        size = c.size;
        met = c.met;
        there = c.there;
        apart = c.apart;
        low = c.low;
        ends = c.ends;
        early = c.early;
        order = c.order;
        few = λ x there. (let f = c.few x there in omega (arith, f, above));
        later = λ i z there past. c.order taken i y z at there past;
        stopped = c.stopped;
        done = c.done;
        within = c.within;
      } in
      let r = meet_each small k taken counts names after found sources here (omega (arith, early, inside)) low (λ x there. (y, (just x).0 there, c.ends y (at_Has names taken y at))) meets in
      let on = r.0.counting in
      let same = r.0.same y (c.met y (at_Has names taken y at)) in
      let longer = r.0.longer in
      record {
        size = on.size;
        met = on.met;
        there = on.there;
        apart = on.apart;
        low = on.low;
        ends = on.ends;
        early = on.early;
        order = on.order;
        few = on.few;
        later = λ i z there past. on.later i z there (omega (arith, past));
        stopped = on.stopped;
        done = λ i x z there past goes. by i x z there goes on (r.0.prefix taken y at) same r.1 (cases_lt i taken) past;
        within = omega (arith, longer, inside);
      }
    where
      by : (i x z : ℕ) → slice_get found i ≡ Some z → Goes x z → IsCounting after found taken (count_of counts y) → slice_get found taken ≡ Some y → count_of after y ≡ count_of counts y
          → ((x : ℕ) → Has sources x → count_of after x ≤ suc (count_of counts y)) → (i < taken) ⊎ (taken ≤ i) → i < taken + 1 → count_of after x ≤ suc (count_of after z)
      by i x z there goes on here same all (inl before) past = on.done i x z there before goes
      by i x z there goes on here same all (inr not_before) past =
          let e : i ≡ taken = omega (arith, not_before, past) in
          let is : y ≡ z = same_Some y z (sym here ∙ (ap (slice_get found) (sym e) ∙ there)) in
          let few = all x ((just x).1 (subst (λ (q : ℕ). Goes x q) (sym is) goes)) in
          let s : count_of after z ≡ count_of counts y = ap (count_of after) (sym is) ∙ same in
          omega (arith, few, s)

  -- all names are taken
  pub counted : (small : n ≤ 8388608) (counts names : List ℕ) (taken level : ℕ) → IsCounting counts names taken level → length names ≤ taken → (x : ℕ) → IsLeastCount Stops Goes x (count_of counts x)
  counted small counts names taken level c all x = record { ends = λ some. c.ends x (c.there x some); least = λ k ends. least k x ends; small = bounded (cases_eq (count_of counts x) uncounted) }
    where
      bounded : (count_of counts x ≡ uncounted) ⊎ (count_of counts x ≡ uncounted → ⊥) → count_of counts x ≤ uncounted
      bounded (inl e) = omega (arith, e)
      bounded (inr some) =
          let place = Has_at names x (c.there x some) in
          let inside = place.2 in
          let early = c.early place.0 x place.1 in
          let few = names_few counts names taken level c in
          omega (arith, early, inside, few, small)

      least : (k x : ℕ) → Ends Stops Goes x k → (count_of counts x ≢ uncounted) × (count_of counts x ≤ k)
      least zero x stops = let s = c.stopped x stops in ((λ e. omega (arith, s, e)), omega (arith, s))
      least (suc k) x (y, goes, ends) =
          let rest = least k y ends in
          let place = Has_at names y (c.there y rest.0) in
          let inside = place.2 in
          let d = c.done place.0 x y place.1 (omega (arith, inside, all)) goes in
          let early = c.early place.0 y place.1 in
          let few = names_few counts names taken level c in
          let l = rest.1 in
          ((λ e. omega (arith, e, d, early, inside, few, small)), omega (arith, d, l))

  -- the walk begins with the names where a word may stop
  pub count_begins : (counts names : List ℕ) → ((x : ℕ) → Stops x → x < n) → AreStops Stops n n counts names → IsCounting counts names 0 0
  count_begins counts names low s = record {
    size = s.size;
    met = λ x there. (λ e. (let z = s.zeros x there in omega (arith, z, e)));
    there = s.there;
    apart = s.apart;
    low = λ x there. (s.stops x there).0;
    ends = λ x there. subst (λ (k : ℕ). Ends Stops Goes x k) (sym (s.zeros x there)) (s.stops x there).1;
    early = λ i x there. (let z = s.zeros x (at_Has names i x there) in omega (arith, z));
    order = λ i j x y one two before. (let z = s.zeros x (at_Has names i x one) in omega (arith, z));
    few = λ x there. (let z = s.zeros x there in omega (arith, z));
    later = λ i y there past. omega arith;
    stopped = λ x stops. s.zeros x (s.all x (low x stops) stops);
    done = λ i x y there past goes. absurd (omega (arith, past));
    within = omega arith;
  }

-- no name has been looked at
pub stops_begin : (Stops : ℕ → Type 0) (n : ℕ) (counts names : List ℕ) → length counts ≡ n → ((x : ℕ) → count_of counts x ≡ uncounted) → names ≡ [] → AreStops Stops n 0 counts names
stops_begin Stops n counts names size blank clear = subst (λ (l : List ℕ). AreStops Stops n 0 counts l) (sym clear) (record {
  size = size;
  zeros = λ x none. absurd none;
  there = λ x some. absurd (some (blank x));
  apart = tt;
  stops = λ x none. absurd none;
  all = λ x low. absurd (omega (arith, low));
})

-- a name where no word may stop is passed over
pub stops_skip : (Stops : ℕ → Type 0) (n i : ℕ) (counts names : List ℕ) → AreStops Stops n i counts names → (Stops i → ⊥) → AreStops Stops n (i + 1) counts names
stops_skip Stops n i counts names s none = record {
  size = s.size;
  zeros = s.zeros;
  there = s.there;
  apart = s.apart;
  stops = λ x there. (let r = s.stops x there in let low = r.0 in (omega (arith, low), r.1));
  all = λ x low stops. by x low stops (cases_eq x i);
}
  where
    by : (x : ℕ) → x < i + 1 → Stops x → (x ≡ i) ⊎ (x ≡ i → ⊥) → Has names x
    by x low stops (inl e) = absurd (none (subst Stops e stops))
    by x low stops (inr other) = s.all x (let l : (x ≡ i → ⊥) = other in omega (arith, low, l)) stops

-- a name where one may stop is counted
pub stops_more : (Stops : ℕ → Type 0) (n i : ℕ) (counts names after found : List ℕ) → i < n → AreStops Stops n i counts names → Stops i → Meets 0 counts names i after found → AreStops Stops n (i + 1) after found
stops_more Stops n i counts names after found low s here (inl (some, same, still)) = absurd (let r = (s.stops i (s.there i some)).0 in omega (arith, r))
stops_more Stops n i counts names after found low s here (inr (blank, is, put)) =
    subst (λ (l : List ℕ). AreStops Stops n (i + 1) l found) (sym is) (subst (λ (l : List ℕ). AreStops Stops n (i + 1) (set counts i 0) l) (sym put) (record {
      size = length-set counts i 0 ∙ s.size;
      zeros = λ x there. by_name x there (λ old. get_or-set_other counts i x 0 uncounted (λ e. (let r = (s.stops x old).0 in omega (arith, r, e))) ∙ s.zeros x old) (λ e. ap (count_of (set counts i 0)) e ∙ set_here);
      there = λ x some. by_there x some (cases_eq x i);
      apart = Apart-push names i s.apart (λ old. (let r = (s.stops i old).0 in omega (arith, r)));
      stops = λ x there. by_name x there (λ old. (let r = s.stops x old in let l = r.0 in (omega (arith, l), r.1))) (λ e. (omega (arith, e), subst Stops (sym e) here));
      all = λ x less stops. by_all x less stops (cases_eq x i);
    }))
  where
    set_here : count_of (set counts i 0) i ≡ 0
    set_here = get_or-set_same counts i 0 uncounted (let e = s.size in omega (arith, e, low))

    by_name : {P : Type 0} (x : ℕ) → Has (names ++ i ∷ []) x → (Has names x → P) → (x ≡ i → P) → P
    by_name {P} x there one two = by (Has-append_cases names (i ∷ []) x there)
      where
        by : Has names x ⊎ Has (i ∷ []) x → P
        by (inl old) = one old
        by (inr (inl e)) = two (sym e)
        by (inr (inr none)) = absurd none

    by_there : (x : ℕ) → count_of (set counts i 0) x ≢ uncounted → (x ≡ i) ⊎ (x ≡ i → ⊥) → Has (names ++ i ∷ []) x
    by_there x some (inl e) = Has-append_right names (i ∷ []) x (inl (sym e))
    by_there x some (inr other) = Has-append_left names (i ∷ []) x (s.there x (λ e. some (get_or-set_other counts i x 0 uncounted other ∙ e)))

    by_all : (x : ℕ) → x < i + 1 → Stops x → (x ≡ i) ⊎ (x ≡ i → ⊥) → Has (names ++ i ∷ []) x
    by_all x less stops (inl e) = Has-append_right names (i ∷ []) x (inl (sym e))
    by_all x less stops (inr other) = Has-append_left names (i ∷ []) x (s.all x (let l : (x ≡ i → ⊥) = other in omega (arith, less, l)) stops)

-- one name more of a list is met
pub meets_then : (c : ℕ) (xs : List ℕ) (x : ℕ) (counts names mid part after found : List ℕ) → MeetsAll c counts names xs mid part → Meets c mid part x after found → MeetsAll c counts names (xs ++ x ∷ []) after found
meets_then c [] x counts names mid part after found (same, still) meets =
    (after, found, subst (λ (l : List ℕ). Meets c l names x after found) same (subst (λ (l : List ℕ). Meets c mid l x after found) still meets), (refl, refl))
meets_then c (y ∷ xs) x counts names mid part after found (one, first, here, rest) meets = (one, first, here, meets_then c xs x one first mid part after found rest meets)

-- the sources by the links so far, and by one link more
pub sources_more : {L : Type 0} (Leads : L → ℕ → Type 0) (links : List L) (i : ℕ) (l : L) (old new : List ℕ) → i < length links → l ≡ get_or links i l
    → ((x : ℕ) → Has old x ↔ ((k : L) × Has (take i links) k × Leads k x)) → ((x : ℕ) → Has new x ↔ (Has old x ⊎ Leads l x)) → (x : ℕ) → Has new x ↔ ((k : L) × Has (take (i + 1) links) k × Leads k x)
sources_more {L} Leads links i l old new low is before next x = (forth, back)
  where
    more : take (i + 1) links ≡ take i links ++ l ∷ []
    more = take_more links i l low ∙ ap (λ (k : L). take i links ++ k ∷ []) (sym is)

    forth : Has new x → (k : L) × Has (take (i + 1) links) k × Leads k x
    forth there = by ((next x).0 there)
      where
        by : Has old x ⊎ Leads l x → (k : L) × Has (take (i + 1) links) k × Leads k x
        by (inl was) = let r = (before x).0 was in (r.0, subst (λ (ls : List L). Has ls r.0) (sym more) (Has-append_left (take i links) (l ∷ []) r.0 r.1), r.2)
        by (inr leads) = (l, subst (λ (ls : List L). Has ls l) (sym more) (Has-append_right (take i links) (l ∷ []) l (inl refl)), leads)

    back : (k : L) × Has (take (i + 1) links) k × Leads k x → Has new x
    back (k, there, leads) = by (Has-append_cases (take i links) (l ∷ []) k (subst (λ (ls : List L). Has ls k) more there))
      where
        by : Has (take i links) k ⊎ Has (l ∷ []) k → Has new x
        by (inl was) = (next x).1 (inl ((before x).1 (k, was, leads)))
        by (inr (inl e)) = (next x).1 (inr (subst (λ (j : L). Leads j x) (sym e) leads))
        by (inr (inr none)) = absurd none

pub sources_done : {L : Type 0} (Leads : L → ℕ → Type 0) (links : List L) (i : ℕ) (sources : List ℕ) → length links ≤ i → ((x : ℕ) → Has sources x ↔ ((k : L) × Has (take i links) k × Leads k x))
    → (x : ℕ) → Has sources x ↔ ((k : L) × Has links k × Leads k x)
sources_done {L} Leads links i sources all h x =
    let whole : take i links ≡ links = take_all i links all in
    ((λ there. (let r = (h x).0 there in (r.0, subst (λ (ls : List L). Has ls r.0) whole r.1, r.2))), λ r. (h x).1 (r.0, subst (λ (ls : List L). Has ls r.0) (sym whole) r.1, r.2))

-- what is in a place of a list
pub item_at : {X : Type 0} (xs : List X) (i : ℕ) (x : X) → i < length xs → x ≡ get_or xs i x → slice_get xs i ≡ Some x
item_at xs i x low is = slice_get_read xs (length xs) i x refl low is

-- what holds of each element of a list
pub of_each : {X : Type 0} (P : X → Type 0) (xs : List X) (x : X) → All P xs → Has xs x → P x
of_each P xs x all there = let place = Has_at xs x there in all_at P xs place.0 x all place.1

-- a count that was read
pub count_read : (counts : List ℕ) (x c : ℕ) → x < length counts → c ≡ get_or counts x c → count_of counts x ≡ c
count_read counts x c low is = get_or_from_slice_get counts x c uncounted (item_at counts x c low is)

-- one name was put, of which alone this holds
pub pushed_where : (P : ℕ → Type 0) (old new : List ℕ) (y : ℕ) → new ≡ old ++ y ∷ [] → P y → ((x : ℕ) → P x → y ≡ x) → (x : ℕ) → Has new x ↔ (Has old x ⊎ P x)
pushed_where P old new y put is only x = (forth, back)
  where
    forth : Has new x → Has old x ⊎ P x
    forth there = by (Has-append_cases old (y ∷ []) x (subst (λ (l : List ℕ). Has l x) put there))
      where
        by : Has old x ⊎ Has (y ∷ []) x → Has old x ⊎ P x
        by (inl was) = inl was
        by (inr (inl e)) = inr (subst P e is)
        by (inr (inr none)) = absurd none

    back : Has old x ⊎ P x → Has new x
    back (inl was) = subst (λ (l : List ℕ). Has l x) (sym put) (Has-append_left old (y ∷ []) x was)
    back (inr p) = subst (λ (l : List ℕ). Has l x) (sym put) (Has-append_right old (y ∷ []) x (inl (only x p)))

-- all names are low, and so is one more
pub pushed_low : (n : ℕ) (old new : List ℕ) (y : ℕ) → new ≡ old ++ y ∷ [] → y < n → All (λ x. x < n) old → All (λ x. x < n) new
pushed_low n old new y put low all = subst (λ (l : List ℕ). All (λ x. x < n) l) (sym put) (All-push (λ x. x < n) old y all low)
