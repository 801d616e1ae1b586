-- What a worker has, while it serves a job.
use Rattle.std.proofs.Common.{◌≡◌, ◌⊎◌, inl, inr, ⊎_elim, ℕ, ◌+◌, ◌-◌, ◌*◌, ◌<◌, ◌≤◌, Bool, true, false, cond, List, [], ◌∷◌, ◌++◌, Some, length, map, slice_get, refl, sym, ap, ◌∙◌, subst, append_assoc, append-nil, arith}
use Rattle.std.proofs.lemmas.Bool.{cases_lt}
use Rattle.std.proofs.lemmas.List.{length-map, map-append}
use Rattle.std.proofs.lemmas.List.Elements.{All-push}
use Rattle.std.proofs.lemmas.Option.{slice_get_within}
use Rattle.fst_semiring.specs.Cost.{Cost}
use Rattle.fst_semiring.specs.declared.arc_type.ArcType.{ArcType}
use Rattle.fst_machine.specs.BreadthFirst.{Has}
use Rattle.fst_machine.specs.Graph.{Graph}
use Rattle.fst_machine.specs.Machine.{Arc, Machine}
use Rattle.fst_machine.proofs.Arcs.{at_append_left}
use Rattle.fst_machine.proofs.Elements.{Has-append_cases, Has-append_left, Has-append_right, at_Has}
use Rattle.fst_walk.specs.Names.{key_arc}
use Rattle.fst_delayed.specs.Caches.{Entries, IsTrueOf, keys}
use Rattle.fst_delayed.specs.Coding.{code_of}
use Rattle.fst_delayed.specs.Graphs.{IsKeyOf, delayed_graph}
use Rattle.fst_delayed.specs.Handed.{Name}
use Rattle.fst_lattice.specs.declared.stage.Stage.TheVariants.{Going}
use Rattle.fst_lattice.specs.Lattice.{Point, lattice}
use Rattle.fst_lattice.specs.Needed.{IsNeeded}
use Rattle.fst_lattice.specs.Serving.{IsBlocked, IsGrown, IsOwn, codes}
use Rattle.fst_lattice.specs.Walks.{AreAmong, IsAt, IsHead, IsJob, IsWalkOf, LineWalk}
use Rattle.fst_lattice.proofs.Blocking.{blocked_later}
use Rattle.fst_lattice.proofs.Jobs.{Has-All, walk_at}

-- the cache of a worker with one more entry
pub own_more : {V : Type 0} (value : V → Cost) (g : Graph (Name ℕ ℕ)) (cache own new : Entries V (Name ℕ ℕ)) (won won' : List ℕ) (key : Name ℕ ℕ) (arcs : List (Arc V (Name ℕ ℕ))) (places : ℕ) → IsOwn value g cache own won
    → (Has (keys cache ++ keys own) key → ⊥) → map (key_arc value) arcs ≡ g.arcs key → new ≡ own ++ (key, arcs) ∷ [] → won' ≡ won ++ code_of key ∷ [] → length won' ≤ places → places ≤ 1048576 → IsOwn value g cache new won'
own_more {V} value g cache own new won won' key arcs places h absent real grown more few low = record {
  entries = subst (IsTrueOf value g) (sym grown) (All-push (λ (e : Name ℕ ℕ × List (Arc V (Name ℕ ℕ))). map (key_arc value) e.1 ≡ g.arcs e.0) own (key, arcs) h.entries real);
  apart = λ n k k'. ⊎_elim (λ (old : Has (keys own) n). h.apart n k old) (λ (last : Has (key ∷ []) n). by n k last)
      (Has-append_cases (keys own) (key ∷ []) n (subst (λ ns. Has ns n) (ap keys grown ∙ map-append (λ (e : Name ℕ ℕ × List (Arc V (Name ℕ ℕ))). e.0) own ((key, arcs) ∷ [])) k'));
  codes = all;
  few = let long : length new ≡ length won' = sym (length-map new (λ (e : Name ℕ ℕ × List (Arc V (Name ℕ ℕ))). code_of e.0)) ∙ ap length (sym all) in omega (arith, long, few, low);
}
  where
    by : (n : Name ℕ ℕ) → Has (keys cache) n → Has (key ∷ []) n → ⊥
    by n k (inl e) = absent (Has-append_left (keys cache) (keys own) key (subst (Has (keys cache)) (sym e) k))
    by n k (inr none) = none

    all : won' ≡ codes new
    all = more ∙ (ap (λ cs. cs ++ code_of key ∷ []) h.codes ∙ sym (ap codes grown ∙ map-append (λ (e : Name ℕ ℕ × List (Arc V (Name ℕ ℕ))). code_of e.0) own ((key, arcs) ∷ [])))

module _ {V : Type 0} (kind : ArcType) (value : V → Cost) (d : Machine V × Machine V) (line : List ℕ) where
  -- a job may know more
  pub job_known : (known more : List (Name ℕ ℕ)) (w : LineWalk) → IsJob kind value d line known w → AreAmong known more → IsJob kind value d line more w
  job_known known more w h among = record { walk = h.walk; keys = h.keys; held = λ n k. among n (h.held n k) }

  module _ (known : List (Name ℕ ℕ)) (w : LineWalk) (at : Point (Name ℕ ℕ)) (h : IsJob kind value d line known w) (head : IsHead w at) where
    walking : IsAt line (delayed_graph kind value d) w.limit w.points w.taken Going
    walking = subst (IsAt line (delayed_graph kind value d) w.limit w.points w.taken) head.going h.walk

    walk : IsWalkOf (lattice line (delayed_graph kind value d)) w.limit w.points w.taken
    walk = walk_at line (delayed_graph kind value d) w.limit w.points w.taken at head.there walking

    -- the name at its head is one of states of the machines, its line needs it, and the limit was not reached
    pub head_key : IsKeyOf d at.name
    head_key = Has-All (λ (p : Point (Name ℕ ℕ)). IsKeyOf d p.name) w.points at (h.keys head.going) (at_Has w.points w.taken at head.there)

    pub head_needed : IsNeeded line (delayed_graph kind value d) w.limit at.name
    head_needed = record {
      no_zero = walking.0;
      at = at;
      taken = record { start = walk.start; starts = walk.starts; found = w.points; place = w.taken; walking = walk.walking; few = walk.few; there = head.there };
      same = refl;
    }

    pub head_low : w.taken < w.limit
    head_low = omega (arith, slice_get_within w.points w.taken at head.there, walk.few)

-- where the name at the head was known, the job has gone on
pub head_moves : (known : List (Name ℕ ℕ)) (v w : LineWalk) (at next : Point (Name ℕ ℕ)) (more : List (Point (Name ℕ ℕ))) → IsHead v at → Has known at.name → v.taken ≤ w.taken → w.points ≡ v.points ++ more → IsHead w next → (Has known next.name → ⊥) → v.taken < w.taken
head_moves known v w at next more head has low front head' absent = ⊎_elim (λ (l : v.taken < w.taken). l)
    (λ (l : w.taken ≤ v.taken).
    let same : v.taken ≡ w.taken = omega (arith, low, l) in
    let here : slice_get w.points w.taken ≡ Some at = ap (slice_get w.points) (sym same) ∙ (ap (λ ns. slice_get ns v.taken) front ∙ at_append_left v.points more v.taken at head.there) in
    let one : at ≡ next = first at next (sym here ∙ head'.there) in
    absurd (absent (subst (λ (p : Point (Name ℕ ℕ)). Has known p.name) one has)))
    (cases_lt v.taken w.taken)
  where
    first : (a b : Point (Name ℕ ℕ)) → Some a ≡ Some b → a ≡ b
    first a b e = cc

module _ {V : Type 0} (places : ℕ) (line : List ℕ) (g : Graph (Name ℕ ℕ)) (limit : ℕ) where
  pub grown_none : (own : Entries V (Name ℕ ℕ)) (found : List (ℕ × ℕ)) → IsGrown places line g limit own own found found
  grown_none own found = record { more = []; entries = sym (append-nil own); seen = []; finds = sym (append-nil found); needed = λ n h. absurd h; fresh = λ n h. absurd h }

  module _ (old own : Entries V (Name ℕ ℕ)) (before found found' seen : List (ℕ × ℕ)) (h : IsGrown places line g limit old own before found) (grown : found' ≡ found ++ seen) where
    all_finds : found' ≡ before ++ (h.seen ++ seen)
    all_finds = grown ∙ (ap (λ xs. xs ++ seen) h.finds ∙ append_assoc before h.seen seen)

    -- more was found
    pub grown_later : (new : Entries V (Name ℕ ℕ)) → new ≡ own → IsGrown places line g limit old new before found'
    grown_later new same = record { more = h.more; entries = same ∙ h.entries; seen = h.seen ++ seen; finds = all_finds; needed = h.needed; fresh = h.fresh }

    -- and a needed name was won
    pub grown_more : (new : Entries V (Name ℕ ℕ)) (key : Name ℕ ℕ) (arcs : List (Arc V (Name ℕ ℕ))) → new ≡ own ++ (key, arcs) ∷ [] → IsNeeded line g limit key → (IsBlocked places found (code_of key) → ⊥)
        → IsGrown places line g limit old new before found'
    grown_more new key arcs added need free = record {
      more = h.more ++ (key, arcs) ∷ [];
      entries = added ∙ (ap (λ es. es ++ (key, arcs) ∷ []) h.entries ∙ append_assoc old h.more ((key, arcs) ∷ []));
      seen = h.seen ++ seen;
      finds = all_finds;
      needed = λ n k. ⊎_elim (λ (o : Has (keys h.more) n). h.needed n o) (λ (l : Has (key ∷ []) n). subst (IsNeeded line g limit) (last n l) need) (parts n k);
      fresh = λ n k. ⊎_elim (λ (o : Has (keys h.more) n). h.fresh n o)
          (λ (l : Has (key ∷ []) n) b. free (subst (λ (m : Name ℕ ℕ). IsBlocked places found (code_of m)) (sym (last n l)) (subst (λ xs. IsBlocked places xs (code_of n)) (sym h.finds) (blocked_later places before h.seen (code_of n) b)))) (parts n k);
    }
      where
        parts : (n : Name ℕ ℕ) → Has (keys (h.more ++ (key, arcs) ∷ [])) n → Has (keys h.more) n ⊎ Has (key ∷ []) n
        parts n k = Has-append_cases (keys h.more) (key ∷ []) n (subst (λ ns. Has ns n) (map-append (λ (e : Name ℕ ℕ × List (Arc V (Name ℕ ℕ))). e.0) h.more ((key, arcs) ∷ [])) k)

        last : (n : Name ℕ ℕ) → Has (key ∷ []) n → key ≡ n
        last n (inl e) = e
        last n (inr none) = absurd none

-- the names of one more entry
pub keys_more : {V : Type 0} (cache own new : Entries V (Name ℕ ℕ)) (key : Name ℕ ℕ) (arcs : List (Arc V (Name ℕ ℕ))) → new ≡ own ++ (key, arcs) ∷ [] → AreAmong (keys cache ++ keys own) (keys cache ++ keys new) × Has (keys cache ++ keys new) key
keys_more {V} cache own new key arcs grown =
    let is : keys new ≡ keys own ++ key ∷ [] = ap keys grown ∙ map-append (λ (e : Name ℕ ℕ × List (Arc V (Name ℕ ℕ))). e.0) own ((key, arcs) ∷ []) in (
      (λ n k. ⊎_elim (λ (l : Has (keys cache) n). Has-append_left (keys cache) (keys new) n l)
          (λ (r : Has (keys own) n). Has-append_right (keys cache) (keys new) n (subst (λ ns. Has ns n) (sym is) (Has-append_left (keys own) (key ∷ []) n r)))
          (Has-append_cases (keys cache) (keys own) n k)),
      Has-append_right (keys cache) (keys new) key (subst (λ ns. Has ns key) (sym is) (Has-append_right (keys own) (key ∷ []) key (inl refl))),
    )

-- a worker that goes on with a job comes nearer to its end
pub comes_nearer : (limit limit' taken taken' : ℕ) (put put' : Bool) → limit' ≡ limit → taken ≤ taken' → (put ≡ true → taken < taken') → taken' < limit' → put' ≡ true → 2 * ((limit' + 1) - taken') + cond put' 0 1 < 2 * ((limit + 1) - taken) + cond put 0 1
comes_nearer limit limit' taken taken' true true same low further inside is = let f = further refl in omega (arith, same, f, inside)
comes_nearer limit limit' taken taken' false true same low further inside is = omega (arith, same, low, inside)
comes_nearer limit limit' taken taken' put false same low further inside is = absurd (cc)
