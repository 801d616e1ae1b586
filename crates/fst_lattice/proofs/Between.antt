-- What holds between phases, after one more.
use Rattle.std.proofs.Common.{◌≡◌, ◌⊎◌, ⊎_elim, ℕ, zero, suc, ◌+◌, ◌^◌, ◌<◌, ◌≤◌, Bool, List, [], ◌∷◌, ◌++◌, Some, length, map, slice_get, refl, sym, ap, ap₂, ◌∙◌, subst, arith}
use Rattle.std.specs.Prelude.{sum_by}
use Rattle.std.specs.List.{Contains, flat_map}
use Rattle.std.proofs.lemmas.List.{length-append, length-map, map-append}
use Rattle.std.proofs.lemmas.List.Sums.{sum_by-cons}
use Rattle.fst_semiring.specs.Cost.{Cost}
use Rattle.fst_semiring.specs.declared.arc_type.ArcType.{ArcType}
use Rattle.fst_machine.specs.BreadthFirst.{Has}
use Rattle.fst_machine.specs.Machine.{Arc, Machine}
use Rattle.fst_machine.proofs.Elements.{Has-append_cases, Has_at, at_Has}
use Rattle.fst_claims.specs.declared.table.Claims.{Claims}
use Rattle.fst_claims.specs.declared.table.Pass.{Pass}
use Rattle.fst_claims.specs.Passes.{won}
use Rattle.fst_delayed.specs.Caches.{Entries, keys}
use Rattle.fst_delayed.specs.Coding.{code_of}
use Rattle.fst_delayed.specs.Graphs.{delayed_graph}
use Rattle.fst_delayed.specs.Handed.{Name}
use Rattle.fst_lattice.specs.declared.stage.Stage.TheVariants.{Going}
use Rattle.fst_lattice.specs.Expansions.{IsNeededOf}
use Rattle.fst_lattice.specs.Needed.{IsNeeded}
use Rattle.fst_lattice.specs.Lattice.{Point}
use Rattle.fst_lattice.specs.Phases.{HasEnded, IsIdle, IsPhase, Laborer}
use Rattle.fst_lattice.specs.Runs.{IsBetween, IsHired, all_lines, job_lines}
use Rattle.fst_lattice.specs.Serving.{IsNeededBy}
use Rattle.fst_lattice.specs.Walks.{IsHead, IsOver, LineWalk}

one : {X : Type 0} (a b : X) → Some a ≡ Some b → a ≡ b
one a b e = cc

element : {X : Type 0} (xs : List X) (i : ℕ) → i < length xs → (x : X) × (slice_get xs i ≡ Some x)
element [] i low = absurd (omega arith)
element (x ∷ xs) zero low = (x, refl)
element (x ∷ xs) (suc i) low = element xs i (omega (arith, low))

-- lists that agree place by place, as f tells
pub same_map : {X Y : Type 0} (f : X → Y) (xs ys : List X) → length ys ≡ length xs → ((k : ℕ) (y : X) → slice_get ys k ≡ Some y → (x : X) × (slice_get xs k ≡ Some x) × (f y ≡ f x)) → map f ys ≡ map f xs
same_map f [] [] long each = refl
same_map f [] (y ∷ ys) long each = absurd (omega (arith, long))
same_map f (x ∷ xs) [] long each = absurd (omega (arith, long))
same_map {X} f (x ∷ xs) (y ∷ ys) long each =
    let e = each 0 y refl in
    let first : x ≡ e.0 = one x e.0 e.1 in
    ap₂ (λ b bs. b ∷ bs) (e.2 ∙ ap f (sym first)) (same_map f xs ys (omega (arith, long)) (λ k z at. each (suc k) z at))

pub same_flat : {X Y : Type 0} (f : X → List Y) (xs ys : List X) → length ys ≡ length xs → ((k : ℕ) (y : X) → slice_get ys k ≡ Some y → (x : X) × (slice_get xs k ≡ Some x) × (f y ≡ f x)) → flat_map f ys ≡ flat_map f xs
same_flat f [] [] long each = refl
same_flat f [] (y ∷ ys) long each = absurd (omega (arith, long))
same_flat f (x ∷ xs) [] long each = absurd (omega (arith, long))
same_flat f (x ∷ xs) (y ∷ ys) long each =
    let e = each 0 y refl in
    let first : x ≡ e.0 = one x e.0 e.1 in
    ap₂ (λ b bs. b ++ bs) (e.2 ∙ ap f (sym first)) (same_flat f xs ys (omega (arith, long)) (λ k z at. each (suc k) z at))

-- a name of these entries is one of a list of them
pub Has-owns : {V : Type 0} (owns : List (Entries V (Name ℕ ℕ))) (n : Name ℕ ℕ) → Has (keys (flat_map (λ es. es) owns)) n → (k : ℕ) × (own : Entries V (Name ℕ ℕ)) × (slice_get owns k ≡ Some own) × Has (keys own) n
Has-owns [] n h = absurd h
Has-owns {V} (own ∷ owns) n h = ⊎_elim (λ (l : Has (keys own) n). (0, own, refl, l)) (λ (r : Has (keys (flat_map (λ es. es) owns)) n). let rest = Has-owns owns n r in (suc rest.0, rest.1, rest.2, rest.3))
    (Has-append_cases (keys own) (keys (flat_map (λ es. es) owns)) n (subst (λ ns. Has ns n) (map-append (λ (e : Name ℕ ℕ × List (Arc V (Name ℕ ℕ))). e.0) own (flat_map (λ es. es) owns)) h))

module _ {V M : Type 0} (count : M → ℕ) where
  -- what workers have counted together
  pub counted_more : (vs ws : List (Laborer V M)) (owns : List (Entries V (Name ℕ ℕ))) → length ws ≡ length vs → length owns ≡ length ws
      → ((k : ℕ) (w v : Laborer V M) (own : Entries V (Name ℕ ℕ)) → slice_get ws k ≡ Some w → slice_get vs k ≡ Some v → slice_get owns k ≡ Some own → count w.meter ≡ count v.meter + length own)
      → sum_by (λ (w : Laborer V M). count w.meter) ws ≡ sum_by (λ (w : Laborer V M). count w.meter) vs + length (flat_map (λ es. es) owns)
  counted_more [] [] [] long long' each = refl
  counted_more [] [] (own ∷ owns) long long' each = absurd (omega (arith, long'))
  counted_more [] (w ∷ ws) owns long long' each = absurd (omega (arith, long))
  counted_more (v ∷ vs) [] owns long long' each = absurd (omega (arith, long))
  counted_more (v ∷ vs) (w ∷ ws) [] long long' each = absurd (omega (arith, long'))
  counted_more (v ∷ vs) (w ∷ ws) (own ∷ owns) long long' each =
      let first = each 0 w v own refl refl refl in
      let rest = counted_more vs ws owns (omega (arith, long)) (omega (arith, long')) (λ k x y es. each (suc k) x y es) in
      let left = sum_by-cons (λ (x : Laborer V M). count x.meter) w ws in
      let right = sum_by-cons (λ (x : Laborer V M). count x.meter) v vs in
      let long-own = length-append own (flat_map (λ es. es) owns) in
      omega (arith, first, rest, left, right, long-own)

  -- one of them has counted no more than all
  pub counted_one : (ws : List (Laborer V M)) (k : ℕ) (w : Laborer V M) → slice_get ws k ≡ Some w → count w.meter ≤ sum_by (λ (x : Laborer V M). count x.meter) ws
  counted_one [] k w at = absurd (cc)
  counted_one (v ∷ ws) zero w at = let same : v ≡ w = one v w at in let c = ap (λ (x : Laborer V M). count x.meter) same in omega (arith, c, sum_by-cons (λ (x : Laborer V M). count x.meter) v ws)
  counted_one (v ∷ ws) (suc k) w at = omega (arith, counted_one ws k w at, sum_by-cons (λ (x : Laborer V M). count x.meter) v ws)

module _ {W V M : Type 0} (kind : ArcType) (weight : W → Cost) (value : V → Cost) (count parts_out : M → ℕ) (is_part : M → Bool) (d : Machine W × Machine W) (lines : List (List ℕ)) (limit : ℕ) (old : Entries V (Name ℕ ℕ)) (vs : List (Laborer V M))
    (h : IsBetween kind weight value count is_part d lines limit old vs) where
  -- the workers are idle
  pub is_idle : length old < 2 ^ 62 → (k : ℕ) (v : Laborer V M) → slice_get vs k ≡ Some v → IsIdle kind weight value count parts_out is_part d lines old v
  is_idle few k v at =
      let hired = h.hired k v at in
      record { own = hired.own; pass = hired.pass; room = omega (arith, counted_one count vs k v at, h.counted, few); jobs = λ i j there. (hired.jobs i j there).0 }

  module _ (t : Claims) (pass : Pass) (new : Entries V (Name ℕ ℕ)) (ws : List (Laborer V M)) (p : IsPhase kind weight value count parts_out is_part d lines t pass old new vs ws) where
    abbrev added : Entries V (Name ℕ ℕ)
    added = flat_map (λ es. es) p.owns

    ended : (k : ℕ) (w : Laborer V M) → slice_get ws k ≡ Some w → (v : Laborer V M) × (own : Entries V (Name ℕ ℕ)) × (slice_get vs k ≡ Some v) × (slice_get p.owns k ≡ Some own) × HasEnded kind weight value count parts_out is_part d lines t pass old new v w own
    ended = p.each

    needed_by : (v : Laborer V M) (k : ℕ) → slice_get vs k ≡ Some v → (n : Name ℕ ℕ) → IsNeededBy kind weight value d lines v.jobs n → IsNeededOf lines (delayed_graph kind weight d) limit n
    needed_by v k at n need =
        let place = Has_at v.jobs need.job need.among in
        let limited = ((h.hired k v at).jobs place.0 need.job place.1).1 in
        record { line = need.line; among = at_Has lines need.job.index need.line need.there; need = subst (λ (l : ℕ). IsNeeded need.line (delayed_graph kind weight d) l n) limited need.need }

    all_needed : (n : Name ℕ ℕ) → Has (keys new) n → IsNeededOf lines (delayed_graph kind weight d) limit n
    all_needed n k = ⊎_elim (λ (l : Has (keys old) n). h.needed n l) by
        (Has-append_cases (keys old) (keys added) n (subst (λ ns. Has ns n) (ap keys p.entries ∙ map-append (λ (e : Name ℕ ℕ × List (Arc V (Name ℕ ℕ))). e.0) old added) k))
      where
        by : Has (keys added) n → IsNeededOf lines (delayed_graph kind weight d) limit n
        by r =
            let o = Has-owns p.owns n r in
            let w = element ws o.0 (omega (arith, slice_get_low p.owns o.0 o.1 o.2, p.few)) in
            let e = ended o.0 w.0 w.1 in
            let same : o.1 ≡ e.1 = one o.1 e.1 (sym o.2 ∙ e.3) in
            needed_by e.0 o.0 e.2 n (e.4.needed n (subst (λ (es : Entries V (Name ℕ ℕ)). Has (keys es) n) same o.3))
          where
            slice_get_low : {X : Type 0} (xs : List X) (i : ℕ) (x : X) → slice_get xs i ≡ Some x → i < length xs
            slice_get_low [] i x e = absurd (cc)
            slice_get_low (y ∷ xs) zero x e = omega arith
            slice_get_low (y ∷ xs) (suc i) x e = omega (arith, slice_get_low xs i x e)

    hired_after : (k : ℕ) (w : Laborer V M) → slice_get ws k ≡ Some w → IsHired kind weight value count is_part d lines limit new w
    hired_after k w at =
        let e = ended k w at in
        let before = h.hired k e.0 e.2 in
        record {
          own = e.4.empty;
          pass = e.4.no_pass;
          part = e.4.part ∙ before.part;
          jobs = λ i j there. let left = e.4.jobs i j there in (left.2.job_of, left.2.same.1 ∙ (before.jobs i left.0 left.1).1);
        }

    counts : (k : ℕ) (w v : Laborer V M) (own : Entries V (Name ℕ ℕ)) → slice_get ws k ≡ Some w → slice_get vs k ≡ Some v → slice_get p.owns k ≡ Some own → count w.meter ≡ count v.meter + length own
    counts k w v own at at' at'' =
        let e = ended k w at in
        let a : v ≡ e.0 = one v e.0 (sym at' ∙ e.2) in
        let b : own ≡ e.1 = one own e.1 (sym at'' ∙ e.3) in
        e.4.counted ∙ ap₂ (λ (x : Laborer V M) (es : Entries V (Name ℕ ℕ)). count x.meter + length es) (sym a) (sym b)

    -- after the phase the same holds
    pub is_between : IsBetween kind weight value count is_part d lines limit new ws
    is_between = record {
      entries = p.true_arcs;
      needed = all_needed;
      hired = hired_after;
      counted = let sum = counted_more count vs ws p.owns p.size p.few counts in let long : length new ≡ length old + length added = ap length p.entries ∙ length-append old added in omega (arith, sum, long, h.counted);
    }

    -- the workers have jobs of the same lines
    pub same_lines : all_lines ws ≡ all_lines vs
    same_lines = same_flat (λ (w : Laborer V M). job_lines w.jobs) vs ws p.size (λ k w at.
        let e = ended k w at in
        (e.0, e.2, same_map (λ (j : LineWalk). j.index) e.0.jobs w.jobs e.4.size (λ i j there. let left = e.4.jobs i j there in (left.0, left.1, left.2.same.0))))

    -- where a job is not over, something was added
    pub is_longer : 0 < t.places → (k : ℕ) (w : Laborer V M) → slice_get ws k ≡ Some w → (i : ℕ) (j : LineWalk) → slice_get w.jobs i ≡ Some j → j.stage ≡ Going → j.taken < length j.points → length old < length new
    is_longer some k w at i j there going left =
        let e = ended k w at in
        let l = (e.4.jobs i j there).2 in
        let won_some : 0 < length (won pass) = ⊎_elim (λ (over : IsOver j). absurd (let all = over going in omega (arith, all, left)))
        (λ (waits : (at : Point (Name ℕ ℕ)) × IsHead j at × (Has (keys old ++ keys e.1) at.name → ⊥) × (Contains (won pass) (code_of at.name) ⊎ (length (won pass) ≡ t.places))).
        ⊎_elim (λ (c : Contains (won pass) (code_of waits.0.name)). holds_some (won pass) (code_of waits.0.name) c) (λ (full : length (won pass) ≡ t.places). omega (arith, full, some)) waits.3) l.left in
        let long : length (won pass) ≡ length added = ap length p.won_codes ∙ length-map added (λ (x : Name ℕ ℕ × List (Arc V (Name ℕ ℕ))). code_of x.0) in
        let whole : length new ≡ length old + length added = ap length p.entries ∙ length-append old added in
        omega (arith, won_some, long, whole)
      where
        holds_some : (xs : List ℕ) (x : ℕ) → Contains xs x → 0 < length xs
        holds_some [] x c = absurd (let low = c.1 in omega (arith, low))
        holds_some (y ∷ xs) x c = omega arith
