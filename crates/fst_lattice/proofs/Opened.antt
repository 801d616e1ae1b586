-- Lines that are dealt, walked to their end, and known.
use Rattle.std.proofs.Common.{◌≡◌, ⊎_elim, ℕ, suc, ◌+◌, ◌<◌, ◌≤◌, Bool, List, [], ◌∷◌, ◌++◌, Some, length, map, slice_get, refl, sym, ap, ◌∙◌, subst, arith}
use Rattle.std.specs.Prelude.{sum_by}
use Rattle.std.proofs.lemmas.List.{map-append}
use Rattle.std.proofs.lemmas.List.Elements.{All-nil}
use Rattle.std.proofs.lemmas.List.Sums.{sum_by-cons}
use Rattle.fst_semiring.specs.Cost.{Cost}
use Rattle.fst_semiring.specs.declared.arc_type.ArcType.{ArcType}
use Rattle.fst_machine.specs.BreadthFirst.{Apart, Has}
use Rattle.fst_machine.specs.Machine.{Arc, Machine}
use Rattle.fst_machine.proofs.Arcs.{mapped_at}
use Rattle.fst_machine.proofs.Elements.{Has-append_cases, Has-append_left, Has_at}
use Rattle.fst_walk.specs.Names.{key_arc}
use Rattle.fst_delayed.specs.Caches.{Entries, keys}
use Rattle.fst_delayed.specs.Graphs.{delayed_graph}
use Rattle.fst_delayed.specs.Handed.{Name}
use Rattle.fst_lattice.specs.Expansions.{AreNeeded}
use Rattle.fst_lattice.specs.Needed.{IsNeeded}
use Rattle.fst_lattice.specs.Phases.{AreEach, Laborer}
use Rattle.fst_lattice.specs.Runs.{AreDone, IsBetween, IsDealt, IsNew, all_lines, job_lines, run}
use Rattle.fst_lattice.specs.Walks.{LineWalk}
use Rattle.fst_lattice.proofs.Numbers.{run_Has}
use Rattle.fst_lattice.proofs.Hired.{none_counted}
use Rattle.fst_lattice.proofs.Needs.{over_needed}
use Rattle.fst_lattice.proofs.Own.{job_known}

one : {X : Type 0} (a b : X) → Some a ≡ Some b → a ≡ b
one a b e = cc

-- what a cache has, it has when more is put behind its entries
pub kept_entries : {V : Type 0} (old new more : Entries V (Name ℕ ℕ)) → new ≡ old ++ more → (n : Name ℕ ℕ) → Has (keys old) n → Has (keys new) n
kept_entries {V} old new more grown n h = subst (λ (ns : List (Name ℕ ℕ)). Has ns n) (sym (ap keys grown ∙ map-append (λ (e : Name ℕ ℕ × List (Arc V (Name ℕ ℕ))). e.0) old more)) (Has-append_left (keys old) (keys more) n h)

module _ {V M : Type 0} where
  -- workers whose meters are the same have counted the same together
  same_sum : (count : M → ℕ) (vs ws : List (Laborer V M)) → length ws ≡ length vs → ((k : ℕ) (w : Laborer V M) → slice_get ws k ≡ Some w → (v : Laborer V M) × (slice_get vs k ≡ Some v) × (w.meter ≡ v.meter))
      → sum_by (λ (w : Laborer V M). count w.meter) ws ≡ sum_by (λ (w : Laborer V M). count w.meter) vs
  same_sum count [] [] long each = refl
  same_sum count [] (w ∷ ws) long each = absurd (omega (arith, long))
  same_sum count (v ∷ vs) [] long each = absurd (omega (arith, long))
  same_sum count (v ∷ vs) (w ∷ ws) long each =
      let e = each 0 w refl in
      let first : v ≡ e.0 = one v e.0 e.1 in
      let m : count w.meter ≡ count v.meter = ap count (e.2 ∙ ap (λ (x : Laborer V M). x.meter) (sym first)) in
      let rest = same_sum count vs ws (omega (arith, long)) (λ k x at. each (suc k) x at) in
      omega (arith, m, rest, sum_by-cons (λ (x : Laborer V M). count x.meter) w ws, sum_by-cons (λ (x : Laborer V M). count x.meter) v vs)

  -- a line that was dealt has a job
  job_of_line : (ws : List (Laborer V M)) (number : ℕ) → Has (all_lines ws) number → (k : ℕ) × (w : Laborer V M) × (slice_get ws k ≡ Some w) × (i : ℕ) × (j : LineWalk) × (slice_get w.jobs i ≡ Some j) × (j.index ≡ number)
  job_of_line [] number h = absurd h
  job_of_line (w ∷ ws) number h = ⊎_elim
      (λ (l : Has (job_lines w.jobs) number). let place = Has_at (job_lines w.jobs) number l in let j = mapped_at (λ (x : LineWalk). x.index) w.jobs place.0 number place.1 in (0, w, refl, place.0, j.0, j.1, j.2))
      (λ (r : Has (all_lines ws) number). let rest = job_of_line ws number r in (suc rest.0, rest.1, rest.2, rest.3, rest.4, rest.5, rest.6))
      (Has-append_cases (job_lines w.jobs) (all_lines ws) number h)

module _ {W V M : Type 0} (kind : ArcType) (weight : W → Cost) (value : V → Cost) (count : M → ℕ) (is_part : M → Bool) (d : Machine W × Machine W) (lines : List (List ℕ)) (limit : ℕ) where
  -- new workers and an empty cache
  pub new_between : (ws : List (Laborer V M)) → ((k : ℕ) (w : Laborer V M) → slice_get ws k ≡ Some w → IsNew count is_part w) → IsBetween kind weight value count is_part d lines limit [] ws
  new_between ws each = record {
    entries = All-nil (λ (e : Name ℕ ℕ × List (Arc V (Name ℕ ℕ))). map (key_arc value) e.1 ≡ (delayed_graph kind weight d).arcs e.0);
    needed = λ n h. absurd h;
    hired = λ k w at.
        let new = each k w at in
        record { own = new.own; pass = new.pass; part = new.part; jobs = λ i j there. absurd (let none : slice_get [] i ≡ Some j = ap (λ js. slice_get js i) (sym new.jobs) ∙ there in cc) };
    counted = none_counted count is_part ws each;
  }

  -- workers to whom other lines are dealt
  pub dealt_between : (cache : Entries V (Name ℕ ℕ)) (vs ws : List (Laborer V M)) → IsBetween kind weight value count is_part d lines limit cache vs → AreEach (IsDealt kind weight value d lines limit) vs ws → IsBetween kind weight value count is_part d lines limit cache ws
  dealt_between cache vs ws h dealt = record {
    entries = h.entries;
    needed = h.needed;
    hired = λ k w at.
        let v = dealt.each k w at in
        let old = h.hired k v.0 v.1 in
        record {
          own = v.2.own ∙ old.own;
          pass = v.2.pass ∙ old.pass;
          part = ap is_part v.2.meter ∙ old.part;
          jobs = λ i j there.
              let job = v.2.jobs i j there in
              (record { line = job.0.line; there = job.0.there; job = job_known kind weight d job.0.line [] (keys cache) j job.0.job (λ n k'. absurd k') }, job.1);
        };
    counted = same_sum count vs ws dealt.size (λ k w at. let v = dealt.each k w at in (v.0, v.1, v.2.meter)) ∙ h.counted;
  }

  -- where all walks are over, the cache has all names that the lines need
  pub done_known : (cache : Entries V (Name ℕ ℕ)) (ws : List (Laborer V M)) (from size : ℕ) → IsBetween kind weight value count is_part d lines limit cache ws → AreDone ws → all_lines ws ≡ run from size
      → (number : ℕ) (line : List ℕ) (n : Name ℕ ℕ) → from ≤ number → number < from + size → slice_get lines number ≡ Some line → IsNeeded line (delayed_graph kind weight d) limit n → Has (keys cache) n
  done_known cache ws from size h done all number line n low high at need =
      let job = job_of_line ws number (subst (λ (xs : List ℕ). Has xs number) (sym all) (run_Has from size number low high)) in
      let hired = (h.hired job.0 job.1 job.2).jobs job.3 job.4 job.5 in
      let same : hired.0.line ≡ line = one hired.0.line line (sym hired.0.there ∙ (ap (slice_get lines) job.6 ∙ at)) in
      over_needed kind weight d hired.0.line (keys cache) job.4 hired.0.job (done job.0 job.1 job.2 job.3 job.4 job.5) n
      (subst (λ (l : ℕ). IsNeeded hired.0.line (delayed_graph kind weight d) l n) (sym hired.1) (subst (λ (l : List ℕ). IsNeeded l (delayed_graph kind weight d) limit n) (sym same) need))

  -- a cache that has the names that all lines need, and no others, each once
  pub all_needed : (cache : Entries V (Name ℕ ℕ)) (ws : List (Laborer V M)) → IsBetween kind weight value count is_part d lines limit cache ws → Apart (keys cache)
      → ((number : ℕ) (line : List ℕ) (n : Name ℕ ℕ) → number < length lines → slice_get lines number ≡ Some line → IsNeeded line (delayed_graph kind weight d) limit n → Has (keys cache) n)
      → AreNeeded lines (delayed_graph kind weight d) limit (keys cache)
  all_needed cache ws h apart known = record {
    apart = apart;
    needed = h.needed;
    all = λ n need. let place = Has_at lines need.line need.among in known place.0 need.line n place.2 place.1 need.need;
  }
