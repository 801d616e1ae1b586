-- A phase, from what its parts do.
use Rattle.std.proofs.Common.{◌≡◌, ◌⊎◌, inl, inr, ⊎_elim, ℕ, zero, suc, ◌+◌, ◌<◌, Bool, true, List, [], ◌∷◌, ◌++◌, Some, length, map, slice_get, refl, sym, ap, ◌∙◌, subst}
use Rattle.std.specs.List.{All, Contains, flat_map}
use Rattle.std.proofs.lemmas.List.{length-map, map-append}
use Rattle.std.proofs.lemmas.List.Elements.{All-append, All-nil}
use Rattle.fst_semiring.specs.Cost.{Cost}
use Rattle.fst_semiring.specs.declared.arc_type.ArcType.{ArcType}
use Rattle.fst_machine.specs.BreadthFirst.{Has}
use Rattle.fst_machine.specs.Machine.{Arc, Machine}
use Rattle.fst_machine.proofs.Arcs.{at_mapped}
use Rattle.fst_machine.proofs.Elements.{Has-append_cases, Has-append_left, Has-append_right}
use Rattle.fst_walk.specs.Names.{key_arc}
use Rattle.fst_claims.specs.declared.table.Claims.{Claims}
use Rattle.fst_claims.specs.declared.table.Pass.{Pass}
use Rattle.fst_claims.specs.Passes.{found, parts, won}
use Rattle.fst_claims.specs.Rule.{all_parts}
use Rattle.fst_delayed.specs.Caches.{Entries, IsTrueOf, keys}
use Rattle.fst_delayed.specs.Coding.{code_of}
use Rattle.fst_delayed.specs.Graphs.{delayed_graph}
use Rattle.fst_delayed.specs.Handed.{Name}
use Rattle.fst_lattice.specs.Phases.{AllRun, AreEach, AreGathered, HasDone, HasEnded, HasRun, IsDue, IsHanded, IsIdle, IsLeft, IsPhase, IsReady, Laborer, Learned, all_own}
use Rattle.fst_lattice.specs.Serving.{IsBlocked, IsNeededBy, IsServed, IsWaiting, codes}
use Rattle.fst_lattice.specs.Walks.{AreAmong, LineWalk}
use Rattle.fst_lattice.proofs.Own.{job_known}

keys_joined : {V : Type 0} (xs ys : Entries V (Name ℕ ℕ)) → keys (xs ++ ys) ≡ keys xs ++ keys ys
keys_joined {V} xs ys = map-append (λ (e : Name ℕ ℕ × List (Arc V (Name ℕ ℕ))). e.0) xs ys

module _ {V M : Type 0} where
  own_lists : (ms : List (Laborer V M)) → flat_map (λ es. es) (map (λ (m : Laborer V M). m.own) ms) ≡ all_own ms
  own_lists [] = refl
  own_lists (m ∷ ms) = ap (λ es. m.own ++ es) (own_lists ms)

  -- a name that was expanded was expanded by a worker
  own_of : (ms : List (Laborer V M)) (n : Name ℕ ℕ) → Has (keys (all_own ms)) n → (k : ℕ) × (m : Laborer V M) × (slice_get ms k ≡ Some m) × Has (keys m.own) n
  own_of [] n h = absurd h
  own_of (m ∷ ms) n h = ⊎_elim (λ (l : Has (keys m.own) n). (0, m, refl, l)) (λ (r : Has (keys (all_own ms)) n). let rest = own_of ms n r in (suc rest.0, rest.1, rest.2, rest.3))
      (Has-append_cases (keys m.own) (keys (all_own ms)) n (subst (λ ns. Has ns n) (keys_joined m.own (all_own ms)) h))

  of_own : (ms : List (Laborer V M)) (k : ℕ) (m : Laborer V M) (n : Name ℕ ℕ) → slice_get ms k ≡ Some m → Has (keys m.own) n → Has (keys (all_own ms)) n
  of_own [] k m n at h = absurd (cc)
  of_own (x ∷ ms) zero m n at h = let same : x ≡ m = first x m at in subst (λ ns. Has ns n) (sym (keys_joined x.own (all_own ms))) (Has-append_left (keys x.own) (keys (all_own ms)) n (subst (λ (y : Laborer V M). Has (keys y.own) n) (sym same) h))
    where
      first : (a b : Laborer V M) → Some a ≡ Some b → a ≡ b
      first a b e = cc
  of_own (x ∷ ms) (suc k) m n at h = subst (λ ns. Has ns n) (sym (keys_joined x.own (all_own ms))) (Has-append_right (keys x.own) (keys (all_own ms)) n (of_own ms k m n at h))

  All-own : (P : Name ℕ ℕ × List (Arc V (Name ℕ ℕ)) → Type 0) (ms : List (Laborer V M)) → ((k : ℕ) (m : Laborer V M) → slice_get ms k ≡ Some m → All P m.own) → All P (all_own ms)
  All-own P [] each = All-nil P
  All-own P (m ∷ ms) each = All-append P m.own (all_own ms) (each 0 m refl) (All-own P ms (λ k x at. each (suc k) x at))

module _ {W V M : Type 0} (kind : ArcType) (weight : W → Cost) (value : V → Cost) (count parts_out : M → ℕ) (is_part : M → Bool) (d : Machine W × Machine W) (lines : List (List ℕ)) (old : Entries V (Name ℕ ℕ)) (t : Claims) where
  -- an idle worker with a pass is ready
  pub is_ready : (v r : Laborer V M) → IsIdle kind weight value count parts_out is_part d lines old v → IsHanded t v r → IsReady kind weight value count parts_out is_part d lines old t r
  is_ready v r idle h = subst (IsReady kind weight value count parts_out is_part d lines old t) (sym h.is)
      (record { own = idle.own; seat = h.seat; pass = refl; of = h.of; one = h.one; none_won = h.none_won; none_found = h.none_found; room = idle.room; jobs = idle.jobs })

  -- one that has served all its jobs may give back its pass
  pub is_due : (r m : Laborer V M) → HasRun kind weight value count parts_out is_part d lines old t r m → m.served ≡ true → IsDue t old m
  is_due r m h served = let done = h.done served in record { seat = h.seat; pass = h.pass; of = h.of; one = h.one; won_own = done.own.codes; apart = done.own.apart }

  module _ (before after : Pass) (new : Entries V (Name ℕ ℕ)) (vs rs ms ws : List (Laborer V M)) (handed : AreEach (IsHanded t) vs rs) (run : AllRun kind weight value count parts_out is_part d lines old t rs ms)
      (all : (k : ℕ) (m : Laborer V M) → slice_get ms k ≡ Some m → m.served ≡ true) (gathered : AreGathered t before after old new ms ws) (whole : parts after ≡ all_parts) (some : 0 < length ms)
      (real : IsTrueOf value (delayed_graph kind weight d) old) where
    ran : (k : ℕ) (m : Laborer V M) → slice_get ms k ≡ Some m → (r : Laborer V M) × (slice_get rs k ≡ Some r) × (h : HasRun kind weight value count parts_out is_part d lines old t r m) × HasDone kind weight value count parts_out is_part d lines old t r m h.seat
    ran k m at = let r = run.each k m at in (r.0, r.1, r.2, r.2.done (all k m at))

    learned : Learned t after
    learned = gathered.learned some

    -- what was blocked for a worker was won in this phase, or the table is full
    stopped : (k : ℕ) (m : Laborer V M) (seat : Pass) (code : ℕ) → slice_get ms k ≡ Some m → m.pass ≡ Some seat → IsBlocked t.places (found seat) code → Contains (won after) code ⊎ (length (won after) ≡ t.places)
    stopped k m seat code at pass (inl (place, there)) = inl (learned.all_won whole place code (gathered.finds k m seat at pass (place, code) there))
    stopped k m seat code at pass (inr every) = inr (learned.full whole (λ i low. let e = every i low in (e.0, gathered.finds k m seat at pass (i, e.0) e.1)))

    among : (k : ℕ) (m : Laborer V M) → slice_get ms k ≡ Some m → AreAmong (keys old ++ keys m.own) (keys new)
    among k m at n h = subst (λ es. Has (keys es) n) (sym gathered.entries) (subst (λ ns. Has ns n) (sym (keys_joined old (all_own ms)))
        (⊎_elim (λ (l : Has (keys old) n). Has-append_left (keys old) (keys (all_own ms)) n l) (λ (o : Has (keys m.own) n). Has-append_right (keys old) (keys (all_own ms)) n (of_own ms k m n at o)) (Has-append_cases (keys old) (keys m.own) n h)))

    left : (k : ℕ) (m : Laborer V M) (seat : Pass) → slice_get ms k ≡ Some m → m.pass ≡ Some seat → (j now : LineWalk) → IsServed kind weight value d lines t.places old m.own (found seat) j now → IsLeft kind weight value count parts_out is_part d lines t after old new m.own j now
    left k m seat at pass j now h = record {
      same = h.same;
      job_of = record { line = h.job_of.line; there = h.job_of.there; job = job_known kind weight d h.job_of.line (keys old ++ keys m.own) (keys new) now h.job_of.job (among k m at) };
      left = ⊎_elim (λ over. inl over) (λ (w : IsWaiting t.places old m.own (found seat) now). inr (w.at, w.head, w.not_known, stopped k m seat (code_of w.at.name) at pass w.blocked)) h.settled;
    }

    ended : (k : ℕ) (w : Laborer V M) → slice_get ws k ≡ Some w
        → (v : Laborer V M) × (own : Entries V (Name ℕ ℕ)) × (slice_get vs k ≡ Some v) × (slice_get (map (λ (m : Laborer V M). m.own) ms) k ≡ Some own) × HasEnded kind weight value count parts_out is_part d lines t after old new v w own
    ended k w at =
        let m = gathered.emptied.each k w at in
        let r = ran k m.0 m.1 in
        let v = handed.each k r.0 r.1 in
        let done = r.3 in
        let same = v.2.is in
        let jobs : r.0.jobs ≡ v.0.jobs = ap (λ (x : Laborer V M). x.jobs) same in (
          v.0,
          m.0.own,
          v.1,
          at_mapped (λ (x : Laborer V M). x.own) ms k m.0 m.1,
          subst (λ (x : Laborer V M). HasEnded kind weight value count parts_out is_part d lines t after old new v.0 x m.0.own) (sym m.2) (record {
            empty = refl;
            no_pass = refl;
            counted = done.counted ∙ ap (λ (x : Laborer V M). count x.meter + length m.0.own) same;
            out = done.out ∙ ap (λ (x : Laborer V M). parts_out x.meter) same;
            part = done.part ∙ ap (λ (x : Laborer V M). is_part x.meter) same;
            size = done.jobs.size ∙ ap length jobs;
            jobs = λ i now here. let e = done.jobs.each i now here in (e.0, ap (λ js. slice_get js i) (sym jobs) ∙ e.1, left k m.0 r.2.seat m.1 r.2.pass e.0 now e.2);
            needed = λ n h. subst (λ (js : List LineWalk). IsNeededBy kind weight value d lines js n) jobs (done.jobs.needed n h);
          }),
        )

    pub is_phase : IsPhase kind weight value count parts_out is_part d lines t after old new vs ws
    is_phase = record {
      of = gathered.of;
      whole = whole;
      owns = map (λ (m : Laborer V M). m.own) ms;
      entries = gathered.entries ∙ ap (λ es. old ++ es) (sym (own_lists ms));
      won_codes = gathered.won_codes ∙ ap codes (sym (own_lists ms));
      distinct = learned.distinct;
      apart = λ n h k. let o = own_of ms n (subst (λ es. Has (keys es) n) (own_lists ms) k) in (ran o.0 o.1 o.2).3.own.apart n h o.3;
      true_arcs = subst (IsTrueOf value (delayed_graph kind weight d)) (sym gathered.entries)
          (All-append (λ (e : Name ℕ ℕ × List (Arc V (Name ℕ ℕ))). map (key_arc value) e.1 ≡ (delayed_graph kind weight d).arcs e.0) old (all_own ms) real
          (All-own (λ (e : Name ℕ ℕ × List (Arc V (Name ℕ ℕ))). map (key_arc value) e.1 ≡ (delayed_graph kind weight d).arcs e.0) ms (λ k m at. (ran k m at).3.own.entries)));
      size = gathered.emptied.size ∙ (run.size ∙ handed.size);
      few = length-map ms (λ (m : Laborer V M). m.own) ∙ sym gathered.emptied.size;
      each = ended;
    }
