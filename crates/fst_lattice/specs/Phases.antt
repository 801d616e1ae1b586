-- A worker in a phase of a batch, and what a phase does.
use Rattle.std.specs.Prelude.{◌⊎◌, ◌≡◌, ◌≢◌, ◌++◌, ◌+◌, ◌<◌, ◌^◌, ℕ, List, [], Bool, true, Option, None, Some, length, slice_get}
use Rattle.std.specs.List.{AllPairs, Contains, flat_map}
use Rattle.fst_semiring.specs.Cost.{Cost}
use Rattle.fst_semiring.specs.declared.arc_type.ArcType.{ArcType}
use Rattle.fst_machine.specs.BreadthFirst.{Has}
use Rattle.fst_machine.specs.Machine.{Machine}
use Rattle.fst_claims.specs.declared.table.Claims.{Claims}
use Rattle.fst_claims.specs.declared.table.Pass.{Pass}
use Rattle.fst_claims.specs.Passes.{IsPassOf, found, parts, won}
use Rattle.fst_claims.specs.Rule.{all_parts}
use Rattle.fst_delayed.specs.Caches.{AreApart, Entries, IsTrueOf, keys}
use Rattle.fst_delayed.specs.Coding.{code_of}
use Rattle.fst_delayed.specs.Graphs.{delayed_graph}
use Rattle.fst_delayed.specs.Handed.{Name}
use Rattle.fst_lattice.specs.Serving.{HasServed, IsJobOf, IsNeededBy, IsOwn, IsSameJob, codes}
use Rattle.fst_lattice.specs.Lattice.{Point}
use Rattle.fst_lattice.specs.Walks.{IsHead, IsOver, LineWalk}

-- What a worker is: its jobs, what it has expanded in this phase, its meter, its pass in a phase, and whether it has served
-- all jobs in the last phase.
pub record Laborer (V M : Type 0) : Type 0 where
  pub jobs : List LineWalk
  pub own : Entries V (Name ℕ ℕ)
  pub meter : M
  pub pass : Option Pass
  pub served : Bool

module _ {W V M : Type 0} (kind : ArcType) (weight : W → Cost) (value : V → Cost) (count parts_out : M → ℕ) (is_part : M → Bool)
    (d : Machine W × Machine W) (lines : List (List ℕ)) (cache : Entries V (Name ℕ ℕ)) where
  -- Before a phase: a worker has nothing of its own and no pass, its meter has room, and its jobs are jobs of these lines, the
  -- names that they have taken being in the cache.
  pub record IsIdle (w : Laborer V M) : Type 0 where
    pub own : w.own ≡ []
    pub pass : w.pass ≡ None
    pub room : count w.meter < 2 ^ 62
    pub jobs : (k : ℕ) (j : LineWalk) → slice_get w.jobs k ≡ Some j → IsJobOf kind weight value d lines (keys cache) j

  module _ (t : Claims) where
    -- the same, with a pass of the table that has one part and has won and found nothing
    pub record IsReady (w : Laborer V M) : Type 0 where
      pub own : w.own ≡ []
      pub seat : Pass
      pub pass : w.pass ≡ Some seat
      pub of : IsPassOf t seat
      pub one : parts seat ≡ 1
      pub none_won : won seat ≡ []
      pub none_found : found seat ≡ []
      pub room : count w.meter < 2 ^ 62
      pub jobs : (k : ℕ) (j : LineWalk) → slice_get w.jobs k ≡ Some j → IsJobOf kind weight value d lines (keys cache) j

    -- what a worker has done that has served all its jobs
    pub record HasDone (v w : Laborer V M) (seat : Pass) : Type 0 where
      pub own : IsOwn value (delayed_graph kind weight d) cache w.own (won seat)
      pub jobs : HasServed kind weight value d lines t.places cache w.own (found seat) v.jobs w.jobs
      pub counted : count w.meter ≡ count v.meter + length w.own
      pub out : parts_out w.meter ≡ parts_out v.meter
      pub part : is_part w.meter ≡ is_part v.meter

    -- after its run it still has its pass
    pub record HasRun (v w : Laborer V M) : Type 0 where
      pub seat : Pass
      pub pass : w.pass ≡ Some seat
      pub of : IsPassOf t seat
      pub one : parts seat ≡ 1
      pub done : w.served ≡ true → HasDone v w seat

    -- each worker, in its place, has run
    pub record AllRun (old new : List (Laborer V M)) : Type 0 where
      pub size : length new ≡ length old
      pub each : (k : ℕ) (w : Laborer V M) → slice_get new k ≡ Some w → (v : Laborer V M) × (slice_get old k ≡ Some v) × HasRun v w

-- the worker is as before, with a pass of the table that has one part and has won and found nothing
pub record IsHanded {V M : Type 0} (t : Claims) (v w : Laborer V M) : Type 0 where
  pub seat : Pass
  pub is : w ≡ record v { pass = Some seat }
  pub of : IsPassOf t seat
  pub one : parts seat ≡ 1
  pub none_won : won seat ≡ []
  pub none_found : found seat ≡ []

-- each of these stands in its place to one of those as R says
pub record AreEach {X : Type 0} (R : X → X → Type 0) (old new : List X) : Type 0 where
  pub size : length new ≡ length old
  pub each : (k : ℕ) (w : X) → slice_get new k ≡ Some w → (v : X) × (slice_get old k ≡ Some v) × R v w

-- What the rule of the table says of a joined pass: no code was won twice; and where it has all parts, it has won each code that
-- it has found, and as many as there are places if it has found one in each.
pub record Learned (t : Claims) (p : Pass) : Type 0 where
  pub distinct : AllPairs (λ a b. a ≢ b) (won p)
  pub all_won : parts p ≡ all_parts → (place code : ℕ) → Contains (found p) (place, code) → Contains (won p) code
  pub full : parts p ≡ all_parts → ((i : ℕ) → i < t.places → (d : ℕ) × Contains (found p) (i, d)) → length (won p) ≡ t.places

-- A worker's pass was joined to this one, and its entries stand behind those of the cache.
module _ {V M : Type 0} (t : Claims) (before after : Pass) (old new : Entries V (Name ℕ ℕ)) (v w : Laborer V M) where
  pub record IsTakenIn : Type 0 where
    pub of : IsPassOf t after
    pub seat : Pass
    pub pass : v.pass ≡ Some seat
    pub codes : won after ≡ won before ++ won seat
    pub finds : found after ≡ found before ++ found seat
    pub sum : parts after ≡ parts before + parts seat
    pub learned : Learned t after
    pub entries : new ≡ old ++ v.own
    pub is : w ≡ record v { own = []; pass = None }

-- What these workers have expanded, worker by worker.
abbrev pub all_own : {V M : Type 0} → List (Laborer V M) → Entries V (Name ℕ ℕ)
all_own workers = flat_map (λ w. w.own) workers

-- a worker that has served all its jobs, with a pass of one part that has won the codes of what it has expanded, none of which
-- the cache had
pub record IsDue {V M : Type 0} (t : Claims) (cache : Entries V (Name ℕ ℕ)) (v : Laborer V M) : Type 0 where
  pub seat : Pass
  pub pass : v.pass ≡ Some seat
  pub of : IsPassOf t seat
  pub one : parts seat ≡ 1
  pub won_own : won seat ≡ codes v.own
  pub apart : AreApart cache v.own

-- the worker is as before, with nothing of its own and no pass
abbrev pub IsEmptied : {V M : Type 0} → Laborer V M → Laborer V M → Type 0
IsEmptied v w = w ≡ record v { own = []; pass = None }

-- Workers gave back their passes, which were joined to one, and what they had expanded stands behind the entries of the cache,
-- worker by worker.
module _ {V M : Type 0} (t : Claims) (before after : Pass) (old new : Entries V (Name ℕ ℕ)) (vs ws : List (Laborer V M)) where
  pub record AreGathered : Type 0 where
    pub of : IsPassOf t after
    pub entries : new ≡ old ++ all_own vs
    pub won_codes : won after ≡ codes (all_own vs)
    pub sum : parts after ≡ parts before + length vs
    pub learned : 0 < length vs → Learned t after
    pub finds : (k : ℕ) (v : Laborer V M) (seat : Pass) → slice_get vs k ≡ Some v → v.pass ≡ Some seat → (x : ℕ × ℕ) → Contains (found seat) x → Contains (found after) x
    pub emptied : AreEach IsEmptied vs ws

-- A phase: the pass of the table has won the codes of what was added to the cache, in order.
module _ {W V M : Type 0} (kind : ArcType) (weight : W → Cost) (value : V → Cost) (count parts_out : M → ℕ) (is_part : M → Bool)
    (d : Machine W × Machine W) (lines : List (List ℕ)) (t : Claims) (pass : Pass) (old new : Entries V (Name ℕ ℕ)) where
  -- The job is the same. It is over, or waits before a name whose key neither the old cache nor its own worker has: that key was
  -- won by another worker in this phase, or the table is full.
  pub record IsLeft (own : Entries V (Name ℕ ℕ)) (j now : LineWalk) : Type 0 where
    pub same : IsSameJob j now
    pub job_of : IsJobOf kind weight value d lines (keys new) now
    pub left : IsOver now ⊎
        ((at : Point (Name ℕ ℕ)) × IsHead now at × (Has (keys old ++ keys own) at.name → ⊥) ×
        (Contains (won pass) (code_of at.name) ⊎ (length (won pass) ≡ t.places)))

  -- what became of a worker that has expanded this
  pub record HasEnded (v w : Laborer V M) (own : Entries V (Name ℕ ℕ)) : Type 0 where
    pub empty : w.own ≡ []
    pub no_pass : w.pass ≡ None
    pub counted : count w.meter ≡ count v.meter + length own
    pub out : parts_out w.meter ≡ parts_out v.meter
    pub part : is_part w.meter ≡ is_part v.meter
    pub size : length w.jobs ≡ length v.jobs
    pub jobs : (k : ℕ) (now : LineWalk) → slice_get w.jobs k ≡ Some now → (j : LineWalk) × (slice_get v.jobs k ≡ Some j) × IsLeft own j now
    pub needed : (n : Name ℕ ℕ) → Has (keys own) n → IsNeededBy kind weight value d lines v.jobs n

  pub record IsPhase (vs ws : List (Laborer V M)) : Type 0 where
    pub of : IsPassOf t pass
    pub whole : parts pass ≡ all_parts
    pub owns : List (Entries V (Name ℕ ℕ))
    pub entries : new ≡ old ++ flat_map (λ es. es) owns
    pub won_codes : won pass ≡ codes (flat_map (λ es. es) owns)
    pub distinct : AllPairs (λ a b. a ≢ b) (won pass)
    pub apart : AreApart old (flat_map (λ es. es) owns)
    pub true_arcs : IsTrueOf value (delayed_graph kind weight d) new
    pub size : length ws ≡ length vs
    pub few : length owns ≡ length ws
    pub each : (k : ℕ) (w : Laborer V M) → slice_get ws k ≡ Some w → (v : Laborer V M) × (own : Entries V (Name ℕ ℕ)) ×
        (slice_get vs k ≡ Some v) × (slice_get owns k ≡ Some own) × HasEnded v w own
