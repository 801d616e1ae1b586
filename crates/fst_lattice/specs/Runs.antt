-- A batch on its way: what holds between phases, and what is answered.
use Rattle.std.specs.Prelude.{◌≡◌, ◌+◌, ℕ, zero, suc, Bool, true, List, [], ◌∷◌, None, Some, length, map, slice_get, sum_by}
use Rattle.std.specs.List.{flat_map}
use Rattle.fst_semiring.specs.Cost.{Cost}
use Rattle.fst_semiring.specs.declared.arc_type.ArcType.{ArcType}
use Rattle.fst_machine.specs.BreadthFirst.{Has}
use Rattle.fst_machine.specs.Machine.{Machine}
use Rattle.fst_delayed.specs.Caches.{Entries, IsTrueOf, keys}
use Rattle.fst_delayed.specs.Graphs.{delayed_graph}
use Rattle.fst_delayed.specs.Handed.{Name}
use Rattle.fst_lattice.specs.Expansions.{IsNeededOf}
use Rattle.fst_lattice.specs.Phases.{Laborer}
use Rattle.fst_lattice.specs.Serving.{IsJobOf}
use Rattle.fst_lattice.specs.Walks.{IsOver, LineWalk}

-- so many numbers from this one on
abbrev pub run : ℕ → ℕ → List ℕ
run from zero = []
run from (suc n) = from ∷ run (from + 1) n

-- the numbers of the lines of jobs
abbrev pub job_lines : List LineWalk → List ℕ
job_lines jobs = map (λ j. j.index) jobs

-- those of all jobs of these workers, worker by worker
abbrev pub all_lines : {V M : Type 0} → List (Laborer V M) → List ℕ
all_lines workers = flat_map (λ w. job_lines w.jobs) workers

-- the answer is that of the line with this number
pub record IsAnswerAt {A : Type 0} (IsAnswer : List ℕ → A → Type 0) (lines : List (List ℕ)) (number : ℕ) (answer : A) : Type 0 where
  pub line : List ℕ
  pub there : slice_get lines number ≡ Some line
  pub is : IsAnswer line answer

module _ {W V M : Type 0} (kind : ArcType) (weight : W → Cost) (value : V → Cost) (count : M → ℕ) (is_part : M → Bool)
    (d : Machine W × Machine W) (lines : List (List ℕ)) (limit : ℕ) (cache : Entries V (Name ℕ ℕ)) where
  -- A worker between phases: it has nothing of its own and no pass, its meter is a part, and its jobs are jobs of these lines
  -- with this limit, the names that they have taken being in the cache.
  pub record IsHired (w : Laborer V M) : Type 0 where
    pub own : w.own ≡ []
    pub pass : w.pass ≡ None
    pub part : is_part w.meter ≡ true
    pub jobs : (k : ℕ) (j : LineWalk) → slice_get w.jobs k ≡ Some j → IsJobOf kind weight value d lines (keys cache) j × (j.limit ≡ limit)

  -- What holds between phases: the cache has arcs of names that the lines need, the workers are hired, and their meters have
  -- counted as many expansions as the cache has names.
  pub record IsBetween (ws : List (Laborer V M)) : Type 0 where
    pub entries : IsTrueOf value (delayed_graph kind weight d) cache
    pub needed : (n : Name ℕ ℕ) → Has (keys cache) n → IsNeededOf lines (delayed_graph kind weight d) limit n
    pub hired : (k : ℕ) (w : Laborer V M) → slice_get ws k ≡ Some w → IsHired w
    pub counted : sum_by (λ w. count w.meter) ws ≡ length cache

-- a new worker: it has no jobs, nothing of its own and no pass, and its meter is a part that has counted nothing
pub record IsNew {V M : Type 0} (count : M → ℕ) (is_part : M → Bool) (w : Laborer V M) : Type 0 where
  pub jobs : w.jobs ≡ []
  pub own : w.own ≡ []
  pub pass : w.pass ≡ None
  pub part : is_part w.meter ≡ true
  pub none : count w.meter ≡ 0

-- a worker was dealt other jobs, of these lines with this limit, which have taken nothing
pub record IsDealt {W V M : Type 0} (kind : ArcType) (weight : W → Cost) (value : V → Cost) (d : Machine W × Machine W) (lines : List (List ℕ)) (limit : ℕ) (v w : Laborer V M) : Type 0 where
  pub own : w.own ≡ v.own
  pub pass : w.pass ≡ v.pass
  pub meter : w.meter ≡ v.meter
  pub jobs : (k : ℕ) (j : LineWalk) → slice_get w.jobs k ≡ Some j → IsJobOf kind weight value d lines [] j × (j.limit ≡ limit)

-- all jobs of the worker are over
abbrev pub IsDone : {V M : Type 0} → Laborer V M → Type 0
IsDone w = (k : ℕ) (j : LineWalk) → slice_get w.jobs k ≡ Some j → IsOver j

abbrev pub AreDone : {V M : Type 0} → List (Laborer V M) → Type 0
AreDone {V} {M} ws = (k : ℕ) (w : Laborer V M) → slice_get ws k ≡ Some w → IsDone w

module _ {W V : Type 0} (kind : ArcType) (weight : W → Cost) (value : V → Cost) (d : Machine W × Machine W) (lines : List (List ℕ)) (limit : ℕ)
    (cache : Entries V (Name ℕ ℕ)) where
  -- Jobs whose lines can be answered: their walks are over, and the cache has the arcs of all names that they have taken.
  pub record AreWalked (jobs : List LineWalk) : Type 0 where
    pub each : (i : ℕ) (j : LineWalk) → slice_get jobs i ≡ Some j → IsJobOf kind weight value d lines (keys cache) j × (j.limit ≡ limit)
    pub over : (i : ℕ) (j : LineWalk) → slice_get jobs i ≡ Some j → IsOver j

  -- so are the jobs of each of these workers
  pub record AreAnswerable {M : Type 0} (ws : List (Laborer V M)) : Type 0 where
    pub entries : IsTrueOf value (delayed_graph kind weight d) cache
    pub walked : (k : ℕ) (w : Laborer V M) → slice_get ws k ≡ Some w → AreWalked w.jobs
