-- A worker of a batch: it claims the keys that its jobs need, and expands those that it wins into a cache of its own.
use Rattle.std.specs.Prelude.{◌≡◌, ◌⊎◌, ◌<◌, ◌≤◌, ◌++◌, ℕ, List, Some, length, map, slice_get}
use Rattle.std.specs.List.{Contains}
use Rattle.fst_semiring.specs.Cost.{Cost}
use Rattle.fst_semiring.specs.declared.arc_type.ArcType.{ArcType}
use Rattle.fst_machine.specs.BreadthFirst.{Has}
use Rattle.fst_machine.specs.Graph.{Graph}
use Rattle.fst_machine.specs.Machine.{Machine}
use Rattle.fst_delayed.specs.Caches.{AreApart, Entries, IsTrueOf, keys}
use Rattle.fst_delayed.specs.Coding.{code_of}
use Rattle.fst_delayed.specs.Graphs.{delayed_graph}
use Rattle.fst_delayed.specs.Handed.{Name}
use Rattle.fst_lattice.specs.Lattice.{Point}
use Rattle.fst_lattice.specs.Needed.{IsNeeded}
use Rattle.fst_lattice.specs.Walks.{IsHead, IsJob, IsOver, LineWalk}

-- the codes of the names of these entries, in order
abbrev pub codes : {A : Type 0} → List (Name ℕ ℕ × A) → List ℕ
codes entries = map (λ e. code_of e.0) entries

-- Nobody who has found this may win the code any more: it stands in a place, or another stands in every place.
abbrev pub IsBlocked : ℕ → List (ℕ × ℕ) → ℕ → Type 0
IsBlocked places found code = ((place : ℕ) × Contains found (place, code)) ⊎ ((i : ℕ) → i < places → (d : ℕ) × Contains found (i, d))

-- What a worker has expanded in a phase, which began with a cache: its entries have their arcs in the graph, the cache had
-- none of their names, and their codes are those that its pass has won, in order.
pub record IsOwn {V : Type 0} (value : V → Cost) (g : Graph (Name ℕ ℕ)) (cache own : Entries V (Name ℕ ℕ)) (won : List ℕ) : Type 0 where
  pub entries : IsTrueOf value g own
  pub apart : AreApart cache own
  pub codes : won ≡ codes own
  pub few : length own ≤ 1048576

-- the job waits before a name whose key neither the cache nor its own worker has, and which its worker cannot win
pub record IsWaiting {V : Type 0} (places : ℕ) (cache own : Entries V (Name ℕ ℕ)) (found : List (ℕ × ℕ)) (w : LineWalk) : Type 0 where
  pub at : Point (Name ℕ ℕ)
  pub head : IsHead w at
  pub not_known : Has (keys cache ++ keys own) at.name → ⊥
  pub blocked : IsBlocked places found (code_of at.name)

-- nothing is left that its worker could do for the job
abbrev pub IsSettled : {V : Type 0} → ℕ → Entries V (Name ℕ ℕ) → Entries V (Name ℕ ℕ) → List (ℕ × ℕ) → LineWalk → Type 0
IsSettled places cache own found w = IsOver w ⊎ IsWaiting places cache own found w

-- It is the same job.
abbrev pub IsSameJob : LineWalk → LineWalk → Type 0
IsSameJob v w = (w.index ≡ v.index) × (w.limit ≡ v.limit)

-- What a worker's entries and finds grow by while it serves a job of a line: names that the line needs, none of which it had
-- found blocked.
module _ {V : Type 0} (places : ℕ) (line : List ℕ) (g : Graph (Name ℕ ℕ)) (limit : ℕ) (old new : Entries V (Name ℕ ℕ)) (before after : List (ℕ × ℕ)) where
  pub record IsGrown : Type 0 where
    pub more : Entries V (Name ℕ ℕ)
    pub entries : new ≡ old ++ more
    pub seen : List (ℕ × ℕ)
    pub finds : after ≡ before ++ seen
    pub needed : (n : Name ℕ ℕ) → Has (keys more) n → IsNeeded line g limit n
    pub fresh : (n : Name ℕ ℕ) → Has (keys more) n → IsBlocked places before (code_of n) → ⊥

-- Of a batch: the machines, the lines, the places of the claim table, and the cache at the start of a phase.
module _ {W V : Type 0} (kind : ArcType) (weight : W → Cost) (value : V → Cost) (d : Machine W × Machine W) (lines : List (List ℕ)) where
  -- a job of one of the lines, all of whose taken names are among these
  pub record IsJobOf (known : List (Name ℕ ℕ)) (w : LineWalk) : Type 0 where
    pub line : List ℕ
    pub there : slice_get lines w.index ≡ Some line
    pub job : IsJob kind weight d line known w

  -- the line of one of these jobs needs the name
  pub record IsNeededBy (jobs : List LineWalk) (n : Name ℕ ℕ) : Type 0 where
    pub job : LineWalk
    pub among : Has jobs job
    pub line : List ℕ
    pub there : slice_get lines job.index ≡ Some line
    pub need : IsNeeded line (delayed_graph kind weight d) job.limit n

  module _ (places : ℕ) (cache own : Entries V (Name ℕ ℕ)) (found : List (ℕ × ℕ)) where
    -- the job is the same, and nothing is left that its worker could do for it
    pub record IsServed (before now : LineWalk) : Type 0 where
      pub same : IsSameJob before now
      pub job_of : IsJobOf (keys cache ++ keys own) now
      pub settled : IsSettled places cache own found now

    -- What a worker with these jobs has done in a phase, after which they are those: each, in its place, was served, and the
    -- lines of the jobs need what was expanded.
    pub record HasServed (jobs now : List LineWalk) : Type 0 where
      pub size : length now ≡ length jobs
      pub each : (k : ℕ) (w : LineWalk) → slice_get now k ≡ Some w → (v : LineWalk) × (slice_get jobs k ≡ Some v) × IsServed v w
      pub needed : (n : Name ℕ ℕ) → Has (keys own) n → IsNeededBy jobs n
