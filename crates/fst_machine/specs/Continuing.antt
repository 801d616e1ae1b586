-- A graph inside another that goes on from each of its final names by an epsilon arc. (Mohri 2009, section
-- 3.1: concatenation and closure join machines by epsilon arcs with the final weights.)
use Rattle.std.specs.Prelude.{◌≡◌, ℕ, ◌<◌, List, [], ◌∷◌, ◌++◌, Some, length, map, slice_get}
use Rattle.fst_semiring.specs.Cost.{Cost, best, finite, infinite}
use Rattle.fst_machine.specs.Machine.{Arc}
use Rattle.fst_machine.specs.Graph.{Graph, renamed}
use Rattle.fst_machine.specs.Paths.{Transition, IsPath}
use Rattle.fst_machine.specs.Renaming.{moved}

-- the arc that reads and writes nothing
abbrev pub epsilon_arc : {N : Type 0} → Cost → N → Arc Cost N
epsilon_arc w c = record { ilabel = 0; olabel = 0; weight = w; next = c }

-- the epsilon arc by which a name with this final weight goes on; a name that is not final has none
abbrev pub leaving : {N : Type 0} → Cost → N → List (Arc Cost N)
leaving best c = epsilon_arc best c ∷ []
leaving (finite a b) c = epsilon_arc (finite a b) c ∷ []
leaving infinite c = []

-- Each name of the domain has in h, under its other name, the same arcs, renamed, and behind them the epsilon
-- arc to c with its final weight, if it is final; arcs do not leave the domain.
pub record Continues {N M : Type 0} (f : N → M) (g : Graph N) (h : Graph M) (Domain : N → Type 0) (c : M) : Type 0 where
  pub arcs : (n : N) → Domain n → h.arcs (f n) ≡ map (renamed f) (g.arcs n) ++ leaving (g.final n) c
  pub within : (n : N) (k : ℕ) (a : Arc Cost N) → Domain n → slice_get (g.arcs n) k ≡ Some a → Domain a.next

-- A path of h is, renamed, a path of g from n to a name of the domain.
pub record Stays {N M : Type 0} (f : N → M) (g : Graph N) (Domain : N → Type 0) (n : N) (path : List (Transition M)) (last : M) : Type 0 where
  pub old : List (Transition N)
  pub end : N
  pub leads : IsPath g n old end
  pub within : Domain end
  pub same : moved f old ≡ path
  pub ends : f end ≡ last

-- A path of h is, renamed, a path of g from n to a final name, then the epsilon arc with that name's final
-- weight, and then a path from c.
pub record GoesOn {N M : Type 0} (f : N → M) (g : Graph N) (h : Graph M) (Domain : N
    → Type 0) (c : M) (n : N) (path : List (Transition M)) (last : M) : Type 0 where
  pub old : List (Transition N)
  pub end : N
  pub leads : IsPath g n old end
  pub within : Domain end
  pub final : g.final end ≡ infinite → ⊥
  pub place : ℕ
  pub rest : List (Transition M)
  pub same : path ≡ moved f old ++ (record { state = f end; place = place; arc = epsilon_arc (g.final end) c } ∷ rest)
  pub goes : IsPath h c rest last
  pub shorter : length rest < length path
