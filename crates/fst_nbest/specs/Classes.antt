-- The paths of one total weight in an arc type whose product is the worse of two weights, as words. A name is a state
-- and whether the total has been reached on the way: below n the state itself, where it has, and n further on where not.
use Rattle.std.specs.Prelude.{◌≡◌, ℕ, ◌+◌, ◌-◌, ◌<◌, pos, Bool, true, false, cond, nat_lt, List, [], length, get_or, slice_get, Option, None, Some, All}
use Rattle.std.specs.Ordering.{is_eq, is_le}
use Rattle.fst_semiring.specs.Cost.{Cost, finite, infinite, cost_cmp}
use Rattle.fst_machine.specs.Machine.{Arc, Machine, valued}
use Rattle.fst_machine.specs.Graph.{Graph, graph_of}
use Rattle.fst_trim.specs.Links.{Link, turned_links}
use Rattle.fst_nbest.specs.Words.{Words}
use Rattle.fst_nbest.specs.Counts.{Hops, IsLeastCount, count_of, uncounted}

-- whether the total has been reached, and the state
abbrev pub is_reached : ℕ → ℕ → Bool
is_reached n x = nat_lt x n

abbrev pub state_at : ℕ → ℕ → ℕ
state_at n x = cond (nat_lt x n) x (x - n)

-- and the name of both
abbrev pub name_at : ℕ → ℕ → Bool → ℕ
name_at n q true = q
name_at n q false = n + q

-- whether a path may have a rest with this weight
abbrev pub fits : Cost → Bool → Cost → Bool
fits total true w = is_le (cost_cmp w total)
fits total false w = is_eq (cost_cmp w total)

-- whether the total has been reached behind this weight
abbrev pub reached_by : Cost → Bool → Cost → Bool
reached_by total true w = true
reached_by total false w = is_eq (cost_cmp w total)

-- the one weight of these words, which is One of an arc type whose factors cancel
abbrev pub unit : Cost
unit = finite (pos 0) (pos 0)

abbrev pub class_stop : Cost → Bool → Cost → Option Cost
class_stop total reached w = cond (fits total reached w) (Some unit) None

-- where a step leads, unless no word goes on there
abbrev pub class_next : (ℕ → Bool) → ℕ → Option (Cost × ℕ)
class_next alive y = cond (alive y) (Some (unit, y)) None

abbrev pub class_step : ℕ → Cost → (ℕ → Bool) → Bool → Option (Arc Cost ℕ) → Option (Cost × ℕ)
class_step n total alive reached None = None
class_step n total alive reached (Some a) = cond (is_le (cost_cmp a.weight total)) (class_next alive (name_at n a.next (reached_by total reached a.weight))) None

abbrev pub class_words : Graph ℕ → ℕ → Cost → (ℕ → Bool) → Words ℕ
class_words g n total alive = record {
  stop = λ x. class_stop total (is_reached n x) (g.final (state_at n x));
  step = λ x k. class_step n total alive (is_reached n x) (slice_get (g.arcs (state_at n x)) k);
}

-- the names from which words go on, by their counts
abbrev pub is_counted : List ℕ → ℕ → Bool
is_counted counts x = nat_lt (count_of counts x) uncounted

-- A word may stop at this name.
pub record IsClassStop {V : Type 0} (value : V → Cost) (m : Machine V) (total : Cost) (x : ℕ) : Type 0 where
  pub low : x < length m.states + length m.states
  pub is : fits total (is_reached (length m.states) x) ((graph_of (valued value m)).final (state_at (length m.states) x)) ≡ true

-- The link leads back from the second name to the first.
pub record IsClassLink {V : Type 0} (value : V → Cost) (n : ℕ) (total : Cost) (l : Link V) (x y : ℕ) : Type 0 where
  pub reached : Bool
  pub few : is_le (cost_cmp (value l.weight) total) ≡ true
  pub from : x ≡ name_at n l.next reached
  pub to : is_reached n y ≡ reached_by total reached (value l.weight)

-- the links back to the state of a name
abbrev pub class_links : {V : Type 0} → Machine V → ℕ → List (Link V)
class_links m y = get_or (turned_links m.states) (state_at (length m.states) y) []

-- What is known of a machine before the paths of one total weight are listed.
pub record IsClass {V : Type 0} (value : V → Cost) (known : V → Type 0) (m : Machine V) (total : Cost) : Type 0 where
  pub solid : total ≡ infinite → ⊥
  pub weights : All (λ s. All (λ a. known a.weight) s.arcs) m.states
  pub finals : All (λ s. known s.final) m.states

pub record IsClassReady {V : Type 0} (value : V → Cost) (known : V → Type 0) (m : Machine V) (total : Cost) (counts : List ℕ) : Type 0 where
  pub class : IsClass value known m total
  pub size : length counts ≡ length m.states + length m.states
  pub least : (x : ℕ) → IsLeastCount (IsClassStop value m total) (Hops (class_links m) (IsClassLink value (length m.states) total)) x (count_of counts x)

-- a machine with a total weight
pub record Class (V : Type 0) : Type 0 where
  pub machine : Machine V
  pub total : Cost

-- and with the counts of its names
pub record Counted (V : Type 0) : Type 0 where
  pub machine : Machine V
  pub total : Cost
  pub counts : List ℕ
