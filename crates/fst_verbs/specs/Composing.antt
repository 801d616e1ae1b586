-- `compose`: the composition of two machines, connected or as it is. (OpenFst manual, "Compose"; Mohri 2009, section 5.)
use Rattle.std.specs.Prelude.{◌≡◌, ◌↔◌, ℕ, Bool, true, false, List, codes, unwrap_or}
use Rattle.std.specs.Option.{option_map_or}
use Rattle.std.specs.Str.{bytes_eq}
use Rattle.fst_semiring.specs.declared.arc_type.ArcType.{ArcType}
use Rattle.fst_semiring.specs.Cost.{Cost}
use Rattle.fst_machine.specs.Connected.{IsConnected}
use Rattle.fst_machine.specs.Graph.{graph_of}
use Rattle.fst_machine.specs.Machine.{Machine}
use Rattle.fst_rational.specs.Relations.{Triple}
use Rattle.fst_compose.specs.Answers.{Refuses}
use Rattle.fst_compose.specs.Composition.{composed}
use Rattle.fst_compose.specs.Faults.{compose_text}
use Rattle.fst_compose.specs.Names.{Name}
use Rattle.fst_compose.specs.Theorem.{IsComposition, IsConnectedComposition, Relates}
use Rattle.fst_compose.specs.declared.fault.ComposeFault.{ComposeFault}
use Rattle.fst_walk.specs.Answers.{IsNamed}
use Rattle.fst_words.specs.declared.options.Options.{Options}
use Rattle.fst_verbs.specs.Causes.{unmade}
use Rattle.fst_verbs.specs.Meaning.{IsMachine, Meaning, for_two}

-- the most states of a composition before it is connected
abbrev pub state_limit : Options → ℕ
state_limit options = unwrap_or options.max_states 1000000

-- whether what is made is connected: the word is `true`, or there is none
abbrev pub connects : Options → Bool
connects options = option_map_or (λ word. bytes_eq word (codes "true")) options.connect true

-- what is left of a machine: it is connected, or as it is
abbrev pub IsLeft : Bool → Machine Cost → Machine Cost → Type 0
IsLeft true whole made = IsConnected whole made
IsLeft false whole made = made ≡ whole

module _ (kind : ArcType) (first second : Machine Cost) (names : List (Name ℕ ℕ)) (whole : Machine Cost) where
  -- The machine is the composition, connected or as it is. Reading off its successful paths is a one-to-one map onto
  -- the matching pairs of paths of the two machines.
  abbrev pub IsGiven : Bool → Machine Cost → Type 0
  IsGiven true made = (h : IsConnected whole made) × IsConnectedComposition kind (graph_of first) (graph_of second) names whole h.kept made
  IsGiven false made = (made ≡ whole) × IsComposition kind (graph_of first) (graph_of second) names whole

-- The machine is the composition of the two, whose states stand for these names. What it relates is what the first
-- does, followed by what the second does.
pub record IsComposed (options : Options) (kind : ArcType) (first second made : Machine Cost) : Type 0 where
  pub names : List (Name ℕ ℕ)
  pub whole : Machine Cost
  pub named : IsNamed (composed kind (graph_of first) (graph_of second)) names whole
  pub given : IsGiven kind first second names whole (connects options) made
  pub denotes : (x z : List ℕ) (w : Cost) → Triple kind made x z w ↔ Relates kind (graph_of first) (graph_of second) x z w

abbrev pub compose_meaning : Options → Meaning
compose_meaning o = record {
  stops = λ given fault. for_two given.machines (λ a b.
      (why : ComposeFault) × Refuses given.kind a b (state_limit o) why × (fault ≡ unmade (compose_text why)));
  makes = λ given made. for_two given.machines (λ a b. IsMachine given.kind (λ r. IsComposed o given.kind a b r) made);
}
