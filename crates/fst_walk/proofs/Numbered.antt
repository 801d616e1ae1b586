-- The machine of the names of a walk: where there are none, and that its start reaches all its states.
use Rattle.std.proofs.Common.{◌≡◌, ◌⊎◌, inl, inr, ℕ, zero, suc, ◌<◌, ◌≤◌, List, [], ◌∷◌, Option, None, Some, length, get_or, slice_get, sym, refl, ap, ◌∙◌, subst, arith}
use Rattle.std.specs.Prelude.{MatchOption}
use Rattle.std.proofs.lemmas.Bool.{cases_lt}
use Rattle.std.proofs.lemmas.Option.{slice_get-get_or, slice_get_within}
use Rattle.fst_semiring.specs.Cost.{Cost}
use Rattle.fst_machine.specs.BreadthFirst.{IsBreadthFirst}
use Rattle.fst_machine.specs.Cycles.{IsAccessible}
use Rattle.fst_machine.specs.Machine.{Arc, Machine, no_states}
use Rattle.fst_machine.specs.Graph.{Graph, graph_of, renamed}
use Rattle.fst_machine.specs.Numbering.{IsNumbered, start_of}
use Rattle.fst_machine.proofs.Arcs.{mapped_at}
use Rattle.fst_machine.proofs.Connected.{accessible_next}
use Rattle.fst_machine.proofs.Elements.{Apart_at}
use Rattle.fst_walk.specs.Answers.{IsNamed}

-- where nothing starts, the machine without states is numbered by no names
pub nothing_numbered : {N : Type 0} (g : Graph N) → g.start ≡ None → IsNumbered g [] no_states
nothing_numbered g none = record {
  start = refl;
  first = none;
  states = refl;
  arcs = λ i n d e. absurd (cc);
  final = λ i n e. absurd (cc);
  within = λ i k a low e. absurd (omega arith);
}

-- and it is what a walk makes
pub nothing_named : {N : Type 0} (g : Graph N) → g.start ≡ None → IsNamed g [] no_states
nothing_named {N} g none = record { listed = subst (λ (o : Option N). MatchOption o (◌≡◌ {A = List N} [] []) (λ start. IsBreadthFirst g start [])) (sym none) (refl {A = List N} {a = []}); numbered = nothing_numbered g none }

module _ {N : Type 0} (g : Graph N) (names : List N) (m : Machine Cost) (numbered : IsNumbered g names m) (start : N) (listed : IsBreadthFirst g start names) where
  -- the start of the machine is its first state
  first_accessible : IsAccessible (graph_of m) 0
  first_accessible = record { first = 0; path = []; starts = numbered.start ∙ begins names listed.begins; leads = refl }
    where
      begins : (ns : List N) → slice_get ns 0 ≡ Some start → start_of ns ≡ Some 0
      begins [] none = absurd (cc)
      begins (n ∷ ns) there = refl

  -- an arc of a state that is reached leads to each later one
  later_accessible : (p : ℕ) → 0 < p → p < length names → ((i : ℕ) → i < p → IsAccessible (graph_of m) i) → IsAccessible (graph_of m) p
  later_accessible p later low sooner =
      let name = get_or names p start in
      let there : slice_get names p ≡ Some name = slice_get-get_or names p start low in
      let pair = listed.found p name there later in
      let leads = pair.2.leads in
      let row = numbered.arcs pair.0 leads.name start leads.there in
      let arc = mapped_at (renamed (λ j. get_or names j start)) ((graph_of m).arcs pair.0) pair.1 leads.arc (ap (λ (arcs : List (Arc Cost N)). slice_get arcs pair.1) (sym row) ∙ leads.has) in
      let within : arc.0.next < length names = numbered.within pair.0 pair.1 arc.0 (slice_get_within names pair.0 leads.name leads.there) arc.1 in
      let to : get_or names arc.0.next start ≡ name = ap (λ (a : Arc Cost N). a.next) arc.2 ∙ leads.leads in
      let place : arc.0.next ≡ p = Apart_at names arc.0.next p name listed.apart (slice_get-get_or names arc.0.next start within ∙ ap Some to) there in
      subst (IsAccessible (graph_of m)) place (accessible_next (graph_of m) pair.0 pair.1 arc.0 (sooner pair.0 pair.3) arc.1)

  -- so all states before a number are reached, whatever it is
  below_accessible : (bound p : ℕ) → p < bound → p < length names → IsAccessible (graph_of m) p
  below_accessible zero p before low = absurd (omega arith)
  below_accessible (suc bound) p before low = by_place (cases_lt 0 p) (λ i sooner. below_accessible bound i (omega arith) (omega arith))
    where
      by_place : (0 < p) ⊎ (p ≤ 0) → ((i : ℕ) → i < p → IsAccessible (graph_of m) i) → IsAccessible (graph_of m) p
      by_place (inl later) sooner = later_accessible p later low sooner
      by_place (inr first) sooner = let here : 0 ≡ p = omega arith in subst (IsAccessible (graph_of m)) here first_accessible

-- the start of the machine that a walk makes reaches all its states
pub named_accessible : {N : Type 0} (g : Graph N) (names : List N) (m : Machine Cost) → IsNamed g names m → (p : ℕ) → p < length m.states → IsAccessible (graph_of m) p
named_accessible {N} g names m h p low = by_start g.start h.listed
  where
    within : p < length names
    within = let size = h.numbered.states in omega (arith, size, low)

    by_start : (o : Option N) → MatchOption o (names ≡ []) (λ start. IsBreadthFirst g start names) → IsAccessible (graph_of m) p
    by_start None none = let empty : length names ≡ 0 = ap length none in absurd (omega (arith, empty, within))
    by_start (Some start) listed = below_accessible g names m h.numbered start listed (suc p) p (omega arith) within
