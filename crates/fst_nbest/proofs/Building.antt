-- A machine of chains as it is made.
use Rattle.std.proofs.Common.{◌≡◌, ℕ, ◌<◌, ◌≤◌, List, [], ◌∷◌, ◌++◌, None, Some, length, map, get_or, slice_get, refl, sym, ap, ap₂, subst, ◌∙◌, arith}
use Rattle.std.specs.Option.{option_map}
use Rattle.std.proofs.lemmas.Option.{get_or_from_slice_get}
use Rattle.std.proofs.lemmas.List.{length-map}
use Rattle.std.proofs.lemmas.List.Sums.{sum_by-cons}
use Rattle.fst_semiring.specs.Cost.{Cost, infinite}
use Rattle.fst_machine.specs.Machine.{Arc, State, Machine, IsMachine, arc_total, most_states, valued, valued_arc, valued_state}
use Rattle.fst_machine.specs.Graph.{graph_of, no_state}
use Rattle.fst_machine.proofs.Arcs.{at_mapped, mapped_some}
use Rattle.fst_machine.proofs.Valued.{IsMachine-unvalued}
use Rattle.fst_nbest.specs.Chains.{Chain, HaveLetters, first_arcs, all_states, final_of, arcs_listed, chained}
use Rattle.fst_nbest.proofs.ChainSizes.{all-total, IsMachine-chained}

-- the final weight of a state, by its value
pub valued_final : {V : Type 0} (value : V → Cost) (m : Machine V) (p : ℕ) (w : V) → option_map (λ s. s.final) (slice_get m.states p) ≡ Some w → value w ≡ (graph_of (valued value m)).final p
valued_final {V} value m p w e =
    let s = mapped_some (λ (t : State V). t.final) (slice_get m.states p) w e in
    let here : get_or (map (valued_state value) m.states) p no_state ≡ valued_state value s.0 = get_or_from_slice_get (map (valued_state value) m.states) p (valued_state value s.0) no_state (at_mapped (valued_state value) m.states p s.0 s.1) in
    ap value (sym s.2) ∙ ap (λ (t : State Cost). t.final) (sym here)

-- the first arcs are no more than all arcs
pub firsts_few : {V : Type 0} (value : V → Cost) (cs : List Chain) (own : List (Arc V ℕ)) → map (valued_arc value) own ≡ first_arcs 1 cs → length own ≤ arcs_listed cs
firsts_few value cs own put =
    let count : length own ≡ length (first_arcs 1 cs) = sym (length-map own (valued_arc value)) ∙ ap length put in
    omega (arith, count, all-total 1 cs)

abbrev start_state : List Chain → State Cost
start_state cs = record { final = final_of infinite cs; arcs = first_arcs 1 cs }

-- the start of a machine of chains
chained_some : (cs : List Chain) → 0 < length cs → chained cs ≡ record { start = Some 0; states = start_state cs ∷ all_states 1 cs }
chained_some [] some = absurd (omega (arith, some))
chained_some (c ∷ cs) some = refl

good_some : (cs : List Chain) → 0 < length cs → HaveLetters cs → arcs_listed cs < most_states → IsMachine (λ v. v) (chained cs)
good_some [] some h few = absurd (omega (arith, some))
good_some (c ∷ cs) some h few = IsMachine-chained c cs h few

module _ {V : Type 0} (value : V → Cost) (cs : List Chain) (z : V) (own arcs : List (Arc V ℕ)) (none first all : List (State V)) (last : value z ≡ final_of infinite cs) (put : map (valued_arc value) own ≡ first_arcs 1 cs)
    (empty : none ≡ []) (same : arcs ≡ own) (begun : first ≡ none ++ record { final = z; arcs = arcs } ∷ []) (rest : map (valued_state value) all ≡ map (valued_state value) first ++ all_states 1 cs) where
  built_states : map (valued_state value) all ≡ start_state cs ∷ all_states 1 cs
  built_states =
      let one : first ≡ record { final = z; arcs = own } ∷ [] = begun ∙ ap₂ (λ (ss : List (State V)) (arcs : List (Arc V ℕ)). ss ++ record { final = z; arcs = arcs } ∷ []) empty same in
      rest ∙ (ap (λ (ss : List (State V)). map (valued_state value) ss ++ all_states 1 cs) one
      ∙ ap₂ (λ (w : Cost) (arcs : List (Arc Cost ℕ)). record { final = w; arcs = arcs } ∷ all_states 1 cs) last put)

  pub built_is : 0 < length cs → valued value (record { start = Some 0; states = all }) ≡ chained cs
  built_is some = ap (λ (ss : List (State Cost)). record { start = Some 0; states = ss }) built_states ∙ sym (chained_some cs some)

  pub built_good : 0 < length cs → HaveLetters cs → arcs_listed cs < most_states → IsMachine value (record { start = Some 0; states = all })
  built_good some h few = IsMachine-unvalued value (record { start = Some 0; states = all }) (subst (λ (m : Machine Cost). IsMachine (λ v. v) m) (sym (built_is some)) (good_some cs some h few))

-- the arcs of the start alone
pub first_total : {V : Type 0} (z : V) (arcs own : List (Arc V ℕ)) (none first : List (State V)) → none ≡ [] → arcs ≡ own → first ≡ none ++ record { final = z; arcs = arcs } ∷ [] → arc_total first ≡ length own
first_total {V} z arcs own none first empty same begun =
    let one : first ≡ record { final = z; arcs = own } ∷ [] = begun ∙ ap₂ (λ (ss : List (State V)) (arcs : List (Arc V ℕ)). ss ++ record { final = z; arcs = arcs } ∷ []) empty same in
    let total : arc_total first ≡ arc_total (record { final = z; arcs = own } ∷ []) = ap arc_total one in
    let sum = sum_by-cons (λ (t : State V). length t.arcs) (record { final = z; arcs = own }) [] in
    omega (arith, total, sum)

-- no chains have no states
pub chained_none : (cs : List Chain) → length cs ≡ 0 → record { start = None; states = [] } ≡ chained cs
chained_none [] e = refl
chained_none (c ∷ cs) e = absurd (omega (arith, e))

pub no_arcs : {V : Type 0} (states : List (State V)) → states ≡ [] → arc_total states ≡ 0
no_arcs states none = ap arc_total none
