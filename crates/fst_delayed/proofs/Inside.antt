-- The arcs of a name of states of two machines lead to such names.
use Rattle.std.proofs.Common.{◌≡◌, ℕ, zero, suc, ◌<◌, List, [], ◌∷◌, Some, length, slice_get, refl, sym, ap, ◌∙◌, subst, arith}
use Rattle.std.specs.Option.{option_map}
use Rattle.std.proofs.lemmas.Option.{get_or_from_slice_get, slice_get_within}
use Rattle.fst_semiring.specs.Cost.{Cost}
use Rattle.fst_semiring.specs.declared.arc_type.ArcType.{ArcType}
use Rattle.fst_machine.specs.Graph.{graph_of}
use Rattle.fst_machine.specs.Machine.{Arc, IsMachine, Machine, State, valued, valued_arc}
use Rattle.fst_machine.proofs.Arcs.{mapped_at}
use Rattle.fst_machine.proofs.Walking.{graph_arcs, nexts_within}
use Rattle.fst_compose.specs.NameLaws.{Keeps}
use Rattle.fst_compose.proofs.Ranges.{composed_below}
use Rattle.fst_delayed.specs.Graphs.{IsKeyOf, delayed_graph}

element : {X : Type 0} (xs : List X) (i : ℕ) → i < length xs → (x : X) × (slice_get xs i ≡ Some x)
element [] i low = absurd (omega arith)
element (x ∷ xs) zero low = (x, refl)
element (x ∷ xs) (suc i) low = element xs i (omega (arith, low))

machine_keeps : {V : Type 0} (value : V → Cost) (m : Machine V) → IsMachine value m → Keeps (λ p. p < length m.states) (graph_of (valued value m))
machine_keeps {V} value m h p k a low at =
    let s = element m.states p low in
    let arcs = ap (option_map (λ (t : State V). t.arcs)) s.1 in
    let own = mapped_at (valued_arc value) s.0.arcs k a (ap (λ xs. slice_get xs k) (sym (graph_arcs value m p s.0.arcs arcs)) ∙ at) in
    let all = nexts_within value m p s.0.arcs h arcs in
    let next : own.0.next < length m.states = subst (λ (b : Arc V ℕ). b.next < length m.states) (get_or_from_slice_get s.0.arcs k own.0 own.0 own.1) (all k own.0 (slice_get_within s.0.arcs k own.0 own.1)) in
    subst (λ (b : Arc Cost ℕ). b.next < length m.states) own.2 next

pub delayed_keeps : {V : Type 0} (kind : ArcType) (value : V → Cost) (d : Machine V × Machine V) → IsMachine value d.0 → IsMachine value d.1 → Keeps (IsKeyOf d) (delayed_graph kind value d)
delayed_keeps kind value d left right =
    composed_below kind (graph_of (valued value d.0)) (graph_of (valued value d.1)) (length d.0.states) (length d.1.states) (machine_keeps value d.0 left) (machine_keeps value d.1 right)
