use Rattle.std.proofs.Common.{◌≡◌, ◌++◌, ◌∙◌, ℕ, List, append-nil, map, ap, subst, sym}
use Rattle.std.specs.Prelude.{IfOk}
use Rattle.fst_semiring.specs.Cost.{Cost}
use Rattle.fst_machine.specs.Machine.{Arc}
use Rattle.fst_trim.specs.declared.side.Side.TheVariants.{Input, Output}
use Rattle.fst_trim.specs.Sides.{IsSortedOn}
use Rattle.fst_walk.specs.Names.{key_arc, left_from}
use Rattle.fst_compose.specs.Matching.{HasArcs}
use Rattle.fst_compose.specs.Names.{Name}
use Rattle.fst_compose.proofs.Parting.{rest_at_once, rest_by_both, rest_by_second}
use Rattle.fst_compose.proofs.Searching.{state_in_order}
use Rattle.fst_compose.proofs.parts.put_part.Goals as goal

pub returns-in-First-clause-put : goal.returns-in-First-clause-put
returns-in-First-clause-put g c =
    let key = c.args.key in
    let first : HasArcs c.args.a.now key.first c.arcs-arcs.result.now = subst (λ (p : ℕ). HasArcs c.args.a.now p c.arcs-arcs.result.now) (ap (λ (n : Name ℕ ℕ). n.first) c.key.view_is) c.arcs-arcs.ensures in
    let second : HasArcs c.args.b.now key.second c.arcs-bs.result.now = subst (λ (p : ℕ). HasArcs c.args.b.now p c.arcs-bs.result.now) (ap (λ (n : Name ℕ ℕ). n.second) c.key.view_is) c.arcs-bs.ensures in
    let rest = rest_at_once g.W.Weight.KIND g.W.Weight.value c.args.a.now c.args.b.now key c.arcs-arcs.result.now c.arcs-bs.result.now first second c.args.ordered c.in-First.is in
    append-nil (map (key_arc g.W.Weight.wide_value) c.put_by_side.new.out.items) ∙ (c.in_ok-put_by_side-in-First.ensures.put ∙ ap (λ zs. map (key_arc g.W.Weight.wide_value) c.args.out.now.items ++ zs) (sym (rest c.args.from)))

pub returns-in-Second-clause-put : goal.returns-in-Second-clause-put
returns-in-Second-clause-put g c =
    let key = c.args.key in
    let first : HasArcs c.args.a.now key.first c.arcs-arcs.result.now = subst (λ (p : ℕ). HasArcs c.args.a.now p c.arcs-arcs.result.now) (ap (λ (n : Name ℕ ℕ). n.first) c.key.view_is) c.arcs-arcs.ensures in
    let second : HasArcs c.args.b.now key.second c.arcs-bs.result.now = subst (λ (p : ℕ). HasArcs c.args.b.now p c.arcs-bs.result.now) (ap (λ (n : Name ℕ ℕ). n.second) c.key.view_is) c.arcs-bs.ensures in
    let rest = rest_by_second g.W.Weight.KIND g.W.Weight.value c.args.a.now c.args.b.now key c.arcs-arcs.result.now c.arcs-bs.result.now first second c.args.ordered c.in-Second.is in
    subst (λ (f : ℕ → List (Arc Cost (Name ℕ ℕ))). IfOk c.put_part_by_second.result (λ next. map (key_arc g.W.Weight.wide_value) c.put_part_by_second.new.out.items ++ left_from f next ≡ map (key_arc g.W.Weight.wide_value) c.args.out.now.items ++ f c.args.from)) (sym rest) c.put_part_by_second.ensures.put

pub returns-clause-put : goal.returns-clause-put
returns-clause-put g c =
    let key = c.args.key in
    let first : HasArcs c.args.a.now key.first c.arcs-arcs.result.now = subst (λ (p : ℕ). HasArcs c.args.a.now p c.arcs-arcs.result.now) (ap (λ (n : Name ℕ ℕ). n.first) c.key.view_is) c.arcs-arcs.ensures in
    let second : HasArcs c.args.b.now key.second c.arcs-bs.result.now = subst (λ (p : ℕ). HasArcs c.args.b.now p c.arcs-bs.result.now) (ap (λ (n : Name ℕ ℕ). n.second) c.key.view_is) c.arcs-bs.ensures in
    let rest = rest_by_both g.W.Weight.KIND g.W.Weight.value c.args.a.now c.args.b.now key c.arcs-arcs.result.now c.arcs-bs.result.now first second c.args.ordered c.in-Both.is in
    subst (λ (f : ℕ → List (Arc Cost (Name ℕ ℕ))). IfOk c.put_part_in_order.result (λ next. map (key_arc g.W.Weight.wide_value) c.put_part_in_order.new.out.items ++ left_from f next ≡ map (key_arc g.W.Weight.wide_value) c.args.out.now.items ++ f c.args.from)) (sym rest) c.put_part_in_order.ensures.put

pub put_part_by_second-requires : goal.put_part_by_second-requires
put_part_by_second-requires g c =
    let sorted : IsSortedOn Input c.args.b.now = rw c.in-Second.is at c.requires.ordered in
    record { sorted = state_in_order Input c.args.b.now c.key.inside.second c.arcs-bs.result.now sorted c.arcs-bs.ensures }

pub put_part_in_order-requires-clause-first : goal.put_part_in_order-requires-clause-first
put_part_in_order-requires-clause-first g c =
    let sorted : IsSortedOn Output c.args.a.now × IsSortedOn Input c.args.b.now = rw c.in-Both.is at c.requires.ordered in
    state_in_order Output c.args.a.now c.key.inside.first c.arcs-arcs.result.now sorted.0 c.arcs-arcs.ensures

pub put_part_in_order-requires-clause-second : goal.put_part_in_order-requires-clause-second
put_part_in_order-requires-clause-second g c =
    let sorted : IsSortedOn Output c.args.a.now × IsSortedOn Input c.args.b.now = rw c.in-Both.is at c.requires.ordered in
    state_in_order Input c.args.b.now c.key.inside.second c.arcs-bs.result.now sorted.1 c.arcs-bs.ensures
