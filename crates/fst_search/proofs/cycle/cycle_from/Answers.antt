use Rattle.std.proofs.Common.{◌≡◌, ◌<◌, ℕ, List, [], ◌∷◌, ◌++◌, Option, None, Some, length, map, sym, ap, ◌∙◌, subst, arith, rules}
use Rattle.std.proofs.lemmas.List.{length-append}
use Rattle.fst_machine.specs.declared.path.Step.{Step}
use Rattle.fst_search.specs.Cycles.{told}
use Rattle.fst_search.specs.Searching.{IsTrail, Node, link_at, valued_node}
use Rattle.fst_search.proofs.Nodes.{node_read}
use Rattle.fst_search.proofs.Telling.{first_link, told-push, trail_some}
use Rattle.fst_search.proofs.Trails.{IsTrail-push}
use Rattle.fst_search.proofs.cycle.cycle_from.Given.{Over}
use Rattle.fst_search.proofs.cycle.cycle_from.Goals.{After-behind-nodes, At-loop, In_ok-push}
use Rattle.fst_search.proofs.cycle.cycle_from.Goals as goal

-- the links of the nodes
abbrev links : (g : Over) → List (Node g.row.W-Wide.Denot) → ℕ → Option Step
links g nodes = link_at (map (valued_node g.W.Weight.wide_value) nodes)

-- the link that leads on
first : (g : Over) (c : At-loop g) → (s : Step) × (more : List Step) × (c.loop.invariant.1 ≡ s ∷ more) × (links g c.args.nodes.now.items c.loop.at ≡ Some s) × IsTrail (links g c.args.nodes.now.items) s.state more c.args.state
first g c = let v = c.loop.invariant in first_link (links g c.args.nodes.now.items) v.1 c.loop.at c.args.state v.3 v.4

-- it is the one that is read
read : (g : Over) (c : After-behind-nodes g) → c.loop.at < length c.args.nodes.now.items → links g c.args.nodes.now.items c.loop.at ≡ c.behind-nodes.inside.link
read g c low = ap (λ z. z.link) (node_read g.W.Weight.wide_value c.args.nodes.now.items c.loop.at c.index.result.now low c.index.ensures) ∙ ap (λ (n : Node g.row.W-Wide.Denot). n.link) (sym c.behind-nodes.view_is)

-- the trail with that link at its end, and the same told
longer : (g : Over) (c : In_ok-push g) → links g c.args.nodes.now.items c.loop.at ≡ Some c.in-Some.link → IsTrail (links g c.args.nodes.now.items) c.args.state (c.loop.invariant.0 ++ c.in-Some.link ∷ []) c.in-Some.link.state
    × (c.push.new.self.items ≡ told c.args.direction c.args.state (c.loop.invariant.0 ++ c.in-Some.link ∷ []))
longer g c link =
    let L = links g c.args.nodes.now.items in
    let v = c.loop.invariant in
    let s = c.in-Some.link in (
      IsTrail-push L v.0 c.args.state c.loop.at s v.2 link,
      c.in_ok-push.ensures.items ∙ (ap (λ ss. ss ++ c.step_along.result ∷ []) v.7 ∙ (ap (λ (z : Step). told c.args.direction c.args.state v.0 ++ z ∷ []) c.step_along.ensures ∙ sym (told-push c.args.direction L v.0 c.args.state c.loop.at s v.2))),
    )

pub index-requires : goal.index-requires
index-requires g c =
    let f = first g (goal.at.index-requires g c).At-loop in
    let low : c.loop.at < length c.args.nodes.now.items = (c.requires.low c.loop.at f.0 f.3).0 in
    search rules

pub unreachable-requires : goal.unreachable-requires
unreachable-requires g c =
    let f = first g (goal.at.unreachable-requires g c).At-loop in
    let wrong : Some f.0 ≡ None = sym f.3 ∙ (read g (goal.at.unreachable-requires g c).After-behind-nodes (c.requires.low c.loop.at f.0 f.3).0 ∙ c.in_default.is) in
    cc

pub returns-then-at-state : goal.returns-then-at-state
returns-then-at-state g c =
    let v = c.loop.invariant in
    let s = c.in-Some.link in
    let f = first g (goal.at.returns-then-at-state g c).At-loop in
    let link = read g (goal.at.returns-then-at-state g c).After-behind-nodes (c.requires.low c.loop.at f.0 f.3).0 ∙ c.in-Some.is in
    let on = longer g (goal.at.returns-then-at-state g c).In_ok-push link in (
      v.0 ++ s ∷ [],
      subst (λ (z : ℕ). IsTrail (links g c.args.nodes.now.items) c.args.state (v.0 ++ s ∷ []) z) c.if-at-state.true on.0,
      (let many = length-append v.0 (s ∷ []) in omega arith),
      on.1,
    )

pub loop-preserved : goal.loop-preserved
loop-preserved g c =
    let L = links g c.args.nodes.now.items in
    let v = c.loop.invariant in
    let s = c.in-Some.link in
    let f = first g (goal.at.loop-preserved g c).At-loop in
    let link = read g (goal.at.loop-preserved g c).After-behind-nodes (c.requires.low c.loop.at f.0 f.3).0 ∙ c.in-Some.is in
    let on = longer g (goal.at.loop-preserved g c).In_ok-push link in
    let same : f.0 ≡ s = (let e : Some f.0 ≡ Some s = sym f.3 ∙ link in cc) in
    let goes : IsTrail L s.state f.1 c.args.state = subst (λ (z : Step). IsTrail L z.state f.1 c.args.state) same f.4 in
    let many = length-append v.0 (s ∷ []) in
    let rest = ap length f.2 in
    let few = v.5 in
    let count = v.6 in (v.0 ++ s ∷ [], f.1, on.0, goes, trail_some L f.1 s.state c.args.state goes c.if-at-state.false, omega arith, omega arith, on.1)
