use Rattle.std.proofs.Common.{◌≡◌, ◌≤◌, ◌<◌, ℕ, List, Option, None, Some, length, map, get_or, sym, subst, ◌∙◌, arith}
use Rattle.std.specs.Prelude.{IfNone, IfSome}
use Rattle.std.proofs.lemmas.List.{get_or_read}
use Rattle.fst_machine.specs.declared.path.Step.{Step}
use Rattle.fst_search.specs.Searching.{IsTrail, link_at, valued_node}
use Rattle.fst_search.proofs.Nodes.{read_number}
use Rattle.fst_search.proofs.searching.turned.Goals as goal

if_some : (o : Option ℕ) (L : ℕ → Option Step) (from at m n : ℕ) → from ≡ at → m ≡ n → IfSome o (λ x. (trail : List Step) × IsTrail L from trail x × (length trail ≡ m)) → IfSome o (λ x. (trail : List Step) × IsTrail L at trail x × (length trail ≡ n))
if_some None L from at m n same many h = tt
if_some (Some x) L from at m n same many h = (h.0, subst (λ (q : ℕ). IsTrail L q h.0 x) same h.1, h.2 ∙ many)

if_none : (o : Option ℕ) (L : ℕ → Option Step) (from at m n : ℕ) (Late : Type 0) → from ≡ at → m ≡ n → IfNone o ((trail : List Step) × (x : ℕ) × IsTrail L from trail x × (length trail < m) × (L x ≡ None))
    → IfNone o (Late → (trail : List Step) × (x : ℕ) × IsTrail L at trail x × (length trail < n) × (L x ≡ None))
if_none None L from at m n Late same many h = λ late. (h.0, h.1, subst (λ (q : ℕ). IsTrail L q h.0 h.1) same h.2, subst (λ (j : ℕ). length h.0 < j) many h.3, h.4)
if_none (Some x) L from at m n Late same many h = tt

pub follow-requires-clause-from : goal.follow-requires-clause-from
follow-requires-clause-from g c =
    let items = c.args.table.now.later.items in
    let same : c.index.result.now ≡ get_or items 0 0 = get_or_read items 0 c.index.result.now c.requires.some c.index.ensures 0 in
    subst (λ (q : ℕ). q < length c.args.table.now.nodes.items) (sym same) (c.requires.later _ (read_number items 0 c.requires.some))

pub returns-clause-found : goal.returns-clause-found
returns-clause-found g c =
    let items = c.args.table.now.later.items in
    let same : c.index.result.now ≡ get_or items 0 0 = get_or_read items 0 c.index.result.now c.requires.some c.index.ensures 0 in
    let many : c.len-states.result ≡ length c.args.table.now.nodes.items = omega (arith, c.args.table.now.nodes.ok) in
    if_some c.follow.result (link_at (map (valued_node g.W.Weight.wide_value) c.args.table.now.nodes.items)) c.index.result.now (get_or items 0 0) c.len-states.result (length c.args.table.now.nodes.items) same many c.follow.ensures.leads

pub returns-clause-goes_on : goal.returns-clause-goes_on
returns-clause-goes_on g c =
    let items = c.args.table.now.later.items in
    let same : c.index.result.now ≡ get_or items 0 0 = get_or_read items 0 c.index.result.now c.requires.some c.index.ensures 0 in
    let many : c.len-states.result ≡ length c.args.table.now.nodes.items = omega (arith, c.args.table.now.nodes.ok) in
    if_none c.follow.result (link_at (map (valued_node g.W.Weight.wide_value) c.args.table.now.nodes.items)) c.index.result.now (get_or items 0 0) c.len-states.result (length c.args.table.now.nodes.items) (length c.args.table.now.nodes.items ≤ c.args.round) same many c.follow.ensures.ends
