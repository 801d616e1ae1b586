use Rattle.std.proofs.Common.{◌≡◌, ◌⊎◌, ◌+◌, ◌*◌, ◌<◌, ℕ, List, [], length, map, true, false, get_or, refl, sym, ap, ◌∙◌, subst, arith}
use Rattle.std.proofs.lemmas.List.{length-map}
use Rattle.fst_semiring.specs.Cost.{Cost}
use Rattle.fst_semiring.specs.Semiring.{times, Within}
use Rattle.fst_semiring.proofs.Ranges.{Within-more}
use Rattle.fst_trim.specs.Links.{Link}
use Rattle.fst_machine.specs.BreadthFirst.{Has}
use Rattle.fst_search.specs.Hops.{IsHop, IsOpen}
use Rattle.fst_search.specs.Searching.{Looking, Node, Searching, distance_at, most_number, valued_node}
use Rattle.fst_search.proofs.Looking.{LooksAt, link_goes, look_ends, look_skips, look_tries, read_Has, tried_left}
use Rattle.fst_search.proofs.Nodes.{node_read}
use Rattle.fst_search.proofs.Taking.{looking_begins}
use Rattle.fst_search.proofs.searching.look.Goals as goal

pub loop-link-init : goal.loop-link-init
loop-link-init g c =
    let value = g.W.Weight.wide_value in
    let goes = IsHop g.M.AsMachine.value c.args.marks.now c.args.links.now in
    let n = length c.args.links.now in
    let nodes = map (valued_node value) c.args.table.now.nodes.items in
    let members = g.Q.StateQueue.members c.args.queue.now in
    let b = c.requires.begun in
    let size : length c.args.table.now.nodes.items ≡ n = sym (length-map c.args.table.now.nodes.items (valued_node value)) ∙ b.4.marked.size in
    let was = node_read value c.args.table.now.nodes.items c.args.state c.index.result.now (let low = c.requires.state in omega arith) c.index.ensures in
    let distance : distance_at nodes c.args.state ≡ value c.behind-table.inside.distance = ap (λ z. z.distance) was ∙ ap (λ (m : Node g.row.W-Wide.Denot). value m.distance) (sym c.behind-table.view_is) in
    let begins = λ (source : ℕ → Cost) (k takes : ℕ) (s : Searching g.W.Weight.KIND goes source n g.M.Widens.bound k c.args.mark takes (λ q. Has members q ⊎ (q ≡ c.args.state)) nodes members c.args.table.now.later.items c.args.table.now.met.items). subst (λ z. Looking g.W.Weight.KIND goes source n g.M.Widens.bound k c.args.mark (takes + 1) c.args.state z [] nodes members c.args.table.now.later.items c.args.table.now.met.items) distance
    (looking_begins g.W.Weight.KIND goes source n g.M.Widens.bound k c.args.mark takes c.args.state nodes members c.args.table.now.later.items c.args.table.now.met.items c.requires.turn s) in
    record {
      some = (b.0, b.1, b.2, b.3, begins b.0 b.1 b.2 b.4);
      every = begins;
      left = refl;
      below = λ old. old;
    }

pub loop-link-preserved-then-not-is_open : goal.loop-link-preserved-then-not-is_open
loop-link-preserved-then-not-is_open g c =
    let l : Link g.row.V.Denot = record { weight = c.link.inside.weight; next = c.link.inside.next; place = c.link.inside.place } in
    let items = c.links-link-items.result.now in
    let is : l ≡ get_or items c.loop-link.link-index l = subst (λ (z : Link g.row.V.Denot). z ≡ get_or items c.loop-link.link-index z) (sym c.link.view_is) c.link-item.is in
    let shut : IsOpen c.args.marks.now l.next → ⊥ = λ o. (let wrong : false ≡ true = c.if-not-is_open.ensures.1 o in cc) in
    let v = c.loop-link.invariant in
    let step = λ (source : ℕ → Cost) (k takes : ℕ) (looks : LooksAt g.W.Weight.KIND g.M.AsMachine.value c.args.marks.now c.args.links.now source g.M.Widens.bound k c.args.mark takes c.args.state (g.W.Weight.wide_value c.behind-table.inside.distance) items c.loop-link.link-index (map (valued_node g.W.Weight.wide_value) c.loop-link.table.nodes.items) (g.Q.StateQueue.members c.loop-link.queue) c.loop-link.table.later.items c.loop-link.table.met.items). look_skips g.W.Weight.KIND g.M.AsMachine.value c.args.marks.now c.args.links.now source g.M.Widens.bound k c.args.mark takes c.args.state (g.W.Weight.wide_value c.behind-table.inside.distance) items c.links-link-items.ensures c.loop-link.link-index l c.loop-link-test.true is
    (map (valued_node g.W.Weight.wide_value) c.loop-link.table.nodes.items) (g.Q.StateQueue.members c.loop-link.queue) c.loop-link.table.later.items c.loop-link.table.met.items shut looks in
    record {
      some = (v.some.0, v.some.1, v.some.2, v.some.3, step v.some.0 v.some.1 (v.some.2 + 1) v.some.4);
      every = λ source k takes s. step source k (takes + 1) (v.every source k takes s);
      left = v.left;
      below = v.below;
    }

pub product-value-requires-clause-known : goal.product-value-requires-clause-known
product-value-requires-clause-known g c =
    let l : Link g.row.V.Denot = record { weight = c.link.inside.weight; next = c.link.inside.next; place = c.link.inside.place } in
    let items = c.links-link-items.result.now in
    let is : l ≡ get_or items c.loop-link.link-index l = subst (λ (z : Link g.row.V.Denot). z ≡ get_or items c.loop-link.link-index z) (sym c.link.view_is) c.link-item.is in
    c.requires.known c.args.state l (subst (λ (ls : List (Link g.row.V.Denot)). Has ls l) c.links-link-items.ensures (read_Has items c.loop-link.link-index l c.loop-link-test.true is))

pub product-value-requires-clause-wide : goal.product-value-requires-clause-wide
product-value-requires-clause-wide g c =
    let s = c.loop-link.invariant.some in
    Within-more ((s.2 + 1) * most_number) 1329227995784915872903807060280344575 (g.W.Weight.wide_value c.behind-table.inside.distance) (let few = s.3 in omega arith) s.4.number

pub try_value-requires-clause-state : goal.try_value-requires-clause-state
try_value-requires-clause-state g c =
    let l : Link g.row.V.Denot = record { weight = c.link.inside.weight; next = c.link.inside.next; place = c.link.inside.place } in
    let items = c.links-link-items.result.now in
    let is : l ≡ get_or items c.loop-link.link-index l = subst (λ (z : Link g.row.V.Denot). z ≡ get_or items c.loop-link.link-index z) (sym c.link.view_is) c.link-item.is in
    let goes = link_goes g.W.Weight.KIND g.M.AsMachine.value c.args.marks.now c.args.links.now c.loop-link.invariant.some.0 g.M.Widens.bound 0 c.args.mark 0 c.args.state (g.W.Weight.wide_value c.behind-table.inside.distance) items c.links-link-items.ensures c.loop-link.link-index l c.loop-link-test.true is (c.if-not-is_open.ensures.0 refl) in
    let low = c.requires.net.ends _ goes in
    let size = c.loop-link.invariant.some.4.searching.marked.size in
    let same = length-map c.loop-link.table.nodes.items (valued_node g.W.Weight.wide_value) in
    omega arith

pub returns-in_err-try_value-clause-below : goal.returns-in_err-try_value-clause-below
returns-in_err-try_value-clause-below g c =
    let l : Link g.row.V.Denot = record { weight = c.link.inside.weight; next = c.link.inside.next; place = c.link.inside.place } in
    let items = c.links-link-items.result.now in
    let is : l ≡ get_or items c.loop-link.link-index l = subst (λ (z : Link g.row.V.Denot). z ≡ get_or items c.loop-link.link-index z) (sym c.link.view_is) c.link-item.is in
    let goes = link_goes g.W.Weight.KIND g.M.AsMachine.value c.args.marks.now c.args.links.now c.loop-link.invariant.some.0 g.M.Widens.bound 0 c.args.mark 0 c.args.state (g.W.Weight.wide_value c.behind-table.inside.distance) items c.links-link-items.ensures c.loop-link.link-index l c.loop-link-test.true is (c.if-not-is_open.ensures.0 refl) in
    λ old. c.in_err-try_value.ensures.below (length c.args.links.now) (c.requires.net.ends _ goes) (c.loop-link.invariant.below old)

pub loop-link-preserved : goal.loop-link-preserved
loop-link-preserved g c =
    let kind = g.W.Weight.KIND in
    let value = g.W.Weight.wide_value in
    let held = g.M.AsMachine.value in
    let l : Link g.row.V.Denot = record { weight = c.link.inside.weight; next = c.link.inside.next; place = c.link.inside.place } in
    let items = c.links-link-items.result.now in
    let is : l ≡ get_or items c.loop-link.link-index l = subst (λ (z : Link g.row.V.Denot). z ≡ get_or items c.loop-link.link-index z) (sym c.link.view_is) c.link-item.is in
    let open_next : IsOpen c.args.marks.now l.next = c.if-not-is_open.ensures.0 refl in
    let goes = link_goes kind held c.args.marks.now c.args.links.now c.loop-link.invariant.some.0 g.M.Widens.bound 0 c.args.mark 0 c.args.state (value c.behind-table.inside.distance) items c.links-link-items.ensures c.loop-link.link-index l c.loop-link-test.true is open_next in
    let own : Within g.M.Widens.bound (held l.weight) = c.product-value.ensures.range in
    let range : Within most_number (held l.weight) = Within-more g.M.Widens.bound most_number (held l.weight) g.met.M.Widens.few own in
    let product : value c.product-value.result ≡ times kind (held l.weight) (value c.behind-table.inside.distance) = c.product-value.ensures.product in
    let v = c.loop-link.invariant in
    let low : l.next < length (map (valued_node value) c.loop-link.table.nodes.items) = (let next = c.requires.net.ends _ goes in let size = v.some.4.searching.marked.size in omega arith) in
    let tried = c.in_ok-try_value.ensures.tried in
    let step = λ (source : ℕ → Cost) (k takes : ℕ) (looks : LooksAt kind held c.args.marks.now c.args.links.now source g.M.Widens.bound k c.args.mark takes c.args.state (value c.behind-table.inside.distance) items c.loop-link.link-index (map (valued_node value) c.loop-link.table.nodes.items) (g.Q.StateQueue.members c.loop-link.queue) c.loop-link.table.later.items c.loop-link.table.met.items). look_tries kind held c.args.marks.now c.args.links.now source g.M.Widens.bound k c.args.mark takes c.args.state (value c.behind-table.inside.distance) items c.links-link-items.ensures c.loop-link.link-index l c.loop-link-test.true is
    c.requires.net (value c.product-value.result) (map (valued_node value) c.loop-link.table.nodes.items) (map (valued_node value) c.try_value.new.table.nodes.items) (g.Q.StateQueue.members c.loop-link.queue) (g.Q.StateQueue.members c.try_value.new.queue) c.loop-link.table.later.items c.try_value.new.table.later.items c.loop-link.table.met.items c.try_value.new.table.met.items open_next product range own c.product-value.ensures.kind looks tried in
    record {
      some = (v.some.0, v.some.1, v.some.2, v.some.3, step v.some.0 v.some.1 (v.some.2 + 1) v.some.4);
      every = λ source k takes s. step source k (takes + 1) (v.every source k takes s);
      left = tried_left c.args.mark l.next (value c.product-value.result) _ _ _ _ _ _ _ _ _ low tried ∙ v.left;
      below = λ old. c.in_ok-try_value.ensures.below (length c.args.links.now) (c.requires.net.ends _ goes) (v.below old);
    }

pub returns-clause-looked : goal.returns-clause-looked
returns-clause-looked g c = λ source k takes s.
    look_ends g.W.Weight.KIND g.M.AsMachine.value c.args.marks.now c.args.links.now source g.M.Widens.bound k c.args.mark (takes + 1) c.args.state (g.W.Weight.wide_value c.behind-table.inside.distance) c.links-link-items.result.now c.links-link-items.ensures c.loop-link.link-index
    (map (valued_node g.W.Weight.wide_value) c.loop-link.table.nodes.items) (g.Q.StateQueue.members c.loop-link.queue) c.loop-link.table.later.items c.loop-link.table.met.items c.loop-link-test.false (c.loop-link.invariant.every source k takes s)
