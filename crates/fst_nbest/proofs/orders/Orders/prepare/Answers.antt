use Rattle.std.proofs.Common.{◌≡◌, ◌<◌, [], List, ℕ, Vec, Global, length, map, set, sym, subst, ap, ◌∙◌}
use Rattle.fst_nbest.specs.Entries.{AreOrders, OrdersGrow, list_at}
use Rattle.fst_nbest.proofs.Ranks.{some_move}
use Rattle.fst_nbest.proofs.Sorted.{none_yet, some_there, sorted_grow, sorted_orders, sorted_there}
use Rattle.fst_nbest.proofs.orders.Orders.prepare.Goals as goal

abbrev items_of : Vec ℕ Global → List ℕ
items_of v = v.items

pub returns-then-of-gt0-clause-there : goal.returns-then-of-gt0-clause-there
returns-then-of-gt0-clause-there g c = some_there (list_at c.args.self.now c.args.name) (length c.of.result.now) (ap length c.of.ensures) c.if-of-gt0.true

pub returns-clause-orders : goal.returns-clause-orders
returns-clause-orders g c =
    let s = g.S.System in
    let system = c.args.system.now in
    sorted_orders s.kind (s.words system) (s.dist system) (s.count system) items_of c.self.inside.lists.items c.args.name c.in_ok-moves.moves
    (subst (λ (l : List (List ℕ)). c.args.name < length l) (sym c.self.view_is) c.requires.name) c.in_ok-moves.ensures
    (subst (λ (l : List (List ℕ)). AreOrders s.kind (s.words system) (s.dist system) (s.count system) l) (sym c.self.view_is) c.requires.orders)

pub returns-clause-there : goal.returns-clause-there
returns-clause-there g c =
    let s = g.S.System in
    let system = c.args.system.now in
    sorted_there s.kind (s.words system) (s.dist system) (s.count system) items_of c.self.inside.lists.items c.args.name c.in_ok-moves.moves
    (subst (λ (l : List (List ℕ)). c.args.name < length l) (sym c.self.view_is) c.requires.name)
    (some_move s.kind (s.words system) (s.dist system) (s.count system) c.name_count-names.ensures.cancel c.name_count-names.ensures.good c.args.name _ (s.dist system c.args.name) (s.count system c.args.name) c.requires.live c.in_ok-moves.ensures)

pub returns-clause-grow : goal.returns-clause-grow
returns-clause-grow g c =
    let s = g.S.System in
    let system = c.args.system.now in
    let none : list_at c.args.self.now c.args.name ≡ [] = none_yet (list_at c.args.self.now c.args.name) (length c.of.result.now) (ap length c.of.ensures) c.if-of-gt0.false in
    subst (λ (l : List (List ℕ)). OrdersGrow l (map items_of (set c.self.inside.lists.items c.args.name c.in_ok-moves.moves))) c.self.view_is
    (sorted_grow s.kind (s.words system) (s.dist system) (s.count system) items_of c.self.inside.lists.items c.args.name c.in_ok-moves.moves
    (subst (λ (l : List (List ℕ)). c.args.name < length l) (sym c.self.view_is) c.requires.name) (ap (λ (l : List (List ℕ)). list_at l c.args.name) c.self.view_is ∙ none))
