use Rattle.std.proofs.Common.{◌<◌, ◌+◌, List, ℕ, length, get_or, subst, refl, ap, ◌∙◌}
use Rattle.fst_nbest.specs.Words.{ahead_of}
use Rattle.fst_nbest.specs.Entries.{list_at}
use Rattle.fst_nbest.proofs.Sorted.{left_entry, move_at, not_none}
use Rattle.fst_nbest.proofs.walking.leave.Goals as goal

pub look_ahead-ahead-requires-clause-turn : goal.look_ahead-ahead-requires-clause-turn
look_ahead-ahead-requires-clause-turn g c =
    let s = g.S.System in
    let system = c.args.system.now in
    let inside : c.args.core.rank + 1 < length (list_at c.args.orders.now c.args.core.name) = subst (λ (l : List ℕ). c.args.core.rank + 1 < length l) c.of-moves.ensures c.if-rank-moves.false in
    let there = move_at s.kind (s.words system) (s.dist system) (s.count system) s.value s.bounded c.args.orders.now c.requires.orders c.args.core.name (c.args.core.rank + 1) inside in
    not_none _ there.0 (ap (λ (l : List ℕ). ahead_of s.kind (s.words system) (s.dist system) (s.count system) c.args.core.name (get_or l (c.args.core.rank + 1) 0)) c.of-moves.ensures ∙ there.1)

pub returns : goal.returns
returns g c =
    let s = g.S.System in
    let system = c.args.system.now in
    left_entry s.kind (s.words system) (s.dist system) (s.count system) s.value s.bounded c.args.orders.now c.requires.orders c.args.path c.args.core _ c.args.left.now.items c.push.new.self.items c.of-moves.result.now c.look_ahead-ahead.result.1 c.look_ahead-ahead.result.0
    c.requires.core c.of-moves.ensures c.if-rank-moves.false c.look_ahead-ahead.ensures.ahead refl c.in_ok-push.ensures.items
