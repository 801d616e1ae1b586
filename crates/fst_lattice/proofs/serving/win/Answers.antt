use Rattle.std.proofs.Common.{ℕ, ◌++◌, ◌∷◌, [], ap, ◌∙◌, subst}
use Rattle.fst_machine.proofs.Elements.{Has-append_right}
use Rattle.fst_claims.specs.Passes.{found, won}
use Rattle.fst_delayed.specs.Caches.{keys}
use Rattle.fst_delayed.specs.Graphs.{delayed_graph}
use Rattle.fst_lattice.specs.Serving.{IsBlocked}
use Rattle.fst_lattice.proofs.Own.{own_more}
use Rattle.fst_lattice.proofs.serving.win.Goals as goal

pub add-requires : goal.add-requires
add-requires g c = record { absent = λ h. c.requires.absent (Has-append_right (keys c.args.cache.now) (keys c.args.own.now) c.args.key h) }

pub returns-clause-own : goal.returns-clause-own
returns-clause-own g c =
    let graph = delayed_graph g.W.Weight.KIND g.W.Weight.value c.args.delayed.now in
    let w = c.if-not-wins.ensures.won in
    own_more g.W.Weight.wide_value graph c.args.cache.now c.args.own.now c.add.new.self (won c.args.pass.now) (won c.wins.new.pass) c.args.key c.in_ok-arcs.arcs.items c.args.claims.now.places c.requires.own c.requires.absent c.in_ok-arcs.ensures.arcs
    c.in_ok-add.ensures.added (w.0 ∙ ap (λ (x : ℕ). won c.args.pass.now ++ x ∷ []) c.code.ensures.code) w.2 c.places-places.ensures.range.1

pub returns-clause-won : goal.returns-clause-won
returns-clause-won g c = let w = c.if-not-wins.ensures.won in (c.in_ok-arcs.arcs.items, c.in_ok-add.ensures.added, subst (λ (x : ℕ). IsBlocked c.args.claims.now.places (found c.args.pass.now) x → ⊥) c.code.ensures.code w.1)
