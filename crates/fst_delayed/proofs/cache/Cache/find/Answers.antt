use Rattle.std.proofs.Common.{◌≡◌, ◌<◌, ◌≤◌, rules, Some, length, slice_get, sym, ap, ◌∙◌, subst, arith}
use Rattle.std.proofs.lemmas.Option.{slice_get-get_or}
use Rattle.fst_machine.specs.BreadthFirst.{Has}
use Rattle.fst_delayed.specs.Caches.{keys}
use Rattle.fst_delayed.proofs.Held.{behind, found, missed}
use Rattle.fst_delayed.proofs.cache.Cache.find.Goals as goal

pub returns-in_default-clause-arcs : goal.returns-in_default-clause-arcs
returns-in_default-clause-arcs g c = subst (λ es. Has (keys es) c.args.key → ⊥) c.self.view_is (missed (λ (e : _). e.arcs.items) c.self.inside.names c.self.inside.entries.items c.args.key c.self.invariant c.in_default.ensures)

pub returns-then-place-len-clause-arcs : goal.returns-then-place-len-clause-arcs
returns-then-place-len-clause-arcs g c =
    let size : c.len.result ≡ length c.self.inside.entries.items = search rules in
    let high : length c.self.inside.entries.items ≤ c.in-Some.place = omega (arith, size) in
    subst (λ es. Has (keys es) c.args.key → ⊥) c.self.view_is (behind (λ (e : _). e.arcs.items) c.self.inside.names c.self.inside.entries.items c.args.key c.in-Some.place c.self.invariant c.in-Some.ensures high)

pub returns-clause-arcs : goal.returns-clause-arcs
returns-clause-arcs g c =
    let entries = c.self.inside.entries.items in
    let x = c.index-entry.result.now in
    let size : c.len.result ≡ length entries = search rules in
    let low : c.in-Some.place < length entries = omega (arith, size) in
    let there : slice_get entries c.in-Some.place ≡ Some x = slice_get-get_or entries c.in-Some.place x low ∙ ap Some (sym c.index-entry.ensures) in
    let held : Has c.args.self.now (c.args.key, x.arcs.items) = subst (λ es. Has es (c.args.key, x.arcs.items)) c.self.view_is (found (λ (e : _). e.arcs.items) c.self.inside.names entries c.in-Some.place c.args.key x c.in-Some.ensures there) in
    rw c.as_slice.ensures.value held
