use Rattle.std.proofs.Common.{rules, ◌≡◌, length, sym, ap, ◌∙◌, subst}
use Rattle.fst_machine.specs.BreadthFirst.{Apart}
use Rattle.fst_delayed.specs.Caches.{keys}
use Rattle.fst_delayed.proofs.Held.{entered_apart, entered_length}
use Rattle.fst_delayed.proofs.cache.Cache.len.Goals as goal

pub returns-clause-len : goal.returns-clause-len
returns-clause-len g c =
    let size : c.len.result ≡ length c.self.inside.entries.items = search rules in
    size ∙ (sym (entered_length (λ (e : _). e.arcs.items) c.self.inside.names c.self.inside.entries.items c.self.invariant.few) ∙ ap length c.self.view_is)

pub returns-clause-apart : goal.returns-clause-apart
returns-clause-apart g c = subst (λ es. Apart (keys es)) c.self.view_is (entered_apart (λ (e : _). e.arcs.items) c.self.inside.names c.self.inside.entries.items c.self.invariant)
