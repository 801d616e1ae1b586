use Rattle.std.proofs.Common.{rules, ◌≡◌, length, take, refl, sym, ap, ◌∙◌, subst}
use Rattle.fst_machine.specs.BreadthFirst.{Apart}
use Rattle.fst_delayed.proofs.Fronts.{Apart-take}
use Rattle.fst_delayed.proofs.Held.{far_names, joined_all, left_same, on_err}
use Rattle.fst_delayed.proofs.cache.join_entries.Goals as goal

pub put_names-requires-clause-apart : goal.put_names-requires-clause-apart
put_names-requires-clause-apart g c =
    let size : c.len.result ≡ length c.args.entries.now.items = search rules in
    let first : c.keep_first.new.names ≡ take (length c.args.entries.now.items) c.args.names.now = c.in_ok-keep_first.ensures.kept ∙ ap (λ k. take k c.args.names.now) size in
    subst Apart (sym first) (Apart-take c.args.names.now (length c.args.entries.now.items) c.requires.held.apart)

pub put_names-requires-clause-far : goal.put_names-requires-clause-far
put_names-requires-clause-far g c =
    let size : c.len.result ≡ length c.args.entries.now.items = search rules in
    let first : c.keep_first.new.names ≡ take (length c.args.entries.now.items) c.args.names.now = c.in_ok-keep_first.ensures.kept ∙ ap (λ k. take k c.args.names.now) size in
    let size-2 : c.len-2.result ≡ length c.args.others.now.items = search rules in
    far_names (λ (e : _). e.arcs.items) c.args.names.now c.keep_first.new.names c.args.more.now c.args.entries.now.items c.args.others.now.items c.len-2.result c.requires.held c.requires.others c.requires.apart first size-2

pub returns-in_err-put_names-clause-err : goal.returns-in_err-put_names-clause-err
returns-in_err-put_names-clause-err g c =
    let size : c.len.result ≡ length c.args.entries.now.items = search rules in
    let first : c.keep_first.new.names ≡ take (length c.args.entries.now.items) c.args.names.now = c.in_ok-keep_first.ensures.kept ∙ ap (λ k. take k c.args.names.now) size in
    let front = c.put_names.ensures.front in
    on_err _ (left_same (λ (e : _). e.arcs.items) c.args.names.now c.keep_first.new.names c.put_names.new.names (take front.0 c.args.more.now) c.args.entries.now.items c.args.entries.now.items c.requires.held first front.1 c.put_names.ensures.apart refl).0

pub returns-in_err-append-clause-err : goal.returns-in_err-append-clause-err
returns-in_err-append-clause-err g c =
    let size : c.len.result ≡ length c.args.entries.now.items = search rules in
    let first : c.keep_first.new.names ≡ take (length c.args.entries.now.items) c.args.names.now = c.in_ok-keep_first.ensures.kept ∙ ap (λ k. take k c.args.names.now) size in
    let front = c.put_names.ensures.front in
    on_err _ (left_same (λ (e : _). e.arcs.items) c.args.names.now c.keep_first.new.names c.put_names.new.names (take front.0 c.args.more.now) c.args.entries.now.items c.append.new.self.items c.requires.held first front.1 c.put_names.ensures.apart c.in_err-append.ensures.items).0

pub returns-clause-added : goal.returns-clause-added
returns-clause-added g c =
    let size : c.len.result ≡ length c.args.entries.now.items = search rules in
    let first : c.keep_first.new.names ≡ take (length c.args.entries.now.items) c.args.names.now = c.in_ok-keep_first.ensures.kept ∙ ap (λ k. take k c.args.names.now) size in
    let size-2 : c.len-2.result ≡ length c.args.others.now.items = search rules in
    (joined_all (λ (e : _). e.arcs.items) c.args.names.now c.keep_first.new.names c.put_names.new.names c.args.more.now c.args.entries.now.items c.args.others.now.items c.append.new.self.items c.len-2.result c.requires.held c.requires.others first size-2 c.in_ok-put_names.ensures.added c.put_names.ensures.apart c.in_ok-append.ensures.items).0
