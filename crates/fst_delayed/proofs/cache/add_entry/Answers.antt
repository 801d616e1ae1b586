use Rattle.std.proofs.Common.{rules, ◌≡◌, ◌∷◌, ◌++◌, [], length, take, ap, ◌∙◌}
use Rattle.fst_delayed.proofs.Held.{added_all, kept_same, on_err}
use Rattle.fst_delayed.proofs.cache.add_entry.Goals as goal

pub returns-in_err-reserve-clause-err : goal.returns-in_err-reserve-clause-err
returns-in_err-reserve-clause-err g c =
    let size : c.len.result ≡ length c.args.entries.now.items = search rules in
    let first : c.keep_first.new.names ≡ take (length c.args.entries.now.items) c.args.names.now = c.in_ok-keep_first.ensures.kept ∙ ap (λ k. take k c.args.names.now) size in
    on_err _ (kept_same (λ (e : _). e.arcs.items) c.args.names.now c.keep_first.new.names c.args.entries.now.items c.reserve.new.self.items c.requires.held first c.reserve.ensures.items).0

pub returns-in_err-reserve-clause-held : goal.returns-in_err-reserve-clause-held
returns-in_err-reserve-clause-held g c =
    let size : c.len.result ≡ length c.args.entries.now.items = search rules in
    let first : c.keep_first.new.names ≡ take (length c.args.entries.now.items) c.args.names.now = c.in_ok-keep_first.ensures.kept ∙ ap (λ k. take k c.args.names.now) size in
    (kept_same (λ (e : _). e.arcs.items) c.args.names.now c.keep_first.new.names c.args.entries.now.items c.reserve.new.self.items c.requires.held first c.reserve.ensures.items).1

pub returns-in_err-put-clause-err : goal.returns-in_err-put-clause-err
returns-in_err-put-clause-err g c =
    let size : c.len.result ≡ length c.args.entries.now.items = search rules in
    let first : c.put.new.self ≡ take (length c.args.entries.now.items) c.args.names.now = c.in_err-put.ensures.err ∙ (c.in_ok-keep_first.ensures.kept ∙ ap (λ k. take k c.args.names.now) size) in
    on_err _ (kept_same (λ (e : _). e.arcs.items) c.args.names.now c.put.new.self c.args.entries.now.items c.reserve.new.self.items c.requires.held first c.reserve.ensures.items).0

pub returns-in_err-put-clause-held : goal.returns-in_err-put-clause-held
returns-in_err-put-clause-held g c =
    let size : c.len.result ≡ length c.args.entries.now.items = search rules in
    let first : c.put.new.self ≡ take (length c.args.entries.now.items) c.args.names.now = c.in_err-put.ensures.err ∙ (c.in_ok-keep_first.ensures.kept ∙ ap (λ k. take k c.args.names.now) size) in
    (kept_same (λ (e : _). e.arcs.items) c.args.names.now c.put.new.self c.args.entries.now.items c.reserve.new.self.items c.requires.held first c.reserve.ensures.items).1

pub returns-clause-added : goal.returns-clause-added
returns-clause-added g c =
    let size : c.len.result ≡ length c.args.entries.now.items = search rules in
    let first : c.keep_first.new.names ≡ take (length c.args.entries.now.items) c.args.names.now = c.in_ok-keep_first.ensures.kept ∙ ap (λ k. take k c.args.names.now) size in
    (added_all (λ (e : _). e.arcs.items) c.args.names.now c.keep_first.new.names c.put.new.self c.args.entries.now.items c.push_reserved.new.self.items c.args.key c.args.kept c.requires.held c.requires.absent first c.in_ok-put.ensures.keys (c.push_reserved.ensures.items ∙ ap (λ es. es ++ c.args.kept ∷ []) c.reserve.ensures.items)).0

pub returns-clause-held : goal.returns-clause-held
returns-clause-held g c =
    let size : c.len.result ≡ length c.args.entries.now.items = search rules in
    let first : c.keep_first.new.names ≡ take (length c.args.entries.now.items) c.args.names.now = c.in_ok-keep_first.ensures.kept ∙ ap (λ k. take k c.args.names.now) size in
    (added_all (λ (e : _). e.arcs.items) c.args.names.now c.keep_first.new.names c.put.new.self c.args.entries.now.items c.push_reserved.new.self.items c.args.key c.args.kept c.requires.held c.requires.absent first c.in_ok-put.ensures.keys (c.push_reserved.ensures.items ∙ ap (λ es. es ++ c.args.kept ∷ []) c.reserve.ensures.items)).1
