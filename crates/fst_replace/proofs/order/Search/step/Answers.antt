use Rattle.std.proofs.Common.{◌≡◌, ◌≢◌, ◌<◌, ℕ, List, [], ◌∷◌, ◌++◌, length, get_or, set, sym, ap, ◌∙◌, subst, arith}
use Rattle.std.proofs.lemmas.Option.{slice_get-get_or}
use Rattle.fst_machine.specs.BreadthFirst.{Has}
use Rattle.fst_machine.proofs.Elements.{at_Has}
use Rattle.fst_replace.specs.declared.order.Mark.{Mark}
use Rattle.fst_replace.specs.declared.order.Mark.TheVariants.{New, Done}
use Rattle.fst_replace.specs.Walks.{IsSearch, at_place, steps_left}
use Rattle.fst_replace.proofs.Searching.{finish_falls, known, rule_within, search_finishes}
use Rattle.fst_replace.proofs.order.Search.step.Goals as goal

pub look-at-requires-clause-rule : goal.look-at-requires-clause-rule
look-at-requires-clause-rule c =
    let s = c.args.self.now in
    rule_within c.args.calls.now s.marks.items s.cursors.items s.stack.items s.order.items c.requires.search c.requires.top.0 c.args.rule c.requires.top.1

pub places_at-places-requires : goal.places_at-places-requires
places_at-places-requires c =
    let s = c.args.self.now in
    rule_within c.args.calls.now s.marks.items s.cursors.items s.stack.items s.order.items c.requires.search c.requires.top.0 c.args.rule c.requires.top.1

pub finish-requires : goal.finish-requires
finish-requires c =
    let s = c.args.self.now in
    let low = rule_within c.args.calls.now s.marks.items s.cursors.items s.stack.items s.order.items c.requires.search c.requires.top.0 c.args.rule c.requires.top.1 in
    omega (arith, low, c.look-at.ensures.search.marks_size)

pub returns-then-at-places-clause-search : goal.returns-then-at-places-clause-search
returns-then-at-places-clause-search c on =
    let calls = c.args.calls.now in
    let rule = c.args.rule in
    let s = c.look-at.new.self in
    let f = c.in_ok-finish.ensures in
    let front = c.requires.top.0 in
    let top : s.stack.items ≡ front ++ rule ∷ [] = c.look-at.ensures.stack ∙ c.requires.top.1 in
    let size = ap length c.places_at-places.ensures in
    let all = known calls s.marks.items s.cursors.items s.stack.items s.order.items c.look-at.ensures.search rule c.look-at.result c.look-at.ensures.done (omega (arith, size)) in
    let done = search_finishes calls s.marks.items s.cursors.items s.stack.items s.order.items c.look-at.ensures.search front rule top all in
    subst (λ (ms : List Mark). IsSearch calls ms c.finish.new.self.cursors.items c.finish.new.self.stack.items c.finish.new.self.order.items) (sym f.marks)
    (subst (λ (cs : List ℕ). IsSearch calls (set s.marks.items rule Done) cs c.finish.new.self.stack.items c.finish.new.self.order.items) (sym f.cursors)
    (subst (λ (ss : List ℕ). IsSearch calls (set s.marks.items rule Done) s.cursors.items ss c.finish.new.self.order.items) (sym (f.stack front top))
    (subst (λ (os : List ℕ). IsSearch calls (set s.marks.items rule Done) s.cursors.items front os) (sym f.order) done)))

pub returns-then-at-places-clause-falls : goal.returns-then-at-places-clause-falls
returns-then-at-places-clause-falls c on =
    let s = c.args.self.now in
    let l = c.look-at.new.self in
    let f = c.in_ok-finish.ensures in
    let front = c.requires.top.0 in
    let top : l.stack.items ≡ front ++ c.args.rule ∷ [] = c.look-at.ensures.stack ∙ c.requires.top.1 in
    let falls = finish_falls c.args.calls.now s.marks.items s.cursors.items s.stack.items s.order.items c.requires.search front c.args.rule c.requires.top.1 c.finish.new.self.stack.items (f.stack front top) in
    subst (λ (ms : List Mark). steps_left ms c.finish.new.self.stack.items < steps_left s.marks.items s.stack.items) (sym (f.marks ∙ ap (λ (ms : List Mark). set ms c.args.rule Done) c.look-at.ensures.marks)) falls

pub meet-requires-clause-called : goal.meet-requires-clause-called
meet-requires-clause-called c =
    let places = at_place c.args.calls.now c.args.rule in
    let size = ap length c.places_at-places.ensures in
    let low : c.look-at.result < length places = omega (arith, size) in
    subst (λ (zs : List ℕ). Has places (get_or zs c.look-at.result 0)) (sym c.places_at-places.ensures) (at_Has places c.look-at.result (get_or places c.look-at.result 0) (slice_get-get_or places c.look-at.result 0 low))

pub meet-requires-clause-waits : goal.meet-requires-clause-waits
meet-requires-clause-waits c =
    let places = at_place c.args.calls.now c.args.rule in
    let size = ap length c.places_at-places.ensures in
    let low : c.look-at.result < length places = omega (arith, size) in
    subst (λ (zs : List ℕ). get_or c.look-at.new.self.marks.items (get_or zs c.look-at.result 0) New ≢ Done) (sym c.places_at-places.ensures) (c.look-at.ensures.waits (get_or places c.look-at.result 0) (slice_get-get_or places c.look-at.result 0 low))
