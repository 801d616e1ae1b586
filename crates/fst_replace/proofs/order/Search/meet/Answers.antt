use Rattle.std.proofs.Common.{◌≡◌, ◌<◌, ℕ, List, [], ◌∷◌, ◌++◌, length, get_or, set, true, false, refl, sym, ◌∙◌, subst, arith}
use Rattle.std.proofs.lemmas.Option.{get_or_from_slice_get, slice_get_read}
use Rattle.fst_replace.specs.declared.order.Mark.{Mark}
use Rattle.fst_replace.specs.declared.order.Mark.TheVariants.{New, Open}
use Rattle.fst_replace.specs.Walks.{IsSearch, steps_left}
use Rattle.fst_replace.proofs.Searching.{enter_falls, search_enters, search_turns}
use Rattle.fst_replace.proofs.order.Search.meet.Goals as goal

-- a mark that was read
reads : (marks : List Mark) (i : ℕ) (m : Mark) → i < length marks → m ≡ get_or marks i m → get_or marks i New ≡ m
reads marks i m low e = get_or_from_slice_get marks i m New (slice_get_read marks (length marks) i m refl low e)

pub index-requires : goal.index-requires
index-requires c =
    let low = c.requires.closed c.args.rule c.args.called c.requires.called in
    omega (arith, low, c.requires.search.marks_size)

pub enter-requires : goal.enter-requires
enter-requires c =
    let low = c.requires.closed c.args.rule c.args.called c.requires.called in
    omega (arith, low, c.requires.search.marks_size)

pub returns-in-Open-clause-recursive : goal.returns-in-Open-clause-recursive
returns-in-Open-clause-recursive c on =
    let s = c.args.self.now in
    (c.args.called, search_turns c.args.calls.now s.marks.items s.cursors.items s.stack.items s.order.items c.requires.search c.requires.top.0 c.args.rule c.requires.top.1 c.args.called c.requires.called (reads s.marks.items c.args.called c.index.result.now (let low = c.requires.closed c.args.rule c.args.called c.requires.called in omega (arith, low, c.requires.search.marks_size)) c.index.ensures ∙ c.in-Open.is))

pub returns-in_ok-enter-in_default : goal.returns-in_ok-enter-in_default
returns-in_ok-enter-in_default c =
    let s = c.args.self.now in
    let n = c.enter.new.self in
    let f = c.in_ok-enter-in_default.ensures in
    let low = c.requires.closed c.args.rule c.args.called c.requires.called in
    let more = search_enters c.args.calls.now s.marks.items s.cursors.items s.stack.items s.order.items c.requires.search c.requires.top.0 c.args.rule c.requires.top.1 c.args.called low c.requires.called in
    let falls = enter_falls c.args.calls.now s.marks.items s.cursors.items s.stack.items s.order.items c.requires.search c.requires.top.0 c.args.rule c.requires.top.1 c.args.called n.stack.items low (λ e. c.in_default.not-Open (sym (reads s.marks.items c.args.called c.index.result.now (omega (arith, low, c.requires.search.marks_size)) c.index.ensures) ∙ e)) c.requires.waits f.stack in
    record {
      search = λ on.
          subst (λ (ms : List Mark). IsSearch c.args.calls.now ms n.cursors.items n.stack.items n.order.items) (sym f.marks)
          (subst (λ (cs : List ℕ). IsSearch c.args.calls.now (set s.marks.items c.args.called Open) cs n.stack.items n.order.items) (sym f.cursors)
          (subst (λ (ss : List ℕ). IsSearch c.args.calls.now (set s.marks.items c.args.called Open) s.cursors.items ss n.order.items) (sym f.stack)
          (subst (λ (os : List ℕ). IsSearch c.args.calls.now (set s.marks.items c.args.called Open) s.cursors.items (s.stack.items ++ c.args.called ∷ []) os) (sym f.order) more)));
      falls = λ on. subst (λ (ms : List Mark). steps_left ms n.stack.items < steps_left s.marks.items s.stack.items) (sym f.marks) falls;
      recursive = λ (wrong : true ≡ false). absurd (cc);
    }
