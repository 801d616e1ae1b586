use Rattle.std.proofs.Common.{◌≡◌, ◌+◌, ◌-◌, ◌<◌, ◌++◌, Bool, false, ℕ, List, length, map, ap, ap₂, ◌∙◌, subst, arith}
use Rattle.std.proofs.lemmas.Bool.{lt-ltb}
use Rattle.fst_semiring.specs.Cost.{best}
use Rattle.fst_semiring.specs.Semiring.{one_of}
use Rattle.fst_machine.specs.Machine.{valued}
use Rattle.fst_machine.specs.Graph.{graph_of}
use Rattle.fst_machine.specs.PathOrder.{WeightedPath}
use Rattle.fst_machine.specs.Paths.{places}
use Rattle.fst_machine.specs.Steps.{written}
use Rattle.fst_nbest.specs.Classes.{name_at, reached_by}
use Rattle.fst_nbest.specs.Counts.{count_of, uncounted}
use Rattle.fst_nbest.specs.Totals.{AreFirstOf}
use Rattle.fst_nbest.proofs.ClassLists.{adds_nothing, adds_words, class_traceable, not_cancelling}
use Rattle.fst_nbest.proofs.ClassWords.{class_ahead}
use Rattle.fst_nbest.proofs.Counted.{count_read}
use Rattle.fst_nbest.proofs.by_class.list_class.Given.{Over}
use Rattle.fst_nbest.proofs.by_class.list_class.Goals.{After-named-name, After-index}
use Rattle.fst_nbest.proofs.by_class.list_class.Goals as goal

-- the name of the start in the class of the total
is_named : (g : Over) (c : After-named-name g) → c.named-name.result ≡ name_at (length (g.M.AsMachine.machine c.args.fst.now).states) c.args.start (reached_by (g.W.Weight.wide_value c.args.total) false best)
is_named g c =
    let total = g.W.Weight.wide_value c.args.total in
    let one : g.W.Weight.wide_value c.widen.result ≡ best = c.widen.ensures.same ∙ (c.one.ensures ∙ ap one_of (not_cancelling g.W.Weight.KIND c.requires.kind)) in
    c.named-name.ensures.name ∙ ap₂ (λ (n : ℕ) (b : Bool). name_at n c.args.start b) c.state_count-states.ensures.count (c.is_reached_by.ensures ∙ ap (reached_by total false) one)

-- it lies below, and its count is read
named_low : (g : Over) (c : After-named-name g) → c.named-name.result < length (g.M.AsMachine.machine c.args.fst.now).states + length (g.M.AsMachine.machine c.args.fst.now).states
named_low g c = omega (arith, c.named-name.ensures.low, c.state_count-states.ensures.count)

counted : (g : Over) (c : After-index g) → count_of c.in_ok-counts.counts.items c.named-name.result ≡ c.index.result.now
counted g c =
    let low : c.named-name.result < length c.in_ok-counts.counts.items = omega (arith, c.named-name.ensures.low, c.state_count-states.ensures.count, c.in_ok-counts.ensures.size) in
    count_read c.in_ok-counts.counts.items c.named-name.result c.index.result.now low c.index.ensures

pub returns-then-index-ge-UNCOUNTED-clause-listed : goal.returns-then-index-ge-UNCOUNTED-clause-listed
returns-then-index-ge-UNCOUNTED-clause-listed g c =
    let m = g.M.AsMachine.machine c.args.fst.now in
    let ready = c.in_ok-counts.ensures in
    let read = counted g (goal.at.returns-then-index-ge-UNCOUNTED-clause-listed g c).After-index in
    adds_nothing g.W.Weight.KIND c.requires.kind g.M.AsMachine.value m c.state_count-states.ensures.good (g.W.Weight.wide_value c.args.total) ready.class.solid c.in_ok-counts.counts.items ready.least c.args.start c.requires.start c.requires.low (c.args.n - length c.args.paths.now) c.named-name.result (map written c.args.paths.now)
    (is_named g (goal.at.returns-then-index-ge-UNCOUNTED-clause-listed g c).After-named-name) (omega (arith, read, c.if-index-ge-UNCOUNTED.true))

pub first_words-requires-clause-live : goal.first_words-requires-clause-live
first_words-requires-clause-live g c =
    let counts = c.in_ok-counts.counts.items in
    let ready = c.in_ok-counts.ensures in
    let name = c.named-name.result in
    let read = counted g (goal.at.first_words-requires-clause-live g c).After-index in
    class_ahead g.M.AsMachine.value (g.M.AsMachine.machine c.args.fst.now) c.state_count-states.ensures.good (g.W.Weight.wide_value c.args.total) ready.class.solid counts ready.least name (named_low g (goal.at.first_words-requires-clause-live g c).After-named-name)
    (lt-ltb (count_of counts name) uncounted (omega (arith, read, c.if-index-ge-UNCOUNTED.false)))

pub put_traced-requires-clause-words : goal.put_traced-requires-clause-words
put_traced-requires-clause-words g c =
    let ready = c.in_ok-counts.ensures in
    class_traceable g.W.Weight.KIND c.requires.kind g.M.AsMachine.value (g.M.AsMachine.machine c.args.fst.now) c.state_count-states.ensures.good (g.W.Weight.wide_value c.args.total) ready.class.solid c.in_ok-counts.counts.items ready.least c.args.start c.requires.start c.requires.low (c.args.n - c.len.result) c.named-name.result
    (is_named g (goal.at.put_traced-requires-clause-words g c).After-named-name) c.in_ok-words.words c.in_ok-words.ensures.first

pub returns-clause-listed : goal.returns-clause-listed
returns-clause-listed g c =
    let m = g.M.AsMachine.machine c.args.fst.now in
    let graph = graph_of (valued g.M.AsMachine.value m) in
    let total = g.W.Weight.wide_value c.args.total in
    let ready = c.in_ok-counts.ensures in
    let is = is_named g (goal.at.returns-clause-listed g c).After-named-name in
    subst (λ (k : ℕ). (more : List (WeightedPath ℕ)) × AreFirstOf g.W.Weight.KIND graph total (c.args.n - k) more × (map written c.put_traced.new.paths ≡ map written c.args.paths.now ++ map (λ (a : WeightedPath ℕ). places a.path) more)) c.len.ensures
    (adds_words g.W.Weight.KIND c.requires.kind g.M.AsMachine.value m c.state_count-states.ensures.good total ready.class.solid c.in_ok-counts.counts.items ready.least c.args.start c.requires.start c.requires.low (c.args.n - c.len.result) c.named-name.result is c.in_ok-words.words c.in_ok-words.ensures.first
    (map written c.args.paths.now) (map written c.put_traced.new.paths) c.in_ok-put_traced.ensures)
