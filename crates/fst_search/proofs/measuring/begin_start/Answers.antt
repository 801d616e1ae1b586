use Rattle.std.proofs.Common.{ℕ, List, [], length, map, sym, ◌∙◌, subst}
use Rattle.fst_semiring.specs.Semiring.{Within}
use Rattle.fst_semiring.proofs.Ranges.{Within-one}
use Rattle.fst_machine.specs.BreadthFirst.{Has}
use Rattle.fst_search.specs.Beginning.{IsBegun}
use Rattle.fst_search.specs.Searching.{valued_node}
use Rattle.fst_search.proofs.Begun.{blank_begun}
use Rattle.fst_search.proofs.measuring.begin_start.Goals as goal

pub returns-in_err-begin_at-clause-below : goal.returns-in_err-begin_at-clause-below
returns-in_err-begin_at-clause-below g c = c.in_err-begin_at.ensures.below (length (g.M.AsMachine.machine c.args.fst.now).states) c.in-Some.ensures.state (λ q has. absurd (subst (λ (ms : List ℕ). Has ms q) c.requires.empty has))

pub returns-in_ok-begin_at-clause-below : goal.returns-in_ok-begin_at-clause-below
returns-in_ok-begin_at-clause-below g c = c.in_ok-begin_at.ensures.below (length (g.M.AsMachine.machine c.args.fst.now).states) c.in-Some.ensures.state (λ q has. absurd (subst (λ (ms : List ℕ). Has ms q) c.requires.empty has))

pub returns-in_ok-begin_at-clause-begun : goal.returns-in_ok-begin_at-clause-begun
returns-in_ok-begin_at-clause-begun g c =
    let kind = g.W.Weight.KIND in
    let n = length (g.M.AsMachine.machine c.args.fst.now).states in
    let bound = g.M.Widens.bound in
    let nodes = map (valued_node g.W.Weight.wide_value) c.args.table.now.nodes.items in
    let one : Within bound (g.W.Weight.wide_value c.widen.result) = subst (Within bound) (sym (c.widen.ensures.same ∙ c.one.ensures)) (Within-one bound kind) in
    let blank = blank_begun kind n bound nodes c.requires.blank in
    let begun = subst (λ (ms : List ℕ). IsBegun kind n bound nodes (g.Q.StateQueue.members c.args.queue.now) ms) (sym c.requires.met) (subst (λ (ms : List ℕ). IsBegun kind n bound nodes ms []) (sym c.requires.empty) blank) in
    c.in_ok-begin_at.ensures.begun n bound one begun
