use Rattle.std.proofs.Common.{◌⊎◌, ℕ, length, take}
use Rattle.fst_machine.specs.BreadthFirst.{Has}
use Rattle.fst_search.specs.Trying.{AreBelow}
use Rattle.fst_search.proofs.searching.put_all.Given as goal

abbrev pub invariant-loop-state : goal.invariant-loop-state
invariant-loop-state g l =
    let members = g.Q.StateQueue.members l.queue in
    let before = g.Q.StateQueue.members l.fn.queue in
    record {
      only : (q : ℕ) → Has members q → Has before q ⊎ Has (take l.state-index l.state-items) q;
      all : (q : ℕ) → Has (take l.state-index l.state-items) q → Has members q;
      below : AreBelow (length l.fn.table.nodes.items) before → AreBelow (length l.fn.table.nodes.items) members;
    }
