use Rattle.std.proofs.Common.{◌≡◌, ◌≤◌, ◌+◌, ◌-◌, [], length, map}
use Rattle.fst_machine.specs.Graph.{graph_of}
use Rattle.fst_machine.specs.Machine.{valued}
use Rattle.fst_select.specs.Entries.{words_of}
use Rattle.fst_select.specs.Searching.{IsSearch}
use Rattle.fst_select.specs.Strings.{weighted}
use Rattle.fst_select.proofs.listing.list_strings.Given as goal

abbrev pub invariant-strings : goal.invariant-strings
invariant-strings g l =
    let w = g.W.Weight in
    record {
      search : IsSearch w.KIND (graph_of (valued w.value l.initial.outlook.machine)) w.wide_value l.outlook.due (map (weighted w.wide_value) l.listed) (words_of l.listed) l.subsets.items l.table.ready.items l.table.later.items;
      machine : l.outlook.machine ≡ l.initial.outlook.machine;
      clear : l.left.items ≡ [];
      few : length l.listed ≤ l.n;
      ticked : l.steps ≡ l.initial.steps + length l.listed;
    }

abbrev pub decreases-strings : goal.decreases-strings
decreases-strings g l = l.n - length l.listed
