use Rattle.std.proofs.Common.{◌≡◌, ◌≤◌, ◌+◌, ◌-◌, [], length}
use Rattle.fst_nbest.specs.Entries.{IsSearching}
use Rattle.fst_nbest.proofs.enumerating.first_words.Given as goal

abbrev pub invariant-words : goal.invariant-words
invariant-words g l =
    let s = g.S.System in
    record {
      search : IsSearching s.kind (s.words l.system) (s.dist l.system) (s.count l.system) s.value s.bounded l.start l.listed l.orders l.table.items;
      size : length l.orders ≡ s.size l.system;
      clear : l.left.items ≡ [];
      few : length l.listed ≤ l.n;
      ticked : l.steps ≡ l.initial.steps + length l.listed;
    }

abbrev pub decreases-words : goal.decreases-words
decreases-words g l = l.n - length l.listed
