-- The numbers of a prefix that is not too long, and of its subset.
use Rattle.std.proofs.Common.{inl, inr, ℕ, ◌+◌, ◌*◌, ◌≤◌, List, length, sym, subst, arith}
use Rattle.std.proofs.lemmas.List.{length-map}
use Rattle.fst_semiring.specs.Cost.{Cost}
use Rattle.fst_semiring.specs.Semiring.{IsCost, Within}
use Rattle.fst_semiring.specs.declared.arc_type.ArcType.{ArcType}
use Rattle.fst_semiring.proofs.Ranges.{Within-more}
use Rattle.fst_machine.specs.Distance.{IsLeast}
use Rattle.fst_machine.specs.Graph.{Graph, graph_of}
use Rattle.fst_machine.specs.Machine.{Machine, valued, valued_state}
use Rattle.fst_machine.proofs.Valued.{IsMachine-valued}
use Rattle.fst_trim.specs.Weighed.{IsWeighed}
use Rattle.fst_trim.proofs.Weighed.{zero_kind}
use Rattle.fst_determinize.specs.Subsets.{IsSubset, Member, SpellsSome}
use Rattle.fst_determinize.specs.Weighed.{AreMembers}
use Rattle.fst_determinize.proofs.Machines.{path_inside, start_below}
use Rattle.fst_determinize.proofs.Members.{member_stands, residual_kind}
use Rattle.fst_determinize.proofs.Spelling.{spells_weighs, spells_within}
use Rattle.fst_determinize.proofs.Theorem.{residual_within}
use Rattle.fst_nbest.specs.Entries.{most_long}
use Rattle.fst_select.specs.Outlook.{most_by}

module _ {V : Type 0} (kind : ArcType) (value : V → Cost) (m : Machine V) (h : IsWeighed kind value m) (x : List ℕ) (by : Cost) (members : List Member)
    (is : IsSubset kind (graph_of (valued value m)) x by members) where
  abbrev g : Graph ℕ
  g = graph_of (valued value m)

  -- the members are states, with residuals that can be computed with
  pub prefix_members : length x ≤ most_long + 1 → AreMembers (length m.states) members
  prefix_members short = record {
    state = λ n k.
        let from = member_stands kind g h.weighted x by members is n k in
        let limits = IsMachine-valued value m h.machine in
        let same = length-map m.states (valued_state value) in
        let low = path_inside (valued value m) limits from.spells.path from.spells.first n.state from.spells.leads (start_below (valued value m) limits from.spells.first from.spells.starts) in
        omega (arith, low, same);
    modest = λ n k.
        Within-more (2 * (length x * 1000000000000000000)) 332306998946228968225951765070086144 n.residual (omega (arith, short))
        (residual_within kind g h.weighted 1000000000000000000 h.ranged x by members n is k);
    not_zero = λ n k. (residual_kind kind g h.weighted x by n (member_stands kind g h.weighted x by members is n k)).1;
  }

  -- the best weight can be computed with
  pub prefix_range : length x ≤ most_long + 1 → Within most_by by
  prefix_range short = by_paths is.least
    where
      by_paths : IsLeast (SpellsSome kind g x) by → Within most_by by
      by_paths (inl none) = subst (Within most_by) (sym none.1) tt
      by_paths (inr some) = Within-more (length x * 1000000000000000000) most_by by (omega (arith, short)) (spells_within kind g 1000000000000000000 h.ranged x some.0.0 by some.0.1)

  -- and is of the arc type
  pub prefix_kind : IsCost kind by
  prefix_kind = by_paths is.least
    where
      by_paths : IsLeast (SpellsSome kind g x) by → IsCost kind by
      by_paths (inl none) = subst (IsCost kind) (sym none.1) (zero_kind kind)
      by_paths (inr some) = (spells_weighs kind g h.weighted x some.0.0 by some.0.1).0
