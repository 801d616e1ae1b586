-- A search behind the takes of a round.
use Rattle.std.proofs.Common.{◌≡◌, ◌⊎◌, inl, inr, ℕ, ◌+◌, ◌<◌, ◌≤◌, suc, List, [], None, length, get_or, subst, arith}
use Rattle.std.proofs.lemmas.Bool.{cases_lt}
use Rattle.fst_semiring.specs.Cost.{Cost}
use Rattle.fst_semiring.specs.declared.arc_type.ArcType.{ArcType}
use Rattle.fst_machine.specs.BreadthFirst.{Has}
use Rattle.fst_machine.specs.declared.path.Step.{Step}
use Rattle.fst_search.specs.Hops.{Hop, IsNet}
use Rattle.fst_search.specs.Searching.{Answers, IsTrail, Node, Searching, Turned, link_at}
use Rattle.fst_search.proofs.Ending.{ended, trail_goes_on, trail_turns}
use Rattle.fst_search.proofs.Nodes.{read_number}
use Rattle.fst_search.proofs.Taking.{searching_next}

module _ (kind : ArcType) (Goes : Hop → Type 0) (source : ℕ → Cost) (n bound round mark takes : ℕ) (net : IsNet Goes n) (nodes : List (Node Cost)) (members later met : List ℕ)
    (none : members ≡ []) (s : Searching kind Goes source n bound round mark takes (Has members) nodes members later met) where
  emptied : Searching kind Goes source n bound round mark takes (Has []) nodes [] later met
  emptied = subst (λ (ms : List ℕ). Searching kind Goes source n bound round mark takes (Has ms) nodes ms later met) none s

  pub later_low : (q : ℕ) → Has later q → q < n
  later_low q has = s.marked.met_low q (s.marked.turned_met q (let late = s.marked.later_marked q has in omega arith))

  pub round_ends : later ≡ [] → Answers kind Goes source n bound nodes members met None
  round_ends e = (none, ended kind Goes source n bound round mark takes net nodes met (subst (λ (ls : List ℕ). Searching kind Goes source n bound round mark takes (Has []) nodes [] ls met) e emptied))

  pub round_turns : (trail : List Step) (x : ℕ) → 0 < length later → IsTrail (link_at nodes) (get_or later 0 0) trail x → length trail ≡ n → Turned kind Goes source n nodes x
  round_turns trail x some leads many = trail_turns kind Goes source n net nodes s.marked.size s.tentative trail (get_or later 0 0) x (later_low (get_or later 0 0) (read_number later 0 some)) leads many

  -- the last round does not put off any state to which no links lead back
  pub round_low : 0 < length later → (n ≤ round → (trail : List Step) × (x : ℕ) × IsTrail (link_at nodes) (get_or later 0 0) trail x × (length trail < n) × (link_at nodes x ≡ None)) → round < n
  round_low some goes = by_case (cases_lt round n)
    where
      by_case : (round < n) ⊎ (n ≤ round) → round < n
      by_case (inl low) = low
      by_case (inr late) =
          let t = goes late in
          absurd (trail_goes_on kind Goes source n bound round mark takes (Has members) net nodes members later met s t.0 (get_or later 0 0) t.1 (read_number later 0 some) t.2 (let few = t.3 in omega arith) t.4)

  pub round_goes_on : (now : List ℕ) → ((q : ℕ) → (Has now q → Has members q ⊎ Has later q) × (Has later q → Has now q)) → Searching kind Goes source n bound (suc round) (mark + 2) takes (Has now) nodes now [] met
  round_goes_on now are = searching_next kind Goes source n bound round mark takes nodes now later met (λ q has. by_part q ((are q).0 has)) (λ q has. (are q).1 has) emptied
    where
      by_part : (q : ℕ) → Has members q ⊎ Has later q → Has later q
      by_part q (inl old) = absurd (subst (λ (ms : List ℕ). Has ms q) none old)
      by_part q (inr h) = h
