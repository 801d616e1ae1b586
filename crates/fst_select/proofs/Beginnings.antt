-- The lengths of fronts whose weight becomes due.
use Rattle.std.proofs.Common.{◌≡◌, ◌≢◌, inl, inr, ℕ, ◌+◌, ◌<◌, ◌≤◌, List, ◌++◌, Bool, true, false, length, get_or, sym, ap, subst, ◌∙◌, arith}
use Rattle.std.proofs.lemmas.List.{length-append}
use Rattle.std.proofs.lemmas.Option.{get_or_from_slice_get, slice_get_within}
use Rattle.fst_semiring.specs.Cost.{Cost, cost_cmp, infinite, plus}
use Rattle.fst_semiring.specs.declared.arc_type.ArcType.{ArcType}
use Rattle.fst_semiring.specs.Semiring.{IsCost, Within}
use Rattle.fst_semiring.proofs.Order.{plus_antisym, plus_less, plus_same}
use Rattle.fst_machine.specs.Cycles.{IsAccessible}
use Rattle.fst_machine.specs.Distance.{IsFinalDistance, IsLeast}
use Rattle.fst_machine.specs.Graph.{Graph, graph_of}
use Rattle.fst_machine.specs.Machine.{valued}
use Rattle.fst_trim.specs.WordWeights.{WordWeighs}
use Rattle.fst_trim.specs.Weighed.{IsWeighted}
use Rattle.fst_determinize.specs.Subsets.{IsSubset, Member}
use Rattle.fst_determinize.specs.Weighed.{AreMembers}
use Rattle.fst_nbest.specs.Entries.{most_long}
use Rattle.fst_nbest.specs.Ready.{dist_in}
use Rattle.fst_nbest.specs.Words.{NoLess}
use Rattle.fst_nbest.proofs.Ranks.{cost_itself}
use Rattle.fst_select.specs.declared.entry.Entry.{Entry}
use Rattle.fst_select.specs.Entries.{IsEntry, prefix_of}
use Rattle.fst_select.specs.Frontier.{CoversBy, Front, IsKey}
use Rattle.fst_select.specs.Keys.{IsShortest, PrefixLaws, best_total}
use Rattle.fst_select.specs.Outlook.{IsOutlook, OutlookAs, most_by}
use Rattle.fst_select.specs.Strings.{IsSpelled, PrefixWeighs}
use Rattle.fst_select.proofs.EntryPrefixes.{prefix_few}
use Rattle.fst_select.proofs.Frontiers.{closed_covers, open_covers}
use Rattle.fst_select.proofs.PrefixBounds.{prefix_kind, prefix_members, prefix_range}
use Rattle.fst_select.proofs.StateCounts.{far}
use Rattle.fst_select.proofs.SubsetKeys.{prefix_laws, word_solid}

-- a weight is no worse than what a best string leaves behind it
no_less_plus : (total v : Cost) (m n : ℕ) → NoLess total m v n → plus total v ≡ total
no_less_plus total v m n (inl less) = plus_less total v less
no_less_plus total v m n (inr (same, few)) = ap (plus total) (sym same) ∙ plus_same total

no_less_few : (total v : Cost) (m n : ℕ) → NoLess total m v n → total ≡ v → m ≤ n
no_less_few total v m n (inl less) same = absurd (cost_itself v (ap (λ (z : Cost). cost_cmp z v) (sym same) ∙ less))
no_less_few total v m n (inr (same, few)) tie = few

module _ (kind : ArcType) (g : Graph ℕ) (f : Front) (key : IsKey (IsSpelled kind g) f) where
  -- the best string of a closed front is its prefix
  closed_long : f.closed ≡ true → f.long ≡ length f.prefix
  closed_long is_closed = sym key.long ∙ ap length (closed_covers f key.word is_closed key.inside)

  -- the best string of an open front is one of the best weight behind its prefix, and has the least number of labels of these
  module _ (weighted : IsWeighted kind g) (d : ℕ → Cost) (reach : (q : ℕ) → IsAccessible g q → IsFinalDistance kind g q (d q)) (part : Cost) (members : List Member)
      (sub : IsSubset kind g f.prefix part members) (is_open : f.closed ≡ false) where
    laws : PrefixLaws kind g d f.prefix part members
    laws = prefix_laws kind g weighted d reach f.prefix part members sub

    rest : (rest : List ℕ) × (key.word ≡ f.prefix ++ rest)
    rest = subst (λ (b : Bool). CoversBy b f.prefix key.word) is_open key.inside

    own : WordWeighs kind g (f.prefix ++ rest.0) f.total
    own = subst (λ (x : List ℕ). WordWeighs kind g x f.total) rest.1 key.weighs.0

    open_solid : f.total ≢ infinite
    open_solid = word_solid kind g weighted key.word f.total key.weighs.0

    -- no string behind the prefix has less
    behind : (other : List ℕ) → WordWeighs kind g (f.prefix ++ other) (best_total kind d part members)
        → ((v : Cost) → PrefixWeighs kind g f.prefix v → plus (best_total kind d part members) v ≡ best_total kind d part members)
        → NoLess f.total f.long (best_total kind d part members) (length (f.prefix ++ other))
    behind other whole least = key.least (f.prefix ++ other) (best_total kind d part members) (open_covers f is_open other) (whole, λ v h. least v (record { rest = other; whole = h }))

    open_total : f.total ≡ best_total kind d part members
    open_total = by_least laws.ahead
      where
        by_least : IsLeast (PrefixWeighs kind g f.prefix) (best_total kind d part members) → f.total ≡ best_total kind d part members
        by_least (inl none) = absurd (none.0 f.total (record { rest = rest.0; whole = own }))
        by_least (inr some) =
            plus_antisym f.total (best_total kind d part members)
            (no_less_plus f.total (best_total kind d part members) f.long (length (f.prefix ++ some.0.rest)) (behind some.0.rest some.0.whole some.1))
            (some.1 f.total (record { rest = rest.0; whole = own }))

    least_ahead : (v : Cost) → PrefixWeighs kind g f.prefix v → plus (best_total kind d part members) v ≡ best_total kind d part members
    least_ahead = by_least laws.ahead
      where
        by_least : IsLeast (PrefixWeighs kind g f.prefix) (best_total kind d part members) → (v : Cost) → PrefixWeighs kind g f.prefix v
            → plus (best_total kind d part members) v ≡ best_total kind d part members
        by_least (inl none) v h = absurd (none.0 v h)
        by_least (inr some) v h = some.1 v h

    open_long : (count : ℕ) → IsShortest kind g part (best_total kind d part members) members count → f.long ≡ length f.prefix + count
    open_long count short =
        let s = laws.shortest count short in
        let up : f.long ≤ length (f.prefix ++ s.0)
        = no_less_few f.total (best_total kind d part members) f.long (length (f.prefix ++ s.0)) (behind s.0 s.1 least_ahead) open_total in
        let down : count ≤ length rest.0 = laws.least count rest.0 short (subst (WordWeighs kind g (f.prefix ++ rest.0)) open_total own) in
        let long : length (f.prefix ++ rest.0) ≡ f.long = sym (ap length rest.1) ∙ key.long in
        omega (arith, up, down, long, s.2, length-append f.prefix s.0, length-append f.prefix rest.0)

-- an entry whose front tells its best string
module _ {V D : Type 0} (kind : ArcType) (value : V → Cost) (wide : D → Cost) (o : OutlookAs V D) (is : IsOutlook kind value wide o) (words : List (List ℕ)) (subsets : List (List Member))
    (e : Entry D) (due : Cost) (f : Front) (h : IsEntry kind (graph_of (valued value o.machine)) wide due words subsets e f) (key : IsKey (IsSpelled kind (graph_of (valued value o.machine))) f) where
  pub entry_closed : e.closed ≡ true → f.long ≡ length (prefix_of words e)
  entry_closed is_closed = closed_long kind (graph_of (valued value o.machine)) f key (h.closed ∙ is_closed) ∙ ap length h.prefix

  module _ (is_open : e.closed ≡ false) where
    pub slot_there : e.slot < length subsets
    slot_there = let t = h.subset is_open in slice_get_within subsets e.slot t.0 t.1

    module _ (s : List Member) (at : s ≡ get_or subsets e.slot s) where
      front_subset : IsSubset kind (graph_of (valued value o.machine)) f.prefix (wide e.by) s
      front_subset =
          let t = h.subset is_open in
          let same : s ≡ t.0 = at ∙ get_or_from_slice_get subsets e.slot t.0 s t.1 in
          subst (λ (z : List Member). IsSubset kind (graph_of (valued value o.machine)) f.prefix (wide e.by) z) (sym same)
          (subst (λ (x : List ℕ). IsSubset kind (graph_of (valued value o.machine)) x (wide e.by) t.0) (sym h.prefix) t.2)

      front_short : length f.prefix ≤ most_long + 1
      front_short = let long : length f.prefix ≡ length (prefix_of words e) = ap length h.prefix in let few = h.compare.few in omega (arith, long, few, prefix_few words e h.compare)

      pub entry_members : AreMembers (length o.machine.states) s
      entry_members = prefix_members kind value o.machine is.weighed f.prefix (wide e.by) s front_subset front_short

      pub entry_range : Within most_by (wide e.by)
      entry_range = prefix_range kind value o.machine is.weighed f.prefix (wide e.by) s front_subset front_short

      pub entry_kind : IsCost kind (wide e.by)
      entry_kind = prefix_kind kind value o.machine is.weighed f.prefix (wide e.by) s front_subset

      reach : (q : ℕ) → IsAccessible (graph_of (valued value o.machine)) q → IsFinalDistance kind (graph_of (valued value o.machine)) q (dist_in wide o.dist q)
      reach = far kind (graph_of (valued value o.machine)) (dist_in wide o.dist) is.measured.exact

      front_open : f.closed ≡ false
      front_open = h.closed ∙ is_open

      front_total : f.total ≡ best_total kind (dist_in wide o.dist) (wide e.by) s
      front_total = open_total kind (graph_of (valued value o.machine)) f key is.weighed.weighted (dist_in wide o.dist) reach (wide e.by) s front_subset front_open

      pub entry_total : wide e.total ≡ best_total kind (dist_in wide o.dist) (wide e.by) s
      entry_total = sym h.total ∙ front_total

      pub entry_solid : wide e.total ≢ infinite
      entry_solid none = open_solid kind (graph_of (valued value o.machine)) f key is.weighed.weighted (dist_in wide o.dist) reach (wide e.by) s front_subset front_open (h.total ∙ none)

      pub entry_long : (count n : ℕ) → n ≡ length (prefix_of words e)
          → ((x : List ℕ) → IsSubset kind (graph_of (valued value o.machine)) x (wide e.by) s → IsShortest kind (graph_of (valued value o.machine)) (wide e.by) (wide e.total) s count)
          → f.long ≡ n + count
      entry_long count n len short =
          let long = open_long kind (graph_of (valued value o.machine)) f key is.weighed.weighted (dist_in wide o.dist) reach (wide e.by) s front_subset front_open count
          (subst (λ (t : Cost). IsShortest kind (graph_of (valued value o.machine)) (wide e.by) t s count) entry_total (short f.prefix front_subset)) in
          let same : length f.prefix ≡ length (prefix_of words e) = ap length h.prefix in
          omega (arith, long, same, len)
