-- `shortestpath --unique` has one outcome.
use Rattle.std.proofs.Common.{◌≡◌, ◌↔◌, ◌<◌, ◌+◌, ◌≢◌, ℕ, List, map, refl, sym, ap, subst, ◌∙◌, arith}
use Rattle.fst_semiring.specs.declared.arc_type.ArcType.{ArcType}
use Rattle.fst_semiring.specs.Cost.{Cost, infinite}
use Rattle.fst_machine.specs.BreadthFirst.{Has}
use Rattle.fst_machine.specs.Cycles.{IsUseful}
use Rattle.fst_machine.specs.Graph.{graph_of}
use Rattle.fst_machine.specs.Machine.{IsMachine, Machine, most_states}
use Rattle.fst_machine.specs.Relation.{Rel}
use Rattle.fst_machine.specs.declared.path.Step.{Step}
use Rattle.fst_search.specs.Distances.{IsListed, NoneImproves}
use Rattle.fst_trim.specs.FirstArcs.{HasTwoLabels}
use Rattle.fst_setops.specs.Unweighted.{ReadsEpsilon}
use Rattle.fst_setops.proofs.OneAnswer.{one_first}
use Rattle.fst_nbest.specs.Chains.{chained}
use Rattle.fst_nbest.specs.Words.{WeightedWord}
use Rattle.fst_select.specs.StringChains.{EndsOut, IsLeastEnd, string_chain}
use Rattle.fst_select.specs.Strings.{AreFirstStrings, labels_listed}
use Rattle.fst_select.specs.UniqueRefusals.{IsListable}
use Rattle.fst_select.proofs.OneStrings.{listed_solid, one_first_strings}
use Rattle.fst_verbs.specs.Listing.{IsUnlistedUnique, ListsStrings}
use Rattle.fst_verbs.specs.OneMeaning.{One}
use Rattle.fst_verbs.specs.declared.commands.listing.Unlisted.{Unlisted}
use Rattle.fst_verbs.specs.declared.commands.listing.Unlisted.TheVariants.{NotAcceptor, HasEpsilon, ImprovingCycle, TooManyStates, Overflow}

-- the strings have too many labels for a machine
abbrev IsLong : List WeightedWord → Type 0
IsLong strings = most_states < labels_listed strings + 1

-- a cycle that is listed stands against what has none
uncycled : (kind : ArcType) (m : Machine Cost) (cycle : List Step)
    → IsListed kind (graph_of m) (IsUseful (graph_of m)) cycle → NoneImproves kind (graph_of m) (IsUseful (graph_of m)) → ⊥
uncycled kind m cycle l none = none l.state l.cycle l.counts l.improves

-- a fact of the first strings holds of each list of them
at_strings : (kind : ArcType) (n : ℕ) (m : Machine Cost) (P : List WeightedWord → Type 0) (xs ys : List WeightedWord)
    → AreFirstStrings kind (graph_of m) n xs → AreFirstStrings kind (graph_of m) n ys → P xs → P ys
at_strings kind n m P xs ys one two h = subst P (one_first_strings kind (graph_of m) n xs ys one two) h

-- there is one least end
one_least_end : (strings : List WeightedWord) (s t : ℕ) → IsLeastEnd strings s → IsLeastEnd strings t → s ≡ t
one_least_end strings s t one two = omega (arith, one.1 t two.0, two.1 s one.0)

module _ (kind : ArcType) (n : ℕ) (m : Machine Cost) where
  -- of two causes the first that holds is told
  pub one_unlisted_unique : One (IsUnlistedUnique kind n m)
  one_unlisted_unique (NotAcceptor s p) (NotAcceptor t q) one two = one_first HasTwoLabels m NotAcceptor s p t q one two
  one_unlisted_unique (NotAcceptor s p) (HasEpsilon t q) one two = absurd (two.0 s p one.0)
  one_unlisted_unique (NotAcceptor s p) ImprovingCycle one two = absurd (two.1.0 s p one.0)
  one_unlisted_unique (NotAcceptor s p) TooManyStates one two = absurd (two.0.0 s p one.0)
  one_unlisted_unique (NotAcceptor s p) (Overflow t) one two = absurd (two.0.0 s p one.0)
  one_unlisted_unique (HasEpsilon s p) (NotAcceptor t q) one two = absurd (one.0 t q two.0)
  one_unlisted_unique (HasEpsilon s p) (HasEpsilon t q) one two = one_first ReadsEpsilon m HasEpsilon s p t q one.1 two.1
  one_unlisted_unique (HasEpsilon s p) ImprovingCycle one two = absurd (two.1.1 s p one.1.0)
  one_unlisted_unique (HasEpsilon s p) TooManyStates one two = absurd (two.0.1 s p one.1.0)
  one_unlisted_unique (HasEpsilon s p) (Overflow t) one two = absurd (two.0.1 s p one.1.0)
  one_unlisted_unique ImprovingCycle (NotAcceptor t q) one two = absurd (one.1.0 t q two.0)
  one_unlisted_unique ImprovingCycle (HasEpsilon t q) one two = absurd (one.1.1 t q two.1.0)
  one_unlisted_unique ImprovingCycle ImprovingCycle one two = refl
  one_unlisted_unique ImprovingCycle TooManyStates one two = absurd (uncycled kind m one.0 one.1.2 two.0.2)
  one_unlisted_unique ImprovingCycle (Overflow t) one two = absurd (uncycled kind m one.0 one.1.2 two.0.2)
  one_unlisted_unique TooManyStates (NotAcceptor t q) one two = absurd (one.0.0 t q two.0)
  one_unlisted_unique TooManyStates (HasEpsilon t q) one two = absurd (one.0.1 t q two.1.0)
  one_unlisted_unique TooManyStates ImprovingCycle one two = absurd (uncycled kind m two.0 two.1.2 one.0.2)
  one_unlisted_unique TooManyStates TooManyStates one two = refl
  one_unlisted_unique TooManyStates (Overflow t) (listable, long) (also, large) =
      absurd (large.fits (at_strings kind n m IsLong long.strings large.strings long.first large.first long.long))
  one_unlisted_unique (Overflow s) (NotAcceptor t q) one two = absurd (one.0.0 t q two.0)
  one_unlisted_unique (Overflow s) (HasEpsilon t q) one two = absurd (one.0.1 t q two.1.0)
  one_unlisted_unique (Overflow s) ImprovingCycle one two = absurd (uncycled kind m two.0 two.1.2 one.0.2)
  one_unlisted_unique (Overflow s) TooManyStates (listable, large) (also, long) =
      absurd (large.fits (at_strings kind n m IsLong long.strings large.strings long.first large.first long.long))
  one_unlisted_unique (Overflow s) (Overflow t) (listable, one) (also, two) =
      ap Overflow (one_least_end two.strings s t (at_strings kind n m (λ strings. IsLeastEnd strings s) one.strings two.strings one.first two.first one.least) two.least)

  -- one machine is that of the first strings
  pub one_lists_strings : One (ListsStrings kind n m)
  one_lists_strings r q one two =
      let same : one.strings ≡ two.strings = one_first_strings kind (graph_of m) n one.strings two.strings one.first two.first in
      one.made ∙ (ap (λ (strings : List WeightedWord). chained (map (string_chain kind) strings)) same ∙ sym two.made)

  module _ (strings : List WeightedWord) (first : AreFirstStrings kind (graph_of m) n strings) where
    -- nothing stands against strings that are listed, whose labels are not too many and whose weights are in range
    pub strings_pass : IsListable kind m → (IsLong strings → ⊥) → ((state : ℕ) → EndsOut 0 strings state → ⊥) → (why : Unlisted) → IsUnlistedUnique kind n m why → ⊥
    strings_pass listable fits small (NotAcceptor s p) h = listable.0 s p h.0
    strings_pass listable fits small (HasEpsilon s p) h = listable.1 s p h.1.0
    strings_pass listable fits small ImprovingCycle h = uncycled kind m h.0 h.1.2 listable.2
    strings_pass listable fits small TooManyStates (also, long) = fits (at_strings kind n m IsLong long.strings strings long.first first long.long)
    strings_pass listable fits small (Overflow s) (also, large) = small s (at_strings kind n m (λ words. EndsOut 0 words s) large.strings strings large.first first large.least.0)

    -- the machine of listed strings
    pub lists_strings : IsMachine (λ (v : Cost). v) m → (r : Machine Cost) → r ≡ chained (map (string_chain kind) strings)
        → ((x y : List ℕ) (w : Cost) → Rel kind (graph_of r) x y w ↔ ((x ≡ y) × (w ≢ infinite) × Has strings (record { word = x; weight = w }))) → ListsStrings kind n m r
    lists_strings good r made relates = record {
      strings = strings;
      first = first;
      made = made;
      denotes = λ x y w. (
        (λ says. let h = (relates x y w).0 says in (h.0, h.2)),
        (λ h. (relates x y w).1 (h.0, listed_solid kind m good n strings first (record { word = x; weight = w }) h.1, h.1)),
      );
    }
