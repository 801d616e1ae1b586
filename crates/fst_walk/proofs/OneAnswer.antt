-- A walk has one answer: one list of names with one machine, or one cause.
use Rattle.std.proofs.Common.{◌≡◌, ◌⊎◌, inl, inr, ℕ, ◌<◌, ◌≤◌, List, [], Option, None, Some, refl, sym, ap, ◌∙◌, subst, arith}
use Rattle.std.specs.List.{All}
use Rattle.std.specs.Option.{MatchOption}
use Rattle.std.proofs.lemmas.Bool.{cases_lt}
use Rattle.std.proofs.lemmas.Option.{get_or_from_slice_get, same_Some, slice_get_within}
use Rattle.fst_semiring.specs.Cost.{Cost}
use Rattle.fst_machine.specs.BreadthFirst.{Apart, IsBreadthFirst}
use Rattle.fst_machine.specs.Graph.{Graph}
use Rattle.fst_machine.specs.Machine.{Machine}
use Rattle.fst_machine.specs.Numbering.{IsNumbered}
use Rattle.fst_machine.specs.Paths.{IsPath}
use Rattle.fst_machine.proofs.BreadthFirst.{one_breadth_first}
use Rattle.fst_machine.proofs.OneMachine.{one_numbered}
use Rattle.fst_walk.specs.Answers.{IsFine, IsNamed, ReachesMore, Stops}
use Rattle.fst_walk.specs.Making.{Fits, IsFirstOut, IsReached, arcs_of}
use Rattle.fst_walk.specs.declared.fault.WalkFault.{WalkFault}
use Rattle.fst_walk.specs.declared.fault.WalkFault.TheVariants.{Overflow, StateLimit, TooManyArcs}
use Rattle.fst_walk.proofs.Refusing.{reached_few}

module _ {N : Type 0} (g : Graph N) where
  -- the names that can be reached are one list
  one_reached : (limit : ℕ) (names others : List N) → IsReached g limit names → IsReached g limit others → names ≡ others
  one_reached limit names others one two = one_breadth_first g one.start names others one.listed (subst (λ (s : N). IsBreadthFirst g s others) (same_Some two.start one.start (sym two.starts ∙ one.starts)) two.listed)

  -- and no more can be reached than there are in it
  no_more : (limit : ℕ) (names : List N) → IsReached g limit names → ReachesMore g limit → ⊥
  no_more limit names r more =
      let start : more.start ≡ r.start = same_Some more.start r.start (sym more.starts ∙ r.starts) in
      let few = reached_few g r.start names more.names r.listed more.apart (λ n has. let at = more.reached n has in (at.0, subst (λ (s : N). IsPath g s at.0 n) start at.1)) in
      omega (arith, few, r.few, more.more)

  -- a name that has a weight out of range stands against names that have none
  out_of_fine : (names : List N) (place : ℕ) → IsFirstOut g names place → All (Fits g) names → ⊥
  out_of_fine names place out fine = out.out (subst (λ (n : N). Fits g n) (get_or_from_slice_get names place out.name out.name out.there) (fine place out.name (slice_get_within names place out.name out.there)))

  one_out : (names : List N) (place other : ℕ) → IsFirstOut g names place → IsFirstOut g names other → place ≡ other
  one_out names place other one two = by (cases_lt place other) (cases_lt other place)
    where
      by : (place < other) ⊎ (other ≤ place) → (other < place) ⊎ (place ≤ other) → place ≡ other
      by (inl low) more = absurd (one.out (two.first place one.name low one.there))
      by (inr high) (inl low) = absurd (two.out (one.first other two.name low two.there))
      by (inr high) (inr low) = omega (arith, high, low)

  many_and_few : (limit : ℕ) (names others : List N) (n : ℕ) → IsReached g limit names → IsReached g limit others → n < arcs_of g names → arcs_of g others ≤ n → ⊥
  many_and_few limit names others n one two many few = let same = ap (arcs_of g) (one_reached limit names others one two) in omega (arith, same, many, few)

  -- one cause stops a walk
  pub one_stop : (most : ℕ) (f h : WalkFault) → Stops g most f → Stops g most h → f ≡ h
  one_stop most (StateLimit limit) (StateLimit other) one two = ap StateLimit (one.0 ∙ sym two.0)
  one_stop most (StateLimit limit) TooManyArcs one two = absurd (no_more most two.names two.reached one.1)
  one_stop most (StateLimit limit) (Overflow place) one two = absurd (no_more most two.names two.reached one.1)
  one_stop most TooManyArcs (StateLimit limit) one two = absurd (no_more most one.names one.reached two.1)
  one_stop most TooManyArcs TooManyArcs one two = refl
  one_stop most TooManyArcs (Overflow place) one two = absurd (many_and_few most one.names two.names _ one.reached two.reached one.many two.few)
  one_stop most (Overflow place) (StateLimit limit) one two = absurd (no_more most one.names one.reached two.1)
  one_stop most (Overflow place) TooManyArcs one two = absurd (many_and_few most two.names one.names _ two.reached one.reached two.many one.few)
  one_stop most (Overflow place) (Overflow other) one two =
      ap Overflow (one_out one.names place other one.out (subst (λ (ns : List N). IsFirstOut g ns other) (one_reached most two.names one.names two.reached one.reached) two.out))

  -- and none stops it where nothing stands against the machine of the names
  pub no_stop : (most : ℕ) (names : List N) (f : WalkFault) → IsFine g most names → Stops g most f → ⊥
  no_stop most names (StateLimit limit) fine stops = no_more most names fine.reached stops.1
  no_stop most names TooManyArcs fine stops = many_and_few most stops.names names _ stops.reached fine.reached stops.many fine.few
  no_stop most names (Overflow place) fine stops = out_of_fine names place (subst (λ (ns : List N). IsFirstOut g ns place) (one_reached most stops.names names stops.reached fine.reached) stops.out) fine.range

  -- the names have one list, and one machine
  pub one_named : (names others : List N) (m n : Machine Cost) → IsNamed g names m → IsNamed g others n → (names ≡ others) × (m ≡ n)
  one_named names others m n one two = (same, one_numbered g names m n (apart g.start one.listed) one.numbered (subst (λ (ns : List N). IsNumbered g ns n) (sym same) two.numbered))
    where
      by : (o : Option N) → MatchOption o (names ≡ []) (λ start. IsBreadthFirst g start names) → MatchOption o (others ≡ []) (λ start. IsBreadthFirst g start others) → names ≡ others
      by None none empty = none ∙ sym empty
      by (Some start) here there = one_breadth_first g start names others here there

      same : names ≡ others
      same = by g.start one.listed two.listed

      apart : (o : Option N) → MatchOption o (names ≡ []) (λ start. IsBreadthFirst g start names) → Apart names
      apart None none = subst Apart (sym none) tt
      apart (Some start) here = here.apart
