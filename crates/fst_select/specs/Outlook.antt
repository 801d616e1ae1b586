-- What is ahead of the prefixes of strings, as the program keeps it: the distances of states, and counts of labels for the
-- totals that are due.
use Rattle.std.specs.Prelude.{◌≡◌, ◌≢◌, ◌⊎◌, ℕ, ◌≤◌, List, true, false}
use Rattle.fst_semiring.specs.Cost.{Cost, infinite}
use Rattle.fst_semiring.specs.declared.arc_type.ArcType.{ArcType}
use Rattle.fst_semiring.specs.Semiring.{cancels, times}
use Rattle.fst_machine.specs.BreadthFirst.{Has}
use Rattle.fst_machine.specs.Machine.{Machine}
use Rattle.fst_trim.specs.Weighed.{IsWeighed}
use Rattle.fst_determinize.specs.Subsets.{Member}
use Rattle.fst_nbest.specs.Classes.{IsClassReady}
use Rattle.fst_nbest.specs.Ready.{HasDistances, IsReady}

-- a bound for the numbers of the products of words
abbrev pub most_by : ℕ
most_by = 1267650600228229401496703205376

-- a machine with what is ahead of its states, and the total that is due
pub record OutlookAs (V D : Type 0) : Type 0 where
  pub machine : Machine V
  pub dist : List D
  pub count : List ℕ
  pub due : Cost

-- counts are known of prefixes with this total: where factors cancel of all, else of those with the total that is due
abbrev pub IsDue : ArcType → Cost → Cost → Type 0
IsDue kind due total = (cancels kind ≡ true) ⊎ (total ≡ due)

-- What is ahead of the states is that of this machine. Where factors cancel, the counts are those of best paths; else those of
-- paths that are no worse than the total that is due, if one is.
pub record IsOutlook {V D : Type 0} (kind : ArcType) (value : V → Cost) (wide : D → Cost) (o : OutlookAs V D) : Type 0 where
  pub weighed : IsWeighed kind value o.machine
  pub measured : HasDistances kind value wide (λ w. Unit {0}) o.machine o.dist
  pub ready : cancels kind ≡ true → IsReady kind value wide (λ w. Unit {0}) o.machine o.dist o.count
  pub class : cancels kind ≡ false → o.due ≢ infinite → IsClassReady value (λ w. Unit {0}) o.machine o.due o.count

module _ (kind : ArcType) (d : ℕ → Cost) (by total : Cost) where
  -- the best way on from a member has this total
  abbrev pub IsTight : Member → Type 0
  IsTight m = times kind by (times kind m.residual (d m.state)) ≡ total

  -- The least count of the members from which the best way on has the total; where there is none, the greatest number of
  -- 32 bits.
  pub record IsLeastTight (count : ℕ → ℕ) (members : List Member) (c : ℕ) : Type 0 where
    pub least : (m : Member) → Has members m → IsTight m → c ≤ count m.state
    pub few : (m : Member) → Has members m → IsTight m → count m.state ≤ 4294967295
    pub one : (c ≡ 4294967295) ⊎ ((m : Member) × Has members m × IsTight m × (count m.state ≡ c))
