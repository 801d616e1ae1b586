-- What the residuals of a word's subset stand for, and the ways from it.
use Rattle.std.proofs.Common.{◌≡◌, ◌≢◌, ℕ, List, Some, slice_get, sym, ap, ap₂, ◌∙◌, subst}
use Rattle.fst_semiring.specs.Cost.{Cost, infinite, plus}
use Rattle.fst_semiring.specs.Division.{quotient}
use Rattle.fst_semiring.specs.Semiring.{times, IsCost}
use Rattle.fst_semiring.specs.declared.arc_type.ArcType.{ArcType}
use Rattle.fst_semiring.proofs.Dividing.{quotient_undone}
use Rattle.fst_semiring.proofs.Laws.{times_zero}
use Rattle.fst_semiring.proofs.OfKind.{IsCost-quotient}
use Rattle.fst_machine.specs.BreadthFirst.{Has}
use Rattle.fst_machine.specs.Graph.{Graph}
use Rattle.fst_machine.specs.Machine.{Arc}
use Rattle.fst_machine.proofs.Elements.{Has_at, at_Has}
use Rattle.fst_machine.proofs.Weights.{one_least}
use Rattle.fst_determinize.specs.Subsets.{IsSubset, Member, Spells, SpellsSome}
use Rattle.fst_trim.specs.Weighed.{IsWeighted}
use Rattle.fst_determinize.specs.Ways.{Way, member_ways, way_by, ways}
use Rattle.fst_determinize.proofs.Ascending.{ascending_same}
use Rattle.fst_determinize.proofs.Best.{least_reached, least_some}
use Rattle.fst_determinize.proofs.Elements.{Has_flat_map, Has_map, flat_map_Has, map_Has}
use Rattle.fst_determinize.proofs.Spelling.{spells_weighs}

module _ (kind : ArcType) (g : Graph ℕ) where
  -- a way from a subset is an arc of a member
  pub record IsWay (members : List Member) (y : Way) : Type 0 where
    pub member : Member
    pub stands : Has members member
    pub place : ℕ
    pub arc : Arc Cost ℕ
    pub has : slice_get (g.arcs member.state) place ≡ Some arc
    pub is : way_by kind member arc ≡ y

  pub ways_Has : (members : List Member) (y : Way) → Has (ways kind g members) y → IsWay members y
  ways_Has members y h =
      let one = flat_map_Has (member_ways kind g) members y h in
      let two = map_Has (way_by kind one.0) (g.arcs one.0.state) y one.2 in
      let at = Has_at (g.arcs one.0.state) two.0 two.1 in
      record { member = one.0; stands = one.1; place = at.0; arc = two.0; has = at.1; is = two.2 }

  pub Has_ways : (members : List Member) (m : Member) (k : ℕ) (a : Arc Cost ℕ) → Has members m → slice_get (g.arcs m.state) k ≡ Some a → Has (ways kind g members) (way_by kind m a)
  Has_ways members m k a h at = Has_flat_map (member_ways kind g) members m (way_by kind m a) h (Has_map (way_by kind m) (g.arcs m.state) a (at_Has (g.arcs m.state) k a at))

  -- what a member's residual stands for: a path to its state, the best for the word, and the best of all divided off
  pub record Stands (word : List ℕ) (b : Cost) (m : Member) : Type 0 where
    pub weight : Cost
    pub spells : Spells kind g word m.state weight
    pub least : (v : Cost) → Spells kind g word m.state v → plus weight v ≡ weight
    pub not_zero : weight ≢ infinite
    pub best_at : ℕ
    pub best_spells : Spells kind g word best_at b
    pub best_kind : IsCost kind b
    pub best_not_zero : b ≢ infinite
    pub no_worse : plus b weight ≡ b
    pub residual : m.residual ≡ quotient kind weight b
    pub undone : times kind b m.residual ≡ weight

  module _ (weighted : IsWeighted kind g) where
    pub member_stands : (word : List ℕ) (b : Cost) (members : List Member) → IsSubset kind g word b members → (m : Member) → Has members m → Stands word b m
    member_stands word b members sub m h =
        let l = sub.listed m h in
        let reached = least_reached (Spells kind g word m.state) l.0 l.1 l.2 in
        let all = least_some (SpellsSome kind g word) b l.0 sub.least (m.state, reached.0) l.2 in
        let k = spells_weighs kind g weighted word all.0.0 b all.0.1 in
        record {
          weight = l.0;
          spells = reached.0;
          least = reached.1;
          not_zero = l.2;
          best_at = all.0.0;
          best_spells = all.0.1;
          best_kind = k.0;
          best_not_zero = all.1;
          no_worse = all.2;
          residual = l.3;
          undone = ap (times kind b) l.3 ∙ quotient_undone kind l.0 b k.0 all.1 all.2;
        }

    -- a residual is of the arc type and not Zero
    pub residual_kind : (word : List ℕ) (b : Cost) (m : Member) → Stands word b m → IsCost kind m.residual × (m.residual ≢ infinite)
    residual_kind word b m s =
        let k = spells_weighs kind g weighted word m.state s.weight s.spells in
        (subst (λ v. IsCost kind v) (sym s.residual) (IsCost-quotient kind s.weight b k.0 s.best_kind), λ e. s.not_zero (sym s.undone ∙ (ap (times kind b) e ∙ times_zero kind b)))

  -- A word has one subset.
  pub one_subset : (word : List ℕ) (b c : Cost) (s t : List Member) → IsSubset kind g word b s → IsSubset kind g word c t → (b ≡ c) × (s ≡ t)
  one_subset word b c s t one two =
      let e : b ≡ c = one_least (SpellsSome kind g word) b c one.least two.least in
      (e, ascending_same (λ m. m.state) s t one.ascends two.ascends (record { there = λ m h. within b c s t one two e m h; back = λ m h. within c b t s two one (sym e) m h }))
    where
      within : (b c : Cost) (s t : List Member) → IsSubset kind g word b s → IsSubset kind g word c t → b ≡ c → (m : Member) → Has s m → Has t m
      within b c s t one two e m h =
          let l = one.listed m h in
          let reached = least_reached (Spells kind g word m.state) l.0 l.1 l.2 in
          let there = two.all m.state l.0 reached.0 l.2 in
          let other = two.listed (record { state = m.state; residual = there.0 }) there.1 in
          let same : l.0 ≡ other.0 = one_least (Spells kind g word m.state) l.0 other.0 l.1 other.1 in
          let residuals : there.0 ≡ m.residual = other.3 ∙ (sym (ap₂ (quotient kind) same e) ∙ sym l.3) in
          subst (λ (r : Cost). Has t (record { state = m.state; residual = r })) residuals there.1
