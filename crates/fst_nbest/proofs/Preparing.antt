-- A machine with its distances and counts, read.
use Rattle.std.proofs.Common.{◌≡◌, ℕ, ◌<◌, suc, true, false, List, [], ◌∷◌, ◌++◌, Option, Some, length, map, get_or, slice_get, refl, sym, ap, ap₂, subst, ◌∙◌, arith}
use Rattle.std.proofs.lemmas.Option.{get_or_from_slice_get, slice_get_read}
use Rattle.fst_semiring.specs.Cost.{Cost, best, finite, infinite, is_infinite}
use Rattle.fst_semiring.specs.declared.arc_type.ArcType.{ArcType}
use Rattle.fst_semiring.specs.Semiring.{times}
use Rattle.fst_machine.specs.Machine.{Arc}
use Rattle.fst_machine.specs.Graph.{Graph}
use Rattle.fst_machine.proofs.Arcs.{at_mapped}
use Rattle.fst_nbest.specs.declared.turns.Turn.{Turn}
use Rattle.fst_nbest.specs.Words.{Ahead, ahead_of, ahead_of_stop, ahead_of_step}
use Rattle.fst_nbest.specs.PathWords.{solid, toward, arc_step, path_words}
use Rattle.fst_nbest.specs.Turns.{HasTurn}
use Rattle.fst_nbest.specs.Ready.{count_in, dist_in}

pub dist_is : {D : Type 0} (wide : D → Cost) (dist : List D) (q : ℕ) (x : D) → q < length dist → x ≡ get_or dist q x → wide x ≡ dist_in wide dist q
dist_is wide dist q x low is = sym (get_or_from_slice_get (map wide dist) q (wide x) infinite (at_mapped wide dist q x (slice_get_read dist (length dist) q x refl low is)))

-- a count that is read at the end of an arc
pub count_there : (held counts : List ℕ) (size n at next x : ℕ) → length held ≡ size → size ≡ n → next < n → held ≡ counts → at ≡ next → x ≡ get_or held at x → x ≡ count_in counts next
count_there held counts size n at next x long states low same to is =
    let inside : at < length held = omega (arith, long, states, low, to) in
    sym (get_or_from_slice_get held at x 0 (slice_get_read held (length held) at x refl inside is)) ∙ ap₂ (λ (l : List ℕ) (q : ℕ). get_or l q 0) same to

module _ {D : Type 0} (value : D → Cost) (kind : ArcType) (g : Graph ℕ) (dist : ℕ → Cost) (count : ℕ → ℕ) where
  pub stop_none : (f : Cost) (turns : List (Turn D)) → true ≡ is_infinite f → HasTurn value 0 (ahead_of_stop kind (path_words g dist) dist count (solid f)) turns turns
  stop_none best turns e = absurd (cc)
  stop_none (finite a b) turns e = absurd (cc)
  stop_none infinite turns e = refl

  pub stop_some : (f : Cost) (t : Turn D) (turns new : List (Turn D)) → false ≡ is_infinite f → value t.total ≡ f → t.arcs ≡ 0 → t.turn ≡ 0 → new ≡ turns ++ t ∷ [] → HasTurn value 0 (ahead_of_stop kind (path_words g dist) dist count (solid f)) turns new
  stop_some best t turns new e total arcs turn put = (t, put, turn, total, arcs)
  stop_some (finite a b) t turns new e total arcs turn put = (t, put, turn, total, arcs)
  stop_some infinite t turns new e total arcs turn put = absurd (cc)

  module _ (q k m : ℕ) (a : Arc Cost ℕ) (next : m ≡ suc k) (here : slice_get (g.arcs q) k ≡ Some a) where
    ahead_is : ahead_of kind (path_words g dist) dist count q m ≡ ahead_of_step kind (path_words g dist) dist count (toward (dist a.next) (a.weight, a.next))
    ahead_is = ap (ahead_of kind (path_words g dist) dist count q) next ∙ ap (λ (o : Option (Arc Cost ℕ)). ahead_of_step kind (path_words g dist) dist count (arc_step dist o)) here

    pub step_none : (turns : List (Turn D)) → true ≡ is_infinite (dist a.next) → HasTurn value m (ahead_of kind (path_words g dist) dist count q m) turns turns
    step_none turns e = subst (λ (o : Option Ahead). HasTurn value m o turns turns) (sym ahead_is) (by (dist a.next) e)
      where
        by : (d : Cost) → true ≡ is_infinite d → HasTurn value m (ahead_of_step kind (path_words g dist) dist count (toward d (a.weight, a.next))) turns turns
        by best e = absurd (cc)
        by (finite x y) e = absurd (cc)
        by infinite e = refl

    pub step_some : (t : Turn D) (turns new : List (Turn D)) → false ≡ is_infinite (dist a.next) → value t.total ≡ times kind a.weight (dist a.next) → t.arcs ≡ suc (count a.next) → t.turn ≡ m → new ≡ turns ++ t ∷ [] → HasTurn value m (ahead_of kind (path_words g dist) dist count q m) turns new
    step_some t turns new e total arcs turn put = subst (λ (o : Option Ahead). HasTurn value m o turns new) (sym ahead_is) (by (dist a.next) e)
      where
        by : (d : Cost) → false ≡ is_infinite d → HasTurn value m (ahead_of_step kind (path_words g dist) dist count (toward d (a.weight, a.next))) turns new
        by best e = (t, put, turn, total, arcs)
        by (finite x y) e = (t, put, turn, total, arcs)
        by infinite e = absurd (cc)
