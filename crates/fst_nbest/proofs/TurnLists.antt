-- Lists of moves with what is ahead of them, as they grow.
use Rattle.std.proofs.Common.{◌≡◌, ◌≢◌, ◌⊎◌, inl, inr, ℕ, ◌+◌, ◌<◌, ◌≤◌, zero, suc, List, [], ◌∷◌, ◌++◌, Option, None, Some, length, map, slice_get, refl, sym, ap, subst, ◌∙◌, arith}
use Rattle.std.proofs.lemmas.Bool.{cases_eq, cases_lt}
use Rattle.std.proofs.lemmas.List.{map-append}
use Rattle.std.proofs.lemmas.Option.{same_Some, slice_get_past}
use Rattle.fst_semiring.specs.Cost.{Cost}
use Rattle.fst_semiring.specs.declared.arc_type.ArcType.{ArcType}
use Rattle.fst_semiring.specs.Semiring.{times}
use Rattle.fst_machine.specs.BreadthFirst.{Has, Apart}
use Rattle.fst_machine.specs.Machine.{Arc}
use Rattle.fst_machine.specs.Graph.{Graph}
use Rattle.fst_machine.proofs.Elements.{Apart-push, Has-append_cases, Has-append_left, Has-append_right}
use Rattle.fst_nbest.specs.declared.turns.Turn.{Turn}
use Rattle.fst_nbest.specs.Turns.{AreTurns, AreTurnsBelow, HasTurn}
use Rattle.fst_nbest.specs.Words.{Words, Ahead, ahead_of, ahead_of_stop, ahead_of_step}
use Rattle.fst_nbest.specs.PathWords.{arc_step, path_words, solid, toward}
use Rattle.fst_nbest.proofs.PathWords.{solid_some, toward_some}
use Rattle.fst_nbest.proofs.Searches.{Has-map}

module _ {N D : Type 0} (kind : ArcType) (g : Words N) (dist : N → Cost) (count : N → ℕ) (value : D → Cost) (x : N) where
  pub turns_begin : (turns : List (Turn D)) → turns ≡ [] → AreTurnsBelow kind g dist count value x 0 turns
  turns_begin turns none = subst (λ (l : List (Turn D)). AreTurnsBelow kind g dist count value x 0 l) (sym none) (record {
    each = λ t there. absurd there;
    all = λ k e low is. absurd (omega (arith, low));
    apart = tt;
  })

  pub turns_next : (m : ℕ) (turns new : List (Turn D)) → AreTurnsBelow kind g dist count value x m turns → HasTurn value m (ahead_of kind g dist count x m) turns new → AreTurnsBelow kind g dist count value x (m + 1) new
  turns_next m turns new before has = by (ahead_of kind g dist count x m) refl has
    where
      by : (o : Option Ahead) → ahead_of kind g dist count x m ≡ o → HasTurn value m o turns new → AreTurnsBelow kind g dist count value x (m + 1) new
      by None none same = subst (λ (l : List (Turn D)). AreTurnsBelow kind g dist count value x (m + 1) l) (sym same) (record {
        each = λ t there. (let r = before.each t there in let low = r.0 in (omega (arith, low), r.1));
        all = λ k e low is. by_place k e low is (cases_eq k m);
        apart = before.apart;
      })
        where
          by_place : (k : ℕ) (e : Ahead) → k < m + 1 → ahead_of kind g dist count x k ≡ Some e → (k ≡ m) ⊎ (k ≡ m → ⊥) → (t : Turn D) × Has turns t × (t.turn ≡ k)
          by_place k e low is (inl here) = absurd (let wrong : None ≡ Some e = sym none ∙ (ap (ahead_of kind g dist count x) (sym here) ∙ is) in cc)
          by_place k e low is (inr other) = before.all k e (let l : (k ≡ m → ⊥) = other in omega (arith, low, l)) is
      by (Some e) some (t, put, turn, total, arcs) = subst (λ (l : List (Turn D)). AreTurnsBelow kind g dist count value x (m + 1) l) (sym put) (record {
        each = λ s there. by_turn s (Has-append_cases turns (t ∷ []) s there);
        all = λ k f low is. by_place k f low is (cases_eq k m);
        apart = subst Apart (sym (map-append (λ (s : Turn D). s.turn) turns (t ∷ []))) (Apart-push (map (λ (s : Turn D). s.turn) turns) t.turn before.apart (λ there. not_yet there));
      })
        where
          is_ahead : ahead_of kind g dist count x t.turn ≡ Some (record { total = value t.total; arcs = t.arcs })
          is_ahead = ap (ahead_of kind g dist count x) turn ∙ (some ∙ ap Some (λ i. record { total = sym total i; arcs = sym arcs i }))

          by_turn : (s : Turn D) → Has turns s ⊎ Has (t ∷ []) s → (s.turn < m + 1) × (ahead_of kind g dist count x s.turn ≡ Some (record { total = value s.total; arcs = s.arcs }))
          by_turn s (inl old) = let r = before.each s old in let low = r.0 in (omega (arith, low), r.1)
          by_turn s (inr (inl e)) = subst (λ (z : Turn D). (z.turn < m + 1) × (ahead_of kind g dist count x z.turn ≡ Some (record { total = value z.total; arcs = z.arcs }))) e (omega (arith, turn), is_ahead)
          by_turn s (inr (inr none)) = absurd none

          by_place : (k : ℕ) (f : Ahead) → k < m + 1 → ahead_of kind g dist count x k ≡ Some f → (k ≡ m) ⊎ (k ≡ m → ⊥) → (s : Turn D) × Has (turns ++ t ∷ []) s × (s.turn ≡ k)
          by_place k f low is (inl here) = (t, Has-append_right turns (t ∷ []) t (inl refl), turn ∙ sym here)
          by_place k f low is (inr other) =
              let r = before.all k f (let l : (k ≡ m → ⊥) = other in omega (arith, low, l)) is in
              (r.0, Has-append_left turns (t ∷ []) r.0 r.1, r.2)

          not_yet : Has (map (λ (s : Turn D). s.turn) turns) t.turn → ⊥
          not_yet there =
              let from = Has-map (λ (s : Turn D). s.turn) turns t.turn there in
              let low = (before.each from.0 from.1).0 in
              let same = from.2 in
              omega (arith, low, same, turn)

  pub turns_done : (m : ℕ) (turns : List (Turn D)) → AreTurnsBelow kind g dist count value x m turns → ((k : ℕ) → m ≤ k → ahead_of kind g dist count x k ≡ None) → AreTurns kind g dist count value x turns
  turns_done m turns before none = record {
    each = λ t there. (before.each t there).1;
    all = λ k e is. by k e is (cases_lt k m);
    apart = before.apart;
  }
    where
      by : (k : ℕ) (e : Ahead) → ahead_of kind g dist count x k ≡ Some e → (k < m) ⊎ (m ≤ k) → (t : Turn D) × Has turns t × (t.turn ≡ k)
      by k e is (inl low) = before.all k e low is
      by k e is (inr past) = absurd (let wrong : None ≡ Some e = sym (none k past) ∙ is in cc)

module _ {N : Type 0} (kind : ArcType) (g : Graph N) (dist : N → Cost) (count : N → ℕ) (x : N) where
  -- past the arcs there is no move
  pub no_move : (k : ℕ) → suc (length (g.arcs x)) ≤ k → ahead_of kind (path_words g dist) dist count x k ≡ None
  no_move zero past = absurd (omega (arith, past))
  no_move (suc k) past = ap (λ (o : Option (Arc Cost N)). ahead_of_step kind (path_words g dist) dist count (arc_step dist o)) (slice_get_past (g.arcs x) k (omega (arith, past)))

  -- a move with something ahead is by an arc
  pub move_place : (k : ℕ) → ahead_of kind (path_words g dist) dist count x (suc k) ≢ None → k < length (g.arcs x)
  move_place k some = by (cases_lt k (length (g.arcs x)))
    where
      by : (k < length (g.arcs x)) ⊎ (length (g.arcs x) ≤ k) → k < length (g.arcs x)
      by (inl low) = low
      by (inr past) = absurd (some (no_move (suc k) (omega (arith, past))))

  pub step_place : (k : ℕ) → (path_words g dist).step x k ≢ None → k < length (g.arcs x)
  step_place k some = by (cases_lt k (length (g.arcs x)))
    where
      by : (k < length (g.arcs x)) ⊎ (length (g.arcs x) ≤ k) → k < length (g.arcs x)
      by (inl low) = low
      by (inr past) = absurd (some (ap (arc_step dist) (slice_get_past (g.arcs x) k past)))

  -- what is ahead of an arc
  pub move_ahead : (k : ℕ) (a : Arc Cost N) (e : Ahead) → slice_get (g.arcs x) k ≡ Some a → ahead_of kind (path_words g dist) dist count x (suc k) ≡ Some e → (e.total ≡ times kind a.weight (dist a.next)) × (e.arcs ≡ suc (count a.next))
  move_ahead k a e here is = by (toward (dist a.next) (a.weight, a.next)) refl (sym (ap (λ (o : Option (Arc Cost N)). ahead_of_step kind (path_words g dist) dist count (arc_step dist o)) here) ∙ is)
    where
      by : (o : Option (Cost × N)) → toward (dist a.next) (a.weight, a.next) ≡ o → ahead_of_step kind (path_words g dist) dist count o ≡ Some e → (e.total ≡ times kind a.weight (dist a.next)) × (e.arcs ≡ suc (count a.next))
      by None none h = absurd (cc)
      by (Some s) some h =
          let same : (a.weight, a.next) ≡ s = (toward_some (dist a.next) (a.weight, a.next) s some).0 in
          let made : (record { total = times kind s.0 (dist s.1); arcs = suc (count s.1) }) ≡ e = same_Some _ e h in (
            sym (ap (λ (f : Ahead). f.total) made) ∙ sym (ap (λ (p : Cost × N). times kind p.0 (dist p.1)) same),
            sym (ap (λ (f : Ahead). f.arcs) made) ∙ sym (ap (λ (p : Cost × N). suc (count p.1)) same),
          )

  -- what is ahead of stopping
  pub stop_ahead : (e : Ahead) → ahead_of kind (path_words g dist) dist count x 0 ≡ Some e → (e.total ≡ g.final x) × (e.arcs ≡ 0)
  stop_ahead e is = by (solid (g.final x)) refl is
    where
      by : (o : Option Cost) → solid (g.final x) ≡ o → ahead_of_stop kind (path_words g dist) dist count o ≡ Some e → (e.total ≡ g.final x) × (e.arcs ≡ 0)
      by None none h = absurd (cc)
      by (Some v) some h =
          let made : (record { total = v; arcs = 0 }) ≡ e = same_Some _ e h in
          (sym (ap (λ (q : Ahead). q.total) made) ∙ sym (solid_some (g.final x) v some).0, sym (ap (λ (q : Ahead). q.arcs) made))

  -- a step is an arc
  pub step_value : (k : ℕ) (a : Arc Cost N) → slice_get (g.arcs x) k ≡ Some a → (path_words g dist).step x k ≢ None → (path_words g dist).step x k ≡ Some (a.weight, a.next)
  step_value k a here some = ap (arc_step dist) here ∙ by (toward (dist a.next) (a.weight, a.next)) refl
    where
      by : (o : Option (Cost × N)) → toward (dist a.next) (a.weight, a.next) ≡ o → toward (dist a.next) (a.weight, a.next) ≡ Some (a.weight, a.next)
      by None none = absurd (some (ap (arc_step dist) here ∙ none))
      by (Some s) is = is ∙ ap Some (sym (toward_some (dist a.next) (a.weight, a.next) s is).0)
