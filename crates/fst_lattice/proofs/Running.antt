-- What a worker has done after its run.
use Rattle.std.proofs.Common.{◌≡◌, ◌+◌, ℕ, List, Bool, true, true≢false, Some, Result, Ok, Err, length, sym, ap, ◌∙◌, subst, is_ok, ◌++◌, take, arith}
use Rattle.std.proofs.lemmas.List.{take-append-le, take_all}
use Rattle.std.specs.Prelude.{OnOk}
use Rattle.fst_semiring.specs.Cost.{Cost}
use Rattle.fst_semiring.specs.declared.arc_type.ArcType.{ArcType}
use Rattle.fst_machine.specs.Machine.{Machine}
use Rattle.fst_claims.specs.declared.table.Claims.{Claims}
use Rattle.fst_claims.specs.declared.table.Pass.{Pass}
use Rattle.fst_claims.specs.Passes.{IsPassOf, found, parts, won}
use Rattle.fst_delayed.specs.Caches.{Entries}
use Rattle.fst_delayed.specs.Graphs.{delayed_graph}
use Rattle.fst_delayed.specs.Handed.{Name}
use Rattle.fst_lattice.specs.Phases.{HasRun, IsReady, Laborer}
use Rattle.fst_lattice.specs.Serving.{HasServed, IsOwn}
use Rattle.fst_lattice.specs.Walks.{LineWalk}

pub on_ok : {X E : Type 0} (r : Result X E) (P : Type 0) → is_ok r ≡ true → OnOk r P → P
on_ok (Ok x) P e h = h
on_ok (Err y) P e h = absurd (true≢false (sym e))

module _ {W V M : Type 0} (kind : ArcType) (weight : W → Cost) (value : V → Cost) (count parts_out : M → ℕ) (is_part : M → Bool) (d : Machine W × Machine W) (lines : List (List ℕ)) (cache : Entries V (Name ℕ ℕ)) (t : Claims) where
  -- what `work` says, of a worker as it was and is
  pub has_run : {X E : Type 0} (r : Result X E) (v w inside : Laborer V M) (seat before : Pass) (jobs now : List LineWalk) → now ≡ w.jobs → inside ≡ v → IsReady kind weight value count parts_out is_part d lines cache t v
      → Some before ≡ inside.pass → jobs ≡ inside.jobs → w.pass ≡ Some seat → IsPassOf t seat → parts seat ≡ parts before → w.served ≡ is_ok r
      → OnOk r (IsOwn value (delayed_graph kind weight d) cache w.own (won seat)) → OnOk r (HasServed kind weight value d lines t.places cache w.own (found seat) jobs now) → OnOk r (count w.meter ≡ count inside.meter + length w.own)
      → OnOk r ((parts_out w.meter ≡ parts_out inside.meter) × (is_part w.meter ≡ is_part inside.meter)) → HasRun kind weight value count parts_out is_part d lines cache t v w
  has_run r v w inside seat before jobs now now_is same ready was job_is pass of one served own done counted meter = record {
    seat = seat;
    pass = pass;
    of = of;
    one = one ∙ (ap parts seat_is ∙ ready.one);
    done = λ e.
        let ok = sym served ∙ e in
        let m = on_ok r ((parts_out w.meter ≡ parts_out inside.meter) × (is_part w.meter ≡ is_part inside.meter)) ok meter in
        record {
          own = on_ok r (IsOwn value (delayed_graph kind weight d) cache w.own (won seat)) ok own;
          jobs = subst (λ (js : List LineWalk). HasServed kind weight value d lines t.places cache w.own (found seat) js w.jobs) (job_is ∙ ap (λ (x : Laborer V M). x.jobs) same)
              (subst (HasServed kind weight value d lines t.places cache w.own (found seat) jobs) now_is (on_ok r (HasServed kind weight value d lines t.places cache w.own (found seat) jobs now) ok done));
          counted = on_ok r (count w.meter ≡ count inside.meter + length w.own) ok counted ∙ ap (λ (x : Laborer V M). count x.meter + length w.own) same;
          out = m.0 ∙ ap (λ (x : Laborer V M). parts_out x.meter) same;
          part = m.1 ∙ ap (λ (x : Laborer V M). is_part x.meter) same;
        };
  }
    where
      first : (a b : Pass) → Some a ≡ Some b → a ≡ b
      first a b e = cc

      seat_is : before ≡ ready.seat
      seat_is = first before ready.seat (was ∙ (ap (λ (x : Laborer V M). x.pass) same ∙ ready.pass))

-- what a slice of a whole list leaves there
pub whole_left : {X : Type 0} (n : ℕ) (ws ys : List X) → length ws ≡ n → ws ≡ take n (ws ++ ys)
whole_left n ws ys e = sym (take-append-le n ws ys (omega (arith, e)) ∙ take_all n ws (omega (arith, e)))
