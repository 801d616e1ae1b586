-- A worker that serves its jobs, one after the other.
use Rattle.std.proofs.Common.{◌≡◌, ◌≢◌, inl, inr, ⊎_elim, ℕ, zero, suc, ◌+◌, ◌<◌, ◌≤◌, List, [], ◌∷◌, ◌++◌, Some, length, set, slice_get, length-set, refl, sym, ap, ◌∙◌, subst, arith}
use Rattle.std.proofs.lemmas.Bool.{cases_eq}
use Rattle.std.proofs.lemmas.List.{map-append}
use Rattle.fst_semiring.specs.Cost.{Cost}
use Rattle.fst_semiring.specs.declared.arc_type.ArcType.{ArcType}
use Rattle.fst_machine.specs.BreadthFirst.{Has}
use Rattle.fst_machine.specs.Machine.{Arc, Machine}
use Rattle.fst_machine.proofs.Elements.{Has-append_cases, Has-append_left, Has-append_right, at_Has}
use Rattle.fst_delayed.specs.Caches.{Entries, keys}
use Rattle.fst_delayed.specs.Coding.{code_of}
use Rattle.fst_delayed.specs.Graphs.{delayed_graph}
use Rattle.fst_delayed.specs.Handed.{Name}
use Rattle.fst_lattice.specs.Needed.{IsNeeded}
use Rattle.fst_lattice.specs.Serving.{IsBlocked, IsGrown, IsJobOf, IsNeededBy, IsSameJob, IsServed, IsSettled}
use Rattle.fst_lattice.specs.Walks.{AreAmong, IsJob, LineWalk}
use Rattle.fst_lattice.proofs.Blocking.{blocked_later}
use Rattle.fst_lattice.proofs.Own.{job_known}

pub get_set_same : {X : Type 0} (xs : List X) (i : ℕ) (y : X) → i < length xs → slice_get (set xs i y) i ≡ Some y
get_set_same [] i y low = absurd (omega arith)
get_set_same (x ∷ xs) zero y low = refl
get_set_same (x ∷ xs) (suc i) y low = get_set_same xs i y (omega arith)

pub get_set_other : {X : Type 0} (xs : List X) (i k : ℕ) (y : X) → k ≢ i → slice_get (set xs i y) k ≡ slice_get xs k
get_set_other [] i k y far = refl
get_set_other (x ∷ xs) zero zero y far = absurd (far refl)
get_set_other (x ∷ xs) zero (suc k) y far = refl
get_set_other (x ∷ xs) (suc i) zero y far = refl
get_set_other (x ∷ xs) (suc i) (suc k) y far = get_set_other xs i k y (λ e. far (ap suc e))

keys_of_more : {V : Type 0} (own new more : Entries V (Name ℕ ℕ)) → new ≡ own ++ more → keys new ≡ keys own ++ keys more
keys_of_more {V} own new more grown = ap keys grown ∙ map-append (λ (e : Name ℕ ℕ × List (Arc V (Name ℕ ℕ))). e.0) own more

module _ {W V : Type 0} (kind : ArcType) (weight : W → Cost) (value : V → Cost) (d : Machine W × Machine W) (lines : List (List ℕ)) (places : ℕ) (cache own new : Entries V (Name ℕ ℕ)) (found later : List (ℕ × ℕ))
    (line : List ℕ) (limit : ℕ) (grown : IsGrown places line (delayed_graph kind weight d) limit own new found later) where
  known_more : AreAmong (keys cache ++ keys own) (keys cache ++ keys new)
  known_more n h = ⊎_elim (λ (l : Has (keys cache) n). Has-append_left (keys cache) (keys new) n l)
      (λ (r : Has (keys own) n). Has-append_right (keys cache) (keys new) n (subst (λ ns. Has ns n) (sym (keys_of_more own new grown.more grown.entries)) (Has-append_left (keys own) (keys grown.more) n r)))
      (Has-append_cases (keys cache) (keys own) n h)

  job_of_later : (w : LineWalk) → IsJobOf kind weight value d lines (keys cache ++ keys own) w → IsJobOf kind weight value d lines (keys cache ++ keys new) w
  job_of_later w h = record { line = h.line; there = h.there; job = job_known kind weight d h.line (keys cache ++ keys own) (keys cache ++ keys new) w h.job known_more }

  -- what is settled stays so
  settled_later : (w : LineWalk) → IsSettled places cache own found w → IsSettled places cache new later w
  settled_later w (inl over) = inl over
  settled_later w (inr h) = inr (record {
    at = h.at;
    head = h.head;
    not_known = λ k. ⊎_elim (λ (l : Has (keys cache) h.at.name). h.not_known (Has-append_left (keys cache) (keys own) h.at.name l))
        (λ (r : Has (keys new) h.at.name). ⊎_elim (λ (o : Has (keys own) h.at.name). h.not_known (Has-append_right (keys cache) (keys own) h.at.name o)) (λ (m : Has (keys grown.more) h.at.name). grown.fresh h.at.name m h.blocked)
        (Has-append_cases (keys own) (keys grown.more) h.at.name (subst (λ ns. Has ns h.at.name) (keys_of_more own new grown.more grown.entries) r)))
        (Has-append_cases (keys cache) (keys new) h.at.name k);
    blocked = subst (λ xs. IsBlocked places xs (code_of h.at.name)) (sym grown.finds) (blocked_later places found grown.seen (code_of h.at.name) h.blocked);
  })

  pub served_later : (v w : LineWalk) → IsServed kind weight value d lines places cache own found v w → IsServed kind weight value d lines places cache new later v w
  served_later v w h = record { same = h.same; job_of = job_of_later w h.job_of; settled = settled_later w h.settled }

  -- what was expanded before is needed, and what this job brought
  pub needed_more : (jobs : List LineWalk) (job : LineWalk) → Has jobs job → slice_get lines job.index ≡ Some line → job.limit ≡ limit → ((n : Name ℕ ℕ) → Has (keys own) n → IsNeededBy kind weight value d lines jobs n)
      → (n : Name ℕ ℕ) → Has (keys new) n → IsNeededBy kind weight value d lines jobs n
  needed_more jobs job among there same old n h = ⊎_elim (λ (o : Has (keys own) n). old n o)
      (λ (m : Has (keys grown.more) n). record { job = job; among = among; line = line; there = there; need = subst (λ (l : ℕ). IsNeeded line (delayed_graph kind weight d) l n) (sym same) (grown.needed n m) })
      (Has-append_cases (keys own) (keys grown.more) n (subst (λ ns. Has ns n) (keys_of_more own new grown.more grown.entries) h))

-- the jobs so far are served, the others are as they were
pub record IsServing {W V : Type 0} (kind : ArcType) (weight : W → Cost) (value : V → Cost) (d : Machine W × Machine W) (lines : List (List ℕ)) (places : ℕ) (cache own : Entries V (Name ℕ ℕ)) (found : List (ℕ × ℕ)) (jobs now : List LineWalk) (i : ℕ) : Type 0 where
  pub size : length now ≡ length jobs
  pub done : (k : ℕ) (w : LineWalk) → k < i → slice_get now k ≡ Some w → (v : LineWalk) × (slice_get jobs k ≡ Some v) × IsServed kind weight value d lines places cache own found v w
  pub rest : (k : ℕ) → i ≤ k → slice_get now k ≡ slice_get jobs k
  pub needed : (n : Name ℕ ℕ) → Has (keys own) n → IsNeededBy kind weight value d lines jobs n

module _ {W V : Type 0} (kind : ArcType) (weight : W → Cost) (value : V → Cost) (d : Machine W × Machine W) (lines : List (List ℕ)) (places : ℕ) (cache : Entries V (Name ℕ ℕ)) (jobs : List LineWalk) where
  pub serving_begins : (found : List (ℕ × ℕ)) → IsServing kind weight value d lines places cache [] found jobs jobs 0
  serving_begins found = record { size = refl; done = λ k w low at. absurd (omega (arith, low)); rest = λ k low. refl; needed = λ n h. absurd h }

  -- one more job was served
  pub serving_goes : (own new : Entries V (Name ℕ ℕ)) (found later : List (ℕ × ℕ)) (now : List LineWalk) (i : ℕ) (v w : LineWalk) (line : List ℕ) → IsServing kind weight value d lines places cache own found jobs now i → i < length now → slice_get now i ≡ Some v
      → slice_get lines v.index ≡ Some line → IsGrown places line (delayed_graph kind weight d) v.limit own new found later → IsSameJob v w → IsJob kind weight d line (keys cache ++ keys new) w → IsSettled places cache new later w
      → IsServing kind weight value d lines places cache new later jobs (set now i w) (i + 1)
  serving_goes own new found later now i v w line h low at there grown same job settled = record {
    size = length-set now i w ∙ h.size;
    done = λ k u below here. ⊎_elim
        (λ (e : k ≡ i).
        let last : w ≡ u = first w u (sym (get_set_same now i w low) ∙ (ap (slice_get (set now i w)) (sym e) ∙ here)) in
        (v, ap (slice_get jobs) e ∙ (sym (h.rest i (omega arith)) ∙ at), subst (IsServed kind weight value d lines places cache new later v) last (record { same = same; job_of = record { line = line; there = ap (slice_get lines) same.0 ∙ there; job = job }; settled = settled })))
        (λ (n : k ≡ i → ⊥).
        let old = h.done k u (omega (arith, below, n)) (sym (get_set_other now i k w n) ∙ here) in
        (old.0, old.1, served_later kind weight value d lines places cache own new found later line v.limit grown old.0 u old.2))
        (cases_eq k i);
    rest = λ k above. get_set_other now i k w (λ e. omega (arith, e, above)) ∙ h.rest k (omega (arith, above));
    needed = needed_more kind weight value d lines places cache own new found later line v.limit grown jobs v (at_Has jobs i v (sym (h.rest i (omega arith)) ∙ at)) there refl h.needed;
  }
    where
      first : (a b : LineWalk) → Some a ≡ Some b → a ≡ b
      first a b e = cc
