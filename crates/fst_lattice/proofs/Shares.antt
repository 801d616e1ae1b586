-- The answers of workers are put behind each other.
use Rattle.std.proofs.Common.{◌≡◌, ℕ, zero, suc, ◌+◌, ◌<◌, List, [], ◌∷◌, ◌++◌, Option, None, Some, length, map, take, slice_get, refl, sym, ap, ◌∙◌, subst, append_assoc, append-nil, arith}
use Rattle.std.specs.Prelude.{IfSome, MatchOption}
use Rattle.std.specs.Global.{Vec}
use Rattle.std.specs.List.{AllZip}
use Rattle.std.proofs.lemmas.List.{length-map, take_all}
use Rattle.fst_machine.proofs.Arcs.{at_mapped, mapped_at}
use Rattle.fst_lattice.specs.Phases.{AreEach, Laborer}
use Rattle.fst_lattice.specs.Runs.{all_lines, job_lines}
use Rattle.fst_lattice.specs.Walks.{LineWalk}
use Rattle.fst_lattice.proofs.Numbers.{lines_more, zip_append}

-- what is said of a share before and after, of what is the same as these
pub share_says : {S A : Type 0} (v v' w w' : S) → v ≡ v' → w ≡ w' → (R : ℕ → A → Type 0) (jobs_of : S → List LineWalk) (answers_of : S → Option (Vec A)) → IfSome (answers_of w) (λ answers. AllZip R (job_lines (jobs_of v)) answers.items)
    → IfSome (answers_of w') (λ answers. AllZip R (job_lines (jobs_of v')) answers.items)
share_says {S} {A} v v' w w' same same' R jobs_of answers_of h =
    subst (λ (x : S). IfSome (answers_of w') (λ (answers : Vec A). AllZip R (job_lines (jobs_of x)) answers.items)) same
    (subst (λ (x : S). IfSome (answers_of x) (λ (answers : Vec A). AllZip R (job_lines (jobs_of v)) answers.items)) same' h)

module _ {V M : Type 0} (workers : List (Laborer V M)) where
  -- the jobs of these workers
  abbrev pub all_jobs : List (List LineWalk)
  all_jobs = map (λ w. w.jobs) workers

  -- the worker whose jobs stand in a place
  pub share_there : (i : ℕ) (jobs : List LineWalk) → slice_get all_jobs i ≡ Some jobs → (w : Laborer V M) × (slice_get workers i ≡ Some w) × (w.jobs ≡ jobs)
  share_there i jobs at = mapped_at (λ (w : Laborer V M). w.jobs) workers i jobs at

module _ {V M A : Type 0} (R : ℕ → A → Type 0) (workers : List (Laborer V M)) where
  -- the answers of so many workers were put behind these
  pub record AreCollected (done : ℕ) (old now : List A) : Type 0 where
    pub more : List A
    pub grown : now ≡ old ++ more
    pub right : AllZip R (all_lines (take done workers)) more

  more_collected : (done : ℕ) (w : Laborer V M) (answers old now new : List A) → AreCollected done old now → done < length workers → slice_get workers done ≡ Some w → AllZip R (job_lines w.jobs) answers → new ≡ now ++ answers
      → AreCollected (done + 1) old new
  more_collected done w answers old now new h low there right grown = record {
    more = h.more ++ answers;
    grown = grown ∙ (ap (λ xs. xs ++ answers) h.grown ∙ append_assoc old h.more answers);
    right = subst (λ (ns : List ℕ). AllZip R ns (h.more ++ answers)) (sym (lines_more workers done w low there))
        (zip_append R (all_lines (take done workers)) h.more (job_lines w.jobs) answers h.right right);
  }

  -- these are left, which are those of the other workers
  pub record AreCollecting (old now : List A) (left : List (Option (Vec A))) : Type 0 where
    pub done : ℕ
    pub collected : AreCollected done old now
    pub size : done + length left ≡ length workers
    pub each : (k : ℕ) (w : Laborer V M) (share : Option (Vec A)) → slice_get workers (done + k) ≡ Some w → slice_get left k ≡ Some share → IfSome share (λ answers. AllZip R (job_lines w.jobs) answers.items)

  -- shares with these jobs, and the same with their answers
  pub collecting_begins : {S : Type 0} (jobs_of : S → List LineWalk) (answers_of : S → Option (Vec A)) (shares answered : List S) (old : List A) → map jobs_of shares ≡ all_jobs workers
      → AreEach (λ share now. IfSome (answers_of now) (λ answers. AllZip R (job_lines (jobs_of share)) answers.items)) shares answered → AreCollecting old old (map answers_of answered)
  collecting_begins {S} jobs_of answers_of shares answered old are h = record {
    done = 0;
    collected = record { more = []; grown = sym (append-nil old); right = tt };
    size = let a = length-map answered answers_of in let b = length-map shares jobs_of in let c = length-map workers (λ (w : Laborer V M). w.jobs) in let d = ap length are in omega (arith, a, b, c, d, h.size);
    each = λ k w share there at.
        let here : 0 + k ≡ k = omega arith in
        let now = mapped_at answers_of answered k share at in
        let v = h.each k now.0 now.1 in
        let own = at_mapped (λ (u : Laborer V M). u.jobs) workers k w (ap (slice_get workers) (sym here) ∙ there) in
        let same : jobs_of v.0 ≡ w.jobs = one (jobs_of v.0) w.jobs (sym (at_mapped jobs_of shares k v.0 v.1) ∙ (ap (λ xs. slice_get xs k) are ∙ own)) in
        subst (λ (o : Option (Vec A)). IfSome o (λ answers. AllZip R (job_lines w.jobs) answers.items)) now.2
        (subst (λ (js : List LineWalk). IfSome (answers_of now.0) (λ answers. AllZip R (job_lines js) answers.items)) same v.2);
  }
    where
      one : {X : Type 0} (a b : X) → Some a ≡ Some b → a ≡ b
      one a b e = cc

  pub collecting_goes : (old now new : List A) (left rest : List (Option (Vec A))) (share : Option (Vec A)) → AreCollecting old now left → left ≡ share ∷ rest → MatchOption share ⊥ (λ more. new ≡ now ++ more.items) → AreCollecting old new rest
  collecting_goes old now new left rest None h is none = absurd none
  collecting_goes old now new left rest (Some answers) h is grown =
      let first : h.done + 0 ≡ h.done = omega arith in
      let long = ap length is in
      let low : h.done < length workers = omega (arith, long, h.size) in
      let w = element workers h.done low in
      record {
        done = h.done + 1;
        collected = more_collected h.done w.0 answers.items old now new h.collected low w.1 (h.each 0 w.0 (Some answers) (ap (slice_get workers) first ∙ w.1) (ap (λ xs. slice_get xs 0) is)) grown;
        size = omega (arith, long, h.size);
        each = λ k v share there at.
            let next : h.done + suc k ≡ (h.done + 1) + k = omega arith in
            h.each (suc k) v share (ap (slice_get workers) next ∙ there) (ap (λ xs. slice_get xs (suc k)) is ∙ at);
      }
    where
      element : {X : Type 0} (xs : List X) (i : ℕ) → i < length xs → (x : X) × (slice_get xs i ≡ Some x)
      element [] i low = absurd (omega arith)
      element (x ∷ xs) zero low = (x, refl)
      element (x ∷ xs) (suc i) low = element xs i (omega (arith, low))

  pub collecting_ends : (old now : List A) (left : List (Option (Vec A))) → AreCollecting old now left → length left ≡ 0 → (more : List A) × (now ≡ old ++ more) × AllZip R (all_lines workers) more
  collecting_ends old now left h none =
      (h.collected.more, h.collected.grown, subst (λ (ws : List (Laborer V M)). AllZip R (all_lines ws) h.collected.more) (take_all h.done workers (let size = h.size in omega (arith, size, none))) h.collected.right)
