-- What a name says that goes on by an epsilon arc.
use Rattle.std.proofs.Common.{◌≡◌, ◌⊎◌, inl, inr, ℕ, ◌<◌, List, [], ◌∷◌, ◌++◌, length, refl, sym, ap, ap₂, subst, ◌∙◌}
use Rattle.fst_semiring.specs.Cost.{Cost, infinite}
use Rattle.fst_semiring.specs.declared.arc_type.ArcType.{ArcType}
use Rattle.fst_semiring.specs.Semiring.{times}
use Rattle.fst_semiring.proofs.Laws.{times_assoc}
use Rattle.fst_machine.specs.Graph.{Graph}
use Rattle.fst_machine.specs.Letters.{input, output, product}
use Rattle.fst_machine.specs.Paths.{Transition, IsPath, letters}
use Rattle.fst_machine.specs.Relation.{RelFrom}
use Rattle.fst_machine.specs.Renaming.{moved}
use Rattle.fst_machine.specs.Continuing.{epsilon_arc, Continues, Stays, GoesOn}
use Rattle.fst_machine.proofs.Letters.{letters-append, input-append, output-append, product-append}
use Rattle.fst_machine.proofs.Renaming.{moved-letters}
use Rattle.fst_machine.proofs.Continuing.{continued_on, continued_cases, continued_stays, GoesOn-input, GoesOn-output, GoesOn-product}

-- What is said from c on is said by fewer arcs.
pub record Splits (kind : ArcType) (g h : Graph ℕ) (c p : ℕ) (x y : List ℕ) (w : Cost) (n : ℕ) : Type 0 where
  pub input_front : List ℕ
  pub input_back : List ℕ
  pub output_front : List ℕ
  pub output_back : List ℕ
  pub weight_front : Cost
  pub weight_back : Cost
  pub front : RelFrom kind g p input_front output_front weight_front
  pub back : RelFrom kind h c input_back output_back weight_back
  pub reads : x ≡ input_front ++ input_back
  pub writes : y ≡ output_front ++ output_back
  pub weight : w ≡ times kind weight_front weight_back
  pub shorter : length back.path < n

module _ (kind : ArcType) (f : ℕ → ℕ) (g h : Graph ℕ) (D : ℕ → Type 0) (c : ℕ) (s : Continues f g h D c) where
  -- a name that goes on says what it says, and then what is said from c on
  pub continue_says : (p : ℕ) (x y u v : List ℕ) (w k : Cost) → D p → RelFrom kind g p x y w → RelFrom kind h c u v k → RelFrom kind h (f p) (x ++ u) (y ++ v) (times kind w k)
  continue_says p x y u v w k within one two =
      let on = continued_on f g h D c s p one.last one.path two.path two.last within one.leads one.final two.leads in
      let t : Transition ℕ = record { state = f one.last; place = on.0; arc = epsilon_arc (g.final one.last) c } in
      let apart = letters-append (moved f one.path) (t ∷ two.path) in
      let same = moved-letters f one.path in
      let reads : input (letters (moved f one.path ++ (t ∷ two.path))) ≡ input (letters one.path) ++ input (letters two.path) = ap input apart ∙ (input-append (letters (moved f one.path)) (letters (t ∷ two.path)) ∙ ap (λ ls. input ls ++ input (letters two.path)) same) in
      let writes : output (letters (moved f one.path ++ (t ∷ two.path))) ≡ output (letters one.path) ++ output (letters two.path) = ap output apart ∙ (output-append (letters (moved f one.path)) (letters (t ∷ two.path)) ∙ ap (λ ls. output ls ++ output (letters two.path)) same) in
      let weight : product kind (letters (moved f one.path ++ (t ∷ two.path))) ≡ times kind (times kind (product kind (letters one.path)) (g.final one.last)) (product kind (letters two.path)) =
      ap (product kind) apart ∙ (product-append kind (letters (moved f one.path)) (letters (t ∷ two.path)) ∙ (ap (λ ls. times kind (product kind ls) (times kind (g.final one.last) (product kind (letters two.path)))) same ∙ sym (times_assoc kind (product kind (letters one.path)) (g.final one.last) (product kind (letters two.path))))) in
      record {
        path = moved f one.path ++ (t ∷ two.path);
        last = two.last;
        leads = on.1;
        final = two.final;
        reads = ap₂ (λ (a b : List ℕ). a ++ b) one.reads two.reads ∙ sym reads;
        writes = ap₂ (λ (a b : List ℕ). a ++ b) one.writes two.writes ∙ sym writes;
        weight = ap₂ (times kind) one.weight two.weight ∙ (sym (times_assoc kind (times kind (product kind (letters one.path)) (g.final one.last)) (product kind (letters two.path)) (h.final two.last)) ∙ ap (λ z. times kind z (h.final two.last)) (sym weight));
      }

  -- and nothing else, unless it stays
  pub continue_splits : (p q : ℕ) (x y : List ℕ) (w : Cost) → q ≡ f p → D p → (r : RelFrom kind h q x y w) → Stays f g D p r.path r.last ⊎ Splits kind g h c p x y w (length r.path)
  continue_splits p q x y w e within r = by_case (continued_cases f g h D c s p r.path r.last within (subst (λ (z : ℕ). IsPath h z r.path r.last) e r.leads))
    where
      by_case : Stays f g D p r.path r.last ⊎ GoesOn f g h D c p r.path r.last → Stays f g D p r.path r.last ⊎ Splits kind g h c p x y w (length r.path)
      by_case (inl stays) = inl stays
      by_case (inr on) = inr (record {
        input_front = input (letters on.old);
        input_back = input (letters on.rest);
        output_front = output (letters on.old);
        output_back = output (letters on.rest);
        weight_front = times kind (product kind (letters on.old)) (g.final on.end);
        weight_back = times kind (product kind (letters on.rest)) (h.final r.last);
        front = record { path = on.old; last = on.end; leads = on.leads; final = on.final; reads = refl; writes = refl; weight = refl };
        back = record { path = on.rest; last = r.last; leads = on.goes; final = r.final; reads = refl; writes = refl; weight = refl };
        reads = r.reads ∙ GoesOn-input f g h D c s p r.path r.last on;
        writes = r.writes ∙ GoesOn-output f g h D c s p r.path r.last on;
        weight = r.weight ∙ (ap (λ z. times kind z (h.final r.last)) (GoesOn-product f g h D c s kind p r.path r.last on) ∙ times_assoc kind (times kind (product kind (letters on.old)) (g.final on.end)) (product kind (letters on.rest)) (h.final r.last));
        shorter = on.shorter;
      })

  -- where it stays it says what its name says
  pub stays_says : (p q : ℕ) (x y : List ℕ) (w : Cost) (r : RelFrom kind h q x y w) (stays : Stays f g D p r.path r.last) → h.final (f stays.end) ≡ g.final stays.end → RelFrom kind g p x y w
  stays_says p q x y w r stays e =
      let same : letters r.path ≡ letters stays.old = ap letters (sym stays.same) ∙ moved-letters f stays.old in
      let final : h.final r.last ≡ g.final stays.end = ap h.final (sym stays.ends) ∙ e in
      record {
        path = stays.old;
        last = stays.end;
        leads = stays.leads;
        final = subst (λ (z : Cost). z ≡ infinite → ⊥) final r.final;
        reads = r.reads ∙ ap input same;
        writes = r.writes ∙ ap output same;
        weight = r.weight ∙ ap₂ (times kind) (ap (product kind) same) final;
      }

  -- a path from a name of the domain ends at one
  ends_within : (p q : ℕ) (path : List (Transition ℕ)) → D p → IsPath g p path q → D q
  ends_within p q [] within here = subst D here within
  ends_within p q (t ∷ path) within leads = ends_within t.arc.next q path (s.within p t.place t.arc within leads.0.1) leads.1

  -- where final weights stay, its other name says what it says
  pub stays_said : (p : ℕ) (x y : List ℕ) (w : Cost) → D p → ((n : ℕ) → D n → h.final (f n) ≡ g.final n) → RelFrom kind g p x y w → RelFrom kind h (f p) x y w
  stays_said p x y w within finals r =
      let same : letters (moved f r.path) ≡ letters r.path = moved-letters f r.path in
      let final : h.final (f r.last) ≡ g.final r.last = finals r.last (ends_within p r.last r.path within r.leads) in
      record {
        path = moved f r.path;
        last = f r.last;
        leads = continued_stays f g h D c s p r.last r.path within r.leads;
        final = subst (λ (z : Cost). z ≡ infinite → ⊥) (sym final) r.final;
        reads = r.reads ∙ ap input (sym same);
        writes = r.writes ∙ ap output (sym same);
        weight = r.weight ∙ ap₂ (times kind) (ap (product kind) (sym same)) (sym final);
      }
