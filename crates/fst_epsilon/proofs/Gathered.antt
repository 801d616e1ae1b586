-- Arcs and final weights that are gathered one after the other.
use Rattle.std.proofs.Common.{◌≡◌, ℕ, Bool, true, false, cond, zero, suc, List, [], ◌∷◌, ◌++◌, Option, None, Some, map, get_or, slice_get, refl, sym, ap, ◌∙◌, append_assoc, append-nil}
use Rattle.std.specs.Option.{option_map}
use Rattle.std.proofs.lemmas.Option.{same_Some}
use Rattle.fst_semiring.specs.Cost.{Cost, infinite, plus}
use Rattle.fst_semiring.specs.declared.arc_type.ArcType.{ArcType}
use Rattle.fst_semiring.specs.Semiring.{times}
use Rattle.fst_semiring.proofs.Order.{plus_assoc, plus_comm}
use Rattle.fst_machine.specs.Graph.{Graph, no_state}
use Rattle.fst_machine.specs.Machine.{Arc, State, valued_arc, valued_state}
use Rattle.fst_epsilon.specs.Construction.{behind_arc, best_final, collected, is_silent, merged, put_arc, spoken}

-- the arcs of a state that was read are those of the graph
pub arcs_read : {V : Type 0} (value : V → Cost) (states : List (State V)) (q : ℕ) (arcs : List (Arc V ℕ)) → option_map (λ s. s.arcs) (slice_get states q) ≡ Some arcs → (get_or (map (valued_state value) states) q no_state).arcs ≡ map (valued_arc value) arcs
arcs_read {V} value [] q arcs is = absurd (let wrong : ◌≡◌ {A = Option (List (Arc V ℕ))} None (Some arcs) = is in cc)
arcs_read value (s ∷ states) zero arcs is = ap (map (valued_arc value)) (same_Some s.arcs arcs is)
arcs_read value (s ∷ states) (suc q) arcs is = arcs_read value states q arcs is

pub merged-append : (done xs ys : List (Arc Cost ℕ)) → merged done (xs ++ ys) ≡ merged (merged done xs) ys
merged-append done [] ys = refl
merged-append done (x ∷ xs) ys = merged-append (put_arc done x) xs ys

module _ (kind : ArcType) (c : Cost) where
  -- an epsilon arc more changes nothing
  pub spoken-silent : (arcs : List (Arc Cost ℕ)) (a : Arc Cost ℕ) → is_silent a ≡ true → spoken kind c (arcs ++ a ∷ []) ≡ spoken kind c arcs
  spoken-silent [] a e = ap (λ (t : Bool). cond t [] (behind_arc kind c a ∷ [])) e
  spoken-silent (z ∷ arcs) a e = ap (λ (zs : List (Arc Cost ℕ)). cond (is_silent z) zs (behind_arc kind c z ∷ zs)) (spoken-silent arcs a e)

  -- any other stands after the others
  pub spoken-loud : (arcs : List (Arc Cost ℕ)) (a : Arc Cost ℕ) → is_silent a ≡ false → spoken kind c (arcs ++ a ∷ []) ≡ spoken kind c arcs ++ behind_arc kind c a ∷ []
  spoken-loud [] a e = ap (λ (t : Bool). cond t [] (behind_arc kind c a ∷ [])) e
  spoken-loud (z ∷ arcs) a e = ap (λ (zs : List (Arc Cost ℕ)). cond (is_silent z) zs (behind_arc kind c z ∷ zs)) (spoken-loud arcs a e) ∙ sym (by (is_silent z))
    where
      by : (t : Bool) → cond t (spoken kind c arcs) (behind_arc kind c z ∷ spoken kind c arcs) ++ behind_arc kind c a ∷ [] ≡ cond t (spoken kind c arcs ++ behind_arc kind c a ∷ []) (behind_arc kind c z ∷ (spoken kind c arcs ++ behind_arc kind c a ∷ []))
      by true = refl
      by false = refl

module _ (kind : ArcType) (g : Graph ℕ) where
  pub collected-push : (closure : List (ℕ × Cost)) (q : ℕ) (d : Cost) → collected kind g (closure ++ (q, d) ∷ []) ≡ collected kind g closure ++ spoken kind d (g.arcs q)
  collected-push [] q d = append-nil (spoken kind d (g.arcs q))
  collected-push (e ∷ closure) q d = ap (λ (zs : List (Arc Cost ℕ)). spoken kind e.1 (g.arcs e.0) ++ zs) (collected-push closure q d) ∙ sym (append_assoc (spoken kind e.1 (g.arcs e.0)) (collected kind g closure) (spoken kind d (g.arcs q)))

  pub best-push : (closure : List (ℕ × Cost)) (q : ℕ) (d : Cost) → best_final kind g (closure ++ (q, d) ∷ []) ≡ plus (best_final kind g closure) (times kind d (g.final q))
  best-push [] q d = plus_comm (times kind d (g.final q)) infinite
  best-push (e ∷ closure) q d = ap (plus (times kind e.1 (g.final e.0))) (best-push closure q d) ∙ sym (plus_assoc (times kind e.1 (g.final e.0)) (best_final kind g closure) (times kind d (g.final q)))
