-- The entries of a machine describe it.
use Rattle.std.proofs.Common.{◌≡◌, ℕ, ◌+◌, ◌<◌, ◌≤◌, ◌==◌, zero, suc, Bool, true, false, cond, List, [], ◌∷◌, ◌++◌, length, map, take, get_or, Some, refl, sym, ap, ◌∙◌, subst, arith, append-nil}
use Rattle.std.specs.List.{slice_get}
use Rattle.std.proofs.Math.Seq.{take-suc}
use Rattle.std.proofs.lemmas.List.{take_all, map-append}
use Rattle.std.proofs.lemmas.Option.{slice_get-get_or}
use Rattle.std.proofs.lemmas.Bool.{eq-eqb}
use Rattle.std.proofs.lemmas.Bool.Decides.{nat_tests}
use Rattle.fst_semiring.specs.Cost.{Cost, best, finite, infinite, is_infinite}
use Rattle.fst_machine.specs.Machine.{Arc, State}
use Rattle.fst_text.specs.Entries.{Entry, arc_entry, arcs_from, final_entry, from_zero, last_weight}
use Rattle.fst_text.specs.Printed.{final_entries, other_entries, state_entries}
use Rattle.fst_text.proofs.Numbers.{equal_is}

-- what entries one behind the other say of a state
arcs_from-append : (n : ℕ) (a b : List Entry) → arcs_from n (a ++ b) ≡ arcs_from n a ++ arcs_from n b
arcs_from-append n [] b = refl
arcs_from-append n (arc_entry s x ∷ a) b = go (n == s) (arcs_from-append n a b) where
  go : (here : Bool) → arcs_from n (a ++ b) ≡ arcs_from n a ++ arcs_from n b → cond here (x ∷ arcs_from n (a ++ b)) (arcs_from n (a ++ b)) ≡ cond here (x ∷ arcs_from n a) (arcs_from n a) ++ arcs_from n b
  go true e = ap (λ xs. x ∷ xs) e
  go false e = e
arcs_from-append n (final_entry s w ∷ a) b = arcs_from-append n a b

weight-append : (n : ℕ) (a b : List Entry) (w : Cost) → last_weight w n (a ++ b) ≡ last_weight (last_weight w n a) n b
weight-append n [] b w = refl
weight-append n (arc_entry s x ∷ a) b w = weight-append n a b w
weight-append n (final_entry s v ∷ a) b w = go (n == s) (weight-append n a b v) (weight-append n a b w) where
  go : (here : Bool) → last_weight v n (a ++ b) ≡ last_weight (last_weight v n a) n b → last_weight w n (a ++ b) ≡ last_weight (last_weight w n a) n b → cond here (last_weight v n (a ++ b)) (last_weight w n (a ++ b)) ≡ last_weight (cond here (last_weight v n a) (last_weight w n a)) n b
  go true p q = p
  go false p q = q

-- the arc entries of one state
own-arcs : (q : ℕ) (arcs : List (Arc Cost ℕ)) → arcs_from q (map (arc_entry q) arcs) ≡ arcs
own-arcs q [] = refl
own-arcs q (a ∷ arcs) = ap (λ b. cond b (a ∷ arcs_from q (map (arc_entry q) arcs)) (arcs_from q (map (arc_entry q) arcs))) (eq-eqb q q refl) ∙ ap (λ xs. a ∷ xs) (own-arcs q arcs)

other-arcs : (n q : ℕ) (arcs : List (Arc Cost ℕ)) → (n == q) ≡ false → arcs_from n (map (arc_entry q) arcs) ≡ []
other-arcs n q [] e = refl
other-arcs n q (a ∷ arcs) e = ap (λ b. cond b (a ∷ arcs_from n (map (arc_entry q) arcs)) (arcs_from n (map (arc_entry q) arcs))) e ∙ other-arcs n q arcs e

arcs-weight : (n q : ℕ) (arcs : List (Arc Cost ℕ)) (w : Cost) → last_weight w n (map (arc_entry q) arcs) ≡ w
arcs-weight n q [] w = refl
arcs-weight n q (a ∷ arcs) w = arcs-weight n q arcs w

final-arcs : (n q : ℕ) (w : Cost) (arcs : List (Arc Cost ℕ)) → arcs_from n (final_entries q w arcs) ≡ []
final-arcs n q w [] = refl
final-arcs n q w (a ∷ arcs) = go (is_infinite w) where
  go : (zero_is : Bool) → arcs_from n (cond zero_is [] (final_entry q w ∷ [])) ≡ []
  go true = refl
  go false = refl

zero-is : (w : Cost) → is_infinite w ≡ true → w ≡ infinite
zero-is best e = absurd (cc)
zero-is (finite a b) e = absurd (cc)
zero-is infinite e = refl

own-final : (q : ℕ) (w : Cost) (arcs : List (Arc Cost ℕ)) → last_weight infinite q (final_entries q w arcs) ≡ w
own-final q w [] = ap (λ b. cond b w infinite) (eq-eqb q q refl)
own-final q w (a ∷ arcs) = go (is_infinite w) refl where
  go : (zero_is : Bool) → is_infinite w ≡ zero_is → last_weight infinite q (cond zero_is [] (final_entry q w ∷ [])) ≡ w
  go true e = sym (zero-is w e)
  go false e = ap (λ b. cond b w infinite) (eq-eqb q q refl)

other-final : (n q : ℕ) (w v : Cost) (arcs : List (Arc Cost ℕ)) → (n == q) ≡ false → last_weight v n (final_entries q w arcs) ≡ v
other-final n q w v [] e = ap (λ b. cond b w v) e
other-final n q w v (a ∷ arcs) e = go (is_infinite w) where
  go : (zero_is : Bool) → last_weight v n (cond zero_is [] (final_entry q w ∷ [])) ≡ v
  go true = refl
  go false = ap (λ b. cond b w v) e

-- what entries say of a state: its arcs, and its final weight where none is known before
pub record Says (n : ℕ) (es : List Entry) (s : State Cost) : Type 0 where
  pub arcs : arcs_from n es ≡ s.arcs
  pub final : last_weight infinite n es ≡ s.final

-- entries that say nothing of a state
pub record Silent (n : ℕ) (es : List Entry) : Type 0 where
  pub arcs : arcs_from n es ≡ []
  pub final : (w : Cost) → last_weight w n es ≡ w

own-says : (q : ℕ) (s : State Cost) → Says q (state_entries q s) s
own-says q s =
    let lines = map (arc_entry q) s.arcs in
    let last = final_entries q s.final s.arcs in
    record {
      arcs = arcs_from-append q lines last ∙ ap (λ xs. xs ++ arcs_from q last) (own-arcs q s.arcs) ∙ ap (λ xs. s.arcs ++ xs) (final-arcs q q s.final s.arcs) ∙ append-nil s.arcs;
      final = weight-append q lines last infinite ∙ ap (λ w. last_weight w q last) (arcs-weight q q s.arcs infinite) ∙ own-final q s.final s.arcs;
    }

other-silent : (n q : ℕ) (s : State Cost) → (n == q) ≡ false → Silent n (state_entries q s)
other-silent n q s e =
    let lines = map (arc_entry q) s.arcs in
    let last = final_entries q s.final s.arcs in
    record {
      arcs = arcs_from-append n lines last ∙ ap (λ xs. xs ++ arcs_from n last) (other-arcs n q s.arcs e) ∙ final-arcs n q s.final s.arcs;
      final = λ w. weight-append n lines last w ∙ ap (λ v. last_weight v n last) (arcs-weight n q s.arcs w) ∙ other-final n q s.final w s.arcs e;
    }

silent-append : (n : ℕ) (a b : List Entry) → Silent n a → Silent n b → Silent n (a ++ b)
silent-append n a b ha hb = record {
  arcs = arcs_from-append n a b ∙ ap (λ xs. xs ++ arcs_from n b) ha.arcs ∙ hb.arcs;
  final = λ w. weight-append n a b w ∙ ap (λ v. last_weight v n b) (ha.final w) ∙ hb.final w;
}

says-silent : (n : ℕ) (a b : List Entry) (s : State Cost) → Says n a s → Silent n b → Says n (a ++ b) s
says-silent n a b s ha hb = record {
  arcs = arcs_from-append n a b ∙ ap (λ xs. xs ++ arcs_from n b) ha.arcs ∙ ap (λ xs. s.arcs ++ xs) hb.arcs ∙ append-nil s.arcs;
  final = weight-append n a b infinite ∙ ap (λ w. last_weight w n b) ha.final ∙ hb.final s.final;
}

silent-says : (n : ℕ) (a b : List Entry) (s : State Cost) → Silent n a → Says n b s → Says n (a ++ b) s
silent-says n a b s ha hb = record {
  arcs = arcs_from-append n a b ∙ ap (λ xs. xs ++ arcs_from n b) ha.arcs ∙ hb.arcs;
  final = weight-append n a b infinite ∙ ap (λ w. last_weight w n b) (ha.final infinite) ∙ hb.final;
}

nothing-silent : (n : ℕ) → Silent n []
nothing-silent n = record { arcs = refl; final = λ w. refl }

apart : (n m : ℕ) → (n ≡ m → ⊥) → (n == m) ≡ false
apart n m h = grind (arith, nat_tests)

skipped : (n start q : ℕ) (s : State Cost) → (n ≡ q → ⊥) → Silent n (cond (q == start) [] (state_entries q s))
skipped n start q s h = go (q == start) where
  go : (skip : Bool) → Silent n (cond skip [] (state_entries q s))
  go true = nothing-silent n
  go false = other-silent n q s (apart n q h)

-- the other states say nothing of those before them, and nothing of the start
others-before : (n start k : ℕ) (states : List (State Cost)) → n < k → Silent n (other_entries start k states)
others-before n start k [] low = nothing-silent n
others-before n start k (s ∷ states) low = silent-append n (cond (k == start) [] (state_entries k s)) (other_entries start (k + 1) states) (skipped n start k s (λ e. absurd (omega arith))) (others-before n start (k + 1) states (omega arith))

others-start : (start k : ℕ) (states : List (State Cost)) → Silent start (other_entries start k states)
others-start start k [] = nothing-silent start
others-start start k (s ∷ states) = silent-append start (cond (k == start) [] (state_entries k s)) (other_entries start (k + 1) states) (go (k == start) refl) (others-start start (k + 1) states) where
  go : (skip : Bool) → (k == start) ≡ skip → Silent start (cond skip [] (state_entries k s))
  go true e = nothing-silent start
  go false e = other-silent start k s (grind (arith, nat_tests))

-- and of each other state what it is
others-say : (start k i : ℕ) (states : List (State Cost)) (s : State Cost) → slice_get states i ≡ Some s → (k + i ≡ start → ⊥) → Says (k + i) (other_entries start k states) s
others-say start k i [] s h apart_from = absurd (cc)
others-say start k zero (t ∷ states) s h apart_from =
    let same : t ≡ s = cc in
    let at : k ≡ k + 0 = omega arith in
    let test : (k == start) ≡ false = apart k start (λ e. apart_from (omega arith)) in
    subst (λ (n : ℕ). Says n (other_entries start k (t ∷ states)) s) at
    (subst (λ (b : Bool). Says k (cond b [] (state_entries k t) ++ other_entries start (k + 1) states) s) (sym test)
    (subst (λ (u : State Cost). Says k (state_entries k u ++ other_entries start (k + 1) states) s) (sym same)
    (says-silent k (state_entries k s) (other_entries start (k + 1) states) s (own-says k s) (others-before k start (k + 1) states (omega arith)))))
others-say start k (suc i) (t ∷ states) s h apart_from =
    let at : k + 1 + i ≡ k + suc i = omega arith in
    subst (λ (n : ℕ). Says n (other_entries start k (t ∷ states)) s) at
    (silent-says (k + 1 + i) (cond (k == start) [] (state_entries k t)) (other_entries start (k + 1) states) s (skipped (k + 1 + i) start k t (λ e. absurd (omega arith))) (others-say start (k + 1) i states s h (λ e. apart_from (omega arith))))

-- the entries of a machine with a start say of each state what it is
pub machine-says : (start : ℕ) (states : List (State Cost)) (first : State Cost) (i : ℕ) (s : State Cost) → slice_get states start ≡ Some first → slice_get states i ≡ Some s → Says i (state_entries start first ++ other_entries start 0 states) s
machine-says start states first i s hf hs = go (i == start) refl where
  go : (here : Bool) → (i == start) ≡ here → Says i (state_entries start first ++ other_entries start 0 states) s
  go true e =
      let same : i ≡ start = equal_is i start e in
      let one : first ≡ s = let at = ap (slice_get states) same in cc in
      subst (λ (u : State Cost). Says i (state_entries start u ++ other_entries start 0 states) s) (sym one)
      (subst (λ (n : ℕ). Says n (state_entries start s ++ other_entries start 0 states) s) (sym same)
      (says-silent start (state_entries start s) (other_entries start 0 states) s (own-says start s) (others-start start 0 states)))
  go false e =
      let at : 0 + i ≡ i = omega arith in
      let says : Says (0 + i) (other_entries start 0 states) s = others-say start 0 i states s hs (λ same. absurd (let t = eq-eqb i start (omega arith) in cc)) in
      silent-says i (state_entries start first) (other_entries start 0 states) s (other-silent i start first e) (subst (λ (n : ℕ). Says n (other_entries start 0 states) s) at says)

-- a list by its places
pub map-from_zero : {X : Type 0} (f : ℕ → X) (xs : List X) (d : X) → ((i : ℕ) (x : X) → slice_get xs i ≡ Some x → f i ≡ x) → map f (from_zero (length xs)) ≡ xs
map-from_zero {X} f xs d h = front (length xs) (omega arith) ∙ take_all (length xs) xs (omega arith) where
  front : (k : ℕ) → k ≤ length xs → map f (from_zero k) ≡ take k xs
  front zero low = refl
  front (suc k) low =
      map-append f (from_zero k) (k ∷ [])
      ∙ ap (λ ys. ys ++ f k ∷ []) (front k (omega arith))
      ∙ ap (λ y. take k xs ++ y ∷ []) (h k (get_or xs k d) (slice_get-get_or xs k d (omega arith)))
      ∙ sym (take-suc xs k d (omega arith))
