-- What the generator draws: how many lines, and that the arcs of the second machine stand by their input labels.
use Rattle.std.proofs.Common.{◌≡◌, inr, ℕ, zero, suc, ◌+◌, ◌<◌, All, length, get_or, refl, sym, ap, ◌∙◌, subst, arith}
use Rattle.std.proofs.lemmas.List.Elements.{All-cons, All-nil}
use Rattle.fst_semiring.specs.Cost.{Cost}
use Rattle.fst_machine.specs.Machine.{Arc, Machine, State}
use Rattle.fst_trim.specs.declared.side.Side.TheVariants.{Input}
use Rattle.fst_trim.specs.Sides.{IsSortedOn, StandsBy}
use Rattle.fst_compose.specs.Answers.{IsSorted}
use Rattle.fst_lattice.specs.Cascade.{behind_first, drawn_lines, letters, second_arcs, second_machine, second_size, second_states}
use Rattle.fst_lattice.specs.Draws.{after, drawn, skip}

pub drawn_count : (x n : ℕ) → length (drawn_lines x n) ≡ n
unfolding drawn_lines
drawn_count x zero = refl
drawn_count x (suc n) = ap suc (drawn_count (skip 1 (after x 1) (1 + drawn x 0 12)) n)

arcs_drawn : (x b n : ℕ) → length (second_arcs x b n) ≡ n
unfolding second_arcs
arcs_drawn x b zero = refl
arcs_drawn x b (suc n) = ap suc (arcs_drawn (after x 2) (b + 1) n)

-- the labels count up
label_drawn : (x b n i : ℕ) (a : Arc Cost ℕ) → i < n → (get_or (second_arcs x b n) i a).ilabel ≡ b + i
unfolding second_arcs
label_drawn x b zero i a low = absurd (omega (arith, low))
label_drawn x b (suc n) zero a low = omega arith
label_drawn x b (suc n) (suc i) a low = label_drawn (after x 2) (b + 1) n i a (omega (arith, low)) ∙ omega arith

arcs_stand : (x b n : ℕ) → StandsBy Input (second_arcs x b n)
arcs_stand x b n i j a order low =
    let size = arcs_drawn x b n in
    let first = label_drawn x b n i a (omega (arith, order, low)) in
    let second = label_drawn x b n j a (omega (arith, low)) in
    omega (arith, order)

states_stand : (x n : ℕ) → All (λ (s : State Cost). StandsBy Input s.arcs) (second_states x n)
unfolding second_states
states_stand x zero = All-nil (λ (s : State Cost). StandsBy Input s.arcs)
states_stand x (suc n) = All-cons (λ (s : State Cost). StandsBy Input s.arcs) _ _ (arcs_stand x 97 letters) (states_stand (skip 2 x letters) n)

-- any machine may be composed with the second
pub sorted_drawn : (seed : ℕ) (a b : Machine Cost) → b ≡ second_machine seed → IsSorted a b
sorted_drawn seed a b is = inr (subst (λ (m : Machine Cost). IsSortedOn Input m) (sym is) (states_stand (behind_first seed) second_size))
