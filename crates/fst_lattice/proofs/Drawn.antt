-- What the loops of the generator have made, and what is left to make.
use Rattle.std.proofs.Common.{◌≡◌, ◌≢◌, ℕ, zero, suc, ◌+◌, ◌-◌, ◌*◌, ◌/◌, ◌<◌, ◌≤◌, List, [], ◌∷◌, ◌++◌, length, refl, sym, ap, ap₂, ◌∙◌, subst, append_assoc, append-nil, length-append, mod-lt, arith}
use Rattle.std.specs.List.{All}
use Rattle.std.proofs.lemmas.List.Elements.{All-cons, All-nil, All-push}
use Rattle.std.proofs.lemmas.List.Sums.{sum_by_push}
use Rattle.fst_semiring.specs.Cost.{Cost, infinite}
use Rattle.fst_machine.specs.Machine.{Arc, IsArc, State, arc_total}
use Rattle.fst_lattice.specs.Cascade.{behind_arcs, drawn_letters, drawn_lines, first_arcs, first_end, first_states, letter_arc, letters, same_arc, second_arcs, second_end, second_states, silent_arc, two_arcs, whole}
use Rattle.fst_lattice.specs.Draws.{after, drawn, skip}

left : (e b : ℕ) → b < e → e - b ≡ suc (e - (b + 1))
left e b low = omega arith

none_left : (e b : ℕ) → e ≤ b → e - b ≡ 0
none_left e b done = omega arith

pub skip_more : (d e b x x' all : ℕ) → b < e → x' ≡ after x d → skip d x (e - b) ≡ all → skip d x' (e - (b + 1)) ≡ all
unfolding skip
skip_more d e b x x' all low is h = ap (λ (y : ℕ). skip d y (e - (b + 1))) is ∙ (ap (skip d x) (sym (left e b low)) ∙ h)

pub skip_done : (d e b x all : ℕ) → e ≤ b → skip d x (e - b) ≡ all → x ≡ all
unfolding skip
skip_done d e b x all done h = ap (skip d x) (sym (none_left e b done)) ∙ h

-- more of a list, of which this is the front, by one step of its making
module _ {X : Type 0} (made : ℕ → ℕ → ℕ → List X) where
  more_of : (e b x x' : ℕ) (out new step all : List X) → b < e → new ≡ out ++ step → made x b (suc (e - (b + 1))) ≡ step ++ made x' (b + 1) (e - (b + 1))
      → out ++ made x b (e - b) ≡ all → new ++ made x' (b + 1) (e - (b + 1)) ≡ all
  more_of e b x x' out new step all low grown next h =
      ap (λ xs. xs ++ made x' (b + 1) (e - (b + 1))) grown ∙ (append_assoc out step (made x' (b + 1) (e - (b + 1))) ∙ (ap (λ xs. out ++ xs) (sym next) ∙ (ap (λ (n : ℕ). out ++ made x b n) (sym (left e b low)) ∙ h)))

  done_of : (e b x : ℕ) (out all : List X) → e ≤ b → made x b 0 ≡ [] → out ++ made x b (e - b) ≡ all → out ≡ all
  done_of e b x out all done nothing h = sym (append-nil out) ∙ (ap (λ xs. out ++ xs) (sym nothing) ∙ (ap (λ (n : ℕ). out ++ made x b n) (sym (none_left e b done)) ∙ h))

pub first_arcs_more : (e b x x' : ℕ) (out new all : List (Arc Cost ℕ)) → b < e → new ≡ out ++ two_arcs x b → x' ≡ after x 5 → out ++ first_arcs x b (e - b) ≡ all → new ++ first_arcs x' (b + 1) (e - (b + 1)) ≡ all
unfolding first_arcs
first_arcs_more e b x x' out new all low grown is h = more_of first_arcs e b x x' out new (two_arcs x b) all low grown (ap (λ (y : ℕ). two_arcs x b ++ first_arcs y (b + 1) (e - (b + 1))) (sym is)) h

pub first_arcs_done : (e b x : ℕ) (out all : List (Arc Cost ℕ)) → e ≤ b → out ++ first_arcs x b (e - b) ≡ all → out ≡ all
unfolding first_arcs
first_arcs_done e b x out all done h = done_of first_arcs e b x out all done refl h

pub second_arcs_more : (e b x x' : ℕ) (out new all : List (Arc Cost ℕ)) → b < e → new ≡ out ++ same_arc x b ∷ [] → x' ≡ after x 2 → out ++ second_arcs x b (e - b) ≡ all → new ++ second_arcs x' (b + 1) (e - (b + 1)) ≡ all
unfolding second_arcs
second_arcs_more e b x x' out new all low grown is h = more_of second_arcs e b x x' out new (same_arc x b ∷ []) all low grown (ap (λ (y : ℕ). same_arc x b ∷ second_arcs y (b + 1) (e - (b + 1))) (sym is)) h

pub second_arcs_done : (e b x : ℕ) (out all : List (Arc Cost ℕ)) → e ≤ b → out ++ second_arcs x b (e - b) ≡ all → out ≡ all
unfolding second_arcs
second_arcs_done e b x out all done h = done_of second_arcs e b x out all done refl h

pub letters_more : (e b x x' : ℕ) (out new all : List ℕ) → b < e → new ≡ out ++ (97 + drawn x 0 letters) ∷ [] → x' ≡ after x 1 → out ++ drawn_letters x (e - b) ≡ all → new ++ drawn_letters x' (e - (b + 1)) ≡ all
unfolding drawn_letters
letters_more e b x x' out new all low grown is h = more_of (λ y c n. drawn_letters y n) e b x x' out new ((97 + drawn x 0 letters) ∷ []) all low grown (ap (λ (y : ℕ). (97 + drawn x 0 letters) ∷ drawn_letters y (e - (b + 1))) (sym is)) h

pub letters_done : (e b x : ℕ) (out all : List ℕ) → e ≤ b → out ++ drawn_letters x (e - b) ≡ all → out ≡ all
unfolding drawn_letters
letters_done e b x out all done h = done_of (λ y c n. drawn_letters y n) e b x out all done refl h

pub lines_more : (e b x x' : ℕ) (out new all : List (List ℕ)) → b < e → new ≡ out ++ drawn_letters (after x 1) (1 + drawn x 0 12) ∷ [] → x' ≡ skip 1 (after x 1) (1 + drawn x 0 12)
    → out ++ drawn_lines x (e - b) ≡ all → new ++ drawn_lines x' (e - (b + 1)) ≡ all
unfolding drawn_lines
lines_more e b x x' out new all low grown is h =
    more_of (λ y c n. drawn_lines y n) e b x x' out new (drawn_letters (after x 1) (1 + drawn x 0 12) ∷ []) all low grown (ap (λ (y : ℕ). drawn_letters (after x 1) (1 + drawn x 0 12) ∷ drawn_lines y (e - (b + 1))) (sym is)) h

pub lines_done : (e b x : ℕ) (out all : List (List ℕ)) → e ≤ b → out ++ drawn_lines x (e - b) ≡ all → out ≡ all
unfolding drawn_lines
lines_done e b x out all done h = done_of (λ y c n. drawn_lines y n) e b x out all done refl h

-- the state of the first machine where the generator has this state
abbrev pub first_state : ℕ → State Cost
first_state x = record { final = whole (drawn (behind_arcs x) 0 5); arcs = first_arcs x 97 letters }

abbrev pub second_state : ℕ → State Cost
second_state x = record { final = whole 0; arcs = second_arcs x 97 letters }

pub first_states_more : (e b x x' : ℕ) (out new all : List (State Cost)) → b < e → new ≡ out ++ first_state x ∷ [] → x' ≡ after (behind_arcs x) 1 → out ++ first_states x (e - b) ≡ all → new ++ first_states x' (e - (b + 1)) ≡ all
unfolding first_states
first_states_more e b x x' out new all low grown is h = more_of (λ y c n. first_states y n) e b x x' out new (first_state x ∷ []) all low grown (ap (λ (y : ℕ). first_state x ∷ first_states y (e - (b + 1))) (sym is)) h

pub first_states_done : (e b x : ℕ) (out all : List (State Cost)) → e ≤ b → out ++ first_states x (e - b) ≡ all → out ≡ all
unfolding first_states
first_states_done e b x out all done h = done_of (λ y c n. first_states y n) e b x out all done refl h

pub first_end_more : (e b x x' all : ℕ) → b < e → x' ≡ after (behind_arcs x) 1 → first_end x (e - b) ≡ all → first_end x' (e - (b + 1)) ≡ all
unfolding first_end
first_end_more e b x x' all low is h = ap (λ (y : ℕ). first_end y (e - (b + 1))) is ∙ (ap (first_end x) (sym (left e b low)) ∙ h)

pub first_end_done : (e b x all : ℕ) → e ≤ b → first_end x (e - b) ≡ all → x ≡ all
unfolding first_end
first_end_done e b x all done h = ap (first_end x) (sym (none_left e b done)) ∙ h

pub second_states_more : (e b x x' : ℕ) (out new all : List (State Cost)) → b < e → new ≡ out ++ second_state x ∷ [] → x' ≡ skip 2 x letters → out ++ second_states x (e - b) ≡ all → new ++ second_states x' (e - (b + 1)) ≡ all
unfolding second_states
second_states_more e b x x' out new all low grown is h = more_of (λ y c n. second_states y n) e b x x' out new (second_state x ∷ []) all low grown (ap (λ (y : ℕ). second_state x ∷ second_states y (e - (b + 1))) (sym is)) h

pub second_states_done : (e b x : ℕ) (out all : List (State Cost)) → e ≤ b → out ++ second_states x (e - b) ≡ all → out ≡ all
unfolding second_states
second_states_done e b x out all done h = done_of (λ y c n. second_states y n) e b x out all done refl h

pub second_end_more : (e b x x' all : ℕ) → b < e → x' ≡ skip 2 x letters → second_end x (e - b) ≡ all → second_end x' (e - (b + 1)) ≡ all
unfolding second_end
second_end_more e b x x' all low is h = ap (λ (y : ℕ). second_end y (e - (b + 1))) is ∙ (ap (second_end x) (sym (left e b low)) ∙ h)

pub second_end_done : (e b x all : ℕ) → e ≤ b → second_end x (e - b) ≡ all → x ≡ all
unfolding second_end
second_end_done e b x all done h = ap (second_end x) (sym (none_left e b done)) ∙ h

-- arcs of a machine with this many states
abbrev pub Good : ℕ → List (Arc Cost ℕ) → Type 0
Good n arcs = All (IsArc (λ (v : Cost). v) n) arcs

finite_some : (n : ℕ) → whole n ≢ infinite
finite_some n e = cc

pub first_arcs_good : (n x b : ℕ) → b + n ≤ 1000 → Good 500 (first_arcs x b n) × (length (first_arcs x b n) ≡ 2 * n)
unfolding first_arcs
first_arcs_good zero x b low = (All-nil (IsArc (λ (v : Cost). v) 500), refl)
first_arcs_good (suc n) x b low =
    let rest = first_arcs_good n (after x 5) (b + 1) (omega (arith, low)) in
    let olabel : drawn x 0 26 < 26 = mod-lt (after x 1 / 8589934592) (omega arith) in
    let one : drawn x 2 500 < 500 = mod-lt (after x 3 / 8589934592) (omega arith) in
    let two : drawn x 4 500 < 500 = mod-lt (after x 5 / 8589934592) (omega arith) in
    let y : ℕ = drawn x 0 26 in
    let y' : y < 26 = olabel in (
      All-cons (IsArc (λ (v : Cost). v) 500) (letter_arc x b) (silent_arc x b ∷ first_arcs (after x 5) (b + 1) n) (record { ilabel = omega (arith, low); olabel = omega (arith, y'); weight = finite_some (drawn x 1 10); next = one })
          (All-cons (IsArc (λ (v : Cost). v) 500) (silent_arc x b) (first_arcs (after x 5) (b + 1) n) (record { ilabel = omega (arith, low); olabel = omega arith; weight = finite_some (5 + drawn x 3 10); next = two }) rest.0),
      omega (arith, rest.1),
    )

pub second_arcs_good : (n x b : ℕ) → b + n ≤ 1000 → Good 200 (second_arcs x b n) × (length (second_arcs x b n) ≡ n)
unfolding second_arcs
second_arcs_good zero x b low = (All-nil (IsArc (λ (v : Cost). v) 200), refl)
second_arcs_good (suc n) x b low =
    let rest = second_arcs_good n (after x 2) (b + 1) (omega (arith, low)) in
    let one : drawn x 1 200 < 200 = mod-lt (after x 2 / 8589934592) (omega arith) in (
      All-cons (IsArc (λ (v : Cost). v) 200) (same_arc x b) (second_arcs (after x 2) (b + 1) n) (record { ilabel = omega (arith, low); olabel = omega (arith, low); weight = finite_some (drawn x 0 10); next = one }) rest.0,
      omega (arith, rest.1),
    )

-- states that are made, so many, with so many arcs each
pub record IsMade (n each count : ℕ) (states : List (State Cost)) : Type 0 where
  pub good : All (λ s. Good n s.arcs) states
  pub size : length states ≡ count
  pub total : arc_total states ≡ each * count

pub made_none : (n each : ℕ) → IsMade n each 0 []
made_none n each = record { good = All-nil (λ (s : State Cost). Good n s.arcs); size = refl; total = omega arith }

pub made_more : (n each count : ℕ) (states new : List (State Cost)) (s : State Cost) → IsMade n each count states → new ≡ states ++ s ∷ [] → Good n s.arcs → length s.arcs ≡ each → IsMade n each (count + 1) new
made_more n each count states new s h grown good long = subst (IsMade n each (count + 1)) (sym grown) (record {
  good = All-push (λ (t : State Cost). Good n t.arcs) states s h.good good;
  size = omega (arith, length-append states (s ∷ []), h.size);
  total = sum_by_push (λ (t : State Cost). length t.arcs) states s ∙ (ap₂ (λ (a b : ℕ). a + b) h.total long ∙ sums each count);
})
  where
    sums : (a b : ℕ) → a * b + a ≡ a * (b + 1)
    sums a b = omega arith
