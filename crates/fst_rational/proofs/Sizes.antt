-- Results that are too big, and those that are not.
use Rattle.std.proofs.Common.{◌≡◌, ◌⊎◌, inl, inr, ℕ, ◌<◌, ◌≤◌, nat_lt, Bool, true, false, Option, None, Some, Ok, Err, refl, sym, ap, subst, ◌∙◌, arith, if◌then◌else◌}
use Rattle.std.specs.Prelude.{Result}
use Rattle.std.proofs.lemmas.Bool.{cases_lt}
use Rattle.std.proofs.lemmas.Bool.Decides.{nat_tests}
use Rattle.fst_semiring.specs.Cost.{Cost}
use Rattle.fst_machine.specs.Machine.{Machine, most_arcs, most_states}
use Rattle.fst_rational.specs.declared.fault.RationalFault.{RationalFault}
use Rattle.fst_rational.specs.declared.fault.RationalFault.TheVariants.{TooManyStates, TooManyArcs, Memory}
use Rattle.fst_rational.specs.Limits.{IsLimited, IsSize, IsSmall, size_fault}

lt_true : (a b : ℕ) → a < b → nat_lt a b ≡ true
lt_true a b low = grind (arith, nat_tests)

lt_false : (a b : ℕ) → b ≤ a → nat_lt a b ≡ false
lt_false a b low = grind (arith, nat_tests)

-- too many states; else too many arcs; else neither
data Size (states arcs : ℕ) : Type 0 where
  wide : most_states < states → size_fault (states, arcs) ≡ Some TooManyStates → Size states arcs
  thick : states ≤ most_states → most_arcs < arcs → size_fault (states, arcs) ≡ Some TooManyArcs → Size states arcs
  fit : states ≤ most_states → arcs ≤ most_arcs → size_fault (states, arcs) ≡ None → Size states arcs

chosen : (a b : Bool) → Option RationalFault
chosen a b = if a then Some TooManyStates else (if b then Some TooManyArcs else None)

size_of : (states arcs : ℕ) → Size states arcs
unfolding chosen
size_of states arcs = by_states (cases_lt most_states states) (cases_lt most_arcs arcs)
  where
    by_states : (most_states < states) ⊎ (states ≤ most_states) → (most_arcs < arcs) ⊎ (arcs ≤ most_arcs) → Size states arcs
    by_states (inl over) h = wide over (ap (λ a. chosen a (nat_lt most_arcs arcs)) (lt_true most_states states over))
    by_states (inr few) (inl over) = thick few over (ap (λ a. chosen a (nat_lt most_arcs arcs)) (lt_false most_states states few) ∙ ap (chosen false) (lt_true most_arcs arcs over))
    by_states (inr few) (inr small) = fit few small (ap (λ a. chosen a (nat_lt most_arcs arcs)) (lt_false most_states states few) ∙ ap (chosen false) (lt_false most_arcs arcs small))

-- where there is no fault there are few of both
size_fits : (states arcs : ℕ) → size_fault (states, arcs) ≡ None → (states ≤ most_states) × (arcs ≤ most_arcs)
size_fits states arcs e = by_size (size_of states arcs)
  where
    by_size : Size states arcs → (states ≤ most_states) × (arcs ≤ most_arcs)
    by_size (wide over is) = absurd (let wrong : None ≡ Some TooManyStates = sym e ∙ is in cc)
    by_size (thick few over is) = absurd (let wrong : None ≡ Some TooManyArcs = sym e ∙ is in cc)
    by_size (fit few small is) = (few, small)

pub fits : {m : Machine Cost} {size : ℕ × ℕ} → IsSize m size → size_fault size ≡ None → IsSmall m
fits {m} {size} s e =
    let few = size_fits size.0 size.1 e in
    record { states = subst (λ (n : ℕ). n ≤ most_states) s.states few.0; arcs = subst (λ (n : ℕ). n ≤ most_arcs) s.arcs few.1 }

module _ {X : Type 0} {m : Machine Cost} {size : ℕ × ℕ} (h : IsSize m size) where
  -- a fault of the size is the answer
  pub limited_refused : {fault : RationalFault} → size_fault size ≡ Some fault → IsLimited {X = X} m (Err fault)
  limited_refused {fault} e = by_size (size_of size.0 size.1)
    where
      by_size : Size size.0 size.1 → IsLimited {X = X} m (Err fault)
      by_size (wide over is) =
          let same : TooManyStates ≡ fault = let f : Some TooManyStates ≡ Some fault = sym is ∙ e in cc in
          subst (λ (z : RationalFault). IsLimited {X = X} m (Err z)) same (record {
            states = ((λ no. subst (λ (k : ℕ). most_states < k) h.states over), (λ no. refl));
            arcs = ((λ no. absurd (cc)), (λ no. absurd (omega (arith, h.states, over, no.0))));
          })
      by_size (thick few over is) =
          let same : TooManyArcs ≡ fault = let f : Some TooManyArcs ≡ Some fault = sym is ∙ e in cc in
          subst (λ (z : RationalFault). IsLimited {X = X} m (Err z)) same (record {
            states = ((λ no. absurd (cc)), (λ no. absurd (omega (arith, h.states, few, no))));
            arcs = ((λ no. (subst (λ (k : ℕ). k ≤ most_states) h.states few, subst (λ (k : ℕ). most_arcs < k) h.arcs over)), (λ no. refl));
          })
      by_size (fit few small is) = absurd (let wrong : None ≡ Some fault = sym is ∙ e in cc)

  -- without one it is neither
  pub limited_made : (r : Result X RationalFault) → size_fault size ≡ None → (r ≡ Err TooManyStates → ⊥) → (r ≡ Err TooManyArcs → ⊥) → IsLimited {X = X} m r
  limited_made r e not_states not_arcs =
      let few = fits h e in
      record {
        states = ((λ no. absurd (not_states no)), (λ no. absurd (omega (arith, few.states, no))));
        arcs = ((λ no. absurd (not_arcs no)), (λ no. absurd (omega (arith, few.arcs, no.1))));
      }

  pub limited_ok : {x : X} → size_fault size ≡ None → IsLimited {X = X} m (Ok x)
  limited_ok {x} e = limited_made (Ok x) e (λ no. absurd (cc)) (λ no. absurd (cc))

  pub limited_memory : size_fault size ≡ None → IsLimited {X = X} m (Err Memory)
  limited_memory e = limited_made (Err Memory) e (λ no. absurd (cc)) (λ no. absurd (cc))
