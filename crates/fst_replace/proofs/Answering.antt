-- What a replacement answers, by what was measured.
use Rattle.std.proofs.Common.{◌≡◌, ◌⊎◌, inl, inr, ℕ, ◌<◌, ◌≤◌, List, slice_get, Option, None, Some, Ok, Err, refl, sym, ap, ◌∙◌, subst, arith}
use Rattle.std.specs.Prelude.{Result, MatchOption}
use Rattle.std.proofs.lemmas.Bool.{cases_lt}
use Rattle.fst_semiring.specs.Cost.{Cost}
use Rattle.fst_replace.specs.declared.fault.ReplaceFault.{ReplaceFault}
use Rattle.fst_replace.specs.declared.fault.ReplaceFault.TheVariants.{Recursive, TooManyStates, TooManyArcs, Memory}
use Rattle.fst_replace.specs.Answers.{IsCause, IsFine, IsLimited, IsRecursiveLabel, Recurs}
use Rattle.fst_replace.specs.Calls.{IsFirstRecursive, called}
use Rattle.fst_replace.specs.Rules.{Labelled, labels_of}

-- there is one first recursive rule
one_first : (rules : List (Labelled Cost)) (i j : ℕ) → IsFirstRecursive (called rules) i → IsFirstRecursive (called rules) j → i ≡ j
one_first rules i j one two = by_order (cases_lt i j) (cases_lt j i)
  where
    by_order : (i < j) ⊎ (j ≤ i) → (j < i) ⊎ (i ≤ j) → i ≡ j
    by_order (inl low) h = absurd (two.first i low one.recursive)
    by_order (inr high) (inl low) = absurd (one.first j low two.recursive)
    by_order (inr high) (inr low) = omega (arith, high, low)

one_label : (rules : List (Labelled Cost)) (l k : ℕ) → IsRecursiveLabel rules l → IsRecursiveLabel rules k → l ≡ k
one_label rules l k one two =
    let same = one_first rules one.0 two.0 one.2 two.2 in
    let e : Some l ≡ Some k = sym one.1 ∙ (ap (slice_get (labels_of rules)) same ∙ two.1) in
    cc

-- what is known of an option that is looked at
pub none_is : {T : Type 0} (A : Type 0) (P : T → Type 0) (o : Option T) → o ≡ None → MatchOption o A P → A
none_is A P None e h = h
none_is A P (Some t) e h = absurd (cc)

module _ {X : Type 0} (rules : List (Labelled Cost)) where
  -- a machine is made
  pub made_recurs : (x : X) → IsFine rules → Recurs {X = X} rules (Ok x)
  made_recurs x h label = ((λ e. absurd (cc)), (λ r. absurd (h.free r.0 r.2.recursive)))

  pub made_limited : (x : X) → IsFine rules → IsLimited {X = X} rules (Ok x)
  made_limited x h = record {
    states = ((λ e. absurd (cc)), (λ r. absurd (let over = r.1 in let few = h.states in omega (arith, over, few))));
    arcs = ((λ e. absurd (cc)), (λ r. absurd (let over = r.2 in let few = h.arcs in omega (arith, over, few))));
  }

  -- there is a cause
  pub cause_recurs : (fault : ReplaceFault) → IsCause rules fault → Recurs {X = X} rules (Err fault)
  cause_recurs (Recursive l) h label = ((λ e. subst (IsRecursiveLabel rules) (let z : ◌≡◌ {A = Result X ReplaceFault} (Err (Recursive l)) (Err (Recursive label)) = e in cc) h), (λ r. inl (ap (λ (n : ℕ). Err (Recursive n)) (one_label rules l label h r))))
  cause_recurs TooManyStates h label = ((λ e. absurd (cc)), (λ r. absurd (h.0 r.0 r.2.recursive)))
  cause_recurs TooManyArcs h label = ((λ e. absurd (cc)), (λ r. absurd (h.0 r.0 r.2.recursive)))
  cause_recurs Memory h label = absurd h

  pub cause_limited : (fault : ReplaceFault) → IsCause rules fault → IsLimited {X = X} rules (Err fault)
  cause_limited (Recursive l) h = record {
    states = ((λ e. absurd (cc)), (λ r. absurd (r.0 h.0 h.2.recursive)));
    arcs = ((λ e. absurd (cc)), (λ r. absurd (r.0 h.0 h.2.recursive)));
  }
  cause_limited TooManyStates h = record {
    states = ((λ e. h), (λ r. inl refl));
    arcs = ((λ e. absurd (cc)), (λ r. absurd (let over = h.1 in let few = r.1 in omega (arith, over, few))));
  }
  cause_limited TooManyArcs h = record {
    states = ((λ e. absurd (cc)), (λ r. absurd (let over = r.1 in let few = h.1 in omega (arith, over, few))));
    arcs = ((λ e. h), (λ r. inl refl));
  }
  cause_limited Memory h = absurd h
