-- A search that halves the places that are left, among arcs that stand by their labels.
use Rattle.std.proofs.Common.{◌≡◌, ◌≢◌, ◌⊎◌, inl, inr, ℕ, zero, suc, ◌+◌, ◌*◌, ◌/◌, ◌^◌, ◌<◌, ◌≤◌, List, length, get_or, sym, ap, ◌∙◌, subst, arith}
use Rattle.std.proofs.Math.Pow.{pow_mono}
use Rattle.std.proofs.lemmas.Bool.{cases_lt}
use Rattle.std.proofs.lemmas.List.{get_or_default}
use Rattle.fst_machine.specs.Machine.{Arc}
use Rattle.fst_trim.specs.declared.side.Side.{Side}
use Rattle.fst_trim.specs.Runs.{IsRun, LeavesToSearch}
use Rattle.fst_trim.specs.Sides.{StandsBy, label_of}

-- Of the steps that n allows, as many are left as it takes to halve `size` places down to none.
abbrev pub LeavesSteps : ℕ → ℕ → ℕ → ℕ → Type 0
LeavesSteps n size old new = (digits : ℕ) → n < 2 ^ digits → (left : ℕ) × (size < 2 ^ left) × (new + left ≤ old + digits)

pub all_left : (n size steps : ℕ) → size ≤ n → LeavesSteps n size steps steps
all_left n size steps few digits written = (digits, omega arith, omega arith)

pub one_taken : (n size less old new : ℕ) → LeavesSteps n size old new → 0 < size → less ≤ size / 2 → LeavesSteps n less old (new + 1)
one_taken n size less old new h some half digits written = by_left (h digits written)
  where
    by_left : (left : ℕ) × (size < 2 ^ left) × (new + left ≤ old + digits) → (left : ℕ) × (less < 2 ^ left) × (new + 1 + left ≤ old + digits)
    by_left (zero, size_low, steps) = absurd (omega arith)
    by_left (suc left, size_low, steps) = (left, omega arith, omega arith)

pub taken_all : (n size old new : ℕ) → LeavesSteps n size old new → (digits : ℕ) → n < 2 ^ digits → new ≤ old + 1 * digits
taken_all n size old new h digits written = let left = h digits written in omega (arith, left.2)

module _ {V : Type 0} (side : Side) (arcs : List (Arc V ℕ)) (sorted : StandsBy side arcs) (place : ℕ) (a : Arc V ℕ) (low : place < length arcs) (is : a ≡ get_or arcs place a) where
  -- the label that was read
  label_there : (d : Arc V ℕ) → label_of side a ≡ label_of side (get_or arcs place d)
  label_there d = ap (label_of side) (is ∙ get_or_default arcs place a d low)

  -- no label up to this place is greater
  pub none_greater : (k : ℕ) (d : Arc V ℕ) → k < place + 1 → label_of side (get_or arcs k d) ≤ label_of side a
  none_greater k d before = subst (λ (n : ℕ). label_of side (get_or arcs k d) ≤ n) (sym (label_there d)) (sorted k place d (omega arith) low)

  -- and none from it on is lower
  pub none_lower : (k : ℕ) (d : Arc V ℕ) → place ≤ k → k < length arcs → label_of side a ≤ label_of side (get_or arcs k d)
  none_lower k d after within = subst (λ (n : ℕ). n ≤ label_of side (get_or arcs k d)) (sym (label_there d)) (sorted place k d after within)

-- a power of two that is below another has the lower exponent
lower_exponent : (m n : ℕ) → 2 ^ m < 2 ^ n → m < n
lower_exponent m n low = by_order (cases_lt m n)
  where
    by_order : (m < n) ⊎ (n ≤ m) → m < n
    by_order (inl less) = less
    by_order (inr more) = absurd (let grown : 2 ^ n ≤ 2 ^ m = pow_mono more in omega arith)

-- after so many doublings what is left can be searched
pub can_search : (n size old new times : ℕ) → size < 2 ^ times → 2 ^ times ≤ n → new ≤ old + times + 1 → LeavesToSearch n size old new
can_search n size old new times few low steps digits written = (times, few, (let more = lower_exponent times digits (omega arith) in omega arith))

module _ {V : Type 0} (side : Side) (arcs : List (Arc V ℕ)) (sorted : StandsBy side arcs) (label first : ℕ) (before : (k : ℕ) (d : Arc V ℕ) → k < first → label_of side (get_or arcs k d) < label) where
  -- from the first place with no lower label, along those with the label
  pub gone_along : (last : ℕ) → first ≤ last → last ≤ length arcs → ((k : ℕ) (d : Arc V ℕ) → first ≤ k → k < length arcs → label ≤ label_of side (get_or arcs k d)) → ((k : ℕ) (d : Arc V ℕ) → first ≤ k → k < last → label_of side (get_or arcs k d) ≡ label)
      → ((d : Arc V ℕ) → last < length arcs → label_of side (get_or arcs last d) ≢ label) → IsRun side label arcs first last
  gone_along last order within from here next = record {
    order = order;
    within = within;
    before = before;
    here = here;
    after = λ k d past low. let least = from last d order (omega arith) in let other = next d (omega arith) in let more = sorted last k d past low in omega arith;
  }

  -- none has the label
  pub none_here : first ≤ length arcs → ((k : ℕ) (d : Arc V ℕ) → first ≤ k → k < length arcs → label < label_of side (get_or arcs k d)) → IsRun side label arcs first first
  none_here within after = record { order = omega arith; within = within; before = before; here = λ k d past low. absurd (omega arith); after = after }
