-- A machine of chains is a machine.
use Rattle.std.proofs.Common.{◌≡◌, ℕ, ◌+◌, ◌<◌, ◌≤◌, suc, List, [], ◌∷◌, length, refl, arith}
use Rattle.std.specs.List.{All}
use Rattle.std.proofs.lemmas.List.{length-append}
use Rattle.std.proofs.lemmas.List.Elements.{All-append, All-cons, All-nil}
use Rattle.std.proofs.lemmas.List.Sums.{sum_by-cons, sum_by-append}
use Rattle.fst_semiring.specs.Cost.{Cost, infinite}
use Rattle.fst_machine.specs.Machine.{Arc, State, IsArc, IsMachine, arc_total, most_states}
use Rattle.fst_machine.specs.Letters.{Letter}
use Rattle.fst_nbest.specs.Chains.{Chain, IsLetter, AreLetters, HaveLetters, lettered, tail_states, own_states, first_arc, first_arcs, all_states, final_of, arcs_listed, chained}
use Rattle.fst_nbest.proofs.Chained.{own-length}

abbrev arcs_of : State Cost → ℕ
arcs_of t = length t.arcs

pub arcs_listed-cons : (c : Chain) (cs : List Chain) → arcs_listed (c ∷ cs) ≡ length c.letters + arcs_listed cs
arcs_listed-cons c cs = sum_by-cons (λ (d : Chain). length d.letters) c cs

-- ---- how many states and arcs there are

pub tail-total : (k : ℕ) (last : Cost) (ls : List Letter) → arc_total (tail_states k last ls) ≡ length ls
tail-total k last [] = sum_by-cons arcs_of (record { final = last; arcs = [] }) []
tail-total k last (l ∷ ls) =
    let one = sum_by-cons arcs_of (record { final = infinite; arcs = lettered (suc k) l ∷ [] }) (tail_states (suc k) last ls) in
    let rest = tail-total (suc k) last ls in
    omega (arith, one, rest)

pub own-total : (k : ℕ) (last : Cost) (ls : List Letter) → length (first_arc k ls) + arc_total (own_states k last ls) ≡ length ls
own-total k last [] = refl
own-total k last (l ∷ ls) = let rest = tail-total k last ls in omega (arith, rest)

pub all-total : (k : ℕ) (cs : List Chain) → length (first_arcs k cs) + arc_total (all_states k cs) ≡ arcs_listed cs
all-total k [] = refl
all-total k (c ∷ cs) =
    let rest = all-total (k + length c.letters) cs in
    let arcs = length-append (first_arc k c.letters) (first_arcs (k + length c.letters) cs) in
    let states = sum_by-append arcs_of (own_states k c.last c.letters) (all_states (k + length c.letters) cs) in
    omega (arith, rest, arcs, states, own-total k c.last c.letters, arcs_listed-cons c cs)

pub all-length : (k : ℕ) (cs : List Chain) → length (all_states k cs) ≡ arcs_listed cs
all-length k [] = refl
all-length k (c ∷ cs) =
    let rest = all-length (k + length c.letters) cs in
    let states = length-append (own_states k c.last c.letters) (all_states (k + length c.letters) cs) in
    omega (arith, rest, states, own-length k c.last c.letters, arcs_listed-cons c cs)

-- ---- the arcs are good

module _ (n : ℕ) where
  abbrev Good : Arc Cost ℕ → Type 0
  Good a = IsArc (λ v. v) n a

  abbrev AllGood : State Cost → Type 0
  AllGood s = All Good s.arcs

  lettered-good : (k : ℕ) (l : Letter) → IsLetter l → k < n → Good (lettered k l)
  lettered-good k l h low = record { ilabel = h.ilabel; olabel = h.olabel; weight = h.weight; next = low }

  tail-good : (k : ℕ) (last : Cost) (ls : List Letter) → AreLetters ls → k + length ls < n → All AllGood (tail_states k last ls)
  tail-good k last [] h low = All-cons AllGood (record { final = last; arcs = [] }) [] (All-nil Good) (All-nil AllGood)
  tail-good k last (l ∷ ls) h low =
      All-cons AllGood (record { final = infinite; arcs = lettered (suc k) l ∷ [] }) (tail_states (suc k) last ls)
      (All-cons Good (lettered (suc k) l) [] (lettered-good (suc k) l h.0 (omega (arith, low))) (All-nil Good)) (tail-good (suc k) last ls h.1 (omega (arith, low)))

  own-good : (k : ℕ) (last : Cost) (ls : List Letter) → AreLetters ls → k + length ls ≤ n → All AllGood (own_states k last ls)
  own-good k last [] h low = All-nil AllGood
  own-good k last (l ∷ ls) h low = tail-good k last ls h.1 (omega (arith, low))

  first-good : (k : ℕ) (ls : List Letter) → AreLetters ls → k + length ls ≤ n → All Good (first_arc k ls)
  first-good k [] h low = All-nil Good
  first-good k (l ∷ ls) h low = All-cons Good (lettered k l) [] (lettered-good k l h.0 (omega (arith, low))) (All-nil Good)

  firsts-good : (k : ℕ) (cs : List Chain) → HaveLetters cs → k + arcs_listed cs ≤ n → All Good (first_arcs k cs)
  firsts-good k [] h low = All-nil Good
  firsts-good k (c ∷ cs) h low =
      let count = arcs_listed-cons c cs in
      All-append Good (first_arc k c.letters) (first_arcs (k + length c.letters) cs) (first-good k c.letters h.0 (omega (arith, low, count)))
      (firsts-good (k + length c.letters) cs h.1 (omega (arith, low, count)))

  all-good : (k : ℕ) (cs : List Chain) → HaveLetters cs → k + arcs_listed cs ≤ n → All AllGood (all_states k cs)
  all-good k [] h low = All-nil AllGood
  all-good k (c ∷ cs) h low =
      let count = arcs_listed-cons c cs in
      All-append AllGood (own_states k c.last c.letters) (all_states (k + length c.letters) cs) (own-good k c.last c.letters h.0 (omega (arith, low, count)))
      (all-good (k + length c.letters) cs h.1 (omega (arith, low, count)))

pub IsMachine-chained : (c : Chain) (cs : List Chain) → HaveLetters (c ∷ cs) → arcs_listed (c ∷ cs) < most_states → IsMachine (λ v. v) (chained (c ∷ cs))
IsMachine-chained c cs h few =
    let start : State Cost = record { final = final_of infinite (c ∷ cs); arcs = first_arcs 1 (c ∷ cs) } in
    let states = all-length 1 (c ∷ cs) in
    let arcs = all-total 1 (c ∷ cs) in
    let n = length (chained (c ∷ cs)).states in
    let total = sum_by-cons arcs_of start (all_states 1 (c ∷ cs)) in
    record {
      start = omega arith;
      arcs = All-cons (AllGood n) start (all_states 1 (c ∷ cs)) (firsts-good n 1 (c ∷ cs) h (omega (arith, states))) (all-good n 1 (c ∷ cs) h (omega (arith, states)));
      few_states = omega (arith, states, few);
      few_arcs = omega (arith, arcs, total, few);
    }
