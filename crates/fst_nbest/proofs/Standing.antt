-- Lists that stand inside others, from a place on.
use Rattle.std.proofs.Common.{◌≡◌, ℕ, ◌+◌, suc, List, ◌∷◌, ◌++◌, Some, length, slice_get, refl, ap, subst, arith}
use Rattle.std.proofs.lemmas.Option.{get_or_from_slice_get}
use Rattle.fst_semiring.specs.Cost.{Cost}
use Rattle.fst_machine.specs.Machine.{State, Machine}
use Rattle.fst_machine.specs.Graph.{graph_of, no_state}
use Rattle.fst_machine.proofs.Arcs.{at_append_left, at_append_right}

-- the elements of the second list stand in the first, from place k on
abbrev pub Stands : {X : Type 0} → List X → ℕ → List X → Type 0
Stands {X} whole k block = (i : ℕ) (x : X) → slice_get block i ≡ Some x → slice_get whole (k + i) ≡ Some x

pub stands_head : {X : Type 0} (whole : List X) (k : ℕ) (x : X) (block : List X) → Stands whole k (x ∷ block) → slice_get whole k ≡ Some x
stands_head {X} whole k x block h = let n : k + 0 ≡ k = omega arith in subst (λ (j : ℕ). slice_get whole j ≡ Some x) n (h 0 x refl)

pub stands_tail : {X : Type 0} (whole : List X) (k : ℕ) (x : X) (block : List X) → Stands whole k (x ∷ block) → Stands whole (suc k) block
stands_tail whole k x block h i y e = let n : k + suc i ≡ suc k + i = omega arith in subst (λ (j : ℕ). slice_get whole j ≡ Some y) n (h (suc i) y e)

pub stands_left : {X : Type 0} (whole : List X) (k : ℕ) (xs ys : List X) → Stands whole k (xs ++ ys) → Stands whole k xs
stands_left whole k xs ys h i x e = h i x (at_append_left xs ys i x e)

pub stands_right : {X : Type 0} (whole : List X) (k n : ℕ) (xs ys : List X) → length xs ≡ n → Stands whole k (xs ++ ys) → Stands whole (k + n) ys
stands_right whole k n xs ys count h i y e = let m : k + (length xs + i) ≡ (k + n) + i = omega arith in subst (λ (j : ℕ). slice_get whole j ≡ Some y) m (h (length xs + i) y (at_append_right xs ys i y e))

pub stands_behind : {X : Type 0} (x : X) (xs : List X) → Stands (x ∷ xs) 1 xs
stands_behind x xs i y e = let n : suc i ≡ 1 + i = omega arith in subst (λ (j : ℕ). slice_get (x ∷ xs) j ≡ Some y) n e

pub stands_whole : {X : Type 0} (xs : List X) → Stands xs 0 xs
stands_whole xs i y e = let n : i ≡ 0 + i = omega arith in subst (λ (j : ℕ). slice_get xs j ≡ Some y) n e

-- what the graph of a machine says of a state
module _ (m : Machine Cost) (k : ℕ) (s : State Cost) (e : slice_get m.states k ≡ Some s) where
  pub state_arcs : (graph_of m).arcs k ≡ s.arcs
  state_arcs = ap (λ (t : State Cost). t.arcs) (get_or_from_slice_get m.states k s no_state e)

  pub state_final : (graph_of m).final k ≡ s.final
  state_final = ap (λ (t : State Cost). t.final) (get_or_from_slice_get m.states k s no_state e)
