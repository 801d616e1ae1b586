-- What a difference gives: the successful paths of the first machine whose string is no string of the second.
use Rattle.std.specs.Prelude.{◌≡◌, ℕ, List, Some, slice_get}
use Rattle.fst_semiring.specs.Cost.{Cost}
use Rattle.fst_semiring.specs.declared.arc_type.ArcType.{ArcType}
use Rattle.fst_machine.specs.Graph.{Graph}
use Rattle.fst_machine.specs.Letters.{input}
use Rattle.fst_machine.specs.Paths.{Transition, letters}
use Rattle.fst_machine.specs.Relation.{IsSuccessful, Rel}
use Rattle.fst_trim.specs.OneToOne.{Tied}
use Rattle.fst_setops.specs.Difference.{Rest}

-- some successful path reads this string
pub record HasString {M : Type 0} (kind : ArcType) (b : Graph M) (x : List ℕ) : Type 0 where
  pub path : List (Transition M)
  pub weight : Cost
  pub succeeds : IsSuccessful kind b path weight
  pub reads : x ≡ input (letters path)

-- the first parts of the path's names are the states of the other path, and the places of the arcs are the same
abbrev pub FirstParts : {N M : Type 0} → List (Transition (Rest N M)) → List (Transition N) → Type 0
FirstParts = Tied (λ n p. n.first ≡ p) (λ n p k j. k ≡ j)

-- this number is that of a name with this first part
pub record IsFirstAt {N M : Type 0} (names : List (Rest N M)) (i : ℕ) (p : N) : Type 0 where
  pub name : Rest N M
  pub there : slice_get names i ≡ Some name
  pub first : name.first ≡ p

-- the same, number by number
abbrev pub NumberedParts : {N M : Type 0} → List (Rest N M) → List (Transition ℕ) → List (Transition N) → Type 0
NumberedParts names = Tied (IsFirstAt names) (λ i p k j. k ≡ j)

-- Read is a one-to-one map from the successful paths of g onto those successful paths of a whose string is no string of
-- b, with the same letters and weights.
pub record Subtracts {N M P : Type 0} (kind : ArcType) (a : Graph N) (b : Graph M) (g : Graph P) (Read : List (Transition P) → List (Transition N) → Type 0) : Type 0 where
  pub there : (path : List (Transition P)) (w : Cost) → IsSuccessful kind g path w
      → (other : List (Transition N)) × IsSuccessful kind a other w × Read path other × (letters other ≡ letters path) × (HasString kind b (input (letters other)) → ⊥)
  pub back : (other : List (Transition N)) (w : Cost) → IsSuccessful kind a other w → (HasString kind b (input (letters other)) → ⊥)
      → (path : List (Transition P)) × IsSuccessful kind g path w × Read path other × (letters other ≡ letters path)
  pub once : (path : List (Transition P)) (one other : List (Transition N)) → Read path one → Read path other → (v w : Cost)
      → IsSuccessful kind a one v → IsSuccessful kind a other w → one ≡ other
  pub only : (one other : List (Transition P)) (path : List (Transition N)) → Read one path → Read other path → (v w : Cost)
      → IsSuccessful kind g one v → IsSuccessful kind g other w → one ≡ other

-- A path is read as a successful path of another graph is that is tied to it.
module _ {P Q N : Type 0} (kind : ArcType) (g : Graph P) (T : List (Transition P) → List (Transition Q) → Type 0) (Read : List (Transition P) → List (Transition N) → Type 0) where
  pub record ReadsBy (path : List (Transition Q)) (other : List (Transition N)) : Type 0 where
    pub between : List (Transition P)
    pub weight : Cost
    pub succeeds : IsSuccessful kind g between weight
    pub tied : T between path
    pub reads : Read between other

-- The first relates these strings with this weight, and the one that is read is no string of the second.
pub record Remains {N M : Type 0} (kind : ArcType) (a : Graph N) (b : Graph M) (x z : List ℕ) (w : Cost) : Type 0 where
  pub first : Rel kind a x z w
  pub none : HasString kind b x → ⊥
