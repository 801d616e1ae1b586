-- What a claim answers.
use Rattle.std.specs.Prelude.{◌≤◌, ◌≡◌, ◌≢◌, ℕ, ◌<◌, List, [], ◌∷◌, ◌++◌, length, Some, slice_get}
use Rattle.std.specs.List.{Contains}
use Rattle.fst_claims.specs.declared.view.View.{View}
use Rattle.fst_claims.specs.declared.claim.Claim.{Claim}
use Rattle.fst_claims.specs.declared.claim.Claim.TheVariants.{Won, Taken, Full}
use Rattle.fst_claims.specs.Rule.{place_of}
use Rattle.fst_claims.specs.Plays.{IsNew, finds_all}

-- the claim looked at this place as the j-th, and found another code there
abbrev pub HasPassed : ℕ → ℕ → List (ℕ × ℕ) → ℕ → Type 0
HasPassed places code seen j = (d : ℕ) × (slice_get seen j ≡ Some (place_of places code j, d)) × (d ≢ code)

-- this is what the claim saw, from the code's own place on, round the table, each place with another code
abbrev pub Passed : ℕ → ℕ → List (ℕ × ℕ) → Type 0
Passed places code seen = (j : ℕ) → j < length seen → HasPassed places code seen j

-- the view has found other codes in as many places, from the code's own place on, round the table
abbrev pub HasFound : ℕ → ℕ → ℕ → View → Type 0
HasFound places code k v = (j : ℕ) → j < k → (d : ℕ) × Contains v.found (place_of places code j, d) × (d ≢ code)

-- no claim changes these
abbrev pub IsLike : View → View → Type 0
IsLike v w = (w.parts ≡ v.parts) × (w.places ≡ v.places)

module _ (places code : ℕ) (v w : View) where
  -- The code was new at this step, and is the last of those won. In the places before the one that it now has, the claim
  -- found others.
  pub record IsWon : Type 0 where
    pub seen : List (ℕ × ℕ)
    pub passed : Passed places code seen
    pub short : length seen < places
    pub found : w.found ≡ v.found ++ seen
    pub won : w.won ≡ v.won ++ code ∷ []
    pub new : IsNew code (finds_all v seen)
    pub few : length w.won ≤ w.places
    pub like : IsLike v w

  -- the claim found the code in a place, and others in the places before it
  pub record IsTaken : Type 0 where
    pub seen : List (ℕ × ℕ)
    pub passed : Passed places code seen
    pub short : length seen < places
    pub found : w.found ≡ v.found ++ (seen ++ (place_of places code (length seen), code) ∷ [])
    pub won : w.won ≡ v.won
    pub like : IsLike v w

  -- the claim found another code in every place
  pub record IsFull : Type 0 where
    pub seen : List (ℕ × ℕ)
    pub passed : Passed places code seen
    pub whole : length seen ≡ places
    pub everywhere : (i : ℕ) → i < places → (d : ℕ) × Contains seen (i, d) × (d ≢ code)
    pub found : w.found ≡ v.found ++ seen
    pub won : w.won ≡ v.won
    pub like : IsLike v w

-- what a claim of a code, made with a pass that knew v and then knows w, answers
abbrev pub Claimed : ℕ → ℕ → View → Claim → View → Type 0
Claimed places code v Won w = IsWon places code v w
Claimed places code v Taken w = IsTaken places code v w
Claimed places code v Full w = IsFull places code v w
