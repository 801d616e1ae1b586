-- The least number of hops from each name to one where a word may stop.
use Rattle.std.specs.Prelude.{◌≡◌, ◌≢◌, ◌⊎◌, ℕ, ◌≤◌, ◌<◌, zero, suc, List, [], ◌∷◌, ◌++◌, get_or, length, set}
use Rattle.fst_machine.specs.BreadthFirst.{Has, Apart}

-- the number of a name that is not counted
abbrev pub uncounted : ℕ
uncounted = 4294967295

abbrev pub count_of : List ℕ → ℕ → ℕ
count_of counts x = get_or counts x uncounted

-- a link to the second name leads there from the first
abbrev pub Hops : {L : Type 0} → (ℕ → List L) → (L → ℕ → ℕ → Type 0) → ℕ → ℕ → Type 0
Hops {L} links Leads x y = (l : L) × Has (links y) l × Leads l x y

module _ (Stops : ℕ → Type 0) (Goes : ℕ → ℕ → Type 0) where
  -- so many hops lead from this name to one where a word may stop
  abbrev pub Ends : ℕ → ℕ → Type 0
  Ends x zero = Stops x
  Ends x (suc k) = (y : ℕ) × Goes x y × Ends y k

  -- The least number of them, unless there are none.
  pub record IsLeastCount (x c : ℕ) : Type 0 where
    pub ends : c ≢ uncounted → Ends x c
    pub least : (k : ℕ) → Ends x k → (c ≢ uncounted) × (c ≤ k)
    pub small : c ≤ uncounted

-- the name gets this count, if it has none yet
abbrev pub Meets : ℕ → List ℕ → List ℕ → ℕ → List ℕ → List ℕ → Type 0
Meets c counts names x after found = ((count_of counts x ≢ uncounted) × (after ≡ counts) × (found ≡ names))
    ⊎ ((count_of counts x ≡ uncounted) × (after ≡ set counts x c) × (found ≡ names ++ x ∷ []))

-- each of these names does
abbrev pub MeetsAll : ℕ → List ℕ → List ℕ → List ℕ → List ℕ → List ℕ → Type 0
MeetsAll c counts names [] after found = (after ≡ counts) × (found ≡ names)
MeetsAll c counts names (x ∷ xs) after found = (mid : List ℕ) × (part : List ℕ) × Meets c counts names x mid part × MeetsAll c mid part xs after found

-- The counted names are those of the first i names where a word may stop, each with count 0.
pub record AreStops (Stops : ℕ → Type 0) (n i : ℕ) (counts names : List ℕ) : Type 0 where
  pub size : length counts ≡ n
  pub zeros : (x : ℕ) → Has names x → count_of counts x ≡ 0
  pub there : (x : ℕ) → count_of counts x ≢ uncounted → Has names x
  pub apart : Apart names
  pub stops : (x : ℕ) → Has names x → (x < i) × Stops x
  pub all : (x : ℕ) → x < i → Stops x → Has names x
