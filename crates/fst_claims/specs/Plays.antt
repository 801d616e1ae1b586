-- What each kind of atomic step tells the pass that makes it.
use Rattle.std.specs.Prelude.{slice_index, ◌≡◌, ◌≢◌, ℕ, ◌+◌, ◌-◌, ◌<◌, ◌≤◌, List, [], ◌∷◌, ◌++◌, length}
use Rattle.std.specs.List.{Contains}
use Rattle.atomic_table.specs.Table.{Me, Step}
use Rattle.fst_claims.specs.declared.view.View.{View}
use Rattle.fst_claims.specs.Counts.{times}
use Rattle.fst_claims.specs.Rule.{Stands, all_parts}

-- the view of the first pass
abbrev pub first_view : ℕ → View
first_view places = record { places = places; parts = all_parts; won = []; found = [] }

-- the view with these finds behind its own
abbrev pub finds_all : View → List (ℕ × ℕ) → View
finds_all v seen = record { places = v.places; parts = v.parts; won = v.won; found = v.found ++ seen }

-- the view that has found this word in this place too
abbrev pub finds : View → ℕ → ℕ → View
finds v place word = finds_all v ((place, word) ∷ [])

-- the view that has won this code too
abbrev pub wins : View → ℕ → View
wins v code = record { places = v.places; parts = v.parts; won = v.won ++ code ∷ []; found = v.found }

-- Some words, those of the table at that step, had what this view has found and won; none of them held the code, and one
-- was not set.
pub record HadNone (code : ℕ) (v : View) : Type 0 where
  pub words : List ℕ
  pub sized : length words ≡ v.places
  pub found : Stands words v.found
  pub won : (c : ℕ) → times c v.won ≤ times c words
  pub none : times code words ≡ 0
  pub free : ℕ
  pub inside : free < length words
  pub unset : slice_index words free ≡ 0

-- the code is new: this view has neither won nor found it, and no word held it
pub record IsNew (code : ℕ) (v : View) : Type 0 where
  pub not_won : times code v.won ≡ 0
  pub not_found : (place : ℕ) → Contains v.found (place, code) → ⊥
  pub had_none : HadNone code v

module _ (st : Step (Unit {0})) (m : Me (Unit {0}) View) (n : ℕ) (m' : Me (Unit {0}) View) where
  -- a load: a word that is set is found
  abbrev pub Looked : Type 0
  Looked = (m'.1 ≡ m.1) × (n ≡ 0 → m'.0 ≡ m.0) × (n ≢ 0 → m'.0 ≡ finds m.0 st.word n)

  -- An exchange of 0 for a code: it succeeds where the word was 0, and the code is won; no more codes are then won than there
  -- are places. Else the word is found.
  abbrev pub Took : Type 0
  Took = (m'.1 ≡ m.1) × (n ≡ 0 → (m'.0 ≡ wins m.0 st.second) × IsNew st.second m.0 × (length m'.0.won ≤ m'.0.places)) × (n ≢ 0 → m'.0 ≡ finds m.0 st.word n)

-- What the rule says of one view that has a part: no code was won twice, no more were won than there are places, codes in
-- different places differ; and where it has all parts, each code that it has found was won, and as many codes as there
-- are places where it has found one in each.
pub record Knows (v : View) : Type 0 where
  pub distinct : (c : ℕ) → times c v.won ≤ 1
  pub few : length v.won ≤ v.places
  pub apart : (p q c d : ℕ) → Contains v.found (p, c) → Contains v.found (q, d) → p ≢ q → c ≢ d
  pub all_won : v.parts ≡ all_parts → (p c : ℕ) → Contains v.found (p, c) → Contains v.won c
  pub full : v.parts ≡ all_parts → ((i : ℕ) → i < v.places → (d : ℕ) × Contains v.found (i, d)) → length v.won ≡ v.places

-- a load that only learns what the rule says of the view
abbrev pub Learned : Step (Unit {0}) → Me (Unit {0}) View → ℕ → Me (Unit {0}) View → Type 0
Learned st m n m' = (m' ≡ m) × Knows m.0

-- a view without one of its parts
abbrev pub with_less : View → View
with_less v = record { places = v.places; parts = v.parts - 1; won = v.won; found = v.found }

-- a view with one part, that has won and found nothing
abbrev pub one_part : View → View
one_part v = record { places = v.places; parts = 1; won = []; found = [] }

-- both views in one
abbrev pub both_views : View → View → View
both_views v w = record { places = v.places; parts = v.parts + w.parts; won = v.won ++ w.won; found = v.found ++ w.found }

-- the view of a pass that was joined to another
abbrev pub spent_view : View
spent_view = record { places = 0; parts = 0; won = []; found = [] }
