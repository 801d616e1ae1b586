-- The rule of a claim table: what holds of its words and of what the passes know, between any two atomic steps.
use Rattle.std.specs.Prelude.{◌≡◌, ◌≢◌, ℕ, ◌+◌, ◌%◌, ◌<◌, List, [], length, slice_index}
use Rattle.std.specs.List.{Contains}
use mathlib.Core.Option.{some}
use lib.ListN.{get_elem?}
use Rattle.atomic_table.specs.Table.{State}
use Rattle.fst_claims.specs.declared.view.View.{View}
use Rattle.fst_claims.specs.Counts.{total, times}

-- the place at which the search for a code looks after so many others: from the code's own place on, round the table
abbrev pub place_of : ℕ → ℕ → ℕ → ℕ
place_of places code k = (code % places + k) % places

-- the word is set, and to another code
abbrev pub IsOther : ℕ → ℕ → Type 0
IsOther code word = (0 < word) × (word ≢ code)

-- what was found still stands in the words: a code that is not 0, in this place
abbrev pub Stands : List ℕ → List (ℕ × ℕ) → Type 0
Stands words found = (place code : ℕ) → Contains found (place, code) → (place < length words) × (0 < code) × (slice_index words place ≡ code)

-- it has won and found nothing
abbrev pub IsIdle : View → Type 0
IsIdle v = (v.won ≡ []) × (v.found ≡ [])

-- what the rule says of one view
pub record Fits (places : ℕ) (words : List ℕ) (v : View) : Type 0 where
  pub stands : Stands words v.found
  pub idle : v.parts ≡ 0 → IsIdle v
  pub sized : 0 < v.parts → v.places ≡ places

-- how many parts the first pass has
abbrev pub all_parts : ℕ
all_parts = 1024

-- Each code that a word holds is won by one view, once, and each code that is won is in a word: so often as a code
-- stands in the words, so often it stands in the lists of codes won. Where a word holds a code, the places at which
-- the search for that code looks before it hold others. The parts of all views are all parts together, and a view
-- without a part has won and found nothing.
pub record Kept (places : ℕ) (s : State (Unit {0}) View) : Type 0 where
  pub sized : length s.words ≡ places
  pub won_once : (c : ℕ) → 0 < c → total (λ v. times c v.won) s.views ≡ times c s.words
  pub codes : total (λ v. times 0 v.won) s.views ≡ 0
  pub probed : (c k j : ℕ) → 0 < c → k < places → slice_index s.words (place_of places c k) ≡ c → j < k → IsOther c (slice_index s.words (place_of places c j))
  pub parts : total (λ v. v.parts) s.views ≡ all_parts
  pub each : (id : ℕ) (v : View) → get_elem? s.views id ≡ some v → Fits places s.words v

-- this view has won this code, and won it once
abbrev pub HasWonOnce : List View → ℕ → ℕ → Type 0
HasWonOnce views code id = (v : View) × (get_elem? views id ≡ some v) × (times code v.won ≡ 1)

-- What the rule says, without sums: the code of each word that is set was won by a view, which has won it once; no two
-- views have won one code; each code that was won is above 0 and stands in a word; no two words hold one code.
pub record Says (places : ℕ) (s : State (Unit {0}) View) : Type 0 where
  pub set_words : (i c : ℕ) → i < places → 0 < c → slice_index s.words i ≡ c → (id : ℕ) × HasWonOnce s.views c id
  pub one_view : (c i j : ℕ) (v w : View) → get_elem? s.views i ≡ some v → get_elem? s.views j ≡ some w → Contains v.won c → Contains w.won c → i ≡ j
  pub won_words : (c id : ℕ) (v : View) → get_elem? s.views id ≡ some v → Contains v.won c → (0 < c) × (i : ℕ) × (i < places) × (slice_index s.words i ≡ c)
  pub one_word : (c i j : ℕ) → 0 < c → i < places → j < places → slice_index s.words i ≡ c → slice_index s.words j ≡ c → i ≡ j
