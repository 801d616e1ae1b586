-- The machine of listed strings, and where their weights are out of range.
use Rattle.std.specs.Prelude.{◌≡◌, ◌⊎◌, ℕ, ◌+◌, ◌≤◌, min, List, [], ◌∷◌, length, map, Option, None, Some}
use Rattle.fst_semiring.specs.declared.arc_type.ArcType.{ArcType}
use Rattle.fst_semiring.specs.Semiring.{InRange, one_of}
use Rattle.fst_machine.specs.Letters.{Letter}
use Rattle.fst_nbest.specs.Chains.{Chain}
use Rattle.fst_nbest.specs.Words.{WeightedWord}

-- a label on both sides, with weight One
abbrev pub label_letter : ArcType → ℕ → Letter
label_letter kind l = record { ilabel = l; olabel = l; weight = one_of kind }

-- what a string says: its labels, and its weight at the end
abbrev pub string_chain : ArcType → WeightedWord → Chain
string_chain kind s = record { letters = map (label_letter kind) s.word; last = s.weight }

-- the state in which a string ends behind so many labels: the empty one in the start
abbrev pub end_state : ℕ → List ℕ → ℕ
end_state labels [] = 0
end_state labels (l ∷ word) = labels + length (l ∷ word)

-- in this state ends one of these strings, which stand behind so many labels, and its weight is out of range
abbrev pub EndsOut : ℕ → List WeightedWord → ℕ → Type 0
EndsOut labels [] state = ⊥
EndsOut labels (s ∷ strings) state = ((state ≡ end_state labels s.word) × (InRange s.weight → ⊥)) ⊎ EndsOut (labels + length s.word) strings state

-- the least such state
abbrev pub IsLeastEnd : List WeightedWord → ℕ → Type 0
IsLeastEnd strings state = EndsOut 0 strings state × ((other : ℕ) → EndsOut 0 strings other → state ≤ other)

-- the lesser of two states, where there are two
abbrev pub lesser : Option ℕ → Option ℕ → Option ℕ
lesser None b = b
lesser (Some s) None = Some s
lesser (Some s) (Some t) = Some (min s t)
