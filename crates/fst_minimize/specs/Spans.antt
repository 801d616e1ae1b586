-- States in blocks, the members of each side by side, the marked ones in front.
use Rattle.std.specs.Prelude.{◌≡◌, ℕ, ◌<◌, ◌≤◌, List, get_or, length}
use Rattle.fst_minimize.specs.Numbered.{number_in}
use Rattle.fst_minimize.specs.declared.parts.Span.{Span}

-- where the members of a block stand; a block that is not there has none
abbrev pub span_of : List Span → ℕ → Span
span_of spans b = get_or spans b (record { first = 0; mid = 0; end = 0 })

-- Each state stands in one place, within the span of its block, and the states in the span of a block have its number.
pub record IsParts (members places blocks : List ℕ) (spans : List Span) : Type 0 where
  pub size : length members ≡ length blocks
  pub sizes : length places ≡ length blocks
  pub state : (i : ℕ) → i < length blocks → get_or members i 0 < length blocks
  pub member : (p : ℕ) → p < length blocks → get_or members (get_or places p 0) 0 ≡ p
  pub place : (i : ℕ) → i < length blocks → get_or places (get_or members i 0) 0 ≡ i
  pub number : (p : ℕ) → p < length blocks → number_in blocks p < length spans
  pub behind : (p : ℕ) → p < length blocks → (span_of spans (number_in blocks p)).first ≤ get_or places p 0
  pub before : (p : ℕ) → p < length blocks → get_or places p 0 < (span_of spans (number_in blocks p)).end
  pub own : (b i : ℕ) → b < length spans → (span_of spans b).first ≤ i → i < (span_of spans b).end → number_in blocks (get_or members i 0) ≡ b
  pub from : (b : ℕ) → b < length spans → (span_of spans b).first ≤ (span_of spans b).mid
  pub to : (b : ℕ) → b < length spans → (span_of spans b).mid ≤ (span_of spans b).end
  pub end : (b : ℕ) → b < length spans → (span_of spans b).end ≤ length blocks

-- the state stands before the middle of its block
abbrev pub IsInFront : List ℕ → List ℕ → List Span → ℕ → Type 0
IsInFront places blocks spans p = get_or places p 0 < (span_of spans (number_in blocks p)).mid

-- The members in these places have the new number, and all other states the number that they had.
pub record RenumbersPlaces (members : List ℕ) (first end number : ℕ) (blocks blocks2 : List ℕ) : Type 0 where
  pub size : length blocks2 ≡ length blocks
  pub moved : (i : ℕ) → first ≤ i → i < end → number_in blocks2 (get_or members i 0) ≡ number
  pub kept : (p : ℕ) → ((i : ℕ) → first ≤ i → i < end → get_or members i 0 ≡ p → ⊥) → number_in blocks2 p ≡ number_in blocks p

-- the span is the part of another before its middle, or the part from there on, and has no marks
abbrev pub IsFront : Span → Span → Type 0
IsFront span part = (part.first ≡ span.first) × (part.end ≡ span.mid) × (part.mid ≡ part.first)

abbrev pub IsBack : Span → Span → Type 0
IsBack span part = (part.first ≡ span.mid) × (part.end ≡ span.end) × (part.mid ≡ part.first)
