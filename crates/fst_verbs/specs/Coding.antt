-- `encode`: labels, and with them weights, as numbers of the entries of a codex; and back. (OpenFst manual, "Encode".)
use Rattle.std.specs.Prelude.{◌≡◌, Bool, true, false, Option, Some, None, Result, Ok, Err}
use Rattle.fst_semiring.specs.declared.arc_type.ArcType.{ArcType}
use Rattle.fst_semiring.specs.Cost.{Cost}
use Rattle.fst_machine.specs.Machine.{Machine}
use Rattle.fst_codex.specs.Decoded.{Decodes, GivesBack}
use Rattle.fst_codex.specs.Encoded.{IsEncoded}
use Rattle.fst_codex.specs.Faults.{decode_text}
use Rattle.fst_codex.specs.Table.{Table}
use Rattle.fst_codex.specs.declared.decoding.DecodeFault.{DecodeFault}
use Rattle.fst_codex.specs.declared.decoding.DecodeFault.TheVariants as decoding
use Rattle.fst_words.specs.declared.options.Options.{Options}
use Rattle.fst_verbs.specs.Causes.{unmade}
use Rattle.fst_verbs.specs.Given.{Given}
use Rattle.fst_verbs.specs.Meaning.{IsMachine, Made, Meaning, Stops, answered, coded, for_one, machine, separation, text}

-- the codex and the machine that stand for a machine, which decodes to it again
pub record Encodes (kind : ArcType) (weights : Bool) (m r : Machine Cost) (table : Table Cost) : Type 0 where
  pub encodes : IsEncoded kind weights m r table
  pub again : (back : Result (Machine Cost) DecodeFault) → Decodes kind (λ w. w) r table back → GivesBack m back

-- what is made is a codex and a machine of this arc type, of which this is said
abbrev pub IsCoded : ArcType → (Table Cost → Machine Cost → Type 0) → Made → Type 0
IsCoded kind says (machine k m) = ⊥
IsCoded kind says (text bytes) = ⊥
IsCoded kind says (answered bytes expansions) = ⊥
IsCoded kind says (separation bytes) = ⊥
IsCoded kind says (coded k table m) = (k ≡ kind) × says table m

-- the codex that is there
abbrev pub for_codex : Option (Table Cost) → (Table Cost → Type 0) → Type 0
for_codex None says = ⊥
for_codex (Some table) says = says table

-- with the flag for decoding, and without it
abbrev pub coding_stops : Bool → Given → Stops
coding_stops true given fault = for_one given.machines (λ m. for_codex given.codex (λ table.
    (why : DecodeFault) × Decodes given.kind (λ w. w) m table (Err why) × (why ≡ decoding.Memory → ⊥) × (fault ≡ unmade (decode_text why))))
coding_stops false given fault = ⊥

abbrev pub coding_makes : Bool → Bool → Given → Made → Type 0
coding_makes true weights given made = for_one given.machines (λ m. for_codex given.codex (λ table.
    IsMachine given.kind (λ r. Decodes given.kind (λ w. w) m table (Ok r)) made))
coding_makes false weights given made = for_one given.machines (λ m. IsCoded given.kind (λ table r. Encodes given.kind weights m r table) made)

abbrev pub coding_meaning : (decode weights : Bool) → Meaning
coding_meaning decode weights = record { stops = coding_stops decode; makes = coding_makes decode weights }

abbrev pub encode_meaning : Options → Meaning
encode_meaning o = coding_meaning o.decode o.encode_weights
