-- `encode --decode`: what stops it.
use Rattle.std.specs.Option.{option_map}
use Rattle.std.proofs.Common.{◌≡◌, Bool, true, false, [], ◌∷◌, Option, Some, Result, Ok, Err, refl, sym, subst, inl}
use Rattle.fst_semiring.specs.declared.arc_type.ArcType.{ArcType}
use Rattle.fst_semiring.specs.Cost.{Cost}
use Rattle.fst_machine.specs.Machine.{Machine}
use Rattle.fst_codex.specs.Decoded.{Decodes}
use Rattle.fst_codex.specs.Faults.{decode_text}
use Rattle.fst_codex.specs.Table.{Table}
use Rattle.fst_codex.specs.declared.decoding.DecodeFault.{DecodeFault}
use Rattle.fst_codex.specs.declared.decoding.DecodeFault.TheVariants as decoding
use Rattle.fst_verbs.specs.Causes.{faulty, refused, unmade}
use Rattle.fst_verbs.specs.Coding.{coding_meaning, encode_meaning}
use Rattle.fst_verbs.specs.Meaning.{Declines, Made, Passes, Settles, Stops}
use Rattle.fst_verbs.specs.Told.{IsMade}
use Rattle.fst_verbs.specs.declared.refusal.Refusal.{Refusal}
use Rattle.fst_verbs.specs.declared.refusal.Refusal.TheVariants as refusals
use Rattle.fst_words.specs.declared.options.Options.{Options}
use Rattle.fst_machine.specs.Machine.{valued}
use Rattle.fst_codex.specs.Table.{valued_table}
use Rattle.fst_verbs.specs.Seeing.{given_seen, given_with, just}
use Rattle.fst_verbs.specs.declared.tables.Tables.{Tables as DeclaredTables}
use Rattle.fst_verbs.specs.declared.given.Given.{Given as DeclaredGiven}
use Rattle.fst_verbs.proofs.Settled.{settled}
use Rattle.fst_verbs.proofs.Refusing.{declines_made}

abbrev pub decode_stops : ArcType → Machine Cost → Table Cost → Stops
decode_stops kind m table fault = (why : DecodeFault) × Decodes kind (λ w. w) m table (Err why) × (why ≡ decoding.Memory → ⊥) × (fault ≡ unmade (decode_text why))

-- a fault of decoding, or of memory
pub undecoded_declines : (kind : ArcType) (m : Machine Cost) (table : Table Cost) (why : DecodeFault) (refusal : Refusal) → Decodes kind (λ w. w) m table (Err why)
    → IsMade (refused (faulty (unmade (decode_text why)))) refusal → (why ≡ decoding.Memory → refusal ≡ refusals.Memory) → Declines (decode_stops kind m table) refusal
undecoded_declines kind m table (decoding.NotAcceptor state place) refusal decodes made memory =
    declines_made (decode_stops kind m table) (unmade (decode_text (decoding.NotAcceptor state place))) refusal (decoding.NotAcceptor state place, decodes, (λ e. cc), refl) made
undecoded_declines kind m table (decoding.NotInCodex label) refusal decodes made memory =
    declines_made (decode_stops kind m table) (unmade (decode_text (decoding.NotInCodex label))) refusal (decoding.NotInCodex label, decodes, (λ e. cc), refl) made
undecoded_declines kind m table (decoding.Overflow state) refusal decodes made memory =
    declines_made (decode_stops kind m table) (unmade (decode_text (decoding.Overflow state))) refusal (decoding.Overflow state, decodes, (λ e. cc), refl) made
undecoded_declines kind m table decoding.Memory refusal decodes made memory = inl (memory refl)

-- decoding has one answer
decoded_once : (kind : ArcType) (m d : Machine Cost) (table : Table Cost) (why : DecodeFault) → Decodes kind (λ w. w) m table (Ok d) → Decodes kind (λ w. w) m table (Err why) → why ≡ decoding.Memory
decoded_once kind m d table (decoding.NotAcceptor state place) ok err = absurd (ok.0 state place err.0)
decoded_once kind m d table (decoding.NotInCodex label) ok err = absurd (ok.1 err.1.state err.1.place err.2.0)
decoded_once kind m d table (decoding.Overflow state) ok err = absurd (ok.2 state err.2 err.3.0)
decoded_once kind m d table decoding.Memory ok err = refl

pub decoded_passes : (kind : ArcType) (m d : Machine Cost) (table : Table Cost) → Decodes kind (λ w. w) m table (Ok d) → Passes (decode_stops kind m table)
decoded_passes kind m d table decodes fault (why, stops, told, is) = told (decoded_once kind m d table why decodes stops)

-- with the flag for decoding, and without it
pub settles_encoded : {W X : Type 0} (o : Options) (kind : ArcType) (value : W → Cost) (g : DeclaredGiven W X) (m : Machine W) (r : Result Made Refusal) → o.decode ≡ false → g.machines.items ≡ m ∷ []
    → Settles (coding_meaning false o.encode_weights) (just kind (valued value m ∷ [])) r → Settles (encode_meaning o) (given_seen kind value g) r
settles_encoded o kind value g m r plain e h =
    settled (encode_meaning o) kind value g (m ∷ []) r e
    (subst (λ (d : Bool). Settles (coding_meaning d o.encode_weights) (record (given_seen kind value g) { machines = valued value m ∷ [] }) r) (sym plain) (go r h)) where
      go : (r : Result Made Refusal) → Settles (coding_meaning false o.encode_weights) (just kind (valued value m ∷ [])) r → Settles (coding_meaning false o.encode_weights) (record (given_seen kind value g) { machines = valued value m ∷ [] }) r
      go (Ok made) s = s
      go (Err refusal) s = s

pub settles_decoded : {W X : Type 0} (o : Options) (kind : ArcType) (value : W → Cost) (g : DeclaredGiven W X) (m : Machine W) (table : Table W) (r : Result Made Refusal) → o.decode ≡ true → g.machines.items ≡ m ∷ [] → g.codex ≡ Some table
    → Settles (coding_meaning true false) (record (just kind (valued value m ∷ [])) { codex = Some (valued_table value table) }) r → Settles (encode_meaning o) (given_seen kind value g) r
settles_decoded o kind value g m table r coded e has h =
    settled (encode_meaning o) kind value g (m ∷ []) r e
    (subst (λ (d : Bool). Settles (coding_meaning d o.encode_weights) (record (given_seen kind value g) { machines = valued value m ∷ [] }) r) (sym coded)
    (subst (λ (c : Option (Table _)). Settles (coding_meaning true o.encode_weights) (record (given_seen kind value g) { machines = valued value m ∷ []; codex = option_map (valued_table value) c }) r) (sym has) (go r h))) where
      go : (r : Result Made Refusal) → Settles (coding_meaning true false) (record (just kind (valued value m ∷ [])) { codex = Some (valued_table value table) }) r
          → Settles (coding_meaning true o.encode_weights) (record (given_seen kind value g) { machines = valued value m ∷ []; codex = Some (valued_table value table) }) r
      go (Ok made) s = s
      go (Err refusal) s = s

-- what it settles of what it is given beside the symbol tables, it settles of all of it
pub coded_with : {W X : Type 0} (decode weights : Bool) (t : DeclaredTables) (kind : ArcType) (value : W → Cost) (g : DeclaredGiven W X) (r : Result Made Refusal) → Settles (coding_meaning decode weights) (given_seen kind value g) r → Settles (coding_meaning decode weights) (given_with t kind value g) r
coded_with true weights t kind value g r settles = settles
coded_with false weights t kind value g r settles = settles
