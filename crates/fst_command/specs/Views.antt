-- What was read, and what is written, seen as what the definitions speak of.
use Rattle.std.specs.Prelude.{ℕ, List, [], ◌∷◌, map}
use Rattle.std.specs.Option.{option_map}
use Rattle.fst_any.specs.Typed.{typed, typed_codex}
use Rattle.fst_verbs.specs.Given.{Held}
use Rattle.fst_verbs.specs.Meaning.{Product}
use Rattle.fst_verbs.specs.Seeing.{tables_seen}
use Rattle.fst_command.specs.declared.held.Held.{Held as DeclaredHeld}
use Rattle.fst_command.specs.declared.product.Bytes.{Bytes}
use Rattle.fst_command.specs.declared.product.Bytes.TheVariants as bytes
use Rattle.fst_command.specs.declared.product.Product.{Product as DeclaredProduct}

-- what was read
abbrev pub held_seen : DeclaredHeld → Held
held_seen h = record {
  tables = tables_seen h.tables;
  ipairs = h.ipairs;
  opairs = h.opairs;
  lines = h.lines.items;
  machines = map typed h.machines.items;
  codex = option_map typed_codex h.codex;
}

-- the bytes of its outputs
abbrev pub bytes_seen : Bytes → List (List ℕ)
bytes_seen (bytes.One first) = first.items ∷ []
bytes_seen (bytes.Two first second) = first.items ∷ second.items ∷ []

-- and the status beside them
abbrev pub product_seen : DeclaredProduct → Product
product_seen p = record { status = p.status; bytes = bytes_seen p.bytes }
