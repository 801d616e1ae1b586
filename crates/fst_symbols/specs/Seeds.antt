-- What hashes begin with.
use Rattle.std.specs.Prelude.{ℕ, List}
use Rattle.std.specs.Hash.DefaultHasher as sip
use Rattle.sha2.specs.Sha256.{sha256}
use Rattle.fst_symbols.specs.declared.seeded.Seeded.{Seeded}

-- the digest of what is read
unfoldable pub seeded_by : List ℕ → Seeded
seeded_by bytes = record { begin = sip.write sip.initial (sha256 bytes) }
