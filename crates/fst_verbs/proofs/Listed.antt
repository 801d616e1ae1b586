-- What `shortestpath` settles of what it is given beside the symbol tables, it settles of all of it.
use Rattle.std.proofs.Common.{ℕ, Bool, true, false, Result}
use Rattle.fst_semiring.specs.declared.arc_type.ArcType.{ArcType}
use Rattle.fst_semiring.specs.Cost.{Cost}
use Rattle.fst_verbs.specs.Listing.{listing_by}
use Rattle.fst_verbs.specs.Meaning.{Made, Settles}
use Rattle.fst_verbs.specs.Seeing.{given_seen, given_with}
use Rattle.fst_verbs.specs.declared.given.Given.{Given as DeclaredGiven}
use Rattle.fst_verbs.specs.declared.refusal.Refusal.{Refusal}
use Rattle.fst_verbs.specs.declared.tables.Tables.{Tables as DeclaredTables}

pub listed_with : {W X : Type 0} (unique : Bool) (n : ℕ) (t : DeclaredTables) (kind : ArcType) (value : W → Cost) (g : DeclaredGiven W X) (r : Result Made Refusal)
    → Settles (listing_by unique n) (given_seen kind value g) r → Settles (listing_by unique n) (given_with t kind value g) r
listed_with true n t kind value g r settles = settles
listed_with false n t kind value g r settles = settles
