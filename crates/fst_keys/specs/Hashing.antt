-- A number for any key.
use Rattle.std.specs.Prelude.{ℕ, List, fold}
use Rattle.std.specs.Hash.FoldHasher.{finish, initial, write}

-- the number of what a key's `hash` writes; nothing hangs on which one it is
unfoldable pub hash_number : List (List ℕ) → ℕ
hash_number writes = finish (fold write initial writes)
