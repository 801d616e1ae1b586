use Rattle.std.proofs.Common.{◌≡◌, ◌++◌, ℕ, List, length}
use Rattle.fst_claims.specs.Claimed.{IsLike, Passed}
use Rattle.fst_claims.specs.Passes.{IsPassOf, view}
use Rattle.fst_claims.proofs.table.Claims.claim.Given as goal

abbrev pub invariant-loop-k : goal.invariant-loop-k
invariant-loop-k l = record {
  seen : List (ℕ × ℕ);
  passed : Passed l.self.places l.code seen;
  count : length seen ≡ l.k;
  found : (view l.pass).found ≡ (view l.initial.pass).found ++ seen;
  won : (view l.pass).won ≡ (view l.initial.pass).won;
  same : IsPassOf l.self l.pass;
  like : IsLike (view l.initial.pass) (view l.pass);
}
