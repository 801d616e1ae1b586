-- Numbered arcs, one after the other.
use Rattle.std.proofs.Common.{ℕ, List, [], ◌∷◌, ◌++◌, sym, subst, append-nil, append_assoc}
use Rattle.std.specs.List.{AllZip}
use Rattle.fst_semiring.specs.Cost.{Cost}
use Rattle.fst_machine.specs.Machine.{Arc}
use Rattle.fst_walk.specs.Making.{IsNumberedArc}
use Rattle.fst_walk.proofs.Putting.{zip_push}
use Rattle.fst_batch.specs.Filling.{Continues}

module _ {N : Type 0} (names : List N) where
  pub continues_none : (old : List (Arc Cost ℕ)) → Continues names [] old old
  continues_none old = λ before h. subst (λ (xs : List (Arc Cost N)). AllZip (IsNumberedArc names) xs old) (sym (append-nil before)) h

  pub continues_one : (a : Arc Cost N) (b : Arc Cost ℕ) (old : List (Arc Cost ℕ)) → IsNumberedArc names a b → Continues names (a ∷ []) old (old ++ b ∷ [])
  continues_one a b old is = λ before h. zip_push (IsNumberedArc names) before old a b h is

  pub continues_then : (xs ys : List (Arc Cost N)) (old mid new : List (Arc Cost ℕ)) → Continues names xs old mid → Continues names ys mid new → Continues names (xs ++ ys) old new
  continues_then xs ys old mid new one two = λ before h. subst (λ (zs : List (Arc Cost N)). AllZip (IsNumberedArc names) zs new) (append_assoc before xs ys) (two (before ++ xs) (one before h))

  pub continues_all : (xs : List (Arc Cost N)) (new : List (Arc Cost ℕ)) → Continues names xs [] new → AllZip (IsNumberedArc names) xs new
  continues_all xs new h = h [] tt
