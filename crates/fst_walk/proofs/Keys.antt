-- Names in a table.
use Rattle.std.proofs.Common.{◌≡◌, ◌⊎◌, inl, inr, ℕ, ◌+◌, ◌<◌, ◌≤◌, Bool, true, false, List, [], ◌∷◌, ◌++◌, Some, length, slice_get, refl, sym, ap, ◌∙◌, true≢false, if◌then◌else◌, arith}
use Rattle.std.specs.Bool.{Decides}
use Rattle.std.specs.List.{list_any}
use Rattle.std.proofs.lemmas.List.{length-append}
use Rattle.std.proofs.lemmas.Option.{slice_get_within}
use Rattle.fst_keys.specs.Keys.{with_key}
use Rattle.fst_machine.specs.BreadthFirst.{Grows}
use Rattle.fst_machine.proofs.Arcs.{append_at}
use Rattle.fst_machine.proofs.Elements.{at_Has, any-Has, Has-any}
use Rattle.fst_walk.specs.Making.{Passes}

module _ {K : Type 0} (eq : K → K → Bool) (same : (x y : K) → Decides (eq x y) (x ≡ y)) where
  -- a key that is put in is new, or was there
  pub put_grows : (ks new : List K) (k : K) → new ≡ with_key eq ks k → Grows ks (k ∷ []) new
  put_grows ks new k put = by (list_any (eq k) ks) refl
    where
      by : (b : Bool) → list_any (eq k) ks ≡ b → Grows ks (k ∷ []) new
      by true e = inl (any-Has eq same ks k e, sym (put ∙ ap (λ c. if c then ks else ks ++ k ∷ []) e))
      by false e = inr ((λ h. true≢false (sym (Has-any eq same ks k h) ∙ e)), sym (put ∙ ap (λ c. if c then ks else ks ++ k ∷ []) e))

-- and where it is new, it stands last
pub put_last : {K : Type 0} (ks new : List K) (k : K) (place : ℕ) → Grows ks (k ∷ []) new → slice_get new place ≡ Some k → (new ≡ ks) ⊎ (length new ≡ place + 1)
put_last ks new k place (inl old) there = inl (sym old.1)
put_last ks new k place (inr fresh) there = by_part (append_at ks (k ∷ []) place k (ap (λ xs. slice_get xs place) fresh.1 ∙ there))
  where
    by_part : (slice_get ks place ≡ Some k) ⊎ ((j : ℕ) × (slice_get (k ∷ []) j ≡ Some k) × (place ≡ length ks + j)) → (new ≡ ks) ⊎ (length new ≡ place + 1)
    by_part (inl early) = absurd (fresh.0 (at_Has ks place k early))
    by_part (inr late) = inr (let low : late.0 < 1 = slice_get_within (k ∷ []) late.0 k late.1 in omega (arith, late.2, low, ap length fresh.1, length-append ks (k ∷ [])))

-- a name past the limit
pub passed : {K : Type 0} (limit : ℕ) (old new : List K) (k : K) (place : ℕ) → Grows old (k ∷ []) new → slice_get new place ≡ Some k → limit ≤ place → Passes limit old (k ∷ [])
passed limit old new k place grown there past = record { front = k ∷ []; rest = []; parts = refl; found = new; grown = grown; more = let low = slice_get_within new place k there in omega (arith, low, past) }
