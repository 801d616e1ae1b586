-- Names that are put into a table.
use Rattle.std.proofs.Common.{◌≡◌, inr, ℕ, ◌<◌, ◌≤◌, Bool, true, false, not, true≢false, List, [], ◌∷◌, ◌++◌, Some, length, slice_get, if◌then◌else◌, refl, sym, ap, ◌∙◌, arith}
use Rattle.std.specs.Bool.{Decides}
use Rattle.std.specs.List.{list_any}
use Rattle.std.proofs.lemmas.List.{length-append}
use Rattle.fst_keys.specs.Keys.{with_key}
use Rattle.fst_machine.specs.BreadthFirst.{Has}
use Rattle.fst_machine.proofs.Elements.{Has-any}
use Rattle.fst_walk.specs.Making.{IsFound, Passes}
use Rattle.fst_walk.proofs.Keys.{put_grows}

module _ {K : Type 0} (eq : K → K → Bool) (same : (x y : K) → Decides (eq x y) (x ≡ y)) (limit : ℕ) (old : List K) (key : K) where
  -- a name that is put, or was there
  pub found_put : (new : List K) (place : ℕ) (added : Bool) → length old ≤ limit → new ≡ with_key eq old key → added ≡ not (list_any (eq key) old) → (added ≡ true → (place ≡ length old) × (place < limit)) → slice_get new place ≡ Some key
      → IsFound limit old key new place
  found_put new place added few put told last there = record { grown = put_grows eq same old new key put; few = by (list_any (eq key) old) refl; there = there }
    where
      by : (b : Bool) → list_any (eq key) old ≡ b → length new ≤ limit
      by true e = let kept : new ≡ old = put ∙ ap (λ c. if c then old else old ++ key ∷ []) e in omega (arith, few, ap length kept)
      by false e =
          let more : new ≡ old ++ key ∷ [] = put ∙ ap (λ c. if c then old else old ++ key ∷ []) e in
          let at = last (told ∙ ap not e) in
          omega (arith, ap length more, length-append old (key ∷ []), at.0, at.1)

  -- a name for which there is no room
  pub passes_new : limit ≤ length old → list_any (eq key) old ≡ false → Passes limit old (key ∷ [])
  passes_new full fresh = record {
    front = key ∷ [];
    rest = [];
    parts = refl;
    found = old ++ key ∷ [];
    grown = inr ((λ (h : Has old key). true≢false (sym (Has-any eq same old key h) ∙ fresh)), refl);
    more = omega (arith, full, length-append old (key ∷ []));
  }
