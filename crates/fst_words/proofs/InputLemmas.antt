-- The inputs of a plan, one after the other.
use Rattle.std.proofs.Common.{◌≡◌, ◌∙◌, ◌+◌, ℕ, zero, suc, List, [], ◌∷◌, ◌++◌, map, take, Some, slice_get, sym, ap, arith, append_assoc}
use Rattle.std.proofs.lemmas.List.{map-append}
use Rattle.fst_words.specs.declared.form.Shape.{Shape}
use Rattle.fst_words.specs.declared.inputs.Input as declared
use Rattle.fst_words.specs.Forms.{role_of}
use Rattle.fst_words.specs.Inputs.{Input, input_seen, inputs_from}

-- one more
inputs_next : (shape : Shape) (at : ℕ) (names : List (List ℕ)) (k : ℕ) (name : List ℕ) → slice_get names k ≡ Some name
    → inputs_from shape at (take (suc k) names) ≡ inputs_from shape at (take k names) ++ record { name = name; role = role_of shape (at + k) } ∷ []
inputs_next shape at [] k name is = cc
inputs_next shape at (n ∷ names) zero name is =
    let same : n ≡ name = cc in
    let here : at + 0 ≡ at = omega arith in
    rw here (ap (λ (x : List ℕ). record { name = x; role = role_of shape at } ∷ []) same)
inputs_next shape at (n ∷ names) (suc k) name is =
    let there : at + suc k ≡ suc at + k = omega arith in
    rw there (ap (λ (is : List Input). record { name = n; role = role_of shape at } ∷ is) (inputs_next shape (suc at) names k name is))

-- an input was put behind the others
pub pushed : (shape : Shape) (options : List Input) (names : List (List ℕ)) (k next : ℕ) (name : List ℕ) (old new : List declared.Input) (i : declared.Input)
    → next ≡ k + 1 → slice_get names k ≡ Some name → new ≡ old ++ i ∷ [] → input_seen i ≡ record { name = name; role = role_of shape k }
    → map input_seen old ≡ options ++ inputs_from shape 0 (take k names) → map input_seen new ≡ options ++ inputs_from shape 0 (take next names)
pushed shape options names k next name old new i follows at put seen before =
    let one : next ≡ suc k = omega (arith, follows) in
    let place : 0 + k ≡ k = omega arith in
    let more = inputs_next shape 0 names k name at in
    ap (map input_seen) put ∙ map-append input_seen old (i ∷ []) ∙ ap (λ (is : List Input). is ++ input_seen i ∷ []) before ∙ ap (λ (x : Input). (options ++ inputs_from shape 0 (take k names)) ++ x ∷ []) seen
    ∙ append_assoc options (inputs_from shape 0 (take k names)) _ ∙ ap (λ (is : List Input). options ++ is) (ap (λ (n : ℕ). inputs_from shape 0 (take k names) ++ record { name = name; role = role_of shape n } ∷ []) (sym place) ∙ sym more)
    ∙ ap (λ (n : ℕ). options ++ inputs_from shape 0 (take n names)) (sym one)
