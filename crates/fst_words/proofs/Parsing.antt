-- What a parse by `clap` says of the words.
use Rattle.std.proofs.Common.{◌≡◌, ◌∙◌, ◌&&◌, if◌then◌else◌, ℕ, Bool, true, false, List, [], ◌∷◌, Some, None, refl, sym, ap, subst, arith}
use Rattle.clap.specs.Faults.{fault_of, is_simple_and_free}
use Rattle.clap.specs.Kinds.{IsAmong, Kinds}
use Rattle.clap.specs.Simple.{App, is_simple, matches_of}
use Rattle.clap.specs.Walk.{Row, is_empty}
use Rattle.clap.specs.declared.error.kind.ErrorKind.{ErrorKind}
use Rattle.fst_words.specs.Commands.{app_of_verb, found_in}
use Rattle.fst_words.specs.declared.verb.Verb.{Verb}
use Rattle.fst_words.proofs.KnownVerbs.{is_known}

pub free_at : (verb : Verb) (app : App) → app ≡ app_of_verb verb → is_simple_and_free app ≡ true
free_at verb app is = ap is_simple_and_free is ∙ (is_known verb).is_simple

simple_first : (a b : Bool) → (a && b) ≡ true → a ≡ true
simple_first true b e = refl
simple_first false b e = e

pub simple_at : (verb : Verb) (app : App) → app ≡ app_of_verb verb → is_simple app ≡ true
simple_at verb app is = simple_first (is_simple app) _ (free_at verb app is)

-- a parse that succeeds finds the rows of the words
pub found_rows : (verb : Verb) (app : App) (words : List (List ℕ)) (rows : List Row) → app ≡ app_of_verb verb → fault_of app words ≡ []
    → rows ≡ matches_of app words → found_in verb words ≡ Some rows
unfolding found_in
found_rows verb app words rows is none found =
    let no_fault : fault_of (app_of_verb verb) words ≡ [] = ap (λ (a : App). fault_of a words) (sym is) ∙ none in
    rw no_fault (ap Some (ap (λ (a : App). matches_of a words) (sym is) ∙ sym found))

-- a parse that fails by a fault of the words finds none
pub found_none : (verb : Verb) (app : App) (words : List (List ℕ)) (kind : ErrorKind) → app ≡ app_of_verb verb
    → IsAmong kind (fault_of app words) → found_in verb words ≡ None
unfolding found_in
found_none verb app words kind is among = go (fault_of (app_of_verb verb) words) (subst (λ (a : App). IsAmong kind (fault_of a words)) is among)
  where
    go : (faults : Kinds) → IsAmong kind faults → (if is_empty faults then Some (matches_of (app_of_verb verb) words) else None) ≡ None
    go [] h = absurd h
    go (fault ∷ faults) h =
        let some : is_empty (fault ∷ faults) ≡ false = grind arith in
        rw some refl
