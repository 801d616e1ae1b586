use Rattle.std.proofs.Common.{◌∙◌, sym, ap, List, ℕ, Bor, Option, [], map, codes}
use Rattle.std.specs.Option.{option_map, unwrap_or}
use Rattle.std.proofs.lemmas.Result.{IfOk-weaker}
use Rattle.clap.proofs.WalkLemmas.{raw_values-rows}
use Rattle.clap.specs.Matches.{found_of}
use Rattle.fst_words.proofs.given.names_in.Goals as goal

abbrev texts_of : Option (Bor (List (Bor (List ℕ)))) → List (List ℕ)
texts_of o = unwrap_or (option_map (λ s. map (λ v. v.now) s.now) o) []

pub returns-in-Some : goal.returns-in-Some
returns-in-Some c =
    IfOk-weaker c.kept.result _ _ (λ n h. h ∙ (ap texts_of (sym c.in-Some.is)
    ∙ ap (λ (o : Option (List (List ℕ))). unwrap_or o []) (c.get_strs.ensures ∙ raw_values-rows (found_of c.args.found.now) (codes "names")))) c.kept.ensures

pub returns-in-None : goal.returns-in-None
returns-in-None c =
    c.new.ensures ∙ (ap texts_of (sym c.in-None.is)
    ∙ ap (λ (o : Option (List (List ℕ))). unwrap_or o []) (c.get_strs.ensures ∙ raw_values-rows (found_of c.args.found.now) (codes "names")))
