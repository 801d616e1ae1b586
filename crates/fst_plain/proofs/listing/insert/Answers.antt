use Rattle.std.proofs.Common.{◌≡◌, ◌++◌, ◌∷◌, ℕ, List, Bool, true, false, cond, map, take, drop, sym, ap, ◌∙◌}
use Rattle.std.proofs.lemmas.List.{map-append, take-map, drop-map}
use Rattle.fst_plain.specs.declared.path.PlainPath.{PlainPath}
use Rattle.fst_plain.specs.PlainPaths.{path_of}
use Rattle.fst_plain.specs.Collected.{place_in, ties_in}
use Rattle.fst_plain.proofs.Collecting.{inserted_is}
use Rattle.fst_plain.proofs.listing.insert.Goals as goal

pub returns-then-ties : goal.returns-then-ties
returns-then-ties c =
    let old = map path_of c.args.found.now.items in
    let a = path_of c.args.path in
    let tied : ties_in old a ≡ true = ap (λ (ps : List PlainPath). ties_in (map path_of ps) a) (sym c.as_slice.ensures.value) ∙ (sym c.ties.ensures ∙ c.if-ties.true) in
    sym (inserted_is old a ∙ ap (λ (t : Bool). cond t old (take (place_in old a) old ++ a ∷ drop (place_in old a) old)) tied)

pub returns : goal.returns
returns c =
    let items = c.args.found.now.items in
    let old = map path_of items in
    let a = path_of c.args.path in
    let n = c.place_of-place.result in
    let free : ties_in old a ≡ false = ap (λ (ps : List PlainPath). ties_in (map path_of ps) a) (sym c.as_slice.ensures.value) ∙ (sym c.ties.ensures ∙ c.if-ties.false) in
    let place : n ≡ place_in old a = c.place_of-place.ensures.value ∙ ap (λ (ps : List PlainPath). place_in (map path_of ps) a) c.as_slice-2.ensures.value in
    let put : map path_of c.insert.new.self.items ≡ take n old ++ a ∷ drop n old = ap (map path_of) c.in_ok-insert.ensures.items ∙ (map-append path_of (take n items) (c.args.path ∷ drop n items) ∙ (λ i. sym (take-map path_of n items) i ++ a ∷ sym (drop-map path_of n items) i)) in
    put ∙ (ap (λ (m : ℕ). take m old ++ a ∷ drop m old) place ∙ sym (inserted_is old a ∙ ap (λ (t : Bool). cond t old (take (place_in old a) old ++ a ∷ drop (place_in old a) old)) free))
