use Rattle.std.proofs.Common.{◌≡◌, ◌+◌, ◌++◌, ◌∷◌, [], ℕ, List, length, set, refl, sym, ap, ◌∙◌, subst, subst₂, arith}
use Rattle.std.proofs.lemmas.List.{length-append, length-map, map-append}
use Rattle.fst_semiring.specs.Cost.{Cost}
use Rattle.fst_search.specs.Closure.{Reached}
use Rattle.fst_search.specs.Near.{ArePlaced, IsMet, costs_of, names_of}
use Rattle.fst_search.proofs.ShortSearch.{met_few, met_listed, met_placed}
use Rattle.fst_search.proofs.short_search.meet.Goals.{In_ok-push}
use Rattle.fst_search.proofs.short_search.meet.Given.{Over}
use Rattle.fst_search.proofs.short_search.meet.Goals as goal

-- how many have been met
counted : (g : Over) (c : In_ok-push g) → length c.push.new.self.items ≡ length c.args.reached.now.items + 1
counted g c = ap length c.in_ok-push.ensures.items ∙ length-append c.args.reached.now.items (record { state = c.args.state; distance = c.args.distance } ∷ [])

pub overflow_cast-len : goal.overflow_cast-len
overflow_cast-len g c =
    let few = met_few (length c.args.places.now.items) c.args.places.now.items (names_of c.args.reached.now.items) refl c.requires.placed in
    let many : length (names_of c.args.reached.now.items) ≡ length c.args.reached.now.items = length-map c.args.reached.now.items _ in
    let all = counted g (goal.at.overflow_cast-len g c).In_ok-push in
    let size = c.requires.size in
    let is = c.len.ensures in
    omega (arith, few, many, all, size, is)

pub returns-clause-placed : goal.returns-clause-placed
returns-clause-placed g c =
    let items = c.args.reached.now.items in
    let r : Reached g.row.W.Denot = record { state = c.args.state; distance = c.args.distance } in
    let many : length (names_of items) ≡ length items = length-map items _ in
    let place : c.len.result ≡ length (names_of items) + 1 = (let is = c.len.ensures in let all = counted g (goal.at.returns-clause-placed g c).In_ok-push in omega (arith, is, all, many)) in
    let names : names_of c.push.new.self.items ≡ names_of items ++ c.args.state ∷ [] = ap names_of c.in_ok-push.ensures.items ∙ map-append (λ (z : Reached g.row.W.Denot). z.state) items (r ∷ []) in
    subst₂ (λ (k : ℕ) (zs : List ℕ). ArePlaced (set c.args.places.now.items c.args.state k) zs) (sym place) (sym names) (met_placed c.args.places.now.items (names_of items) c.requires.placed c.args.state c.requires.state c.requires.new)

pub returns-clause-listed : goal.returns-clause-listed
returns-clause-listed g c =
    let value = g.W.Weight.value in
    let items = c.args.reached.now.items in
    let r : Reached g.row.W.Denot = record { state = c.args.state; distance = c.args.distance } in
    let many : length (names_of items) ≡ length items = length-map items _ in
    let costly : length (costs_of value items) ≡ length items = length-map items _ in
    let place : c.len.result ≡ length (names_of items) + 1 = (let is = c.len.ensures in let all = counted g (goal.at.returns-clause-listed g c).In_ok-push in omega (arith, is, all, many)) in
    let costs : costs_of value c.push.new.self.items ≡ costs_of value items ++ value c.args.distance ∷ [] = ap (costs_of value) c.in_ok-push.ensures.items ∙ map-append (λ (z : Reached g.row.W.Denot). value z.distance) items (r ∷ []) in
    subst₂ (λ (k : ℕ) (zs : List Cost). IsMet c.args.state (value c.args.distance) (length items) c.args.places.now.items (set c.args.places.now.items c.args.state k) (costs_of value items) zs) (sym place) (sym costs)
    (subst (λ (k : ℕ). IsMet c.args.state (value c.args.distance) k c.args.places.now.items (set c.args.places.now.items c.args.state (length (names_of items) + 1)) (costs_of value items) (costs_of value items ++ value c.args.distance ∷ [])) many
    (met_listed c.args.places.now.items (names_of items) c.requires.placed c.args.state c.requires.state c.requires.new (value c.args.distance) (costs_of value items) (costly ∙ sym many)))

pub returns-clause-longer : goal.returns-clause-longer
returns-clause-longer g c = let all = counted g (goal.at.returns-clause-longer g c).In_ok-push in omega (arith, all)
