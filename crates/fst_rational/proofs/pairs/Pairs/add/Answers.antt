use Rattle.std.proofs.Common.{◌≡◌, ◌∙◌, ◌∷◌, ◌++◌, [], ℕ, List, None, Ok, ap, sym, subst, is_some}
use Rattle.std.specs.Prelude.{nat_eq}
use Rattle.std.specs.Map.{lookup}
use Rattle.fst_table.specs.Found.{found_in}
use Rattle.fst_table.specs.Slots.{with_place}
use Rattle.fst_rational.specs.Pairs.{AreKept, pairs_of}
use Rattle.fst_rational.proofs.Reading.{AreKept-push, none_of, pairs_of-push, with_pair-new, with_pair-old}
use Rattle.fst_rational.proofs.pairs.Pairs.add.Goals as goal

pub returns-then-is_some : goal.returns-then-is_some
returns-then-is_some c =
    let es = c.self.inside.list.items in
    let news = found_in c.self.inside.news in
    let found : lookup (nat_eq c.args.old) es ≡ c.in_ok-known.known = sym (c.self.invariant.found c.args.old) ∙ ap news (sym c.from.ensures) ∙ sym c.in_ok-known.ensures.place in
    rw (← c.self.view_is) (with_pair-old c.args.line es c.args.old c.args.new (ap is_some found ∙ sym c.is_some.ensures ∙ c.if-is_some.true))

pub invariant_of-self-2 : goal.invariant_of-self-2
invariant_of-self-2 c =
    let es = c.self.inside.list.items in
    let news = found_in c.self.inside.news in
    let more = c.push_reserved.ensures.items ∙ ap (λ (xs : List (ℕ × ℕ)). xs ++ (c.args.old, c.args.new) ∷ []) c.reserve.ensures.items in
    let none : c.in_ok-known.known ≡ None = none_of c.in_ok-known.known (sym c.is_some.ensures ∙ c.if-is_some.false) in
    let free : news c.args.old ≡ None = ap news (sym c.from.ensures) ∙ sym c.in_ok-known.ensures.place ∙ none in
    let told : (n : ℕ) → found_in c.find_or_add.new.self n ≡ with_place news c.args.old c.args.new n = rw c.from.ensures at (c.in_ok-known.ensures.added none) in
    subst (λ (xs : List (ℕ × ℕ)). AreKept xs (found_in c.find_or_add.new.self)) (sym more)
    (AreKept-push es news c.self.invariant (found_in c.find_or_add.new.self) c.args.old c.args.new c.requires.label c.requires.old c.requires.new free told)

pub returns : goal.returns
returns c =
    let es = c.self.inside.list.items in
    let news = found_in c.self.inside.news in
    let more = c.push_reserved.ensures.items ∙ ap (λ (xs : List (ℕ × ℕ)). xs ++ (c.args.old, c.args.new) ∷ []) c.reserve.ensures.items in
    let found : lookup (nat_eq c.args.old) es ≡ c.in_ok-known.known = sym (c.self.invariant.found c.args.old) ∙ ap news (sym c.from.ensures) ∙ sym c.in_ok-known.ensures.place in
    rw (← c.self.view_is) (with_pair-new c.args.line es c.args.old c.args.new (ap is_some found ∙ sym c.is_some.ensures ∙ c.if-is_some.false) ∙ ap Ok (sym (ap pairs_of more ∙ pairs_of-push es c.args.old c.args.new)))
