use Rattle.std.proofs.Common.{◌≡◌, ◌==◌, ◌∙◌, ◌∷◌, ◌++◌, [], ℕ, Some, None, length, cond, map, ap, sym, subst, arith}
use Rattle.std.proofs.lemmas.List.{length-map, map-append}
use Rattle.fst_table.specs.Placed.{placed_in}
use Rattle.fst_replace.specs.Rules.{AreKept, labels_of, place_of}
use Rattle.fst_replace.proofs.Entries.{AreKept-push}
use Rattle.fst_replace.proofs.rule.Rules.put.Goals as goal

pub invariant_of-self-2 : goal.invariant_of-self-2
invariant_of-self-2 g c =
    let xs = c.self.inside.list.items in
    let rule = c.args.rule in
    let places = placed_in c.self.inside.places in
    let seen = map (λ e. record { label = e.label; machine = e.machine.now }) xs in
    let free : place_of (labels_of seen) rule.label ≡ None = ap (λ rs. place_of (labels_of rs) rule.label) c.self.view_is ∙ c.requires.new in
    let count : length seen ≡ length xs = length-map xs _ in
    let last : c.len-place.result ≡ length seen = omega (arith, c.len-place.ensures, count) in
    let told : (n : ℕ) → placed_in c.add.new.self n ≡ cond (n == rule.label) (Some (length seen)) (places n) = λ n.
    (rw c.from.ensures at c.in_ok-add.ensures.added) n ∙ ap (λ (k : ℕ). cond (n == rule.label) (Some k) (places n)) last in
    let more = ap (map (λ e. record { label = e.label; machine = e.machine.now })) (c.push_reserved.ensures.items ∙ ap (λ ys. ys ++ rule ∷ []) c.reserve.ensures.items) ∙ map-append (λ e. record { label = e.label; machine = e.machine.now }) xs (rule ∷ []) in
    subst (λ rs. AreKept g.W.Weight.value rs (placed_in c.add.new.self)) (sym more)
    (AreKept-push g.W.Weight.value seen (record { label = rule.label; machine = rule.machine.now }) places (placed_in c.add.new.self) c.self.invariant c.requires.label c.requires.small c.states-states.ensures.machine free told)
