use Rattle.std.proofs.Common.{◌≡◌, ◌==◌, ◌∙◌, ◌∷◌, ◌++◌, [], ℕ, Some, None, Option, cond, map, ap, sym, subst}
use Rattle.fst_table.specs.Placed.{placed_in}
use Rattle.fst_replace.specs.Rules.{AreKept}
use Rattle.fst_replace.proofs.Entries.{AreKept-one}
use Rattle.fst_replace.proofs.rule.Rules.new.Goals as goal

pub invariant_of-result : goal.invariant_of-result
invariant_of-result g c =
    let root = c.args.root in
    let told : (n : ℕ) → placed_in c.add.new.self n ≡ cond (n == root.label) (Some 0) None = λ n.
    (rw c.from.ensures at c.in_ok-add.ensures.added) n ∙ ap (λ (o : Option ℕ). cond (n == root.label) (Some 0) o) (c.new-places.ensures n) in
    let alone = c.in_ok-push.ensures.items ∙ ap (λ xs. xs ++ root ∷ []) c.new-list.ensures.items in
    subst (λ xs. AreKept g.W.Weight.value (map (λ e. record { label = e.label; machine = e.machine.now }) xs) (placed_in c.add.new.self)) (sym alone)
    (AreKept-one g.W.Weight.value (record { label = root.label; machine = root.machine.now }) (placed_in c.add.new.self) c.requires.label c.requires.small c.states-states.ensures.machine told)
