use Rattle.std.proofs.Common.{◌≡◌, ◌∷◌, ◌++◌, [], sym, subst}
use Rattle.fst_machine.specs.BreadthFirst.{Has, Apart}
use Rattle.fst_queue.specs.Members.{Adds}
use Rattle.fst_machine.proofs.Elements.{Apart-push}
use Rattle.fst_queue.proofs.Members.{Marks-put, pushed_adds, unmarked}
use Rattle.fst_queue.proofs.in_order.InOrderStateQueue.put.Goals as goal

pub invariant_of-self-2 : goal.invariant_of-self-2
invariant_of-self-2 g c =
    let is : c.push_back.new.self.items ≡ c.self.inside.states.items ++ c.args.state ∷ [] = c.in_ok-push_back.ensures.items in
    let absent : Has c.self.inside.states.items c.args.state → ⊥ = unmarked c.self.inside.marks.items c.self.inside.states.items c.args.state _ c.self.invariant.1 c.is_marked.ensures c.if-is_marked.false in (
      subst (λ xs. Apart xs) (sym is) (Apart-push c.self.inside.states.items c.args.state c.self.invariant.0 absent),
      Marks-put c.self.inside.marks.items c.grow.new.marks.items c.self.inside.states.items c.push_back.new.self.items c.args.state c.self.invariant.1 c.in_ok-grow.ensures.same c.in_ok-grow.ensures.room (pushed_adds _ _ _ is),
    )

pub returns-clause-ok : goal.returns-clause-ok
returns-clause-ok g c =
    let is : c.push_back.new.self.items ≡ c.self.inside.states.items ++ c.args.state ∷ [] = c.in_ok-push_back.ensures.items in
    subst (λ old. Adds old c.args.state c.push_back.new.self.items) c.self.view_is (pushed_adds _ _ _ is)

pub returns-clause-apart : goal.returns-clause-apart
returns-clause-apart g c =
    let is : c.push_back.new.self.items ≡ c.self.inside.states.items ++ c.args.state ∷ [] = c.in_ok-push_back.ensures.items in
    let absent : Has c.self.inside.states.items c.args.state → ⊥ = unmarked c.self.inside.marks.items c.self.inside.states.items c.args.state _ c.self.invariant.1 c.is_marked.ensures c.if-is_marked.false in
    subst (λ xs. Apart xs) (sym is) (Apart-push c.self.inside.states.items c.args.state c.self.invariant.0 absent)
