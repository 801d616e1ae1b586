use Rattle.std.proofs.Common.{◌≡◌, ◌⊎◌, inl, inr, ℕ, List, [], ◌∷◌, ◌++◌, sym, refl, subst}
use Rattle.fst_machine.specs.BreadthFirst.{Has}
use Rattle.fst_machine.proofs.Elements.{Has-append_left, Has-append_right}
use Rattle.fst_search.proofs.Nodes.{one_more}
use Rattle.fst_search.proofs.table.place.Goals as goal

pub returns-then-turn-mark-2-clause-placed : goal.returns-then-turn-mark-2-clause-placed
returns-then-turn-mark-2-clause-placed g c =
    let later = c.args.later.now.items in
    let state = c.args.state in
    let is : c.push.new.self.items ≡ later ++ state ∷ [] = c.in_ok-push.ensures.items in
    let there : Has c.push.new.self.items state = subst (λ (xs : List ℕ). Has xs state) (sym is) (Has-append_right later (state ∷ []) state (inl refl)) in
    record {
      turn_stays = λ other. absurd (other c.if-turn-mark-2.true);
      turn_put_off = λ e. refl;
      members_kept = λ q h. h;
      members_only = λ q h. inl h;
      later_kept = λ q h. subst (λ (xs : List ℕ). Has xs q) (sym is) (Has-append_left later (state ∷ []) q h);
      later_only = λ q h. by_part q (one_more later state q (subst (λ (xs : List ℕ). Has xs q) is h));
      there = inr (inl (c.if-turn-mark-2.true, there));
    }
  where
    by_part : (q : ℕ) → Has c.args.later.now.items q ⊎ (q ≡ c.args.state) → Has c.args.later.now.items q ⊎ ((q ≡ c.args.state) × (c.args.turn ≡ c.args.mark))
    by_part q (inl old) = inl old
    by_part q (inr e) = inr (e, c.if-turn-mark-2.true)
