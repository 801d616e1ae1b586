use Rattle.std.proofs.Common.{◌≡◌, ◌++◌, [], ℕ, List, Some, sym, ap, ◌∙◌, subst}
use Rattle.std.specs.List.{AllPairs, Contains}
use Rattle.fst_machine.specs.BreadthFirst.{Has}
use Rattle.fst_claims.specs.declared.table.Pass.{Pass}
use Rattle.fst_claims.specs.Passes.{won}
use Rattle.fst_delayed.specs.Caches.{Entries, keys}
use Rattle.fst_delayed.specs.Coding.{code_of}
use Rattle.fst_delayed.specs.Handed.{Name}
use Rattle.fst_lattice.specs.Phases.{Laborer}
use Rattle.fst_lattice.proofs.Joining.{code_there, distinct_parts}
use Rattle.fst_lattice.proofs.phasing.take_in.Goals as goal

same_pass : (a b : Pass) → Some a ≡ Some b → a ≡ b
same_pass a b e = cc

pub hand_over-requires-clause-apart : goal.hand_over-requires-clause-apart
hand_over-requires-clause-apart g c = λ κs within n h k.
    let own : c.give_back.new.self.own ≡ c.args.worker.now.own = ap (λ (w : Laborer g.row.W-Wide.Denot g.row.M.Denot). w.own) c.give_back.ensures.rest in
    let mine = subst (λ (es : Entries g.row.W-Wide.Denot (Name ℕ ℕ)). Has (keys es) n) own k in
    let seat : c.in-Some.seat ≡ c.requires.seat.0 = same_pass c.in-Some.seat c.requires.seat.0 (c.in-Some.ensures.pass ∙ c.requires.seat.1) in
    let code : Contains (won c.in-Some.seat) (code_of n) = subst (λ (xs : List ℕ). Contains xs (code_of n)) (sym (ap won seat ∙ c.requires.seat.3)) (code_there c.args.worker.now.own n mine) in
    let pairs : AllPairs (λ a b. a ≡ b → ⊥) (won c.args.pass.now ++ won c.in-Some.seat) = subst (AllPairs (λ a b. a ≡ b → ⊥)) c.join.ensures.lists.0 c.join.ensures.distinct in
    distinct_parts (won c.args.pass.now) (won c.in-Some.seat) (code_of n) pairs (c.requires.known n h mine) code

pub returns : goal.returns
returns g c =
    let own : c.give_back.new.self.own ≡ c.args.worker.now.own = ap (λ (w : Laborer g.row.W-Wide.Denot g.row.M.Denot). w.own) c.give_back.ensures.rest in
    record {
      taken = record {
        of = c.join.ensures.pass;
        seat = c.in-Some.seat;
        pass = sym c.in-Some.ensures.pass;
        codes = c.join.ensures.lists.0;
        finds = c.join.ensures.lists.1;
        sum = c.join.ensures.lists.2;
        learned = record { distinct = c.join.ensures.distinct; all_won = c.join.ensures.all_won; full = c.join.ensures.full };
        entries = c.in_ok-hand_over.ensures.added ∙ ap (λ (es : Entries g.row.W-Wide.Denot (Name ℕ ℕ)). c.args.cache.now ++ es) own;
        is = c.in_ok-hand_over.ensures.rest ∙ (λ i. record (c.give_back.ensures.rest i) { own = [] });
      };
    }
