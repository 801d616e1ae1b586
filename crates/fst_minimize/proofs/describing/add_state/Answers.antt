use Rattle.std.proofs.Common.{◌≡◌, ◌+◌, ◌++◌, ◌∷◌, [], ℕ, List, Some, map, slice_get, sym, ap, ◌∙◌, subst}
use Rattle.fst_machine.specs.Machine.{valued_arc}
use Rattle.fst_machine.specs.Graph.{nexts}
use Rattle.fst_minimize.specs.Described.{DescribedBy}
use Rattle.fst_minimize.specs.Numberers.{HasSeen}
use Rattle.fst_minimize.specs.Saying.{Extends, weight_key}
use Rattle.fst_minimize.specs.declared.weights.WeightKey.{WeightKey}
use Rattle.fst_minimize.proofs.Describe.{described_push, nexts_valued}
use Rattle.fst_minimize.proofs.Said.{grows_extends, grows_apart}
use Rattle.fst_minimize.proofs.describing.add_state.Goals as goal

pub returns-clause-described : goal.returns-clause-described
returns-clause-described g c = λ graph done by final old.
    let w = g.W.Weight in
    let keys = c.args.describer.now.keys in
    let mid = c.number_weight.new.keys in
    let more = c.put_said.new.keys in
    let first = grows_extends keys mid c.key_of.result c.in_ok-head.ensures.grown in
    let extends : Extends keys more = λ (k : ℕ) (x : WeightKey) (e : slice_get keys k ≡ Some x). c.in_ok-put_said.ensures.more k x (first k x e) in
    let arcs = map (valued_arc w.wide_value) c.args.arcs.now in
    let said = c.put_said.new.said.items in
    let ends = c.put_ends.new.ends.items in
    let head = c.in_ok-head.head in
    let there : slice_get more head ≡ Some (weight_key (graph.final done)) = c.in_ok-put_said.ensures.more head c.key_of.result c.in_ok-head.ensures.there ∙ ap Some (c.key_of.ensures ∙ ap weight_key (sym final)) in
    let here : ends ≡ nexts arcs = c.in_ok-put_ends.ensures ∙ nexts_valued w.wide_value c.args.arcs.now in
    let all = described_push graph done keys more old.0 old.1 c.args.describer.now.rows arcs head said ends old.2 extends c.in_ok-put_said.ensures.apart by (there, c.in_ok-put_said.ensures.says) here in
    let rows : c.push.new.self ≡ c.args.describer.now.rows ++ ends ∷ [] = c.in_ok-push.ensures ∙ ap (λ (e : List ℕ). c.args.describer.now.rows ++ e ∷ []) c.deref-2.ensures.value in
    let seen = c.in_ok-add.ensures.seen old.1 old.3 in (
      old.0 ++ arcs ∷ [],
      old.1 ++ (head, said) ∷ [],
      subst (DescribedBy graph (done + 1) more (old.0 ++ arcs ∷ []) (old.1 ++ (head, said) ∷ [])) (sym rows) all,
      subst (λ (s : List ℕ). HasSeen (old.1 ++ (head, s) ∷ []) c.add.new.self) c.deref.ensures.value seen,
    )

pub put_said-requires : goal.put_said-requires
put_said-requires g c = record { apart = grows_apart c.args.describer.now.keys c.number_weight.new.keys c.key_of.result c.requires.apart c.in_ok-head.ensures.grown }
