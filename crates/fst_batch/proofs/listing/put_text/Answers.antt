use Rattle.std.proofs.Common.{◌≡◌, ◌∷◌, ◌++◌, [], ℕ, Some, ap, sym, ◌∙◌}
use Rattle.fst_semiring.specs.Cost.{Cost}
use Rattle.fst_machine.specs.Graph.{graph_of}
use Rattle.fst_machine.specs.Letters.{letter_of, output}
use Rattle.fst_machine.specs.Machine.{Arc, valued, valued_arc}
use Rattle.fst_machine.specs.Steps.{written}
use Rattle.fst_nbest.specs.Chains.{arc_at, chain_of}
use Rattle.fst_nbest.proofs.PathChains.{letter_in, step_there}
use Rattle.fst_batch.specs.BestPaths.{first_not_text, is_text}
use Rattle.fst_batch.proofs.Texts.{first_silent, first_spoken, first_wrong, text_silent, text_spoken}
use Rattle.fst_batch.proofs.listing.put_text.Goals as goal

pub step_arc-requires : goal.step_arc-requires
step_arc-requires g c = step_there (graph_of (valued g.W.Weight.wide_value c.args.fst.now)) c.args.path.now c.loop-place.place c.item.result.now c.requires.steps c.item.ensures

pub loop-place-preserved-then-label-eq0 : goal.loop-place-preserved-then-label-eq0
loop-place-preserved-then-label-eq0 g c =
    let value = g.W.Weight.wide_value in
    let graph = graph_of (valued value c.args.fst.now) in
    let letters = (chain_of graph (written c.args.path.now)).letters in
    let s = c.item.result.now in
    let l = letter_of (arc_at graph (s.state, s.place)) in
    let at = letter_in graph c.args.path.now c.loop-place.place s c.item.ensures in
    let is : c.label.inside.olabel ≡ l.olabel = ap (λ (a : Arc Cost ℕ). a.olabel) (ap (valued_arc value) c.label.view_is ∙ c.step_arc.ensures.value) in
    let none : l.olabel ≡ 0 = sym is ∙ c.if-label-eq0.true in
    record {
      text = text_silent letters c.loop-place.place l at c.loop-place.text.items _ c.loop-place.invariant.text none;
      label = first_silent letters c.loop-place.place l at _ c.loop-place.invariant.label none;
    }

pub returns-then-not-is_text-clause-label : goal.returns-then-not-is_text-clause-label
returns-then-not-is_text-clause-label g c =
    let value = g.W.Weight.wide_value in
    let graph = graph_of (valued value c.args.fst.now) in
    let letters = (chain_of graph (written c.args.path.now)).letters in
    let s = c.item.result.now in
    let l = letter_of (arc_at graph (s.state, s.place)) in
    let at = letter_in graph c.args.path.now c.loop-place.place s c.item.ensures in
    let is : c.label.inside.olabel ≡ l.olabel = ap (λ (a : Arc Cost ℕ). a.olabel) (ap (valued_arc value) c.label.view_is ∙ c.step_arc.ensures.value) in
    let wrong = ap is_text (sym is) ∙ (sym c.is_text.ensures ∙ c.if-not-is_text.true) in
    let found = first_wrong letters c.loop-place.place l at (first_not_text (output letters)) c.loop-place.invariant.label (λ none. c.if-label-eq0.false (is ∙ none)) wrong in
    found ∙ ap (λ (k : ℕ). Some k) (sym is)

pub loop-place-preserved : goal.loop-place-preserved
loop-place-preserved g c =
    let value = g.W.Weight.wide_value in
    let graph = graph_of (valued value c.args.fst.now) in
    let letters = (chain_of graph (written c.args.path.now)).letters in
    let s = c.item.result.now in
    let l = letter_of (arc_at graph (s.state, s.place)) in
    let at = letter_in graph c.args.path.now c.loop-place.place s c.item.ensures in
    let is : c.label.inside.olabel ≡ l.olabel = ap (λ (a : Arc Cost ℕ). a.olabel) (ap (valued_arc value) c.label.view_is ∙ c.step_arc.ensures.value) in
    let told = sym c.is_text.ensures ∙ c.if-not-is_text.false in
    let fine = ap is_text (sym is) ∙ told in
    let some : l.olabel ≡ 0 → ⊥ = λ none. c.if-label-eq0.false (is ∙ none) in
    let put = c.in_ok-push.ensures.items ∙ (ap (λ (k : ℕ). c.loop-place.text.items ++ k ∷ []) is) in
    record {
      text = text_spoken letters c.loop-place.place l at c.loop-place.text.items _ c.loop-place.invariant.text c.push.new.self.items some put;
      label = first_spoken letters c.loop-place.place l at _ c.loop-place.invariant.label some fine;
    }
