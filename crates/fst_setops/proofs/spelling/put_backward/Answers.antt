use Rattle.std.proofs.Common.{◌≡◌, ◌++◌, ◌∷◌, [], ℕ, List, Some, get_or, reverse, slice_get, sym, ap, ◌∙◌, arith}
use Rattle.std.proofs.lemmas.Option.{slice_get-get_or}
use Rattle.fst_setops.specs.Kept as kept
use Rattle.fst_setops.specs.Sought.{words_of}
use Rattle.fst_setops.proofs.SoughtWords.{first_word, put_label}
use Rattle.fst_setops.proofs.spelling.put_backward.Goals as goal

pub loop-at-smaller : goal.loop-at-smaller
loop-at-smaller g c =
    let n = c.index-nodes-at.result in
    let there : slice_get c.args.nodes.now c.loop-at.at ≡ Some n = slice_get-get_or c.args.nodes.now c.loop-at.at n c.loop-at.invariant.within ∙ ap Some (sym c.index-nodes-at.is) in
    let low = c.requires.parents c.loop-at.at n there c.loop-at-test.true in
    let is = ap (λ (m : kept.Node g.row.V.Denot). m.parent) c.node.view_is in
    omega (arith, low, is)

pub loop-at-preserved : goal.loop-at-preserved
loop-at-preserved g c =
    let n = c.index-nodes-at.result in
    let there : slice_get c.args.nodes.now c.loop-at.at ≡ Some n = slice_get-get_or c.args.nodes.now c.loop-at.at n c.loop-at.invariant.within ∙ ap Some (sym c.index-nodes-at.is) in
    let low = c.requires.parents c.loop-at.at n there c.loop-at-test.true in
    let is = ap (λ (m : kept.Node g.row.V.Denot). m.parent) c.node.view_is in
    let label = ap (λ (m : kept.Node g.row.V.Denot). m.label) c.node.view_is in
    let put = put_label c.args.nodes.now c.loop-at.at n (get_or (words_of c.args.nodes.now) c.args.place []) (reverse c.args.labels.now.items) c.loop-at.labels.items c.push.new.self.items c.loop-at-test.true there low c.loop-at.invariant.put (c.in_ok-push.ensures.items ∙ ap (λ l. c.loop-at.labels.items ++ l ∷ []) label) in
    record {
      within = (let inside = c.loop-at.invariant.within in omega (arith, low, is, inside));
      put = put ∙ ap (λ i. get_or (words_of c.args.nodes.now) i [] ++ reverse c.push.new.self.items) (sym is);
    }

pub returns : goal.returns
returns g c =
    let zero : c.loop-at.at ≡ 0 = omega (arith, c.loop-at-test.false) in
    c.loop-at.invariant.put ∙ ap (λ (v : List ℕ). v ++ reverse c.loop-at.labels.items) (ap (λ i. get_or (words_of c.args.nodes.now) i []) zero ∙ first_word c.args.nodes.now)
