use Rattle.std.proofs.Common.{◌++◌, ℕ, List, length, map, ap, ◌∙◌, arith}
use Rattle.fst_machine.specs.Machine.{valued}
use Rattle.fst_machine.specs.Graph.{graph_of}
use Rattle.fst_machine.specs.Steps.{written}
use Rattle.fst_nbest.specs.FirstPaths.{traced}
use Rattle.fst_nbest.specs.Ready.{count_in, dist_in}
use Rattle.fst_nbest.proofs.PathWords.{name_ahead}
use Rattle.fst_nbest.proofs.TracedWords.{mapped_length}
use Rattle.fst_nbest.proofs.WrittenWords.{words_traceable, words_written}
use Rattle.fst_nbest.proofs.first_paths.by_counts.Goals as goal

pub first_words-requires-clause-live : goal.first_words-requires-clause-live
first_words-requires-clause-live g c =
    let wide = g.W.Weight.wide_value in
    let dist = c.args.dist.now.items in
    let h = c.requires.ready.measured in
    name_ahead g.W.Weight.KIND (graph_of (valued g.M.AsMachine.value (g.M.AsMachine.machine c.args.fst.now))) (dist_in wide dist) h.exact h.firm c.args.start (count_in c.args.count.now.items c.args.start) c.requires.live (c.requires.ready.counts c.args.start c.requires.live)

pub put_traced-requires-clause-words : goal.put_traced-requires-clause-words
put_traced-requires-clause-words g c =
    let wide = g.W.Weight.wide_value in
    let dist = c.args.dist.now.items in
    let h = c.requires.ready.measured in
    let r = c.in_ok-words.ensures.first in
    words_traceable g.W.Weight.KIND (graph_of (valued g.M.AsMachine.value (g.M.AsMachine.machine c.args.fst.now))) (dist_in wide dist) h.exact h.firm c.args.start c.requires.start c.args.n c.in_ok-words.words r.0 r.1 r.2

pub returns-clause-first : goal.returns-clause-first
returns-clause-first g c =
    let wide = g.W.Weight.wide_value in
    let dist = c.args.dist.now.items in
    let graph = graph_of (valued g.M.AsMachine.value (g.M.AsMachine.machine c.args.fst.now)) in
    let h = c.requires.ready.measured in
    let r = c.in_ok-words.ensures.first in
    words_written g.W.Weight.KIND graph (dist_in wide dist) h.exact h.firm c.args.start c.requires.start c.args.n c.in_ok-words.words r.0 r.1 r.2 (map written c.put_traced.new.paths)
    (c.in_ok-put_traced.ensures ∙ ap (λ (l : List (List (ℕ × ℕ))). l ++ map (traced graph c.args.start) c.in_ok-words.words) (ap (map written) c.new-paths.ensures))

pub returns-clause-steps : goal.returns-clause-steps
returns-clause-steps g c =
    let graph = graph_of (valued g.M.AsMachine.value (g.M.AsMachine.machine c.args.fst.now)) in
    let long = mapped_length written (traced graph c.args.start) c.new-paths.result c.put_traced.new.paths c.in_ok-words.words c.in_ok-put_traced.ensures in
    let none = ap length c.new-paths.ensures in
    omega (arith, long, none, c.in_ok-words.ensures.steps)
