use Rattle.std.proofs.Common.{◌≡◌, ℕ, ◌≤◌, ◌<◌, List, [], ◌∷◌, length, Ok, Err, sym, arith, subst, ap, ◌∙◌}
use Rattle.std.proofs.Common.{inl, map}
use Rattle.std.proofs.lemmas.Result.{err_from_is_err_and}
use Rattle.fst_fields.specs.Lines.{lines_of}
use Rattle.std.specs.List.{AllZip}
use Rattle.fst_machine.specs.Machine.{Machine}
use Rattle.fst_compose.specs.Composition.{composition}
use Rattle.fst_delayed.specs.Graphs.{delayed_graph}
use Rattle.fst_lattice.specs.Expansions.{IsExpansions}
use Rattle.fst_batch.specs.Answers.{IsAnswer}
use Rattle.fst_verbs.specs.Batching.{batch_meaning, batch_text, valued_answer}
use Rattle.fst_verbs.specs.Meaning.{answered}
use Rattle.fst_verbs.proofs.Batched.{few_lines, is_batch, sorted_passes, unsorted_declines}
use Rattle.fst_verbs.proofs.Settled.{settled}
use Rattle.fst_verbs.proofs.commands.batching.answered.Goals as goal

pub run_batch-requires-clause-lines : goal.run_batch-requires-clause-lines
run_batch-requires-clause-lines g c =
    let bytes = c.args.given.lines.items in
    let are : c.in_ok-lines.lines ≡ lines_of bytes = c.in_ok-lines.ensures ∙ ap lines_of c.as_slice.ensures.value in
    let size : length c.in_ok-lines.lines ≡ length (lines_of bytes) = ap length are in
    omega (arith, size, few_lines bytes, c.requires.lines)

pub returns-in_default-clause-settles : goal.returns-in_default-clause-settles
returns-in_default-clause-settles g c =
    let kind = g.W.Weight.KIND in
    let value = g.W.Weight.value in
    let a = c.two-first.result.0 in
    let b = c.two-first.result.1 in
    settled (batch_meaning c.args.options.now) kind value c.args.given (a ∷ b ∷ []) (Err c.uncomposed.result) c.two-first.ensures
    (unsorted_declines kind value a b c.uncomposed.result c.in_default.ensures.fault c.uncomposed.ensures.made)

pub returns-in_err-text-clause-settles : goal.returns-in_err-text-clause-settles
returns-in_err-text-clause-settles g c =
    let p = err_from_is_err_and c.from_residual-in_err-text.result c.from_residual-in_err-text.ensures.1 in
    rw p.1 (inl p.2)

pub returns-clause-settles : goal.returns-clause-settles
returns-clause-settles g c =
    let kind = g.W.Weight.KIND in
    let value = g.W.Weight.value in
    let a = c.two-first.result.0 in
    let b = c.two-first.result.1 in
    let report = c.in_ok-report.report in
    let n = c.asked.result.nshortest in
    let limit = c.asked.result.max_states in
    let bytes = c.args.given.lines.items in
    let are : c.in_ok-lines.lines ≡ lines_of bytes = c.in_ok-lines.ensures ∙ ap lines_of c.as_slice.ensures.value in
    let machines : c.in-Ok.delayed ≡ (a, b) = c.in-Ok.ensures.machines in
    let each : AllZip (λ line answer. IsAnswer kind (delayed_graph kind value c.in-Ok.delayed) n limit line value answer) c.in_ok-lines.lines report.answers.items → AllZip (λ line answer. IsAnswer kind (composition kind value a b) n limit line value answer) (lines_of bytes) report.answers.items =
    λ all. subst (λ (ls : List (List ℕ)). AllZip (λ line answer. IsAnswer kind (composition kind value a b) n limit line value answer) ls report.answers.items) are
    (subst (λ (d : Machine _ × Machine _). AllZip (λ line answer. IsAnswer kind (delayed_graph kind value d) n limit line value answer) c.in_ok-lines.lines report.answers.items) machines all) in
    let needed : IsExpansions c.in_ok-lines.lines (delayed_graph kind value c.in-Ok.delayed) limit report.expansions → IsExpansions (lines_of bytes) (composition kind value a b) limit report.expansions =
    λ is. subst (λ (ls : List (List ℕ)). IsExpansions ls (composition kind value a b) limit report.expansions) are
    (subst (λ (d : Machine _ × Machine _). IsExpansions c.in_ok-lines.lines (delayed_graph kind value d) limit report.expansions) machines is) in
    let text = c.in_ok-text.ensures ∙ ap (λ (ls : List (List ℕ)). batch_text kind c.args.options.now ls (map (valued_answer value) report.answers.items) report.expansions) are in
    settled (batch_meaning c.args.options.now) kind value c.args.given (a ∷ b ∷ []) (Ok (answered c.in_ok-text.text.items report.expansions)) c.two-first.ensures (
      sorted_passes kind value a b c.in-Ok.ensures.sorted,
      is_batch kind value a b c.args.options.now (lines_of c.args.given.lines.items) report.answers.items c.asked.result.nshortest c.asked.result.max_states report.expansions c.in_ok-text.text.items
          c.asked.ensures.paths.0 c.asked.ensures.limit.0
          (each c.in_ok-report.ensures.answers) (needed c.in_ok-report.ensures.expansions) text,
    )
