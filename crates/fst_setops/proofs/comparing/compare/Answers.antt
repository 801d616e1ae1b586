use Rattle.std.proofs.Common.{◌≡◌, IfSome, None, sym, subst}
use Rattle.std.proofs.lemmas.Option.{IfSome_then}
use Rattle.std.proofs.lemmas.Result.{IfOk-weaker}
use Rattle.fst_machine.specs.Graph.{graph_of}
use Rattle.fst_machine.specs.Machine.{Machine, valued}
use Rattle.fst_setops.specs.Readied.{IsReadied}
use Rattle.fst_setops.specs.Separating.{HasMorePairs}
use Rattle.fst_setops.specs.Verdicts.{HasMoreConnectedPairs, IsSaid}
use Rattle.fst_setops.proofs.Transferring.{more_back, more_there, ready_ascends, said_back}
use Rattle.fst_setops.proofs.comparing.compare.Goals as goal

pub compare_ready-requires-clause-first : goal.compare_ready-requires-clause-first
compare_ready-requires-clause-first g c =
    let first : IsReadied (valued g.W.Weight.value c.args.a.now) (valued g.W.Weight.value c.fst.result.now) = subst (λ (m : Machine g.row.W.Denot). IsReadied (valued g.W.Weight.value c.args.a.now) (valued g.W.Weight.value m)) (sym c.fst.ensures) c.in_ok-first.ensures in
    let second : IsReadied (valued g.W.Weight.value c.args.b.now) (valued g.W.Weight.value c.fst-2.result.now) = subst (λ (m : Machine g.row.W.Denot). IsReadied (valued g.W.Weight.value c.args.b.now) (valued g.W.Weight.value m)) (sym c.fst-2.ensures) c.in_ok-second.ensures in
    (ready_ascends g.W.Weight.KIND (valued g.W.Weight.value c.args.a.now) (valued g.W.Weight.value c.args.b.now) (valued g.W.Weight.value c.fst.result.now) (valued g.W.Weight.value c.fst-2.result.now) first second c.requires.comparable.0.1 c.requires.comparable.0.2).0

pub compare_ready-requires-clause-second : goal.compare_ready-requires-clause-second
compare_ready-requires-clause-second g c =
    let first : IsReadied (valued g.W.Weight.value c.args.a.now) (valued g.W.Weight.value c.fst.result.now) = subst (λ (m : Machine g.row.W.Denot). IsReadied (valued g.W.Weight.value c.args.a.now) (valued g.W.Weight.value m)) (sym c.fst.ensures) c.in_ok-first.ensures in
    let second : IsReadied (valued g.W.Weight.value c.args.b.now) (valued g.W.Weight.value c.fst-2.result.now) = subst (λ (m : Machine g.row.W.Denot). IsReadied (valued g.W.Weight.value c.args.b.now) (valued g.W.Weight.value m)) (sym c.fst-2.ensures) c.in_ok-second.ensures in
    (ready_ascends g.W.Weight.KIND (valued g.W.Weight.value c.args.a.now) (valued g.W.Weight.value c.args.b.now) (valued g.W.Weight.value c.fst.result.now) (valued g.W.Weight.value c.fst-2.result.now) first second c.requires.comparable.0.1 c.requires.comparable.0.2).1

pub returns-clause-said : goal.returns-clause-said
returns-clause-said g c =
    let first : IsReadied (valued g.W.Weight.value c.args.a.now) (valued g.W.Weight.value c.fst.result.now) = subst (λ (m : Machine g.row.W.Denot). IsReadied (valued g.W.Weight.value c.args.a.now) (valued g.W.Weight.value m)) (sym c.fst.ensures) c.in_ok-first.ensures in
    let second : IsReadied (valued g.W.Weight.value c.args.b.now) (valued g.W.Weight.value c.fst-2.result.now) = subst (λ (m : Machine g.row.W.Denot). IsReadied (valued g.W.Weight.value c.args.b.now) (valued g.W.Weight.value m)) (sym c.fst-2.ensures) c.in_ok-second.ensures in
    IfOk-weaker c.compare_ready.result (λ o. IfSome o (IsSaid g.W.Weight.KIND g.W.Weight.wide_value (graph_of (valued g.W.Weight.value c.fst.result.now)) (graph_of (valued g.W.Weight.value c.fst-2.result.now)))) (λ o. IfSome o (IsSaid g.W.Weight.KIND g.W.Weight.wide_value (graph_of (valued g.W.Weight.value c.args.a.now)) (graph_of (valued g.W.Weight.value c.args.b.now)))) (λ o k. IfSome_then o k (λ v s. said_back g.W.Weight.KIND (valued g.W.Weight.value c.args.a.now) (valued g.W.Weight.value c.args.b.now) (valued g.W.Weight.value c.fst.result.now) (valued g.W.Weight.value c.fst-2.result.now) first second c.requires.comparable.0.1 c.requires.comparable.0.2 g.W.Weight.wide_value v s)) c.compare_ready.ensures.said

pub returns-clause-fits : goal.returns-clause-fits
returns-clause-fits g c =
    let first : IsReadied (valued g.W.Weight.value c.args.a.now) (valued g.W.Weight.value c.fst.result.now) = subst (λ (m : Machine g.row.W.Denot). IsReadied (valued g.W.Weight.value c.args.a.now) (valued g.W.Weight.value m)) (sym c.fst.ensures) c.in_ok-first.ensures in
    let second : IsReadied (valued g.W.Weight.value c.args.b.now) (valued g.W.Weight.value c.fst-2.result.now) = subst (λ (m : Machine g.row.W.Denot). IsReadied (valued g.W.Weight.value c.args.b.now) (valued g.W.Weight.value m)) (sym c.fst-2.ensures) c.in_ok-second.ensures in
    IfOk-weaker c.compare_ready.result (λ o. IfSome o (λ v. HasMorePairs (graph_of (valued g.W.Weight.value c.fst.result.now)) (graph_of (valued g.W.Weight.value c.fst-2.result.now)) c.args.max_states → ⊥)) (λ o. IfSome o (λ v. HasMoreConnectedPairs (valued g.W.Weight.value c.args.a.now) (valued g.W.Weight.value c.args.b.now) c.args.max_states → ⊥)) (λ o k. IfSome_then o k (λ v f m. f (more_there g.W.Weight.KIND (valued g.W.Weight.value c.args.a.now) (valued g.W.Weight.value c.args.b.now) (valued g.W.Weight.value c.fst.result.now) (valued g.W.Weight.value c.fst-2.result.now) first second c.requires.comparable.0.1 c.requires.comparable.0.2 c.args.max_states m))) c.compare_ready.ensures.fits

pub returns-clause-stops : goal.returns-clause-stops
returns-clause-stops g c =
    let first : IsReadied (valued g.W.Weight.value c.args.a.now) (valued g.W.Weight.value c.fst.result.now) = subst (λ (m : Machine g.row.W.Denot). IsReadied (valued g.W.Weight.value c.args.a.now) (valued g.W.Weight.value m)) (sym c.fst.ensures) c.in_ok-first.ensures in
    let second : IsReadied (valued g.W.Weight.value c.args.b.now) (valued g.W.Weight.value c.fst-2.result.now) = subst (λ (m : Machine g.row.W.Denot). IsReadied (valued g.W.Weight.value c.args.b.now) (valued g.W.Weight.value m)) (sym c.fst-2.ensures) c.in_ok-second.ensures in
    IfOk-weaker c.compare_ready.result (λ o. o ≡ None → HasMorePairs (graph_of (valued g.W.Weight.value c.fst.result.now)) (graph_of (valued g.W.Weight.value c.fst-2.result.now)) c.args.max_states) (λ o. o ≡ None → HasMoreConnectedPairs (valued g.W.Weight.value c.args.a.now) (valued g.W.Weight.value c.args.b.now) c.args.max_states) (λ o k e. more_back g.W.Weight.KIND (valued g.W.Weight.value c.args.a.now) (valued g.W.Weight.value c.args.b.now) (valued g.W.Weight.value c.fst.result.now) (valued g.W.Weight.value c.fst-2.result.now) first second c.requires.comparable.0.1 c.requires.comparable.0.2 c.args.max_states (k e)) c.compare_ready.ensures.stops
