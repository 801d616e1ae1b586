use Rattle.std.proofs.Common.{◌≡◌, ◌<◌, ◌++◌, List, ℕ, ap, arith, map, subst}
use Rattle.std.specs.Result.{OnOk}
use Rattle.fst_semiring.specs.Cost.{Cost}
use Rattle.fst_machine.specs.Machine.{Arc, valued_arc}
use Rattle.fst_trim.specs.Runs.{IsRun}
use Rattle.fst_trim.specs.declared.side.Side.TheVariants.{Input}
use Rattle.fst_walk.specs.Names.{key_arc}
use Rattle.fst_compose.specs.Names.{Name}
use Rattle.fst_compose.proofs.Segments.{first_found}
use Rattle.fst_compose.proofs.matching.put_found.Goals as goal

pub returns-clause-put : goal.returns-clause-put
returns-clause-put g c =
    let a = c.args.a in
    let read : c.a.inside.olabel ≡ a.olabel = ap (λ (d : Arc g.row.W.Denot ℕ). d.olabel) c.a.view_is in
    let run : IsRun Input a.olabel c.args.bs.now c.find_run-first.result.0 c.find_run-first.result.1 = subst (λ (n : ℕ). IsRun Input n c.args.bs.now c.find_run-first.result.0 c.find_run-first.result.1) read c.find_run-first.ensures.run in
    let more : 0 < a.olabel = omega (arith, c.if-a-eq0.false) in
    subst (λ (zs : List (Arc Cost (Name ℕ ℕ))). OnOk c.put_first-2.result (map (key_arc g.W.Weight.wide_value) c.put_first-2.new.out.items ≡ map (key_arc g.W.Weight.wide_value) c.args.out.now.items ++ zs))
    (first_found g.W.Weight.KIND g.W.Weight.value c.args.key (valued_arc g.W.Weight.value a) c.args.bs.now _ _ more run) c.put_first-2.ensures
