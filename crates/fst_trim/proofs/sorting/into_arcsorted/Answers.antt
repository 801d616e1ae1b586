use Rattle.std.proofs.Common.{◌≡◌, subst}
use Rattle.std.specs.Prelude.{IfErr, IfOk, Result}
use Rattle.std.proofs.lemmas.List.Sorted.{All-permutation}
use Rattle.fst_machine.specs.ArcsChanged.{IsArcsChanged}
use Rattle.fst_machine.specs.Machine.{Machine, IsArc, valued}
use Rattle.fst_trim.specs.Sorting.{IsArcSorted, IsStableSort, SortsPaths}
use Rattle.fst_trim.proofs.Rearranged.{rearranged-Rel, sorted_is_rearranged}
use Rattle.fst_trim.proofs.SortedPaths.{sorted_paths}
use Rattle.fst_trim.proofs.sorting.into_arcsorted.Given as given
use Rattle.fst_trim.proofs.sorting.into_arcsorted.Goals as goal

pub with_arcs-requires : goal.with_arcs-requires
with_arcs-requires g c n arcs new sorts good = All-permutation (IsArc g.W.Weight.value n) arcs new sorts.same good

sorted : (g : given.Over) (c : goal.In-Ok g) → IsArcSorted c.args.side c.args.a c.in-Ok.machine
sorted g c =
    let is : IsArcsChanged (IsStableSort c.args.side) c.args.a c.in-Ok.machine = subst (λ (r : Result (Machine g.row.W.Denot) (Machine g.row.W.Denot)). IfOk r (λ m. IsArcsChanged (IsStableSort c.args.side) c.args.a m)) c.in-Ok.is c.in_ok-machine.ensures.changed in
    record { start = is.start; size = is.size; final = is.final; arcs = is.arcs }

pub returns-in-Ok-clause-machine : goal.returns-in-Ok-clause-machine
returns-in-Ok-clause-machine g c = sorted g c

pub returns-in-Ok-clause-paths : goal.returns-in-Ok-clause-paths
returns-in-Ok-clause-paths g c = sorted_paths g.W.Weight.value c.args.side c.args.a c.in-Ok.machine (sorted g c) g.W.Weight.KIND

pub returns-in-Ok-clause-relation : goal.returns-in-Ok-clause-relation
returns-in-Ok-clause-relation g c x y w = rearranged-Rel g.W.Weight.value c.args.a c.in-Ok.machine (sorted_is_rearranged c.args.side c.args.a c.in-Ok.machine (sorted g c)) g.W.Weight.KIND x y w

pub returns-in-Err-clause-paths : goal.returns-in-Err-clause-paths
returns-in-Err-clause-paths g c =
    let value = g.W.Weight.value in
    let same : c.in-Err.a ≡ c.args.a = subst (λ (r : Result (Machine g.row.W.Denot) (Machine g.row.W.Denot)). IfErr r (λ m. m ≡ c.args.a)) c.in-Err.is c.in_ok-machine.ensures.given in
    subst (λ (m : Machine g.row.W.Denot). IfOk c.arcsort.result (λ d. SortsPaths g.W.Weight.KIND c.args.side (valued value m) (valued value d))) same c.arcsort.ensures.paths
