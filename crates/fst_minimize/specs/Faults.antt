-- What is said of a machine that is not minimized: why.
use Rattle.std.specs.Prelude.{ℕ, List, [], ◌∷◌, codes}
use Rattle.std.specs.Fmt.{decimal}
use Rattle.std.specs.List.{concat}
use Rattle.fst_minimize.specs.declared.fault.MinimizeFault.{MinimizeFault}
use Rattle.fst_minimize.specs.declared.fault.MinimizeFault.TheVariants.{NotAcceptor, NotDeterministic, ImprovingCycle, Overflow, Memory}

abbrev pub minimize_text : MinimizeFault → List ℕ
minimize_text (NotAcceptor state place) = concat (codes "not an acceptor at state " ∷ decimal state ∷ codes " arc " ∷ decimal place ∷ [])
minimize_text (NotDeterministic state place) = concat (codes "not deterministic at state " ∷ decimal state ∷ codes " arc " ∷ decimal place ∷ [])
minimize_text (ImprovingCycle cycle) = codes "improving cycle"
minimize_text (Overflow state) = concat (codes "number too large at state " ∷ decimal state ∷ [])
minimize_text Memory = codes "out of memory"
