-- What is said of a machine that is not determinized: why.
use Rattle.std.specs.Prelude.{ℕ, List, [], ◌∷◌, codes}
use Rattle.std.specs.Fmt.{decimal}
use Rattle.std.specs.List.{concat}
use Rattle.fst_determinize.specs.declared.fault.DeterminizeFault.{DeterminizeFault}
use Rattle.fst_determinize.specs.declared.fault.DeterminizeFault.TheVariants.{NotAcceptor, StateLimit, TooManyArcs, Overflow, Memory}

abbrev pub determinize_text : DeterminizeFault → List ℕ
determinize_text (NotAcceptor state place) = concat (codes "not an acceptor at state " ∷ decimal state ∷ codes " arc " ∷ decimal place ∷ [])
determinize_text (StateLimit limit) = concat (codes "state limit " ∷ decimal limit ∷ codes " passed" ∷ [])
determinize_text TooManyArcs = codes "too many arcs"
determinize_text (Overflow state) = concat (codes "number too large at state " ∷ decimal state ∷ [])
determinize_text Memory = codes "out of memory"
