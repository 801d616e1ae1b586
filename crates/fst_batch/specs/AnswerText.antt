-- The lines in which the answer of a line is told.
use Rattle.std.specs.Prelude.{ℕ, List, [], ◌∷◌, ◌++◌, codes}
use Rattle.std.specs.Fmt.{decimal}
use Rattle.std.specs.List.{flat_map}
use Rattle.fst_semiring.specs.Cost.{Cost}
use Rattle.fst_semiring.specs.WeightText.{text_of_cost}
use Rattle.fst_semiring.specs.declared.arc_type.ArcType.{ArcType}
use Rattle.fst_batch.specs.BestPaths.{Told}
use Rattle.fst_batch.specs.declared.fault.LineFault.{LineFault}
use Rattle.fst_batch.specs.declared.fault.LineFault.TheVariants.{BadByte, ImprovingCycle, NotText, Overflow, StateLimit, TooManyArcs}
use Rattle.fst_batch.specs.declared.answer.LineAnswer.{LineAnswer}
use Rattle.fst_batch.specs.declared.answer.LineAnswer.TheVariants.{Listed, Refused}

-- why a line is refused, in words
abbrev pub reason_of : LineFault → List ℕ
reason_of BadByte = codes "byte 0 in the line"
reason_of (StateLimit limit) = codes "state limit " ++ decimal limit ++ codes " passed"
reason_of TooManyArcs = codes "too many arcs"
reason_of ImprovingCycle = codes "improving cycle"
reason_of Overflow = codes "number too large"
reason_of (NotText label) = codes "label " ++ decimal label ++ codes " is not text"

module _ {V : Type 0} (kind : ArcType) (value : V → Cost) (number : ℕ) where
  -- the line of a path: the number of the line that was read, the weight and the text, with tabs between
  abbrev pub path_line : Told V → List ℕ
  path_line t = decimal number ++ codes "\t" ++ text_of_cost kind (value t.weight) ++ codes "\t" ++ t.text ++ codes "\n"

  -- the lines of an answer: one for each path; one where there is no path; one where the line is refused
  abbrev pub answer_text : LineAnswer V → List ℕ
  answer_text (Listed []) = decimal number ++ codes "\tnone\n"
  answer_text (Listed (t ∷ told)) = flat_map path_line (t ∷ told)
  answer_text (Refused fault) = decimal number ++ codes "\t!\t" ++ reason_of fault ++ codes "\n"
