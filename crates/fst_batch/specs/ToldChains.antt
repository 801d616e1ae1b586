-- What is told of paths by what they say.
use Rattle.std.specs.Prelude.{◌≡◌, ℕ, List, None, Some, map}
use Rattle.std.specs.List.{flat_map}
use Rattle.fst_semiring.specs.Cost.{Cost}
use Rattle.fst_semiring.specs.Semiring.{InRange, times}
use Rattle.fst_semiring.specs.declared.arc_type.ArcType.{ArcType}
use Rattle.fst_machine.specs.BreadthFirst.{Has}
use Rattle.fst_machine.specs.Letters.{output, product}
use Rattle.fst_nbest.specs.Chains.{Chain}
use Rattle.fst_batch.specs.BestPaths.{Told, first_not_text, valued_told}
use Rattle.fst_batch.specs.declared.fault.LineFault.TheVariants.{BadByte, ImprovingCycle, NotText, Overflow, StateLimit, TooManyArcs}
use Rattle.fst_batch.specs.declared.answer.LineAnswer.{LineAnswer}
use Rattle.fst_batch.specs.declared.answer.LineAnswer.TheVariants.{Listed, Refused}

-- the weight of a path by what it says
abbrev pub chain_weight : ArcType → Chain → Cost
chain_weight kind c = times kind (product kind c.letters) c.last

-- what is told of it
abbrev pub chain_told : ArcType → Chain → Told Cost
chain_told kind c = record { weight = chain_weight kind c; text = output c.letters }

-- the output labels of several without epsilon
abbrev pub chain_labels : List Chain → List ℕ
chain_labels chains = flat_map (λ c. output c.letters) chains

-- the weight of each is in range
abbrev pub AreInRange : ArcType → List Chain → Type 0
AreInRange kind chains = (c : Chain) → Has chains c → InRange (chain_weight kind c)

-- So much is told of them: each, where all weights are in range and all labels are text; that a weight is out of range; or else the
-- first label that is no text.
abbrev pub Tells : {V : Type 0} → ArcType → (V → Cost) → List Chain → LineAnswer V → Type 0
Tells kind value chains (Listed told) = AreInRange kind chains × (first_not_text (chain_labels chains) ≡ None) × (map (valued_told value) told ≡ map (chain_told kind) chains)
Tells kind value chains (Refused BadByte) = ⊥
Tells kind value chains (Refused (StateLimit limit)) = ⊥
Tells kind value chains (Refused TooManyArcs) = ⊥
Tells kind value chains (Refused ImprovingCycle) = ⊥
Tells kind value chains (Refused Overflow) = (c : Chain) × Has chains c × (InRange (chain_weight kind c) → ⊥)
Tells kind value chains (Refused (NotText label)) = AreInRange kind chains × (first_not_text (chain_labels chains) ≡ Some label)
