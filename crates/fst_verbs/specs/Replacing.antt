-- `replace`: the machine of rules, each a machine under a label. (OpenFst manual, "Replace".)
use Rattle.std.specs.Prelude.{◌≡◌, ℕ, List, [], ◌∷◌}
use Rattle.fst_machine.specs.Machine.{Machine}
use Rattle.fst_replace.specs.Answers.{IsCause}
use Rattle.fst_replace.specs.Expansion.{replaced}
use Rattle.fst_replace.specs.Faults.{replace_text}
use Rattle.fst_replace.specs.Relation.{Replaces}
use Rattle.fst_replace.specs.Rules.{Labelled}
use Rattle.fst_replace.specs.declared.fault.ReplaceFault.{ReplaceFault}
use Rattle.fst_verbs.specs.Causes.{unmade}
use Rattle.fst_verbs.specs.Meaning.{IsMachine, Meaning}

-- machines under labels, in order
abbrev pub ruled : {V : Type 0} → List ℕ → List (Machine V) → List (Labelled V)
ruled [] machines = []
ruled (label ∷ labels) [] = []
ruled (label ∷ labels) (m ∷ machines) = record { label = label; machine = m } ∷ ruled labels machines

-- The machine of the rules relates what the root does, where each call is read as a triple of the rule that is called.
-- It is not made where a rule can call itself, or else where it is too large.
abbrev pub replace_meaning : List ℕ → Meaning
replace_meaning labels = record {
  stops = λ given fault. (why : ReplaceFault) × IsCause (ruled labels given.machines) why × (fault ≡ unmade (replace_text why));
  makes = λ given made. IsMachine given.kind (λ r. (r ≡ replaced (ruled labels given.machines)) × Replaces given.kind (ruled labels given.machines) r) made;
}
