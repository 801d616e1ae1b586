-- The rational operations and the operations on labels: each makes one machine, and says what it relates. (OpenFst
-- manual, "Invert", "Project", "Relabel", "Reverse", "Closure", "Union" and "Concat".)
use Rattle.std.specs.Prelude.{◌≡◌, ◌<◌, ◌≤◌, length}
use Rattle.fst_semiring.specs.Cost.{Cost}
use Rattle.fst_machine.specs.Machine.{Machine, arc_total, most_arcs, most_states}
use Rattle.fst_rational.specs.Constructions.{closure_of, concat_of, reverse_of, union_of}
use Rattle.fst_rational.specs.Faults.{size_text}
use Rattle.fst_rational.specs.Labels.{inverted, projected, relabelled}
use Rattle.fst_rational.specs.Relations.{Closes, Concatenates, Inverts, Projects, Relabels, Reverses, Unites}
use Rattle.fst_rational.specs.declared.fault.RationalFault.{RationalFault}
use Rattle.fst_rational.specs.declared.fault.RationalFault.TheVariants.{TooManyStates, TooManyArcs, Memory}
use Rattle.fst_words.specs.declared.options.Options.{Options}
use Rattle.fst_verbs.specs.Causes.{unmade}
use Rattle.fst_verbs.specs.Meaning.{IsMachine, Meaning, Stops, for_one, for_two, never}

-- the machine is past the limit on states, or else on arcs
abbrev pub IsPast : Machine Cost → RationalFault → Type 0
IsPast m TooManyStates = most_states < length m.states
IsPast m TooManyArcs = (length m.states ≤ most_states) × (most_arcs < arc_total m.states)
IsPast m Memory = ⊥

-- the machine is too large
abbrev pub too_large : Machine Cost → Stops
too_large m fault = (size : RationalFault) × IsPast m size × (fault ≡ unmade (size_text size))

abbrev pub invert_meaning : Meaning
invert_meaning = record {
  stops = λ given. never;
  makes = λ given made. for_one given.machines (λ m. IsMachine given.kind (λ r. (r ≡ inverted m) × Inverts given.kind m r) made);
}

abbrev pub project_meaning : Options → Meaning
project_meaning o = record {
  stops = λ given. never;
  makes = λ given made. for_one given.machines (λ m.
      IsMachine given.kind (λ r. (r ≡ projected o.project_output m) × Projects given.kind o.project_output m r) made);
}

abbrev pub relabel_meaning : Meaning
relabel_meaning = record {
  stops = λ given. never;
  makes = λ given made. for_one given.machines (λ m.
      IsMachine given.kind (λ r. (r ≡ relabelled given.ipairs given.opairs m) × Relabels given.kind given.ipairs given.opairs m r) made);
}

abbrev pub reverse_meaning : Meaning
reverse_meaning = record {
  stops = λ given fault. for_one given.machines (λ m. too_large (reverse_of given.kind m) fault);
  makes = λ given made. for_one given.machines (λ m. IsMachine given.kind (λ r. (r ≡ reverse_of given.kind m) × Reverses given.kind m r) made);
}

abbrev pub closure_meaning : Options → Meaning
closure_meaning o = record {
  stops = λ given fault. for_one given.machines (λ m. too_large (closure_of given.kind o.closure_plus m) fault);
  makes = λ given made. for_one given.machines (λ m.
      IsMachine given.kind (λ r. (r ≡ closure_of given.kind o.closure_plus m) × Closes given.kind o.closure_plus m r) made);
}

abbrev pub union_meaning : Meaning
union_meaning = record {
  stops = λ given fault. for_two given.machines (λ a b. too_large (union_of given.kind a b) fault);
  makes = λ given made. for_two given.machines (λ a b. IsMachine given.kind (λ r. (r ≡ union_of given.kind a b) × Unites given.kind a b r) made);
}

abbrev pub concat_meaning : Meaning
concat_meaning = record {
  stops = λ given fault. for_two given.machines (λ a b. too_large (concat_of a b) fault);
  makes = λ given made. for_two given.machines (λ a b. IsMachine given.kind (λ r. (r ≡ concat_of a b) × Concatenates given.kind a b r) made);
}
