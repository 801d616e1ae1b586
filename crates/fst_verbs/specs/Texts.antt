-- `compile` and `print`: the two ways between a text and the binary form. (OpenFst manual, "fstcompile" and "fstprint".)
use Rattle.std.specs.Prelude.{◌≡◌, ℕ, List, Bool, Option, None, Ok, Err, if◌then◌else◌}
use Rattle.std.specs.Option.{option_or}
use Rattle.fst_text.specs.Faults.{print_text}
use Rattle.fst_text.specs.Printed.{text_of_machine}
use Rattle.fst_text.specs.declared.fault.PrintFault.{PrintFault}
use Rattle.fst_words.specs.declared.options.Options.{Options}
use Rattle.fst_verbs.specs.Causes.{unmade}
use Rattle.fst_symbols.specs.Symbols.{Symbol}
use Rattle.fst_text.specs.Options as text
use Rattle.fst_verbs.specs.Given.{Tables, choices_by}
use Rattle.fst_verbs.specs.Meaning as meanings
use Rattle.fst_verbs.specs.Meaning.{Meaning, for_one, machine, never}

-- the machine of the text, as it was read
abbrev pub compile_meaning : Meaning
compile_meaning = record {
  stops = λ given. never;
  makes = λ given made. for_one given.machines (λ m. made ≡ machine given.kind m);
}

-- the names of the labels of a side: those of its option, or else those that the machine carries; none for numbers
abbrev pub shown_by : Bool → Option (List Symbol) → Option (List Symbol) → Option (List Symbol)
shown_by numeric own carried = if numeric then None else option_or own carried

abbrev pub print_choices : Options → Tables → text.Options
print_choices o t = choices_by o (shown_by o.numeric t.isymbols t.first.isymbols) (shown_by o.numeric t.osymbols t.first.osymbols)

-- the text of the machine, which may have none with these options
abbrev pub print_meaning : Options → Meaning
print_meaning o = record {
  stops = λ given fault. for_one given.machines (λ m.
      (why : PrintFault) × (text_of_machine given.kind (print_choices o given.tables) m ≡ Err why) × (fault ≡ unmade (print_text why)));
  makes = λ given made. for_one given.machines (λ m.
      (bytes : List ℕ) × (text_of_machine given.kind (print_choices o given.tables) m ≡ Ok bytes) × (made ≡ meanings.text bytes));
}
