-- What holds of each command, a row each: of what it is given one fault stops it and one thing is made, with as many outputs
-- as its plan stores.
use Rattle.std.proofs.Common.{◌≡◌, ℕ, Bool, false, true, List, length, sym, ap, ◌∙◌}
use Rattle.fst_fields.specs.Lines.{lines_of}
use Rattle.fst_machine.proofs.OneMachine.{one_connected}
use Rattle.fst_rational.specs.Constructions.{closure_of, concat_of, reverse_of, union_of}
use Rattle.fst_text.specs.Printed.{text_of_machine}
use Rattle.fst_trim.proofs.OneAnswer.{one_described, one_sorted}
use Rattle.fst_compose.proofs.OneAnswer.{one_refusal}
use Rattle.fst_setops.proofs.OneAnswer.{one_difference, one_intersection}
use Rattle.fst_setops.proofs.OneComparison.{one_comparison}
use Rattle.fst_words.specs.declared.options.Options.{Options}
use Rattle.fst_words.specs.declared.verb.Verb.{Verb}
use Rattle.fst_words.specs.declared.verb.Verb.TheVariants as verbs
use Rattle.fst_words.specs.Forms.{form_of}
use Rattle.fst_words.specs.Inputs.{stored_by}
use Rattle.fst_verbs.specs.Causes.{unmade}
use Rattle.fst_verbs.specs.Commands.{meaning_by}
use Rattle.fst_verbs.specs.Composing.{state_limit}
use Rattle.fst_verbs.specs.Given.{Given}
use Rattle.fst_verbs.specs.Texts.{print_choices}
use Rattle.fst_verbs.specs.Listing.{listing_by, path_count}
use Rattle.fst_binary.specs.Sides.{neither}
use Rattle.fst_verbs.specs.Meaning.{Made, Meaning, bytes_of}
use Rattle.fst_verbs.specs.Measuring.{direction_of}
use Rattle.fst_verbs.specs.OneMeaning.{HasOneOutcome, One}
use Rattle.fst_verbs.specs.Pruning.{threshold_of}
use Rattle.fst_verbs.specs.Trimming.{side_of}
use Rattle.fst_verbs.proofs.Deciding.{one_equal, one_error, one_for_one, one_for_two, one_line, one_never, one_told, one_value}
use Rattle.fst_verbs.proofs.DecidingBatching.{batch_count, one_batch}
use Rattle.fst_verbs.proofs.DecidingCoding.{one_coding_stops}
use Rattle.fst_verbs.proofs.DecidingComparing.{a_comparison}
use Rattle.fst_verbs.proofs.DecidingComposing.{one_composed}
use Rattle.fst_verbs.proofs.DecidingDeterminizing.{one_determinized, one_undetermined}
use Rattle.fst_verbs.proofs.DecidingIntersecting.{one_intersected}
use Rattle.fst_verbs.proofs.DecidingListing.{one_listed, one_unlisted}
use Rattle.fst_verbs.proofs.DecidingStrings.{one_lists_strings, one_unlisted_unique}
use Rattle.fst_verbs.proofs.DecidingMinimizing.{one_minimizing, one_unminimized}
use Rattle.fst_verbs.proofs.DecidingPruning.{one_prunes, one_unpruned}
use Rattle.fst_verbs.proofs.DecidingPushing.{one_pushing, one_unpushed}
use Rattle.fst_verbs.proofs.DecidingRemoving.{one_removed_machine, one_unremoved}
use Rattle.fst_verbs.proofs.DecidingSizes.{one_cause, one_too_large}
use Rattle.fst_verbs.proofs.DecidingSubtracting.{one_subtracted}
use Rattle.fst_verbs.proofs.Making.{one_cascade}
use Rattle.fst_verbs.proofs.Measured.{one_distances, one_unmeasured}
use Rattle.fst_verbs.proofs.OneMade.{IsOneMade, a_coding, a_machine, a_text, of_one, of_two, the_made}

pub record IsLawful (m : Meaning) (given : Given) (stored : ℕ) : Type 0 where
  pub stopped : One (m.stops given)
  pub makes : IsOneMade stored (m.makes given)

-- paths are listed, or strings
lawful_listing : (unique : Bool) (n : ℕ) (given : Given) → IsLawful (listing_by unique n) given 1
lawful_listing false n given = record {
  stopped = one_for_one _ (λ m. one_told _ _ (one_unlisted given.kind n m)) given.machines;
  makes = of_one _ (λ m. a_machine given.kind _ (one_listed given.kind n m)) given.machines;
}
lawful_listing true n given = record {
  stopped = one_for_one _ (λ m. one_told _ _ (one_unlisted_unique given.kind n m)) given.machines;
  makes = of_one _ (λ m. a_machine given.kind _ (one_lists_strings given.kind n m)) given.machines;
}

-- ---- the table

pub lawful : (verb : Verb) (labels : List ℕ) (o : Options) (given : Given) → IsLawful (meaning_by verb labels o) given (stored_by (form_of verb).shape o.decode)
lawful verbs.Compile labels o given = record { stopped = one_never; makes = of_one _ (λ m. the_made _) given.machines }
lawful verbs.Print labels o given = record {
  stopped = one_for_one _ (λ m. one_told _ _ (one_error (text_of_machine given.kind (print_choices o given.tables) m))) given.machines;
  makes = of_one _ (λ m. a_text _ _ (one_value (text_of_machine given.kind (print_choices o given.tables) m))) given.machines;
}
lawful verbs.Info labels o given = record { stopped = one_never; makes = of_one _ (λ m. a_text _ _ (one_described given.kind (λ w. w) m)) given.machines }
lawful verbs.Invert labels o given = record { stopped = one_never; makes = of_one _ (λ m. a_machine given.kind _ (one_equal _ _)) given.machines }
lawful verbs.Reverse labels o given = record {
  stopped = one_for_one _ (λ m. one_too_large (reverse_of given.kind m)) given.machines;
  makes = of_one _ (λ m. a_machine given.kind _ (one_equal _ _)) given.machines;
}
lawful verbs.Connect labels o given = record {
  stopped = one_never;
  makes = of_one _ (λ m. a_machine given.kind _ (λ r q one two. one_connected m r q one.0 two.0)) given.machines;
}
lawful verbs.Union labels o given = record {
  stopped = one_for_two _ (λ a b. one_too_large (union_of given.kind a b)) given.machines;
  makes = of_two _ (λ a b. a_machine given.kind _ (one_equal _ _)) given.machines;
}
lawful verbs.Concat labels o given = record {
  stopped = one_for_two _ (λ a b. one_too_large (concat_of a b)) given.machines;
  makes = of_two _ (λ a b. a_machine given.kind _ (one_equal _ _)) given.machines;
}
lawful verbs.Closure labels o given = record {
  stopped = one_for_one _ (λ m. one_too_large (closure_of given.kind o.closure_plus m)) given.machines;
  makes = of_one _ (λ m. a_machine given.kind _ (one_equal _ _)) given.machines;
}
lawful verbs.Project labels o given = record { stopped = one_never; makes = of_one _ (λ m. a_machine given.kind _ (one_equal _ _)) given.machines }
lawful verbs.Replace labels o given = record { stopped = one_told _ _ (one_cause _); makes = a_machine given.kind _ (one_equal _ _) }
lawful verbs.Relabel labels o given = record { stopped = one_never; makes = of_one _ (λ m. a_machine given.kind _ (one_equal _ _)) given.machines }
lawful verbs.Arcsort labels o given = record {
  stopped = one_never;
  makes = of_one _ (λ m. a_machine given.kind _ (λ r q one two. one_sorted (side_of o.sort_type) m r q one.0 two.0)) given.machines;
}
lawful verbs.Compose labels o given = record {
  stopped = one_for_two _ (λ a b. one_told _ _ (one_refusal given.kind a b (state_limit o))) given.machines;
  makes = of_two _ (λ a b. a_machine given.kind _ (one_composed o given.kind a b)) given.machines;
}
lawful verbs.Encode labels o given = record { stopped = one_coding_stops o.decode given; makes = a_coding o.decode o.encode_weights given }
lawful verbs.Rmepsilon labels o given = record {
  stopped = one_for_one _ (λ m. one_unremoved given.kind m) given.machines;
  makes = of_one _ (λ m. a_machine given.kind _ (one_removed_machine o given.kind m)) given.machines;
}
lawful verbs.Shortestdistance labels o given = record {
  stopped = one_for_one _ (λ m. one_told _ _ (one_unmeasured given.kind m (direction_of o))) given.machines;
  makes = of_one _ (λ m. a_text _ _ (one_distances given.kind m (direction_of o))) given.machines;
}
lawful verbs.Shortestpath labels o given = lawful_listing o.unique (path_count o) given
lawful verbs.Push labels o given = record {
  stopped = one_for_one _ (λ m. one_unpushed given.kind o.remove_total_weight m) given.machines;
  makes = of_one _ (λ m. a_machine given.kind _ (one_pushing given.kind o.remove_total_weight m)) given.machines;
}
lawful verbs.Determinize labels o given = record {
  stopped = one_for_one _ (λ m. one_told _ _ (one_undetermined given.kind (state_limit o) m)) given.machines;
  makes = of_one _ (λ m. a_machine given.kind _ (one_determinized given.kind (state_limit o) m)) given.machines;
}
lawful verbs.Minimize labels o given = record {
  stopped = one_for_one _ (λ m. one_line _ _ (λ f h one two. ap unmade (one_unminimized given.kind m f h one two))) given.machines;
  makes = of_one _ (λ m. a_machine given.kind _ (one_minimizing given.kind m)) given.machines;
}
lawful verbs.Prune labels o given = record {
  stopped = one_for_one _ (λ m. one_told _ _ (one_unpruned (threshold_of given.kind o.weight) given.kind m)) given.machines;
  makes = of_one _ (λ m. a_machine given.kind _ (one_prunes (threshold_of given.kind o.weight) given.kind m)) given.machines;
}
lawful verbs.Intersect labels o given = record {
  stopped = one_for_two _ (λ a b. one_told _ _ (one_intersection a b given.kind (state_limit o))) given.machines;
  makes = of_two _ (λ a b. a_machine given.kind _ (one_intersected o given.kind a b)) given.machines;
}
lawful verbs.Difference labels o given = record {
  stopped = one_for_two _ (λ a b. one_told _ _ (one_difference a b given.kind (state_limit o))) given.machines;
  makes = of_two _ (λ a b. a_machine given.kind _ (one_subtracted o given.kind a b)) given.machines;
}
lawful verbs.Equivalent labels o given = record {
  stopped = one_for_two _ (λ a b. one_told _ _ (one_comparison a b given.kind (state_limit o))) given.machines;
  makes = of_two _ (λ a b. a_comparison given.kind a b) given.machines;
}
lawful verbs.Batch labels o given = record {
  stopped = one_for_two _ (λ a b x y one two. one.1 ∙ sym two.1) given.machines;
  makes = record { one = one_for_two _ (λ a b. one_batch given.kind a b o (lines_of given.lines)) given.machines; count = batch_count given.machines given.kind o (lines_of given.lines) };
}
lawful verbs.Make labels o given = record {
  stopped = one_never;
  makes = record { one = one_cascade o; count = λ made is. ap (λ (m : Made). length (bytes_of neither m)) is.is };
}

-- ---- what follows

-- a command has one outcome
pub one_meaning : (verb : Verb) (labels : List ℕ) (o : Options) (given : Given) → HasOneOutcome (meaning_by verb labels o) given
one_meaning verb labels o given = record { stopped = (lawful verb labels o given).stopped; made = (lawful verb labels o given).makes.one }
