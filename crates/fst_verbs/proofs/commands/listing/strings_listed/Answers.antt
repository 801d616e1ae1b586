use Rattle.std.proofs.Common.{◌<◌, ◌+◌, ℕ, true, [], ◌∷◌, Ok, Err, map, refl, sym, ap, ◌∙◌, subst}
use Rattle.fst_machine.specs.Graph.{graph_of}
use Rattle.fst_machine.specs.Machine.{most_states, valued}
use Rattle.fst_machine.proofs.Valued.{IsMachine-valued}
use Rattle.fst_select.specs.Strings.{AreFirstStrings, labels_listed, weighted}
use Rattle.fst_verbs.specs.Causes.{unmade}
use Rattle.fst_verbs.specs.Listing.{AreTooLongStrings, HasLargeWeight, listing_by, listing_text, path_count}
use Rattle.fst_verbs.specs.Meaning.{machine}
use Rattle.fst_verbs.specs.declared.commands.listing.Unlisted.TheVariants.{Overflow, TooManyStates}
use Rattle.fst_verbs.proofs.DecidingListing.{not_full}
use Rattle.fst_verbs.proofs.DecidingStrings.{lists_strings, strings_pass}
use Rattle.fst_verbs.proofs.Refusing.{declines_made}
use Rattle.fst_verbs.proofs.Settled.{settled}
use Rattle.fst_verbs.proofs.commands.listing.strings_listed.Goals as goal

pub returns-in-Err : goal.returns-in-Err
returns-in-Err g c =
    let kind = g.W.Weight.KIND in
    let value = g.W.Weight.value in
    let n = path_count c.args.options.now in
    let m = c.one-machine.result in
    settled (listing_by true n) kind value c.args.given (m ∷ []) (Err c.unlistable.result) c.one-machine.ensures (c.unlistable.ensures kind n (valued value m) c.in-Err.ensures.exact)

pub returns-in-Ok-string_chains : goal.returns-in-Ok-string_chains
returns-in-Ok-string_chains g c =
    let kind = g.W.Weight.KIND in
    let value = g.W.Weight.value in
    let n = path_count c.args.options.now in
    let m = c.one-machine.result in
    let strings = map (weighted g.W.Weight.wide_value) c.in-Ok.strings in
    let first = subst (λ (k : ℕ). AreFirstStrings kind (graph_of (valued value m)) k strings) c.count_of.ensures.value c.in-Ok.ensures.first in
    let made = c.in-Ok-string_chains.made in
    let good = IsMachine-valued value m c.states-states.ensures.machine in
    let fits : most_states < labels_listed strings + 1 → ⊥ = λ long. not_full c.string_chains.result made c.in-Ok-string_chains.is (c.string_chains.ensures.full.1 long) in
    settled (listing_by true n) kind value c.args.given (m ∷ []) (Ok (machine kind (valued value made))) c.one-machine.ensures (
      (λ fault stops. strings_pass kind n (valued value m) strings first c.in-Ok.ensures.exact fits c.in-Ok-string_chains.ensures.fits stops.0 stops.1),
      (refl, lists_strings kind n (valued value m) strings first good (valued value made) c.in-Ok-string_chains.ensures.machine c.in-Ok-string_chains.ensures.relates),
    )

pub returns-in-Err-TooManyStates : goal.returns-in-Err-TooManyStates
returns-in-Err-TooManyStates g c =
    let kind = g.W.Weight.KIND in
    let value = g.W.Weight.value in
    let n = path_count c.args.options.now in
    let m = c.one-machine.result in
    let strings = map (weighted g.W.Weight.wide_value) c.in-Ok.strings in
    let first = subst (λ (k : ℕ). AreFirstStrings kind (graph_of (valued value m)) k strings) c.count_of.ensures.value c.in-Ok.ensures.first in
    let long : AreTooLongStrings kind n (valued value m) = record {
      strings = strings;
      first = first;
      long = c.in-Err-TooManyStates.ensures.full.0 (ap Err c.in-Err-TooManyStates.field-0-is);
    } in
    settled (listing_by true n) kind value c.args.given (m ∷ []) (Err c.unmade.result) c.one-machine.ensures
    (declines_made _ (unmade (listing_text TooManyStates)) c.unmade.result (TooManyStates, (c.in-Ok.ensures.exact, long), refl) (c.unmade.ensures (listing_text TooManyStates) refl))

pub returns-in-Err-Overflow : goal.returns-in-Err-Overflow
returns-in-Err-Overflow g c =
    let kind = g.W.Weight.KIND in
    let value = g.W.Weight.value in
    let n = path_count c.args.options.now in
    let m = c.one-machine.result in
    let strings = map (weighted g.W.Weight.wide_value) c.in-Ok.strings in
    let first = subst (λ (k : ℕ). AreFirstStrings kind (graph_of (valued value m)) k strings) c.count_of.ensures.value c.in-Ok.ensures.first in
    let state = c.in-Err-Overflow.state in
    let large : HasLargeWeight kind n (valued value m) state = record {
      strings = strings;
      first = first;
      fits = λ long. let both = sym (c.in-Err-Overflow.is ∙ ap Err c.in-Err-Overflow.field-0-is) ∙ c.string_chains.ensures.full.1 long in cc;
      least = c.in-Err-Overflow.ensures.overflow state (ap Err c.in-Err-Overflow.field-0-is);
    } in
    settled (listing_by true n) kind value c.args.given (m ∷ []) (Err c.unmade-in-Err-Overflow.result) c.one-machine.ensures
    (declines_made _ (unmade (listing_text (Overflow state))) c.unmade-in-Err-Overflow.result (Overflow state, (c.in-Ok.ensures.exact, large), refl)
    (c.unmade-in-Err-Overflow.ensures (listing_text (Overflow state)) refl))
