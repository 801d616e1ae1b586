use Rattle.std.proofs.Common.{◌<◌, ◌+◌, ℕ, false, [], ◌∷◌, Ok, Err, map, refl, sym, ap, subst}
use Rattle.fst_machine.specs.Graph.{graph_of}
use Rattle.fst_machine.specs.Machine.{most_states, valued}
use Rattle.fst_machine.specs.Steps.{written}
use Rattle.fst_nbest.specs.FirstPaths.{AreFirstPaths}
use Rattle.fst_nbest.proofs.WrittenWords.{first_walks}
use Rattle.fst_verbs.specs.Causes.{unmade}
use Rattle.fst_verbs.specs.Listing.{listing_by, listing_text, path_count}
use Rattle.fst_verbs.specs.Meaning.{machine}
use Rattle.fst_verbs.specs.declared.commands.listing.Unlisted.TheVariants.{ImprovingCycle, TooManyStates}
use Rattle.fst_verbs.proofs.DecidingListing.{listed_cycle, listed_passes, lists, not_full, too_long, written_arcs}
use Rattle.fst_verbs.proofs.Refusing.{declines_made}
use Rattle.fst_verbs.proofs.Settled.{settled}
use Rattle.fst_verbs.proofs.commands.listing.paths_listed.Goals as goal

pub returns-in-Err-ImprovingCycle : goal.returns-in-Err-ImprovingCycle
returns-in-Err-ImprovingCycle g c =
    let kind = g.W.Weight.KIND in
    let value = g.W.Weight.value in
    let o = c.args.options.now in
    let m = c.one-machine.result in
    let cycle = listed_cycle c.in-Err-ImprovingCycle.field-0 c.in-Err-ImprovingCycle.field-0-0 _ c.in-Err-ImprovingCycle.field-0-is c.in-Err-ImprovingCycle.ensures.cycle in
    settled (listing_by false (path_count o)) kind value c.args.given (m ∷ []) (Err c.unmade.result) c.one-machine.ensures
    (declines_made _ (unmade (listing_text ImprovingCycle)) c.unmade.result (ImprovingCycle, (cycle.state, cycle.cycle, cycle.counts, cycle.improves), refl) (c.unmade.ensures (listing_text ImprovingCycle) refl))

pub chains-requires : goal.chains-requires
chains-requires g c = record { listed = first_walks g.W.Weight.KIND (graph_of (valued g.W.Weight.value c.one-machine.result)) c.count_of.result (map written c.in-Ok.paths) c.in-Ok.ensures.first }

pub returns-in-Ok-chains : goal.returns-in-Ok-chains
returns-in-Ok-chains g c =
    let kind = g.W.Weight.KIND in
    let value = g.W.Weight.value in
    let o = c.args.options.now in
    let m = c.one-machine.result in
    let n = path_count o in
    let walks = map written c.in-Ok.paths in
    let firsts = subst (λ (k : ℕ). AreFirstPaths kind (graph_of (valued value m)) k walks) c.count_of.ensures.value c.in-Ok.ensures.first in
    let made = c.in-Ok-chains.made in
    settled (listing_by false (path_count o)) kind value c.args.given (m ∷ []) (Ok (machine kind (valued value made))) c.one-machine.ensures (
      (λ fault stops. listed_passes kind n (valued value m) walks firsts c.in-Ok.ensures.none (λ long. not_full c.chains.result made c.in-Ok-chains.is (c.chains.ensures.full.1 (subst (λ (k : ℕ). most_states < k + 1) (written_arcs c.in-Ok.paths) long))) stops.0 stops.1),
      (refl, lists kind n (valued value m) walks firsts c.in-Ok.ensures.none (valued value made) c.in-Ok-chains.ensures.machine c.in-Ok-chains.ensures.paths),
    )

pub returns-in-Err-TooManyStates : goal.returns-in-Err-TooManyStates
returns-in-Err-TooManyStates g c =
    let kind = g.W.Weight.KIND in
    let value = g.W.Weight.value in
    let o = c.args.options.now in
    let m = c.one-machine.result in
    let n = path_count o in
    let walks = map written c.in-Ok.paths in
    let firsts = subst (λ (k : ℕ). AreFirstPaths kind (graph_of (valued value m)) k walks) c.count_of.ensures.value c.in-Ok.ensures.first in
    settled (listing_by false (path_count o)) kind value c.args.given (m ∷ []) (Err c.unmade-in-Err-TooManyStates.result) c.one-machine.ensures
    (declines_made _ (unmade (listing_text TooManyStates)) c.unmade-in-Err-TooManyStates.result (TooManyStates, too_long kind n (valued value m) walks firsts c.in-Ok.ensures.none (subst (λ (k : ℕ). most_states < k + 1) (sym (written_arcs c.in-Ok.paths)) (c.in-Err-TooManyStates.ensures.full.0 (ap Err c.in-Err-TooManyStates.field-0-is))), refl)
    (c.unmade-in-Err-TooManyStates.ensures (listing_text TooManyStates) refl))
