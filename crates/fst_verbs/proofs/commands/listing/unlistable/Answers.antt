use Rattle.std.proofs.Common.{refl, subst}
use Rattle.fst_select.specs.UniqueRefusals.{IsUnlistable}
use Rattle.fst_verbs.specs.Causes.{unmade}
use Rattle.fst_verbs.specs.Listing.{listing_text, unique_stops}
use Rattle.fst_verbs.specs.declared.commands.listing.Unlisted.TheVariants.{NotAcceptor, HasEpsilon, ImprovingCycle}
use Rattle.fst_verbs.proofs.Refusing.{declines_made}
use Rattle.fst_verbs.proofs.commands.listing.unlistable.Goals as goal

pub returns-in-NotAcceptor : goal.returns-in-NotAcceptor
returns-in-NotAcceptor c kind n m stands =
    let why = NotAcceptor c.in-NotAcceptor.state c.in-NotAcceptor.place in
    declines_made (unique_stops kind n m) (unmade (listing_text why)) c.unmade.result (why, subst (IsUnlistable kind m) c.in-NotAcceptor.is stands, refl) (c.unmade.ensures (listing_text why) refl)

pub returns-in-HasEpsilon : goal.returns-in-HasEpsilon
returns-in-HasEpsilon c kind n m stands =
    let why = HasEpsilon c.in-HasEpsilon.state c.in-HasEpsilon.place in
    declines_made (unique_stops kind n m) (unmade (listing_text why)) c.unmade-in-HasEpsilon.result (why, subst (IsUnlistable kind m) c.in-HasEpsilon.is stands, refl)
    (c.unmade-in-HasEpsilon.ensures (listing_text why) refl)

pub returns-in-ImprovingCycle : goal.returns-in-ImprovingCycle
returns-in-ImprovingCycle c kind n m stands =
    declines_made (unique_stops kind n m) (unmade (listing_text ImprovingCycle)) c.unmade-in-ImprovingCycle.result
    (ImprovingCycle, (c.in-ImprovingCycle.cycle, subst (IsUnlistable kind m) c.in-ImprovingCycle.is stands), refl)
    (c.unmade-in-ImprovingCycle.ensures (listing_text ImprovingCycle) refl)
