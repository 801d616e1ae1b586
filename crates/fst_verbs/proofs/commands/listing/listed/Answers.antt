use Rattle.std.proofs.Common.{false, true}
use Rattle.std.specs.Result.{result_map_both}
use Rattle.fst_verbs.specs.Seeing.{given_seen, made_seen}
use Rattle.fst_verbs.proofs.DecidingListing.{settles_listing}
use Rattle.fst_verbs.proofs.commands.listing.listed.Goals as goal

pub returns-then-options : goal.returns-then-options
returns-then-options g c =
    let kind = g.W.Weight.KIND in
    let value = g.W.Weight.value in
    settles_listing true c.args.options.now (given_seen kind value c.args.given) (result_map_both (made_seen kind value) (λ e. e) c.strings_listed.result) c.if-options.true c.strings_listed.ensures

pub returns : goal.returns
returns g c =
    let kind = g.W.Weight.KIND in
    let value = g.W.Weight.value in
    settles_listing false c.args.options.now (given_seen kind value c.args.given) (result_map_both (made_seen kind value) (λ e. e) c.paths_listed.result) c.if-options.false c.paths_listed.ensures
