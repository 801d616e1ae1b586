use Rattle.std.proofs.Common.{◌≡◌, true, sym, ap, ◌∙◌, arith}
use Rattle.std.specs.Result.{result_map_both}
use Rattle.fst_words.specs.declared.verb.Verb.{Verb}
use Rattle.fst_words.specs.declared.verb.Verb.TheVariants as verbs
use Rattle.fst_words.specs.Forms.{form_of}
use Rattle.fst_words.specs.Inputs.{expands_by}
use Rattle.fst_words.specs.Plans.{is_replace}
use Rattle.fst_words.proofs.Counts.{labels_all, rules_some}
use Rattle.fst_verbs.specs.Seeing.{given_with, made_seen}
use Rattle.fst_verbs.specs.Listing.{path_count}
use Rattle.fst_verbs.proofs.Coded.{coded_with}
use Rattle.fst_verbs.proofs.Listed.{listed_with}
use Rattle.fst_verbs.proofs.Raising.{raises_nothing}
use Rattle.fst_verbs.proofs.Settled.{settles_for}
use Rattle.fst_verbs.proofs.commands.made.Goals as goal

pub replaced-requires-clause-some : goal.replaced-requires-clause-some
replaced-requires-clause-some g c =
    let plan = c.args.plan.now in
    let rules : is_replace plan.command ≡ true = ap is_replace c.in-Replace.is in
    omega (arith, rules_some plan c.requires.whole rules, c.requires.machines)

pub replaced-requires-clause-all : goal.replaced-requires-clause-all
replaced-requires-clause-all g c =
    let plan = c.args.plan.now in
    let rules : is_replace plan.command ≡ true = ap is_replace c.in-Replace.is in
    c.requires.machines ∙ sym (labels_all plan c.requires.whole rules)

pub returns-in-Replace-clause-meter : goal.returns-in-Replace-clause-meter
returns-in-Replace-clause-meter g c = raises_nothing c.args.plan.now _ _ (ap (λ (v : Verb). expands_by (form_of v).shape) c.in-Replace.is)

-- what a command settles of what it is given beside the symbol tables, it settles of all of it: its page speaks of no table
pub returns-in-Replace-clause-settles : goal.returns-in-Replace-clause-settles
returns-in-Replace-clause-settles g c = settles_for c.args.plan.now verbs.Replace (given_with c.args.tables.now g.W.Weight.KIND g.W.Weight.value c.args.given) (result_map_both (made_seen g.W.Weight.KIND g.W.Weight.value) (λ e. e) c.replaced.result) c.in-Replace.is c.replaced.ensures

pub returns-in-Reverse-clause-settles : goal.returns-in-Reverse-clause-settles
returns-in-Reverse-clause-settles g c = settles_for c.args.plan.now verbs.Reverse (given_with c.args.tables.now g.W.Weight.KIND g.W.Weight.value c.args.given) (result_map_both (made_seen g.W.Weight.KIND g.W.Weight.value) (λ e. e) c.reversed.result) c.in-Reverse.is c.reversed.ensures

pub returns-in-Union-clause-settles : goal.returns-in-Union-clause-settles
returns-in-Union-clause-settles g c = settles_for c.args.plan.now verbs.Union (given_with c.args.tables.now g.W.Weight.KIND g.W.Weight.value c.args.given) (result_map_both (made_seen g.W.Weight.KIND g.W.Weight.value) (λ e. e) c.united.result) c.in-Union.is c.united.ensures

pub returns-in-Closure-clause-settles : goal.returns-in-Closure-clause-settles
returns-in-Closure-clause-settles g c = settles_for c.args.plan.now verbs.Closure (given_with c.args.tables.now g.W.Weight.KIND g.W.Weight.value c.args.given) (result_map_both (made_seen g.W.Weight.KIND g.W.Weight.value) (λ e. e) c.closed.result) c.in-Closure.is c.closed.ensures

pub returns-in-Compose-clause-settles : goal.returns-in-Compose-clause-settles
returns-in-Compose-clause-settles g c = settles_for c.args.plan.now verbs.Compose (given_with c.args.tables.now g.W.Weight.KIND g.W.Weight.value c.args.given) (result_map_both (made_seen g.W.Weight.KIND g.W.Weight.value) (λ e. e) c.composed.result) c.in-Compose.is c.composed.ensures

pub returns-in-Intersect-clause-settles : goal.returns-in-Intersect-clause-settles
returns-in-Intersect-clause-settles g c = settles_for c.args.plan.now verbs.Intersect (given_with c.args.tables.now g.W.Weight.KIND g.W.Weight.value c.args.given) (result_map_both (made_seen g.W.Weight.KIND g.W.Weight.value) (λ e. e) c.intersected.result) c.in-Intersect.is c.intersected.ensures

pub returns-in-Difference-clause-settles : goal.returns-in-Difference-clause-settles
returns-in-Difference-clause-settles g c = settles_for c.args.plan.now verbs.Difference (given_with c.args.tables.now g.W.Weight.KIND g.W.Weight.value c.args.given) (result_map_both (made_seen g.W.Weight.KIND g.W.Weight.value) (λ e. e) c.subtracted.result) c.in-Difference.is c.subtracted.ensures

pub returns-in-Equivalent-clause-settles : goal.returns-in-Equivalent-clause-settles
returns-in-Equivalent-clause-settles g c = settles_for c.args.plan.now verbs.Equivalent (given_with c.args.tables.now g.W.Weight.KIND g.W.Weight.value c.args.given) (result_map_both (made_seen g.W.Weight.KIND g.W.Weight.value) (λ e. e) c.compared.result) c.in-Equivalent.is c.compared.ensures

pub returns-in-Determinize-clause-settles : goal.returns-in-Determinize-clause-settles
returns-in-Determinize-clause-settles g c = settles_for c.args.plan.now verbs.Determinize (given_with c.args.tables.now g.W.Weight.KIND g.W.Weight.value c.args.given) (result_map_both (made_seen g.W.Weight.KIND g.W.Weight.value) (λ e. e) c.determinized.result) c.in-Determinize.is c.determinized.ensures

pub returns-in-Minimize-clause-settles : goal.returns-in-Minimize-clause-settles
returns-in-Minimize-clause-settles g c = settles_for c.args.plan.now verbs.Minimize (given_with c.args.tables.now g.W.Weight.KIND g.W.Weight.value c.args.given) (result_map_both (made_seen g.W.Weight.KIND g.W.Weight.value) (λ e. e) c.minimized.result) c.in-Minimize.is c.minimized.ensures

pub returns-in-Prune-clause-settles : goal.returns-in-Prune-clause-settles
returns-in-Prune-clause-settles g c = settles_for c.args.plan.now verbs.Prune (given_with c.args.tables.now g.W.Weight.KIND g.W.Weight.value c.args.given) (result_map_both (made_seen g.W.Weight.KIND g.W.Weight.value) (λ e. e) c.pruned.result) c.in-Prune.is c.pruned.ensures

pub returns-in-Encode-clause-settles : goal.returns-in-Encode-clause-settles
returns-in-Encode-clause-settles g c =
    let kind = g.W.Weight.KIND in
    let value = g.W.Weight.value in
    let o = c.args.plan.now.options in
    let made = result_map_both (made_seen kind value) (λ e. e) c.coded.result in
    settles_for c.args.plan.now verbs.Encode (given_with c.args.tables.now kind value c.args.given) made c.in-Encode.is (coded_with o.decode o.encode_weights c.args.tables.now kind value c.args.given made c.coded.ensures)

pub returns-in-Rmepsilon-clause-settles : goal.returns-in-Rmepsilon-clause-settles
returns-in-Rmepsilon-clause-settles g c = settles_for c.args.plan.now verbs.Rmepsilon (given_with c.args.tables.now g.W.Weight.KIND g.W.Weight.value c.args.given) (result_map_both (made_seen g.W.Weight.KIND g.W.Weight.value) (λ e. e) c.removed.result) c.in-Rmepsilon.is c.removed.ensures

pub returns-in-Shortestdistance-clause-settles : goal.returns-in-Shortestdistance-clause-settles
returns-in-Shortestdistance-clause-settles g c = settles_for c.args.plan.now verbs.Shortestdistance (given_with c.args.tables.now g.W.Weight.KIND g.W.Weight.value c.args.given) (result_map_both (made_seen g.W.Weight.KIND g.W.Weight.value) (λ e. e) c.measured.result) c.in-Shortestdistance.is c.measured.ensures

pub returns-in-Shortestpath-clause-settles : goal.returns-in-Shortestpath-clause-settles
returns-in-Shortestpath-clause-settles g c =
    let kind = g.W.Weight.KIND in
    let value = g.W.Weight.value in
    let o = c.args.plan.now.options in
    let made = result_map_both (made_seen kind value) (λ e. e) c.listed.result in
    settles_for c.args.plan.now verbs.Shortestpath (given_with c.args.tables.now kind value c.args.given) made c.in-Shortestpath.is
    (listed_with o.unique (path_count o) c.args.tables.now kind value c.args.given made c.listed.ensures)

pub returns-in-Push-clause-settles : goal.returns-in-Push-clause-settles
returns-in-Push-clause-settles g c = settles_for c.args.plan.now verbs.Push (given_with c.args.tables.now g.W.Weight.KIND g.W.Weight.value c.args.given) (result_map_both (made_seen g.W.Weight.KIND g.W.Weight.value) (λ e. e) c.pushed.result) c.in-Push.is c.pushed.ensures

pub returns-in-Make-clause-settles : goal.returns-in-Make-clause-settles
returns-in-Make-clause-settles g c =
    let given = given_with c.args.tables.now g.W.Weight.KIND g.W.Weight.value c.args.given in
    settles_for c.args.plan.now verbs.Make given (result_map_both (made_seen g.W.Weight.KIND g.W.Weight.value) (λ e. e) c.drawn.result) c.in-Make.is (c.drawn.ensures.settles given)
