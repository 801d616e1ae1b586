-- The table of meanings: a row for each command, with the page that has its meaning.
use Rattle.std.specs.Prelude.{ℕ, List}
use Rattle.fst_words.specs.declared.options.Options.{Options}
use Rattle.fst_words.specs.declared.plan.Plan.{Plan}
use Rattle.fst_words.specs.declared.verb.Verb.{Verb}
use Rattle.fst_words.specs.declared.verb.Verb.TheVariants as verbs
use Rattle.fst_words.specs.Plans.{rule_labels}
use Rattle.fst_verbs.specs as pages
use Rattle.fst_verbs.specs.Meaning.{Meaning}

-- by the command, the labels of rules and the options
abbrev pub meaning_by : Verb → List ℕ → Options → Meaning
meaning_by verbs.Compile labels o = pages.Texts.compile_meaning
meaning_by verbs.Print labels o = pages.Texts.print_meaning o
meaning_by verbs.Info labels o = pages.Describing.info_meaning
meaning_by verbs.Invert labels o = pages.Rational.invert_meaning
meaning_by verbs.Reverse labels o = pages.Rational.reverse_meaning
meaning_by verbs.Connect labels o = pages.Trimming.connect_meaning
meaning_by verbs.Union labels o = pages.Rational.union_meaning
meaning_by verbs.Concat labels o = pages.Rational.concat_meaning
meaning_by verbs.Closure labels o = pages.Rational.closure_meaning o
meaning_by verbs.Project labels o = pages.Rational.project_meaning o
meaning_by verbs.Replace labels o = pages.Replacing.replace_meaning labels
meaning_by verbs.Relabel labels o = pages.Rational.relabel_meaning
meaning_by verbs.Arcsort labels o = pages.Trimming.arcsort_meaning o
meaning_by verbs.Compose labels o = pages.Composing.compose_meaning o
meaning_by verbs.Rmepsilon labels o = pages.Removing.rmepsilon_meaning o
meaning_by verbs.Shortestdistance labels o = pages.Measuring.measure_meaning o
meaning_by verbs.Shortestpath labels o = pages.Listing.listing_meaning o
meaning_by verbs.Push labels o = pages.Pushing.push_meaning o
meaning_by verbs.Encode labels o = pages.Coding.encode_meaning o
meaning_by verbs.Determinize labels o = pages.Determinizing.determinize_meaning o
meaning_by verbs.Minimize labels o = pages.Minimizing.minimize_meaning
meaning_by verbs.Prune labels o = pages.Pruning.prune_meaning o
meaning_by verbs.Intersect labels o = pages.Intersecting.intersect_meaning o
meaning_by verbs.Difference labels o = pages.Subtracting.difference_meaning o
meaning_by verbs.Equivalent labels o = pages.Comparing.equivalent_meaning o
meaning_by verbs.Batch labels o = pages.Batching.batch_meaning o
meaning_by verbs.Make labels o = pages.Making.make_meaning o

-- what a plan means
abbrev pub meaning_for : Plan → Meaning
meaning_for plan = meaning_by plan.command (rule_labels plan) plan.options
