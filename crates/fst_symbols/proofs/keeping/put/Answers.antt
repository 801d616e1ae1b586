use Rattle.std.proofs.Common.{◌∙◌, ap, List, ℕ}
use Rattle.indexmap.specs.IndexMap.{insert_entry}
use Rattle.indexmap.proofs.CallerLemmas.{insert_entry-new}
use Rattle.fst_symbols.specs.declared.name.Name.{Name}
use Rattle.fst_symbols.proofs.Entries.{same_name}
use Rattle.fst_symbols.proofs.keeping.put.Goals as goal

pub returns-in-Ok-insert : goal.returns-in-Ok-insert
returns-in-Ok-insert c =
    (c.in-Ok-insert.ensures.entries ∙ ap (λ (es : List (Name × ℕ)). insert_entry same_name es c.args.name c.args.number) c.reserve.ensures.entries ∙ insert_entry-new same_name c.args.symbols.now c.args.name c.args.number c.requires, c.in-Ok.ensures.0, c.in-Ok.ensures.1)
