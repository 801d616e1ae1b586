use Rattle.std.proofs.Common.{List, All, subst}
use Rattle.fst_bytes.specs.Spelling.{HasField}
use Rattle.fst_codex.specs.Table.{Entry}
use Rattle.fst_codex.proofs.Again.{HasCodexSpelling-valued}
use Rattle.fst_codex.proofs.writing.write_whole.Goals as goal

pub returns-clause-fits : goal.returns-clause-fits
returns-clause-fits g c =
    let value = g.W.Weight.value in
    let fields = subst (λ (es : List (Entry g.row.W.Denot)). All (λ e. HasField g.W.Weight.KIND (value e.weight)) es) c.entries-entries.ensures.value c.entries_length.ensures.fits in
    HasCodexSpelling-valued value g.W.Weight.KIND c.args.codex.now c.entries-entries.ensures.table fields
