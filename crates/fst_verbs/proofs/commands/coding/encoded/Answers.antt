use Rattle.std.proofs.Common.{refl}
use Rattle.fst_codex.specs.Table.{valued_table}
use Rattle.fst_codex.proofs.Valued.{Decodes-unvalued}
use Rattle.fst_verbs.proofs.commands.coding.encoded.Goals as goal

pub returns : goal.returns
returns g c =
    let kind = g.W.Weight.KIND in
    let value = g.W.Weight.value in
    let coded = c.in_ok-coded.coded in
    let table = valued_table value c.in_ok-coded.codex in (
      (λ fault stops. stops),
      (
        refl,
        record {
          encodes = c.in_ok-coded.ensures.encoded;
          again = λ back decodes. c.in_ok-coded.ensures.again back (Decodes-unvalued kind value coded table back decodes);
        },
      ),
    )
