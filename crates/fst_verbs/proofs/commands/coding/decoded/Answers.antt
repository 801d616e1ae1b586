use Rattle.std.proofs.Common.{Ok, Err, refl}
use Rattle.fst_machine.specs.Machine.{valued}
use Rattle.fst_codex.specs.Table.{valued_table}
use Rattle.fst_codex.proofs.Valued.{Decodes-valued}
use Rattle.fst_verbs.proofs.Coded.{decoded_passes, undecoded_declines}
use Rattle.fst_verbs.proofs.commands.coding.decoded.Goals as goal

pub returns-in-Ok : goal.returns-in-Ok
returns-in-Ok g c =
    let kind = g.W.Weight.KIND in
    let value = g.W.Weight.value in
    let table = valued_table value c.args.codex in
    let m = valued value c.args.machine in
    let made = valued value c.in-Ok.decoded in
    let decodes = Decodes-valued kind value c.args.machine table (Ok made) c.in-Ok.ensures in
    (decoded_passes kind m made table decodes, (refl, decodes))

pub returns : goal.returns
returns g c =
    let kind = g.W.Weight.KIND in
    let value = g.W.Weight.value in
    let table = valued_table value c.args.codex in
    let decodes = Decodes-valued kind value c.args.machine table (Err c.in-Err.fault) c.in-Err.ensures in
    undecoded_declines kind (valued value c.args.machine) table c.in-Err.fault c.undecoded.result decodes c.undecoded.ensures.made c.undecoded.ensures.memory
