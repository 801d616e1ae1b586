use Rattle.std.proofs.Common.{length, map, ap, arith}
use Rattle.std.specs.List.{flat_map}
use Rattle.std.proofs.lemmas.List.{length-append}
use Rattle.fst_machine.specs.Machine.{valued, valued_state}
use Rattle.fst_semiring.specs.Names.{name_of}
use Rattle.fst_binary.specs.Spelling.{state_fields}
use Rattle.fst_binary.proofs.Lengths.{spelling_length}
use Rattle.fst_binary.proofs.Parts.{spelled_behind}
use Rattle.fst_binary.proofs.encoding.append_header_of.Goals as goal

pub append_header-requires-clause-room : goal.append_header-requires-clause-room
append_header-requires-clause-room g c =
    let whole = spelling_length g.W.Weight.KIND (valued g.W.Weight.value c.args.fst.now) c.args.tables.now in
    let name = ap (λ kind. length (name_of kind)) c.KIND.ensures in
    omega (arith, whole, name, c.requires.room)

pub returns-clause-items : goal.returns-clause-items
returns-clause-items g c = spelled_behind g.W.Weight.value g.W.Weight.KIND _ c.args.fst.now c.args.tables.now _ _ _ _ c.KIND.ensures c.start.ensures.value c.states.ensures.value c.arc_count.ensures c.append_header.ensures.items

pub returns-clause-left : goal.returns-clause-left
returns-clause-left g c =
    let states = map (valued_state g.W.Weight.value) c.args.fst.now.states in
    let spelled = spelled_behind g.W.Weight.value g.W.Weight.KIND _ c.args.fst.now c.args.tables.now _ _ _ _ c.KIND.ensures c.start.ensures.value c.states.ensures.value c.arc_count.ensures c.append_header.ensures.items in
    let n = length-append c.append_header.new.out.items (flat_map (state_fields g.W.Weight.KIND) states) in
    omega (arith, ap length spelled, n, c.requires.room, c.append_header.ensures.room)
