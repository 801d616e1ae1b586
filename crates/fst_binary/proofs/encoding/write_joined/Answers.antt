use Rattle.std.proofs.Common.{◌≡◌, ◌≢◌, false, true, All, List, length, map, ap, sym, subst, arith}
use Rattle.std.specs.List.{flat_map}
use Rattle.std.proofs.lemmas.List.{length-append}
use Rattle.fst_semiring.specs.Cost.{infinite}
use Rattle.fst_semiring.specs.Names.{name_of}
use Rattle.fst_machine.specs.Machine.{State, arc_total, valued_state}
use Rattle.fst_binary.specs.Spelling.{HasFields, state_fields}
use Rattle.fst_binary.proofs.Encoded.{HasSpelling-valued}
use Rattle.fst_binary.proofs.Numbered.{weights_of_machine}
use Rattle.fst_binary.proofs.Parts.{front_length, joined_length, joined_spelled, length_of_parts}
use Rattle.fst_binary.proofs.encoding.write_joined.Goals as goal

pub parts_length-requires : goal.parts_length-requires
parts_length-requires g c =
    let machine = c.states-states.ensures.machine in
    let parts = c.into_parts-first.ensures in
    record {
      few_states = omega (arith, ap length parts, machine.few_states);
      few_arcs = omega (arith, ap arc_total parts, machine.few_arcs);
      weights = subst (λ (ss : List (State g.row.W.Denot)). All (λ s. All (λ a. g.W.Weight.value a.weight ≢ infinite) s.arcs) ss) parts (weights_of_machine g.W.Weight.value (length c.args.joined.states) c.args.joined.states machine.arcs);
    }

pub returns-in_err-out-clause-succeeds : goal.returns-in_err-out-clause-succeeds
returns-in_err-out-clause-succeeds g c fits =
    let whole = joined_length g.W.Weight.value g.W.Weight.KIND c.args.joined c.args.tables.now c.into_parts-first.result.0 c.into_parts-first.result.1 c.into_parts-first.ensures in
    let name = ap (λ kind. length (name_of kind)) c.KIND.ensures in
    let never : false ≡ true = c.in_err-out.ensures.succeeds (omega (arith, fits, whole, name, c.header_length.ensures, c.tables_length.ensures.value, c.parts_length.ensures.value)) in
    absurd cc

pub returns-in_err-out-clause-fits : goal.returns-in_err-out-clause-fits
returns-in_err-out-clause-fits g c =
    HasSpelling-valued g.W.Weight.value g.W.Weight.KIND c.args.joined c.states-states.ensures.machine
    (subst (λ (ss : List (State g.row.W.Denot)). All (HasFields g.W.Weight.value g.W.Weight.KIND) ss) (sym c.into_parts-first.ensures) c.parts_length.ensures.fits)

pub append_list-requires : goal.append_list-requires
append_list-requires g c =
    let front = front_length g.W.Weight.value g.W.Weight.KIND _ c.args.joined c.args.tables.now _ _ _ _ c.KIND-2.ensures c.start-start.ensures.value c.states-states.ensures.value c.arc_count-arcs.ensures c.append_header.ensures.items in
    let both = length_of_parts (state_fields g.W.Weight.KIND) (valued_state g.W.Weight.value) c.into_parts-first.result.0 c.into_parts-first.result.1 in
    let name = ap (λ kind. length (name_of kind)) c.KIND.ensures in
    omega (arith, front, both, name, c.header_length.ensures, c.tables_length.ensures.value, c.parts_length.ensures.value, c.in_ok-out.ensures.room, c.append_header.ensures.room)

pub append_list-requires-2 : goal.append_list-requires-2
append_list-requires-2 g c =
    let front = front_length g.W.Weight.value g.W.Weight.KIND _ c.args.joined c.args.tables.now _ _ _ _ c.KIND-2.ensures c.start-start.ensures.value c.states-states.ensures.value c.arc_count-arcs.ensures c.append_header.ensures.items in
    let both = length_of_parts (state_fields g.W.Weight.KIND) (valued_state g.W.Weight.value) c.into_parts-first.result.0 c.into_parts-first.result.1 in
    let name = ap (λ kind. length (name_of kind)) c.KIND.ensures in
    let grown = ap length c.append_list.ensures.items in
    let more = length-append c.append_header.new.out.items (flat_map (state_fields g.W.Weight.KIND) (map (valued_state g.W.Weight.value) c.into_parts-first.result.0)) in
    omega (arith, front, both, name, grown, more, c.header_length.ensures, c.tables_length.ensures.value, c.parts_length.ensures.value, c.in_ok-out.ensures.room, c.append_header.ensures.room, c.append_list.ensures.room)

pub returns-clause-spelled : goal.returns-clause-spelled
returns-clause-spelled g c = joined_spelled g.W.Weight.value g.W.Weight.KIND _ c.args.joined c.args.tables.now c.into_parts-first.result.0 c.into_parts-first.result.1 _ _ _ _ _ _ c.into_parts-first.ensures c.KIND-2.ensures c.start-start.ensures.value c.states-states.ensures.value c.arc_count-arcs.ensures c.append_header.ensures.items c.append_list.ensures.items c.append_list-2.ensures.items

pub returns-clause-fits : goal.returns-clause-fits
returns-clause-fits g c =
    HasSpelling-valued g.W.Weight.value g.W.Weight.KIND c.args.joined c.states-states.ensures.machine
    (subst (λ (ss : List (State g.row.W.Denot)). All (HasFields g.W.Weight.value g.W.Weight.KIND) ss) (sym c.into_parts-first.ensures) c.parts_length.ensures.fits)
