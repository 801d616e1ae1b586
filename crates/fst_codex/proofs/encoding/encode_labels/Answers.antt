use Rattle.std.proofs.Common.{◌≤◌, [], length, map, sym, subst, subst₂, Result}
use Rattle.std.proofs.lemmas.List.{length-map}
use Rattle.fst_semiring.specs.Cost.{Cost}
use Rattle.fst_machine.specs.Machine.{Machine, valued, valued_state}
use Rattle.fst_codex.specs.declared.decoding.DecodeFault.{DecodeFault}
use Rattle.fst_codex.specs.Decoded.{Decodes, GivesBack}
use Rattle.fst_codex.specs.Encoded.{IsEncoded}
use Rattle.fst_machine.proofs.Valued.{IsMachine-valued, IsMachine-unvalued}
use Rattle.fst_codex.specs.Coding.{PutsStates}
use Rattle.fst_codex.specs.Table.{Table, most_entries, valued_entry, valued_table}
use Rattle.fst_codex.proofs.Putting.{IsMachine-encoded}
use Rattle.fst_codex.proofs.Undone.{gives_back}
use Rattle.fst_codex.proofs.encoding.encode_labels.Given as given
use Rattle.fst_codex.proofs.encoding.encode_labels.Goals as goal

-- what was put, from no entries on
put : (g : given.Over) (c : goal.After-start g) → PutsStates g.W.Weight.KIND c.args.weights (map (valued_state g.W.Weight.value) c.args.fst.now.states) (record { weights = c.args.weights; entries = [] }) (valued_table g.W.Weight.value c.put_states.new.coder) (map (valued_state g.W.Weight.value) c.put_states.new.states)
put g c = subst (λ (t : Table g.row.W.Denot). PutsStates g.W.Weight.KIND t.weights (map (valued_state g.W.Weight.value) c.args.fst.now.states) (valued_table g.W.Weight.value t) (valued_table g.W.Weight.value c.put_states.new.coder) (map (valued_state g.W.Weight.value) c.put_states.new.states)) c.in_ok-coder.ensures c.in_ok-put_states.ensures.put

pub into_machine-requires : goal.into_machine-requires
into_machine-requires g c =
    let value = g.W.Weight.value in
    let entries = map (valued_entry value) c.put_states.new.coder.entries in
    let few : length entries ≤ most_entries = rw (length-map c.put_states.new.coder.entries (valued_entry value)) c.in_ok-put_states.ensures.few in
    IsMachine-unvalued value (record { start = c.start.result; states = c.put_states.new.states })
    (IsMachine-encoded g.W.Weight.KIND c.args.weights entries few (valued value c.args.fst.now) (record { start = c.start.result; states = map (valued_state value) c.put_states.new.states }) (IsMachine-valued value c.args.fst.now c.states.ensures.machine) c.start.ensures.value (put g c).put)

pub returns-clause-again : goal.returns-clause-again
returns-clause-again g c =
    let value = g.W.Weight.value in
    let kind = g.W.Weight.KIND in
    let m = valued value c.args.fst.now in
    let codex = c.put_states.new.coder in
    let made : Machine g.row.W.Denot = record { start = c.start.result; states = c.put_states.new.states } in
    let put = subst (λ (t : Table g.row.W.Denot). PutsStates kind t.weights m.states (valued_table value t) (valued_table value codex) (map (valued_state value) c.put_states.new.states)) c.in_ok-coder.ensures c.in_ok-put_states.ensures.put in
    let encoded : IsEncoded kind c.args.weights m (valued value made) (valued_table value codex) = record { flag = put.flag; entries = put.grown; start = c.start.ensures.value; states = put.put } in
    subst₂ (λ (d : Machine g.row.W.Denot) (t : Table g.row.W.Denot). (back : Result (Machine Cost) DecodeFault) → Decodes kind value d (valued_table value t) back → GivesBack m back) (sym c.into_machine.ensures) (sym c.into_codex.ensures) (gives_back kind c.args.weights value m made (valued_table value codex) encoded put.range)
