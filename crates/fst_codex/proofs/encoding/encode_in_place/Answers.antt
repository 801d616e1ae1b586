use Rattle.std.proofs.Common.{map, sym, subst, subst₂, Result}
use Rattle.fst_semiring.specs.Cost.{Cost}
use Rattle.fst_machine.specs.Machine.{Machine, valued, valued_state}
use Rattle.fst_codex.specs.declared.decoding.DecodeFault.{DecodeFault}
use Rattle.fst_codex.specs.Decoded.{Decodes, GivesBack}
use Rattle.fst_codex.specs.Encoded.{IsEncoded}
use Rattle.fst_codex.specs.Coding.{PutsStates}
use Rattle.fst_codex.specs.Table.{Table, valued_table}
use Rattle.fst_codex.proofs.Undone.{gives_back}
use Rattle.fst_codex.proofs.encoding.encode_in_place.Goals as goal

pub returns-clause-again : goal.returns-clause-again
returns-clause-again g c =
    let value = g.W.Weight.value in
    let kind = g.W.Weight.KIND in
    let m = valued value c.args.machine in
    let codex = c.put_in_place.new.coder in
    let made : Machine g.row.W.Denot = c.put_in_place.new.machine in
    let put = subst (λ (t : Table g.row.W.Denot). PutsStates kind t.weights m.states (valued_table value t) (valued_table value codex) (map (valued_state value) made.states)) c.in_ok-coder.ensures c.in_ok-put_in_place.ensures.put in
    let encoded : IsEncoded kind c.args.weights m (valued value made) (valued_table value codex) = record { flag = put.flag; entries = put.grown; start = c.in_ok-put_in_place.ensures.start; states = put.put } in
    subst₂ (λ (d : Machine g.row.W.Denot) (t : Table g.row.W.Denot). (back : Result (Machine Cost) DecodeFault) → Decodes kind value d (valued_table value t) back → GivesBack m back) (sym c.into_machine.ensures) (sym c.into_codex.ensures) (gives_back kind c.args.weights value m made (valued_table value codex) encoded put.range)
