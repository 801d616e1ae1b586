use Rattle.fst_machine.specs.BreadthFirst.{Grows}
use Rattle.std.proofs.Common.{◌∷◌, []}
use Rattle.fst_codex.specs.EntryKeys.{entry_decides, key_in, same_key}
use Rattle.fst_codex.proofs.Keys.{grows_by, grows_few}
use Rattle.fst_codex.proofs.coder.put_entry.Goals as goal

pub returns-clause-grown : goal.returns-clause-grown
returns-clause-grown g c =
    let value = g.W.Weight.value in
    grows_by (λ a b. same_key (key_in value a) (key_in value b)) (entry_decides value g.met.W.Weight.value_apart) c.args.entries.now _ c.args.entry c.in_ok-place.ensures.keys

pub returns-clause-few : goal.returns-clause-few
returns-clause-few g c =
    let value = g.W.Weight.value in
    let grown : Grows c.args.entries.now (c.args.entry ∷ []) c.put.new.self = grows_by (λ a b. same_key (key_in value a) (key_in value b)) (entry_decides value g.met.W.Weight.value_apart) c.args.entries.now c.put.new.self c.args.entry c.in_ok-place.ensures.keys in
    grows_few c.args.entries.now c.put.new.self c.args.entry grown
