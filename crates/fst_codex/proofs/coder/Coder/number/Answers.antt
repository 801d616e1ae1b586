use Rattle.std.proofs.Common.{◌∷◌, [], map, refl, sym, subst}
use Rattle.fst_machine.specs.BreadthFirst.{Grows}
use Rattle.fst_codex.specs.EntryKeys.{valued_apart}
use Rattle.fst_codex.specs.Table.{IsEntry, Table, valued_entry}
use Rattle.fst_codex.proofs.Keys.{at_mapped, grows_all, grows_mapped}
use Rattle.fst_codex.proofs.coder.Coder.number.Goals as goal

pub invariant_of-self-2 : goal.invariant_of-self-2
invariant_of-self-2 g c =
    let own : IsEntry g.W.Weight.KIND g.W.Weight.value c.self.inside.weights c.args.entry = subst (λ (t : Table g.row.W.Denot). IsEntry g.W.Weight.KIND g.W.Weight.value t.weights c.args.entry) (sym c.self.view_is) c.requires.good in
    grows_all (IsEntry g.W.Weight.KIND g.W.Weight.value c.self.inside.weights) c.self.inside.entries c.put_entry.new.entries c.args.entry c.in_ok-place.ensures.grown c.self.invariant own

pub returns-clause-grown : goal.returns-clause-grown
returns-clause-grown g c =
    let valued = valued_entry g.W.Weight.value in
    let grown = grows_mapped valued (valued_apart g.W.Weight.value g.met.W.Weight.value_apart) c.self.inside.entries c.put_entry.new.entries c.args.entry c.in_ok-place.ensures.grown in
    subst (λ (t : Table g.row.W.Denot). Grows (map valued t.entries) (valued c.args.entry ∷ []) (map valued c.put_entry.new.entries)) c.self.view_is grown

pub returns-clause-there : goal.returns-clause-there
returns-clause-there g c =
    (c.in_ok-place.place, refl, at_mapped (valued_entry g.W.Weight.value) c.put_entry.new.entries c.in_ok-place.place c.args.entry c.in_ok-place.ensures.there)
