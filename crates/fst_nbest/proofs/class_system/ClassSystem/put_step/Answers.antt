use Rattle.std.proofs.Common.{◌≡◌, ◌<◌, ℕ, List, length, refl, sym, ap, ◌∙◌, arith}
use Rattle.fst_machine.specs.Machine.{valued}
use Rattle.fst_machine.specs.Graph.{graph_of}
use Rattle.fst_nbest.specs.Classes.{Counted, class_words, is_counted}
use Rattle.fst_nbest.specs.Counts.{count_of}
use Rattle.fst_nbest.proofs.ClassWords.{class_turn}
use Rattle.fst_nbest.proofs.Counted.{count_read}
use Rattle.fst_nbest.proofs.class_system.ClassSystem.put_step.Goals as goal

pub returns : goal.returns
returns g c =
    let s = c.args.self.now in
    let held = c.self.inside.counts.now.items in
    let counts = ap (λ (p : Counted g.row.V.Denot). p.counts) c.self.view_is in
    let states = ap (λ (p : Counted g.row.V.Denot). length p.machine.states) c.self.view_is in
    let low : c.in-Some.next < length held = omega (arith, c.in-Some.ensures.low, states, c.self.invariant.size) in
    let read : count_of s.counts c.in-Some.next ≡ c.index.result.now = ap (λ (l : List ℕ). count_of l c.in-Some.next) (sym counts) ∙ count_read held c.in-Some.next c.index.result.now low c.index.ensures in
    class_turn (class_words (graph_of (valued g.M.AsMachine.value s.machine)) (length s.machine.states) s.total (is_counted s.counts)) (count_of s.counts) c.args.name c.args.place c.in-Some.next c.args.turns.now.items c.push.new.self.items _
    c.in-Some.ensures.step c.one.ensures (omega (arith, read)) refl c.in_ok-push.ensures.items
