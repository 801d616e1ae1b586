use Rattle.std.proofs.Common.{◌+◌, length}
use Rattle.fst_semiring.specs.Cost.{Cost}
use Rattle.fst_semiring.specs.declared.arc_type.ArcType.TheVariants.{Boolean}
use Rattle.fst_machine.specs.Machine.{valued}
use Rattle.fst_machine.specs.Graph.{graph_of}
use Rattle.fst_nbest.specs.Classes.{class_words, is_counted, unit}
use Rattle.fst_nbest.specs.Counts.{count_of}
use Rattle.fst_nbest.specs.Turns.{AreTurnsBelow}
use Rattle.fst_nbest.proofs.class_system.ClassSystem.put_steps.Given as goal

abbrev pub invariant-loop-place : goal.invariant-loop-place
invariant-loop-place g l =
    AreTurnsBelow Boolean (class_words (graph_of (valued g.M.AsMachine.value l.self.machine)) (length l.self.machine.states) l.self.total (is_counted l.self.counts)) (λ x. unit) (count_of l.self.counts) (λ (t : Cost). t) l.name (l.place + 1) l.turns.items
