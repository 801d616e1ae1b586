-- There is one list of first paths.
use Rattle.std.proofs.Common.{◌≡◌, ℕ, List, map, sym, ap, ◌∙◌}
use Rattle.fst_semiring.specs.declared.arc_type.ArcType.{ArcType}
use Rattle.fst_machine.specs.Graph.{Graph}
use Rattle.fst_machine.specs.Paths.{places}
use Rattle.fst_machine.specs.PathOrder.{WeightedPath}
use Rattle.fst_machine.proofs.PathOrder.{one_IsFirst}
use Rattle.fst_nbest.specs.FirstPaths.{AreFirstPaths}

pub one_list : {N : Type 0} (kind : ArcType) (g : Graph N) (n : ℕ) (one two : List (List (N × ℕ))) → AreFirstPaths kind g n one → AreFirstPaths kind g n two → one ≡ two
one_list kind g n one two a b = sym a.written ∙ (ap (map (λ (p : WeightedPath _). places p.path)) (one_IsFirst kind g n a.listed b.listed a.first b.first) ∙ b.written)
