use Rattle.std.proofs.Common.{◌≡◌, ◌<◌, ◌+◌, ◌++◌, ℕ, All, map, take}
use Rattle.fst_machine.specs.Machine.{valued_arc}
use Rattle.fst_plain.specs.Plain.{cost_of, Fits}
use Rattle.fst_plain.specs.PlainPaths.{AllGood, one_more, outgoing, part_of}
use Rattle.fst_plain.proofs.listing.extend.Given as goal

abbrev pub invariant-loop-place : goal.invariant-loop-place
invariant-loop-place g l = record {
  value : map part_of l.parts.items ≡ map part_of l.fn.parts.items ++ map (one_more g.W.Weight.KIND (part_of l.part)) (outgoing l.part.end 0 (map (valued_arc g.W.Weight.value) (take l.place l.arcs)));
  good : (states n : ℕ) → Fits n (cost_of l.part.product) → All (λ a. a.next < states) l.arcs → AllGood states (n + 1) l.fn.parts.items → AllGood states (n + 1) l.parts.items;
}
