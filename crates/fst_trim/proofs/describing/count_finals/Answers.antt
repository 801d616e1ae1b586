use Rattle.std.proofs.Common.{length, arith}
use Rattle.fst_machine.proofs.Elements.{Apart_below}
use Rattle.fst_machine.proofs.Walking.{found_within}
use Rattle.fst_trim.proofs.Looking.{final_within}
use Rattle.fst_trim.proofs.describing.count_finals.Goals as goal

pub overflow_cast-result : goal.overflow_cast-result
overflow_cast-result g c =
    let f = c.in_ok-find_finals.ensures in
    let few = Apart_below (length c.find_finals.new.seen.items) c.find_finals.new.names.items f.found.apart (λ k h. found_within c.find_finals.new.seen.items c.find_finals.new.names.items k f.marks h) in
    omega (arith, few, f.size, c.states.ensures.machine.few_states)

pub returns : goal.returns
returns g c =
    let f = c.in_ok-find_finals.ensures in
    record {
      names = c.find_finals.new.names.items;
      apart = f.found.apart;
      are = λ p. ((λ has. f.found.only p has), (λ final. f.found.all p (final_within g.W.Weight.value c.args.fst.now p final) final));
      many = omega (arith, c.len.ensures);
    }
