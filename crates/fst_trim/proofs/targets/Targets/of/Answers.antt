use Rattle.std.proofs.Common.{◌≡◌, ◌+◌, ◌-◌, ℕ, List, take, drop, ap, ◌∙◌, arith}
use Rattle.std.proofs.lemmas.List.{get_or_read}
use Rattle.fst_trim.proofs.Joined.{joined_part}
use Rattle.fst_trim.proofs.targets.Targets.of.Goals as goal

pub part-requires-clause-order : goal.part-requires-clause-order
part-requires-clause-order c =
    let r = c.requires in
    let firsts = c.args.self.now.firsts.items in
    let one = get_or_read firsts c.args.state c.index-first.result.now (omega (arith, r.1.size, r.2)) c.index-first.ensures 0 in
    let two = get_or_read firsts (c.args.state + 1) c.index-behind.result.now (omega (arith, r.1.size, r.2)) c.index-behind.ensures 0 in
    (joined_part r.0 firsts c.args.self.now.targets.items r.1 c.args.state c.index-first.result.now c.index-behind.result.now r.2 one two).0

pub part-requires-clause-within : goal.part-requires-clause-within
part-requires-clause-within c =
    let r = c.requires in
    let firsts = c.args.self.now.firsts.items in
    let one = get_or_read firsts c.args.state c.index-first.result.now (omega (arith, r.1.size, r.2)) c.index-first.ensures 0 in
    let two = get_or_read firsts (c.args.state + 1) c.index-behind.result.now (omega (arith, r.1.size, r.2)) c.index-behind.ensures 0 in
    let part = joined_part r.0 firsts c.args.self.now.targets.items r.1 c.args.state c.index-first.result.now c.index-behind.result.now r.2 one two in
    omega (arith, part.1, c.as_slice.ensures.len)

pub returns : goal.returns
returns c lists j low =
    let firsts = c.args.self.now.firsts.items in
    let one = get_or_read firsts c.args.state c.index-first.result.now (omega (arith, j.size, low)) c.index-first.ensures 0 in
    let two = get_or_read firsts (c.args.state + 1) c.index-behind.result.now (omega (arith, j.size, low)) c.index-behind.ensures 0 in
    let read : c.part.result.now ≡ take (c.index-behind.result.now - c.index-first.result.now) (drop c.index-first.result.now c.args.self.now.targets.items) = c.part.ensures ∙ ap (λ (xs : List ℕ). take (c.index-behind.result.now - c.index-first.result.now) (drop c.index-first.result.now xs)) c.as_slice.ensures.value in
    read ∙ (joined_part lists firsts c.args.self.now.targets.items j c.args.state c.index-first.result.now c.index-behind.result.now low one two).2
