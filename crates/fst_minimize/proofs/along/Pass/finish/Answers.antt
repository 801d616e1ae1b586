use Rattle.std.proofs.Common.{◌≡◌, ◌<◌, ◌++◌, ◌∷◌, [], ℕ, List, true, false, get_or, length, map, take, below_more, sym, ap₂, ◌∙◌, subst, arith}
use Rattle.std.proofs.lemmas.Grind.{get_or_default_zero}
use Rattle.std.proofs.lemmas.List.{get_or_read, map_more, take_all}
use Rattle.fst_minimize.specs.Along.{seen_of}
use Rattle.fst_minimize.specs.Numbered.{TellsApart, number_in}
use Rattle.fst_minimize.specs.Numberers.{HasSeen}
use Rattle.fst_minimize.proofs.OnePass.{again_renumbers, alone, along_whole}
use Rattle.fst_minimize.proofs.along.Pass.finish.Goals as goal

pub loop-state-preserved : goal.loop-state-preserved
loop-state-preserved c =
    let numbers = c.args.self.numbers.items in
    let marks = c.args.self.marks.items in
    let i = c.loop-state.state in
    let low : i < length numbers = omega arith in
    let read = get_or_read marks i c.index.result.now (omega arith) c.index.ensures false in
    let head : c.index-in-loop-state.result.now ≡ number_in numbers i = c.index-in-loop-state.ensures ∙ get_or_default_zero numbers i c.index-in-loop-state.result.now low in
    let none : c.deref.result.now ≡ [] = c.deref.ensures.value ∙ c.new-none.ensures.items in
    let seen = map alone (take i numbers) in
    record {
      seen = subst (λ (s : List (ℕ × List ℕ)). HasSeen s c.add.new.self) (ap₂ (λ (h : ℕ) (r : List ℕ). seen ++ (h, r) ∷ []) head none ∙ sym (map_more alone numbers i 0 low)) (c.in_ok-add.ensures.seen seen c.loop-state.invariant.seen);
      marked = below_more (λ q. get_or marks q false ≡ true) i c.loop-state.invariant.marked (sym read ∙ c.if-not-index.false);
    }

pub returns-clause-whole : goal.returns-clause-whole
returns-clause-whole c = λ first rows order a.
    let self = c.args.self in
    let tells = c.finish-along.ensures.tells (map (seen_of first rows self.numbers.items) order) a.1 in
    along_whole first rows order self.numbers.items self.marks.items self.numberer.numbers.items a.0 (subst (TellsApart (map (seen_of first rows self.numbers.items) order)) c.finish-along.ensures.same tells) (λ q low. c.loop-state.invariant.marked q (let s = a.0.size in omega arith))

pub returns-clause-renumbers : goal.returns-clause-renumbers
returns-clause-renumbers c =
    let numbers = c.args.self.numbers.items in
    again_renumbers numbers c.finish.result.numbers.items (c.finish.ensures.tells (map alone numbers) (subst (λ (s : List ℕ). HasSeen (map alone s) c.loop-state.again) (take_all c.loop-state.state numbers (omega arith)) c.loop-state.invariant.seen))
