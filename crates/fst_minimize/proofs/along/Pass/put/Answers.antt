use Rattle.std.proofs.Common.{◌≡◌, ◌++◌, ◌∷◌, [], All, Bool, ℕ, List, true, false, true≢false, get_or, length, map, set, sym, ap, ◌∙◌, subst, arith}
use Rattle.std.proofs.lemmas.List.{get_or_read, length-map}
use Rattle.std.proofs.lemmas.Option.{get_or_from_slice_get}
use Rattle.fst_machine.specs.BreadthFirst.{Has}
use Rattle.fst_machine.proofs.Elements.{Has_at}
use Rattle.fst_machine.proofs.Narrowing.{all_at}
use Rattle.fst_minimize.specs.Along.{AreAlong, seen_of}
use Rattle.fst_minimize.specs.Numbered.{number_in}
use Rattle.fst_minimize.specs.Numberers.{HasSeen}
use Rattle.fst_minimize.proofs.OnePass.{along_push, seen_push}
use Rattle.fst_minimize.proofs.along.Pass.put.Goals as goal

pub returns-clause-along : goal.returns-clause-along
returns-clause-along c = λ ok order a.
    let first = c.args.first.now in
    let rows = c.args.rows.now in
    let numbers = c.args.self.now.numbers.items in
    let marks = c.args.self.now.marks.items in
    let along = c.args.self.now.numberer.numbers.items in
    let p = c.args.state in
    let x = c.in_ok-self.field-0 in
    let row = c.row-ends.result.now in
    let row_is : get_or rows p [] ≡ row = get_or_from_slice_get rows p row [] c.row-ends.ensures in
    let read = get_or_read marks p c.index.result.now (omega arith) c.index.ensures false in
    let free : get_or marks p false ≡ true → ⊥ = λ e. true≢false (sym e ∙ (sym read ∙ c.if-index.false)) in
    let all = subst (λ (ms : List Bool). All (λ q. get_or ms q false ≡ true) row) c.deref.ensures.value (c.all_marked.ensures c.if-not-all_marked.false) in
    let ends : (r : ℕ) → Has (get_or rows p []) r → get_or marks r false ≡ true = λ r has. let at = Has_at row r (subst (λ (s : List ℕ). Has s r) row_is has) in all_at (λ q. get_or marks q false ≡ true) row at.0 r at.1 all in
    let long : length along ≡ length order = a.1.size ∙ length-map order (seen_of first rows numbers) in
    let ends_row : c.deref-3.result.now ≡ map (number_in numbers) (get_or rows p []) = c.deref-3.ensures.value ∙ (c.in_ok-put_numbers.ensures ∙ (ap (λ (ns : List ℕ). map (number_in ns) row) c.deref-2.ensures.value ∙ ap (map (number_in numbers)) (sym row_is))) in
    let seen = map (seen_of first rows numbers) order in (
      subst (λ (l : List ℕ). AreAlong rows (order ++ p ∷ []) (set numbers p x) (set marks p true) l) (sym c.in_ok-self.ensures.put) (along_push first rows order numbers marks along p x c.requires.state a.0 long free ends),
      subst (λ (s : List (ℕ × List ℕ)). HasSeen s c.add.new.self) (ap (λ (r : List ℕ). seen ++ (number_in first p, r) ∷ []) ends_row ∙ sym (seen_push first rows order numbers marks along p x c.requires.state a.0 long free ends)) (c.in_ok-self.ensures.seen seen a.1),
    )
