use Rattle.std.proofs.Common.{◌≡◌, ◌+◌, ℕ, [], ◌∷◌, length, refl, sym, ap, ◌∙◌}
use Rattle.fst_machine.specs.Graph.{graph_of}
use Rattle.fst_machine.specs.Machine.{valued}
use Rattle.fst_setops.specs.Kept as kept
use Rattle.fst_setops.specs.Kept.{word_total}
use Rattle.fst_setops.specs.Separating.{Pair}
use Rattle.fst_setops.proofs.SoughtBegins.{first_pair, first_put, sought_begins}
use Rattle.fst_setops.proofs.seeking.begin.Goals as goal

pub returns : goal.returns
returns g c =
    let kind = g.W.Weight.KIND in
    let value = g.W.Weight.wide_value in
    let key : Pair ℕ ℕ = record { first = c.start.result; second = c.start-2.result } in
    let node : kept.Node g.row.W-Wide.Denot = record { pair = 0; parent = 0; label = 0; first = c.first_product.result; second = c.first_product-2.result } in
    let same : key ≡ record { first = c.args.a.now.start; second = c.args.b.now.start } = λ i. record { first = c.start.ensures.value i; second = c.start-2.ensures.value i } in
    let pairs = first_pair c.args.limit c.new.result c.put_below.new.self key c.in_ok-_place._place c.requires.some c.new.ensures c.in_ok-_place.ensures.keys c.in_ok-_place.ensures.full in
    let nodes = first_put kind value c.new-3.result.items c.put_word.new.nodes.items node c.new-3.ensures.items c.in_ok-put_word.ensures.word in
    sought_begins kind value (graph_of (valued g.W.Weight.value c.args.a.now)) (graph_of (valued g.W.Weight.value c.args.b.now)) c.args.limit c.put_below.new.self c.put_word.new.slots.items c.put_word.new.nodes.items node c.requires.some nodes refl
    (pairs ∙ ap (λ (k : Pair ℕ ℕ). k ∷ []) same) c.first_product.ensures c.first_product-2.ensures c.in_ok-put_word.ensures.slots
    (c.in_ok-put_word.ensures.pairs ∙ ap (λ n. n + 1) (ap length c.new-2.ensures.items))
    (c.in_ok-put_word.ensures.total (ap word_total c.new-2.ensures.items ∙ sym (ap length c.new-3.ensures.items)))
