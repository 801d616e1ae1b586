use Rattle.std.proofs.Common.{sym, ◌∙◌}
use Rattle.std.specs.List.{list_all}
use Rattle.fst_semiring.specs.Keys.{key_of}
use Rattle.fst_bytes.specs.Reading.{cost_of_numbers, integers_at, is_small, number_count}
use Rattle.fst_bytes.proofs.Weights.{kept_back, let_through, weight_found, weight_is, weight_not_missing, weight_refused}
use Rattle.fst_bytes.proofs.weight_field.weight_of_numbers.Goals as goal

pub returns-in-Some-clause-found : goal.returns-in-Some-clause-found
returns-in-Some-clause-found g c =
    let numbers = integers_at (number_count c.KIND.result) c.args.bytes.now c.args.at in
    let t = let_through (list_all is_small numbers) (key_of (cost_of_numbers numbers)) c.in-Some.key (sym c.read_key.ensures ∙ c.in-Some.is) in
    weight_found g.W.Weight.value g.W.Weight.KIND c.KIND.result c.args.bytes.now c.args.at c.in-Some.key c.from_key.result c.KIND.ensures c.requires t.0 t.1 c.from_key.ensures.found

pub returns-in-Some-clause-value : goal.returns-in-Some-clause-value
returns-in-Some-clause-value g c =
    let numbers = integers_at (number_count c.KIND.result) c.args.bytes.now c.args.at in
    let t = let_through (list_all is_small numbers) (key_of (cost_of_numbers numbers)) c.in-Some.key (sym c.read_key.ensures ∙ c.in-Some.is) in
    weight_is g.W.Weight.value g.W.Weight.KIND c.KIND.result c.args.bytes.now c.args.at c.in-Some.key c.from_key.result c.KIND.ensures t.1 c.from_key.ensures.found

pub returns-in-Some-clause-none : goal.returns-in-Some-clause-none
returns-in-Some-clause-none g c =
    let numbers = integers_at (number_count c.KIND.result) c.args.bytes.now c.args.at in
    let t = let_through (list_all is_small numbers) (key_of (cost_of_numbers numbers)) c.in-Some.key (sym c.read_key.ensures ∙ c.in-Some.is) in
    weight_not_missing g.W.Weight.value g.W.Weight.KIND c.KIND.result c.args.bytes.now c.args.at c.in-Some.key c.from_key.result c.KIND.ensures t.0 t.1 c.from_key.ensures.none

pub returns-in-None-clause-none : goal.returns-in-None-clause-none
returns-in-None-clause-none g c =
    let numbers = integers_at (number_count c.KIND.result) c.args.bytes.now c.args.at in
    let large = kept_back (list_all is_small numbers) (key_of (cost_of_numbers numbers)) (sym c.read_key.ensures ∙ c.in-None.is) in
    weight_refused g.W.Weight.KIND c.KIND.result c.args.bytes.now c.args.at c.KIND.ensures c.requires large
