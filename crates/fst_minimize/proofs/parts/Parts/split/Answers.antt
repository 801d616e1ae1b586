use Rattle.std.proofs.Common.{◌≡◌, ◌++◌, ◌∷◌, [], List, ap, length, ◌∙◌, arith}
use Rattle.std.specs.Vec.{with_items}
use Rattle.std.proofs.lemmas.List.{get_or_read, with_items_is}
use Rattle.fst_minimize.specs.Numbered.{number_in}
use Rattle.fst_minimize.specs.Spans.{span_of}
use Rattle.fst_minimize.specs.declared.parts.Span.{Span}
use Rattle.fst_minimize.proofs.PartSplits.{read_span, renumbers_read, split_apart, split_finer, split_gone, split_kept, split_parts}
use Rattle.fst_minimize.proofs.parts.Parts.split.Goals as goal

pub invariant_of-self-2 : goal.invariant_of-self-2
invariant_of-self-2 c =
    let r = c.args.self.now in
    let b = c.index.result.now in
    let span = c.index-span.result.now in
    let small = c.halve-parts.result.smaller in
    let large = c.halve-parts.result.larger in
    let more = c.push_reserved.new.self.items in
    let numbers = c.renumber.new.numbers in
    let blocks2 = (with_items r.blocks numbers).items in
    let numbered : b ≡ number_in r.blocks.items c.args.state = get_or_read r.blocks.items c.args.state b c.requires c.index.ensures 0 in
    let is : span ≡ span_of r.spans.items b = read_span r.members.items r.places.items r.blocks.items r.spans.items c.args.state b span r.whole c.requires numbered c.index-span.ensures in
    let pushed : more ≡ r.spans.items ++ small ∷ [] = c.push_reserved.ensures.items ∙ ap (λ (ss : List Span). ss ++ small ∷ []) c.in_ok-reserve.ensures.items in
    let same : blocks2 ≡ numbers = with_items_is r.blocks numbers (omega (arith, c.deref_mut.ensures.len)) in
    let moved = renumbers_read c.deref.result.now r.members.items small.first small.end c.len-number.result (length r.spans.items) c.deref_mut.result.now r.blocks.items numbers blocks2 c.deref.ensures.value (omega (arith, c.len-number.ensures)) c.deref_mut.ensures.value same c.renumber.ensures in
    record { whole = split_parts r.members.items r.places.items r.blocks.items blocks2 r.spans.items more c.args.state b span small large r.whole c.requires numbered is c.halve-parts.ensures.parts pushed moved }

pub returns : goal.returns
returns c =
    let r = c.args.self.now in
    let b = c.index.result.now in
    let span = c.index-span.result.now in
    let small = c.halve-parts.result.smaller in
    let large = c.halve-parts.result.larger in
    let more = c.push_reserved.new.self.items in
    let numbers = c.renumber.new.numbers in
    let blocks2 = (with_items r.blocks numbers).items in
    let numbered : b ≡ number_in r.blocks.items c.args.state = get_or_read r.blocks.items c.args.state b c.requires c.index.ensures 0 in
    let is : span ≡ span_of r.spans.items b = read_span r.members.items r.places.items r.blocks.items r.spans.items c.args.state b span r.whole c.requires numbered c.index-span.ensures in
    let pushed : more ≡ r.spans.items ++ small ∷ [] = c.push_reserved.ensures.items ∙ ap (λ (ss : List Span). ss ++ small ∷ []) c.in_ok-reserve.ensures.items in
    let same : blocks2 ≡ numbers = with_items_is r.blocks numbers (omega (arith, c.deref_mut.ensures.len)) in
    let moved = renumbers_read c.deref.result.now r.members.items small.first small.end c.len-number.result (length r.spans.items) c.deref_mut.result.now r.blocks.items numbers blocks2 c.deref.ensures.value (omega (arith, c.len-number.ensures)) c.deref_mut.ensures.value same c.renumber.ensures in
    record {
      size = moved.size;
      finer = split_finer r.members.items r.places.items r.blocks.items blocks2 r.spans.items more c.args.state b span small large r.whole c.requires numbered is c.halve-parts.ensures.parts pushed moved;
      apart = split_apart r.members.items r.places.items r.blocks.items blocks2 r.spans.items more c.args.state b span small large r.whole c.requires numbered is c.halve-parts.ensures.parts pushed moved;
      gone = split_gone r.members.items r.places.items r.blocks.items blocks2 r.spans.items more c.args.state b span small large r.whole c.requires numbered is c.halve-parts.ensures.parts pushed moved;
      kept = split_kept r.members.items r.places.items r.blocks.items blocks2 r.spans.items more c.args.state b span small large r.whole c.requires numbered is c.halve-parts.ensures.parts pushed moved;
    }
