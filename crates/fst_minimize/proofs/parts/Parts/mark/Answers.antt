use Rattle.std.proofs.Common.{refl}
use Rattle.fst_minimize.proofs.PartMarks.{has_read, marked_parts, mark_own, mark_kept, mark_there}
use Rattle.fst_minimize.proofs.parts.Parts.mark.Goals as goal

pub invariant_of-self : goal.invariant_of-self
invariant_of-self c =
    let r = c.args.self.now in
    let b = c.index.result.now in
    let span = c.index-span.result.now in
    let place = c.index-place.result.now in
    let other = c.index-other.result.now in
    let read = has_read r.members.items r.places.items r.blocks.items r.spans.items c.args.state b place other span r.whole c.requires c.if-place-span.false c.index.ensures c.index-span.ensures c.index-place.ensures c.index-other.ensures in
    record { whole = marked_parts r.members.items r.places.items r.blocks.items r.spans.items c.args.state b place other span r.whole c.requires read c.if-place-span.false }

pub returns : goal.returns
returns c =
    let r = c.args.self.now in
    let b = c.index.result.now in
    let span = c.index-span.result.now in
    let place = c.index-place.result.now in
    let other = c.index-other.result.now in
    let read = has_read r.members.items r.places.items r.blocks.items r.spans.items c.args.state b place other span r.whole c.requires c.if-place-span.false c.index.ensures c.index-span.ensures c.index-place.ensures c.index-other.ensures in
    record {
      blocks = refl;
      there = mark_there r.members.items r.places.items r.blocks.items r.spans.items c.args.state b place other span r.whole c.requires read c.if-place-span.false;
      kept = mark_kept r.members.items r.places.items r.blocks.items r.spans.items c.args.state b place other span r.whole c.requires read c.if-place-span.false;
      own = mark_own r.members.items r.places.items r.blocks.items r.spans.items c.args.state b place other span r.whole c.requires read c.if-place-span.false;
    }
