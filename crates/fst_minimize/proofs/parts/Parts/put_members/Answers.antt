use Rattle.std.proofs.Common.{◌≡◌, ◌-◌, ◌++◌, ℕ, List, ap, drop, take, ◌∙◌, arith}
use Rattle.fst_minimize.proofs.PartMembers.{put_has}
use Rattle.fst_minimize.proofs.parts.Parts.put_members.Goals as goal

pub returns : goal.returns
returns c =
    let r = c.args.self.now in
    let span = c.index-span.result.now in
    let out = c.extend_from_slice.new.self.items in
    let part : out ≡ take (span.end - span.first) (drop span.first r.members.items) =
    c.in_ok-extend_from_slice.ensures.items ∙ ap (λ (xs : List ℕ). xs ++ take (span.end - span.first) (drop span.first c.deref.result.now)) c.clear.ensures.items
    ∙ ap (λ (xs : List ℕ). take (span.end - span.first) (drop span.first xs)) c.deref.ensures.value in
    put_has r.members.items r.places.items r.blocks.items r.spans.items c.args.block span r.whole (omega (arith, c.len.ensures)) c.index-span.ensures out part
