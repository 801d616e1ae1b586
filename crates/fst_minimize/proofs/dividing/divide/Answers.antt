use Rattle.std.proofs.Common.{◌≡◌, length, ◌∙◌, arith}
use Rattle.fst_minimize.proofs.ByBlocks.{first_keeps, next_keeps}
use Rattle.fst_minimize.proofs.dividing.divide.Goals as goal

pub loop-init : goal.loop-init
loop-init c =
    let first = c.in_ok-divide_by.ensures in
    let parts = c.in_ok-parts.ensures in
    let n = length c.args.rows.now in
    let size : length c.divide_by.new.parts.blocks.items ≡ n = first.size ∙ (parts.size ∙ c.len.ensures) in
    record {
      size = size;
      none = first.none;
      alike = λ g are keeps. first_keeps g n (length c.in_ok-parts.parts.blocks.items) (length c.args.numbers.now) c.args.numbers.now c.in_ok-parts.parts.blocks.items c.divide_by.new.parts.blocks.items c.put_numbered.new.out.items (parts.size ∙ c.len.ensures) c.requires.size
          (c.in_ok-put_numbered.ensures.alike g) (first.alike g) parts.one keeps;
    }

pub divide_by-requires-in-loop-clause-below : goal.divide_by-requires-in-loop-clause-below
divide_by-requires-in-loop-clause-below c = λ i item there.
    let below = c.in_ok-put_arcs_into.ensures.below c.args.rows.now c.in_ok-backs.ensures i item there in
    let size = c.loop.invariant.size in
    omega arith

pub loop-preserved : goal.loop-preserved
loop-preserved c =
    let inv = c.loop.invariant in
    let next = c.in_ok-divide_by-2.ensures in
    let rows = c.args.rows.now in
    record {
      size = next.size ∙ inv.size;
      none = next.none;
      alike = λ g are keeps.
          let before = inv.alike g are keeps in
          let takes = c.in_ok-put_arcs_into.ensures.alike g rows c.in_ok-backs.ensures are c.requires.below before in
          next_keeps g (length rows) (length c.loop.parts.blocks.items) c.loop.parts.blocks.items c.divide_by-in-loop.new.parts.blocks.items c.put_arcs_into.new.items.items inv.size (next.alike g) takes before;
    }
