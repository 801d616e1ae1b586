use Rattle.std.proofs.Common.{◌≡◌, ℕ, inl, inr, drop, sym, ap, ◌∙◌, arith}
use Rattle.std.specs.Ordering.{nat_cmp, is_lt}
use Rattle.std.specs.Cmp.Lexicographic.{slice_cmp}
use Rattle.fst_nbest.specs.Entries.{route_of}
use Rattle.fst_nbest.proofs.Routes.{least_is, routes_differ, routes_end, routes_from, routes_on}
use Rattle.fst_nbest.proofs.comparing.is_route_before.Goals as goal
use Rattle.fst_nbest.proofs.comparing.is_route_before.Goals.{then-a-b, else-a-b}

pub loop-k-init : goal.loop-k-init
loop-k-init g c =
    elim c.if-a-b.branch [
      | then-a-b w ↦ record {
        within = omega arith;
        rest = routes_from c.args.listed.now c.args.orders.now c.args.a.now c.args.b.now c.if-a-b.k c.requires.a_can c.requires.b_can (inl w.if-a-b.true) (omega arith) (omega arith);
      }
      | else-a-b w ↦ record {
        within = omega arith;
        rest = routes_from c.args.listed.now c.args.orders.now c.args.a.now c.args.b.now c.if-a-b.k c.requires.a_can c.requires.b_can (inr w.k-is) (omega arith) (omega arith);
      }
    ]

pub loop-k-preserved : goal.loop-k-preserved
loop-k-preserved g c = record {
  within = omega arith;
  rest = c.loop-k.invariant.rest ∙ routes_on c.args.listed.now c.args.orders.now c.args.a.now c.args.b.now c.loop-k.k c.turn_at-first.result c.turn_at-second.result c.requires.a_can c.requires.b_can (omega arith) (omega arith) c.turn_at-first.ensures c.turn_at-second.ensures c.if-first-second.false;
}

pub returns-then-first-second : goal.returns-then-first-second
returns-then-first-second g c =
    routes_differ c.args.listed.now c.args.orders.now c.args.a.now c.args.b.now c.loop-k.k c.turn_at-first.result c.turn_at-second.result c.requires.a_can c.requires.b_can (omega arith) (omega arith) c.turn_at-first.ensures c.turn_at-second.ensures c.if-first-second.true
    ∙ ap is_lt (sym c.loop-k.invariant.rest)

pub returns-then-first-second-2 : goal.returns-then-first-second-2
returns-then-first-second-2 g c =
    let at : c.loop-k.k ≡ c.min-least.result = omega arith in
    routes_differ c.args.listed.now c.args.orders.now c.args.a.now c.args.b.now c.min-least.result c.turn_at-first-2.result c.turn_at-second-2.result c.requires.a_can c.requires.b_can (omega arith) (omega arith) c.turn_at-first-2.ensures c.turn_at-second-2.ensures c.if-first-second-2.true
    ∙ ap is_lt (ap (λ (n : ℕ). slice_cmp nat_cmp (drop n (route_of c.args.listed.now c.args.orders.now c.args.a.now)) (drop n (route_of c.args.listed.now c.args.orders.now c.args.b.now))) (sym at) ∙ sym c.loop-k.invariant.rest)

pub returns : goal.returns
returns g c =
    let at : c.loop-k.k ≡ c.min-least.result = omega arith in
    routes_end c.args.listed.now c.args.orders.now c.args.a.now c.args.b.now c.min-least.result c.requires.a_can c.requires.b_can (least_is c.min-least.result c.args.a.now.depth c.args.b.now.depth c.min-least.ensures) (omega arith) (omega arith)
    ∙ ap is_lt (sym (c.loop-k.invariant.rest ∙ (ap (λ (n : ℕ). slice_cmp nat_cmp (drop n (route_of c.args.listed.now c.args.orders.now c.args.a.now)) (drop n (route_of c.args.listed.now c.args.orders.now c.args.b.now))) at
    ∙ routes_on c.args.listed.now c.args.orders.now c.args.a.now c.args.b.now c.min-least.result c.turn_at-first-2.result c.turn_at-second-2.result c.requires.a_can c.requires.b_can (omega arith) (omega arith) c.turn_at-first-2.ensures c.turn_at-second-2.ensures c.if-first-second-2.false)))
