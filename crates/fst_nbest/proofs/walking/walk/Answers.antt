use Rattle.std.proofs.Common.{ℕ, length, subst, ◌∙◌, refl, arith}
use Rattle.fst_nbest.specs.Entries.{list_at, IsLeft}
use Rattle.fst_nbest.proofs.Walks.{begun_long, walk_begins, walk_ends, walk_on}
use Rattle.fst_nbest.proofs.walking.walk.Goals as goal

pub loop-core-init : goal.loop-core-init
loop-core-init g c =
    let s = g.S.System in
    let system = c.args.system.now in
    record {
      on = walk_begins s.kind (s.words system) (s.dist system) (s.count system) s.value s.bounded c.name_count-names.ensures.cancel c.name_count-names.ensures.good c.args.listed.now c.args.orders.now (length c.args.listed.now) c.args.entry c.args.entry c.args.left.now.items
          c.in_ok-word.word c.requires.orders c.requires.entry c.in_ok-word.ensures (begun_long (list_at c.args.listed.now c.args.entry.path) c.args.entry.depth c.in_ok-word.word c.requires.depth c.in_ok-word.ensures) c.requires.clear refl;
      size = refl;
      few = c.requires.few;
    }

pub loop-core-preserved : goal.loop-core-preserved
loop-core-preserved g c =
    let s = g.S.System in
    let system = c.args.system.now in
    let core = c.loop-core.core in
    let left : IsLeft s.kind (s.words system) (s.dist system) (s.count system) s.value s.bounded c.loop-core.orders (length c.args.listed.now) core c.loop-core.left.items c.leave.new.left.items =
    subst (λ (n : ℕ). IsLeft s.kind (s.words system) (s.dist system) (s.count system) s.value s.bounded c.loop-core.orders n core c.loop-core.left.items c.leave.new.left.items) c.len-path.ensures c.in_ok-leave.ensures in
    let step = c.in_ok-core.ensures.step in
    record {
      on = walk_on s.kind (s.words system) (s.dist system) (s.count system) s.value s.bounded c.name_count-names.ensures.cancel c.name_count-names.ensures.good c.args.listed.now c.args.orders.now c.loop-core.orders c.step.new.orders (length c.args.listed.now) c.args.entry core c.in_ok-core.core
          c.loop-core.left.items c.leave.new.left.items c.loop-core.word c.step.new.word c.loop-core.invariant.on left step;
      size = c.step.ensures.size ∙ c.loop-core.invariant.size;
      few = omega (arith, step.arcs, c.loop-core.invariant.few);
    }

pub returns-clause-walked : goal.returns-clause-walked
returns-clause-walked g c =
    let s = g.S.System in
    let system = c.args.system.now in
    let core = c.loop-core.core in
    let left : IsLeft s.kind (s.words system) (s.dist system) (s.count system) s.value s.bounded c.loop-core.orders (length c.args.listed.now) core c.loop-core.left.items c.leave-2.new.left.items =
    subst (λ (n : ℕ). IsLeft s.kind (s.words system) (s.dist system) (s.count system) s.value s.bounded c.loop-core.orders n core c.loop-core.left.items c.leave-2.new.left.items) c.len-path.ensures c.in_ok-leave-2.ensures in
    walk_ends s.kind (s.words system) (s.dist system) (s.count system) s.value s.bounded c.name_count-names.ensures.cancel c.name_count-names.ensures.good c.args.listed.now c.args.orders.now c.loop-core.orders (length c.args.listed.now) c.args.entry core
    c.loop-core.left.items c.leave-2.new.left.items c.loop-core.word c.loop-core.invariant.on left c.loop-core-test.false
