use Rattle.std.proofs.Common.{◌≡◌, ℕ, length, sym, ap, subst, ◌∙◌, arith}
use Rattle.std.proofs.lemmas.List.{length-append, length-map}
use Rattle.fst_machine.specs.Graph.{graph_of}
use Rattle.fst_machine.specs.Machine.{valued}
use Rattle.fst_nbest.specs.Ready.{dist_in}
use Rattle.fst_select.specs.Entries.{tail_of, words_of}
use Rattle.fst_select.specs.Outlook.{IsDue}
use Rattle.fst_select.specs.Parting.{AreParts}
use Rattle.fst_select.proofs.StateCounts.{far}
use Rattle.fst_select.proofs.Walks.{IsTakenApart, labels_less, some_part, taken_apart, walk_begins, walk_ends, walk_long, walk_on}
use Rattle.fst_select.proofs.walking.walk.Goals as goal
use Rattle.fst_select.proofs.walking.walk.Given.{Over}
use Rattle.fst_select.proofs.walking.walk.Goals.{In_ok-put_parts, In_ok-put_label}

pub loop-core-init : goal.loop-core-init
loop-core-init g c =
    let w = g.W.Weight in
    record {
      on = walk_begins w.KIND (graph_of (valued w.value c.args.outlook.now.machine)) w.wide_value c.args.outlook.now.due (words_of c.args.listed.now) c.args.subsets.now.items c.args.entry c.args.left.now.items
          c.in_ok-word.word c.requires.entry c.requires.key c.in_ok-word.ensures c.requires.clear;
      clear = c.new-parts.ensures.items;
    }

-- the parts of the core's prefix
parts_are : (g : Over) (c : In_ok-put_parts g) → AreParts g.W.Weight.KIND (graph_of (valued g.W.Weight.value c.args.outlook.now.machine)) (dist_in g.W.Weight.wide_value c.args.outlook.now.dist)
    c.args.outlook.now.due g.W.Weight.wide_value c.loop-core.word (length (words_of c.args.listed.now)) (length c.loop-core.word) c.put_parts.new.subsets.items c.put_parts.new.parts.items
parts_are g c =
    let w = g.W.Weight in
    let o = c.args.outlook.now in
    let s = c.loop-core.invariant.on.subset c.loop-core-test.true in
    let h = c.in_ok-put_parts.ensures.parts c.loop-core.word s.0 (sym c.len.ensures) s.1 s.2 in
    let owner : c.len-owner.result ≡ length (words_of c.args.listed.now) = c.len-owner.ensures ∙ sym (length-map c.args.listed.now (λ s. s.word)) in
    subst (λ (n : ℕ). AreParts w.KIND (graph_of (valued w.value o.machine)) (dist_in w.wide_value o.dist) o.due w.wide_value c.loop-core.word n (length c.loop-core.word) c.put_parts.new.subsets.items c.put_parts.new.parts.items) owner
    (subst (λ (n : ℕ). AreParts w.KIND (graph_of (valued w.value o.machine)) (dist_in w.wide_value o.dist) o.due w.wide_value c.loop-core.word c.len-owner.result n c.put_parts.new.subsets.items c.put_parts.new.parts.items) c.len.ensures h)

-- a part that comes first is taken out of them
apart_are : (g : Over) (c : In_ok-put_label g) → IsTakenApart g.W.Weight.KIND (graph_of (valued g.W.Weight.value c.args.outlook.now.machine)) g.W.Weight.wide_value c.args.outlook.now.due
    (words_of c.args.listed.now) c.put_parts.new.subsets.items c.loop-core.core c.loop-core.word c.take_least-core.result c.take_least-core.new.parts.items
apart_are g c =
    let w = g.W.Weight in
    let o = c.args.outlook.now in
    let graph = graph_of (valued w.value o.machine) in
    let on = c.loop-core.invariant.on in
    let long = walk_long w.KIND graph w.wide_value o.due (words_of c.args.listed.now) c.args.subsets.now.items c.loop-core.subsets.items c.args.entry c.loop-core.core c.loop-core.left.items c.loop-core.word on in
    taken_apart w.KIND graph w.wide_value o.due c.machine-fst.ensures.weighed.weighted c.requires.plain (dist_in w.wide_value o.dist) (far w.KIND graph (dist_in w.wide_value o.dist) c.machine-fst.ensures.known.measured.exact)
    (words_of c.args.listed.now) c.put_parts.new.subsets.items c.loop-core.core c.take_least-core.result c.loop-core.word c.put_parts.new.parts.items c.take_least-core.new.parts.items
    (parts_are g (goal.at.In_ok-put_label g c).In_ok-put_parts) (omega (arith, long, on.long, c.requires.few)) c.loop-core-test.true on.key (subst (IsDue w.KIND o.due) (sym on.total) c.requires.due)
    c.take_least-core.ensures.same c.take_least-core.ensures.least

pub take_least-core-requires : goal.take_least-core-requires
take_least-core-requires g c =
    let w = g.W.Weight in
    let o = c.args.outlook.now in
    record {
      some = some_part w.KIND (graph_of (valued w.value o.machine)) w.wide_value o.due (dist_in w.wide_value o.dist) c.loop-core.word (length (words_of c.args.listed.now)) (length c.loop-core.word)
          c.put_parts.new.subsets.items c.put_parts.new.parts.items c.loop-core.core (parts_are g (goal.at.take_least-core-requires g c).In_ok-put_parts) c.loop-core-test.true c.loop-core.invariant.on.key;
    }

pub loop-core-smaller : goal.loop-core-smaller
loop-core-smaller g c =
    let w = g.W.Weight in
    let o = c.args.outlook.now in
    let on = c.loop-core.invariant.on in
    let at = (goal.at.loop-core-smaller g c).In_ok-put_label in
    let long = walk_long w.KIND (graph_of (valued w.value o.machine)) w.wide_value o.due (words_of c.args.listed.now) c.args.subsets.now.items c.loop-core.subsets.items c.args.entry c.loop-core.core
    c.loop-core.left.items c.loop-core.word on in
    let apart = apart_are g at in
    labels_less c.take_least-core.result.closed c.loop-core.core.closed c.loop-core.core.long c.take_least-core.result.long (length c.loop-core.word) (length c.put_label.new.word) c.loop-core-test.true long
    apart.parted.long (λ open_one. (let one = apart.label open_one in omega (arith, one, ap length c.in_ok-put_label.ensures, length-append c.loop-core.word (tail_of c.take_least-core.result.tail))))

pub loop-core-preserved : goal.loop-core-preserved
loop-core-preserved g c =
    let w = g.W.Weight in
    let o = c.args.outlook.now in
    let more = c.in_ok-put_parts.ensures.grow in
    record {
      on = walk_on w.KIND (graph_of (valued w.value o.machine)) w.wide_value o.due (words_of c.args.listed.now) c.args.subsets.now.items c.loop-core.subsets.items c.put_parts.new.subsets.items
          c.args.entry c.loop-core.core c.take_least-core.result c.loop-core.left.items c.take_least-core.new.parts.items c.append.new.left.items c.loop-core.word c.put_label.new.word more.0
          c.loop-core.invariant.on more.1 (apart_are g (goal.at.loop-core-preserved g c).In_ok-put_label) c.in_ok-put_label.ensures c.in_ok-append.ensures.moved;
      clear = c.in_ok-append.ensures.clear;
    }

pub returns : goal.returns
returns g c =
    let w = g.W.Weight in
    record {
      walked = walk_ends w.KIND (graph_of (valued w.value c.args.outlook.now.machine)) w.wide_value c.args.outlook.now.due (words_of c.args.listed.now) c.args.subsets.now.items c.loop-core.subsets.items
          c.args.entry c.loop-core.core c.loop-core.left.items c.loop-core.word c.loop-core.invariant.on c.loop-core-test.false;
    }
