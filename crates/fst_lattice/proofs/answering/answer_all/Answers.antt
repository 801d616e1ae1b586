use Rattle.std.proofs.Common.{◌≡◌, drop, get_or, length, map, slice_get, ap, sym, ◌∙◌, subst, rules, arith}
use Rattle.std.specs.Vec.Iter.{into_iter_items}
use Rattle.std.proofs.lemmas.List.{length-map}
use Rattle.std.proofs.lemmas.Option.{slice_get-get_or}
use Rattle.fst_machine.proofs.Arcs.{at_mapped}
use Rattle.fst_lattice.specs.Runs.{AreWalked, IsAnswerAt}
use Rattle.fst_lattice.proofs.Running.{whole_left}
use Rattle.fst_lattice.proofs.Shares.{AreCollecting, collecting_begins, collecting_ends, collecting_goes, share_there}
use Rattle.fst_lattice.proofs.answering.answer_all.Goals as goal

pub answer_shares-requires-clause-some : goal.answer_shares-requires-clause-some
answer_shares-requires-clause-some g c κs within =
    let are = ap length c.in_ok-shares.ensures in
    let a = length-map c.in_ok-shares.shares.items (λ s. s.jobs.now) in
    let b = length-map c.args.workers.now (λ w. w.jobs) in
    let e = ap length c.as_mut_slice.ensures.value in
    omega (arith, c.requires.some, are, a, b, e)

pub answer_shares-requires-clause-walked : goal.answer_shares-requires-clause-walked
answer_shares-requires-clause-walked g c κs within = λ k s low.
    let shares = c.as_mut_slice.result.now in
    let at = slice_get-get_or shares k s low in
    let there = at_mapped (λ t. t.jobs.now) shares k (get_or shares k s) at in
    let w = share_there c.args.workers.now k (get_or shares k s).jobs.now (ap (λ xs. slice_get xs k) (sym (ap (map (λ t. t.jobs.now)) c.as_mut_slice.ensures.value ∙ c.in_ok-shares.ensures)) ∙ there) in
    subst (AreWalked g.W.Weight.KIND g.W.Weight.value g.W.Weight.wide_value c.args.delayed.now c.args.lines.now (g.A.Answering.limit c.args.answering.now) c.args.cache.now) w.2 (c.requires.ready.walked k w.0 w.1)

pub loop-share-init : goal.loop-share-init
loop-share-init g c =
    let R = IsAnswerAt (g.A.Answering.answers c.args.answering.now c.args.delayed.now) c.args.lines.now in
    let gives = c.into_iter-share-iterator.ensures.into_iter_gives in
    let shares = c.in_ok-shares.shares in
    let new = c.answer_shares.new.shares in
    let h = c.answer_shares.ensures in
    let long : length new ≡ shares.len = omega (arith, h.size, ap length c.as_mut_slice.ensures.value, shares.ok) in
    let same = whole_left shares.len new (drop (length new) shares.items) long in
    record {
      collecting = subst (λ xs. AreCollecting R c.args.workers.now c.args.answers.now.items c.args.answers.now.items (map (λ s. s.answers) xs)) (same ∙ sym gives.0)
          (collecting_begins R c.args.workers.now (λ s. s.jobs.now) (λ s. s.answers) c.as_mut_slice.result.now new c.args.answers.now.items (ap (map (λ s. s.jobs.now)) c.as_mut_slice.ensures.value ∙ c.in_ok-shares.ensures) h);
      left = gives.1 ∙ (search rules) ∙ ap length (sym gives.0);
    }

pub loop-share-preserved : goal.loop-share-preserved
loop-share-preserved g c =
    let R = IsAnswerAt (g.A.Answering.answers c.args.answering.now c.args.delayed.now) c.args.lines.now in
    record {
      collecting = collecting_goes R c.args.workers.now c.args.answers.now.items c.loop-share.answers.items c.put_share.new.answers.items (map (λ s. s.answers) (into_iter_items c.loop-share.share-iterator)) (map (λ s. s.answers) (into_iter_items c.next.new.self))
          c.in-Some.share.answers c.loop-share.invariant.collecting (ap (map (λ s. s.answers)) c.in-Some.ensures.steps.0) c.in_ok-put_share.ensures;
      left = let e = ap length c.in-Some.ensures.steps.0 in omega (arith, e, c.in-Some.ensures.steps.1, c.loop-share.invariant.left);
    }

pub returns : goal.returns
returns g c =
    let R = IsAnswerAt (g.A.Answering.answers c.args.answering.now c.args.delayed.now) c.args.lines.now in
    let items = into_iter_items c.loop-share.share-iterator in
    let long = length-map items (λ s. s.answers) in
    let none : length (map (λ s. s.answers) items) ≡ 0 = omega (arith, long, c.loop-share.invariant.left, c.in-None.ensures.steps.0) in
    collecting_ends R c.args.workers.now c.args.answers.now.items c.loop-share.answers.items (map (λ s. s.answers) items) c.loop-share.invariant.collecting none
