use Rattle.std.proofs.Common.{◌∙◌}
use Rattle.std.specs.BTreeMap.{get}
use Rattle.fst_table.specs.Found.{found_in}
use Rattle.fst_keys.proofs.Putting.{new_any}
use Rattle.fst_keys.proofs.Seeking.{sought_apart, sought_there, sought_unnumbered}
use Rattle.fst_keys.proofs.keys.KeySet.place.Goals as goal
use Rattle.fst_keys.proofs.keys.KeySet.place.Goals.{in-There, in-Unnumbered, in-Apart}

pub returns : goal.returns
returns g c =
    elim c.match-branch-2.branch [
      | in-There w ↦ rw w.result-is (sought_there g.K.Coded.code g.K.Coded.whole (found_in c.self.inside.firsts) (get g.K.Whole.Ord.cmp c.self.inside.others) c.args.key.now c.as_slice.result.now c.args.self.now (c.as_slice.ensures.value ∙ c.self.view_is) c.in_ok-place.field-0 c.in_ok-place.ensures w.in-There.place w.in-There.is)
      | in-Unnumbered w ↦ rw w.result-is (new_any g.K.PartialEq.eq g.met.K.Coded.same c.args.self.now c.args.key.now (sought_unnumbered g.K.Coded.code g.K.Coded.whole (found_in c.self.inside.firsts) (get g.K.Whole.Ord.cmp c.self.inside.others) c.args.key.now c.as_slice.result.now c.args.self.now (c.as_slice.ensures.value ∙ c.self.view_is) c.in_ok-place.field-0 c.in_ok-place.ensures w.in-Unnumbered.field-0 w.in-Unnumbered.is).new)
      | in-Apart w ↦ rw w.result-is (new_any g.K.PartialEq.eq g.met.K.Coded.same c.args.self.now c.args.key.now (sought_apart g.K.Coded.code g.K.Coded.whole (found_in c.self.inside.firsts) (get g.K.Whole.Ord.cmp c.self.inside.others) c.args.key.now c.as_slice.result.now c.args.self.now (c.as_slice.ensures.value ∙ c.self.view_is) c.in_ok-place.field-0 c.in_ok-place.ensures w.in-Apart.field-0 w.in-Apart.is).new)
    ]
