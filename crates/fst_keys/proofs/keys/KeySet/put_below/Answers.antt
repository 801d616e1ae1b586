use Rattle.std.proofs.Common.{◌≡◌, ◌++◌, ◌∷◌, [], ◌∙◌, List, length, ap, arith, refl}
use Rattle.std.specs.BTreeMap.{get}
use Rattle.std.proofs.lemmas.Option.{slice_get_within}
use Rattle.fst_table.specs.Found.{found_in}
use Rattle.fst_keys.proofs.Kept.{apart_kept, first_kept, kept_same, one_whole}
use Rattle.fst_keys.proofs.Putting.{put_added, put_keys, put_there, there_added, there_keys}
use Rattle.fst_keys.proofs.Seeking.{numbered_apart, numbered_there, numbered_unnumbered, sought_apart, sought_there, sought_unnumbered}
use Rattle.fst_keys.proofs.keys.KeySet.put_below.Goals as goal

pub invariant_of-self-in-There-1 : goal.invariant_of-self-in-There-1
invariant_of-self-in-There-1 g c =
    kept_same g.K.Coded.code g.K.Coded.whole c.self.inside.keys.items c.reserve.new.self.items (found_in c.self.inside.firsts) (found_in c.seek_or_number.new.firsts) (get g.K.Whole.Ord.cmp c.self.inside.others) (get g.K.Whole.Ord.cmp c.self.inside.others) c.reserve.ensures.items (numbered_there (found_in c.self.inside.firsts) (found_in c.seek_or_number.new.firsts) c.len-place.result c.in_ok-place-2.field-0 c.in_ok-place-2.ensures.numbered c.in-There.place c.in-There.is) (λ w. refl) c.self.invariant

pub invariant_of-self-in-Unnumbered : goal.invariant_of-self-in-Unnumbered
invariant_of-self-in-Unnumbered g c =
    let put = c.push_reserved.ensures.items ∙ ap (λ (ks : List g.row.K.Denot). ks ++ c.args.key ∷ []) c.reserve.ensures.items in
    first_kept g.K.Coded.code g.K.Coded.whole c.self.inside.keys.items c.push_reserved.new.self.items (found_in c.self.inside.firsts) (get g.K.Whole.Ord.cmp c.self.inside.others) c.self.invariant c.args.key c.len-place.result put (omega (arith, c.len-place.ensures)) (found_in c.seek_or_number.new.firsts) c.in-Unnumbered.field-0 (sought_unnumbered g.K.Coded.code g.K.Coded.whole (found_in c.self.inside.firsts) (get g.K.Whole.Ord.cmp c.self.inside.others) c.args.key c.as_slice.result.now c.self.inside.keys.items (c.as_slice.ensures.value ∙ c.reserve.ensures.items) c.in_ok-place-2.field-0 c.in_ok-place-2.ensures.sought c.in-Unnumbered.field-0 c.in-Unnumbered.is) (numbered_unnumbered (found_in c.self.inside.firsts) (found_in c.seek_or_number.new.firsts) c.len-place.result c.in_ok-place-2.field-0 c.in_ok-place-2.ensures.numbered c.in-Unnumbered.field-0 c.in-Unnumbered.is)

pub invariant_of-self-in_err-put_apart-in-Apart : goal.invariant_of-self-in_err-put_apart-in-Apart
invariant_of-self-in_err-put_apart-in-Apart g c =
    kept_same g.K.Coded.code g.K.Coded.whole c.self.inside.keys.items c.put_apart.new.keys.items (found_in c.self.inside.firsts) (found_in c.seek_or_number.new.firsts) (get g.K.Whole.Ord.cmp c.self.inside.others) (get g.K.Whole.Ord.cmp c.put_apart.new.others) (c.in_err-put_apart-in-Apart.ensures.err ∙ c.reserve.ensures.items) (numbered_apart (found_in c.self.inside.firsts) (found_in c.seek_or_number.new.firsts) c.len-place.result c.in_ok-place-2.field-0 c.in_ok-place-2.ensures.numbered c.in-Apart.whole c.in-Apart.is) c.in_err-put_apart-in-Apart.ensures.stays c.self.invariant

pub invariant_of-self-in-Apart : goal.invariant_of-self-in-Apart
invariant_of-self-in-Apart g c =
    let put = c.in_ok-put_apart-in-Apart.ensures.put ∙ ap (λ (ks : List g.row.K.Denot). ks ++ c.args.key ∷ []) c.reserve.ensures.items in
    let one = one_whole g.K.Whole.PartialEq.eq g.K.Whole.Ord.cmp g.met.K.Coded.compared g.met.K.Whole.Ord.matches_eq in
    let more = get g.K.Whole.Ord.cmp c.put_apart.new.others in
    let kept = apart_kept g.K.Coded.code g.K.Coded.whole c.self.inside.keys.items c.put_apart.new.keys.items (found_in c.self.inside.firsts) (get g.K.Whole.Ord.cmp c.self.inside.others) c.self.invariant c.args.key (length c.reserve.new.self.items) put (ap length c.reserve.ensures.items) g.K.Whole.Ord.cmp one more c.in-Apart.whole (sought_apart g.K.Coded.code g.K.Coded.whole (found_in c.self.inside.firsts) (get g.K.Whole.Ord.cmp c.self.inside.others) c.args.key c.as_slice.result.now c.self.inside.keys.items (c.as_slice.ensures.value ∙ c.reserve.ensures.items) c.in_ok-place-2.field-0 c.in_ok-place-2.ensures.sought c.in-Apart.whole c.in-Apart.is) c.in_ok-put_apart-in-Apart.ensures.added in
    kept_same g.K.Coded.code g.K.Coded.whole c.put_apart.new.keys.items c.put_apart.new.keys.items (found_in c.self.inside.firsts) (found_in c.seek_or_number.new.firsts) more more refl (numbered_apart (found_in c.self.inside.firsts) (found_in c.seek_or_number.new.firsts) c.len-place.result c.in_ok-place-2.field-0 c.in_ok-place-2.ensures.numbered c.in-Apart.whole c.in-Apart.is) (λ w. refl) kept

pub returns-in-There-clause-keys : goal.returns-in-There-clause-keys
returns-in-There-clause-keys g c =
    (c.reserve.ensures.items ∙ c.self.view_is) ∙ there_keys g.K.PartialEq.eq g.met.K.Coded.same c.args.self.now c.args.key c.in-There.place (sought_there g.K.Coded.code g.K.Coded.whole (found_in c.self.inside.firsts) (get g.K.Whole.Ord.cmp c.self.inside.others) c.args.key c.as_slice.result.now c.args.self.now (c.as_slice.ensures.value ∙ (c.reserve.ensures.items ∙ c.self.view_is)) c.in_ok-place-2.field-0 c.in_ok-place-2.ensures.sought c.in-There.place c.in-There.is)

pub returns-in-There-clause-added : goal.returns-in-There-clause-added
returns-in-There-clause-added g c =
    there_added g.K.PartialEq.eq g.met.K.Coded.same c.args.self.now c.args.key c.in-There.place (sought_there g.K.Coded.code g.K.Coded.whole (found_in c.self.inside.firsts) (get g.K.Whole.Ord.cmp c.self.inside.others) c.args.key c.as_slice.result.now c.args.self.now (c.as_slice.ensures.value ∙ (c.reserve.ensures.items ∙ c.self.view_is)) c.in_ok-place-2.field-0 c.in_ok-place-2.ensures.sought c.in-There.place c.in-There.is)

pub returns-in-There-clause-within : goal.returns-in-There-clause-within
returns-in-There-clause-within g c =
    slice_get_within c.reserve.new.self.items c.in-There.place c.args.key (sought_there g.K.Coded.code g.K.Coded.whole (found_in c.self.inside.firsts) (get g.K.Whole.Ord.cmp c.self.inside.others) c.args.key c.as_slice.result.now c.reserve.new.self.items (c.as_slice.ensures.value ∙ refl) c.in_ok-place-2.field-0 c.in_ok-place-2.ensures.sought c.in-There.place c.in-There.is)

pub returns-in-Unnumbered-clause-keys : goal.returns-in-Unnumbered-clause-keys
returns-in-Unnumbered-clause-keys g c =
    put_keys g.K.PartialEq.eq g.met.K.Coded.same c.args.self.now c.push_reserved.new.self.items c.args.key (sought_unnumbered g.K.Coded.code g.K.Coded.whole (found_in c.self.inside.firsts) (get g.K.Whole.Ord.cmp c.self.inside.others) c.args.key c.as_slice.result.now c.args.self.now (c.as_slice.ensures.value ∙ (c.reserve.ensures.items ∙ c.self.view_is)) c.in_ok-place-2.field-0 c.in_ok-place-2.ensures.sought c.in-Unnumbered.field-0 c.in-Unnumbered.is).new (c.push_reserved.ensures.items ∙ ap (λ (ks : List g.row.K.Denot). ks ++ c.args.key ∷ []) (c.reserve.ensures.items ∙ c.self.view_is))

pub returns-in-Unnumbered-clause-added : goal.returns-in-Unnumbered-clause-added
returns-in-Unnumbered-clause-added g c =
    put_added g.K.PartialEq.eq g.met.K.Coded.same c.args.self.now c.push_reserved.new.self.items c.args.key (sought_unnumbered g.K.Coded.code g.K.Coded.whole (found_in c.self.inside.firsts) (get g.K.Whole.Ord.cmp c.self.inside.others) c.args.key c.as_slice.result.now c.args.self.now (c.as_slice.ensures.value ∙ (c.reserve.ensures.items ∙ c.self.view_is)) c.in_ok-place-2.field-0 c.in_ok-place-2.ensures.sought c.in-Unnumbered.field-0 c.in-Unnumbered.is).new

pub returns-in-Unnumbered-clause-there : goal.returns-in-Unnumbered-clause-there
returns-in-Unnumbered-clause-there g c =
    put_there c.args.self.now c.push_reserved.new.self.items c.args.key c.len-place.result (c.push_reserved.ensures.items ∙ ap (λ (ks : List g.row.K.Denot). ks ++ c.args.key ∷ []) (c.reserve.ensures.items ∙ c.self.view_is)) (let at : c.len-place.result ≡ length c.self.inside.keys.items = omega (arith, c.len-place.ensures) in at ∙ ap length c.self.view_is)

pub returns-in_ok-put_apart-in-Apart-clause-keys : goal.returns-in_ok-put_apart-in-Apart-clause-keys
returns-in_ok-put_apart-in-Apart-clause-keys g c =
    put_keys g.K.PartialEq.eq g.met.K.Coded.same c.args.self.now c.put_apart.new.keys.items c.args.key (sought_apart g.K.Coded.code g.K.Coded.whole (found_in c.self.inside.firsts) (get g.K.Whole.Ord.cmp c.self.inside.others) c.args.key c.as_slice.result.now c.args.self.now (c.as_slice.ensures.value ∙ (c.reserve.ensures.items ∙ c.self.view_is)) c.in_ok-place-2.field-0 c.in_ok-place-2.ensures.sought c.in-Apart.whole c.in-Apart.is).new (c.in_ok-put_apart-in-Apart.ensures.put ∙ ap (λ (ks : List g.row.K.Denot). ks ++ c.args.key ∷ []) (c.reserve.ensures.items ∙ c.self.view_is))

pub returns-in_ok-put_apart-in-Apart-clause-added : goal.returns-in_ok-put_apart-in-Apart-clause-added
returns-in_ok-put_apart-in-Apart-clause-added g c =
    put_added g.K.PartialEq.eq g.met.K.Coded.same c.args.self.now c.put_apart.new.keys.items c.args.key (sought_apart g.K.Coded.code g.K.Coded.whole (found_in c.self.inside.firsts) (get g.K.Whole.Ord.cmp c.self.inside.others) c.args.key c.as_slice.result.now c.args.self.now (c.as_slice.ensures.value ∙ (c.reserve.ensures.items ∙ c.self.view_is)) c.in_ok-place-2.field-0 c.in_ok-place-2.ensures.sought c.in-Apart.whole c.in-Apart.is).new

pub returns-in_ok-put_apart-in-Apart-clause-there : goal.returns-in_ok-put_apart-in-Apart-clause-there
returns-in_ok-put_apart-in-Apart-clause-there g c =
    put_there c.args.self.now c.put_apart.new.keys.items c.args.key c.len-place.result (c.in_ok-put_apart-in-Apart.ensures.put ∙ ap (λ (ks : List g.row.K.Denot). ks ++ c.args.key ∷ []) (c.reserve.ensures.items ∙ c.self.view_is)) (let at : c.len-place.result ≡ length c.self.inside.keys.items = omega (arith, c.len-place.ensures) in at ∙ ap length c.self.view_is)

pub returns-then-place-limit-clause-keys : goal.returns-then-place-limit-clause-keys
returns-then-place-limit-clause-keys g c =
    there_keys g.K.PartialEq.eq g.met.K.Coded.same c.args.self.now c.args.key c.in-Some.place (rw c.in-Some.is at c.in_ok-place.ensures)

pub returns-then-place-limit-clause-added : goal.returns-then-place-limit-clause-added
returns-then-place-limit-clause-added g c =
    there_added g.K.PartialEq.eq g.met.K.Coded.same c.args.self.now c.args.key c.in-Some.place (rw c.in-Some.is at c.in_ok-place.ensures)

pub returns-then-place-limit-clause-within : goal.returns-then-place-limit-clause-within
returns-then-place-limit-clause-within g c =
    slice_get_within c.args.self.now c.in-Some.place c.args.key (rw c.in-Some.is at c.in_ok-place.ensures)
