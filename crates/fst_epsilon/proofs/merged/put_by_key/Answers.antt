use Rattle.std.proofs.Common.{◌≡◌, ℕ, List, Some, true, false, map, slice_get, refl, sym, ap, ◌∙◌, subst}
use Rattle.std.specs.List.{list_any, position_or_len}
use Rattle.fst_keys.specs.Keys.{with_key}
use Rattle.std.proofs.lemmas.Bool.{not-false, not-true}
use Rattle.fst_machine.specs.Machine.{Arc, valued_arc}
use Rattle.fst_epsilon.specs.Merging.{ArePaired, Betters, key_of, same_key}
use Rattle.fst_epsilon.specs.declared.merged.ArcKey.{ArcKey}
use Rattle.fst_epsilon.proofs.Putting.{kept_keys, once_found, paired_new, paired_old, put_better, put_new}
use Rattle.fst_epsilon.proofs.merged.put_by_key.Goals as goal

pub returns-in_ok-push-clause-paired : goal.returns-in_ok-push-clause-paired
returns-in_ok-push-clause-paired g c =
    let value = g.W.Weight.wide_value in
    let keys = c.args.keys.now in
    let new = c.put.new.self in
    let none : list_any (same_key c.arc_key.result) keys ≡ false = not-true _ (sym c.in_ok-place.ensures.added ∙ c.if-new.true) in
    let put : new ≡ with_key same_key keys c.arc_key.result = c.in_ok-place.ensures.keys in
    subst (ArePaired new) (sym c.in_ok-push.ensures.items)
    (paired_new value c.args.arc keys new c.args.arcs.now.items c.requires.paired (subst (λ (k : ArcKey). list_any (same_key k) keys ≡ false) c.arc_key.ensures none) (subst (λ (k : ArcKey). new ≡ with_key same_key keys k) c.arc_key.ensures put))

pub returns-in_ok-push-clause-arcs : goal.returns-in_ok-push-clause-arcs
returns-in_ok-push-clause-arcs g c =
    let value = g.W.Weight.wide_value in
    let keys = c.args.keys.now in
    let none : list_any (same_key c.arc_key.result) keys ≡ false = not-true _ (sym c.in_ok-place.ensures.added ∙ c.if-new.true) in
    let fresh = put_new value c.args.arc c.args.arcs.now.items (subst (λ (ks : List ArcKey). list_any (same_key (key_of c.args.arc)) ks ≡ false) c.requires.paired.0 (subst (λ (k : ArcKey). list_any (same_key k) keys ≡ false) c.arc_key.ensures none)) in
    ap (map (valued_arc value)) c.in_ok-push.ensures.items ∙ sym fresh

pub returns-else-new-clause-paired : goal.returns-else-new-clause-paired
returns-else-new-clause-paired g c =
    let value = g.W.Weight.wide_value in
    let keys = c.args.keys.now in
    let new = c.put.new.self in
    let met : list_any (same_key c.arc_key.result) keys ≡ true = not-false _ (sym c.in_ok-place.ensures.added ∙ c.if-new.false) in
    let put : new ≡ with_key same_key keys c.arc_key.result = c.in_ok-place.ensures.keys in
    let one = c.better.ensures in
    subst (ArePaired new) (sym one.items)
    (paired_old value c.args.arc keys new c.args.arcs.now.items c.in_ok-place.place one.arc one.arc c.requires.paired (kept_keys value c.args.arc keys new (subst (λ (k : ArcKey). list_any (same_key k) keys ≡ true) c.arc_key.ensures met) (subst (λ (k : ArcKey). new ≡ with_key same_key keys k) c.arc_key.ensures put)) one.same)

pub returns-else-new-clause-arcs : goal.returns-else-new-clause-arcs
returns-else-new-clause-arcs g c =
    let value = g.W.Weight.wide_value in
    let keys = c.args.keys.now in
    let new = c.put.new.self in
    let arcs = c.args.arcs.now.items in
    let key : ArcKey = key_of c.args.arc in
    let met : list_any (same_key key) keys ≡ true = subst (λ (k : ArcKey). list_any (same_key k) keys ≡ true) c.arc_key.ensures (not-false _ (sym c.in_ok-place.ensures.added ∙ c.if-new.false)) in
    let same : new ≡ keys = kept_keys value c.args.arc keys new met (subst (λ (k : ArcKey). new ≡ with_key same_key keys k) c.arc_key.ensures c.in_ok-place.ensures.keys) in
    let there : slice_get keys c.in_ok-place.place ≡ Some key = ap (λ (ks : List ArcKey). slice_get ks c.in_ok-place.place) (sym same) ∙ (c.in_ok-place.ensures.there ∙ ap Some c.arc_key.ensures) in
    let found : list_any (same_key key) (map key_of arcs) ≡ true = subst (λ (ks : List ArcKey). list_any (same_key key) ks ≡ true) c.requires.paired.0 met in
    let place : c.in_ok-place.place ≡ position_or_len (same_key key) (map key_of arcs) = once_found key keys c.in_ok-place.place c.requires.paired.1 there ∙ ap (λ (ks : List ArcKey). position_or_len (same_key key) ks) c.requires.paired.0 in
    sym (put_better value c.args.arc arcs c.better.new.arcs.items c.in_ok-place.place (value c.args.arc.weight) refl found place (subst (λ (a : Arc g.row.W-Wide.Denot ℕ). Betters value c.in_ok-place.place (value a.weight) arcs c.better.new.arcs.items) c.arc.view_is c.better.ensures))
