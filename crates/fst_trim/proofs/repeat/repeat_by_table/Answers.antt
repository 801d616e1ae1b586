use Rattle.std.proofs.Common.{◌≡◌, ◌<◌, ℕ, Bool, true, false, cond, ◌==◌, Option, None, Some, is_some, slice_get, length, refl, sym, ap, ◌∙◌, subst, arith}
use Rattle.std.proofs.lemmas.Option.{slice_get_within}
use Rattle.fst_machine.specs.Machine.{Arc}
use Rattle.fst_table.specs.Placed.{placed_in}
use Rattle.fst_trim.specs.FirstArcs.{HasEarlier, Repeats}
use Rattle.fst_trim.proofs.Places.{read_here, none_more, new_label, table_empty, table_more}
use Rattle.fst_trim.proofs.repeat.repeat_by_table.Goals as goal

none_of : (found : Option ℕ) → is_some found ≡ false → found ≡ None
none_of None none = refl
none_of (Some place) none = absurd (let wrong : true ≡ false = none in cc)

-- whether a label has a place
some_of : (same : Bool) (place : ℕ) (found : Option ℕ) → is_some (cond same (Some place) found) ≡ cond same true (is_some found)
some_of true place found = refl
some_of false place found = refl

pub loop-place-init : goal.loop-place-init
loop-place-init g c = record {
  none = λ place low h. omega arith;
  seen = table_empty c.args.arcs.now (λ label. is_some (placed_in c.new-seen.result label)) (λ label. ap is_some (c.new-seen.ensures label));
}

pub returns-then-is_some : goal.returns-then-is_some
returns-then-is_some g c =
    let a = c.index-arcs-place.result in
    let number : c.from-label.result ≡ a.ilabel = c.from-label.ensures ∙ ap (λ (b : Arc g.row.W.Denot ℕ). b.ilabel) c.arc.view_is in
    let had : is_some (placed_in c.loop-place.seen c.from-label.result) ≡ true = ap is_some (sym c.in_ok-known.ensures.place) ∙ sym c.is_some.ensures ∙ c.if-is_some.true in (
      record {
        arc = a;
        there = read_here c.args.arcs.now c.loop-place.place a (omega arith) c.index-arcs-place.is;
        repeated = subst (λ (label : ℕ). HasEarlier c.args.arcs.now c.loop-place.place label) number ((c.loop-place.invariant.seen c.from-label.result).0 had);
      },
      c.loop-place.invariant.none,
    )

pub loop-place-preserved : goal.loop-place-preserved
loop-place-preserved g c =
    let a = c.index-arcs-place.result in
    let number : c.from-label.result ≡ a.ilabel = c.from-label.ensures ∙ ap (λ (b : Arc g.row.W.Denot ℕ). b.ilabel) c.arc.view_is in
    let there : slice_get c.args.arcs.now c.loop-place.place ≡ Some a = read_here c.args.arcs.now c.loop-place.place a (omega arith) c.index-arcs-place.is in
    let old : ℕ → Option ℕ = placed_in c.loop-place.seen in
    let new : ℕ → Option ℕ = placed_in c.find_or_add.new.self in
    let lacked : is_some (old c.from-label.result) ≡ false = ap is_some (sym c.in_ok-known.ensures.place) ∙ sym c.is_some.ensures ∙ c.if-is_some.false in
    let none : HasEarlier c.args.arcs.now c.loop-place.place a.ilabel → ⊥ = λ h. let wrong : false ≡ true = sym lacked ∙ (c.loop-place.invariant.seen c.from-label.result).1 (subst (λ (label : ℕ). HasEarlier c.args.arcs.now c.loop-place.place label) (sym number) h) in absurd (cc) in
    let absent : c.in_ok-known.known ≡ None = none_of c.in_ok-known.known (sym c.is_some.ensures ∙ c.if-is_some.false) in
    record {
      none = none_more Repeats c.args.arcs.now c.loop-place.place c.loop-place.invariant.none (new_label c.args.arcs.now c.loop-place.place a there none);
      seen = table_more c.args.arcs.now c.loop-place.place a (λ label. is_some (old label)) (λ label. is_some (new label)) there (λ label. ap is_some ((rw number at (c.in_ok-known.ensures.added absent)) label) ∙ some_of (label == a.ilabel) _ (old label)) c.loop-place.invariant.seen;
    }

pub returns : goal.returns
returns g c place h =
    let low : place < length c.args.arcs.now = slice_get_within c.args.arcs.now place h.arc h.there in
    c.loop-place.invariant.none place (omega arith) h
