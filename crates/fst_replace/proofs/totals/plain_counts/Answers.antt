use Rattle.std.proofs.Common.{◌≡◌, ◌⊎◌, inl, inr, ℕ, ◌+◌, ◌-◌, ◌<◌, ◌≤◌, List, [], ◌∷◌, ◌++◌, length, get_or, sym, ap, ◌∙◌, arith}
use Rattle.std.proofs.lemmas.Bool.{cases_lt}
use Rattle.std.proofs.lemmas.List.{get_or_append_left, get_or-append-add, length-append}
use Rattle.fst_machine.specs.Machine.{arc_total}
use Rattle.fst_replace.specs.Rules.{machine_at}
use Rattle.fst_replace.specs.Walks.{at_place}
use Rattle.fst_replace.proofs.Counting.{calls_place_few}
use Rattle.fst_replace.proofs.totals.plain_counts.Goals as goal

-- one number more
one_more : (old new : List ℕ) (place n : ℕ) (other : ℕ → ℕ) (all : ℕ → ℕ) → length old ≡ place → new ≡ old ++ n ∷ [] → ((i : ℕ) → i < place → get_or old i 0 + other i ≡ all i) → n + other place ≡ all place → (i : ℕ) → i < place + 1 → get_or new i 0 + other i ≡ all i
one_more old new place n other all size is before this i low = by_order (cases_lt i place)
  where
    by_order : (i < place) ⊎ (place ≤ i) → get_or new i 0 + other i ≡ all i
    by_order (inl sooner) =
        let same : get_or new i 0 ≡ get_or old i 0 = ap (λ (zs : List ℕ). get_or zs i 0) is ∙ get_or_append_left old (n ∷ []) 0 i (omega (arith, sooner, size)) in
        ap (λ (k : ℕ). k + other i) same ∙ before i sooner
    by_order (inr late) =
        let at : i ≡ place = omega arith in
        let here : place ≡ length old + 0 = omega (arith, size) in
        let same : get_or new place 0 ≡ n = ap (λ (zs : List ℕ). get_or zs place 0) is ∙ (ap (λ (k : ℕ). get_or (old ++ n ∷ []) k 0) here ∙ get_or-append-add old (n ∷ []) 0 0) in
        ap (λ (k : ℕ). get_or new k 0 + other k) at ∙ (ap (λ (k : ℕ). k + other place) same ∙ (this ∙ ap all (sym at)))

pub overflow_sub-arcs : goal.overflow_sub-arcs
overflow_sub-arcs g c =
    let few = calls_place_few c.args.rules.now c.args.calls.now c.requires c.loop-place.place in
    let size = ap length c.places_at-called.ensures in
    let arcs : c.arc_count-arcs.result ≡ arc_total (machine_at c.args.rules.now c.loop-place.place).states = c.arc_count-arcs.ensures ∙ ap (λ m. arc_total m.states) c.machine.ensures in
    omega (arith, few, size, arcs)

pub loop-place-preserved : goal.loop-place-preserved
loop-place-preserved g c =
    let few = calls_place_few c.args.rules.now c.args.calls.now c.requires c.loop-place.place in
    let size = ap length c.places_at-called.ensures in
    let arcs : c.arc_count-arcs.result ≡ arc_total (machine_at c.args.rules.now c.loop-place.place).states = c.arc_count-arcs.ensures ∙ ap (λ m. arc_total m.states) c.machine.ensures in
    let more = ap length c.in_ok-push.ensures.items in
    record {
      size = omega (arith, more, c.loop-place.invariant.size, length-append c.loop-place.counts.items ((c.arc_count-arcs.result - length c.places_at-called.result.now) ∷ []));
      counts = one_more c.loop-place.counts.items c.push.new.self.items c.loop-place.place (c.arc_count-arcs.result - length c.places_at-called.result.now) (λ i. length (at_place c.args.calls.now i)) (λ i. arc_total (machine_at c.args.rules.now i).states) c.loop-place.invariant.size c.in_ok-push.ensures.items c.loop-place.invariant.counts (omega (arith, few, size, arcs));
    }
