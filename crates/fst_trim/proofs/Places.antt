-- The first place of a list that has a property, and the first arc of a machine.
use Rattle.std.proofs.Common.{◌≡◌, ◌⊎◌, inl, inr, Bool, true, false, not, cond, eqb, ℕ, ◌+◌, ◌<◌, ◌≤◌, List, Option, None, Some, length, get_or, slice_get, refl, sym, ap, ◌∙◌, subst, arith}
use Rattle.std.specs.Option.{option_map, is_some}
use Rattle.std.specs.Bool.{Decides}
use Rattle.std.proofs.lemmas.Bool.{cases_eq}
use Rattle.std.proofs.lemmas.Bool.Decides.{eqb_tells}
use Rattle.std.proofs.lemmas.Option.{slice_get_within, slice_get_read, get_or_from_slice_get}
use Rattle.std.proofs.lemmas.List.Sums.{get_or-le-sum_by}
use Rattle.fst_machine.specs.Machine.{Arc, State, Machine, arc_total}
use Rattle.fst_machine.specs.BreadthFirst.{Precedes}
use Rattle.fst_machine.specs.declared.path.Step.{Step}
use Rattle.fst_machine.proofs.Arcs.{mapped_some}
use Rattle.fst_trim.specs.declared.side.Side.TheVariants.{Input}
use Rattle.fst_trim.specs.Sides.{StandsBy}
use Rattle.fst_trim.specs.FirstArcs.{HasTwoLabels, HasEarlier, Repeats, IsFirstPlace, Meets, IsFirstArc}

-- what is read in a place
pub read_here : {X : Type 0} (xs : List X) (i : ℕ) (x : X) → i < length xs → x ≡ get_or xs i x → slice_get xs i ≡ Some x
read_here xs i x low read = slice_get_read xs (length xs) i x refl low read

-- a state has no more arcs than there are
pub few_arcs : {V : Type 0} (states : List (State V)) (state n : ℕ) (arcs : List (Arc V ℕ)) → option_map (λ s. s.arcs) (slice_get states state) ≡ Some arcs → arc_total states ≤ n → length arcs ≤ n
few_arcs {V} states state n arcs there few =
    let s = mapped_some (λ (s : State V). s.arcs) (slice_get states state) arcs there in
    let at : get_or states state s.0 ≡ s.0 = get_or_from_slice_get states state s.0 s.0 s.1 in
    let count : length (get_or states state s.0).arcs ≡ length arcs = ap (λ (t : State V). length t.arcs) at ∙ ap length s.2 in
    let sum = get_or-le-sum_by (λ (t : State V). length t.arcs) states state s.0 (slice_get_within states state s.0 s.1) in
    omega arith

-- no place before this one has the property
abbrev pub NoneBefore : {X : Type 0} → (List X → ℕ → Type 0) → List X → ℕ → Type 0
NoneBefore P xs n = (place : ℕ) → place < n → P xs place → ⊥

pub none_more : {X : Type 0} (P : List X → ℕ → Type 0) (xs : List X) (n : ℕ) → NoneBefore P xs n → (P xs n → ⊥) → NoneBefore P xs (n + 1)
none_more P xs n none here place low h = by_place (cases_eq place n)
  where
    by_place : (place ≡ n) ⊎ (place ≡ n → ⊥) → ⊥
    by_place (inl same) = here (subst (λ (k : ℕ). P xs k) same h)
    by_place (inr other) = none place (omega arith) h

-- an arc with one label
pub one_label : {V : Type 0} (arcs : List (Arc V ℕ)) (place : ℕ) (a : Arc V ℕ) → slice_get arcs place ≡ Some a → a.ilabel ≡ a.olabel → HasTwoLabels arcs place → ⊥
one_label {V} arcs place a there same h =
    let both : ◌≡◌ {A = Option (Arc V ℕ)} (Some a) (Some h.arc) = sym there ∙ h.there in
    let equal : a ≡ h.arc = cc in
    h.differ (subst (λ (b : Arc V ℕ). b.ilabel ≡ b.olabel) equal same)

-- an arc with a label that no earlier one has
pub new_label : {V : Type 0} (arcs : List (Arc V ℕ)) (place : ℕ) (a : Arc V ℕ) → slice_get arcs place ≡ Some a → (HasEarlier arcs place a.ilabel → ⊥) → Repeats arcs place → ⊥
new_label {V} arcs place a there new h =
    let both : ◌≡◌ {A = Option (Arc V ℕ)} (Some a) (Some h.arc) = sym there ∙ h.there in
    let equal : a ≡ h.arc = cc in
    new (subst (λ (b : Arc V ℕ). HasEarlier arcs place b.ilabel) (sym equal) h.repeated)

-- behind one arc more
pub earlier_kept : {V : Type 0} (arcs : List (Arc V ℕ)) (place label : ℕ) → HasEarlier arcs place label → HasEarlier arcs (place + 1) label
earlier_kept arcs place label h = record { earlier = h.earlier; arc = h.arc; before = omega (arith, h.before); there = h.there; same = h.same }

pub earlier_cases : {V : Type 0} (arcs : List (Arc V ℕ)) (place label : ℕ) (a : Arc V ℕ) → slice_get arcs place ≡ Some a → HasEarlier arcs (place + 1) label → HasEarlier arcs place label ⊎ (a.ilabel ≡ label)
earlier_cases {V} arcs place label a there h = by_place (cases_eq h.earlier place)
  where
    by_place : (h.earlier ≡ place) ⊎ (h.earlier ≡ place → ⊥) → HasEarlier arcs place label ⊎ (a.ilabel ≡ label)
    by_place (inl same) =
        let both : ◌≡◌ {A = Option (Arc V ℕ)} (Some a) (Some h.arc) = sym there ∙ (ap (slice_get arcs) (sym same) ∙ h.there) in
        let equal : a ≡ h.arc = cc in
        inr (ap (λ (b : Arc V ℕ). b.ilabel) equal ∙ h.same)
    by_place (inr other) = inl (record { earlier = h.earlier; arc = h.arc; before = omega (arith, h.before); there = h.there; same = h.same })

-- the first arc repeats nothing
pub first_is_new : {V : Type 0} (arcs : List (Arc V ℕ)) → NoneBefore Repeats arcs 1
first_is_new arcs place low h = omega (arith, h.repeated.before)

-- among arcs that stand by their labels, an arc whose label the one before it has not
pub next_is_new : {V : Type 0} (arcs : List (Arc V ℕ)) (before place : ℕ) (b a : Arc V ℕ) → StandsBy Input arcs → before + 1 ≡ place → slice_get arcs before ≡ Some b → slice_get arcs place ≡ Some a → (b.ilabel ≡ a.ilabel → ⊥) → HasEarlier arcs place a.ilabel → ⊥
next_is_new {V} arcs before place b a sorted next there here new h =
    let low : place < length arcs = slice_get_within arcs place a here in
    let one = sorted h.earlier before a (omega (arith, h.before)) (omega arith) in
    let two = sorted before place a (omega arith) low in
    let at_place : get_or arcs place a ≡ a = get_or_from_slice_get arcs place a a here in
    let at_before : get_or arcs before a ≡ b = get_or_from_slice_get arcs before b a there in
    let at_earlier : get_or arcs h.earlier a ≡ h.arc = get_or_from_slice_get arcs h.earlier h.arc a h.there in
    let below : (h.arc).ilabel ≤ b.ilabel = subst (λ (d : Arc V ℕ). (h.arc).ilabel ≤ d.ilabel) at_before (subst (λ (d : Arc V ℕ). d.ilabel ≤ (get_or arcs before a).ilabel) at_earlier one) in
    let above : b.ilabel ≤ a.ilabel = subst (λ (d : Arc V ℕ). b.ilabel ≤ d.ilabel) at_place (subst (λ (d : Arc V ℕ). d.ilabel ≤ (get_or arcs place a).ilabel) at_before two) in
    new (omega (arith, h.same))

-- no arc of the states before this one has the property
abbrev pub NoneAbove : {V : Type 0} → (List (Arc V ℕ) → ℕ → Type 0) → Machine V → ℕ → Type 0
NoneAbove P m n = (state place : ℕ) → state < n → Meets P m state place → ⊥

module _ {V : Type 0} (P : List (Arc V ℕ) → ℕ → Type 0) (m : Machine V) where
  -- what is met in this state is met among its arcs
  met_here : (state place : ℕ) (arcs : List (Arc V ℕ)) → option_map (λ s. s.arcs) (slice_get m.states state) ≡ Some arcs → Meets P m state place → P arcs place
  met_here state place arcs there h =
      let both : ◌≡◌ {A = Option (List (Arc V ℕ))} (Some arcs) (Some h.arcs) = sym there ∙ h.has in
      let equal : arcs ≡ h.arcs = cc in
      subst (λ (zs : List (Arc V ℕ)). P zs place) (sym equal) h.holds

  pub above_more : (state : ℕ) (arcs : List (Arc V ℕ)) → option_map (λ s. s.arcs) (slice_get m.states state) ≡ Some arcs → NoneAbove P m state → IsFirstPlace P arcs None → NoneAbove P m (state + 1)
  above_more state arcs there none here at place low h = by_state (cases_eq at state)
    where
      by_state : (at ≡ state) ⊎ (at ≡ state → ⊥) → ⊥
      by_state (inl same) = here place (met_here state place arcs there (subst (λ (k : ℕ). Meets P m k place) same h))
      by_state (inr other) = none at place (omega arith) h

  pub above_all : NoneAbove P m (length m.states) → IsFirstArc P m None
  above_all none state place h =
      let s = mapped_some (λ (s : State V). s.arcs) (slice_get m.states state) h.arcs h.has in
      none state place (slice_get_within m.states state s.0 s.1) h

  pub first_found : (state found : ℕ) (arcs : List (Arc V ℕ)) → option_map (λ s. s.arcs) (slice_get m.states state) ≡ Some arcs → NoneAbove P m state → IsFirstPlace P arcs (Some found) → IsFirstArc P m (Some (record { state = state; place = found }))
  first_found state found arcs there none first = (record { arcs = arcs; has = there; holds = first.0 }, earlier)
    where
      earlier : (at place : ℕ) → Precedes at place state found → Meets P m at place → ⊥
      earlier at place (inl low) h = none at place low h
      earlier at place (inr (same, low)) h = first.1 place low (met_here state place arcs there (subst (λ (k : ℕ). Meets P m k place) same h))

  -- whether there is none
  pub none_decides : (found : Option Step) (none : Bool) → IsFirstArc P m found → is_some found ≡ not none → Decides none ((state place : ℕ) → Meets P m state place → ⊥)
  none_decides None true first e = ((λ is. first), (λ free. refl))
  none_decides None false first e = absurd (let wrong : false ≡ true = e in cc)
  none_decides (Some step) true first e = absurd (let wrong : true ≡ false = e in cc)
  none_decides (Some step) false first e = ((λ is. absurd (let wrong : false ≡ true = is in cc)), (λ free. absurd (free step.state step.place first.0)))

-- a table of the labels before a place, with the label of the arc there
pub table_more : {V : Type 0} (arcs : List (Arc V ℕ)) (place : ℕ) (a : Arc V ℕ) (old new : ℕ → Bool) → slice_get arcs place ≡ Some a → ((label : ℕ) → new label ≡ cond (eqb label a.ilabel) true (old label)) → ((label : ℕ) → Decides (old label) (HasEarlier arcs place label)) → (label : ℕ) → Decides (new label) (HasEarlier arcs (place + 1) label)
table_more {V} arcs place a old new there put decides label = by_label (eqb_tells label a.ilabel)
  where
    by_label : ((eqb label a.ilabel ≡ true) × (label ≡ a.ilabel)) ⊎ ((eqb label a.ilabel ≡ false) × (label ≡ a.ilabel → ⊥)) → Decides (new label) (HasEarlier arcs (place + 1) label)
    by_label (inl same) =
        let has : new label ≡ true = put label ∙ ap (λ (b : Bool). cond b true (old label)) same.0 in
        ((λ is. record { earlier = place; arc = a; before = omega arith; there = there; same = sym same.1 }), (λ h. has))
    by_label (inr other) =
        let kept : new label ≡ old label = put label ∙ ap (λ (b : Bool). cond b true (old label)) other.0 in
        ((λ is. earlier_kept arcs place label ((decides label).0 (sym kept ∙ is))), (λ h. kept ∙ (decides label).1 (only (earlier_cases arcs place label a there h))))
      where
        only : HasEarlier arcs place label ⊎ (a.ilabel ≡ label) → HasEarlier arcs place label
        only (inl h) = h
        only (inr e) = absurd (other.1 (sym e))

-- an empty table
pub table_empty : {V : Type 0} (arcs : List (Arc V ℕ)) (has : ℕ → Bool) → ((label : ℕ) → has label ≡ false) → (label : ℕ) → Decides (has label) (HasEarlier arcs 0 label)
table_empty arcs has none label = ((λ is. let wrong : false ≡ true = sym (none label) ∙ is in absurd (cc)), (λ h. absurd (omega (arith, h.before))))
