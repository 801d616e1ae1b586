-- What decoding a machine gives is what decoding its values gives.
use Rattle.std.proofs.Common.{◌≡◌, ℕ, ◌<◌, List, length, map, slice_get, Option, None, Some, Result, Ok, Err, sym, ap, ◌∙◌, subst}
use Rattle.std.specs.Option.{option_map}
use Rattle.fst_semiring.specs.Cost.{Cost}
use Rattle.fst_semiring.specs.Semiring.{InRange}
use Rattle.fst_semiring.specs.declared.arc_type.ArcType.{ArcType}
use Rattle.fst_machine.specs.Machine.{Arc, State, Machine, valued, valued_arc, valued_state}
use Rattle.fst_machine.specs.declared.path.Step.{Step}
use Rattle.fst_machine.proofs.Arcs.{mapped_some, mapped_at, at_mapped}
use Rattle.fst_trim.specs.FirstArcs.{HasTwoLabels, IsFirstArc, Meets}
use Rattle.fst_trim.proofs.Valued.{valued_costs}
use Rattle.fst_codex.specs.declared.decoding.DecodeFault.{DecodeFault}
use Rattle.fst_codex.specs.declared.decoding.DecodeFault.TheVariants.{NotAcceptor, NotInCodex, Overflow, Memory}
use Rattle.fst_codex.specs.Table.{Table}
use Rattle.fst_codex.specs.Decoded.{Decodes, HasLabel, IsOutside, PassesRange, decoded, decoded_arc}

-- a property of the arcs of a state holds where the other holds of their values
record IsTied {V : Type 0} (value : V → Cost) (P : List (Arc V ℕ) → ℕ → Type 0) (Q : List (Arc Cost ℕ) → ℕ → Type 0) : Type 0 where
  to : (arcs : List (Arc V ℕ)) (place : ℕ) → P arcs place → Q (map (valued_arc value) arcs) place
  back : (arcs : List (Arc V ℕ)) (place : ℕ) → Q (map (valued_arc value) arcs) place → P arcs place

module _ {V : Type 0} (value : V → Cost) {P : List (Arc V ℕ) → ℕ → Type 0} {Q : List (Arc Cost ℕ) → ℕ → Type 0} (tied : IsTied value P Q) (m : Machine V) where
  -- the values of the machine meet the other where the machine meets it
  meets_valued : (state place : ℕ) → Meets P m state place → Meets Q (valued value m) state place
  meets_valued state place h =
      let s = mapped_some (λ (s : State V). s.arcs) (slice_get m.states state) h.arcs h.has in
      record {
        arcs = map (valued_arc value) s.0.arcs;
        has = ap (option_map (λ (s : State Cost). s.arcs)) (at_mapped (valued_state value) m.states state s.0 s.1);
        holds = tied.to s.0.arcs place (subst (λ (arcs : List (Arc V ℕ)). P arcs place) (sym s.2) h.holds);
      }

  -- and the other way round
  meets_unvalued : (state place : ℕ) → Meets Q (valued value m) state place → Meets P m state place
  meets_unvalued state place h =
      let t = mapped_some (λ (s : State Cost). s.arcs) (slice_get (valued value m).states state) h.arcs h.has in
      let s = mapped_at (valued_state value) m.states state t.0 t.1 in
      let same : map (valued_arc value) s.0.arcs ≡ h.arcs = ap (λ (s : State Cost). s.arcs) s.2 ∙ t.2 in
      record {
        arcs = s.0.arcs;
        has = ap (option_map (λ (s : State V). s.arcs)) s.1;
        holds = tied.back s.0.arcs place (subst (λ (arcs : List (Arc Cost ℕ)). Q arcs place) (sym same) h.holds);
      }

  -- so the first arc is in the same place
  first_valued : (found : Option Step) → IsFirstArc P m found → IsFirstArc Q (valued value m) found
  first_valued None none = λ state place h. none state place (meets_unvalued state place h)
  first_valued (Some step) h = (meets_valued step.state step.place h.0, λ state place before met. h.1 state place before (meets_unvalued state place met))

  -- and the other way round
  first_unvalued : (found : Option Step) → IsFirstArc Q (valued value m) found → IsFirstArc P m found
  first_unvalued None none = λ state place h. none state place (meets_valued state place h)
  first_unvalued (Some step) h = (meets_unvalued step.state step.place h.0, λ state place before met. h.1 state place before (meets_valued state place met))

module _ {V : Type 0} (value : V → Cost) where
  -- the value of an arc is in its place
  value_there : (arcs : List (Arc V ℕ)) (place : ℕ) (a : Arc V ℕ) → slice_get arcs place ≡ Some a → slice_get (map (valued_arc value) arcs) place ≡ Some (valued_arc value a)
  value_there = at_mapped (valued_arc value)

  -- an arc in a place is the value of the arc there
  valued_there : (arcs : List (Arc V ℕ)) (place : ℕ) (b : Arc Cost ℕ) → slice_get (map (valued_arc value) arcs) place ≡ Some b → (a : Arc V ℕ) × (slice_get arcs place ≡ Some a) × (valued_arc value a ≡ b)
  valued_there = mapped_at (valued_arc value)

  -- two labels
  two_labels : IsTied value HasTwoLabels HasTwoLabels
  two_labels = record {
    to = λ arcs place h. record { arc = valued_arc value h.arc; there = value_there arcs place h.arc h.there; differ = h.differ };
    back = λ arcs place h. let a = valued_there arcs place h.arc h.there in record { arc = a.0; there = a.1; differ = λ e. h.differ (subst (λ (b : Arc Cost ℕ). b.ilabel ≡ b.olabel) a.2 e) };
  }

  -- a label without an entry
  outside : (numbers : ℕ) → IsTied value (IsOutside numbers) (IsOutside numbers)
  outside numbers = record {
    to = λ arcs place h. record { arc = valued_arc value h.arc; there = value_there arcs place h.arc h.there; past = h.past };
    back = λ arcs place h. let a = valued_there arcs place h.arc h.there in record { arc = a.0; there = a.1; past = subst (λ (b : Arc Cost ℕ). numbers < b.ilabel) (sym a.2) h.past };
  }

  -- this label
  has_label : (label : ℕ) → IsTied value (HasLabel label) (HasLabel label)
  has_label label = record {
    to = λ arcs place h. record { arc = valued_arc value h.arc; there = value_there arcs place h.arc h.there; is = h.is };
    back = λ arcs place h. let a = valued_there arcs place h.arc h.there in record { arc = a.0; there = a.1; is = subst (λ (b : Arc Cost ℕ). b.ilabel ≡ label) (sym a.2) h.is };
  }

  -- a weight past the range
  passes : (kind : ArcType) (t : Table Cost) → IsTied value (PassesRange kind value t) (PassesRange kind (λ w. w) t)
  passes kind t = record {
    to = λ arcs place h. record { arc = valued_arc value h.arc; there = value_there arcs place h.arc h.there; past = h.past };
    back = λ arcs place h. let a = valued_there arcs place h.arc h.there in record { arc = a.0; there = a.1; past = subst (λ (b : Arc Cost ℕ). InRange (decoded_arc kind t b).weight → ⊥) (sym a.2) h.past };
  }

-- what decoding a machine gives, decoding its values gives
pub Decodes-valued : {V : Type 0} (kind : ArcType) (value : V → Cost) (m : Machine V) (t : Table Cost) (r : Result (Machine Cost) DecodeFault) → Decodes kind value m t r → Decodes kind (λ w. w) (valued value m) t r
Decodes-valued kind value m t (Err (NotAcceptor state place)) h = first_valued value (two_labels value) m (Some (record { state = state; place = place })) h
Decodes-valued kind value m t (Err (NotInCodex label)) h = (first_valued value (two_labels value) m None h.0, h.1, first_valued value (outside value (length t.entries)) m (Some h.1) h.2, meets_valued value (has_label value label) m h.1.state h.1.place h.3)
Decodes-valued kind value m t (Err (Overflow state)) h = (first_valued value (two_labels value) m None h.0, first_valued value (outside value (length t.entries)) m None h.1, h.2, first_valued value (passes value kind t) m (Some (record { state = state; place = h.2 })) h.3)
Decodes-valued kind value m t (Err Memory) h = h
Decodes-valued kind value m t (Ok d) h = (first_valued value (two_labels value) m None h.0, first_valued value (outside value (length t.entries)) m None h.1, first_valued value (passes value kind t) m None h.2, h.3 ∙ ap (decoded kind t) (valued_costs (valued value m)))

-- and what decoding the values gives, decoding the machine gives
pub Decodes-unvalued : {V : Type 0} (kind : ArcType) (value : V → Cost) (m : Machine V) (t : Table Cost) (r : Result (Machine Cost) DecodeFault) → Decodes kind (λ w. w) (valued value m) t r → Decodes kind value m t r
Decodes-unvalued kind value m t (Err (NotAcceptor state place)) h = first_unvalued value (two_labels value) m (Some (record { state = state; place = place })) h
Decodes-unvalued kind value m t (Err (NotInCodex label)) h = (first_unvalued value (two_labels value) m None h.0, h.1, first_unvalued value (outside value (length t.entries)) m (Some h.1) h.2, meets_unvalued value (has_label value label) m h.1.state h.1.place h.3)
Decodes-unvalued kind value m t (Err (Overflow state)) h = (first_unvalued value (two_labels value) m None h.0, first_unvalued value (outside value (length t.entries)) m None h.1, h.2, first_unvalued value (passes value kind t) m (Some (record { state = state; place = h.2 })) h.3)
Decodes-unvalued kind value m t (Err Memory) h = h
Decodes-unvalued kind value m t (Ok d) h = (first_unvalued value (two_labels value) m None h.0, first_unvalued value (outside value (length t.entries)) m None h.1, first_unvalued value (passes value kind t) m None h.2, h.3 ∙ ap (decoded kind t) (sym (valued_costs (valued value m))))
