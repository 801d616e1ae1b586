-- `encode` has one outcome.
use Rattle.std.proofs.Common.{◌≡◌, ◌⊎◌, inl, inr, Bool, true, false, Option, None, Some, Result, Ok, Err, sym, refl, ap, ◌∙◌}
use Rattle.fst_semiring.specs.declared.arc_type.ArcType.{ArcType}
use Rattle.fst_semiring.specs.Cost.{Cost}
use Rattle.fst_machine.specs.Machine.{Machine}
use Rattle.fst_codex.specs.Decoded.{Decodes}
use Rattle.fst_codex.specs.Faults.{decode_text}
use Rattle.fst_codex.specs.Table.{Table}
use Rattle.fst_codex.specs.declared.decoding.DecodeFault.{DecodeFault}
use Rattle.fst_codex.specs.declared.decoding.DecodeFault.TheVariants as decoding
use Rattle.fst_codex.proofs.OneAnswer.{one_decoding, one_encoded}
use Rattle.fst_verbs.specs.Causes.{unmade}
use Rattle.fst_verbs.specs.Coding.{Encodes, IsCoded, coding_makes, coding_stops, for_codex}
use Rattle.fst_verbs.specs.Given.{Given}
use Rattle.fst_verbs.specs.Meaning.{answered, coded, machine, separation, text}
use Rattle.fst_verbs.specs.OneMeaning.{One}
use Rattle.fst_verbs.proofs.Deciding.{one_for_one, one_made}

one_for_codex : {X : Type 0} (says : X → Table Cost → Type 0) → ((t : Table Cost) → One (λ x. says x t)) → (codex : Option (Table Cost)) → One (λ x. for_codex codex (says x))
one_for_codex says only None x y one two = absurd one
one_for_codex says only (Some t) x y one two = only t x y one two

module _ (kind : ArcType) (m : Machine Cost) (t : Table Cost) where
  -- one fault of decoding, memory apart
  one_fault : (f h : DecodeFault) → Decodes kind (λ w. w) m t (Err f) → Decodes kind (λ w. w) m t (Err h) → (f ≡ decoding.Memory → ⊥) → (h ≡ decoding.Memory → ⊥) → f ≡ h
  one_fault f h one two first second = by (one_decoding kind (λ w. w) m t (Err f) (Err h) one two)
    where
      by : (◌≡◌ {A = Result (Machine Cost) DecodeFault} (Err f) (Err decoding.Memory)) ⊎ ((◌≡◌ {A = Result (Machine Cost) DecodeFault} (Err h) (Err decoding.Memory)) ⊎ (◌≡◌ {A = Result (Machine Cost) DecodeFault} (Err f) (Err h))) → f ≡ h
      by (inl e) = let same : f ≡ decoding.Memory = cc in absurd (first same)
      by (inr (inl e)) = let same : h ≡ decoding.Memory = cc in absurd (second same)
      by (inr (inr e)) = cc

  one_decoded : One (λ r. Decodes kind (λ w. w) m t (Ok r))
  one_decoded r q one two = by (one_decoding kind (λ w. w) m t (Ok r) (Ok q) one two)
    where
      by : (◌≡◌ {A = Result (Machine Cost) DecodeFault} (Ok r) (Err decoding.Memory)) ⊎ ((◌≡◌ {A = Result (Machine Cost) DecodeFault} (Ok q) (Err decoding.Memory)) ⊎ (◌≡◌ {A = Result (Machine Cost) DecodeFault} (Ok r) (Ok q))) → r ≡ q
      by (inl e) = absurd cc
      by (inr (inl e)) = absurd cc
      by (inr (inr e)) = cc

one_coded : (kind : ArcType) (weights : Bool) (m : Machine Cost) → One (IsCoded kind (λ table r. Encodes kind weights m r table))
one_coded kind weights m (coded k t r) (coded j u q) one two = let same = one_encoded kind weights m r q t u one.1.encodes two.1.encodes in rw (one.0, two.0, same.0, same.1) refl
one_coded kind weights m (coded k t r) (machine j q) one two = absurd two
one_coded kind weights m (coded k t r) (text bytes) one two = absurd two
one_coded kind weights m (coded k t r) (answered bytes e) one two = absurd two
one_coded kind weights m (coded k t r) (separation bytes) one two = absurd two
one_coded kind weights m (machine k r) other one two = absurd one
one_coded kind weights m (text bytes) other one two = absurd one
one_coded kind weights m (answered bytes e) other one two = absurd one
one_coded kind weights m (separation bytes) other one two = absurd one

pub one_coding_stops : (decode : Bool) (given : Given) → One (coding_stops decode given)
one_coding_stops false given = λ f h one two. absurd one
one_coding_stops true given = one_for_one _ (λ m. one_for_codex _ (λ t f h one two.
    one.3 ∙ (ap (λ (why : DecodeFault). unmade (decode_text why)) (one_fault given.kind m t one.0 two.0 one.1 two.1 one.2 two.2) ∙ sym two.3)) given.codex) given.machines

pub one_coding_makes : (decode weights : Bool) (given : Given) → One (coding_makes decode weights given)
one_coding_makes true weights given = one_for_one _ (λ m. one_for_codex _ (λ t. one_made given.kind _ (one_decoded given.kind m t)) given.codex) given.machines
one_coding_makes false weights given = one_for_one _ (λ m. one_coded given.kind weights m) given.machines
