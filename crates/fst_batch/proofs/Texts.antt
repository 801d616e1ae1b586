-- What paths write, label by label and path by path.
use Rattle.std.proofs.Common.{◌≡◌, ◌⊎◌, inl, inr, ℕ, zero, suc, ◌+◌, ◌≤◌, Bool, true, false, true≢false, List, [], ◌∷◌, ◌++◌, Option, None, Some, if◌then◌else◌, length, map, drop, take, slice_get, refl, sym, ap, ap₂, ◌∙◌, subst, append-nil, append_assoc}
use Rattle.std.specs.Prelude.{is_some}
use Rattle.std.proofs.lemmas.Grind.{flat_map-append}
use Rattle.std.proofs.lemmas.List.{drop_all, map-append, take_all, take_more}
use Rattle.std.proofs.lemmas.Option.{get_or_from_slice_get, slice_get_within}
use Rattle.fst_semiring.specs.Cost.{Cost}
use Rattle.fst_semiring.specs.Semiring.{InRange}
use Rattle.fst_semiring.specs.declared.arc_type.ArcType.{ArcType}
use Rattle.fst_machine.specs.BreadthFirst.{Has}
use Rattle.fst_machine.specs.Letters.{Letter, before, output}
use Rattle.fst_machine.proofs.Elements.{Has-append_cases}
use Rattle.fst_nbest.specs.Chains.{Chain}
use Rattle.fst_nbest.proofs.Remaining.{drop_at}
use Rattle.fst_batch.specs.BestPaths.{Told, first_not_text, is_text, valued_told}
use Rattle.fst_batch.specs.ToldChains.{AreInRange, chain_labels, chain_told, chain_weight}

-- ---- one path

module _ (letters : List Letter) (i : ℕ) (l : Letter) (at : slice_get letters i ≡ Some l) where
  written_more : output (drop i letters) ≡ before l.olabel (output (drop (i + 1) letters))
  written_more = ap output (drop_at letters i l at)

  -- an arc that writes nothing
  silent_rest : l.olabel ≡ 0 → output (drop i letters) ≡ output (drop (i + 1) letters)
  silent_rest none = written_more ∙ ap (λ (k : ℕ). before k (output (drop (i + 1) letters))) none

  -- an arc that writes a label
  spoken_rest : (l.olabel ≡ 0 → ⊥) → output (drop i letters) ≡ l.olabel ∷ output (drop (i + 1) letters)
  spoken_rest some = written_more ∙ by l.olabel refl
    where
      by : (k : ℕ) → l.olabel ≡ k → before k (output (drop (i + 1) letters)) ≡ k ∷ output (drop (i + 1) letters)
      by zero is = absurd (some is)
      by (suc k) is = refl

  module _ (text whole : List ℕ) (so_far : text ++ output (drop i letters) ≡ whole) where
    pub text_silent : l.olabel ≡ 0 → text ++ output (drop (i + 1) letters) ≡ whole
    text_silent none = ap (λ (xs : List ℕ). text ++ xs) (sym (silent_rest none)) ∙ so_far

    pub text_spoken : (new : List ℕ) → (l.olabel ≡ 0 → ⊥) → new ≡ text ++ l.olabel ∷ [] → new ++ output (drop (i + 1) letters) ≡ whole
    text_spoken new some put =
        ap (λ (xs : List ℕ). xs ++ output (drop (i + 1) letters)) put ∙ (append_assoc text (l.olabel ∷ []) (output (drop (i + 1) letters)) ∙ (ap (λ (xs : List ℕ). text ++ xs) (sym (spoken_rest some)) ∙ so_far))

  module _ (o : Option ℕ) (so_far : first_not_text (output (drop i letters)) ≡ o) where
    pub first_silent : l.olabel ≡ 0 → first_not_text (output (drop (i + 1) letters)) ≡ o
    first_silent none = ap first_not_text (sym (silent_rest none)) ∙ so_far

    pub first_spoken : (l.olabel ≡ 0 → ⊥) → is_text l.olabel ≡ true → first_not_text (output (drop (i + 1) letters)) ≡ o
    first_spoken some fine =
        sym (ap (λ (b : Bool). if b then first_not_text (output (drop (i + 1) letters)) else Some l.olabel) fine) ∙ (ap first_not_text (sym (spoken_rest some)) ∙ so_far)

    pub first_wrong : (l.olabel ≡ 0 → ⊥) → is_text l.olabel ≡ false → o ≡ Some l.olabel
    first_wrong some wrong =
        sym so_far ∙ (ap first_not_text (spoken_rest some) ∙ ap (λ (b : Bool). if b then first_not_text (output (drop (i + 1) letters)) else Some l.olabel) wrong)

-- at the end of a path nothing is left
pub text_done : (letters : List Letter) (i : ℕ) (text whole : List ℕ) → length letters ≤ i → text ++ output (drop i letters) ≡ whole → text ≡ whole
text_done letters i text whole past so_far = sym (append-nil text) ∙ (ap (λ (ls : List Letter). text ++ output ls) (sym (drop_all i letters past)) ∙ so_far)

pub first_done : (letters : List Letter) (i : ℕ) (o : Option ℕ) → length letters ≤ i → first_not_text (output (drop i letters)) ≡ o → o ≡ None
first_done letters i o past so_far = sym so_far ∙ ap (λ (ls : List Letter). first_not_text (output ls)) (drop_all i letters past)

-- ---- path by path

first_append : (xs ys : List ℕ) → first_not_text xs ≡ None → first_not_text (xs ++ ys) ≡ first_not_text ys
first_append [] ys none = refl
first_append (x ∷ xs) ys none = by (is_text x) none (first_append xs ys)
  where
    by : (b : Bool) → (if b then first_not_text xs else Some x) ≡ None → (first_not_text xs ≡ None → first_not_text (xs ++ ys) ≡ first_not_text ys) → (if b then first_not_text (xs ++ ys) else Some x) ≡ first_not_text ys
    by true e more = more e
    by false e more = absurd (cc)

first_kept : (xs ys : List ℕ) (label : ℕ) → first_not_text xs ≡ Some label → first_not_text (xs ++ ys) ≡ Some label
first_kept [] ys label some = absurd (cc)
first_kept (x ∷ xs) ys label some = by (is_text x) some (first_kept xs ys label)
  where
    by : (b : Bool) → (if b then first_not_text xs else Some x) ≡ Some label → (first_not_text xs ≡ Some label → first_not_text (xs ++ ys) ≡ Some label) → (if b then first_not_text (xs ++ ys) else Some x) ≡ Some label
    by true e more = more e
    by false e more = e

module _ (kind : ArcType) (chains : List Chain) (i : ℕ) (c : Chain) (at : slice_get chains i ≡ Some c) where
  front_more : take (i + 1) chains ≡ take i chains ++ c ∷ []
  front_more = take_more chains i c (slice_get_within chains i c at) ∙ ap (λ (d : Chain). take i chains ++ d ∷ []) (get_or_from_slice_get chains i c c at)

  labels_more : chain_labels (take (i + 1) chains) ≡ chain_labels (take i chains) ++ output c.letters
  labels_more = ap chain_labels front_more ∙ (flat_map-append (λ (d : Chain). output d.letters) (take i chains) (c ∷ []) ∙ ap (λ (xs : List ℕ). chain_labels (take i chains) ++ xs) (append-nil (output c.letters)))

  -- one more weight is in range
  pub range_more : AreInRange kind (take i chains) → InRange (chain_weight kind c) → AreInRange kind (take (i + 1) chains)
  range_more range own d has = by (Has-append_cases (take i chains) (c ∷ []) d (subst (λ (ds : List Chain). Has ds d) front_more has))
    where
      by : Has (take i chains) d ⊎ Has (c ∷ []) d → InRange (chain_weight kind d)
      by (inl h) = range d h
      by (inr (inl e)) = subst (λ (z : Chain). InRange (chain_weight kind z)) e own
      by (inr (inr none)) = absurd none

  -- a label that is no text was found before, is found now, or is not found
  pub wrong_before : (label : ℕ) → Some label ≡ first_not_text (chain_labels (take i chains)) → Some label ≡ first_not_text (chain_labels (take (i + 1) chains))
  wrong_before label found = sym (ap first_not_text labels_more ∙ first_kept (chain_labels (take i chains)) (output c.letters) label (sym found))

  pub wrong_now : (o : Option ℕ) → None ≡ first_not_text (chain_labels (take i chains)) → first_not_text (output c.letters) ≡ o → o ≡ first_not_text (chain_labels (take (i + 1) chains))
  wrong_now o none own = sym own ∙ sym (ap first_not_text labels_more ∙ first_append (chain_labels (take i chains)) (output c.letters) (sym none))

  -- one more is told
  pub told_more : {V : Type 0} (value : V → Cost) (told new : List (Told V)) (t : Told V) → map (valued_told value) told ≡ map (chain_told kind) (take i chains) → new ≡ told ++ t ∷ [] → valued_told value t ≡ chain_told kind c
      → map (valued_told value) new ≡ map (chain_told kind) (take (i + 1) chains)
  told_more value told new t so_far put own =
      ap (map (valued_told value)) put ∙ (map-append (valued_told value) told (t ∷ []) ∙ (ap₂ (λ xs y. xs ++ y ∷ []) so_far own ∙ (sym (map-append (chain_told kind) (take i chains) (c ∷ [])) ∙ ap (map (chain_told kind)) (sym front_more))))

-- a label that was found stays
pub wrong_stays : (kind : ArcType) (chains : List Chain) (i : ℕ) (c : Chain) → slice_get chains i ≡ Some c → (o : Option ℕ) → is_some o ≡ true → o ≡ first_not_text (chain_labels (take i chains)) → o ≡ first_not_text (chain_labels (take (i + 1) chains))
wrong_stays kind chains i c at None some found = absurd (true≢false (sym some))
wrong_stays kind chains i c at (Some label) some found = wrong_before kind chains i c at label found

pub none_known : {X : Type 0} (o : Option X) → is_some o ≡ false → o ≡ None
none_known None is = refl
none_known (Some x) is = absurd (true≢false is)

pub some_known : {X : Type 0} (o : Option X) → is_some o ≡ true → o ≡ None → ⊥
some_known None is none = true≢false (sym is)
some_known {X} (Some x) is none = let wrong : ◌≡◌ {A = Option X} None (Some x) = sym none in absurd (cc)

-- at the end of the list
pub all_known : (kind : ArcType) (chains : List Chain) (i : ℕ) → length chains ≤ i → AreInRange kind (take i chains) → AreInRange kind chains
all_known kind chains i over range = subst (AreInRange kind) (take_all i chains over) range

pub wrong_known : (chains : List Chain) (i : ℕ) → length chains ≤ i → (o p : Option ℕ) → o ≡ first_not_text (chain_labels (take i chains)) → o ≡ p → first_not_text (chain_labels chains) ≡ p
wrong_known chains i over o p found is = ap (λ (cs : List Chain). first_not_text (chain_labels cs)) (sym (take_all i chains over)) ∙ (sym found ∙ is)

pub told_known : {V : Type 0} (kind : ArcType) (value : V → Cost) (chains : List Chain) (i : ℕ) → length chains ≤ i → (told : List (Told V)) → map (valued_told value) told ≡ map (chain_told kind) (take i chains) → map (valued_told value) told ≡ map (chain_told kind) chains
told_known kind value chains i over told so_far = so_far ∙ ap (map (chain_told kind)) (take_all i chains over)

-- what is told of a path
pub own_told : {V : Type 0} (kind : ArcType) (value : V → Cost) (c : Chain) (weight : V) (empty text : List ℕ) → value weight ≡ chain_weight kind c → empty ≡ [] → text ≡ empty ++ output c.letters
    → valued_told value (record { weight = weight; text = text }) ≡ chain_told kind c
own_told kind value c weight empty text weighs none put =
    let says : text ≡ output c.letters = put ∙ ap (λ (xs : List ℕ). xs ++ output c.letters) none in
    λ i. record { weight = weighs i; text = says i }
