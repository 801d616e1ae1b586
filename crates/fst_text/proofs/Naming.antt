-- Labels that are printed, and the first of them without a name.
use Rattle.std.proofs.Common.{◌≡◌, ℕ, Bool, true, false, cond, ◌&&◌, ◌||◌, List, [], ◌∷◌, ◌++◌, Option, Some, None, refl, sym, ap, ◌∙◌, true≢false}
use Rattle.std.specs.List.{AllByRecursion, flat_map}
use Rattle.std.specs.Option.{is_none, option_map}
use Rattle.std.proofs.lemmas.Grind.{flat_map-append}
use Rattle.fst_text.specs.declared.fault.PrintFault.{PrintFault}
use Rattle.fst_text.specs.declared.fault.PrintFault.TheVariants.{UnknownSymbol}
use Rattle.fst_text.specs.Options.{Options}
use Rattle.fst_symbols.specs.Symbols.{Symbol}
use Rattle.fst_text.specs.Entries.{Entry, arc_entry, final_entry}
use Rattle.fst_text.specs.Printed.{Label, first_unnamed, is_numbered, labels_of_entry, text_of_label, unnamed_label}

-- where all of the first labels have names, the others are asked
pub unnamed-behind : (xs ys : List Label) → first_unnamed xs ≡ None → first_unnamed (xs ++ ys) ≡ first_unnamed ys
unnamed-behind [] ys h = refl
unnamed-behind (x ∷ xs) ys h = go (text_of_label x) h (unnamed-behind xs ys) where
  go : (o : Option (List ℕ)) → ◌≡◌ {A = Option ℕ} (elim o [ None ↦ Some x.number | Some text ↦ first_unnamed xs ]) None → (first_unnamed xs ≡ None → first_unnamed (xs ++ ys) ≡ first_unnamed ys) → ◌≡◌ {A = Option ℕ} (elim o [ None ↦ Some x.number | Some text ↦ first_unnamed (xs ++ ys) ]) (first_unnamed ys)
  go None e more = absurd (cc)
  go (Some text) e more = more e

-- where one of the first labels has none, it is found
unnamed-front : (xs ys : List Label) (n : ℕ) → first_unnamed xs ≡ Some n → first_unnamed (xs ++ ys) ≡ Some n
unnamed-front [] ys n h = absurd (cc)
unnamed-front (x ∷ xs) ys n h = go (text_of_label x) h (unnamed-front xs ys n) where
  go : (o : Option (List ℕ)) → ◌≡◌ {A = Option ℕ} (elim o [ None ↦ Some x.number | Some text ↦ first_unnamed xs ]) (Some n) → (first_unnamed xs ≡ Some n → first_unnamed (xs ++ ys) ≡ Some n) → ◌≡◌ {A = Option ℕ} (elim o [ None ↦ Some x.number | Some text ↦ first_unnamed (xs ++ ys) ]) (Some n)
  go None e more = e
  go (Some text) e more = more e

-- where all labels have names, the first ones have, and the others
pub unnamed-both : (xs ys : List Label) → first_unnamed (xs ++ ys) ≡ None → (first_unnamed xs ≡ None) × (first_unnamed ys ≡ None)
unnamed-both [] ys h = (refl, h)
unnamed-both (x ∷ xs) ys h = go (text_of_label x) h (unnamed-both xs ys) where
  go : (o : Option (List ℕ)) → ◌≡◌ {A = Option ℕ} (elim o [ None ↦ Some x.number | Some text ↦ first_unnamed (xs ++ ys) ]) None → (first_unnamed (xs ++ ys) ≡ None → (first_unnamed xs ≡ None) × (first_unnamed ys ≡ None)) → (◌≡◌ {A = Option ℕ} (elim o [ None ↦ Some x.number | Some text ↦ first_unnamed xs ]) None) × (first_unnamed ys ≡ None)
  go None e more = absurd (cc)
  go (Some text) e more = more e

-- a fault of the first labels is one of all
fault-front : (fault : PrintFault) (xs ys : List Label) → option_map UnknownSymbol (first_unnamed xs) ≡ Some fault → option_map UnknownSymbol (first_unnamed (xs ++ ys)) ≡ Some fault
fault-front fault xs ys h = go (first_unnamed xs) refl h where
  go : (o : Option ℕ) → first_unnamed xs ≡ o → option_map UnknownSymbol o ≡ Some fault → option_map UnknownSymbol (first_unnamed (xs ++ ys)) ≡ Some fault
  go None e h = absurd (cc)
  go (Some n) e h = ap (option_map UnknownSymbol) (unnamed-front xs ys n e) ∙ h

-- the labels of entries one behind the other
labels-append : (options : Options) (first second : List Entry) → unnamed_label options (first ++ second) ≡ first_unnamed (flat_map (labels_of_entry options) first ++ flat_map (labels_of_entry options) second)
labels-append options first second = ap first_unnamed (flat_map-append (labels_of_entry options) first second)

pub entries-behind : (options : Options) (first second : List Entry) → unnamed_label options first ≡ None → unnamed_label options (first ++ second) ≡ unnamed_label options second
entries-behind options first second h = labels-append options first second ∙ unnamed-behind (flat_map (labels_of_entry options) first) (flat_map (labels_of_entry options) second) h

pub entries-front : (fault : PrintFault) (options : Options) (first second : List Entry) → option_map UnknownSymbol (unnamed_label options first) ≡ Some fault → option_map UnknownSymbol (unnamed_label options (first ++ second)) ≡ Some fault
entries-front fault options first second h = ap (option_map UnknownSymbol) (labels-append options first second) ∙ fault-front fault (flat_map (labels_of_entry options) first) (flat_map (labels_of_entry options) second) h

-- a fault of what is found first
pub fault-as : (fault : PrintFault) (o p : Option ℕ) → o ≡ p → option_map UnknownSymbol o ≡ Some fault → option_map UnknownSymbol p ≡ Some fault
fault-as fault o p e h = ap (option_map UnknownSymbol) (sym e) ∙ h

-- a fault of entries behind others that have none
pub entries-later : (fault : PrintFault) (options : Options) (first second : List Entry) → unnamed_label options first ≡ None → option_map UnknownSymbol (unnamed_label options second) ≡ Some fault → option_map UnknownSymbol (unnamed_label options (first ++ second)) ≡ Some fault
entries-later fault options first second none h = fault-as fault (unnamed_label options second) (unnamed_label options (first ++ second)) (sym (entries-behind options first second none)) h

-- where no label of entries is without a name, none of any entry is
pub all-named : (options : Options) (es : List Entry) → unnamed_label options es ≡ None → AllByRecursion (λ e. first_unnamed (labels_of_entry options e) ≡ None) es
all-named options [] h = tt
all-named options (e ∷ es) h =
    let both = unnamed-both (labels_of_entry options e) (flat_map (labels_of_entry options) es) h in
    (both.0, all-named options es both.1)

-- where labels are printed as numbers, none is without a name
number-named : (options : Options) → is_numbered options ≡ true → (e : Entry) → first_unnamed (labels_of_entry options e) ≡ None
number-named options h (final_entry q w) = refl
number-named options h (arc_entry q a) = go options.acceptor options.isymbols options.osymbols h where
  go : (acceptor : Bool) (input output : Option (List Symbol)) → is_none input && (acceptor || is_none output) ≡ true → first_unnamed (cond acceptor (record { symbols = input; number = a.ilabel } ∷ []) (record { symbols = input; number = a.ilabel } ∷ record { symbols = output; number = a.olabel } ∷ [])) ≡ None
  go true None output h = refl
  go true (Some symbols) output h = absurd (true≢false (sym h))
  go false None None h = refl
  go false None (Some symbols) h = absurd (true≢false (sym h))
  go false (Some symbols) output h = absurd (true≢false (sym h))

pub numbers-named : (options : Options) → is_numbered options ≡ true → (es : List Entry) → unnamed_label options es ≡ None
numbers-named options h [] = refl
numbers-named options h (e ∷ es) = unnamed-behind (labels_of_entry options e) (flat_map (labels_of_entry options) es) (number-named options h e) ∙ numbers-named options h es
