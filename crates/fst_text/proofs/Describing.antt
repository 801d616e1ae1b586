-- A printed machine is compiled to the machine.
use Rattle.std.proofs.Common.{◌≡◌, ℕ, ◌+◌, ◌-◌, ◌<◌, ◌≤◌, ◌==◌, zero, suc, max, Bool, true, false, cond, List, [], ◌∷◌, ◌++◌, length, map, Option, Some, None, Result, Ok, Err, refl, sym, ap, ◌∙◌, subst, arith}
use Rattle.std.specs.Prelude.{IsSome, IfSome, get_or}
use Rattle.std.specs.List.{All, AllByRecursion, flat_map, slice_get}
use Rattle.std.specs.Option.{option_map}
use Rattle.std.proofs.lemmas.List.Elements.{recursion_from_All}
use Rattle.std.proofs.lemmas.List.Sums.{sum_by-cons}
use Rattle.std.proofs.lemmas.Option.{slice_get-get_or, slice_get_within}
use Rattle.std.proofs.lemmas.Bool.{eq-eqb}
use Rattle.fst_semiring.specs.declared.arc_type.ArcType.{ArcType}
use Rattle.fst_semiring.specs.Cost.{Cost, infinite, is_infinite}
use Rattle.fst_machine.specs.Machine.{Arc, IsArc, Machine, State, arc_total, bare_state, most_arcs, most_states}
use Rattle.fst_text.specs.declared.fault.PrintFault.{PrintFault}
use Rattle.fst_text.specs.declared.fault.PrintFault.TheVariants.{NotAcceptor, UnknownSymbol}
use Rattle.fst_text.specs.declared.fault.TextFault.{TextFault}
use Rattle.fst_text.specs.Options.{HasTables, Options}
use Rattle.fst_text.specs.Entries.{Entry, above, arc_count, arc_entry, arcs_from, final_entry, first_in, from_zero, machine_of_entries, machine_over, place_in, placed, state_of, states_named}
use Rattle.fst_fields.specs.Reading.{◌>>=◌}
use Rattle.fst_text.specs.Grammar.{entries_of_lines, machine_of_text}
use Rattle.fst_text.specs.Laws.{CompilesBack, IsWeight}
use Rattle.fst_text.specs.Printed.{entries_at, entries_of_machine, fields_of_entry, final_entries, other_entries, refusal, split_arc, split_machine, split_state, state_entries, text_of_entries, text_of_machine, unnamed_label}
use Rattle.fst_text.proofs.Numbers.{equal_is, place_in-from_zero}
use Rattle.fst_text.proofs.EntryTexts.{GoodArc, GoodEntry, IsNamed, fields-good}
use Rattle.fst_text.proofs.Naming.{all-named}
use Rattle.fst_text.proofs.TextLines.{IsWord, lines-read}
use Rattle.fst_text.proofs.Rereading.{above-append, arc_count-append, entries-read, named-append}
use Rattle.fst_text.proofs.MachineEntries.{machine-says, map-from_zero}

-- a state that may be printed
abbrev GoodState : ArcType → Options → ℕ → State Cost → Type 0
GoodState kind options states s = AllByRecursion (GoodArc kind options states) s.arcs × IsWeight kind s.final

arcs-good : (kind : ArcType) (options : Options) (states q place : ℕ) (arcs : List (Arc Cost ℕ)) → AllByRecursion (IsArc (λ v. v) states) arcs → AllByRecursion (λ a. IsWeight kind a.weight) arcs → (options.acceptor ≡ true → split_arc q place arcs ≡ None) → AllByRecursion (GoodArc kind options states) arcs
arcs-good kind options states q place [] h w one = tt
arcs-good kind options states q place (a ∷ arcs) h w one =
    let labels : (acceptor : options.acceptor ≡ true) → (a.ilabel ≡ a.olabel) × (split_arc q (place + 1) arcs ≡ None) = λ acceptor. go (a.ilabel == a.olabel) refl (one acceptor) in
    let good = h.0 in (
      record { ilabel = good.ilabel; olabel = good.olabel; weight = good.weight; next = good.next; value = w.0; same = λ acceptor. (labels acceptor).0 },
      arcs-good kind options states q (place + 1) arcs h.1 w.1 (λ acceptor. (labels acceptor).1),
    ) where
      go : (same : Bool) → (a.ilabel == a.olabel) ≡ same → cond same (split_arc q (place + 1) arcs) (Some (NotAcceptor q place)) ≡ None → (a.ilabel ≡ a.olabel) × (split_arc q (place + 1) arcs ≡ None)
      go true e none = (equal_is a.ilabel a.olabel e, none)
      go false e none = absurd (cc)

states-good : (kind : ArcType) (options : Options) (count q : ℕ) (states : List (State Cost)) → AllByRecursion (λ s. All (IsArc (λ v. v) count) s.arcs) states → AllByRecursion (λ s. All (λ a. IsWeight kind a.weight) s.arcs) states → AllByRecursion (λ s. IsWeight kind s.final) states → (options.acceptor ≡ true → split_state q states ≡ None) → AllByRecursion (GoodState kind options count) states
states-good kind options count q [] h w f one = tt
states-good kind options count q (s ∷ states) h w f one =
    let split : (acceptor : options.acceptor ≡ true) → (split_arc q 0 s.arcs ≡ None) × (split_state (q + 1) states ≡ None) = λ acceptor. go (split_arc q 0 s.arcs) (one acceptor) in (
      (arcs-good kind options count q 0 s.arcs (recursion_from_All (IsArc (λ v. v) count) s.arcs h.0) (recursion_from_All (λ a. IsWeight kind a.weight) s.arcs w.0) (λ acceptor. (split acceptor).0), f.0),
      states-good kind options count (q + 1) states h.1 w.1 f.1 (λ acceptor. (split acceptor).1),
    ) where
      go : (o : Option PrintFault) → ◌≡◌ {A = Option PrintFault} (elim o [ None ↦ split_state (q + 1) states | Some fault ↦ Some fault ]) None → (o ≡ None) × (split_state (q + 1) states ≡ None)
      go None none = (refl, none)
      go (Some fault) none = absurd (cc)

all-append : {X : Type 0} (P : X → Type 0) (xs ys : List X) → AllByRecursion P xs → AllByRecursion P ys → AllByRecursion P (xs ++ ys)
all-append P [] ys h g = g
all-append P (x ∷ xs) ys h g = (h.0, all-append P xs ys h.1 g)

arc-entries-good : (kind : ArcType) (options : Options) (count q : ℕ) (arcs : List (Arc Cost ℕ)) → q < count → AllByRecursion (GoodArc kind options count) arcs → AllByRecursion (GoodEntry kind options count) (map (arc_entry q) arcs)
arc-entries-good kind options count q [] low h = tt
arc-entries-good kind options count q (a ∷ arcs) low h = ((low, h.0), arc-entries-good kind options count q arcs low h.1)

final-entries-good : (kind : ArcType) (options : Options) (count q : ℕ) (w : Cost) (arcs : List (Arc Cost ℕ)) → q < count → IsWeight kind w → AllByRecursion (GoodEntry kind options count) (final_entries q w arcs)
final-entries-good kind options count q w [] low h = ((low, h), tt)
final-entries-good kind options count q w (a ∷ arcs) low h = go (is_infinite w) where
  go : (zero_is : Bool) → AllByRecursion (GoodEntry kind options count) (cond zero_is [] (final_entry q w ∷ []))
  go true = tt
  go false = ((low, h), tt)

state-entries-good : (kind : ArcType) (options : Options) (count q : ℕ) (s : State Cost) → q < count → GoodState kind options count s → AllByRecursion (GoodEntry kind options count) (state_entries q s)
state-entries-good kind options count q s low h = all-append (GoodEntry kind options count) (map (arc_entry q) s.arcs) (final_entries q s.final s.arcs) (arc-entries-good kind options count q s.arcs low h.0) (final-entries-good kind options count q s.final s.arcs low h.1)

others-good : (kind : ArcType) (options : Options) (count start k : ℕ) (states : List (State Cost)) → k + length states ≤ count → AllByRecursion (GoodState kind options count) states → AllByRecursion (GoodEntry kind options count) (other_entries start k states)
others-good kind options count start k [] low h = tt
others-good kind options count start k (s ∷ states) low h = all-append (GoodEntry kind options count) (cond (k == start) [] (state_entries k s)) (other_entries start (k + 1) states) (go (k == start)) (others-good kind options count start (k + 1) states (omega arith) h.1) where
  go : (skip : Bool) → AllByRecursion (GoodEntry kind options count) (cond skip [] (state_entries k s))
  go true = tt
  go false = state-entries-good kind options count k s (omega arith) h.0

good-at : (P : State Cost → Type 0) (states : List (State Cost)) (i : ℕ) (s : State Cost) → AllByRecursion P states → slice_get states i ≡ Some s → P s
good-at P [] i s h e = absurd (cc)
good-at P (t ∷ states) zero s h e = let same : t ≡ s = cc in subst P same h.0
good-at P (t ∷ states) (suc i) s h e = good-at P states i s h.1 e

-- the arcs are counted
count-arcs : (q : ℕ) (arcs : List (Arc Cost ℕ)) → arc_count (map (arc_entry q) arcs) ≡ length arcs
count-arcs q [] = refl
count-arcs q (a ∷ arcs) = ap suc (count-arcs q arcs)

count-final : (q : ℕ) (w : Cost) (arcs : List (Arc Cost ℕ)) → arc_count (final_entries q w arcs) ≡ 0
count-final q w [] = refl
count-final q w (a ∷ arcs) = go (is_infinite w) where
  go : (zero_is : Bool) → arc_count (cond zero_is [] (final_entry q w ∷ [])) ≡ 0
  go true = refl
  go false = refl

count-state : (q : ℕ) (s : State Cost) → arc_count (state_entries q s) ≡ length s.arcs
count-state q s =
    let both = arc_count-append (map (arc_entry q) s.arcs) (final_entries q s.final s.arcs) in
    let arcs = count-arcs q s.arcs in
    let last = count-final q s.final s.arcs in
    omega arith

total-cons : (s : State Cost) (states : List (State Cost)) → arc_total (s ∷ states) ≡ length s.arcs + arc_total states
total-cons s states = sum_by-cons (λ (t : State Cost). length t.arcs) s states

count-others : (start k : ℕ) (states : List (State Cost)) → arc_count (other_entries start k states) ≤ arc_total states
count-others start k [] = omega arith
count-others start k (s ∷ states) =
    let total = total-cons s states in
    let rest = count-others start (k + 1) states in
    let both = arc_count-append (cond (k == start) [] (state_entries k s)) (other_entries start (k + 1) states) in
    let first : arc_count (cond (k == start) [] (state_entries k s)) ≤ length s.arcs = go (k == start) in
    omega arith where
      go : (skip : Bool) → arc_count (cond skip [] (state_entries k s)) ≤ length s.arcs
      go true = omega arith
      go false = let e = count-state k s in omega arith

count-with : (start k i : ℕ) (states : List (State Cost)) (s : State Cost) → slice_get states i ≡ Some s → k + i ≡ start → arc_count (other_entries start k states) + length s.arcs ≤ arc_total states
count-with start k i [] s h at = absurd (cc)
count-with start k zero (t ∷ states) s h at =
    let same : t ≡ s = cc in
    let long : length t.arcs ≡ length s.arcs = ap (λ (u : State Cost). length u.arcs) same in
    let total = total-cons t states in
    let rest = count-others start (k + 1) states in
    let skip : arc_count (cond (k == start) [] (state_entries k t) ++ other_entries start (k + 1) states) ≡ arc_count (other_entries start (k + 1) states) = ap (λ b. arc_count (cond b [] (state_entries k t) ++ other_entries start (k + 1) states)) (eq-eqb k start (omega arith)) in
    omega arith
count-with start k (suc i) (t ∷ states) s h at =
    let total = total-cons t states in
    let rest = count-with start (k + 1) i states s h (omega arith) in
    let both = arc_count-append (cond (k == start) [] (state_entries k t)) (other_entries start (k + 1) states) in
    let first : arc_count (cond (k == start) [] (state_entries k t)) ≤ length t.arcs = go (k == start) in
    omega arith where
      go : (skip : Bool) → arc_count (cond skip [] (state_entries k t)) ≤ length t.arcs
      go true = omega arith
      go false = let e = count-state k t in omega arith

-- which states are named
named-below : (kind : ArcType) (options : Options) (count : ℕ) (es : List Entry) → AllByRecursion (GoodEntry kind options count) es → above (flat_map states_named es) ≤ count
named-below kind options count [] h = omega arith
named-below kind options count (arc_entry s a ∷ es) h = let rest = named-below kind options count es h.1 in let low = h.0.0 in let next = h.0.1.next in omega arith
named-below kind options count (final_entry s w ∷ es) h = let rest = named-below kind options count es h.1 in let low = h.0.0 in omega arith

named-state : (q : ℕ) (w : Cost) (arcs : List (Arc Cost ℕ)) → q + 1 ≤ above (flat_map states_named (map (arc_entry q) arcs ++ final_entries q w arcs))
named-state q w [] = omega arith
named-state q w (a ∷ arcs) = omega arith

named-others : (start k i : ℕ) (states : List (State Cost)) (s : State Cost) → slice_get states i ≡ Some s → (k + i ≡ start → ⊥) → k + i + 1 ≤ above (flat_map states_named (other_entries start k states))
named-others start k i [] s h apart = absurd (cc)
named-others start k zero (t ∷ states) s h apart =
    let first = cond (k == start) [] (state_entries k t) in
    let behind = other_entries start (k + 1) states in
    let both = ap above (named-append first behind) ∙ above-append (flat_map states_named first) (flat_map states_named behind) in
    let named : k + 1 ≤ above (flat_map states_named first) = go (k == start) refl in
    omega arith where
      go : (skip : Bool) → (k == start) ≡ skip → k + 1 ≤ above (flat_map states_named (cond skip [] (state_entries k t)))
      go true e = absurd (apart (let same = equal_is k start e in omega arith))
      go false e = named-state k t.final t.arcs
named-others start k (suc i) (t ∷ states) s h apart =
    let first = cond (k == start) [] (state_entries k t) in
    let behind = other_entries start (k + 1) states in
    let both = ap above (named-append first behind) ∙ above-append (flat_map states_named first) (flat_map states_named behind) in
    let rest = named-others start (k + 1) i states s h (λ e. apart (omega arith)) in
    omega arith

named-machine : (start i : ℕ) (states : List (State Cost)) (first s : State Cost) → slice_get states i ≡ Some s → i + 1 ≤ above (flat_map states_named (state_entries start first ++ other_entries start 0 states))
named-machine start i states first s h =
    let both = ap above (named-append (state_entries start first) (other_entries start 0 states)) ∙ above-append (flat_map states_named (state_entries start first)) (flat_map states_named (other_entries start 0 states)) in
    let own = named-state start first.final first.arcs in
    go (i == start) refl both own where
      go : (here : Bool) → (i == start) ≡ here → above (flat_map states_named (state_entries start first ++ other_entries start 0 states)) ≡ max (above (flat_map states_named (state_entries start first))) (above (flat_map states_named (other_entries start 0 states))) → start + 1 ≤ above (flat_map states_named (state_entries start first)) → i + 1 ≤ above (flat_map states_named (state_entries start first ++ other_entries start 0 states))
      go true e both own = let same = equal_is i start e in omega arith
      go false e both own = let rest = named-others start 0 i states s h (λ same. absurd (let t = eq-eqb i start (omega arith) in cc)) in omega arith

-- the first state named
first-state : (q : ℕ) (w : Cost) (arcs : List (Arc Cost ℕ)) (es : List Entry) → first_in (flat_map states_named ((map (arc_entry q) arcs ++ final_entries q w arcs) ++ es)) ≡ Some q
first-state q w [] es = refl
first-state q w (a ∷ arcs) es = refl

arcs-placed : (kind : ArcType) (options : Options) (count : ℕ) (arcs : List (Arc Cost ℕ)) → AllByRecursion (GoodArc kind options count) arcs → map (placed (from_zero count)) arcs ≡ arcs
arcs-placed kind options count [] h = refl
arcs-placed kind options count (a ∷ arcs) h =
    let good = h.0 in
    ap (λ (p : ℕ). record { ilabel = a.ilabel; olabel = a.olabel; weight = a.weight; next = p } ∷ map (placed (from_zero count)) arcs) (place_in-from_zero count a.next good.next) ∙ ap (λ xs. a ∷ xs) (arcs-placed kind options count arcs h.1)

-- the entries of a machine with a start make the machine
machine-back : (kind : ArcType) (options : Options) (start : ℕ) (states : List (State Cost)) (first : State Cost) → slice_get states start ≡ Some first → AllByRecursion (GoodState kind options (length states)) states → machine_of_entries true (state_entries start first ++ other_entries start 0 states) ≡ record { start = Some start; states = states }
machine-back kind options start states first h good =
    let es = state_entries start first ++ other_entries start 0 states in
    let count = length states in
    let low = slice_get_within states start first h in
    let all : AllByRecursion (GoodEntry kind options count) es = all-append (GoodEntry kind options count) (state_entries start first) (other_entries start 0 states) (state-entries-good kind options count start first low (good-at (GoodState kind options count) states start first good h)) (others-good kind options count start 0 states (omega arith) good) in
    let below = named-below kind options count es all in
    let last : suc (count - 1) ≡ count = omega arith in
    let there = slice_get-get_or states (count - 1) first (omega arith) in
    let reaches = named-machine start (count - 1) states first (get_or states (count - 1) first) there in
    let named : above (flat_map states_named es) ≡ count = omega arith in
    let ns = from_zero count in
    let each : (i : ℕ) (s : State Cost) → slice_get states i ≡ Some s → state_of ns es i ≡ s = λ i s e.
    let says = machine-says start states first i s h e in
    let goods = good-at (GoodState kind options count) states i s good e in
    ap (λ (w : Cost). record { final = w; arcs = map (placed ns) (arcs_from i es) }) says.final
    ∙ ap (λ (arcs : List (Arc Cost ℕ)). record { final = s.final; arcs = arcs }) (ap (map (placed ns)) says.arcs ∙ arcs-placed kind options count s.arcs goods.0) in
    let begins : option_map (place_in ns) (first_in (flat_map states_named es)) ≡ Some start = ap (option_map (place_in ns)) (first-state start first.final first.arcs (other_entries start 0 states)) ∙ ap (λ (p : ℕ). Some p) (place_in-from_zero count start low) in
    ap (λ (n : ℕ). machine_over (from_zero n) es) named
    ∙ ap (λ (o : Option ℕ). record { start = o; states = map (state_of ns es) ns }) begins
    ∙ ap (λ (ss : List (State Cost)). record { start = Some start; states = ss }) (map-from_zero (state_of ns es) states first each)

-- a text is that of the entries, where nothing is refused
printed : (kind : ArcType) (options : Options) (m : Machine Cost) (text : List ℕ) → text_of_machine kind options m ≡ Ok text → (refusal options m ≡ None) × (text ≡ text_of_entries kind options (entries_of_machine m))
printed kind options m text h = go (refusal options m) h where
  go : (o : Option PrintFault) → ◌≡◌ {A = Result (List ℕ) PrintFault} (elim o [ None ↦ Ok (text_of_entries kind options (entries_of_machine m)) | Some fault ↦ Err fault ]) (Ok text) → (o ≡ None) × (text ≡ text_of_entries kind options (entries_of_machine m))
  go None e = (refl, cc)
  go (Some fault) e = absurd (cc)

-- and then no arc is split and no label is without a name
unrefused : (options : Options) (m : Machine Cost) → refusal options m ≡ None → (split_machine options m ≡ None) × (unnamed_label options (entries_of_machine m) ≡ None)
unrefused options m h = go (split_machine options m) h where
  named : (o : Option ℕ) → option_map UnknownSymbol o ≡ None → o ≡ None
  named None e = refl
  named (Some label) e = absurd (cc)

  go : (o : Option PrintFault) → ◌≡◌ {A = Option PrintFault} (elim o [ None ↦ option_map UnknownSymbol (unnamed_label options (entries_of_machine m)) | Some fault ↦ Some fault ]) None → (o ≡ None) × (unnamed_label options (entries_of_machine m) ≡ None)
  go None e = (refl, named (unnamed_label options (entries_of_machine m)) e)
  go (Some fault) e = absurd (cc)

accepts : (options : Options) (states : List (State Cost)) → cond options.acceptor (split_state 0 states) None ≡ None → options.acceptor ≡ true → split_state 0 states ≡ None
accepts options states h e = sym (ap (λ b. cond b (split_state 0 states) None) e) ∙ h

fields-all : (kind : ArcType) (options : Options) (count : ℕ) (es : List Entry) → HasTables options → count ≤ most_states → AllByRecursion (GoodEntry kind options count) es → AllByRecursion (IsNamed options) es → AllByRecursion (λ e. AllByRecursion IsWord (fields_of_entry kind options e)) es
fields-all kind options count [] tables few h named = tt
fields-all kind options count (e ∷ es) tables few h named = (fields-good kind options count e tables few h.0 named.0, fields-all kind options count es tables few h.1 named.1)

-- the text of a machine with this start
back-from : (kind : ArcType) (options : Options) (start : ℕ) (states : List (State Cost)) (first : State Cost) → slice_get states start ≡ Some first → HasTables options → length states ≤ most_states → arc_total states ≤ most_arcs → AllByRecursion (GoodState kind options (length states)) states → AllByRecursion (IsNamed options) (state_entries start first ++ other_entries start 0 states) → options.keep_state_numbering ≡ true → machine_of_text kind options (text_of_entries kind options (state_entries start first ++ other_entries start 0 states)) ≡ Ok (record { start = Some start; states = states })
back-from kind options start states first h tables few arcs good named kept =
    let es = state_entries start first ++ other_entries start 0 states in
    let count = length states in
    let low = slice_get_within states start first h in
    let all : AllByRecursion (GoodEntry kind options count) es = all-append (GoodEntry kind options count) (state_entries start first) (other_entries start 0 states) (state-entries-good kind options count start first low (good-at (GoodState kind options count) states start first good h)) (others-good kind options count start 0 states (omega arith) good) in
    let at : 0 + start ≡ start = omega arith in
    let total = count-with start 0 start states first h at in
    let own = count-state start first in
    let both = arc_count-append (state_entries start first) (other_entries start 0 states) in
    let counted : arc_count [] + arc_count es ≤ most_arcs = omega arith in
    ap (λ (ls : List (List (List ℕ))). entries_of_lines kind options 1 [] ls >>= λ es. Ok (machine_of_entries options.keep_state_numbering es)) (lines-read (fields_of_entry kind options) es (fields-all kind options count es tables few all named))
    ∙ ap (λ (r : Result (List Entry) TextFault). r >>= λ es. Ok (machine_of_entries options.keep_state_numbering es)) (entries-read kind options count 1 [] es tables kept few (omega arith) counted all named)
    ∙ ap (λ (k : Bool). Ok (machine_of_entries k es)) kept
    ∙ ap Ok (machine-back kind options start states first h good)

-- printing and compiling with numbers kept gives the machine
pub compiles-back : (kind : ArcType) (options : Options) (m : Machine Cost) → CompilesBack kind options m
compiles-back kind options m text tables machine weights some kept h = go m.start refl some machine.start where
  go : (o : Option ℕ) → m.start ≡ o → IsSome o → IfSome o (λ s. s < length m.states) → machine_of_text kind options text ≡ Ok m
  go None e some low = absurd (cc)
  go (Some start) e some low =
      let out = printed kind options m text h in
      let free = unrefused options m out.0 in
      let states = m.states in
      let bare : State Cost = bare_state infinite in
      let there = slice_get-get_or states start bare low in
      let first = get_or states start bare in
      let good = states-good kind options (length states) 0 states (recursion_from_All (λ s. All (IsArc (λ v. v) (length states)) s.arcs) states machine.arcs) (recursion_from_All (λ s. All (λ a. IsWeight kind a.weight) s.arcs) states weights.arcs) (recursion_from_All (λ s. IsWeight kind s.final) states weights.final) (accepts options states free.0) in
      let entries : entries_of_machine m ≡ state_entries start first ++ other_entries start 0 states =
      ap (λ (o : Option ℕ). elim o [ None ↦ [] | Some start ↦ entries_at start states ++ other_entries start 0 states ]) e
      ∙ ap (λ (o : Option (State Cost)). elim o [ None ↦ [] | Some s ↦ state_entries start s ] ++ other_entries start 0 states) there in
      ap (machine_of_text kind options) (out.1 ∙ ap (text_of_entries kind options) entries)
      ∙ back-from kind options start states first there tables machine.few_states machine.few_arcs good (all-named options (state_entries start first ++ other_entries start 0 states) (sym (ap (unnamed_label options) entries) ∙ free.1)) kept
      ∙ ap (λ (o : Option ℕ). Ok (record { start = o; states = states })) (sym e)
