-- The states of a machine as they are kept, and what a change of one slot makes of them.
use Rattle.std.proofs.Common.{◌≡◌, ◌⊎◌, ℕ, zero, suc, ◌+◌, ◌<◌, ◌≤◌, ◌-◌, Some, List, [], ◌∷◌, ◌++◌, length, set, get_or, slice_get, take, drop, refl, sym, ap, ◌∙◌, subst, inl, inr, append-nil, arith}
use Rattle.std.specs.List.{All, AllByRecursion}
use Rattle.std.proofs.lemmas.List.{length-set, length-append, take-append-le, drop-append-le, length-drop, take_all, drop_at}
use Rattle.std.proofs.lemmas.List.Elements.{All-set, All-push, All-weaker, recursion_from_All}
use Rattle.std.proofs.lemmas.List.Sums.{sum_by_push}
use Rattle.std.proofs.lemmas.Option.{slice_get_read}
use Rattle.fst_machine.specs.Machine.{Arc, State, arc_total, bare_state, most_states, with_arc, with_final}
use Rattle.fst_machine.specs.Store.{Slot, Apart, LiesIn, arcs_apart, part_or, slot_arcs, kept_state, kept_from, kept_states}
use Rattle.fst_machine.specs.Putting.{Puts}
use Rattle.fst_machine.specs.KeptMachine.{IsKept}
use Rattle.fst_machine.proofs.Changes.{arc_total-with_arc, arc_total-with_final}

-- as many states are kept as there are slots
pub kept_length : {V : Type 0} (store : List (Arc V ℕ)) (apart : List (Apart V)) (from : ℕ) (slots : List (Slot V)) → length (kept_from store apart from slots) ≡ length slots
kept_length store apart from [] = refl
kept_length store apart from (s ∷ slots) = ap suc (kept_length store apart (suc from) slots)

-- what is read of the kept states is what is kept of the slot that is read
kept_from-read : {V : Type 0} (store : List (Arc V ℕ)) (apart : List (Apart V)) (from : ℕ) (slots : List (Slot V)) (i state : ℕ) (s : Slot V) → state ≡ from + i → s ≡ get_or slots i s → kept_state store apart state s ≡ get_or (kept_from store apart from slots) i (kept_state store apart state s)
kept_from-read store apart from [] i state s e read = refl
kept_from-read store apart from (x ∷ slots) zero state s e read = let here : state ≡ from = omega (arith, e) in ap (λ n. kept_state store apart n s) here ∙ ap (kept_state store apart from) read
kept_from-read store apart from (x ∷ slots) (suc i) state s e read = kept_from-read store apart (suc from) slots i state s (omega (arith, e)) read

pub kept_read : {V : Type 0} (store : List (Arc V ℕ)) (apart : List (Apart V)) (slots : List (Slot V)) (i : ℕ) (s : Slot V) → s ≡ get_or slots i s → kept_state store apart i s ≡ get_or (kept_states store apart slots) i (kept_state store apart i s)
kept_read store apart slots i s read = kept_from-read store apart 0 slots i i s (omega arith) read

pub kept_get : {V : Type 0} (store : List (Arc V ℕ)) (apart : List (Apart V)) (slots : List (Slot V)) (i : ℕ) (s : Slot V) → i < length slots → s ≡ get_or slots i s → slice_get (kept_states store apart slots) i ≡ Some (kept_state store apart i s)
kept_get store apart slots i s within read = slice_get_read (kept_states store apart slots) (length slots) i (kept_state store apart i s) (sym (kept_length store apart 0 slots)) within (kept_read store apart slots i s read)

-- the part of the slot that is read lies in the store
pub lies_at : {V : Type 0} (slots : List (Slot V)) (n i : ℕ) (s : Slot V) → All (LiesIn n) slots → i < length slots → s ≡ get_or slots i s → LiesIn n s
lies_at {V} slots n i s parts within read = subst (λ (t : Slot V). LiesIn n t) (sym read) (parts i s within)

-- a part of the store is the same where the store has more arcs at its end
part-append : {V : Type 0} (store more other : List (Arc V ℕ)) (first count : ℕ) → (0 < count → first + count ≤ length store) → part_or count (take count (drop first (store ++ more))) other ≡ part_or count (take count (drop first store)) other
part-append store more other first zero lies = refl
part-append store more other first (suc n) lies =
    let inside = lies (omega arith) in
    let behind : length (drop first store) ≡ length store - first = length-drop first store in
    ap (take (suc n)) (drop-append-le first store more (omega arith)) ∙ take-append-le (suc n) (drop first store) more (omega arith)

-- so is a state, where it has the same arcs apart
kept_state-append : {V : Type 0} (store more : List (Arc V ℕ)) (apart new_apart : List (Apart V)) (state : ℕ) (s : Slot V) → arcs_apart new_apart s.first state ≡ arcs_apart apart s.first state → LiesIn (length store) s → kept_state (store ++ more) new_apart state s ≡ kept_state store apart state s
kept_state-append store more apart new_apart state s same lies =
    ap (λ arcs. record { final = s.final; arcs = arcs })
    (ap (part_or s.count (take s.count (drop s.first (store ++ more)))) same ∙ part-append store more (arcs_apart apart s.first state) s.first s.count lies)

-- so are the states of which each has the same arcs apart
pub kept_from-append : {V : Type 0} (store more : List (Arc V ℕ)) (apart new_apart : List (Apart V)) (from : ℕ) (slots : List (Slot V)) → ((first other : ℕ) → from ≤ other → arcs_apart new_apart first other ≡ arcs_apart apart first other) → AllByRecursion (LiesIn (length store)) slots → kept_from (store ++ more) new_apart from slots ≡ kept_from store apart from slots
kept_from-append store more apart new_apart from [] same inside = refl
kept_from-append store more apart new_apart from (s ∷ slots) same inside =
    ap (λ t. t ∷ kept_from (store ++ more) new_apart (suc from) slots) (kept_state-append store more apart new_apart from s (same s.first from (omega arith)) inside.0)
    ∙ ap (λ ss. kept_state store apart from s ∷ ss) (kept_from-append store more apart new_apart (suc from) slots (λ first other behind. same first other (omega arith)) inside.1)

-- what is more in the store after an arc was put
added : {V : Type 0} (a : Arc V ℕ) (store new : List (Arc V ℕ)) → (new ≡ store) ⊎ (new ≡ store ++ a ∷ []) → (more : List (Arc V ℕ)) × (new ≡ store ++ more)
added a store new (inl e) = ([], e ∙ sym (append-nil store))
added a store new (inr e) = (a ∷ [], e)

-- the states behind an arc that was put
kept_from-put : {V : Type 0} (a : Arc V ℕ) (store more : List (Arc V ℕ)) (apart new_apart : List (Apart V)) (from : ℕ) (slots : List (Slot V)) (i state : ℕ) (before after : Slot V) → state ≡ from + i → AllByRecursion (LiesIn (length store)) slots → Puts a state store apart before (store ++ more) new_apart after → kept_from (store ++ more) new_apart from (set slots i after) ≡ set (kept_from store apart from slots) i (with_arc a (kept_state store apart state before))
kept_from-put a store more apart new_apart from [] i state before after e inside puts = refl
kept_from-put {V} a store more apart new_apart from (s ∷ slots) zero state before after e inside puts =
    let here : from ≡ state = omega (arith, e) in
    let same : kept_state (store ++ more) new_apart state after ≡ with_arc a (kept_state store apart state before) =
    ap (λ w. record { final = w; arcs = slot_arcs (store ++ more) new_apart state after }) puts.final ∙ ap (λ arcs. record { final = before.final; arcs = arcs }) puts.arcs in
    ap (λ n. kept_state (store ++ more) new_apart n after ∷ kept_from (store ++ more) new_apart (suc from) slots) here
    ∙ ap (λ t. t ∷ kept_from (store ++ more) new_apart (suc from) slots) same
    ∙ ap (λ ss. with_arc a (kept_state store apart state before) ∷ ss) (kept_from-append store more apart new_apart (suc from) slots (λ first other behind. puts.others first other (λ at. absurd (omega (arith, e, at, behind)))) inside.1)
kept_from-put {V} a store more apart new_apart from (s ∷ slots) (suc i) state before after e inside puts =
    ap (λ t. t ∷ kept_from (store ++ more) new_apart (suc from) (set slots i after)) (kept_state-append store more apart new_apart from s (puts.others s.first from (λ at. absurd (omega (arith, e, at)))) inside.0)
    ∙ ap (λ ss. kept_state store apart from s ∷ ss) (kept_from-put a store more apart new_apart (suc from) slots i state before after (omega (arith, e)) inside.1 puts)

pub kept_states-put : {V : Type 0} (a : Arc V ℕ) (store new : List (Arc V ℕ)) (apart new_apart : List (Apart V)) (slots : List (Slot V)) (i : ℕ) (before after : Slot V) → All (LiesIn (length store)) slots → Puts a i store apart before new new_apart after → kept_states new new_apart (set slots i after) ≡ set (kept_states store apart slots) i (with_arc a (kept_state store apart i before))
kept_states-put {V} a store new apart new_apart slots i before after inside puts =
    let grown = added a store new puts.store in
    let there = kept_from-put a store grown.0 apart new_apart 0 slots i i before after (omega arith) (recursion_from_All (LiesIn (length store)) slots inside) (subst (λ (st : List (Arc V ℕ)). Puts a i store apart before st new_apart after) grown.1 puts) in
    subst (λ (st : List (Arc V ℕ)). kept_states st new_apart (set slots i after) ≡ set (kept_states store apart slots) i (with_arc a (kept_state store apart i before))) (sym grown.1) there

-- the store is no shorter
longer_store : {V : Type 0} (a : Arc V ℕ) (store new : List (Arc V ℕ)) → (new ≡ store) ⊎ (new ≡ store ++ a ∷ []) → (length store ≤ length new) × (length new ≤ length store + 1)
longer_store a store new (inl e) = let same : length new ≡ length store = ap length e in (omega arith, omega arith)
longer_store a store new (inr e) = let same : length new ≡ length store + 1 = ap length e ∙ length-append store (a ∷ []) in (omega arith, omega arith)

-- nothing stands apart
pub IsKept-made : {V : Type 0} (slots : List (Slot V)) (store : List (Arc V ℕ)) (total : ℕ) → total ≡ length store → length store ≡ arc_total (kept_states store [] slots) → All (LiesIn (length store)) slots → length slots ≤ most_states → IsKept slots store [] total
IsKept-made slots store total e counted parts few = record { counted = e ∙ counted; fits = omega (arith, e); parts = parts; few_states = few }

-- an arc was put
pub IsKept-put : {V : Type 0} (slots : List (Slot V)) (store new : List (Arc V ℕ)) (apart new_apart : List (Apart V)) (total i : ℕ) (a : Arc V ℕ) (before after : Slot V) → IsKept slots store apart total → i < length slots → before ≡ get_or slots i before → Puts a i store apart before new new_apart after → IsKept (set slots i after) new new_apart (total + 1)
IsKept-put {V} slots store new apart new_apart total i a before after kept within read puts =
    let count : length (kept_states store apart slots) ≡ length slots = kept_length store apart 0 slots in
    let grown = arc_total-with_arc (kept_states store apart slots) i a (kept_state store apart i before) (omega arith) (kept_read store apart slots i before read) in
    let same = kept_states-put a store new apart new_apart slots i before after kept.parts puts in
    let longer = longer_store a store new puts.store in
    let still : length (set slots i after) ≡ length slots = length-set slots i after in
    record {
      counted = ap (λ n. n + 1) kept.counted ∙ grown ∙ ap arc_total (sym same);
      fits = omega (arith, kept.fits, puts.fits);
      parts = All-set (LiesIn (length new)) slots i after puts.inside (All-weaker (LiesIn (length store)) (LiesIn (length new)) (λ s lies some. omega (arith, longer, lies some)) slots kept.parts);
      few_states = rw still kept.few_states;
    }

-- the slot with another final weight
abbrev pub slot_with_final : {V : Type 0} → V → Slot V → Slot V
slot_with_final w s = record { final = w; first = s.first; count = s.count }

-- a final weight was set
kept_from-final : {V : Type 0} (store : List (Arc V ℕ)) (apart : List (Apart V)) (from : ℕ) (slots : List (Slot V)) (i state : ℕ) (w : V) (s : Slot V) → state ≡ from + i → kept_from store apart from (set slots i (slot_with_final w s)) ≡ set (kept_from store apart from slots) i (with_final w (kept_state store apart state s))
kept_from-final store apart from [] i state w s e = refl
kept_from-final store apart from (x ∷ slots) zero state w s e = let here : from ≡ state = omega (arith, e) in ap (λ n. with_final w (kept_state store apart n s) ∷ kept_from store apart (suc from) slots) here
kept_from-final store apart from (x ∷ slots) (suc i) state w s e = ap (λ ss. kept_state store apart from x ∷ ss) (kept_from-final store apart (suc from) slots i state w s (omega (arith, e)))

pub kept_states-final : {V : Type 0} (store : List (Arc V ℕ)) (apart : List (Apart V)) (slots : List (Slot V)) (i : ℕ) (w : V) (s : Slot V) → kept_states store apart (set slots i (slot_with_final w s)) ≡ set (kept_states store apart slots) i (with_final w (kept_state store apart i s))
kept_states-final store apart slots i w s = kept_from-final store apart 0 slots i i w s (omega arith)

pub IsKept-final : {V : Type 0} (slots : List (Slot V)) (store : List (Arc V ℕ)) (apart : List (Apart V)) (total i : ℕ) (w : V) (s : Slot V) → IsKept slots store apart total → i < length slots → s ≡ get_or slots i s → IsKept (set slots i (slot_with_final w s)) store apart total
IsKept-final {V} slots store apart total i w s kept within read =
    let after : Slot V = slot_with_final w s in
    let count : length (kept_states store apart slots) ≡ length slots = kept_length store apart 0 slots in
    let set_so = arc_total-with_final (kept_states store apart slots) i w (kept_state store apart i s) (omega arith) (kept_read store apart slots i s read) in
    let still : length (set slots i after) ≡ length slots = length-set slots i after in
    record {
      counted = kept.counted ∙ set_so ∙ ap arc_total (sym (kept_states-final store apart slots i w s));
      fits = kept.fits;
      parts = All-set (LiesIn (length store)) slots i after (lies_at slots (length store) i s kept.parts within read) kept.parts;
      few_states = rw still kept.few_states;
    }

-- a state was added whose arcs are these, wherever it is kept
pub kept_from-push : {V : Type 0} (store arcs : List (Arc V ℕ)) (apart : List (Apart V)) (from : ℕ) (slots : List (Slot V)) (s : Slot V) → ((state : ℕ) → slot_arcs store apart state s ≡ arcs) → kept_from store apart from (slots ++ s ∷ []) ≡ kept_from store apart from slots ++ record { final = s.final; arcs = arcs } ∷ []
kept_from-push store arcs apart from [] s are = ap (λ own. record { final = s.final; arcs = own } ∷ []) (are from)
kept_from-push store arcs apart from (x ∷ slots) s are = ap (λ ss. kept_state store apart from x ∷ ss) (kept_from-push store arcs apart (suc from) slots s are)

-- the slot of a state with no arcs
abbrev pub bare_slot : {V : Type 0} → V → Slot V
bare_slot w = record { final = w; first = 0; count = 0 }

-- a state was added
pub kept_states-push : {V : Type 0} (store : List (Arc V ℕ)) (apart : List (Apart V)) (slots : List (Slot V)) (w : V) → kept_states store apart (slots ++ bare_slot w ∷ []) ≡ kept_states store apart slots ++ bare_state w ∷ []
kept_states-push store apart slots w = kept_from-push store [] apart 0 slots (bare_slot w) (λ state. refl)

pub IsKept-push : {V : Type 0} (slots : List (Slot V)) (store : List (Arc V ℕ)) (apart : List (Apart V)) (total : ℕ) (w : V) → IsKept slots store apart total → length slots < most_states → IsKept (slots ++ bare_slot w ∷ []) store apart total
IsKept-push {V} slots store apart total w kept room =
    let same = kept_states-push store apart slots w in
    let sums = sum_by_push (λ (s : State V). length s.arcs) (kept_states store apart slots) (bare_state w) in
    let longer : length (slots ++ bare_slot w ∷ []) ≡ length slots + 1 = length-append slots (bare_slot w ∷ []) in
    record {
      counted = subst (λ (ss : List (State V)). total ≡ arc_total ss) (sym same) (omega (arith, kept.counted));
      fits = kept.fits;
      parts = All-push (LiesIn (length store)) slots (bare_slot w) kept.parts (λ some. absurd (omega (arith, some)));
      few_states = omega arith;
    }

-- the slot of arcs that stand at the end of a store
abbrev pub slot_behind : {V : Type 0} → List (Arc V ℕ) → V → List (Arc V ℕ) → Slot V
slot_behind store w arcs = record { final = w; first = length store; count = length arcs }

-- no list stands apart
pub none_apart : (V : Type 0) (first state : ℕ) → arcs_apart {V = V} [] first state ≡ []
none_apart V zero state = refl
none_apart V (suc place) state = refl

-- the arcs of that slot
pub arcs_behind : {V : Type 0} (store arcs : List (Arc V ℕ)) (w : V) (state : ℕ) → slot_arcs (store ++ arcs) [] state (slot_behind store w arcs) ≡ arcs
arcs_behind {V} store [] w state = none_apart V (length store) state
arcs_behind store (a ∷ arcs) w state = ap (take (length (a ∷ arcs))) (drop_at store (a ∷ arcs) (length store) refl) ∙ take_all (length (a ∷ arcs)) (a ∷ arcs) (omega arith)

-- a state was added with its arcs
pub kept_states-extend : {V : Type 0} (store arcs : List (Arc V ℕ)) (slots : List (Slot V)) (w : V) → All (LiesIn (length store)) slots → kept_states (store ++ arcs) [] (slots ++ slot_behind store w arcs ∷ []) ≡ kept_states store [] slots ++ record { final = w; arcs = arcs } ∷ []
kept_states-extend store arcs slots w inside =
    kept_from-push (store ++ arcs) arcs [] 0 slots (slot_behind store w arcs) (arcs_behind store arcs w)
    ∙ ap (λ ss. ss ++ record { final = w; arcs = arcs } ∷ []) (kept_from-append store arcs [] [] 0 slots (λ first other behind. refl) (recursion_from_All (LiesIn (length store)) slots inside))

-- what then holds of the slots
pub parts-extend : {V : Type 0} (store arcs : List (Arc V ℕ)) (slots : List (Slot V)) (w : V) → All (LiesIn (length store)) slots → All (LiesIn (length (store ++ arcs))) (slots ++ slot_behind store w arcs ∷ [])
parts-extend {V} store arcs slots w inside =
    let n : length (store ++ arcs) ≡ length store + length arcs = length-append store arcs in
    let Inside : Slot V → Type 0 = LiesIn (length (store ++ arcs)) in
    All-push Inside slots (slot_behind store w arcs) (All-weaker (LiesIn (length store)) Inside (λ s lies some. omega (arith, lies some)) slots inside) (λ some. omega arith)

pub record Pushed {V : Type 0} (store arcs new_store : List (Arc V ℕ)) (slots new_slots : List (Slot V)) (w : V) : Type 0 where
  pub states : kept_states new_store [] new_slots ≡ kept_states store [] slots ++ record { final = w; arcs = arcs } ∷ []
  pub counted : length new_store ≡ arc_total (kept_states new_store [] new_slots)
  pub parts : All (LiesIn (length new_store)) new_slots

pub pushed : {V : Type 0} (store arcs new_store : List (Arc V ℕ)) (slots new_slots : List (Slot V)) (w : V) → All (LiesIn (length store)) slots → length store ≡ arc_total (kept_states store [] slots) → new_store ≡ store ++ arcs → new_slots ≡ slots ++ slot_behind store w arcs ∷ [] → Pushed store arcs new_store slots new_slots w
pushed {V} store arcs new_store slots new_slots w inside counted grown put =
    let states = kept_states-extend store arcs slots w inside in
    let sums = sum_by_push (λ (s : State V). length s.arcs) (kept_states store [] slots) (record { final = w; arcs = arcs }) in
    let count : length (store ++ arcs) ≡ arc_total (kept_states (store ++ arcs) [] (slots ++ slot_behind store w arcs ∷ [])) =
    length-append store arcs ∙ ap (λ n. n + length arcs) counted ∙ sym sums ∙ ap arc_total (sym states) in
    let there : Pushed store arcs (store ++ arcs) slots (slots ++ slot_behind store w arcs ∷ []) w =
    record { states = states; counted = count; parts = parts-extend store arcs slots w inside } in
    subst (λ (ss : List (Slot V)). Pushed store arcs new_store slots ss w) (sym put) (subst (λ (st : List (Arc V ℕ)). Pushed store arcs st slots (slots ++ slot_behind store w arcs ∷ []) w) (sym grown) there)
