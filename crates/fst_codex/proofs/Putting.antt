-- Arcs and states that stand for others, one after the other.
use Rattle.std.proofs.Common.{◌≡◌, ℕ, ◌+◌, ◌<◌, ◌≤◌, zero, suc, Bool, true, false, List, [], ◌∷◌, ◌++◌, Some, Option, length, map, take, drop, get_or, slice_get, refl, sym, ap, subst, ◌∙◌, append-nil, arith}
use Rattle.std.specs.List.{AllZip, All}
use Rattle.std.specs.Prelude.{IfSome}
use Rattle.std.specs.Option.{option_map}
use Rattle.std.proofs.lemmas.List.{length-map, map-append, map_more}
use Rattle.std.proofs.lemmas.List.Concat.{flat_map-append}
use Rattle.std.proofs.lemmas.List.Elements.{All-cons, All-head, All-nil, All-push, All-tail, All-weaker, AllZip-push, length_all_zip}
use Rattle.std.proofs.lemmas.Option.{slice_get_within, get_or_from_slice_get}
use Rattle.std.proofs.lemmas.List.Sums.{sum_by-cons}
use Rattle.fst_semiring.specs.Cost.{Cost, infinite}
use Rattle.fst_semiring.specs.declared.arc_type.ArcType.{ArcType}
use Rattle.fst_semiring.specs.Semiring.{InRange}
use Rattle.fst_semiring.proofs.Laws.{one_not_zero}
use Rattle.fst_machine.specs.Machine.{Arc, IsArc, IsMachine, Machine, State, arc_total, most_states, valued_arc, valued_state}
use Rattle.fst_machine.specs.BreadthFirst.{Grows}
use Rattle.fst_machine.proofs.Arcs.{at_append_left}
use Rattle.fst_machine.proofs.Walks.{Grows-front, Grows-then}
use Rattle.fst_machine.proofs.Valued.{stands}
use Rattle.fst_codex.specs.Coding.{PutsArcs, PutsStates}
use Rattle.fst_codex.specs.Encoded.{IsEncodedArc, IsEncodedState, arc_entries, entry_of, left_weight, state_entries}
use Rattle.fst_codex.specs.Table.{Entry, Table, most_entries}

-- what holds of each pair holds of each where it follows
pub AllZip-weaker : {A B : Type 0} (P Q : A → B → Type 0) → ((x : A) (y : B) → P x y → Q x y) → (xs : List A) (ys : List B) → AllZip P xs ys → AllZip Q xs ys
AllZip-weaker P Q step [] [] h = h
AllZip-weaker P Q step [] (y ∷ ys) h = absurd h
AllZip-weaker P Q step (x ∷ xs) [] h = absurd h
AllZip-weaker P Q step (x ∷ xs) (y ∷ ys) h = (step x y h.0, AllZip-weaker P Q step xs ys h.1)

module _ (kind : ArcType) (weights : Bool) where
  -- what stands for an arc stands for it among more entries
  arc_kept : (xs old new : List (Entry Cost)) → Grows old xs new → (a c : Arc Cost ℕ) → IsEncodedArc kind weights old a c → IsEncodedArc kind weights new a c
  arc_kept xs old new grown a c h =
      let front = Grows-front xs old new grown in
      record { place = h.place; there = ap (λ (es : List (Entry Cost)). slice_get es h.place) front.1 ∙ at_append_left old front.0 h.place (entry_of kind weights a) h.there; ilabel = h.ilabel; olabel = h.olabel; weight = h.weight; next = h.next }

  arcs_kept : (xs old new : List (Entry Cost)) → Grows old xs new → (arcs out : List (Arc Cost ℕ)) → AllZip (IsEncodedArc kind weights old) arcs out → AllZip (IsEncodedArc kind weights new) arcs out
  arcs_kept xs old new grown arcs out h = AllZip-weaker (IsEncodedArc kind weights old) (IsEncodedArc kind weights new) (arc_kept xs old new grown) arcs out h

  state_kept : (xs old new : List (Entry Cost)) → Grows old xs new → (s t : State Cost) → IsEncodedState kind weights old s t → IsEncodedState kind weights new s t
  state_kept xs old new grown s t h = record { final = h.final; arcs = arcs_kept xs old new grown s.arcs t.arcs h.arcs }

  -- no arcs
  pub no_arcs : (old : Table Cost) → PutsArcs kind weights [] old old []
  no_arcs old = record { flag = refl; grown = refl; put = tt; range = All-nil (λ (a : Arc Cost ℕ). InRange a.weight) }

  -- one arc more
  pub arc_more : (arcs out : List (Arc Cost ℕ)) (old mid new : Table Cost) (a c : Arc Cost ℕ) → PutsArcs kind weights arcs old mid out → new.weights ≡ mid.weights → Grows mid.entries (entry_of kind weights a ∷ []) new.entries → IsEncodedArc kind weights new.entries a c → InRange a.weight → PutsArcs kind weights (arcs ++ a ∷ []) old new (out ++ c ∷ [])
  arc_more arcs out old mid new a c h flag grown one small = record {
    flag = flag ∙ h.flag;
    grown = subst (λ (es : List (Entry Cost)). Grows old.entries es new.entries) (sym (map-append (entry_of kind weights) arcs (a ∷ []))) (Grows-then (map (entry_of kind weights) arcs) (entry_of kind weights a ∷ []) old.entries mid.entries new.entries h.grown grown);
    put = AllZip-push (IsEncodedArc kind weights new.entries) arcs out a c (arcs_kept (entry_of kind weights a ∷ []) mid.entries new.entries grown arcs out h.put) one;
    range = All-push (λ (b : Arc Cost ℕ). InRange b.weight) arcs a h.range small;
  }

  -- no states
  pub no_states : (old : Table Cost) → PutsStates kind weights [] old old []
  no_states old = record { flag = refl; grown = refl; put = tt; range = All-nil (λ (s : State Cost). All (λ a. InRange a.weight) s.arcs) }

  -- one state more
  pub state_more : (states out : List (State Cost)) (old mid new : Table Cost) (s t : State Cost) → PutsStates kind weights states old mid out → PutsArcs kind weights s.arcs mid new t.arcs → t.final ≡ s.final → PutsStates kind weights (states ++ s ∷ []) old new (out ++ t ∷ [])
  state_more states out old mid new s t h one final =
      let all : arc_entries kind weights (states ++ s ∷ []) ≡ arc_entries kind weights states ++ state_entries kind weights s = flat_map-append (state_entries kind weights) states (s ∷ []) ∙ ap (λ (es : List (Entry Cost)). arc_entries kind weights states ++ es) (append-nil (state_entries kind weights s)) in
      record {
        flag = one.flag ∙ h.flag;
        grown = subst (λ (es : List (Entry Cost)). Grows old.entries es new.entries) (sym all) (Grows-then (arc_entries kind weights states) (state_entries kind weights s) old.entries mid.entries new.entries h.grown one.grown);
        put = AllZip-push (IsEncodedState kind weights new.entries) states out s t
            (AllZip-weaker (IsEncodedState kind weights mid.entries) (IsEncodedState kind weights new.entries) (state_kept (state_entries kind weights s) mid.entries new.entries one.grown) states out h.put)
            (record { final = final; arcs = one.put });
        range = All-push (λ (u : State Cost). All (λ a. InRange a.weight) u.arcs) states s h.range one.range;
      }

-- the same where the entries so far say whether weights go into them
pub arc_next : (kind : ArcType) (arcs out : List (Arc Cost ℕ)) (old mid new : Table Cost) (a c : Arc Cost ℕ) → PutsArcs kind old.weights arcs old mid out → new.weights ≡ mid.weights → Grows mid.entries (entry_of kind mid.weights a ∷ []) new.entries → IsEncodedArc kind mid.weights new.entries a c → InRange a.weight → PutsArcs kind old.weights (arcs ++ a ∷ []) old new (out ++ c ∷ [])
arc_next kind arcs out old mid new a c h flag grown one small = arc_more kind old.weights arcs out old mid new a c h flag (subst (λ w. Grows mid.entries (entry_of kind w a ∷ []) new.entries) h.flag grown) (subst (λ w. IsEncodedArc kind w new.entries a c) h.flag one) small

pub state_next : (kind : ArcType) (states out : List (State Cost)) (old mid new : Table Cost) (s t : State Cost) → PutsStates kind old.weights states old mid out → PutsArcs kind mid.weights s.arcs mid new t.arcs → t.final ≡ s.final → PutsStates kind old.weights (states ++ s ∷ []) old new (out ++ t ∷ [])
state_next kind states out old mid new s t h one final = state_more kind old.weights states out old mid new s t h (subst (λ w. PutsArcs kind w s.arcs mid new t.arcs) h.flag one) final

-- ---- what stands for a machine is a machine

-- what holds of each of the first holds of what stands beside it
All-beside : {A B : Type 0} (P : A → Type 0) (R : A → B → Type 0) (Q : B → Type 0) → ((x : A) (y : B) → P x → R x y → Q y) → (xs : List A) (ys : List B) → All P xs → AllZip R xs ys → All Q ys
All-beside P R Q step [] [] good h = All-nil Q
All-beside P R Q step [] (y ∷ ys) good h = absurd h
All-beside P R Q step (x ∷ xs) [] good h = absurd h
All-beside P R Q step (x ∷ xs) (y ∷ ys) good h = All-cons Q y ys (step x y (All-head P x xs good) h.0) (All-beside P R Q step xs ys (All-tail P x xs good) h.1)

left_not_zero : (kind : ArcType) (weights : Bool) (w : Cost) → (w ≡ infinite → ⊥) → left_weight kind weights w ≡ infinite → ⊥
left_not_zero kind true w good e = one_not_zero kind e
left_not_zero kind false w good e = good e

module _ (kind : ArcType) (weights : Bool) (entries : List (Entry Cost)) (few : length entries ≤ most_entries) where
  IsArc-encoded : (n : ℕ) (a c : Arc Cost ℕ) → IsArc (λ v. v) n a → IsEncodedArc kind weights entries a c → IsArc (λ v. v) n c
  IsArc-encoded n a c good h =
      let within = slice_get_within entries h.place (entry_of kind weights a) h.there in
      record {
        ilabel = omega (arith, within, few, h.ilabel);
        olabel = omega (arith, within, few, h.olabel);
        weight = λ e. left_not_zero kind weights a.weight good.weight (sym h.weight ∙ e);
        next = omega (arith, h.next, good.next);
      }

  arcs-encoded : (n : ℕ) (s t : State Cost) → All (IsArc (λ v. v) n) s.arcs → IsEncodedState kind weights entries s t → All (IsArc (λ v. v) n) t.arcs
  arcs-encoded n s t good h = All-beside (IsArc (λ v. v) n) (IsEncodedArc kind weights entries) (IsArc (λ v. v) n) (IsArc-encoded n) s.arcs t.arcs good h.arcs

  total-encoded : (xs ys : List (State Cost)) → AllZip (IsEncodedState kind weights entries) xs ys → arc_total ys ≡ arc_total xs
  total-encoded [] [] h = refl
  total-encoded [] (y ∷ ys) h = absurd h
  total-encoded (x ∷ xs) [] h = absurd h
  total-encoded (x ∷ xs) (y ∷ ys) h =
      let one = length_all_zip (IsEncodedArc kind weights entries) x.arcs y.arcs h.0.arcs in
      let rest = total-encoded xs ys h.1 in
      let left = sum_by-cons (λ (s : State Cost). length s.arcs) x xs in
      let right = sum_by-cons (λ (s : State Cost). length s.arcs) y ys in
      omega (arith, one, rest, left, right)

  pub IsMachine-encoded : (m c : Machine Cost) → IsMachine (λ v. v) m → c.start ≡ m.start → AllZip (IsEncodedState kind weights entries) m.states c.states → IsMachine (λ v. v) c
  IsMachine-encoded m c good start h =
      let same : length m.states ≡ length c.states = length_all_zip (IsEncodedState kind weights entries) m.states c.states h in
      let n = length m.states in
      record {
        start = subst (λ (k : ℕ). IfSome c.start (λ s. s < k)) same (subst (λ (o : Option ℕ). IfSome o (λ s. s < n)) (sym start) good.start);
        arcs = subst (λ (k : ℕ). All (λ s. All (IsArc (λ v. v) k) s.arcs) c.states) same
            (All-beside (λ s. All (IsArc (λ v. v) n) s.arcs) (IsEncodedState kind weights entries) (λ s. All (IsArc (λ v. v) n) s.arcs) (arcs-encoded n) m.states c.states good.arcs h);
        few_states = omega (arith, same, good.few_states);
        few_arcs = omega (arith, total-encoded m.states c.states h, good.few_arcs);
      }

-- one state more of a list, mapped
pub states_more : {V : Type 0} (value : V → Cost) (states : List (State V)) (i : ℕ) (last : V) (arcs : List (Arc V ℕ)) → option_map (λ s. s.final) (slice_get states i) ≡ Some last → option_map (λ s. s.arcs) (slice_get states i) ≡ Some arcs
    → map (valued_state value) (take (i + 1) states) ≡ map (valued_state value) (take i states) ++ valued_state value (record { final = last; arcs = arcs }) ∷ []
states_more {V} value states i last arcs f a =
    let s : State V = record { final = last; arcs = arcs } in
    let there = stands states i last arcs f a in
    map_more (valued_state value) states i s (slice_get_within states i s there) ∙ ap (λ (t : State V). map (valued_state value) (take i states) ++ valued_state value t ∷ []) (get_or_from_slice_get states i s s there)

-- the arcs of the states from a place on are those of the state there and those of the rest
total_and_rest : {V : Type 0} (states : List (State V)) (i : ℕ) (s : State V) → slice_get states i ≡ Some s → arc_total (drop i states) ≡ length s.arcs + arc_total (drop (suc i) states)
total_and_rest [] i s e = absurd cc
total_and_rest {V} (t ∷ states) zero s e =
    let same : t ≡ s = cc in
    sum_by-cons (λ (u : State V). length u.arcs) t states ∙ ap (λ (u : State V). length u.arcs + arc_total states) same
total_and_rest (t ∷ states) (suc i) s e = total_and_rest states i s e

pub total_left : {V : Type 0} (states : List (State V)) (i : ℕ) (last : V) (arcs : List (Arc V ℕ)) → option_map (λ s. s.final) (slice_get states i) ≡ Some last → option_map (λ s. s.arcs) (slice_get states i) ≡ Some arcs → arc_total (drop i states) ≡ length arcs + arc_total (drop (i + 1) states)
total_left states i last arcs f a =
    let next : suc i ≡ i + 1 = omega arith in
    subst (λ (j : ℕ). arc_total (drop i states) ≡ length arcs + arc_total (drop j states)) next (total_and_rest states i (record { final = last; arcs = arcs }) (stands states i last arcs f a))

-- one item more of a list, mapped
pub items_more : {X Y : Type 0} (f : X → Y) (xs : List X) (i : ℕ) (x : X) → i < length xs → x ≡ get_or xs i x → map f (take (i + 1) xs) ≡ map f (take i xs) ++ f x ∷ []
items_more f xs i x within e = map_more f xs i x within ∙ ap (λ y. map f (take i xs) ++ f y ∷ []) (sym e)

-- as many arcs stand there as they stand for
pub arcs_put : {V : Type 0} (value : V → Cost) (kind : ArcType) (weights : Bool) (old new : Table Cost) (arcs out : List (Arc V ℕ)) → PutsArcs kind weights (map (valued_arc value) arcs) old new (map (valued_arc value) out) → length out ≡ length arcs
arcs_put value kind weights old new arcs out h =
    let same = length_all_zip (IsEncodedArc kind weights new.entries) (map (valued_arc value) arcs) (map (valued_arc value) out) h.put in
    omega (arith, same, length-map arcs (valued_arc value), length-map out (valued_arc value))

-- ---- where the arcs of a machine stand

-- arcs that stand for arcs of a machine, by the values of their weights, are arcs of a machine
module _ {V : Type 0} (value : V → Cost) (kind : ArcType) (weights : Bool) (entries : List (Entry Cost)) (few : length entries ≤ most_entries) (n : ℕ) where
  arc_good : (a c : Arc V ℕ) → IsArc value n a → IsEncodedArc kind weights entries (valued_arc value a) (valued_arc value c) → IsArc value n c
  arc_good a c good h =
      let own = IsArc-encoded kind weights entries few n (valued_arc value a) (valued_arc value c) (record { ilabel = good.ilabel; olabel = good.olabel; weight = good.weight; next = good.next }) h in
      record { ilabel = own.ilabel; olabel = own.olabel; weight = own.weight; next = own.next }

  pub encoded_good : (arcs own : List (Arc V ℕ)) → All (IsArc value n) arcs → AllZip (IsEncodedArc kind weights entries) (map (valued_arc value) arcs) (map (valued_arc value) own) → All (IsArc value n) own
  encoded_good [] [] good h = All-nil (IsArc value n)
  encoded_good [] (c ∷ own) good h = absurd h
  encoded_good (a ∷ arcs) [] good h = absurd h
  encoded_good (a ∷ arcs) (c ∷ own) good h = All-cons (IsArc value n) c own (arc_good a c (All-head (IsArc value n) a arcs good) h.0) (encoded_good arcs own (All-tail (IsArc value n) a arcs good) h.1)

-- an arc of a machine is one among as many states as there may be
pub arcs_within : {V : Type 0} (value : V → Cost) (n : ℕ) (arcs : List (Arc V ℕ)) → n ≤ most_states → All (IsArc value n) arcs → All (IsArc value most_states) arcs
arcs_within value n arcs few good = All-weaker (IsArc value n) (IsArc value most_states) (λ a h. record { ilabel = h.ilabel; olabel = h.olabel; weight = h.weight; next = omega (arith, h.next, few) }) arcs good
