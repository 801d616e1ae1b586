-- What decoding builds is a machine.
use Rattle.std.proofs.Common.{◌≡◌, ℕ, ◌≤◌, ◌<◌, ◌≢◌, Bool, true, false, eqb, List, [], ◌∷◌, ◌++◌, ◌-◌, drop, length, map, Option, Result, Ok, Err, All, inl, inr, refl, sym, ap, subst, ◌∙◌, arith}
use Rattle.std.specs.Prelude.{IfSome}
use Rattle.std.specs.List.{AllByRecursion}
use Rattle.std.proofs.lemmas.Bool.{eq-eqb, eqb-true}
use Rattle.std.proofs.lemmas.List.{length-drop, length-map}
use Rattle.std.proofs.lemmas.List.Elements.{All-from_recursion}
use Rattle.fst_semiring.specs.declared.arc_type.ArcType.{ArcType}
use Rattle.fst_semiring.specs.Cost.{Cost}
use Rattle.fst_machine.specs.Machine.{Arc, State, IsArc, IsMachine, arc_total, most_arcs, most_states, valued_arc, valued_state}
use Rattle.fst_binary.specs.Reading.{BinaryFault, Fails, TabledMachine, arc_type_of_bytes, header_at, machine_at, machine_of_bytes, states_at, tabled_at, tabled_of_bytes, types_at}
use Rattle.fst_bytes.specs.declared.fault.Stopped.{Stopped}
use Rattle.fst_bytes.specs.declared.fault.Stopped.TheVariants.{At, Memory}
use Rattle.fst_bytes.specs.Stopping.{Stops}
use Rattle.fst_symbols.specs.Symbols.{Symbol}
use Rattle.fst_binary.specs.Sides.{has_input, has_output, side_at, sides_at}
use Rattle.fst_binary.specs.declared.fault.BinaryKind.{BinaryKind}
use Rattle.fst_binary.specs.declared.fault.BinaryKind.TheVariants.{BadCount, Extra}
use Rattle.fst_binary.specs.declared.header.Header.{Header}
use Rattle.fst_binary.specs.Spelling.{type_fields}
use Rattle.fst_fields.specs.Reading.{◌>>=◌}
use Rattle.fst_bytes.specs.Reading.{fault}
use Rattle.fst_semiring.specs.Names.{known}
use Rattle.fst_binary.proofs.Headers.{types_again, types_takes}
use Rattle.fst_bytes.proofs.Names.{named_alone}
use Rattle.fst_binary.proofs.States.{GoodArc, GoodState, states_takes}
use Rattle.fst_bytes.proofs.Steps.{IsBytes, done, ok_is}

-- ---- the end of a machine

not_true : (t : Bool) → (t ≡ true → ⊥) → t ≡ false
not_true true h = absurd (h refl)
not_true false h = refl

unequal : (a b : ℕ) → a ≢ b → eqb a b ≡ false
unequal a b h = not_true (eqb a b) (λ e. h (eqb-true a b e))

pub machine_miscounted : (kind : ArcType) (h : Header) (bytes : List ℕ) (at : ℕ) (ss : List (State Cost)) (next : ℕ) → states_at kind h.states h.arcs 0 h.states bytes at ≡ Ok (ss, next) → arc_total ss ≢ h.arcs → machine_at kind h bytes at ≡ fault BadCount h.counted
unfolding machine_at
machine_miscounted kind h bytes at ss next e other = rw (e, unequal _ _ other) refl

pub machine_goes_on : (kind : ArcType) (h : Header) (bytes : List ℕ) (at : ℕ) (ss : List (State Cost)) (next : ℕ) → states_at kind h.states h.arcs 0 h.states bytes at ≡ Ok (ss, next) → arc_total ss ≡ h.arcs → next ≢ length bytes → machine_at kind h bytes at ≡ fault Extra next
unfolding machine_at
machine_goes_on kind h bytes at ss next e same other = rw (e, eq-eqb _ _ same, unequal _ _ other) refl

pub machine_ends : (kind : ArcType) (h : Header) (bytes : List ℕ) (at : ℕ) (ss : List (State Cost)) (next : ℕ) → states_at kind h.states h.arcs 0 h.states bytes at ≡ Ok (ss, next) → arc_total ss ≡ h.arcs → next ≡ length bytes → machine_at kind h bytes at ≡ Ok (record { start = h.start; states = ss })
unfolding machine_at
machine_ends kind h bytes at ss next e same end = rw (e, eq-eqb _ _ same, eq-eqb _ _ end) refl

-- ---- good values make good weights

own_arcs : {V : Type 0} (value : V → Cost) (kind : ArcType) (n : ℕ) (arcs : List (Arc V ℕ)) → AllByRecursion (GoodArc kind n) (map (valued_arc value) arcs) → AllByRecursion (IsArc value n) arcs
own_arcs value kind n [] h = tt
own_arcs value kind n (a ∷ arcs) h = (record { ilabel = h.0.0.ilabel; olabel = h.0.0.olabel; weight = h.0.0.weight; next = h.0.0.next }, own_arcs value kind n arcs h.1)

own_states : {V : Type 0} (value : V → Cost) (kind : ArcType) (n : ℕ) (ss : List (State V)) → AllByRecursion (GoodState kind n) (map (valued_state value) ss) → AllByRecursion (λ s. All (IsArc value n) s.arcs) ss
own_states value kind n [] h = tt
own_states value kind n (s ∷ ss) h = (All-from_recursion (IsArc value n) s.arcs (own_arcs value kind n s.arcs h.0.1), own_states value kind n ss h.1)

same_start : (s : Option ℕ) (n k : ℕ) → n ≡ k → IfSome s (λ x. x < k) → IfSome s (λ x. x < n)
same_start s n k e h = rw e h

pub IsMachine-decoded : {V : Type 0} (value : V → Cost) (kind : ArcType) (h : Header) (bytes : List ℕ) (at : ℕ) (ss : List (State V)) (next : ℕ) → at ≤ length bytes → IsBytes bytes → IfSome h.start (λ s. s < h.states) → h.states ≤ most_states → h.arcs ≤ most_arcs
    → states_at kind h.states h.arcs 0 h.states bytes at ≡ Ok (map (valued_state value) ss, next) → arc_total ss ≡ h.arcs → IsMachine value (record { start = h.start; states = ss })
IsMachine-decoded {V} value kind h bytes at ss next within fits start few_states few_arcs e same =
    let t = states_takes kind h.states h.arcs 0 h.states bytes at (map (valued_state value) ss) next within fits e in
    let count : length ss ≡ h.states = sym (length-map ss (valued_state value)) ∙ t.2 in
    let arcs = own_states value kind h.states ss t.1 in
    record {
      start = same_start h.start (length ss) h.states count start;
      arcs = subst (λ (n : ℕ). All (λ s. All (IsArc value n) s.arcs) ss) (sym count) (All-from_recursion (λ s. All (IsArc value h.states) s.arcs) ss arcs);
      few_states = omega (arith, count, few_states);
      few_arcs = omega (arith, same, few_arcs);
    }

-- ---- the arc type of the bytes

ok_not_err : (k : ArcType) (d : BinaryFault) → done {A = ArcType} {E = BinaryFault} k ≡ Err d → ⊥
ok_not_err k d x = absurd cc

pub type_not_wrong : (bytes : List ℕ) (kind : ArcType) (f : BinaryFault) → arc_type_of_bytes bytes ≡ Ok kind → types_at known bytes ≡ Err f → ⊥
unfolding arc_type_of_bytes
type_not_wrong bytes kind f e h = ok_not_err kind f (sym e ∙ ap (λ (r : Result (ArcType × ℕ) BinaryFault). r >>= λ types. Ok types.0) h)

pub type_alone : (bytes : List ℕ) (kind other : ArcType) (next : ℕ) → IsBytes bytes → arc_type_of_bytes bytes ≡ Ok kind → types_at known bytes ≡ Ok (other, next) → types_at (kind ∷ []) bytes ≡ Ok (kind, next)
unfolding arc_type_of_bytes
type_alone bytes kind other next fits e h =
    let same : other ≡ kind = ok_is {A = ArcType} {E = BinaryFault} other kind (sym (ap (λ (r : Result (ArcType × ℕ) BinaryFault). r >>= λ types. Ok types.0) h) ∙ e) in
    let t = (types_takes known bytes other next fits h).0 in
    let stands : bytes ≡ type_fields kind ++ drop next bytes = t.parts ∙ ap (λ (k : ArcType). type_fields k ++ drop next bytes) same in
    let r = types_again (kind ∷ []) kind bytes (drop next bytes) (named_alone kind) stands in
    let left : length bytes - r.next ≡ length bytes - next = sym (length-drop r.next bytes) ∙ ap length r.left ∙ length-drop next bytes in
    let at : r.next ≡ next = omega (arith, left, r.within, t.within) in
    r.gives ∙ ap (λ (n : ℕ). done {A = ArcType × ℕ} {E = BinaryFault} (kind, n)) at

-- ---- the whole

pub whole_read : (kind : ArcType) (bytes : List ℕ) (next : ℕ) (h : Header) → types_at (kind ∷ []) bytes ≡ Ok (kind, next) → header_at bytes next ≡ Ok h → tabled_of_bytes kind bytes ≡ tabled_at kind h bytes
unfolding tabled_of_bytes
whole_read kind bytes next h e f = rw (e, f) refl

pub header_wrong : (kind : ArcType) (bytes : List ℕ) (next : ℕ) (f : BinaryFault) → types_at (kind ∷ []) bytes ≡ Ok (kind, next) → header_at bytes next ≡ Err f → tabled_of_bytes kind bytes ≡ Err f
unfolding tabled_of_bytes
header_wrong kind bytes next f e h = rw (e, h) refl

-- the tables of both sides are read
sides_are_read : (flags : ℕ) (input output : Bool) (bytes : List ℕ) (at between next : ℕ) (i o : Option (List Symbol)) → input ≡ has_input flags → output ≡ has_output flags → side_at input bytes at ≡ Ok (i, between) → side_at output bytes between ≡ Ok (o, next)
    → sides_at flags bytes at ≡ Ok (record { isymbols = i; osymbols = o }, next)
unfolding sides_at
sides_are_read flags input output bytes at between next i o e f first second = rw (← e, ← f, first, second) refl

-- and why the machine behind them is not read is why the whole is not
pub tabled_stops : (kind : ArcType) (h : Header) (bytes : List ℕ) (input output : Bool) (between at : ℕ) (i o : Option (List Symbol)) (stopped : Stopped BinaryKind) → input ≡ has_input h.flags → output ≡ has_output h.flags → side_at input bytes h.behind ≡ Ok (i, between) → side_at output bytes between ≡ Ok (o, at)
    → Stops stopped (machine_at kind h bytes at) → Stops stopped (tabled_at kind h bytes)
unfolding tabled_at
tabled_stops kind h bytes input output between at i o (At f) e g first second wrong = rw (sides_are_read h.flags input output bytes h.behind between at i o e g first second, wrong) refl
tabled_stops kind h bytes input output between at i o Memory e g first second starved = tt

-- ---- the machine alone

pub machine_alone : (kind : ArcType) (bytes : List ℕ) (t : TabledMachine) → tabled_of_bytes kind bytes ≡ Ok t → machine_of_bytes kind bytes ≡ Ok t.machine
unfolding machine_of_bytes
machine_alone kind bytes t e = rw e refl

machine_fault : (kind : ArcType) (bytes : List ℕ) (f : BinaryFault) → tabled_of_bytes kind bytes ≡ Err f → machine_of_bytes kind bytes ≡ Err f
unfolding machine_of_bytes
machine_fault kind bytes f e = rw e refl

pub machine_fails : (kind : ArcType) (bytes : List ℕ) (f : BinaryFault) → Fails f (tabled_of_bytes kind bytes) → Fails f (machine_of_bytes kind bytes)
machine_fails kind bytes f (inl starved) = inl starved
machine_fails kind bytes f (inr wrong) = inr (machine_fault kind bytes f wrong)
