-- The laws: what is read is spelled so, what is spelled so is read, and no spelling goes on as another.
use Rattle.std.proofs.Common.{◌≡◌, ℕ, ◌-◌, ◌<◌, ◌≤◌, Bool, true, false, cond, eqb, List, [], ◌∷◌, ◌++◌, length, drop, Option, Result, Ok, Err, All, refl, sym, ap, subst, ◌∙◌, append_assoc, arith}
use Rattle.std.specs.Prelude.{IfOk, IfSome}
use Rattle.std.specs.List.{AllByRecursion, flat_map}
use Rattle.std.proofs.lemmas.Bool.{eq-eqb, eqb-true}
use Rattle.std.proofs.lemmas.List.{append-nil, length-drop, drop_all}
use Rattle.std.proofs.lemmas.List.Elements.{All-from_recursion, recursion_from_All}
use Rattle.fst_semiring.specs.declared.arc_type.ArcType.{ArcType}
use Rattle.fst_semiring.specs.declared.arc_type.ArcType.TheVariants.{Boolean, Tropical, MinMax, Lexicographic}
use Rattle.fst_semiring.specs.Cost.{Cost}
use Rattle.fst_machine.specs.Machine.{Arc, State, Machine, IsArc, IsMachine, arc_total}
use Rattle.fst_binary.specs.Reading.{BinaryFault, Gives, TabledMachine, header_at, machine_at, machine_of_bytes, states_at, tabled_at, tabled_of_bytes, types_at}
use Rattle.fst_binary.specs.declared.fault.BinaryKind.TheVariants.{BadCount, Extra}
use Rattle.fst_binary.specs.declared.header.Header.{Header}
use Rattle.fst_binary.specs.Sides.{HasSides, Sides, flags_of, neither, side_fields, sides_at, sides_fields, version_of}
use Rattle.fst_binary.specs.Spelling.{HasSpelling, Spells, TabledSpells, count_fields, spelling, start_number, state_fields, tabled_with, type_fields}
use Rattle.fst_bytes.specs.Spelling.{HasField, long, signed, word}
use Rattle.fst_fields.specs.Reading.{◌>>=◌}
use Rattle.fst_bytes.specs.Reading.{fault}
use Rattle.fst_bytes.proofs.Lengths.{length-long}
use Rattle.fst_binary.proofs.Decoded.{machine_alone}
use Rattle.fst_binary.proofs.SidesRead.{kind_is, sides_again, sides_take}
use Rattle.fst_binary.proofs.Headers.{counts, header_again, header_takes, types_again, types_takes}
use Rattle.fst_bytes.proofs.Names.{found_alone, named_alone, named_of_all}
use Rattle.fst_binary.proofs.States.{GoodArc, GoodState, states_again, states_takes}
use Rattle.fst_bytes.proofs.Steps.{IsBytes, Takes, Takes-all, Takes-then, bind_ok, done, guard_passed, ok_is}

-- ---- good states, and machines that have a spelling

weaker : {X : Type 0} (P Q : X → Type 0) (xs : List X) → ((x : X) → P x → Q x) → AllByRecursion P xs → AllByRecursion Q xs
weaker P Q [] f h = tt
weaker P Q (x ∷ xs) f h = (f x h.0, weaker P Q xs f h.1)

paired : {X : Type 0} (P Q : X → Type 0) (xs : List X) → AllByRecursion P xs → AllByRecursion Q xs → AllByRecursion (λ x. P x × Q x) xs
paired P Q [] f h = tt
paired P Q (x ∷ xs) f h = ((f.0, h.0), paired P Q xs f.1 h.1)

good_arcs : (kind : ArcType) (n : ℕ) (arcs : List (Arc Cost ℕ)) → AllByRecursion (GoodArc kind n) arcs → All (IsArc (λ v. v) n) arcs
good_arcs kind n arcs h = All-from_recursion (IsArc (λ v. v) n) arcs (weaker (GoodArc kind n) (IsArc (λ v. v) n) arcs (λ a good. good.0) h)

good_weights : (kind : ArcType) (n : ℕ) (arcs : List (Arc Cost ℕ)) → AllByRecursion (GoodArc kind n) arcs → All (λ a. HasField kind a.weight) arcs
good_weights kind n arcs h = All-from_recursion (λ a. HasField kind a.weight) arcs (weaker (GoodArc kind n) (λ a. HasField kind a.weight) arcs (λ a good. good.1) h)

pub arcs_of_states : (kind : ArcType) (n : ℕ) (ss : List (State Cost)) → AllByRecursion (GoodState kind n) ss → All (λ s. All (IsArc (λ v. v) n) s.arcs) ss
arcs_of_states kind n ss h = All-from_recursion (λ s. All (IsArc (λ v. v) n) s.arcs) ss (weaker (GoodState kind n) (λ s. All (IsArc (λ v. v) n) s.arcs) ss (λ s good. good_arcs kind n s.arcs good.1) h)

weights_of_states : (kind : ArcType) (n : ℕ) (ss : List (State Cost)) → AllByRecursion (GoodState kind n) ss → All (λ s. All (λ a. HasField kind a.weight) s.arcs) ss
weights_of_states kind n ss h = All-from_recursion (λ s. All (λ a. HasField kind a.weight) s.arcs) ss (weaker (GoodState kind n) (λ s. All (λ a. HasField kind a.weight) s.arcs) ss (λ s good. good_weights kind n s.arcs good.1) h)

finals_of_states : (kind : ArcType) (n : ℕ) (ss : List (State Cost)) → AllByRecursion (GoodState kind n) ss → All (λ s. HasField kind s.final) ss
finals_of_states kind n ss h = All-from_recursion (λ s. HasField kind s.final) ss (weaker (GoodState kind n) (λ s. HasField kind s.final) ss (λ s good. good.0) h)

both_good : (kind : ArcType) (n : ℕ) (s : State Cost) → All (IsArc (λ v. v) n) s.arcs × All (λ a. HasField kind a.weight) s.arcs → AllByRecursion (GoodArc kind n) s.arcs
both_good kind n s h = paired (IsArc (λ v. v) n) (λ a. HasField kind a.weight) s.arcs (recursion_from_All (IsArc (λ v. v) n) s.arcs h.0) (recursion_from_All (λ a. HasField kind a.weight) s.arcs h.1)

good_states : (kind : ArcType) (m : Machine Cost) → HasSpelling kind m → AllByRecursion (GoodState kind (length m.states)) m.states
good_states kind m h =
    let n = length m.states in
    let arcs = recursion_from_All (λ s. All (IsArc (λ v. v) n) s.arcs) m.states h.machine.arcs in
    let weights = recursion_from_All (λ s. All (λ a. HasField kind a.weight) s.arcs) m.states h.weights in
    let finals = recursion_from_All (λ s. HasField kind s.final) m.states h.finals in
    let both = paired (λ s. All (IsArc (λ v. v) n) s.arcs) (λ s. All (λ a. HasField kind a.weight) s.arcs) m.states arcs weights in
    let good = weaker (λ s. All (IsArc (λ v. v) n) s.arcs × All (λ a. HasField kind a.weight) s.arcs) (λ s. AllByRecursion (GoodArc kind n) s.arcs) m.states (both_good kind n) both in
    paired (λ s. HasField kind s.final) (λ s. AllByRecursion (GoodArc kind n) s.arcs) m.states finals good

-- ---- what is read is spelled so

-- the machine of a header and what it took
pub record MachineTaken (kind : ArcType) (h : Header) (bytes : List ℕ) (at : ℕ) (m : Machine Cost) : Type 0 where
  pub start : m.start ≡ h.start
  pub states : length m.states ≡ h.states
  pub arcs : arc_total m.states ≡ h.arcs
  pub next : ℕ
  pub end : next ≡ length bytes
  pub taken : Takes bytes at (flat_map (state_fields kind) m.states) next
  pub good : AllByRecursion (GoodState kind h.states) m.states

pub machine_takes : (kind : ArcType) (h : Header) (bytes : List ℕ) (at : ℕ) (m : Machine Cost) → at ≤ length bytes → IsBytes bytes → machine_at kind h bytes at ≡ Ok m → MachineTaken kind h bytes at m
unfolding machine_at
machine_takes kind h bytes at m within fits e =
    let ended = λ (all : List (State Cost) × ℕ). cond (eqb all.1 (length bytes)) (done {A = Machine Cost} {E = BinaryFault} (record { start = h.start; states = all.0 })) (fault Extra all.1) in
    let b = bind_ok (states_at kind h.states h.arcs 0 h.states bytes at) (λ all. cond (eqb (arc_total all.0) h.arcs) (ended all) (fault BadCount h.counted)) m e in
    let g = guard_passed (eqb (arc_total b.0.0) h.arcs) (ended b.0) (record { offset = h.counted; kind = BadCount }) m b.2 in
    let k = guard_passed (eqb b.0.1 (length bytes)) (Ok (record { start = h.start; states = b.0.0 })) (record { offset = b.0.1; kind = Extra }) m g.1 in
    let t = states_takes kind h.states h.arcs 0 h.states bytes at b.0.0 b.0.1 within fits b.1 in
    let made : Machine Cost = record { start = h.start; states = b.0.0 } in
    let taken : MachineTaken kind h bytes at made = record { start = refl; states = t.2; arcs = eqb-true _ _ g.0; next = b.0.1; end = eqb-true _ _ k.0; taken = t.0; good = t.1 } in
    subst (λ (x : Machine Cost). MachineTaken kind h bytes at x) (ok_is {A = Machine Cost} {E = BinaryFault} made m k.1) taken

same_counts : (s t : Option ℕ) (n k a b : ℕ) → s ≡ t → n ≡ k → a ≡ b → signed (start_number t) ++ long k ++ long b ≡ signed (start_number s) ++ long n ++ long a
same_counts s t n k a b e f g = rw (e, f, g) refl

same_start : (s t : Option ℕ) (n k : ℕ) → s ≡ t → n ≡ k → IfSome t (λ x. x < k) → IfSome s (λ x. x < n)
same_start s t n k e f h = rw (e, f) h

-- the version and the flags that were read are those of the tables, which stand apart from the states
settled : (types properties counts i o states : List ℕ) (version flags v f : ℕ) → version ≡ v → flags ≡ f → types ++ word version ++ word flags ++ properties ++ counts ++ (i ++ o) ++ states ≡ types ++ word v ++ word f ++ properties ++ counts ++ (i ++ (o ++ states))
settled types properties counts i o states version flags v f e g = rw (e, g) (simp append_assoc)

pub found_spelled : (kind : ArcType) (bytes : List ℕ) (t : TabledMachine) → IsBytes bytes → tabled_of_bytes kind bytes ≡ Ok t → TabledSpells kind bytes t.machine t.sides × HasSpelling kind t.machine × HasSides t.sides
unfolding tabled_of_bytes tabled_at
found_spelled kind bytes t fits e =
    let behind = λ (h : Header) (s : Sides × ℕ). machine_at kind h bytes s.1 >>= λ m. done {A = TabledMachine} {E = BinaryFault} (record { machine = m; sides = s.0 }) in
    let sided = λ (h : Header). sides_at h.flags bytes h.behind >>= behind h in
    let b = bind_ok (types_at (kind ∷ []) bytes) (λ types. header_at bytes types.1 >>= sided) t e in
    let c = bind_ok (header_at bytes b.0.1) sided t b.2 in
    let h = c.0 in
    let d = bind_ok (sides_at h.flags bytes h.behind) (behind h) t c.2 in
    let g = bind_ok (machine_at kind h bytes d.0.1) (λ m. done {A = TabledMachine} {E = BinaryFault} (record { machine = m; sides = d.0.0 })) t d.2 in
    let m = g.0 in
    let s = d.0.0 in
    let t0 = types_takes (kind ∷ []) bytes b.0.0 b.0.1 fits b.1 in
    let own : Takes bytes 0 (type_fields kind) b.0.1 = subst (λ (k : ArcType). Takes bytes 0 (type_fields k) b.0.1) (sym (found_alone t0.1.0 kind b.0.0 t0.1.1)) t0.0 in
    let t1 = header_takes bytes (type_fields kind) b.0.1 h fits own c.1 in
    let t2 = sides_take h.flags bytes h.behind s d.0.1 t1.taken.within fits d.1 in
    let t3 = machine_takes kind h bytes d.0.1 m t2.0.within fits g.1 in
    let is = kind_is t1.version h.flags s.isymbols s.osymbols t1.low t1.high t1.fit t2.2 t2.3 in
    let front = type_fields kind ++ word t1.version ++ word h.flags ++ t1.properties in
    let tabled = Takes-then bytes 0 (front ++ counts h) h.behind (sides_fields s) d.0.1 t1.taken t2.0 in
    let whole = Takes-then bytes 0 (front ++ counts h ++ sides_fields s) d.0.1 (flat_map (state_fields kind) m.states) t3.next tabled t3.taken in
    let read : bytes ≡ front ++ counts h ++ sides_fields s ++ flat_map (state_fields kind) m.states = Takes-all bytes _ t3.next whole t3.end in
    let same : counts h ≡ count_fields m = same_counts m.start h.start (length m.states) h.states (arc_total m.states) h.arcs t3.start t3.states t3.arcs in
    let counted = ap (λ (x : List ℕ). front ++ x ++ sides_fields s ++ flat_map (state_fields kind) m.states) same in
    let apart = settled (type_fields kind) t1.properties (count_fields m) (side_fields s.isymbols) (side_fields s.osymbols) (flat_map (state_fields kind) m.states) t1.version h.flags (version_of s.isymbols s.osymbols) (flags_of s.isymbols s.osymbols) is.0 is.1 in
    let states : length m.states ≡ h.states = t3.states in
    let good = subst (λ (n : ℕ). AllByRecursion (GoodState kind n) m.states) (sym states) t3.good in
    let machine : IsMachine (λ v. v) m = record {
      start = same_start m.start h.start (length m.states) h.states t3.start states t1.start;
      arcs = arcs_of_states kind (length m.states) m.states good;
      few_states = omega (arith, states, t1.few_states);
      few_arcs = omega (arith, t3.arcs, t1.few_arcs);
    } in
    let spells : TabledSpells kind bytes m s = (t1.properties, t1.eight, read ∙ counted ∙ apart) in
    let has : HasSpelling kind m = record { machine = machine; finals = finals_of_states kind (length m.states) m.states good; weights = weights_of_states kind (length m.states) m.states good } in
    subst (λ (x : TabledMachine). TabledSpells kind bytes x.machine x.sides × HasSpelling kind x.machine × HasSides x.sides) (ok_is {A = TabledMachine} {E = BinaryFault} (record { machine = m; sides = s }) t g.2) (spells, has, t2.1)

-- and of the machine alone
pub machine_spelled : (kind : ArcType) (bytes : List ℕ) (m : Machine Cost) → IsBytes bytes → machine_of_bytes kind bytes ≡ Ok m → Spells kind bytes m × HasSpelling kind m
unfolding machine_of_bytes
machine_spelled kind bytes m fits e =
    let b = bind_ok (tabled_of_bytes kind bytes) (λ t. done {A = Machine Cost} {E = BinaryFault} t.machine) m e in
    let found = found_spelled kind bytes b.0 fits b.1 in
    subst (λ (x : Machine Cost). Spells kind bytes x × HasSpelling kind x) (ok_is {A = Machine Cost} {E = BinaryFault} b.0.machine m b.2) ((b.0.sides, found.2, found.0), found.1)

-- ---- what is spelled so is read

-- reading a spelling and what follows it
pub record SpellingRead (kind : ArcType) (bytes : List ℕ) (t : TabledMachine) (rest : List ℕ) : Type 0 where
  pub next : ℕ
  pub gives : tabled_of_bytes kind bytes ≡ cond (eqb next (length bytes)) (Ok t) (fault Extra next)
  pub left : drop next bytes ≡ rest
  pub within : next ≤ length bytes

same_number : (n : ℕ) → eqb n n ≡ true
same_number n = eq-eqb n n refl

-- a machine that ends, or that something follows, and its tables
with_sides : (s : Sides) (m : Machine Cost) (b : Bool) (next : ℕ) → (cond b (done {A = Machine Cost} {E = BinaryFault} m) (fault Extra next) >>= λ m. done {A = TabledMachine} {E = BinaryFault} (record { machine = m; sides = s })) ≡ cond b (Ok (record { machine = m; sides = s })) (fault Extra next)
with_sides s m true next = refl
with_sides s m false next = refl

regroup : (a b c d e f g i o h rest : List ℕ) → (a ++ b ++ c ++ d ++ (e ++ f ++ g) ++ (i ++ (o ++ h))) ++ rest ≡ a ++ (b ++ (c ++ (d ++ (e ++ (f ++ (g ++ ((i ++ o) ++ (h ++ rest))))))))
regroup a b c d e f g i o h rest = simp append_assoc

pub spelling_again : (kind : ArcType) (properties bytes rest : List ℕ) (m : Machine Cost) (s : Sides) → HasSpelling kind m → HasSides s → length properties ≡ 8 → bytes ≡ tabled_with properties kind m s ++ rest → SpellingRead kind bytes (record { machine = m; sides = s }) rest
unfolding tabled_of_bytes tabled_at machine_at
spelling_again kind properties bytes rest m s has sided eight e =
    let ss = flat_map (state_fields kind) m.states in
    let n = length m.states in
    let a = arc_total m.states in
    let v = version_of s.isymbols s.osymbols in
    let f = flags_of s.isymbols s.osymbols in
    let tables : List ℕ = sides_fields s ++ (ss ++ rest) in
    let behind : List ℕ = word v ++ (word f ++ (properties ++ (signed (start_number m.start) ++ (long n ++ (long a ++ tables))))) in
    let apart : bytes ≡ type_fields kind ++ behind = e ∙ regroup (type_fields kind) (word v) (word f) properties (signed (start_number m.start)) (long n) (long a) (side_fields s.isymbols) (side_fields s.osymbols) ss rest in
    let types = types_again (kind ∷ []) kind bytes behind (named_alone kind) apart in
    let h = header_again bytes types.next s.isymbols s.osymbols properties m.start n a tables types.within eight has.machine.start has.machine.few_states has.machine.few_arcs types.left in
    let t = sides_again s bytes h.behind (ss ++ rest) h.within sided h.left in
    let all = states_again kind n a 0 bytes t.next m.states rest (omega (arith, has.machine.few_states)) (omega (arith, has.machine.few_arcs)) t.within (good_states kind m has) (omega arith) t.left in
    record { next = all.next; gives = rw (types.gives, h.gives, t.gives, all.gives, same_number a) (with_sides s m (eqb all.next (length bytes)) all.next); left = all.left; within = all.within }

-- the machine and the tables of their own spelling
pub tabled_again : (kind : ArcType) (properties : List ℕ) (m : Machine Cost) (s : Sides) → HasSpelling kind m → HasSides s → length properties ≡ 8 → tabled_of_bytes kind (tabled_with properties kind m s) ≡ Ok (record { machine = m; sides = s })
tabled_again kind properties m s has sided eight =
    let bytes = tabled_with properties kind m s in
    let t : TabledMachine = record { machine = m; sides = s } in
    let r = spelling_again kind properties bytes [] m s has sided eight (sym (append-nil bytes)) in
    let none : length bytes - r.next ≡ 0 = sym (length-drop r.next bytes) ∙ ap length r.left in
    let all : eqb r.next (length bytes) ≡ true = eq-eqb _ _ (omega (arith, none, r.within)) in
    r.gives ∙ ap (λ (b : Bool). cond b (done {A = TabledMachine} {E = BinaryFault} t) (fault Extra r.next)) all

pub tabled_spelled_again : (kind : ArcType) (bytes : List ℕ) (m : Machine Cost) (s : Sides) → HasSpelling kind m → HasSides s → TabledSpells kind bytes m s → tabled_of_bytes kind bytes ≡ Ok (record { machine = m; sides = s })
tabled_spelled_again kind bytes m s has sided spells = ap (tabled_of_bytes kind) spells.2 ∙ tabled_again kind spells.0 m s has sided spells.1

pub spelled_again : (kind : ArcType) (bytes : List ℕ) (m : Machine Cost) → HasSpelling kind m → Spells kind bytes m → machine_of_bytes kind bytes ≡ Ok m
spelled_again kind bytes m has spells = machine_alone kind bytes (record { machine = m; sides = spells.0 }) (tabled_spelled_again kind bytes m spells.0 has spells.1 spells.2)

-- the machine of its own spelling
pub machine_again : (kind : ArcType) (m : Machine Cost) → HasSpelling kind m → machine_of_bytes kind (spelling kind m) ≡ Ok m
machine_again kind m has = machine_alone kind (spelling kind m) (record { machine = m; sides = neither }) (tabled_again kind (long 3) m neither has (tt, tt) (length-long 3))

-- ---- no spelling goes on as another

-- a file has one arc type
one_type : (kind other : ArcType) (bytes rest more : List ℕ) → bytes ≡ type_fields kind ++ rest → bytes ≡ type_fields other ++ more → kind ≡ other
one_type kind other bytes rest more e f =
    let four = Boolean ∷ Tropical ∷ MinMax ∷ Lexicographic ∷ [] in
    let r = types_again four kind bytes rest (named_of_all kind) e in
    let s = types_again four other bytes more (named_of_all other) f in
    ap (λ (p : ArcType × ℕ). p.0) (ok_is {A = ArcType × ℕ} {E = BinaryFault} (kind, r.next) (other, s.next) (sym r.gives ∙ s.gives))

begins : (a b c d e f rest : List ℕ) → (a ++ b ++ c ++ d ++ e ++ f) ++ rest ≡ a ++ (b ++ (c ++ (d ++ (e ++ (f ++ rest)))))
begins a b c d e f rest = simp append_assoc

-- where reading ends well, nothing follows
nothing_follows : (t u : TabledMachine) (next : ℕ) (bytes rest : List ℕ) (b : Bool) → eqb next (length bytes) ≡ b → drop next bytes ≡ rest → cond b (done {A = TabledMachine} {E = BinaryFault} t) (fault Extra next) ≡ Ok u → (rest ≡ []) × (t ≡ u)
nothing_follows t u next bytes rest true ends left e =
    let at_end : next ≡ length bytes = eqb-true _ _ ends in
    (sym left ∙ drop_all next bytes (omega (arith, at_end)), ok_is {A = TabledMachine} {E = BinaryFault} t u e)
nothing_follows t u next bytes rest false ends left e = absurd cc

-- the types, and all that stands behind them
types_first : (kind : ArcType) (properties : List ℕ) (m : Machine Cost) (s : Sides) (rest : List ℕ) → (more : List ℕ) × (tabled_with properties kind m s ++ rest ≡ type_fields kind ++ more)
types_first kind properties m s rest =
    let behind = side_fields s.isymbols ++ (side_fields s.osymbols ++ flat_map (state_fields kind) m.states) in
    (_, begins (type_fields kind) (word (version_of s.isymbols s.osymbols)) (word (flags_of s.isymbols s.osymbols)) properties (count_fields m) behind rest)

pub prefix_free : (kind other : ArcType) (properties : List ℕ) (t u : TabledMachine) (rest : List ℕ) → HasSpelling kind t.machine → HasSides t.sides → HasSpelling other u.machine → HasSides u.sides → length properties ≡ 8
    → tabled_with properties other u.machine u.sides ≡ tabled_with properties kind t.machine t.sides ++ rest → (rest ≡ []) × (kind ≡ other) × (t ≡ u)
prefix_free kind other properties t u rest has sided also tabled eight e =
    let bytes = tabled_with properties other u.machine u.sides in
    let first = types_first kind properties t.machine t.sides rest in
    let second = types_first other properties u.machine u.sides [] in
    let same : kind ≡ other = one_type kind other bytes first.0 second.0 (e ∙ first.1) (sym (append-nil bytes) ∙ second.1) in
    let r = spelling_again kind properties bytes rest t.machine t.sides has sided eight e in
    let whole : tabled_of_bytes kind bytes ≡ Ok u = ap (λ (k : ArcType). tabled_of_bytes k bytes) same ∙ tabled_again other properties u.machine u.sides also tabled eight in
    let end = nothing_follows t u r.next bytes rest (eqb r.next (length bytes)) refl r.left (sym r.gives ∙ whole) in
    (end.0, same, end.1)

-- ---- the same of what a function returned

pub is_found : {X : Type 0} (view : X → Machine Cost) (kind : ArcType) (bytes : List ℕ) (result : Result X BinaryFault) → IsBytes bytes → Gives view result (machine_of_bytes kind bytes) → IfOk result (λ m. Spells kind bytes (view m) × HasSpelling kind (view m))
is_found view kind bytes (Ok m) fits given = machine_spelled kind bytes (view m) fits given
is_found view kind bytes (Err f) fits given = tt

pub is_found_tabled : {X : Type 0} (view : X → TabledMachine) (kind : ArcType) (bytes : List ℕ) (result : Result X BinaryFault) → IsBytes bytes → Gives view result (tabled_of_bytes kind bytes)
    → IfOk result (λ t. TabledSpells kind bytes (view t).machine (view t).sides × HasSpelling kind (view t).machine × HasSides (view t).sides)
is_found_tabled view kind bytes (Ok t) fits given = found_spelled kind bytes (view t) fits given
is_found_tabled view kind bytes (Err f) fits given = tt
