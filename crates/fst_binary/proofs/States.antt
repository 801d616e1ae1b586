-- Arcs and states that are read are those that stand there.
use Rattle.std.proofs.Common.{◌≡◌, ℕ, zero, suc, ◌+◌, ◌^◌, ◌<◌, ◌≤◌, ltb, leb, List, [], ◌∷◌, ◌++◌, length, drop, Ok, refl, sym, ap, subst, ◌∙◌, append_assoc, arith}
use Rattle.std.specs.List.{AllByRecursion, flat_map}
use Rattle.std.proofs.lemmas.Bool.{le-leb, leb-true, lt-ltb, ltb-true}
use Rattle.std.proofs.lemmas.List.Sums.{sum_by-cons}
use Rattle.fst_semiring.specs.declared.arc_type.ArcType.{ArcType}
use Rattle.fst_semiring.specs.Cost.{Cost}
use Rattle.fst_machine.specs.Machine.{Arc, State, IsArc, arc_total, greatest_label}
use Rattle.fst_binary.specs.Reading.{BinaryFault, arc_at, arcs_at, state_at, states_at}
use Rattle.fst_binary.specs.declared.fault.BinaryKind.TheVariants.{BadCount, BadLabel, BadNext, BadWeight, Short}
use Rattle.fst_binary.specs.Spelling.{arc_fields, state_fields}
use Rattle.fst_bytes.specs.Spelling.{HasField, long, weight_field, word}
use Rattle.fst_fields.specs.Reading.{◌>>=◌}
use Rattle.fst_bytes.specs.Reading.{non_zero_weight_at, file_weight_at, number_where}
use Rattle.fst_bytes.proofs.Loops.{many_again, many_takes}
use Rattle.fst_bytes.proofs.Numbers.{longs, where_again, where_takes, words}
use Rattle.fst_bytes.proofs.Steps.{IsBytes, Reads, Takes, Takes-none, Takes-then, bind_ok, ok_is}
use Rattle.fst_bytes.proofs.WeightFields.{file_weight_again, file_weight_takes, non_zero_weight_again, non_zero_weight_takes}

-- ---- arcs

-- an arc that has fields
abbrev pub GoodArc : ArcType → ℕ → Arc Cost ℕ → Type 0
GoodArc kind states a = IsArc (λ v. v) states a × HasField kind a.weight

arc_takes : (kind : ArcType) (states : ℕ) (bytes : List ℕ) (at : ℕ) (a : Arc Cost ℕ) (next : ℕ) → IsBytes bytes → arc_at kind states bytes at ≡ Ok (a, next) → Takes bytes at (arc_fields kind a) next × GoodArc kind states a
unfolding arc_at
arc_takes kind states bytes at a next fits e =
    let label = λ (n : ℕ). leb n greatest_label in
    let below = λ (n : ℕ). ltb n states in
    let b = bind_ok (number_where label Short BadLabel 4 bytes at) (λ i. number_where label Short BadLabel 4 bytes i.1 >>= λ o. non_zero_weight_at kind Short BadWeight bytes o.1 >>= λ w. number_where below Short BadNext 4 bytes w.1 >>= λ n. Ok (record { ilabel = i.0; olabel = o.0; weight = w.0; next = n.0 }, n.1)) (a, next) e in
    let c = bind_ok (number_where label Short BadLabel 4 bytes b.0.1) (λ o. non_zero_weight_at kind Short BadWeight bytes o.1 >>= λ w. number_where below Short BadNext 4 bytes w.1 >>= λ n. Ok (record { ilabel = b.0.0; olabel = o.0; weight = w.0; next = n.0 }, n.1)) (a, next) b.2 in
    let d = bind_ok (non_zero_weight_at kind Short BadWeight bytes c.0.1) (λ w. number_where below Short BadNext 4 bytes w.1 >>= λ n. Ok (record { ilabel = b.0.0; olabel = c.0.0; weight = w.0; next = n.0 }, n.1)) (a, next) c.2 in
    let f = bind_ok (number_where below Short BadNext 4 bytes d.0.1) (λ n. Ok (record { ilabel = b.0.0; olabel = c.0.0; weight = d.0.0; next = n.0 }, n.1)) (a, next) d.2 in
    let t0 = where_takes label Short BadLabel 4 (2 ^ 32) word words bytes at b.0.0 b.0.1 fits b.1 in
    let t1 = where_takes label Short BadLabel 4 (2 ^ 32) word words bytes b.0.1 c.0.0 c.0.1 fits c.1 in
    let t2 = non_zero_weight_takes kind Short BadWeight bytes c.0.1 d.0.0 d.0.1 fits d.1 in
    let t3 = where_takes below Short BadNext 4 (2 ^ 32) word words bytes d.0.1 f.0.0 f.0.1 fits f.1 in
    let two = Takes-then bytes at (word b.0.0) b.0.1 (word c.0.0) c.0.1 t0.0 t1.0 in
    let three = Takes-then bytes at (word b.0.0 ++ word c.0.0) c.0.1 (weight_field kind d.0.0) d.0.1 two t2.0 in
    let four = Takes-then bytes at (word b.0.0 ++ word c.0.0 ++ weight_field kind d.0.0) d.0.1 (word f.0.0) f.0.1 three t3.0 in
    let made : Arc Cost ℕ = record { ilabel = b.0.0; olabel = c.0.0; weight = d.0.0; next = f.0.0 } in
    let good : GoodArc kind states made = (record { ilabel = leb-true _ _ t0.1; olabel = leb-true _ _ t1.1; weight = t2.2; next = ltb-true _ _ t3.1 }, t2.1) in
    subst (λ (p : Arc Cost ℕ × ℕ). Takes bytes at (arc_fields kind p.0) p.1 × GoodArc kind states p.0) (ok_is {A = Arc Cost ℕ × ℕ} {E = BinaryFault} (made, f.0.1) (a, next) f.2) (four, good)

arc_again : (kind : ArcType) (states : ℕ) (bytes : List ℕ) (at : ℕ) (a : Arc Cost ℕ) (rest : List ℕ) → states < 2 ^ 32 → at ≤ length bytes → GoodArc kind states a → drop at bytes ≡ arc_fields kind a ++ rest → Reads bytes (arc_at kind states bytes at) a rest
unfolding arc_at
arc_again kind states bytes at a rest few within good e =
    let label = λ (n : ℕ). leb n greatest_label in
    let below = λ (n : ℕ). ltb n states in
    let apart : drop at bytes ≡ word a.ilabel ++ (word a.olabel ++ (weight_field kind a.weight ++ (word a.next ++ rest))) = e ∙ simp append_assoc in
    let i = where_again label Short BadLabel 4 (2 ^ 32) word words bytes at a.ilabel (word a.olabel ++ (weight_field kind a.weight ++ (word a.next ++ rest))) within (omega (arith, good.0.ilabel)) (le-leb _ _ good.0.ilabel) apart in
    let o = where_again label Short BadLabel 4 (2 ^ 32) word words bytes i.next a.olabel (weight_field kind a.weight ++ (word a.next ++ rest)) i.within (omega (arith, good.0.olabel)) (le-leb _ _ good.0.olabel) i.left in
    let w = non_zero_weight_again kind Short BadWeight bytes o.next a.weight (word a.next ++ rest) o.within good.1 good.0.weight o.left in
    let n = where_again below Short BadNext 4 (2 ^ 32) word words bytes w.next a.next rest w.within (omega (arith, good.0.next, few)) (lt-ltb _ _ good.0.next) w.left in
    record { next = n.next; gives = rw (i.gives, o.gives, w.gives, n.gives) refl; left = n.left; within = n.within }

arcs_takes : (kind : ArcType) (states count : ℕ) (bytes : List ℕ) (at : ℕ) (arcs : List (Arc Cost ℕ)) (next : ℕ) → at ≤ length bytes → IsBytes bytes → arcs_at kind states count bytes at ≡ Ok (arcs, next) → Takes bytes at (flat_map (arc_fields kind) arcs) next × AllByRecursion (GoodArc kind states) arcs × (length arcs ≡ count)
arcs_takes kind states count bytes at arcs next within fits e = many_takes (arc_at kind states bytes) (arc_fields kind) (GoodArc kind states) bytes (λ i a end _ read. arc_takes kind states bytes i a end fits read) count at arcs next within e

arcs_again : (kind : ArcType) (states : ℕ) (bytes : List ℕ) (at : ℕ) (arcs : List (Arc Cost ℕ)) (rest : List ℕ) → states < 2 ^ 32 → at ≤ length bytes → AllByRecursion (GoodArc kind states) arcs → drop at bytes ≡ flat_map (arc_fields kind) arcs ++ rest → Reads bytes (arcs_at kind states (length arcs) bytes at) arcs rest
arcs_again kind states bytes at arcs rest few within good e = many_again (arc_at kind states bytes) (arc_fields kind) (GoodArc kind states) bytes (λ i a left. arc_again kind states bytes i a left few) at arcs rest within good e

-- ---- states

-- a state that has fields
abbrev pub GoodState : ArcType → ℕ → State Cost → Type 0
GoodState kind states s = HasField kind s.final × AllByRecursion (GoodArc kind states) s.arcs

state_takes : (kind : ArcType) (states most before : ℕ) (bytes : List ℕ) (at : ℕ) (s : State Cost) (next : ℕ) → IsBytes bytes → state_at kind states most before bytes at ≡ Ok (s, next) → Takes bytes at (state_fields kind s) next × GoodState kind states s × (before + length s.arcs ≤ most)
unfolding state_at
state_takes kind states most before bytes at s next fits e =
    let few = λ (n : ℕ). leb (before + n) most in
    let b = bind_ok (file_weight_at kind Short BadWeight bytes at) (λ f. number_where few Short BadCount 8 bytes f.1 >>= λ n. arcs_at kind states n.0 bytes n.1 >>= λ own. Ok (record { final = f.0; arcs = own.0 }, own.1)) (s, next) e in
    let c = bind_ok (number_where few Short BadCount 8 bytes b.0.1) (λ n. arcs_at kind states n.0 bytes n.1 >>= λ own. Ok (record { final = b.0.0; arcs = own.0 }, own.1)) (s, next) b.2 in
    let d = bind_ok (arcs_at kind states c.0.0 bytes c.0.1) (λ own. Ok (record { final = b.0.0; arcs = own.0 }, own.1)) (s, next) c.2 in
    let t0 = file_weight_takes kind Short BadWeight bytes at b.0.0 b.0.1 fits b.1 in
    let t1 = where_takes few Short BadCount 8 (2 ^ 64) long longs bytes b.0.1 c.0.0 c.0.1 fits c.1 in
    let t2 = arcs_takes kind states c.0.0 bytes c.0.1 d.0.0 d.0.1 t1.0.within fits d.1 in
    let two = Takes-then bytes at (weight_field kind b.0.0) b.0.1 (long c.0.0) c.0.1 t0.0 t1.0 in
    let three = Takes-then bytes at (weight_field kind b.0.0 ++ long c.0.0) c.0.1 (flat_map (arc_fields kind) d.0.0) d.0.1 two t2.0 in
    let made : State Cost = record { final = b.0.0; arcs = d.0.0 } in
    let counted : Takes bytes at (state_fields kind made) d.0.1 = subst (λ (n : ℕ). Takes bytes at (weight_field kind b.0.0 ++ long n ++ flat_map (arc_fields kind) d.0.0) d.0.1) (sym t2.2) three in
    let fewer : before + length d.0.0 ≤ most = subst (λ (n : ℕ). before + n ≤ most) (sym t2.2) (leb-true _ _ t1.1) in
    subst (λ (p : State Cost × ℕ). Takes bytes at (state_fields kind p.0) p.1 × GoodState kind states p.0 × (before + length p.0.arcs ≤ most)) (ok_is {A = State Cost × ℕ} {E = BinaryFault} (made, d.0.1) (s, next) d.2) (counted, (t0.1, t2.1), fewer)

state_again : (kind : ArcType) (states most before : ℕ) (bytes : List ℕ) (at : ℕ) (s : State Cost) (rest : List ℕ) → states < 2 ^ 32 → most < 2 ^ 64 → at ≤ length bytes → GoodState kind states s → before + length s.arcs ≤ most → drop at bytes ≡ state_fields kind s ++ rest → Reads bytes (state_at kind states most before bytes at) s rest
unfolding state_at
state_again kind states most before bytes at s rest few low within good fewer e =
    let test = λ (n : ℕ). leb (before + n) most in
    let apart : drop at bytes ≡ weight_field kind s.final ++ (long (length s.arcs) ++ (flat_map (arc_fields kind) s.arcs ++ rest)) = e ∙ append_assoc (weight_field kind s.final ++ long (length s.arcs)) (flat_map (arc_fields kind) s.arcs) rest ∙ append_assoc (weight_field kind s.final) (long (length s.arcs)) (flat_map (arc_fields kind) s.arcs ++ rest) in
    let f = file_weight_again kind Short BadWeight bytes at s.final (long (length s.arcs) ++ (flat_map (arc_fields kind) s.arcs ++ rest)) within good.0 apart in
    let n = where_again test Short BadCount 8 (2 ^ 64) long longs bytes f.next (length s.arcs) (flat_map (arc_fields kind) s.arcs ++ rest) f.within (omega (arith, fewer, low)) (le-leb _ _ fewer) f.left in
    let own = arcs_again kind states bytes n.next s.arcs rest few n.within good.1 n.left in
    record { next = own.next; gives = rw (f.gives, n.gives, own.gives) refl; left = own.left; within = own.within }

pub states_takes : (kind : ArcType) (states most before count : ℕ) (bytes : List ℕ) (at : ℕ) (ss : List (State Cost)) (next : ℕ) → at ≤ length bytes → IsBytes bytes → states_at kind states most before count bytes at ≡ Ok (ss, next) → Takes bytes at (flat_map (state_fields kind) ss) next × AllByRecursion (GoodState kind states) ss × (length ss ≡ count)
unfolding states_at
states_takes kind states most before zero bytes at ss next within fits e =
    subst (λ (p : List (State Cost) × ℕ). Takes bytes at (flat_map (state_fields kind) p.0) p.1 × AllByRecursion (GoodState kind states) p.0 × (length p.0 ≡ 0)) (ok_is {A = List (State Cost) × ℕ} {E = BinaryFault} ([], at) (ss, next) e) (Takes-none bytes at within, tt, refl)
states_takes kind states most before (suc count) bytes at ss next within fits e =
    let b = bind_ok (state_at kind states most before bytes at) (λ first. states_at kind states most (before + length first.0.arcs) count bytes first.1 >>= λ others. Ok (first.0 ∷ others.0, others.1)) (ss, next) e in
    let c = bind_ok (states_at kind states most (before + length b.0.0.arcs) count bytes b.0.1) (λ others. Ok (b.0.0 ∷ others.0, others.1)) (ss, next) b.2 in
    let t0 = state_takes kind states most before bytes at b.0.0 b.0.1 fits b.1 in
    let t1 = states_takes kind states most (before + length b.0.0.arcs) count bytes b.0.1 c.0.0 c.0.1 t0.0.within fits c.1 in
    let both = Takes-then bytes at (state_fields kind b.0.0) b.0.1 (flat_map (state_fields kind) c.0.0) c.0.1 t0.0 t1.0 in
    subst (λ (p : List (State Cost) × ℕ). Takes bytes at (flat_map (state_fields kind) p.0) p.1 × AllByRecursion (GoodState kind states) p.0 × (length p.0 ≡ suc count)) (ok_is {A = List (State Cost) × ℕ} {E = BinaryFault} (b.0.0 ∷ c.0.0, c.0.1) (ss, next) c.2) (both, (t0.1, t1.1), ap suc t1.2)

pub states_again : (kind : ArcType) (states most before : ℕ) (bytes : List ℕ) (at : ℕ) (ss : List (State Cost)) (rest : List ℕ) → states < 2 ^ 32 → most < 2 ^ 64 → at ≤ length bytes → AllByRecursion (GoodState kind states) ss → before + arc_total ss ≤ most → drop at bytes ≡ flat_map (state_fields kind) ss ++ rest → Reads bytes (states_at kind states most before (length ss) bytes at) ss rest
unfolding states_at
states_again kind states most before bytes at [] rest few low within good fewer e = record { next = at; gives = refl; left = e; within = within }
states_again kind states most before bytes at (s ∷ ss) rest few low within good fewer e =
    let total : arc_total (s ∷ ss) ≡ length s.arcs + arc_total ss = sum_by-cons (λ (t : State Cost). length t.arcs) s ss in
    let apart : drop at bytes ≡ state_fields kind s ++ (flat_map (state_fields kind) ss ++ rest) = e ∙ append_assoc (state_fields kind s) (flat_map (state_fields kind) ss) rest in
    let first = state_again kind states most before bytes at s (flat_map (state_fields kind) ss ++ rest) few low within good.0 (omega (arith, total, fewer)) apart in
    let others = states_again kind states most (before + length s.arcs) bytes first.next ss rest few low first.within good.1 (omega (arith, total, fewer)) first.left in
    record { next = others.next; gives = rw (first.gives, others.gives) refl; left = others.left; within = others.within }
