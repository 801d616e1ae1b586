-- Reading states one after the other, as a loop does.
use Rattle.std.proofs.Common.{◌≡◌, ℕ, suc, ◌-◌, ◌+◌, ◌≤◌, ◌<◌, List, [], ◌∷◌, ◌++◌, length, Result, Ok, Err, refl, sym, ◌∙◌, arith}
use Rattle.fst_semiring.specs.declared.arc_type.ArcType.{ArcType}
use Rattle.fst_semiring.specs.Cost.{Cost}
use Rattle.fst_machine.specs.Machine.{State}
use Rattle.fst_bytes.specs.declared.fault.Stopped.{Stopped}
use Rattle.fst_bytes.specs.declared.fault.Stopped.TheVariants.{At, Memory}
use Rattle.fst_bytes.specs.Reading.{with_front}
use Rattle.fst_bytes.specs.Stopping.{Stops}
use Rattle.fst_bytes.proofs.Loops.{front_ends, front_grows}
use Rattle.fst_binary.specs.declared.fault.BinaryKind.{BinaryKind}
use Rattle.fst_binary.specs.Reading.{BinaryFault, state_at, states_at}

-- a state more is read
pub states_go_on : (kind : ArcType) (states arcs before : ℕ) (front : List (State Cost)) (count i : ℕ) (bytes : List ℕ) (at : ℕ) (state : State Cost) (after : ℕ) (total : Result (List (State Cost) × ℕ) BinaryFault) → i < count → state_at kind states arcs before bytes at ≡ Ok (state, after)
    → with_front front (states_at kind states arcs before (count - i) bytes at) ≡ total → with_front (front ++ state ∷ []) (states_at kind states arcs (before + length state.arcs) (count - (i + 1)) bytes after) ≡ total
unfolding states_at
states_go_on kind states arcs before front count i bytes at state after total more h so_far =
    let k : count - i ≡ suc (count - (i + 1)) = omega arith in
    let one : with_front front (states_at kind states arcs before (count - i) bytes at) ≡ with_front (front ++ state ∷ []) (states_at kind states arcs (before + length state.arcs) (count - (i + 1)) bytes after) = rw (k, h) (front_grows front state (states_at kind states arcs (before + length state.arcs) (count - (i + 1)) bytes after)) in
    sym one ∙ so_far

-- the fault of a state is the fault of all
pub states_end : (kind : ArcType) (states arcs before : ℕ) (front : List (State Cost)) (count i : ℕ) (bytes : List ℕ) (at : ℕ) (f : BinaryFault) (total : Result (List (State Cost) × ℕ) BinaryFault) → i < count → state_at kind states arcs before bytes at ≡ Err f
    → with_front front (states_at kind states arcs before (count - i) bytes at) ≡ total → total ≡ Err f
unfolding states_at
states_end kind states arcs before front count i bytes at f total more h so_far =
    let k : count - i ≡ suc (count - (i + 1)) = omega arith in
    let one : with_front front (states_at kind states arcs before (count - i) bytes at) ≡ Err f = rw (k, h) refl in
    sym so_far ∙ one

pub states_stop : (kind : ArcType) (states arcs before : ℕ) (front : List (State Cost)) (count i : ℕ) (bytes : List ℕ) (at : ℕ) (stopped : Stopped BinaryKind) (total : Result (List (State Cost) × ℕ) BinaryFault) → i < count → Stops stopped (state_at kind states arcs before bytes at)
    → with_front front (states_at kind states arcs before (count - i) bytes at) ≡ total → Stops stopped total
states_stop kind states arcs before front count i bytes at (At f) total more wrong so_far = states_end kind states arcs before front count i bytes at f total more wrong so_far
states_stop kind states arcs before front count i bytes at Memory total more starved so_far = tt

-- no state is left
pub states_are_read : (kind : ArcType) (states arcs before : ℕ) (front : List (State Cost)) (count i : ℕ) (bytes : List ℕ) (at : ℕ) (total : Result (List (State Cost) × ℕ) BinaryFault) → count ≤ i → with_front front (states_at kind states arcs before (count - i) bytes at) ≡ total → total ≡ Ok (front, at)
unfolding states_at
states_are_read kind states arcs before front count i bytes at total none so_far =
    let k : count - i ≡ 0 = omega arith in
    let one : with_front front (states_at kind states arcs before (count - i) bytes at) ≡ Ok (front, at) = rw k (front_ends front at) in
    sym so_far ∙ one
