-- Machines and codices taken as those of one arc type.
use Rattle.std.specs.Prelude.{◌≡◌, Bool, true, false, ⊤, List, [], ◌∷◌, ◌++◌, map, Result, Ok, Err, if◌then◌else◌}
use Rattle.std.specs.declared.alloc.Global.{Global}
use Rattle.std.specs.Prelude.{Vec}
use Rattle.fst_fields.specs.Reading.{◌>>=◌}
use Rattle.fst_semiring.specs.declared.arc_type.ArcType.{ArcType}
use Rattle.fst_semiring.specs.declared.arc_type.ArcType.TheVariants.{Boolean, Tropical, MinMax, Lexicographic}
use Rattle.fst_semiring.specs.Cost.{Cost}
use Rattle.fst_machine.specs.Machine.{Machine, valued}
use Rattle.fst_codex.specs.Table.{Table}
use Rattle.fst_any.specs.Typed.{Typed, TypedCodex}
use Rattle.fst_any.specs.declared.kinded.OtherKind.{OtherKind}
use Rattle.fst_any.specs.declared.kinded.OtherKind.TheVariants as others

-- whether two arc types are one
abbrev pub same_kind : ArcType → ArcType → Bool
same_kind Boolean Boolean = true
same_kind Tropical Tropical = true
same_kind MinMax MinMax = true
same_kind Lexicographic Lexicographic = true
same_kind _ _ = false

-- the machine, where it has this arc type, and else its arc type
abbrev pub machine_as : ArcType → Typed → Result (Machine Cost) ArcType
machine_as kind t = if same_kind kind t.kind then Ok t.machine else Err t.kind

-- the codex, where it has this arc type, and else its arc type
abbrev pub codex_as : ArcType → TypedCodex → Result (Table Cost) ArcType
codex_as kind t = if same_kind kind t.kind then Ok t.table else Err t.kind

-- the machines, where all have this arc type, and else the arc type of the first that has not
abbrev pub machines_as : ArcType → List Typed → Result (List (Machine Cost)) ArcType
machines_as kind [] = Ok []
machines_as kind (t ∷ ts) = machine_as kind t >>= λ m. machines_as kind ts >>= λ ms. Ok (m ∷ ms)

-- machines that stand before others that are taken
abbrev pub before : List (Machine Cost) → Result (List (Machine Cost)) ArcType → Result (List (Machine Cost)) ArcType
before front taken = taken >>= λ ms. Ok (front ++ ms)

-- The machines are those that are taken, or the other arc type is; unless memory ran out.
abbrev pub TakesAll : {W : Type 0} → (W → Cost) → Result (Vec (Machine W) Global) OtherKind → Result (List (Machine Cost)) ArcType → Type 0
TakesAll value (Ok machines) taken = taken ≡ Ok (map (valued value) machines.items)
TakesAll value (Err (others.Other kind)) taken = taken ≡ Err kind
TakesAll value (Err others.Memory) taken = ⊤
