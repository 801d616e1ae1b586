-- Arcs whose weight fields have the tag 1, and take as many bytes each.
use Rattle.std.proofs.Common.{◌≡◌, ◌≢◌, ℕ, ◌+◌, ◌*◌, ◌≤◌, false, List, [], ◌∷◌, ◌++◌, length, map, All, refl, sym, subst, arith}
use Rattle.std.specs.List.{AllByRecursion, flat_map}
use Rattle.std.proofs.Math.Nat.{suc-mul, zero-mul}
use Rattle.std.proofs.Math.Seq.{drop-append_seam, take-append_seam}
use Rattle.std.proofs.lemmas.List.{length-append}
use Rattle.std.proofs.lemmas.List.Elements.{All-drop, All-take, recursion_from_All}
use Rattle.fst_semiring.specs.declared.arc_type.ArcType.{ArcType}
use Rattle.fst_semiring.specs.declared.arc_type.ArcType.TheVariants.{Boolean, Tropical, MinMax, Lexicographic}
use Rattle.fst_semiring.specs.Cost.{Cost, best, class_of, finite, infinite}
use Rattle.fst_machine.specs.Machine.{Arc, IsArc, State, valued_arc}
use Rattle.fst_bytes.specs.Reading.{has_best, number_count}
use Rattle.fst_bytes.specs.Spelling.{HasField}
use Rattle.fst_bytes.proofs.Lengths.{length-by_class}
use Rattle.fst_binary.specs.Spelling.{arc_fields}
use Rattle.fst_binary.proofs.Lengths.{length-arc_fields}

-- a value that is neither Zero nor the best
class_is_one : (kind : ArcType) (v : Cost) → HasField kind v → v ≢ infinite → has_best kind ≡ false → class_of v ≡ 1
class_is_one kind infinite fits other none = absurd (other refl)
class_is_one kind (finite a b) fits other none = refl
class_is_one Boolean best fits other none = absurd fits.0
class_is_one Tropical best fits other none = absurd fits.0
class_is_one MinMax best fits other none = absurd cc
class_is_one Lexicographic best fits other none = absurd fits.0

numbered_each : {V : Type 0} (value : V → Cost) (kind : ArcType) (w : ℕ) (arcs : List (Arc V ℕ)) → w ≡ 13 + 8 * number_count kind → has_best kind ≡ false → AllByRecursion (λ a. HasField kind (value a.weight)) arcs → AllByRecursion (λ a. value a.weight ≢ infinite) arcs → length (flat_map (arc_fields kind) (map (valued_arc value) arcs)) ≡ length arcs * w
numbered_each value kind w [] e none fits weights = sym (zero-mul w)
numbered_each value kind w (a ∷ arcs) e none fits weights =
    let own = length-arc_fields kind (valued_arc value a) in
    let field = length-by_class kind (value a.weight) (class_is_one kind (value a.weight) fits.0 weights.0 none) in
    let both = length-append (arc_fields kind (valued_arc value a)) (flat_map (arc_fields kind) (map (valued_arc value) arcs)) in
    let rest = numbered_each value kind w arcs e none fits.1 weights.1 in
    omega (arith, own, field, both, rest, e, suc-mul (length arcs) w)

-- how many bytes so many arcs take
pub numbered_arcs : {V : Type 0} (value : V → Cost) (kind : ArcType) (w : ℕ) (arcs : List (Arc V ℕ)) → w ≡ 13 + 8 * number_count kind → has_best kind ≡ false → All (λ a. HasField kind (value a.weight)) arcs → All (λ a. value a.weight ≢ infinite) arcs → length (flat_map (arc_fields kind) (map (valued_arc value) arcs)) ≡ length arcs * w
numbered_arcs value kind w arcs e none fits weights = numbered_each value kind w arcs e none (recursion_from_All (λ a. HasField kind (value a.weight)) arcs fits) (recursion_from_All (λ a. value a.weight ≢ infinite) arcs weights)

-- at most two numbers stand after the tag 1
pub few_numbers : (kind : ArcType) → number_count kind ≤ 2
few_numbers Boolean = omega arith
few_numbers Tropical = omega arith
few_numbers MinMax = omega arith
few_numbers Lexicographic = omega arith

-- no arc of a machine has the weight Zero
pub weights_of_machine : {V : Type 0} (value : V → Cost) (n : ℕ) (states : List (State V)) → All (λ s. All (IsArc value n) s.arcs) states → All (λ s. All (λ a. value a.weight ≢ infinite) s.arcs) states
weights_of_machine value n states h i d within j e inside = (h i d within j e inside).weight

-- what holds of both lists holds of each
pub all_of_first : {X : Type 0} (P : X → Type 0) (first second : List X) → All P (first ++ second) → All P first
all_of_first P first second h = subst (λ xs. All P xs) (take-append_seam first second) (All-take P (length first) (first ++ second) h)

pub all_of_second : {X : Type 0} (P : X → Type 0) (first second : List X) → All P (first ++ second) → All P second
all_of_second P first second h = subst (λ xs. All P xs) (drop-append_seam first second) (All-drop P (length first) (first ++ second) h)
