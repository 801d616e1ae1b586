-- `shortestdistance`: the lines of distances, the first distance that is too large, and what stands against them.
use Rattle.std.proofs.Common.{◌≡◌, ◌⊎◌, inl, inr, ℕ, suc, ◌<◌, ◌≤◌, ◌+◌, ◌++◌, All, List, [], ◌∷◌, Option, None, Some, length, get_or, map, take, slice_get, refl, sym, ap, ◌∙◌, subst, is_some, true, Result, Ok, Err, IfOk, IfErr, OnOk, arith}
use Rattle.std.proofs.lemmas.List.{append-nil, append_assoc, length-map, length-take-le, map_more}
use Rattle.std.proofs.lemmas.List.Elements.{All-push}
use Rattle.std.proofs.lemmas.Bool.{cases_lt}
use Rattle.std.proofs.lemmas.Option.{get_or_from_slice_get, slice_get-get_or, slice_get_within}
use Rattle.std.proofs.Math.ListN.{get_or-map}
use Rattle.fst_semiring.specs.declared.arc_type.ArcType.{ArcType}
use Rattle.fst_semiring.specs.Cost.{Cost}
use Rattle.fst_semiring.specs.Semiring.{InRange}
use Rattle.fst_machine.specs.BreadthFirst.{Apart, Has}
use Rattle.fst_machine.specs.Graph.{graph_of}
use Rattle.fst_machine.specs.Machine.{Machine}
use Rattle.fst_machine.proofs.OneMachine.{one_list}
use Rattle.fst_machine.proofs.Weights.{one_least}
use Rattle.fst_machine.specs.declared.path.Step.{Step}
use Rattle.fst_search.specs.Distances.{Counts, IfImproving, IsDistanceTo, IsStartDistance, NoneImproves}
use Rattle.fst_search.specs.declared.fault.DistanceFault.{DistanceFault}
use Rattle.fst_search.specs.declared.fault.DistanceFault.TheVariants as faults
use Rattle.fst_search.specs.declared.direction.Direction.{Direction}
use Rattle.fst_search.specs.declared.direction.Direction.TheVariants.{FromStart, ToFinals}
use Rattle.fst_machine.proofs.BreadthFirst.{at_take}
use Rattle.fst_machine.proofs.Arcs.{at_mapped, mapped_at}
use Rattle.fst_machine.proofs.Elements.{Apart_within}
use Rattle.fst_queue.specs.Members.{Takes}
use Rattle.fst_verbs.specs.Measuring.{AreDistances, IsFirstPast, IsUnmeasured, distance_line, distance_lines}
use Rattle.fst_verbs.specs.OneMeaning.{One}
use Rattle.fst_verbs.specs.declared.commands.measuring.Unmeasured.{Unmeasured}
use Rattle.fst_verbs.specs.declared.commands.measuring.Unmeasured.TheVariants.{ImprovingCycle, Overflow}

-- ---- a queue gives up its states

-- a take of a state leaves fewer
shorter : (old : List ℕ) (state : ℕ) (new : List ℕ) → Takes old (Some state) new → Apart new → length new < length old
shorter old state new takes apart = Apart_within (state ∷ new) old ((λ has. ((takes.1 state).0 has).1 refl), apart) within
  where
    within : (q : ℕ) → Has (state ∷ new) q → Has old q
    within q (inl e) = subst (Has old) e takes.0
    within q (inr has) = ((takes.1 q).0 has).0

pub shorter_after : (old : List ℕ) (taken : Option ℕ) (new : List ℕ) → Takes old taken new → Apart new → is_some taken ≡ true → length new < length old
shorter_after old None new takes apart some = absurd cc
shorter_after old (Some state) new takes apart some = shorter old state new takes apart

-- ---- the lines

-- one line more
distance_lines-push : (kind : ArcType) (state : ℕ) (ds : List Cost) (d : Cost) → distance_lines kind state (ds ++ d ∷ []) ≡ distance_lines kind state ds ++ distance_line kind (state + length ds) d
distance_lines-push kind state [] d =
    let same : state ≡ state + 0 = omega arith in
    append-nil (distance_line kind state d) ∙ ap (λ (n : ℕ). distance_line kind n d) same
distance_lines-push kind state (e ∷ ds) d =
    let same : state + 1 + length ds ≡ state + suc (length ds) = omega arith in
    ap (λ (more : List ℕ). distance_line kind state e ++ more) (distance_lines-push kind (state + 1) ds d)
    ∙ (sym (append_assoc (distance_line kind state e) (distance_lines kind (state + 1) ds) (distance_line kind (state + 1 + length ds) d))
    ∙ ap (λ (n : ℕ). distance_line kind state e ++ distance_lines kind (state + 1) ds ++ distance_line kind n d) same)

module _ {W : Type 0} (kind : ArcType) (value : W → Cost) (ds : List W) (i : ℕ) (d : W) (low : i < length ds) (there : d ≡ get_or ds i d) where
  further : map value (take (i + 1) ds) ≡ map value (take i ds) ++ value d ∷ []
  further = map_more value ds i d low ∙ ap (λ (x : W). map value (take i ds) ++ value x ∷ []) (sym there)

  long : length (map value (take i ds)) ≡ i
  long = length-map (take i ds) value ∙ length-take-le i ds (omega (arith, low))

  counted : i ≡ 0 + length (map value (take i ds))
  counted = omega (arith, long)

  pub lines_more : (lines more : List ℕ) → lines ≡ distance_lines kind 0 (map value (take i ds)) → more ≡ lines ++ distance_line kind i (value d) → more ≡ distance_lines kind 0 (map value (take (i + 1) ds))
  lines_more lines more so put =
      put ∙ (ap (λ (xs : List ℕ). xs ++ distance_line kind i (value d)) so
      ∙ (ap (λ (n : ℕ). distance_lines kind 0 (map value (take i ds)) ++ distance_line kind n (value d)) counted
      ∙ (sym (distance_lines-push kind 0 (map value (take i ds)) (value d)) ∙ ap (distance_lines kind 0) (sym further))))

  pub range_more : All InRange (map value (take i ds)) → InRange (value d) → All InRange (map value (take (i + 1) ds))
  range_more all fits = subst (All InRange) (sym further) (All-push InRange (map value (take i ds)) (value d) all fits)

  -- the first that is too large
  pub first_past : All InRange (map value (take i ds)) → (InRange (value d) → ⊥) → IsFirstPast (map value ds) i
  first_past all past = record {
    distance = value d;
    there = slice_get-get_or (map value ds) i (value d) (omega (arith, low, length-map ds value)) ∙ ap Some (get_or-map value ds i d ∙ ap value (sym there));
    past = past;
    first = λ q e before has.
        let at = mapped_at value ds q e has in
        let here : slice_get (map value (take i ds)) q ≡ Some (value at.0) = at_mapped value (take i ds) q at.0 (at_take ds i q at.0 at.1 before) in
        subst InRange (get_or_from_slice_get (map value (take i ds)) q (value at.0) e here ∙ at.2) (all q e (omega (arith, before, long)));
  }

-- ---- the distances

module _ (kind : ArcType) (m : Machine Cost) where
  from_one_start : (start : Option ℕ) (q : ℕ) → One (IsStartDistance kind (graph_of m) start q)
  from_one_start None q d e one two = one ∙ sym two
  from_one_start (Some start) q d e one two = one_least _ d e one two

  one_distance : (direction : Direction) (q : ℕ) → One (IsDistanceTo direction kind (graph_of m) q)
  one_distance FromStart q d e one two = from_one_start (graph_of m).start q d e one two
  one_distance ToFinals q d e one two = one_least _ d e one two

  -- the distances of the states are one list
  pub one_distances : (direction : Direction) → One (AreDistances direction kind m)
  one_distances direction xs ys one two = one_list xs ys (one.size ∙ sym two.size) at
    where
      at : (i : ℕ) (d : Cost) → i < length xs → get_or xs i d ≡ get_or ys i d
      at i d low = one_distance direction i (get_or xs i d) (get_or ys i d) (one.each i (get_or xs i d) (slice_get-get_or xs i d low)) (two.each i (get_or ys i d) (slice_get-get_or ys i d (omega (arith, low, one.size, two.size))))

  pub are_distances : {W : Type 0} (value : W → Cost) (direction : Direction) (items : List W) → length items ≡ length m.states
      → ((q : ℕ) (d : W) → slice_get items q ≡ Some d → IsDistanceTo direction kind (graph_of m) q (value d)) → AreDistances direction kind m (map value items)
  are_distances value direction items size each = record {
    size = length-map items value ∙ size;
    each = λ q d there. let at = mapped_at value items q d there in subst (IsDistanceTo direction kind (graph_of m) q) at.2 (each q at.0 at.1);
  }

  -- nothing stands against distances that are in range
  pub measured_passes : (direction : Direction) (ds : List Cost) → AreDistances direction kind m ds → NoneImproves kind (graph_of m) (Counts direction (graph_of m)) → All InRange ds
      → (why : Unmeasured) → IsUnmeasured direction kind m why → ⊥
  measured_passes direction ds are none range ImprovingCycle improves = none improves.0 improves.1 improves.2 improves.3
  measured_passes direction ds are none range (Overflow state) (fine, others, same, past) =
      let there : slice_get ds state ≡ Some past.distance = ap (λ (xs : List Cost). slice_get xs state) (one_distances direction ds others are same) ∙ past.there in
      past.past (subst InRange (get_or_from_slice_get ds state past.distance past.distance there) (range state past.distance (slice_get_within ds state past.distance there)))

  -- one thing stands against them
  pub one_unmeasured : (direction : Direction) → One (IsUnmeasured direction kind m)
  one_unmeasured direction ImprovingCycle ImprovingCycle one two = refl
  one_unmeasured direction ImprovingCycle (Overflow state) one two = absurd (two.0 one)
  one_unmeasured direction (Overflow state) ImprovingCycle one two = absurd (one.0 two)
  one_unmeasured direction (Overflow state) (Overflow other) one two = ap Overflow (one_past one.1 state other one.3 (subst (λ (xs : List Cost). IsFirstPast xs other) (one_distances direction two.1 one.1 two.2 one.2) two.3))
    where
      one_past : (ds : List Cost) (i j : ℕ) → IsFirstPast ds i → IsFirstPast ds j → i ≡ j
      one_past ds i j first second = by (cases_lt i j) (cases_lt j i)
        where
          by : (i < j) ⊎ (j ≤ i) → (j < i) ⊎ (i ≤ j) → i ≡ j
          by (inl low) more = absurd (first.past (second.first i first.distance low first.there))
          by (inr high) (inl low) = absurd (second.past (first.first j second.distance low second.there))
          by (inr high) (inr low) = omega (arith, high, low)

-- ---- what an answer says, once it is known

pub in_ok : {T E : Type 0} (r : Result T E) (x : T) (P : T → Type 0) → r ≡ Ok x → IfOk r P → P x
in_ok r x P e h = subst (λ (s : Result _ _). IfOk s P) e h

pub on_ok : {T E : Type 0} (r : Result T E) (x : T) (P : Type 0) → r ≡ Ok x → OnOk r P → P
on_ok r x P e h = subst (λ (s : Result _ _). OnOk s P) e h

pub in_err : {T E : Type 0} (r : Result T E) (f : E) (P : E → Type 0) → r ≡ Err f → IfErr r P → P f
in_err r f P e h = subst (λ (s : Result _ _). IfErr s P) e h

pub listed : (f : DistanceFault) (cycle : List Step) (P : List Step → Type 0) → f ≡ faults.ImprovingCycle cycle → IfImproving f P → P cycle
listed f cycle P e h = subst (λ (f : DistanceFault). IfImproving f P) e h
