-- Bare states that are filled one after the other are those of the pushed machine.
use Rattle.std.proofs.Common.{◌≡◌, ℕ, ◌+◌, ◌<◌, ◌≤◌, zero, suc, List, [], ◌∷◌, ◌++◌, length, map, take, drop, get_or, slice_get, refl, sym, ap, ap₂, ◌∙◌, append_assoc, append-nil, arith}
use Rattle.std.specs.List.{All}
use Rattle.std.proofs.Math.Seq.{drop-cons}
use Rattle.std.proofs.lemmas.List.{length-append, length-map, length-take-le, map-append, take-append-drop, take_more}
use Rattle.std.proofs.lemmas.List.Sums.{sum_by-cons, sum_by-append, sum_by_more_le}
use Rattle.fst_semiring.specs.Cost.{Cost}
use Rattle.fst_machine.specs.Machine.{Arc, State, IsArc, arc_total, changed, valued_arc, valued_state, with_arc, with_final}
use Rattle.fst_machine.specs.Graph.{no_state}
use Rattle.fst_machine.proofs.Arcs.{at_mapped}
use Rattle.fst_machine.proofs.Narrowing.{all_at}
use Rattle.std.proofs.lemmas.Option.{slice_get-get_or}
use Rattle.fst_distance.proofs.Lists.{changed_behind, changed_map, changed_same, changed_twice, length_changed}
use Rattle.fst_distance.specs.Filling.{bare, filled, part_filled, with_arcs}

-- ---- arcs of a state

one_state : (s t : State Cost) → s.final ≡ t.final → s.arcs ≡ t.arcs → s ≡ t
one_state s t final arcs = λ i. record { final = final i; arcs = arcs i }

none_more : (s : State Cost) → with_arcs [] s ≡ s
none_more s = one_state (with_arcs [] s) s refl (append-nil s.arcs)

one_more : (arcs : List (Arc Cost ℕ)) (a : Arc Cost ℕ) (s : State Cost) → with_arc a (with_arcs arcs s) ≡ with_arcs (arcs ++ a ∷ []) s
one_more arcs a s = one_state (with_arc a (with_arcs arcs s)) (with_arcs (arcs ++ a ∷ []) s) refl (append_assoc s.arcs arcs (a ∷ []))

total_with_arcs : (arcs : List (Arc Cost ℕ)) (states : List (State Cost)) (i : ℕ) → i < length states → arc_total (changed (with_arcs arcs) states i) ≡ arc_total states + length arcs
total_with_arcs arcs [] i low = absurd (omega (arith, low))
total_with_arcs arcs (s ∷ states) zero low =
    let new = sum_by-cons (λ (t : State Cost). length t.arcs) (with_arcs arcs s) states in
    let old = sum_by-cons (λ (t : State Cost). length t.arcs) s states in
    let longer = length-append s.arcs arcs in
    omega (arith, new, old, longer)
total_with_arcs arcs (s ∷ states) (suc i) low =
    let new = sum_by-cons (λ (t : State Cost). length t.arcs) s (changed (with_arcs arcs) states i) in
    let old = sum_by-cons (λ (t : State Cost). length t.arcs) s states in
    let rest = total_with_arcs arcs states i (omega (arith, low)) in
    omega (arith, new, old, rest)

total_with_final : {V : Type 0} (w : V) (states : List (State V)) (i : ℕ) → arc_total (changed (with_final w) states i) ≡ arc_total states
total_with_final w [] i = refl
total_with_final w (s ∷ states) zero =
    let new = sum_by-cons (λ (t : State _). length t.arcs) (with_final w s) states in
    let old = sum_by-cons (λ (t : State _). length t.arcs) s states in
    omega (arith, new, old)
total_with_final w (s ∷ states) (suc i) =
    let new = sum_by-cons (λ (t : State _). length t.arcs) s (changed (with_final w) states i) in
    let old = sum_by-cons (λ (t : State _). length t.arcs) s states in
    let rest = total_with_final w states i in
    omega (arith, new, old, rest)

module _ {V : Type 0} (value : V → Cost) where
  abbrev seen : List (State V) → List (State Cost)
  seen states = map (valued_state value) states

  pub seen_size : (states : List (State V)) → length (seen states) ≡ length states
  seen_size states = length-map states (valued_state value)

  -- no arcs are added
  pub arcs_first : (states : List (State V)) (i : ℕ) → map (valued_state value) states ≡ changed (with_arcs []) (map (valued_state value) states) i
  arcs_first states i = sym (changed_same (with_arcs []) (seen states) i none_more)

  -- one arc is added behind others
  pub arcs_next : (old now new : List (State V)) (i k : ℕ) (arcs : List (Arc V ℕ)) (a : Arc V ℕ) → k < length arcs → a ≡ get_or arcs k a → new ≡ changed (with_arc a) now i
      → map (valued_state value) now ≡ changed (with_arcs (map (valued_arc value) (take k arcs))) (map (valued_state value) old) i
      → map (valued_state value) new ≡ changed (with_arcs (map (valued_arc value) (take (k + 1) arcs))) (map (valued_state value) old) i
  arcs_next old now new i k arcs a low read put so_far =
      let longer : map (valued_arc value) (take (k + 1) arcs) ≡ map (valued_arc value) (take k arcs) ++ valued_arc value a ∷ [] =
      ap (map (valued_arc value)) (take_more arcs k a low ∙ ap (λ (b : Arc V ℕ). take k arcs ++ b ∷ []) (sym read)) ∙ map-append (valued_arc value) (take k arcs) (a ∷ []) in
      ap seen put
      ∙ (changed_map (valued_state value) (with_arc a) (with_arc (valued_arc value a)) now i (λ s. one_state (valued_state value (with_arc a s)) (with_arc (valued_arc value a) (valued_state value s)) refl (map-append (valued_arc value) s.arcs (a ∷ [])))
      ∙ (ap (λ ss. changed (with_arc (valued_arc value a)) ss i) so_far
      ∙ (changed_twice (with_arc (valued_arc value a)) (with_arcs (map (valued_arc value) (take k arcs))) (with_arcs (map (valued_arc value) (take k arcs) ++ valued_arc value a ∷ [])) (seen old) i (one_more (map (valued_arc value) (take k arcs)) (valued_arc value a))
      ∙ ap (λ (as' : List (Arc Cost ℕ)). changed (with_arcs as') (seen old) i) (sym longer))))

  -- how many arcs there are then
  pub arcs_total : (old now : List (State V)) (i k : ℕ) (arcs : List (Arc V ℕ)) → i < length old
      → map (valued_state value) now ≡ changed (with_arcs (map (valued_arc value) (take k arcs))) (map (valued_state value) old) i → arc_total (map (valued_state value) now) ≡ arc_total (map (valued_state value) old) + length (take k arcs)
  arcs_total old now i k arcs low so_far =
      let all = total_with_arcs (map (valued_arc value) (take k arcs)) (seen old) i (omega (arith, low, seen_size old)) in
      let same = length-map (take k arcs) (valued_arc value) in
      let here = ap arc_total so_far in
      omega (arith, all, same, here)

  pub arcs_size : (old now : List (State V)) (i : ℕ) (arcs : List (Arc Cost ℕ)) → map (valued_state value) now ≡ changed (with_arcs arcs) (map (valued_state value) old) i → length now ≡ length old
  arcs_size old now i arcs so_far = sym (seen_size now) ∙ (ap length so_far ∙ (length_changed (with_arcs arcs) (seen old) i ∙ seen_size old))

  -- the final weight is set, and the arcs are added
  pub fill_one : (own : State Cost) (old now new : List (State V)) (i : ℕ) (w : V) (arcs : List (Arc V ℕ)) → now ≡ changed (with_final w) old i → value w ≡ own.final → map (valued_arc value) arcs ≡ own.arcs
      → map (valued_state value) new ≡ changed (with_arcs (map (valued_arc value) arcs)) (map (valued_state value) now) i → map (valued_state value) new ≡ changed (filled own) (map (valued_state value) old) i
  fill_one own old now new i w arcs put final same so_far =
      so_far ∙ (ap₂ (λ (as' : List (Arc Cost ℕ)) ss. changed (with_arcs as') ss i) same
      (ap seen put ∙ changed_map (valued_state value) (with_final w) (with_final own.final) old i (λ s. one_state (valued_state value (with_final w s)) (with_final own.final (valued_state value s)) final refl))
      ∙ changed_twice (with_arcs own.arcs) (with_final own.final) (filled own) (seen old) i (λ s. refl))

  pub final_size : (old now : List (State V)) (i : ℕ) (w : V) → now ≡ changed (with_final w) old i → (length now ≡ length old) × (arc_total now ≡ arc_total old)
  final_size old now i w put = (ap length put ∙ length_changed (with_final w) old i, ap arc_total put ∙ total_with_final w old i)

-- arcs are as good as their values
pub raw_good : {V : Type 0} (value : V → Cost) (n : ℕ) (arcs : List (Arc V ℕ)) (others : List (Arc Cost ℕ)) → map (valued_arc value) arcs ≡ others → All (IsArc (λ v. v) n) others → All (IsArc value n) arcs
raw_good value n arcs others same good k d low =
    let there = at_mapped (valued_arc value) arcs k (get_or arcs k d) (slice_get-get_or arcs k d low) in
    let own = all_at (IsArc (λ v. v) n) others k (valued_arc value (get_or arcs k d)) (ap (λ xs. slice_get xs k) (sym same) ∙ there) good in
    record { ilabel = own.ilabel; olabel = own.olabel; weight = own.weight; next = own.next }

-- ---- states that are filled in turn

module _ (states : List (State Cost)) where
  -- none is filled yet
  pub none_filled : bare states ≡ part_filled 0 states
  none_filled = refl

  -- one more
  pub fill_next : (i : ℕ) → i < length states → changed (filled (get_or states i no_state)) (part_filled i states) i ≡ part_filled (i + 1) states
  fill_next i low =
      let own : State Cost = get_or states i no_state in
      let next : suc i ≡ i + 1 = omega arith in
      let rest : bare (drop i states) ≡ no_state ∷ bare (drop (i + 1) states) = ap bare (drop-cons states i no_state low ∙ ap (λ (k : ℕ). get_or states i no_state ∷ drop k states) next) in
      ap₂ (λ (ss : List (State Cost)) (k : ℕ). changed (filled own) (take i states ++ ss) k) rest (sym (length-take-le i states (omega (arith, low))))
      ∙ (changed_behind (filled own) (take i states) no_state (bare (drop (i + 1) states))
      ∙ (sym (append_assoc (take i states) (own ∷ []) (bare (drop (i + 1) states))) ∙ ap (λ ss. ss ++ bare (drop (i + 1) states)) (sym (take_more states i no_state low))))

  -- one more bare state
  pub bare_next : (i : ℕ) → i < length states → bare (take i states) ++ no_state ∷ [] ≡ bare (take (i + 1) states)
  bare_next i low = sym (ap bare (take_more states i no_state low) ∙ map-append (λ (s : State Cost). no_state) (take i states) (get_or states i no_state ∷ []))

  pub bare_size : (i : ℕ) → i ≤ length states → length (bare (take i states)) ≡ i
  bare_size i low = length-map (take i states) (λ s. no_state) ∙ length-take-le i states low

  -- its size
  bare_total : (ss : List (State Cost)) → arc_total (bare ss) ≡ 0
  bare_total [] = refl
  bare_total (s ∷ ss) =
      let all = sum_by-cons (λ (t : State Cost). length t.arcs) no_state (bare ss) in
      omega (arith, all, bare_total ss)

  pub part_total : (i : ℕ) → arc_total (part_filled i states) ≡ arc_total (take i states)
  part_total i =
      let both = sum_by-append (λ (t : State Cost). length t.arcs) (take i states) (bare (drop i states)) in
      omega (arith, both, bare_total (drop i states))

  pub part_room : (i : ℕ) → i < length states → arc_total (part_filled i states) + length (get_or states i no_state).arcs ≤ arc_total states
  part_room i low =
      let within = sum_by_more_le (λ (t : State Cost). length t.arcs) states i no_state low in
      omega (arith, within, part_total i)

  pub part_size : (i : ℕ) → length (part_filled i states) ≡ length states
  part_size i = length-append (take i states) (bare (drop i states)) ∙ (ap (λ (n : ℕ). length (take i states) + n) (length-map (drop i states) (λ s. no_state)) ∙ (sym (length-append (take i states) (drop i states)) ∙ ap length (take-append-drop i states)))
