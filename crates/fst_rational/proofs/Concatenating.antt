-- What a concatenation relates, and that it is a machine.
use Rattle.std.proofs.Common.{◌≡◌, ◌⊎◌, inl, inr, ℕ, ◌+◌, ◌<◌, ◌≤◌, true, false, [], ◌++◌, Option, None, Some, length, map, refl, sym, ap, ap₂, subst, ◌∙◌, append-nil, arith}
use Rattle.std.specs.Prelude.{IfSome}
use Rattle.std.specs.List.{All}
use Rattle.std.specs.Option.{option_map}
use Rattle.std.proofs.lemmas.Option.{IfSome_then}
use Rattle.std.proofs.lemmas.List.{length-map, length-append}
use Rattle.std.proofs.lemmas.List.Elements.{All-append}
use Rattle.std.proofs.lemmas.List.Sums.{sum_by-append}
use Rattle.fst_semiring.specs.Cost.{Cost, infinite}
use Rattle.fst_semiring.specs.declared.arc_type.ArcType.{ArcType}
use Rattle.fst_semiring.specs.Semiring.{times}
use Rattle.fst_machine.specs.Machine.{State, Machine, IsArc, IsMachine, arc_total, valued, valued_state}
use Rattle.fst_machine.specs.Graph.{Graph, graph_of, renamed}
use Rattle.fst_machine.specs.Relation.{Rel, RelFrom}
use Rattle.fst_machine.specs.Renaming.{Renames}
use Rattle.fst_machine.specs.Continuing.{Stays}
use Rattle.fst_machine.proofs.Renaming.{renamed-RelFrom}
use Rattle.fst_rational.specs.Changing.{goings, onward}
use Rattle.fst_rational.specs.Constructions.{carried, concat_of}
use Rattle.fst_rational.specs.Limits.{IsSize, IsSmall}
use Rattle.fst_rational.specs.Relations.{Concatenates, IsProduct, Triple}
use Rattle.fst_machine.proofs.Valued.{arc_total-valued}
use Rattle.fst_rational.proofs.Blocks.{Inside, arc_total-carried, block_arcs, block_continues, block_final, block_renames, carried-good, goings-none, next_inside, start_inside}
use Rattle.fst_rational.proofs.Continued.{Splits, continue_says, continue_splits}

module _ (kind : ArcType) (a b : Machine Cost) (good : IsMachine (λ v. v) a) (fine : IsMachine (λ v. v) b) where
  abbrev k : ℕ
  k = length a.states

  abbrev target : Option ℕ
  target = option_map (λ s. k + s) b.start

  abbrev m : Machine Cost
  m = concat_of a b

  -- the states of b, renamed
  seconds : Renames (λ n. k + n) (graph_of b) (graph_of m) (Inside b)
  seconds = block_renames b m fine.arcs k true None (map (carried 0 false target) a.states) [] (ap (λ ss. map (carried 0 false target) a.states ++ ss) (sym (append-nil (map (carried k true None) b.states)))) (length-map a.states (carried 0 false target)) refl refl

  -- no state of a is final
  no_final : (n : ℕ) → n < length a.states → (graph_of m).final (0 + n) ≡ infinite
  no_final n low = block_final a m good.arcs 0 false target [] (map (carried k true None) b.states) refl refl n low

  same_place : (n : ℕ) → n ≡ 0 + n
  same_place n = omega arith

  -- a, where no name is final
  abbrev mute : Graph ℕ
  mute = record { start = a.start; arcs = (graph_of a).arcs; final = λ p. infinite }

  -- a concatenation has the products of the triples of both
  pub concat-Concatenates : Concatenates kind a b m
  concat-Concatenates x y w = (back, there)
    where
      back_none : b.start ≡ None → Rel kind (graph_of m) x y w → ⊥
      back_none none r =
          let low = start_inside a r.first good r.starts in
          let renames : Renames (λ n. 0 + n) mute (graph_of m) (Inside a) = record {
            arcs = λ n inside. block_arcs a m good.arcs 0 false target [] (map (carried k true None) b.states) refl refl n inside ∙ (ap (λ (o : Option ℕ). map (renamed (λ p. 0 + p)) ((graph_of a).arcs n) ++ onward ((graph_of a).final n) (option_map (λ s. k + s) o)) none ∙ append-nil (map (renamed (λ p. 0 + p)) ((graph_of a).arcs n)));
            final = no_final;
            within = λ n i arc inside has. next_inside a n i arc good.arcs has;
          } in
          let says = (renamed-RelFrom (λ n. 0 + n) kind mute (graph_of m) (Inside a) renames r.first low x y w).1 (subst (λ (p : ℕ). RelFrom kind (graph_of m) p x y w) (same_place r.first) r.says) in
          says.final refl

      back_some : (t : ℕ) → b.start ≡ Some t → Rel kind (graph_of m) x y w → IsProduct kind (Triple kind a) (Triple kind b) x y w
      back_some t starts r = by_case (continue_splits kind (λ n. 0 + n) (graph_of a) (graph_of m) (Inside a) (k + t) (block_continues a m good.arcs 0 false target [] (map (carried k true None) b.states) refl refl (k + t) (ap (option_map (λ s. k + s)) starts)) r.first r.first x y w (same_place r.first) (start_inside a r.first good r.starts) r.says)
        where
          by_case : Stays (λ n. 0 + n) (graph_of a) (Inside a) r.first r.says.path r.says.last ⊎ Splits kind (graph_of a) (graph_of m) (k + t) r.first x y w (length r.says.path) → IsProduct kind (Triple kind a) (Triple kind b) x y w
          by_case (inl s) = absurd (r.says.final (ap (graph_of m).final (sym s.ends) ∙ no_final s.end s.within))
          by_case (inr s) = record {
            input_front = s.input_front;
            input_back = s.input_back;
            output_front = s.output_front;
            output_back = s.output_back;
            weight_front = s.weight_front;
            weight_back = s.weight_back;
            front = record { first = r.first; starts = r.starts; says = s.front };
            back = record { first = t; starts = starts; says = (renamed-RelFrom (λ n. k + n) kind (graph_of b) (graph_of m) (Inside b) seconds t (start_inside b t fine starts) s.input_back s.output_back s.weight_back).1 s.back };
            reads = s.reads;
            writes = s.writes;
            weight = s.weight;
          }

      by_start : (o : Option ℕ) → b.start ≡ o → Rel kind (graph_of m) x y w → IsProduct kind (Triple kind a) (Triple kind b) x y w
      by_start None e r = absurd (back_none e r)
      by_start (Some t) e r = back_some t e r

      back : Rel kind (graph_of m) x y w → IsProduct kind (Triple kind a) (Triple kind b) x y w
      back r = by_start b.start refl r

      there : IsProduct kind (Triple kind a) (Triple kind b) x y w → Rel kind (graph_of m) x y w
      there p =
          let one = p.front in
          let two = p.back in
          let c = k + two.first in
          let goes = block_continues a m good.arcs 0 false target [] (map (carried k true None) b.states) refl refl c (ap (option_map (λ s. k + s)) two.starts) in
          let rest = (renamed-RelFrom (λ n. k + n) kind (graph_of b) (graph_of m) (Inside b) seconds two.first (start_inside b two.first fine two.starts) p.input_back p.output_back p.weight_back).0 two.says in
          let says = continue_says kind (λ n. 0 + n) (graph_of a) (graph_of m) (Inside a) c goes one.first p.input_front p.output_front p.input_back p.output_back p.weight_front p.weight_back (start_inside a one.first good one.starts) one.says rest in
          let here : RelFrom kind (graph_of m) one.first (p.input_front ++ p.input_back) (p.output_front ++ p.output_back) (times kind p.weight_front p.weight_back) = subst (λ (q : ℕ). RelFrom kind (graph_of m) q (p.input_front ++ p.input_back) (p.output_front ++ p.output_back) (times kind p.weight_front p.weight_back)) (sym (same_place one.first)) says in
          record { first = one.first; starts = one.starts; says = subst (λ (v : Cost). RelFrom kind (graph_of m) one.first x y v) (sym p.weight) (subst (λ z. RelFrom kind (graph_of m) one.first x z (times kind p.weight_front p.weight_back)) (sym p.writes) (subst (λ z. RelFrom kind (graph_of m) one.first z (p.output_front ++ p.output_back) (times kind p.weight_front p.weight_back)) (sym p.reads) here)) }

-- ---- the machine

pub concat_states : (a b : Machine Cost) → length (concat_of a b).states ≡ length a.states + length b.states
concat_states a b =
    let k = length a.states in
    let target = option_map (λ s. k + s) b.start in
    let both = length-append (map (carried 0 false target) a.states) (map (carried k true None) b.states) in
    omega (arith, both, length-map a.states (carried 0 false target), length-map b.states (carried k true None))

pub concat_arcs : (a b : Machine Cost) → arc_total (concat_of a b).states ≡ arc_total a.states + goings (option_map (λ s. length a.states + s) b.start) a.states + arc_total b.states
concat_arcs a b =
    let k = length a.states in
    let target = option_map (λ s. k + s) b.start in
    let both = sum_by-append (λ (t : State Cost). length t.arcs) (map (carried 0 false target) a.states) (map (carried k true None) b.states) in
    omega (arith, both, arc_total-carried 0 false target a.states, arc_total-carried k true None b.states, goings-none b.states)

-- the target is a state
target_low : (k n : ℕ) (b : Machine Cost) → IsMachine (λ v. v) b → k + length b.states ≤ n → IfSome (option_map (λ s. k + s) b.start) (λ c. c < n)
target_low k n b fine room = by_start b.start fine.start
  where
    by_start : (o : Option ℕ) → IfSome o (λ s. s < length b.states) → IfSome (option_map (λ s. k + s) o) (λ c. c < n)
    by_start None low = tt
    by_start (Some s) low = omega (arith, low, room)

pub IsMachine-concat : (a b : Machine Cost) → IsMachine (λ v. v) a → IsMachine (λ v. v) b → IsSmall (concat_of a b) → IsMachine (λ v. v) (concat_of a b)
IsMachine-concat a b good fine small =
    let n = length (concat_of a b).states in
    let count = concat_states a b in
    let k = length a.states in
    let target = option_map (λ s. k + s) b.start in
    record {
      start = IfSome_then a.start {P = λ s. s < k} {Q = λ s. s < n} good.start (λ s low. omega (arith, low, count));
      arcs = All-append (λ s. All (IsArc (λ v. v) n) s.arcs) (map (carried 0 false target) a.states) (map (carried k true None) b.states)
          (carried-good a 0 false target n good (omega (arith, count)) (target_low k n b fine (omega (arith, count)))) (carried-good b k true None n fine (omega (arith, count)) tt);
      few_states = small.states;
      few_arcs = small.arcs;
    }

-- ---- as it is made

module _ {V : Type 0} (value : V → Cost) (a b : Machine V) where
  -- the states of the one, and those of the other behind them
  pub concat_made : {first second : Machine V} {behind : ℕ} {goal start : Option ℕ} → first ≡ a → second ≡ b → behind ≡ length first.states → start ≡ second.start → goal ≡ option_map (λ s. behind + s) start → map (carried 0 false goal) (valued value a).states ++ map (carried behind true None) (valued value b).states ≡ (concat_of (valued value a) (valued value b)).states
  concat_made {first} {second} {behind} {goal} {start} one two count begins there =
      let front : behind ≡ length (valued value a).states = count ∙ (ap (λ (m : Machine V). length m.states) one ∙ sym (length-map a.states (valued_state value))) in
      let leads : goal ≡ option_map (λ s. behind + s) b.start = there ∙ ap (λ (o : Option ℕ). option_map (λ s. behind + s) o) (begins ∙ ap (λ (m : Machine V). m.start) two) in
      ap₂ (λ (o : Option ℕ) (j : ℕ). map (carried 0 false o) (valued value a).states ++ map (carried j true None) (valued value b).states) (leads ∙ ap (λ (j : ℕ). option_map (λ s. j + s) b.start) front) front

-- the size, as it is computed
pub concat_counted : {V : Type 0} (value : V → Cost) (a b : Machine V) (states arcs one two more less on : ℕ) (target : Option ℕ) → one ≡ length a.states → two ≡ length b.states → more ≡ arc_total a.states → less ≡ arc_total b.states → target ≡ option_map (λ s. one + s) b.start → on ≡ goings target (map (valued_state value) a.states) → states ≡ one + two → arcs ≡ more + on + less
    → IsSize (concat_of (valued value a) (valued value b)) (states, arcs)
concat_counted value a b states arcs one two more less on target ones twos mores lesses there ons is are =
    let n = concat_states (valued value a) (valued value b) in
    let m = concat_arcs (valued value a) (valued value b) in
    let x = length-map a.states (valued_state value) in
    let y = length-map b.states (valued_state value) in
    let p = arc_total-valued value a.states in
    let q = arc_total-valued value b.states in
    let same : target ≡ option_map (λ s. length (map (valued_state value) a.states) + s) b.start = there ∙ ap (λ (j : ℕ). option_map (λ s. j + s) b.start) (ones ∙ sym x) in
    let goes : on ≡ goings (option_map (λ s. length (map (valued_state value) a.states) + s) b.start) (map (valued_state value) a.states) = ons ∙ ap (λ (o : Option ℕ). goings o (map (valued_state value) a.states)) same in
    record { states = omega (arith, n, x, y, ones, twos, is); arcs = omega (arith, m, p, q, mores, lesses, goes, are) }
