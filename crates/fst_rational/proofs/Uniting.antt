-- What a union relates, and that it is a machine.
use Rattle.std.proofs.Common.{◌≡◌, ◌⊎◌, inl, inr, ℕ, ◌+◌, ◌<◌, ◌≤◌, zero, suc, true, List, [], ◌∷◌, ◌++◌, Option, None, Some, length, map, slice_get, refl, sym, ap, ap₂, subst, ◌∙◌, append-nil, arith}
use Rattle.std.specs.Prelude.{IfSome}
use Rattle.std.specs.List.{All}
use Rattle.std.proofs.lemmas.Option.{IfSome_then}
use Rattle.std.proofs.lemmas.List.{length-map, length-append}
use Rattle.std.proofs.lemmas.List.Elements.{All-append, All-cons, All-nil}
use Rattle.std.proofs.lemmas.List.Sums.{sum_by-cons, sum_by-append}
use Rattle.fst_semiring.specs.Cost.{Cost, infinite}
use Rattle.fst_semiring.specs.declared.arc_type.ArcType.{ArcType}
use Rattle.fst_semiring.specs.declared.arc_type.ArcType.TheVariants.{Boolean, Tropical, MinMax, Lexicographic}
use Rattle.fst_semiring.specs.Semiring.{one_of, times}
use Rattle.fst_semiring.proofs.Laws.{one_times}
use Rattle.fst_machine.specs.Machine.{Arc, State, Machine, IsArc, IsMachine, arc_total, valued, valued_arc, valued_state}
use Rattle.fst_machine.specs.Graph.{Graph, graph_of}
use Rattle.fst_machine.specs.Letters.{before}
use Rattle.fst_machine.specs.Relation.{Rel, RelFrom}
use Rattle.fst_machine.specs.Futures.{SaysEnd, SaysArc}
use Rattle.fst_machine.specs.Renaming.{Renames}
use Rattle.fst_machine.specs.Continuing.{epsilon_arc}
use Rattle.fst_machine.proofs.Arcs.{append_at, at_append_left, at_append_right}
use Rattle.fst_machine.proofs.Futures.{RelFrom-cases, RelFrom-epsilon}
use Rattle.fst_machine.proofs.Renaming.{renamed-RelFrom}
use Rattle.fst_rational.specs.Constructions.{carried, entry, headed, union_of, union_start}
use Rattle.fst_rational.specs.Limits.{IsSize, IsSmall, start_count}
use Rattle.fst_rational.specs.Relations.{Unites}
use Rattle.fst_machine.proofs.Valued.{arc_total-valued}
use Rattle.fst_rational.proofs.Blocks.{Inside, arc_total-carried, block_renames, carried-good, goings-none, start_inside}

-- an entry leads to the start
pub entry_only : (kind : ArcType) (k : ℕ) (start : Option ℕ) (place : ℕ) (arc : Arc Cost ℕ) → slice_get (entry kind k start) place ≡ Some arc → (s : ℕ) × (start ≡ Some s) × (epsilon_arc (one_of kind) (k + s) ≡ arc)
entry_only kind k None place arc e = absurd (cc)
entry_only kind k (Some s) zero arc e = (s, refl, cc)
entry_only kind k (Some s) (suc place) arc e = absurd (cc)

-- One is not Zero
pub one_not_zero : (kind : ArcType) → one_of kind ≡ infinite → ⊥
one_not_zero Boolean e = absurd (cc)
one_not_zero Tropical e = absurd (cc)
one_not_zero MinMax e = absurd (cc)
one_not_zero Lexicographic e = absurd (cc)

-- what a name says by its entry is what the start of the operand says there
pub says_entry : (kind : ArcType) (g : Graph ℕ) (p c : ℕ) (arc : Arc Cost ℕ) (x y : List ℕ) (w : Cost) (h : SaysArc kind g p x y w) → epsilon_arc (one_of kind) c ≡ h.arc → RelFrom kind g c x y w
says_entry kind g p c arc x y w h e =
    let says : RelFrom kind g c h.input_rest h.output_rest h.weight_rest = subst (λ (b : Arc Cost ℕ). RelFrom kind g b.next h.input_rest h.output_rest h.weight_rest) (sym e) h.says in
    let reads : h.input_rest ≡ x = sym (h.reads ∙ ap (λ (b : Arc Cost ℕ). before b.ilabel h.input_rest) (sym e)) in
    let writes : h.output_rest ≡ y = sym (h.writes ∙ ap (λ (b : Arc Cost ℕ). before b.olabel h.output_rest) (sym e)) in
    let weight : h.weight_rest ≡ w = sym (h.weight ∙ (ap (λ (b : Arc Cost ℕ). times kind b.weight h.weight_rest) (sym e) ∙ one_times kind h.weight_rest)) in
    subst (λ (z : Cost). RelFrom kind g c x y z) weight (subst (λ z. RelFrom kind g c x z h.weight_rest) writes (subst (λ z. RelFrom kind g c z h.output_rest h.weight_rest) reads says))

module _ (kind : ArcType) (a b : Machine Cost) (good : IsMachine (λ v. v) a) (fine : IsMachine (λ v. v) b) where
  abbrev fork : State Cost
  fork = record { final = infinite; arcs = entry kind 1 a.start ++ entry kind (length a.states + 1) b.start }

  abbrev firsts : List (State Cost)
  firsts = map (carried 1 true None) a.states

  abbrev seconds : List (State Cost)
  seconds = map (carried (length a.states + 1) true None) b.states

  renames_first : Renames (λ n. 1 + n) (graph_of a) (graph_of (union_of kind a b)) (Inside a)
  renames_first = block_renames a (union_of kind a b) good.arcs 1 true None (fork ∷ []) seconds refl refl refl refl

  renames_second : Renames (λ n. (length a.states + 1) + n) (graph_of b) (graph_of (union_of kind a b)) (Inside b)
  renames_second =
      let n : length (fork ∷ firsts) ≡ length a.states + 1 = omega (arith, length-map a.states (carried 1 true None)) in
      block_renames b (union_of kind a b) fine.arcs (length a.states + 1) true None (fork ∷ firsts) [] (ap (λ ss. fork ∷ (firsts ++ ss)) (sym (append-nil seconds))) n refl refl

  -- a union has the triples of both
  pub union-Unites : Unites kind a b (union_of kind a b)
  union-Unites x y w = (back, there)
    where
      by_entry : (r : SaysArc kind (graph_of (union_of kind a b)) 0 x y w) → (slice_get (entry kind 1 a.start) r.place ≡ Some r.arc) ⊎ ((j : ℕ) × (slice_get (entry kind (length a.states + 1) b.start) j ≡ Some r.arc) × (r.place ≡ length (entry kind 1 a.start) + j)) → Rel kind (graph_of a) x y w ⊎ Rel kind (graph_of b) x y w
      by_entry r (inl e) =
          let s = entry_only kind 1 a.start r.place r.arc e in
          let says = says_entry kind (graph_of (union_of kind a b)) 0 (1 + s.0) r.arc x y w r s.2 in
          inl (record { first = s.0; starts = s.1; says = (renamed-RelFrom (λ n. 1 + n) kind (graph_of a) (graph_of (union_of kind a b)) (Inside a) renames_first s.0 (start_inside a s.0 good s.1) x y w).1 says })
      by_entry r (inr e) =
          let s = entry_only kind (length a.states + 1) b.start e.0 r.arc e.1 in
          let says = says_entry kind (graph_of (union_of kind a b)) 0 ((length a.states + 1) + s.0) r.arc x y w r s.2 in
          inr (record { first = s.0; starts = s.1; says = (renamed-RelFrom (λ n. (length a.states + 1) + n) kind (graph_of b) (graph_of (union_of kind a b)) (Inside b) renames_second s.0 (start_inside b s.0 fine s.1) x y w).1 says })

      by_case : SaysEnd kind (graph_of (union_of kind a b)) 0 x y w ⊎ SaysArc kind (graph_of (union_of kind a b)) 0 x y w → Rel kind (graph_of a) x y w ⊎ Rel kind (graph_of b) x y w
      by_case (inl r) = absurd (r.final refl)
      by_case (inr r) = by_entry r (append_at (entry kind 1 a.start) (entry kind (length a.states + 1) b.start) r.place r.arc r.has)

      back : Rel kind (graph_of (union_of kind a b)) x y w → Rel kind (graph_of a) x y w ⊎ Rel kind (graph_of b) x y w
      back r =
          let first : r.first ≡ 0 = let e : Some 0 ≡ Some r.first = r.starts in cc in
          by_case (RelFrom-cases kind (graph_of (union_of kind a b)) 0 x y w (subst (λ (p : ℕ). RelFrom kind (graph_of (union_of kind a b)) p x y w) first r.says))

      there : Rel kind (graph_of a) x y w ⊎ Rel kind (graph_of b) x y w → Rel kind (graph_of (union_of kind a b)) x y w
      there (inl r) =
          let says = (renamed-RelFrom (λ n. 1 + n) kind (graph_of a) (graph_of (union_of kind a b)) (Inside a) renames_first r.first (start_inside a r.first good r.starts) x y w).0 r.says in
          let here : slice_get (entry kind 1 a.start) 0 ≡ Some (epsilon_arc (one_of kind) (1 + r.first)) = ap (λ (o : Option ℕ). slice_get (entry kind 1 o) 0) r.starts in
          record { first = 0; starts = refl; says = RelFrom-epsilon kind (graph_of (union_of kind a b)) 0 (1 + r.first) 0 x y w (at_append_left (entry kind 1 a.start) (entry kind (length a.states + 1) b.start) 0 (epsilon_arc (one_of kind) (1 + r.first)) here) says }
      there (inr r) =
          let says = (renamed-RelFrom (λ n. (length a.states + 1) + n) kind (graph_of b) (graph_of (union_of kind a b)) (Inside b) renames_second r.first (start_inside b r.first fine r.starts) x y w).0 r.says in
          let here : slice_get (entry kind (length a.states + 1) b.start) 0 ≡ Some (epsilon_arc (one_of kind) ((length a.states + 1) + r.first)) = ap (λ (o : Option ℕ). slice_get (entry kind (length a.states + 1) o) 0) r.starts in
          record { first = 0; starts = refl; says = RelFrom-epsilon kind (graph_of (union_of kind a b)) 0 ((length a.states + 1) + r.first) (length (entry kind 1 a.start) + 0) x y w (at_append_right (entry kind 1 a.start) (entry kind (length a.states + 1) b.start) 0 (epsilon_arc (one_of kind) ((length a.states + 1) + r.first)) here) says }

-- ---- the machine

-- an entry is good
pub entry-good : (kind : ArcType) (k n : ℕ) (start : Option ℕ) → IfSome start (λ s. k + s < n) → All (IsArc (λ v. v) n) (entry kind k start)
entry-good kind k n None low = All-nil (IsArc (λ v. v) n)
entry-good kind k n (Some s) low = All-cons (IsArc (λ v. v) n) (epsilon_arc (one_of kind) (k + s)) [] (record { ilabel = omega arith; olabel = omega arith; weight = one_not_zero kind; next = low }) (All-nil (IsArc (λ v. v) n))

-- a start, moved
pub entry_low : (a : Machine Cost) (k n : ℕ) → IsMachine (λ v. v) a → k + length a.states ≤ n → IfSome a.start (λ s. k + s < n)
entry_low a k n h room = IfSome_then a.start {P = λ s. s < length a.states} {Q = λ s. k + s < n} h.start (λ s low. omega arith)

-- how many states and arcs a union has
pub union_states : (kind : ArcType) (a b : Machine Cost) → length (union_of kind a b).states ≡ length a.states + length b.states + 1
union_states kind a b =
    let both = length-append (map (carried 1 true None) a.states) (map (carried (length a.states + 1) true None) b.states) in
    omega (arith, both, length-map a.states (carried 1 true None), length-map b.states (carried (length a.states + 1) true None))

pub union_arcs : (kind : ArcType) (a b : Machine Cost) → arc_total (union_of kind a b).states ≡ length (entry kind 1 a.start) + length (entry kind (length a.states + 1) b.start) + (arc_total a.states + arc_total b.states)
union_arcs kind a b =
    let k = length a.states + 1 in
    let ones = map (carried 1 true None) a.states in
    let twos = map (carried k true None) b.states in
    let all = sum_by-cons (λ (t : State Cost). length t.arcs) (record { final = infinite; arcs = entry kind 1 a.start ++ entry kind k b.start }) (ones ++ twos) in
    let both = sum_by-append (λ (t : State Cost). length t.arcs) ones twos in
    let own = length-append (entry kind 1 a.start) (entry kind k b.start) in
    omega (arith, all, both, own, arc_total-carried 1 true None a.states, arc_total-carried k true None b.states, goings-none a.states, goings-none b.states)

-- a union that is not too big is a machine
pub IsMachine-union : (kind : ArcType) (a b : Machine Cost) → IsMachine (λ v. v) a → IsMachine (λ v. v) b → IsSmall (union_of kind a b) → IsMachine (λ v. v) (union_of kind a b)
IsMachine-union kind a b good fine small =
    let n = length (union_of kind a b).states in
    let count = union_states kind a b in
    let k = length a.states + 1 in
    let Good : State Cost → Type 0 = λ s. All (IsArc (λ v. v) n) s.arcs in
    record {
      start = omega (arith, count);
      arcs = All-cons Good (record { final = infinite; arcs = entry kind 1 a.start ++ entry kind k b.start }) (map (carried 1 true None) a.states ++ map (carried k true None) b.states)
          (All-append (IsArc (λ v. v) n) (entry kind 1 a.start) (entry kind k b.start) (entry-good kind 1 n a.start (entry_low a 1 n good (omega (arith, count)))) (entry-good kind k n b.start (entry_low b k n fine (omega (arith, count)))))
          (All-append Good (map (carried 1 true None) a.states) (map (carried k true None) b.states) (carried-good a 1 true None n good (omega (arith, count)) tt) (carried-good b k true None n fine (omega (arith, count)) tt));
      few_states = small.states;
      few_arcs = small.arcs;
    }

-- ---- as it is made

module _ {V : Type 0} (value : V → Cost) (kind : ArcType) (a b : Machine V) where
  -- the states of the one behind the new start with its arcs, and those of the other behind them
  pub union_made : {first second : Machine V} {k : ℕ} {own arcs : List (Arc V ℕ)} {s t : Option ℕ} {z : V} → first ≡ a → second ≡ b → k ≡ length first.states → s ≡ first.start → t ≡ second.start → map (valued_arc value) own ≡ entry kind 1 s ++ entry kind (k + 1) t → arcs ≡ own → value z ≡ infinite → headed value (Some z) arcs (map (carried 1 true None) (valued value a).states) ++ map (carried (k + 1) true None) (valued value b).states ≡ (union_of kind (valued value a) (valued value b)).states
  union_made {first} {second} {k} {own} {arcs} {s} {t} {z} one two count begins starts enters same last =
      let stand : k + 1 ≡ length (valued value a).states + 1 = omega (arith, count, ap (λ (m : Machine V). length m.states) one, length-map a.states (valued_state value)) in
      let heads : map (valued_arc value) own ≡ (union_start kind (valued value a) (valued value b)).arcs = enters ∙ (ap₂ (λ (o p : Option ℕ). entry kind 1 o ++ entry kind (k + 1) p) (begins ∙ ap (λ (m : Machine V). m.start) one) (starts ∙ ap (λ (m : Machine V). m.start) two) ∙ ap (λ (j : ℕ). entry kind 1 a.start ++ entry kind j b.start) stand) in
      ap (λ (j : ℕ). headed value (Some z) arcs (map (carried 1 true None) (valued value a).states) ++ map (carried j true None) (valued value b).states) stand
      ∙ ap₂ (λ (w : Cost) (os : List (Arc Cost ℕ)). record { final = w; arcs = os } ∷ (map (carried 1 true None) (valued value a).states ++ map (carried (length (valued value a).states + 1) true None) (valued value b).states)) last (ap (map (valued_arc value)) same ∙ heads)

-- the entries are as many as the starts
pub entry_count : (kind : ArcType) (k : ℕ) (start : Option ℕ) → length (entry kind k start) ≡ start_count start
entry_count kind k None = refl
entry_count kind k (Some s) = refl

-- the size, as it is computed
pub union_counted : {V : Type 0} (value : V → Cost) (kind : ArcType) (a b : Machine V) (states arcs one two more less first second : ℕ) → one ≡ length a.states → two ≡ length b.states → more ≡ arc_total a.states → less ≡ arc_total b.states → first ≡ start_count a.start → second ≡ start_count b.start → states ≡ one + two + 1 → arcs ≡ more + less + first + second
    → IsSize (union_of kind (valued value a) (valued value b)) (states, arcs)
union_counted value kind a b states arcs one two more less first second ones twos mores lesses firsts seconds is are =
    let n = union_states kind (valued value a) (valued value b) in
    let m = union_arcs kind (valued value a) (valued value b) in
    let x = length-map a.states (valued_state value) in
    let y = length-map b.states (valued_state value) in
    let p = arc_total-valued value a.states in
    let q = arc_total-valued value b.states in
    let u = entry_count kind 1 a.start in
    let v = entry_count kind (length (map (valued_state value) a.states) + 1) b.start in
    record { states = omega (arith, n, x, y, ones, twos, is); arcs = omega (arith, m, p, q, u, v, mores, lesses, firsts, seconds, are) }
