-- What star and plus relate, and that they are machines.
use Rattle.std.proofs.Common.{◌≡◌, ◌⊎◌, ◌↔◌, inl, inr, ℕ, ◌+◌, ◌<◌, zero, suc, Bool, true, false, List, [], ◌∷◌, ◌++◌, Option, Some, length, map, slice_get, refl, sym, ap, ap₂, subst, ◌∙◌, append-nil, arith}
use Rattle.std.specs.Prelude.{IfSome}
use Rattle.std.specs.List.{All}
use Rattle.std.proofs.lemmas.Option.{IfSome_then}
use Rattle.std.proofs.lemmas.List.{length-map}
use Rattle.std.proofs.lemmas.List.Elements.{All-cons}
use Rattle.std.proofs.lemmas.List.Sums.{sum_by-cons}
use Rattle.fst_semiring.specs.Cost.{Cost, infinite}
use Rattle.fst_semiring.specs.declared.arc_type.ArcType.{ArcType}
use Rattle.fst_semiring.specs.Semiring.{one_of, times}
use Rattle.fst_semiring.proofs.Laws.{one_times, times_one}
use Rattle.fst_machine.specs.Machine.{Arc, State, Machine, IsArc, IsMachine, arc_total, valued, valued_arc, valued_state}
use Rattle.fst_machine.specs.Graph.{Graph, graph_of}
use Rattle.fst_machine.specs.Letters.{before, input, output, product}
use Rattle.fst_machine.specs.Paths.{Transition, IsPath, letters}
use Rattle.fst_machine.specs.Relation.{Rel, RelFrom}
use Rattle.fst_machine.specs.Continuing.{Continues, Stays, epsilon_arc}
use Rattle.fst_machine.proofs.Futures.{RelFrom-end, RelFrom-epsilon}
use Rattle.fst_rational.specs.Changing.{goings}
use Rattle.fst_rational.specs.Constructions.{carried, closure_of, entry, headed, plus_of, star_of}
use Rattle.fst_rational.specs.Limits.{IsSize, IsSmall, start_count}
use Rattle.fst_rational.specs.Relations.{Closes, IsFilled, IsProductOf, Said, Triple}
use Rattle.fst_machine.proofs.Valued.{arc_total-valued}
use Rattle.fst_rational.proofs.Blocks.{Inside, arc_total-carried, block_continues, block_final, carried-good, start_inside}
use Rattle.fst_rational.proofs.Continued.{Splits, continue_says, continue_splits, stays_said, stays_says}
use Rattle.fst_rational.proofs.Uniting.{entry-good, entry_count, entry_low, entry_only, one_not_zero}

-- what a name says, at other strings and another weight
pub said_as : (kind : ArcType) (g : Graph ℕ) (p : ℕ) (x u y v : List ℕ) (w k : Cost) → u ≡ x → v ≡ y → k ≡ w → RelFrom kind g p x y w → RelFrom kind g p u v k
said_as kind g p x u y v w k e f h r = subst (λ z. RelFrom kind g p u v z) (sym h) (subst (λ z. RelFrom kind g p u z w) (sym f) (subst (λ z. RelFrom kind g p z y w) (sym e) r))

-- a triple before a product of triples
more_triples : (kind : ArcType) (a : Machine Cost) (triples : List Said) (x y u v r s : List ℕ) (w k l : Cost) → Triple kind a x y w → IsProductOf kind a triples u v k → r ≡ x ++ u → s ≡ y ++ v → l ≡ times kind w k → IsProductOf kind a (record { input = x; output = y; weight = w } ∷ triples) r s l
more_triples kind a triples x y u v r s w k l one rest reads writes weight = record {
  input_front = x;
  input_back = u;
  output_front = y;
  output_back = v;
  weight_front = w;
  weight_back = k;
  front = (refl, one);
  back = rest;
  reads = reads;
  writes = writes;
  weight = weight;
}

module _ (kind : ArcType) (a : Machine Cost) (good : IsMachine (λ v. v) a) where
  abbrev star : Graph ℕ
  star = graph_of (star_of kind a)

  abbrev star_first : State Cost
  star_first = record { final = one_of kind; arcs = entry kind 1 a.start }

  star_goes : Continues (λ n. 1 + n) (graph_of a) star (Inside a) 0
  star_goes = block_continues a (star_of kind a) good.arcs 1 false (Some 0) (star_first ∷ []) [] (ap (λ ss. star_first ∷ ss) (sym (append-nil (map (carried 1 false (Some 0)) a.states)))) refl 0 refl

  star_final : (n : ℕ) → n < length a.states → (graph_of (star_of kind a)).final (1 + n) ≡ infinite
  star_final n low = block_final a (star_of kind a) good.arcs 1 false (Some 0) (star_first ∷ []) [] (ap (λ ss. star_first ∷ ss) (sym (append-nil (map (carried 1 false (Some 0)) a.states)))) refl n low

  -- what the new start says is a product of triples
  star_splits : (n : ℕ) (x y : List ℕ) (w : Cost) (r : RelFrom kind star 0 x y w) → length r.path < n → (triples : List Said) × IsProductOf kind a triples x y w
  star_splits zero x y w r short = absurd (omega (arith, short))
  star_splits (suc n) x y w r short = by_path r.path r.leads r.reads r.writes r.weight short (λ u v k (b : RelFrom kind star 0 u v k) low. star_splits n u v k b low)
    where
      by_case : (path : List (Transition ℕ)) (s : ℕ) → a.start ≡ Some s → length path < n → Stays (λ n. 1 + n) (graph_of a) (Inside a) s path r.last ⊎ Splits kind (graph_of a) star 0 s x y w (length path) → ((u v : List ℕ) (k : Cost) (b : RelFrom kind star 0 u v k) → length b.path < n → (triples : List Said) × IsProductOf kind a triples u v k) → (triples : List Said) × IsProductOf kind a triples x y w
      by_case path s starts low (inl stays) more = absurd (r.final (ap (graph_of (star_of kind a)).final (sym stays.ends) ∙ star_final stays.end stays.within))
      by_case path s starts low (inr q) more =
          let rest = more q.input_back q.output_back q.weight_back q.back (omega (arith, q.shorter, low)) in
          (record { input = q.input_front; output = q.output_front; weight = q.weight_front } ∷ rest.0, more_triples kind a rest.0 q.input_front q.output_front q.input_back q.output_back x y q.weight_front q.weight_back w (record { first = s; starts = starts; says = q.front }) rest.1 q.reads q.writes q.weight)

      by_path : (path : List (Transition ℕ)) → IsPath star 0 path r.last → x ≡ input (letters path) → y ≡ output (letters path) → w ≡ times kind (product kind (letters path)) ((graph_of (star_of kind a)).final r.last) → length path < suc n → ((u v : List ℕ) (k : Cost) (b : RelFrom kind star 0 u v k) → length b.path < n → (triples : List Said) × IsProductOf kind a triples u v k) → (triples : List Said) × IsProductOf kind a triples x y w
      by_path [] here reads writes weight short more = ([], (reads, writes, weight ∙ (one_times kind ((graph_of (star_of kind a)).final r.last) ∙ ap (graph_of (star_of kind a)).final (sym here))))
      by_path (t ∷ path) leads reads writes weight short more =
          let s = entry_only kind 1 a.start t.place t.arc leads.0.1 in
          let goes : IsPath star (1 + s.0) path r.last = subst (λ (b : Arc Cost ℕ). IsPath star b.next path r.last) (sym s.2) leads.1 in
          let said : RelFrom kind star (1 + s.0) x y w = record {
            path = path;
            last = r.last;
            leads = goes;
            final = r.final;
            reads = reads ∙ ap (λ (b : Arc Cost ℕ). before b.ilabel (input (letters path))) (sym s.2);
            writes = writes ∙ ap (λ (b : Arc Cost ℕ). before b.olabel (output (letters path))) (sym s.2);
            weight = weight ∙ (ap (λ (b : Arc Cost ℕ). times kind (times kind b.weight (product kind (letters path))) ((graph_of (star_of kind a)).final r.last)) (sym s.2) ∙ ap (λ z. times kind z ((graph_of (star_of kind a)).final r.last)) (one_times kind (product kind (letters path))));
          } in
          by_case path s.0 s.1 (omega (arith, short)) (continue_splits kind (λ n. 1 + n) (graph_of a) star (Inside a) 0 star_goes s.0 (1 + s.0) x y w refl (start_inside a s.0 good s.1) said) more

  -- and each product is said
  star_says : (triples : List Said) (x y : List ℕ) (w : Cost) → IsProductOf kind a triples x y w → RelFrom kind star 0 x y w
  star_says [] x y w p = RelFrom-end kind star 0 x y w (record { final = one_not_zero kind; reads = p.0; writes = p.1; weight = p.2 })
  star_says (t ∷ triples) x y w p =
      let rest = star_says triples p.input_back p.output_back p.weight_back p.back in
      let one = p.front.1 in
      let says = continue_says kind (λ n. 1 + n) (graph_of a) star (Inside a) 0 star_goes one.first p.input_front p.output_front p.input_back p.output_back p.weight_front p.weight_back (start_inside a one.first good one.starts) one.says rest in
      let here : slice_get (entry kind 1 a.start) 0 ≡ Some (epsilon_arc (one_of kind) (1 + one.first)) = ap (λ (o : Option ℕ). slice_get (entry kind 1 o) 0) one.starts in
      RelFrom-epsilon kind star 0 (1 + one.first) 0 x y w here (said_as kind star (1 + one.first) (p.input_front ++ p.input_back) x (p.output_front ++ p.output_back) y (times kind p.weight_front p.weight_back) w p.reads p.writes p.weight says)

  star-closes : (x y : List ℕ) (w : Cost) → Rel kind star x y w ↔ ((triples : List Said) × IsProductOf kind a triples x y w)
  star-closes x y w = (back, (λ p. record { first = 0; starts = refl; says = star_says p.0 x y w p.1 }))
    where
      back : Rel kind star x y w → (triples : List Said) × IsProductOf kind a triples x y w
      back r =
          let first : r.first ≡ 0 = let e : Some 0 ≡ Some r.first = r.starts in cc in
          let says = subst (λ (p : ℕ). RelFrom kind star p x y w) first r.says in
          star_splits (suc (length says.path)) x y w says (omega arith)

  -- ---- plus

  abbrev plus : Graph ℕ
  plus = graph_of (plus_of a)

  place_same : (n : ℕ) → n ≡ 0 + n
  place_same n = omega arith

  plus_goes : (s : ℕ) → a.start ≡ Some s → Continues (λ n. 0 + n) (graph_of a) plus (Inside a) s
  plus_goes s starts = block_continues a (plus_of a) good.arcs 0 true a.start [] [] (sym (append-nil (map (carried 0 true a.start) a.states))) refl s starts

  plus_final : (n : ℕ) → n < length a.states → (graph_of (plus_of a)).final (0 + n) ≡ (graph_of a).final n
  plus_final n low = block_final a (plus_of a) good.arcs 0 true a.start [] [] (sym (append-nil (map (carried 0 true a.start) a.states))) refl n low

  module _ (s : ℕ) (starts : a.start ≡ Some s) where
    plus_splits : (n : ℕ) (x y : List ℕ) (w : Cost) (r : RelFrom kind plus s x y w) → length r.path < n → (triples : List Said) × IsFilled triples × IsProductOf kind a triples x y w
    plus_splits zero x y w r short = absurd (omega (arith, short))
    plus_splits (suc n) x y w r short = by_case (continue_splits kind (λ n. 0 + n) (graph_of a) plus (Inside a) s (plus_goes s starts) s s x y w (place_same s) (start_inside a s good starts) r) (λ (q : Splits kind (graph_of a) plus s s x y w (length r.path)). plus_splits n q.input_back q.output_back q.weight_back q.back (omega (arith, q.shorter, short)))
      where
        by_case : Stays (λ n. 0 + n) (graph_of a) (Inside a) s r.path r.last ⊎ Splits kind (graph_of a) plus s s x y w (length r.path) → ((q : Splits kind (graph_of a) plus s s x y w (length r.path)) → (triples : List Said) × IsFilled triples × IsProductOf kind a triples q.input_back q.output_back q.weight_back) → (triples : List Said) × IsFilled triples × IsProductOf kind a triples x y w
        by_case (inl stays) more =
            let says = stays_says kind (λ n. 0 + n) (graph_of a) plus (Inside a) s (plus_goes s starts) s s x y w r stays (plus_final stays.end stays.within) in
            (record { input = x; output = y; weight = w } ∷ [], tt, more_triples kind a [] x y [] [] x y w (one_of kind) w (record { first = s; starts = starts; says = says }) (refl, refl, refl) (sym (append-nil x)) (sym (append-nil y)) (sym (times_one kind w)))
        by_case (inr q) more =
            let rest = more q in
            (record { input = q.input_front; output = q.output_front; weight = q.weight_front } ∷ rest.0, tt, more_triples kind a rest.0 q.input_front q.output_front q.input_back q.output_back x y q.weight_front q.weight_back w (record { first = s; starts = starts; says = q.front }) rest.2 q.reads q.writes q.weight)

  -- and each product of some triples is said
  plus_says : (triples : List Said) (x y : List ℕ) (w : Cost) → IsFilled triples → IsProductOf kind a triples x y w → Rel kind plus x y w
  plus_says [] x y w filled p = absurd filled
  plus_says (t ∷ []) x y w filled p =
      let one = p.front.1 in
      let says = stays_said kind (λ n. 0 + n) (graph_of a) plus (Inside a) one.first (plus_goes one.first one.starts) one.first p.input_front p.output_front p.weight_front (start_inside a one.first good one.starts) plus_final one.says in
      let here = subst (λ (q : ℕ). RelFrom kind plus q p.input_front p.output_front p.weight_front) (sym (place_same one.first)) says in
      record { first = one.first; starts = one.starts; says = said_as kind plus one.first p.input_front x p.output_front y p.weight_front w (p.reads ∙ (ap (λ z. p.input_front ++ z) p.back.0 ∙ append-nil p.input_front)) (p.writes ∙ (ap (λ z. p.output_front ++ z) p.back.1 ∙ append-nil p.output_front)) (p.weight ∙ (ap (times kind p.weight_front) p.back.2 ∙ times_one kind p.weight_front)) here }
  plus_says (t ∷ (u ∷ triples)) x y w filled p =
      let rest = plus_says (u ∷ triples) p.input_back p.output_back p.weight_back tt p.back in
      let one = p.front.1 in
      let says = continue_says kind (λ n. 0 + n) (graph_of a) plus (Inside a) rest.first (plus_goes rest.first rest.starts) one.first p.input_front p.output_front p.input_back p.output_back p.weight_front p.weight_back (start_inside a one.first good one.starts) one.says rest.says in
      let here = subst (λ (q : ℕ). RelFrom kind plus q (p.input_front ++ p.input_back) (p.output_front ++ p.output_back) (times kind p.weight_front p.weight_back)) (sym (place_same one.first)) says in
      record { first = one.first; starts = one.starts; says = said_as kind plus one.first (p.input_front ++ p.input_back) x (p.output_front ++ p.output_back) y (times kind p.weight_front p.weight_back) w p.reads p.writes p.weight here }

  plus-closes : (x y : List ℕ) (w : Cost) → Rel kind plus x y w ↔ ((triples : List Said) × IsFilled triples × IsProductOf kind a triples x y w)
  plus-closes x y w = ((λ r. plus_splits r.first r.starts (suc (length r.says.path)) x y w r.says (omega arith)), there)
    where
      there : (triples : List Said) × IsFilled triples × IsProductOf kind a triples x y w → Rel kind plus x y w
      there p = plus_says p.0 x y w p.1 p.2

  -- the closure has the products of the triples
  pub closure-Closes : (filled : Bool) → Closes kind filled a (closure_of kind filled a)
  closure-Closes true = plus-closes
  closure-Closes false = star-closes

-- ---- the machines

pub star_states : (kind : ArcType) (a : Machine Cost) → length (star_of kind a).states ≡ length a.states + 1
star_states kind a = omega (arith, length-map a.states (carried 1 false (Some 0)))

pub star_arcs : (kind : ArcType) (a : Machine Cost) → arc_total (star_of kind a).states ≡ start_count a.start + (arc_total a.states + goings (Some 0) a.states)
star_arcs kind a =
    let all = sum_by-cons (λ (t : State Cost). length t.arcs) (record { final = one_of kind; arcs = entry kind 1 a.start }) (map (carried 1 false (Some 0)) a.states) in
    omega (arith, all, entry_count kind 1 a.start, arc_total-carried 1 false (Some 0) a.states)

pub IsMachine-star : (kind : ArcType) (a : Machine Cost) → IsMachine (λ v. v) a → IsSmall (star_of kind a) → IsMachine (λ v. v) (star_of kind a)
IsMachine-star kind a good small =
    let n = length (star_of kind a).states in
    let count = star_states kind a in
    record {
      start = omega (arith, count);
      arcs = All-cons (λ s. All (IsArc (λ v. v) n) s.arcs) (record { final = one_of kind; arcs = entry kind 1 a.start }) (map (carried 1 false (Some 0)) a.states)
          (entry-good kind 1 n a.start (entry_low a 1 n good (omega (arith, count))))
          (carried-good a 1 false (Some 0) n good (omega (arith, count)) (omega (arith, count)));
      few_states = small.states;
      few_arcs = small.arcs;
    }

pub IsMachine-plus : (a : Machine Cost) → IsMachine (λ v. v) a → IsSmall (plus_of a) → IsMachine (λ v. v) (plus_of a)
IsMachine-plus a good small =
    let n = length (plus_of a).states in
    let count : length (plus_of a).states ≡ length a.states = length-map a.states (carried 0 true a.start) in
    let low : IfSome a.start (λ s. s < n) = IfSome_then a.start {P = λ s. s < length a.states} {Q = λ s. s < n} good.start (λ s inside. omega (arith, inside, count)) in
    record {
      start = low;
      arcs = carried-good a 0 true a.start n good (omega (arith, count)) low;
      few_states = small.states;
      few_arcs = small.arcs;
    }

-- ---- as they are made

-- the states of the operand of a star, behind the new start with its arcs
pub star_made : {V : Type 0} (value : V → Cost) (kind : ArcType) (a : Machine V) (one : List (Arc V ℕ)) {own arcs : List (Arc V ℕ)} {s : Option ℕ} {last : V} {first : Machine V} → first ≡ a → own ≡ [] → s ≡ first.start → map (valued_arc value) one ≡ map (valued_arc value) own ++ entry kind 1 s → arcs ≡ one → value last ≡ one_of kind → headed value (Some last) arcs (map (carried 1 false (Some 0)) (valued value a).states) ≡ (star_of kind (valued value a)).states
star_made {V} value kind a one borrowed clear begins put same is =
    let starts : map (valued_arc value) one ≡ entry kind 1 a.start = put ∙ ap₂ (λ (os : List (Arc V ℕ)) (o : Option ℕ). map (valued_arc value) os ++ entry kind 1 o) clear (begins ∙ ap (λ (m : Machine V). m.start) borrowed) in
    ap₂ (λ (w : Cost) (os : List (Arc Cost ℕ)). record { final = w; arcs = os } ∷ map (carried 1 false (Some 0)) (valued value a).states) is (ap (map (valued_arc value)) same ∙ starts)

-- and those of the operand of a plus
pub plus_made : {V : Type 0} (value : V → Cost) (a : Machine V) {start : Option ℕ} → start ≡ a.start → map (carried 0 true start) (valued value a).states ≡ (plus_of (valued value a)).states
plus_made value a begins = ap (λ (o : Option ℕ). map (carried 0 true o) (valued value a).states) begins

-- the sizes, as they are computed
pub star_counted : {V : Type 0} (value : V → Cost) (kind : ArcType) (a : Machine V) (states arcs one more on first : ℕ) → one ≡ length a.states → more ≡ arc_total a.states → on ≡ goings (Some 0) (map (valued_state value) a.states) → first ≡ start_count a.start → states ≡ one + 1 → arcs ≡ more + on + first
    → IsSize (star_of kind (valued value a)) (states, arcs)
star_counted value kind a states arcs one more on first ones mores ons firsts is are =
    let n = star_states kind (valued value a) in
    let m = star_arcs kind (valued value a) in
    let x = length-map a.states (valued_state value) in
    let p = arc_total-valued value a.states in
    record { states = omega (arith, n, x, ones, is); arcs = omega (arith, m, p, mores, ons, firsts, are) }

pub plus_counted : {V : Type 0} (value : V → Cost) (a : Machine V) (states arcs more on : ℕ) (start : Option ℕ) → states ≡ length a.states → more ≡ arc_total a.states → start ≡ a.start → on ≡ goings start (map (valued_state value) a.states) → arcs ≡ more + on
    → IsSize (plus_of (valued value a)) (states, arcs)
plus_counted value a states arcs more on start is mores starts ons are =
    let x = length-map a.states (valued_state value) in
    let y = length-map (map (valued_state value) a.states) (carried 0 true a.start) in
    let p = arc_total-valued value a.states in
    let m = arc_total-carried 0 true a.start (map (valued_state value) a.states) in
    let goes : on ≡ goings a.start (map (valued_state value) a.states) = ons ∙ ap (λ (o : Option ℕ). goings o (map (valued_state value) a.states)) starts in
    record { states = omega (arith, x, y, is); arcs = omega (arith, m, p, mores, goes, are) }
