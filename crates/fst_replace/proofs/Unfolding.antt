-- Blocks moved, and blocks with their own calls behind them.
use Rattle.std.proofs.Common.{◌≡◌, ℕ, ◌+◌, zero, suc, false, List, [], ◌∷◌, ◌++◌, Option, None, Some, length, map, refl, sym, ap, ap₂, ◌∙◌, append_assoc, append-nil, arith}
use Rattle.std.proofs.lemmas.List.{map-append}
use Rattle.std.proofs.lemmas.List.Sums.{sum_by-cons}
use Rattle.fst_semiring.specs.Cost.{Cost, best, finite, infinite}
use Rattle.fst_machine.specs.Graph.{renamed}
use Rattle.fst_machine.specs.Machine.{Arc, State, Machine}
use Rattle.fst_rational.specs.Changing.{onward}
use Rattle.fst_rational.specs.Constructions.{carried}
use Rattle.fst_replace.specs.Calls.{Calling, arcs_of, calls_in}
use Rattle.fst_replace.specs.Expansion.{Shape, blocks, blocks_size, entered_states, expanded, shape_of}
use Rattle.fst_replace.specs.Totals.{shifted, standing, standing_call}

-- arcs that are moved twice
moved_twice : (o q : ℕ) (arcs : List (Arc Cost ℕ)) → map (renamed (λ p. o + p)) (map (renamed (λ p. q + p)) arcs) ≡ map (renamed (λ p. o + q + p)) arcs
moved_twice o q [] = refl
moved_twice o q (a ∷ arcs) =
    let same : o + (q + a.next) ≡ o + q + a.next = omega arith in
    ap₂ (◌∷◌) (λ i. record { ilabel = a.ilabel; olabel = a.olabel; weight = a.weight; next = same i }) (moved_twice o q arcs)

onward_moved : (o t : ℕ) (w : Cost) → map (renamed (λ p. o + p)) (onward w (Some t)) ≡ onward w (Some (o + t))
onward_moved o t best = refl
onward_moved o t (finite x y) = refl
onward_moved o t infinite = refl

-- a block inside a block
carried_twice : (o q t : ℕ) (target : Option ℕ) (states : List (State Cost)) → map (carried o false target) (map (carried q false (Some t)) states) ≡ map (carried (o + q) false (Some (o + t))) states
carried_twice o q t target [] = refl
carried_twice o q t target (s ∷ states) =
    let arcs : map (renamed (λ p. o + p)) (map (renamed (λ p. q + p)) s.arcs ++ onward s.final (Some t)) ++ onward infinite target ≡ map (renamed (λ p. o + q + p)) s.arcs ++ onward s.final (Some (o + t)) =
    nothing target (map (renamed (λ p. o + p)) (map (renamed (λ p. q + p)) s.arcs ++ onward s.final (Some t)))
    ∙ (map-append (renamed (λ p. o + p)) (map (renamed (λ p. q + p)) s.arcs) (onward s.final (Some t))
    ∙ ap₂ (◌++◌) (moved_twice o q s.arcs) (onward_moved o t s.final)) in
    ap₂ (◌∷◌) (λ i. record { final = infinite; arcs = arcs i }) (carried_twice o q t target states)
  where
    nothing : (target : Option ℕ) (zs : List (Arc Cost ℕ)) → zs ++ onward infinite target ≡ zs
    nothing None zs = append-nil zs
    nothing (Some c) zs = append-nil zs

-- the blocks of a block
pub blocks_moved : (m : ℕ → Machine Cost) (o q : ℕ) (target : Option ℕ) (calls : List Calling) → map (carried o false target) (blocks m q calls) ≡ blocks m (o + q) (map (shifted o) calls)
blocks_moved m o q target [] = refl
blocks_moved m o q target (c ∷ calls) =
    let next : o + (q + length (m c.rule).states) ≡ o + q + length (m c.rule).states = omega arith in
    map-append (carried o false target) (map (carried q false (Some c.next)) (m c.rule).states) (blocks m (q + length (m c.rule).states) calls)
    ∙ ap₂ (◌++◌) (carried_twice o q c.next target (m c.rule).states) (blocks_moved m o (q + length (m c.rule).states) target calls ∙ ap (λ (n : ℕ). blocks m n (map (shifted o) calls)) next)

-- blocks of two lists of calls
pub blocks-append : (labels : List ℕ) (m : ℕ → Machine Cost) (q : ℕ) (xs ys : List Calling) → blocks m q (xs ++ ys) ≡ blocks m q xs ++ blocks m (q + blocks_size labels (λ r. shape_of (m r)) xs) ys
blocks-append labels m q [] ys = let none : q ≡ q + 0 = omega arith in ap (λ (n : ℕ). blocks m n ys) none
blocks-append labels m q (c ∷ xs) ys =
    let all = sum_by-cons (λ (c : Calling). length (m c.rule).states) c xs in
    let next = q + length (m c.rule).states in
    let same : next + blocks_size labels (λ r. shape_of (m r)) xs ≡ q + blocks_size labels (λ r. shape_of (m r)) (c ∷ xs) = omega (arith, all) in
    ap (λ zs. map (carried q false (Some c.next)) (m c.rule).states ++ zs) (blocks-append labels m next xs ys)
    ∙ (sym (append_assoc (map (carried q false (Some c.next)) (m c.rule).states) (blocks m next xs) (blocks m (next + blocks_size labels (λ r. shape_of (m r)) xs) ys))
    ∙ ap (λ (n : ℕ). (map (carried q false (Some c.next)) (m c.rule).states ++ blocks m next xs) ++ blocks m n ys) same)

-- blocks that have no states may be left out
no_states : (xs : List (State Cost)) → length xs ≡ 0 → xs ≡ []
no_states [] e = refl
no_states (x ∷ xs) e = absurd (omega (arith, e))

pub blocks_standing : (m : ℕ → Machine Cost) (o q : ℕ) (calls : List Calling) → blocks m q (map (shifted o) (standing (λ r. shape_of (m r)) calls)) ≡ blocks m q (map (shifted o) calls)
blocks_standing m o q [] = refl
blocks_standing m o q (c ∷ calls) =
    ap (blocks m q) (map-append (shifted o) (standing_call (length (m c.rule).states) c) (standing (λ r. shape_of (m r)) calls))
    ∙ by_size (length (m c.rule).states) refl (λ n. blocks_standing m o n calls)
  where
    by_size : (n : ℕ) → n ≡ length (m c.rule).states → ((k : ℕ) → blocks m k (map (shifted o) (standing (λ r. shape_of (m r)) calls)) ≡ blocks m k (map (shifted o) calls)) → blocks m q (map (shifted o) (standing_call n c) ++ map (shifted o) (standing (λ r. shape_of (m r)) calls)) ≡ blocks m q (map (shifted o) (c ∷ calls))
    by_size (suc n) e more = ap (λ zs. map (carried q false (Some (o + c.next))) (m c.rule).states ++ zs) (more (q + length (m c.rule).states))
    by_size zero e more =
        let none : (m c.rule).states ≡ [] = no_states (m c.rule).states (sym e) in
        let here : q ≡ q + length (m c.rule).states = omega (arith, e) in
        more q ∙ (ap (λ (n : ℕ). blocks m n (map (shifted o) calls)) here ∙ ap (λ (zs : List (State Cost)). map (carried q false (Some (o + c.next))) zs ++ blocks m (q + length (m c.rule).states) (map (shifted o) calls)) (sym none))

module _ (labels : List ℕ) (m : ℕ → Machine Cost) where
  shape : ℕ → Shape
  shape r = shape_of (m r)

  -- a block is its own states and the blocks of its calls
  pub block_unfolds : (o : ℕ) (target : Option ℕ) (a : Machine Cost) → map (carried o false target) (expanded labels m a).states ≡ map (carried o false target) (entered_states labels (λ r. shape_of (m r)) (length a.states) a.states) ++ blocks m (o + length a.states) (map (shifted o) (standing (λ r. shape_of (m r)) (calls_in labels (arcs_of a.states))))
  block_unfolds o target a =
      let own = entered_states labels (λ r. shape_of (m r)) (length a.states) a.states in
      let calls = calls_in labels (arcs_of a.states) in
      map-append (carried o false target) own (blocks m (length a.states) calls)
      ∙ ap (λ zs. map (carried o false target) own ++ zs) (blocks_moved m o (length a.states) target calls ∙ sym (blocks_standing m o (o + length a.states) calls))

  pub shifted_size : (o : ℕ) (calls : List Calling) → blocks_size labels (λ r. shape_of (m r)) (map (shifted o) calls) ≡ blocks_size labels (λ r. shape_of (m r)) calls
  shifted_size o [] = refl
  shifted_size o (c ∷ calls) =
      let one = sum_by-cons (λ (c : Calling). length (m c.rule).states) (shifted o c) (map (shifted o) calls) in
      let two = sum_by-cons (λ (c : Calling). length (m c.rule).states) c calls in
      omega (arith, one, two, shifted_size o calls)
