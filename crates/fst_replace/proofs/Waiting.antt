-- Blocks that wait, one made after the other.
use Rattle.std.proofs.Common.{◌≡◌, ◌⊎◌, inl, inr, ℕ, ◌+◌, ◌<◌, zero, suc, Bool, true, false, List, [], ◌∷◌, ◌++◌, Option, None, Some, length, map, reverse, refl, sym, ap, ap₂, ◌∙◌, subst, append_assoc, append-nil, arith}
use Rattle.std.proofs.lemmas.List.{length-append, length-map, map-append, reverse-append, reverse-reverse}
use Rattle.fst_semiring.specs.Cost.{Cost}
use Rattle.fst_machine.specs.BreadthFirst.{Has}
use Rattle.fst_machine.specs.Machine.{Arc, State, Machine}
use Rattle.fst_machine.specs.Graph.{renamed}
use Rattle.fst_machine.proofs.Elements.{Has-append_cases, Has-append_left, Has-append_right}
use Rattle.fst_rational.specs.Constructions.{carried}
use Rattle.fst_replace.specs.Calls.{Calling, Reaches, arcs_of, called, calls_in, rules_in}
use Rattle.fst_replace.specs.Expansion.{Shape, blocks, blocks_size, entered_states, expansion, replaced, shape_of}
use Rattle.fst_replace.specs.Rules.{Labelled, labels_of, machine_at}
use Rattle.fst_replace.specs.Totals.{HasStarts, IsExpanding, IsTable, shape_at, shifted, standing, standing_call}
use Rattle.fst_replace.proofs.Chains.{chain_call}
use Rattle.fst_replace.proofs.Expanding.{blocks_length, size_same, states_length, states_same}
use Rattle.fst_replace.proofs.Unfolding.{block_unfolds, blocks-append, blocks_standing}

-- the elements of a list turned round
Has-reverse : {X : Type 0} (xs : List X) (x : X) → Has (reverse xs) x → Has xs x
Has-reverse [] x h = h
Has-reverse {X} (y ∷ xs) x h = by_part (λ k. Has-reverse xs x k) (Has-append_cases (reverse xs) (y ∷ []) x (subst (λ zs. Has zs x) (reverse-append (y ∷ []) xs) h))
  where
    by_part : (Has (reverse xs) x → Has xs x) → Has (reverse xs) x ⊎ Has (y ∷ []) x → Has (y ∷ xs) x
    by_part more (inl k) = inr (more k)
    by_part more (inr (inl e)) = inl e
    by_part more (inr (inr none)) = absurd none

-- a call that stands is one of the calls, and its block has states
standing_has : (s : ℕ → Shape) (o : ℕ) (calls : List Calling) (d : Calling) → Has (map (shifted o) (standing s calls)) d → Has (rules_in calls) d.rule × (0 < (s d.rule).size)
standing_has s o [] d h = absurd h
standing_has s o (c ∷ calls) d h = by_size (s c.rule).size refl (λ k. standing_has s o calls d k) (subst (λ zs. Has zs d) (map-append (shifted o) (standing_call (s c.rule).size c) (standing s calls)) h)
  where
    by_size : (n : ℕ) → n ≡ (s c.rule).size → (Has (map (shifted o) (standing s calls)) d → Has (rules_in calls) d.rule × (0 < (s d.rule).size)) → Has (map (shifted o) (standing_call n c) ++ map (shifted o) (standing s calls)) d → Has (rules_in (c ∷ calls)) d.rule × (0 < (s d.rule).size)
    by_size zero e more h = let rest = more h in (inr rest.0, rest.1)
    by_size (suc n) e more (inl same) =
        let rule : c.rule ≡ d.rule = ap (λ (z : Calling). z.rule) same in
        (inl rule, subst (λ (r : ℕ). 0 < (s r).size) rule (omega (arith, e)))
    by_size (suc n) e more (inr h) = let rest = more h in (inr rest.0, rest.1)

standing_same : (s t : ℕ → Shape) (calls : List Calling) → ((r : ℕ) → Has (rules_in calls) r → s r ≡ t r) → standing s calls ≡ standing t calls
standing_same s t [] same = refl
standing_same s t (c ∷ calls) same = ap₂ (◌++◌) (ap (λ (z : Shape). standing_call z.size c) (same c.rule (inl refl))) (standing_same s t calls (λ r h. same r (inr h)))

-- moving by nothing changes nothing
arcs_same : (arcs : List (Arc Cost ℕ)) → map (renamed (λ p. 0 + p)) arcs ≡ arcs
arcs_same [] = refl
arcs_same (a ∷ arcs) = let same : 0 + a.next ≡ a.next = omega arith in ap₂ (◌∷◌) (λ i. record { ilabel = a.ilabel; olabel = a.olabel; weight = a.weight; next = same i }) (arcs_same arcs)

pub carried_same : (states : List (State Cost)) → map (carried 0 true None) states ≡ states
carried_same [] = refl
carried_same (s ∷ states) = ap₂ (◌∷◌) (ap (λ arcs. record { final = s.final; arcs = arcs }) (append-nil (map (renamed (λ p. 0 + p)) s.arcs) ∙ arcs_same s.arcs)) (carried_same states)

shifted_same : (calls : List Calling) → map (shifted 0) calls ≡ calls
shifted_same [] = refl
shifted_same (c ∷ calls) = let same : 0 + c.next ≡ c.next = omega arith in ap₂ (◌∷◌) (λ i. record { rule = c.rule; next = same i }) (shifted_same calls)

module _ (rules : List (Labelled Cost)) (shapes : List Shape) (t : IsTable rules shapes) where
  -- a rule that is called is reached
  pub reach_on : (i r : ℕ) → Reaches (called rules) 0 i → Has (called rules i) r → Reaches (called rules) 0 r
  reach_on i r h has = (h.0 ++ r ∷ [], chain_call (called rules) 0 h.0 i r h.1 has)

  module _ (i : ℕ) (h : Reaches (called rules) 0 i) where
    pub starts_of : HasStarts (shape_at shapes) (rules_in (calls_in (labels_of rules) (arcs_of (machine_at rules i).states)))
    starts_of r has = t.starts r (reach_on i r h has)

    -- its expansion by what is kept
    pub piece : (o : ℕ) (target : Option ℕ) (keeps : Bool) → map (carried o keeps target) (entered_states (labels_of rules) (λ r. shape_of (expansion rules (length rules) r)) (length (machine_at rules i).states) (machine_at rules i).states) ≡ map (carried o keeps target) (entered_states (labels_of rules) (shape_at shapes) (length (machine_at rules i).states) (machine_at rules i).states)
    piece o target keeps = ap (map (carried o keeps target)) (states_same (labels_of rules) (λ r. shape_of (expansion rules (length rules) r)) (shape_at shapes) (length (machine_at rules i).states) (machine_at rules i).states (λ r has. sym (t.kept r (reach_on i r h has))))

    pub kept_calls : standing (λ r. shape_of (expansion rules (length rules) r)) (calls_in (labels_of rules) (arcs_of (machine_at rules i).states)) ≡ standing (shape_at shapes) (calls_in (labels_of rules) (arcs_of (machine_at rules i).states))
    kept_calls = standing_same (λ r. shape_of (expansion rules (length rules) r)) (shape_at shapes) (calls_in (labels_of rules) (arcs_of (machine_at rules i).states)) (λ r has. sym (t.kept r (reach_on i r h has)))

    kept_size : blocks_size (labels_of rules) (λ r. shape_of (expansion rules (length rules) r)) (calls_in (labels_of rules) (arcs_of (machine_at rules i).states)) ≡ blocks_size (labels_of rules) (shape_at shapes) (calls_in (labels_of rules) (arcs_of (machine_at rules i).states))
    kept_size = size_same (labels_of rules) (λ r. shape_of (expansion rules (length rules) r)) (shape_at shapes) (calls_in (labels_of rules) (arcs_of (machine_at rules i).states)) (λ r has. sym (t.kept r (reach_on i r h has)))

    -- how many states it has
    pub expansion_size : length (expansion rules (length rules) i).states ≡ length (machine_at rules i).states + blocks_size (labels_of rules) (shape_at shapes) (calls_in (labels_of rules) (arcs_of (machine_at rules i).states))
    expansion_size =
        let m = expansion rules (length rules) in
        let a = machine_at rules i in
        let own = states_length (labels_of rules) (λ r. shape_of (m r)) (length a.states) a.states in
        let rest = blocks_length (labels_of rules) m (length a.states) (calls_in (labels_of rules) (arcs_of a.states)) in
        let all = ap (λ (z : Machine Cost). length z.states) (t.expands i h) in
        omega (arith, all, own, rest, kept_size, length-append (entered_states (labels_of rules) (λ r. shape_of (m r)) (length a.states) a.states) (blocks m (length a.states) (calls_in (labels_of rules) (arcs_of a.states))))

    -- its block, and the blocks of its calls
    pub block_is : (o : ℕ) (target : Option ℕ) → map (carried o false target) (expansion rules (length rules) i).states ≡ map (carried o false target) (entered_states (labels_of rules) (shape_at shapes) (length (machine_at rules i).states) (machine_at rules i).states) ++ blocks (expansion rules (length rules)) (o + length (machine_at rules i).states) (map (shifted o) (standing (shape_at shapes) (calls_in (labels_of rules) (arcs_of (machine_at rules i).states))))
    block_is o target =
        let m = expansion rules (length rules) in
        ap (λ (z : Machine Cost). map (carried o false target) z.states) (t.expands i h)
        ∙ (block_unfolds (labels_of rules) m o target (machine_at rules i)
        ∙ ap₂ (λ own cs. own ++ blocks m (o + length (machine_at rules i).states) (map (shifted o) cs)) (piece o target false) kept_calls)

  -- the root is made
  pub root_made : (made : List (State Cost)) (waiting : List Calling) → made ≡ map (carried 0 true None) (entered_states (labels_of rules) (shape_at shapes) (length (machine_at rules 0).states) (machine_at rules 0).states) → waiting ≡ reverse (map (shifted 0) (standing (shape_at shapes) (calls_in (labels_of rules) (arcs_of (machine_at rules 0).states)))) → IsExpanding rules shapes made waiting (length (machine_at rules 0).states)
  root_made made waiting is are = record {
    laid = all;
    size = size;
    reached = λ c h. reach_on 0 c.rule root (from c h).0;
    standing = λ c h. (from c h).1;
  }
    where
      root : Reaches (called rules) 0 0
      root = ([], refl)

      from : (c : Calling) → Has waiting c → Has (called rules 0) c.rule × (0 < (shape_at shapes c.rule).size)
      from c h = standing_has (shape_at shapes) 0 (calls_in (labels_of rules) (arcs_of (machine_at rules 0).states)) c (Has-reverse (map (shifted 0) (standing (shape_at shapes) (calls_in (labels_of rules) (arcs_of (machine_at rules 0).states)))) c (subst (λ zs. Has zs c) are h))

      size : length (machine_at rules 0).states ≡ length made
      size =
          let one = ap length is in
          let own = entered_states (labels_of rules) (shape_at shapes) (length (machine_at rules 0).states) (machine_at rules 0).states in
          omega (arith, one, length-map own (carried 0 true None), states_length (labels_of rules) (shape_at shapes) (length (machine_at rules 0).states) (machine_at rules 0).states)

      all : (replaced rules).states ≡ made ++ blocks (expansion rules (length rules)) (length (machine_at rules 0).states) (reverse waiting)
      all =
          let calls = calls_in (labels_of rules) (arcs_of (machine_at rules 0).states) in
          let back : reverse waiting ≡ map (shifted 0) (standing (shape_at shapes) calls) = ap reverse are ∙ reverse-reverse (map (shifted 0) (standing (shape_at shapes) calls)) in
          let mine = expansion rules (length rules) in
          let n = length (machine_at rules 0).states in
          ap (λ (z : Machine Cost). z.states) (t.expands 0 root)
          ∙ ap₂ (◌++◌)
          (sym (carried_same (entered_states (labels_of rules) (λ r. shape_of (mine r)) n (machine_at rules 0).states)) ∙ (piece 0 root 0 None true ∙ sym is))
          (ap (blocks mine n) (sym (shifted_same calls)) ∙ (sym (blocks_standing mine 0 n calls) ∙ (ap (λ cs. blocks mine n (map (shifted 0) cs)) (kept_calls 0 root) ∙ ap (blocks mine n) (sym back))))

  -- the next block is made
  pub next_made : (made after : List (State Cost)) (front waiting : List Calling) (c : Calling) (at : ℕ) → IsExpanding rules shapes made (front ++ c ∷ []) at → after ≡ made ++ map (carried at false (Some c.next)) (entered_states (labels_of rules) (shape_at shapes) (length (machine_at rules c.rule).states) (machine_at rules c.rule).states) → waiting ≡ front ++ reverse (map (shifted at) (standing (shape_at shapes) (calls_in (labels_of rules) (arcs_of (machine_at rules c.rule).states)))) → IsExpanding rules shapes after waiting (at + length (machine_at rules c.rule).states)
  next_made made after front waiting c at e is are = record {
    laid = all;
    size = size;
    reached = λ d h. (by_part d (Has-append_cases front (reverse new) d (subst (λ zs. Has zs d) are h))).0;
    standing = λ d h. (by_part d (Has-append_cases front (reverse new) d (subst (λ zs. Has zs d) are h))).1;
  }
    where
      new : List Calling
      new = map (shifted at) (standing (shape_at shapes) (calls_in (labels_of rules) (arcs_of (machine_at rules c.rule).states)))

      here : Reaches (called rules) 0 c.rule
      here = e.reached c (Has-append_right front (c ∷ []) c (inl refl))

      by_part : (d : Calling) → Has front d ⊎ Has (reverse new) d → Reaches (called rules) 0 d.rule × (0 < (shape_at shapes d.rule).size)
      by_part d (inl h) = (e.reached d (Has-append_left front (c ∷ []) d h), e.standing d (Has-append_left front (c ∷ []) d h))
      by_part d (inr h) =
          let from = standing_has (shape_at shapes) at (calls_in (labels_of rules) (arcs_of (machine_at rules c.rule).states)) d (Has-reverse new d h) in
          (reach_on c.rule d.rule here from.0, from.1)

      size : at + length (machine_at rules c.rule).states ≡ length after
      size =
          let own = entered_states (labels_of rules) (shape_at shapes) (length (machine_at rules c.rule).states) (machine_at rules c.rule).states in
          let one = ap length is in
          omega (arith, one, e.size, length-append made (map (carried at false (Some c.next)) own), length-map own (carried at false (Some c.next)), states_length (labels_of rules) (shape_at shapes) (length (machine_at rules c.rule).states) (machine_at rules c.rule).states)

      all : (replaced rules).states ≡ after ++ blocks (expansion rules (length rules)) (at + length (machine_at rules c.rule).states) (reverse waiting)
      all =
          let mine = expansion rules (length rules) in
          let a = machine_at rules c.rule in
          let own = map (carried at false (Some c.next)) (entered_states (labels_of rules) (shape_at shapes) (length a.states) a.states) in
          let rest = reverse front in
          let turned : reverse (front ++ c ∷ []) ≡ c ∷ rest = reverse-append front (c ∷ []) in
          let back : reverse waiting ≡ new ++ rest = ap reverse are ∙ (reverse-append front (reverse new) ∙ ap (λ zs. zs ++ rest) (reverse-reverse new)) in
          let here_is = block_is c.rule here at (Some c.next) in
          let counted = blocks_length (labels_of rules) mine (at + length a.states) new in
          let both : length (map (carried at false (Some c.next)) (mine c.rule).states) ≡ length (own ++ blocks mine (at + length a.states) new) = ap length here_is in
          let next : at + length a.states + blocks_size (labels_of rules) (λ r. shape_of (mine r)) new ≡ at + length (mine c.rule).states = omega (arith, counted, both, length-append own (blocks mine (at + length a.states) new), length-map (mine c.rule).states (carried at false (Some c.next)), length-map (entered_states (labels_of rules) (shape_at shapes) (length a.states) a.states) (carried at false (Some c.next)), states_length (labels_of rules) (shape_at shapes) (length a.states) a.states) in
          let cut : blocks mine (at + length a.states) (new ++ rest) ≡ blocks mine (at + length a.states) new ++ blocks mine (at + length (mine c.rule).states) rest = blocks-append (labels_of rules) mine (at + length a.states) new rest ∙ ap (λ (n : ℕ). blocks mine (at + length a.states) new ++ blocks mine n rest) next in
          e.laid
          ∙ (ap (λ cs. made ++ blocks mine at cs) turned
          ∙ (ap (λ zs. made ++ (zs ++ blocks mine (at + length (mine c.rule).states) rest)) here_is
          ∙ (ap (λ zs. made ++ zs) (append_assoc own (blocks mine (at + length a.states) new) (blocks mine (at + length (mine c.rule).states) rest) ∙ ap (λ zs. own ++ zs) (sym cut))
          ∙ (sym (append_assoc made own (blocks mine (at + length a.states) (new ++ rest)))
          ∙ ap₂ (λ zs cs. zs ++ blocks mine (at + length a.states) cs) (sym is) (sym back)))))
