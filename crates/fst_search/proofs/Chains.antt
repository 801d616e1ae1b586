-- Chains of hops that are kept: what a new hop does to their cycles, and where long chains end.
use Rattle.std.proofs.Common.{◌≡◌, ◌⊎◌, inl, inr, ℕ, ◌+◌, ◌<◌, zero, suc, List, [], ◌∷◌, ◌++◌, Option, None, Some, length, map, sym, refl, ap, ap₂, ◌∙◌, subst, arith}
use Rattle.std.proofs.lemmas.Bool.{cases_eq}
use Rattle.std.proofs.lemmas.List.{length-append, map-append}
use Rattle.fst_semiring.specs.Cost.{Cost}
use Rattle.fst_semiring.specs.declared.arc_type.ArcType.{ArcType}
use Rattle.fst_semiring.specs.Semiring.{one_of, times}
use Rattle.fst_semiring.proofs.Order.{plus_same, plus_trans}
use Rattle.fst_semiring.proofs.Laws.{one_times, times_assoc, times_comm, times_keeps}
use Rattle.fst_machine.specs.Letters.{product}
use Rattle.fst_machine.proofs.Letters.{product-append}
use Rattle.fst_machine.specs.declared.path.Step.{Step}
use Rattle.fst_search.specs.Hops.{Hop, NoWorse, Better, hop_letter, hops_product, IsBack, IsNet, value_by}
use Rattle.fst_search.specs.Searching.{CyclesImprove, IsChain, Linked, Tentative, step_of}
use Rattle.fst_search.proofs.Order.{better_not, both_better, factor_better, then_better}

pub hops_product-append : (kind : ArcType) (hops more : List Hop) → hops_product kind (hops ++ more) ≡ times kind (hops_product kind hops) (hops_product kind more)
hops_product-append kind hops more = ap (product kind) (map-append hop_letter hops more) ∙ product-append kind (map hop_letter hops) (map hop_letter more)

-- two kept hops are one step only where they come from one state
pub same_from : (s t : Step) → Some s ≡ Some t → (s.state ≡ t.state) × (s.place ≡ t.place)
same_from s t e = let same : s ≡ t = cc in (ap (λ z. z.state) same, ap (λ z. z.place) same)

module _ (kind : ArcType) (Goes : Hop → Type 0) where
  pub IsChain-append : (L : ℕ → Option Step) (front back : List Hop) (q x y : ℕ) → IsChain Goes L q front x → IsChain Goes L x back y → IsChain Goes L q (front ++ back) y
  IsChain-append L [] back q x y here more = subst (λ z. IsChain Goes L z back y) (sym here) more
  IsChain-append L (h ∷ front) back q x y chain more = (chain.0, IsChain-append L front back h.from x y chain.1 more)

  pub IsChain-split : (L : ℕ → Option Step) (front back : List Hop) (q y : ℕ) → IsChain Goes L q (front ++ back) y → (x : ℕ) × IsChain Goes L q front x × IsChain Goes L x back y
  IsChain-split L [] back q y chain = (q, refl, chain)
  IsChain-split L (h ∷ front) back q y chain = let rest = IsChain-split L front back h.from y chain.1 in (rest.0, (chain.0, rest.1), rest.2)

  -- a chain is a path told from its end
  pub back_of_chain : (L : ℕ → Option Step) (hops : List Hop) (q x : ℕ) → IsChain Goes L q hops x → IsBack Goes q hops x
  back_of_chain L [] q x here = here
  back_of_chain L (h ∷ hops) q x chain = (chain.0.1, chain.0.2, back_of_chain L hops h.from x chain.1)

  -- along a chain the product with the distance at its end is no worse than that at its beginning
  pub chain_bound : (source D : ℕ → Cost) (L : ℕ → Option Step) → Tentative kind Goes source D L → (n : ℕ) → IsNet Goes n
      → (hops : List Hop) (q x : ℕ) → IsChain Goes L q hops x → NoWorse (times kind (hops_product kind hops) (D x)) (D q)
  chain_bound source D L t n net [] q x here = subst (λ z. NoWorse (times kind (one_of kind) (D x)) (D z)) (sym here) (subst (λ z. NoWorse z (D x)) (sym (one_times kind (D x))) (plus_same (D x)))
  chain_bound source D L t n net (h ∷ hops) q x chain = by_origin (chain_bound source D L t n net hops h.from x chain.1) (t.origin q)
    where
      by_origin : NoWorse (times kind (hops_product kind hops) (D x)) (D h.from) → ((L q ≡ None) × (D q ≡ source q)) ⊎ ((k : Hop) × Linked Goes L q k × NoWorse (times kind k.weight (D k.from)) (D q))
          → NoWorse (times kind (hops_product kind (h ∷ hops)) (D x)) (D q)
      by_origin rest (inl none) = absurd (let wrong : None ≡ Some (step_of h) = sym none.0 ∙ chain.0.0 in cc)
      by_origin rest (inr (k, linked, bound)) =
          let same = same_from (step_of h) (step_of k) (sym chain.0.0 ∙ linked.0) in
          let weights : h.weight ≡ k.weight = net.fixed h k chain.0.1 linked.1 same.0 same.1 (chain.0.2 ∙ sym linked.2) in
          let here : NoWorse (times kind h.weight (D h.from)) (D q) = subst (λ z. NoWorse z (D q)) (ap₂ (λ w p. times kind w (D p)) (sym weights) (sym same.0)) bound in
          subst (λ z. NoWorse z (D q)) (sym (times_assoc kind h.weight (hops_product kind hops) (D x)))
          (plus_trans _ (times kind h.weight (D h.from)) (D q) (times_keeps kind h.weight _ (D h.from) rest) here)

  -- from a state that is better than the paths of at most k hops, a chain of at most k hops goes on
  pub strict_linked : (source D : ℕ → Cost) (L : ℕ → Option Step) → Tentative kind Goes source D L → (n : ℕ) → IsNet Goes n
      → (hops : List Hop) (q x : ℕ) → IsChain Goes L q hops x → Better (D q) (value_by kind source hops x) → L x ≡ None → ⊥
  strict_linked source D L t n net hops q x chain strict none = by_origin (t.origin x)
    where
      by_origin : ((L x ≡ None) × (D x ≡ source x)) ⊎ ((k : Hop) × Linked Goes L x k × NoWorse (times kind k.weight (D k.from)) (D x)) → ⊥
      by_origin (inl here) = better_not (D q) (value_by kind source hops x) strict (subst (λ z. NoWorse (times kind (hops_product kind hops) z) (D q)) here.1 (chain_bound source D L t n net hops q x chain))
      by_origin (inr (k, linked, bound)) = let wrong : None ≡ Some (step_of k) = sym none ∙ linked.0 in cc

  module _ (n : ℕ) (net : IsNet Goes n) (source D : ℕ → Cost) (L M : ℕ → Option Step) (t : Tentative kind Goes source D L) (h : Hop) (goes : Goes h) (linked : M h.to ≡ Some (step_of h)) (others : (q : ℕ) → (q ≡ h.to → ⊥) → M q ≡ L q) where
    -- A chain of new links keeps to the old ones, or does so until it comes to the state with the new hop.
    record Meets (q : ℕ) (hops : List Hop) (x : ℕ) : Type 0 where
      pub front : List Hop
      pub first : Hop
      pub rest : List Hop
      pub same : hops ≡ front ++ (first ∷ rest)
      pub before : IsChain Goes L q front h.to
      pub now : IsChain Goes M q front h.to
      pub new : IsChain Goes M h.to (first ∷ rest) x

    meets : (hops : List Hop) (q x : ℕ) → IsChain Goes M q hops x → IsChain Goes L q hops x ⊎ Meets q hops x
    meets [] q x here = inl here
    meets (k ∷ hops) q x chain = by_place (cases_eq q h.to) (meets hops k.from x chain.1)
      where
        by_place : (q ≡ h.to) ⊎ (q ≡ h.to → ⊥) → IsChain Goes L k.from hops x ⊎ Meets k.from hops x → IsChain Goes L q (k ∷ hops) x ⊎ Meets q (k ∷ hops) x
        by_place (inl here) later = inr (record { front = []; first = k; rest = hops; same = refl; before = here; now = here; new = subst (λ z. IsChain Goes M z (k ∷ hops) x) here chain })
        by_place (inr other) (inl old) = inl ((sym (others q other) ∙ chain.0.0, chain.0.1, chain.0.2), old)
        by_place (inr other) (inr m) = inr (record {
          front = k ∷ m.front;
          first = m.first;
          rest = m.rest;
          same = ap (λ ks. k ∷ ks) m.same;
          before = ((sym (others q other) ∙ chain.0.0, chain.0.1, chain.0.2), m.before);
          now = (chain.0, m.now);
          new = m.new;
        })

    -- the new hop with an old chain back to where it leads
    simple : (so_far v : Cost) → NoWorse (D h.from) so_far → v ≡ times kind h.weight so_far → Better v (D h.to) → (k : Hop) (hops : List Hop)
        → Linked Goes M h.to k → IsChain Goes L k.from hops h.to → Better (hops_product kind (k ∷ hops)) (one_of kind)
    simple so_far v kept is better k hops at chain =
        let same = same_from (step_of k) (step_of h) (sym at.0 ∙ linked) in
        let weights : k.weight ≡ h.weight = net.fixed k h at.1 goes same.0 same.1 at.2 in
        let p = hops_product kind hops in
        let bound : NoWorse (times kind p (D h.to)) (D h.from) = subst (λ z. NoWorse (times kind p (D h.to)) (D z)) same.0 (chain_bound source D L t n net hops k.from h.to chain) in
        let far : NoWorse (times kind k.weight (times kind p (D h.to))) v = subst (λ z. NoWorse (times kind k.weight (times kind p (D h.to))) z) (ap (λ w. times kind w so_far) weights ∙ sym is) (times_keeps kind k.weight (times kind p (D h.to)) so_far (plus_trans _ (D h.from) so_far bound kept)) in
        factor_better kind (times kind k.weight p) (D h.to) (subst (λ z. Better z (D h.to)) (sym (times_assoc kind k.weight p (D h.to))) (then_better _ v (D h.to) far better))

    -- a cycle from the state with the new hop, where shorter ones are better than One
    loop_case : (so_far v : Cost) → NoWorse (D h.from) so_far → v ≡ times kind h.weight so_far → Better v (D h.to) → (k : Hop) (hops : List Hop)
        → ((j : Hop) (rest : List Hop) → length rest < length hops → IsChain Goes M h.to (j ∷ rest) h.to → Better (hops_product kind (j ∷ rest)) (one_of kind))
        → Linked Goes M h.to k → IsChain Goes L k.from hops h.to ⊎ Meets k.from hops h.to → Better (hops_product kind (k ∷ hops)) (one_of kind)
    loop_case so_far v kept is better k hops shorter at (inl old) = simple so_far v kept is better k hops at old
    loop_case so_far v kept is better k hops shorter at (inr r) =
        let long : length hops ≡ length r.front + suc (length r.rest) = ap length r.same ∙ length-append r.front (r.first ∷ r.rest) in
        let one = simple so_far v kept is better k r.front at r.before in
        let two = shorter r.first r.rest (omega arith) r.new in
        let whole : hops_product kind (k ∷ hops) ≡ times kind (hops_product kind (k ∷ r.front)) (hops_product kind (r.first ∷ r.rest)) = ap (λ ks. hops_product kind (k ∷ ks)) r.same ∙ hops_product-append kind (k ∷ r.front) (r.first ∷ r.rest) in
        subst (λ z. Better z (one_of kind)) (sym whole) (both_better kind _ _ one two)

    loops : (so_far v : Cost) → NoWorse (D h.from) so_far → v ≡ times kind h.weight so_far → Better v (D h.to) → (m : ℕ) (k : Hop) (hops : List Hop)
        → length hops < m → IsChain Goes M h.to (k ∷ hops) h.to → Better (hops_product kind (k ∷ hops)) (one_of kind)
    loops so_far v kept is better zero k hops few chain = absurd (omega arith)
    loops so_far v kept is better (suc m) k hops few chain =
        loop_case so_far v kept is better k hops (λ j rest low more. loops so_far v kept is better m j rest (omega arith) more) chain.0 (meets hops k.from h.to chain.1)

    -- a new hop that makes a state better keeps each cycle better than One
    pub cycles_improve : (so_far v : Cost) → NoWorse (D h.from) so_far → v ≡ times kind h.weight so_far → Better v (D h.to) → CyclesImprove kind Goes M
    cycles_improve so_far v kept is better x k hops chain = by_case (meets (k ∷ hops) x x chain)
      where
        by_case : IsChain Goes L x (k ∷ hops) x ⊎ Meets x (k ∷ hops) x → Better (hops_product kind (k ∷ hops)) (one_of kind)
        by_case (inl old) = t.cycles x k hops old
        by_case (inr r) =
            let turned : IsChain Goes M h.to (r.first ∷ (r.rest ++ r.front)) h.to = IsChain-append M (r.first ∷ r.rest) r.front h.to x h.to r.new r.now in
            let fine = loops so_far v kept is better (suc (length (r.rest ++ r.front))) r.first (r.rest ++ r.front) (omega arith) turned in
            let whole : hops_product kind (k ∷ hops) ≡ hops_product kind (r.first ∷ (r.rest ++ r.front)) = ap (hops_product kind) r.same ∙ (hops_product-append kind r.front (r.first ∷ r.rest) ∙ (times_comm kind _ _ ∙ sym (hops_product-append kind (r.first ∷ r.rest) r.front))) in
            subst (λ z. Better z (one_of kind)) (sym whole) fine
