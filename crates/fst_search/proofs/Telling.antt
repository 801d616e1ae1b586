-- A cycle of kept hops as steps.
use Rattle.std.proofs.Common.{◌≡◌, ◌⊎◌, inl, inr, ℕ, ◌≤◌, List, [], ◌∷◌, ◌++◌, Option, None, Some, length, map, sym, refl, ap, ap₂, ◌∙◌, arith}
use Rattle.std.proofs.lemmas.List.{length-map}
use Rattle.fst_semiring.specs.Cost.{Cost, infinite}
use Rattle.fst_semiring.specs.declared.arc_type.ArcType.{ArcType}
use Rattle.fst_machine.specs.declared.path.Step.{Step}
use Rattle.fst_search.specs.declared.direction.Direction.{Direction}
use Rattle.fst_search.specs.declared.direction.Direction.TheVariants.{FromStart, ToFinals}
use Rattle.fst_search.specs.Cycles.{IsFound, hop_step, in_order, link_step, told}
use Rattle.fst_search.specs.Hops.{Hop, Arrives}
use Rattle.fst_search.specs.Searching.{IsChain, IsTrail, Linked, Node, Turned, distance_at, link_at, step_of}
use Rattle.fst_search.proofs.Chains.{back_of_chain}
use Rattle.fst_search.proofs.Ending.{chain_of_trail}

pub told-push : (direction : Direction) (L : ℕ → Option Step) (trail : List Step) (q x : ℕ) (s : Step) → IsTrail L q trail x → told direction q (trail ++ s ∷ []) ≡ told direction q trail ++ link_step direction x s ∷ []
told-push direction L [] q x s here = ap (λ (z : ℕ). link_step direction z s ∷ []) here
told-push direction L (t ∷ trail) q x s leads = ap (λ ss. link_step direction q t ∷ ss) (told-push direction L trail t.state x s leads.1)

-- a trail that is not empty begins with a link
pub first_link : (L : ℕ → Option Step) (trail : List Step) (q x : ℕ) → IsTrail L q trail x → 1 ≤ length trail → (s : Step) × (more : List Step) × (trail ≡ s ∷ more) × (L q ≡ Some s) × IsTrail L s.state more x
first_link L [] q x leads some = absurd (omega arith)
first_link L (s ∷ more) q x leads some = (s, more, refl, leads.0, leads.1)

-- a trail that does not end where it begins is not empty
pub trail_some : (L : ℕ → Option Step) (trail : List Step) (q x : ℕ) → IsTrail L q trail x → (q ≡ x → ⊥) → 1 ≤ length trail
trail_some L [] q x here other = absurd (other here)
trail_some L (s ∷ more) q x leads other = omega arith

module _ (kind : ArcType) (Goes : Hop → Type 0) (source : ℕ → Cost) where
  trail_of_chain : (L : ℕ → Option Step) (hops : List Hop) (q x : ℕ) → IsChain Goes L q hops x → IsTrail L q (map step_of hops) x
  trail_of_chain L [] q x here = here
  trail_of_chain L (h ∷ hops) q x chain = (chain.0.0, trail_of_chain L hops h.from x chain.1)

  pub turned_trail : (n : ℕ) (nodes : List (Node Cost)) (x : ℕ) → Turned kind Goes source n nodes x → (trail : List Step) × IsTrail (link_at nodes) x trail x × (1 ≤ length trail) × (length trail ≤ n)
  turned_trail n nodes x t = (
    map step_of (t.first ∷ t.rest),
    trail_of_chain (link_at nodes) (t.first ∷ t.rest) x x t.chain,
    omega arith,
    (let same = length-map t.rest step_of in let few = t.few in omega arith),
  )

  told_hops : (direction : Direction) (L : ℕ → Option Step) (hops : List Hop) (q x : ℕ) → IsChain Goes L q hops x → told direction q (map step_of hops) ≡ map (hop_step direction) hops
  told_hops direction L [] q x chain = refl
  told_hops direction L (h ∷ hops) q x chain = ap₂ (◌∷◌) (one direction) (told_hops direction L hops h.from x chain.1)
    where
      one : (d : Direction) → link_step d q (step_of h) ≡ hop_step d h
      one FromStart = refl
      one ToFinals = ap (λ (z : ℕ). record { state = z; place = h.place }) (sym chain.0.2)

  -- a cycle of kept hops is one that a search lists
  pub found_cycle : (direction : Direction) (n : ℕ) (nodes : List (Node Cost)) (x : ℕ) → Turned kind Goes source n nodes x → (trail : List Step) → IsTrail (link_at nodes) x trail x → 1 ≤ length trail
      → (steps : List Step) → steps ≡ in_order direction (told direction x trail) → IsFound kind Goes source direction steps
  found_cycle direction n nodes x t trail leads some steps is = by_hops c.0 c.1 c.2
    where
      c : (hops : List Hop) × IsChain Goes (link_at nodes) x hops x × (map step_of hops ≡ trail)
      c = chain_of_trail kind Goes source (distance_at nodes) (link_at nodes) t.tentative trail x x leads

      reached : (h : Hop) → Linked Goes (link_at nodes) x h → ((distance_at nodes x ≡ infinite) × (link_at nodes x ≡ None)) ⊎ Arrives kind Goes source x (distance_at nodes x) → Arrives kind Goes source x (distance_at nodes x)
      reached h linked (inl none) = absurd (let wrong : None ≡ Some (step_of h) = sym none.1 ∙ linked.0 in cc)
      reached h linked (inr a) = a

      by_hops : (hops : List Hop) → IsChain Goes (link_at nodes) x hops x → map step_of hops ≡ trail → IsFound kind Goes source direction steps
      by_hops [] chain same = absurd (let many : 0 ≡ length trail = ap length same in omega arith)
      by_hops (h ∷ hops) chain same = record {
        state = x;
        first = h;
        rest = hops;
        distance = distance_at nodes x;
        leads = back_of_chain kind Goes (link_at nodes) (h ∷ hops) x x chain;
        arrives = reached h chain.0 (t.tentative.reached x);
        better = t.tentative.cycles x h hops chain;
        same = is ∙ ap (in_order direction) (ap (told direction x) (sym same) ∙ told_hops direction (link_at nodes) (h ∷ hops) x x chain);
      }
