-- The chains of listed paths.
use Rattle.std.proofs.Common.{◌≡◌, ◌⊎◌, inl, inr, ℕ, ◌+◌, ◌<◌, ◌≤◌, suc, zero, List, [], ◌∷◌, Option, None, Some, length, map, get_or, slice_get, refl, sym, ap, subst, ◌∙◌, arith}
use Rattle.std.proofs.lemmas.Bool.{cases_lt}
use Rattle.std.proofs.lemmas.Option.{get_or_from_slice_get, slice_get_within, same_Some}
use Rattle.std.proofs.lemmas.List.{length-map, get_or_past}
use Rattle.std.proofs.lemmas.List.Sums.{sum_by-cons}
use Rattle.fst_semiring.specs.Cost.{Cost, infinite}
use Rattle.fst_semiring.specs.declared.arc_type.ArcType.{ArcType}
use Rattle.fst_machine.specs.Machine.{State, Machine, IsArc, IsMachine, valued}
use Rattle.fst_machine.specs.Graph.{Graph, graph_of, no_state}
use Rattle.fst_machine.specs.Letters.{letter_of}
use Rattle.fst_machine.specs.Paths.{IsWalk, HasSome}
use Rattle.fst_machine.specs.PathOrder.{WeightedPath}
use Rattle.fst_machine.specs.Steps.{written}
use Rattle.fst_machine.specs.declared.path.Step.{Step}
use Rattle.fst_machine.proofs.Arcs.{at_mapped}
use Rattle.fst_machine.proofs.Elements.{at_Has}
use Rattle.fst_machine.proofs.Valued.{IsMachine-valued}
use Rattle.fst_nbest.specs.Chains.{Chain, no_arc, arc_at, end_of, last_weight, chain_of, chain_at, letter_at, chained, arcs_listed, arcs_written, AreLetters, HaveLetters, IsChained}
use Rattle.fst_nbest.specs.Listing.{AreSuccessfulWalks, IsSuccessfulWalk, IsStep, AreSteps, AreAllSteps, IsWritten}
use Rattle.fst_nbest.proofs.ChainSizes.{arcs_listed-cons}
use Rattle.fst_nbest.proofs.Chained.{written_IsChained}

-- the chains of paths of a graph
abbrev pub chains_of : Graph ℕ → List (List Step) → List Chain
chains_of g paths = map (chain_of g) (map written paths)

module _ (g : Graph ℕ) where
  pub letters-count : (path : List Step) → length (chain_of g (written path)).letters ≡ length path
  letters-count path = length-map (written path) (λ (s : ℕ × ℕ). letter_of (arc_at g s)) ∙ length-map path (λ (s : Step). (s.state, s.place))

  pub chains-length : (paths : List (List Step)) → length (chains_of g paths) ≡ length paths
  chains-length paths = length-map (map written paths) (chain_of g) ∙ length-map paths written

  -- the chain of a path in its place
  pub chain_there : (paths : List (List Step)) (i : ℕ) (path : List Step) → slice_get paths i ≡ Some path → chain_at (chains_of g paths) i ≡ chain_of g (written path)
  chain_there paths i path e =
      get_or_from_slice_get (chains_of g paths) i (chain_of g (written path)) (record { letters = []; last = infinite })
      (at_mapped (chain_of g) (map written paths) i (written path) (at_mapped written paths i path e))

  -- the same where the chains are known by another name
  pub chain_seen : (paths : List (List Step)) (cs : List Chain) (i : ℕ) (path : List Step) → chains_of g paths ≡ cs → slice_get paths i ≡ Some path → chain_of g (written path) ≡ chain_at cs i
  chain_seen paths cs i path is e = sym (chain_there paths i path e) ∙ ap (λ (ds : List Chain). chain_at ds i) is

  pub path_low : (paths : List (List Step)) (cs : List Chain) (i : ℕ) → chains_of g paths ≡ cs → i < length cs → i < length paths
  path_low paths cs i is low = let count : length (chains_of g paths) ≡ length cs = ap length is in omega (arith, low, count, chains-length paths)

  pub step_low : (paths : List (List Step)) (cs : List Chain) (i k : ℕ) (path : List Step) → chains_of g paths ≡ cs → slice_get paths i ≡ Some path → k < length (chain_at cs i).letters → k < length path
  step_low paths cs i k path is e low =
      let count : length (chain_of g (written path)).letters ≡ length (chain_at cs i).letters = ap (λ (c : Chain). length c.letters) (chain_seen paths cs i path is e) in
      omega (arith, low, count, letters-count path)

  pub letter_in : (path : List Step) (i : ℕ) (s : Step) → slice_get path i ≡ Some s → slice_get (chain_of g (written path)).letters i ≡ Some (letter_of (arc_at g (s.state, s.place)))
  letter_in path i s e = at_mapped (λ (t : ℕ × ℕ). letter_of (arc_at g t)) (written path) i (s.state, s.place) (at_mapped (λ (t : Step). (t.state, t.place)) path i s e)

  pub letter_there : (path : List Step) (i : ℕ) (s : Step) → slice_get path i ≡ Some s → letter_at (chain_of g (written path)).letters i ≡ letter_of (arc_at g (s.state, s.place))
  letter_there path i s e =
      get_or_from_slice_get (chain_of g (written path)).letters i (letter_of (arc_at g (s.state, s.place))) (record { ilabel = 0; olabel = 0; weight = infinite }) (letter_in path i s e)

  -- each step of these paths is one
  pub step_there : (path : List Step) (i : ℕ) (s : Step) → AreSteps g (written path) → slice_get path i ≡ Some s → IsStep g (s.state, s.place)
  step_there path i s h e = h (s.state, s.place) (at_Has (written path) i (s.state, s.place) (at_mapped (λ (t : Step). (t.state, t.place)) path i s e))

  pub path_there : (paths : List (List Step)) (i : ℕ) (path : List Step) → AreAllSteps g (map written paths) → slice_get paths i ≡ Some path → AreSteps g (written path)
  path_there paths i path h e = h (written path) (at_Has (map written paths) i (written path) (at_mapped written paths i path e))

  -- each of these paths succeeds
  pub walk_there : (paths : List (List Step)) (i : ℕ) (path : List Step) → AreSuccessfulWalks g (map written paths) → slice_get paths i ≡ Some path → IsSuccessfulWalk g (written path)
  walk_there paths i path h e = h (written path) (at_Has (map written paths) i (written path) (at_mapped written paths i path e))

  -- where a path ends
  end_last : (p i : ℕ) (walk : List (ℕ × ℕ)) (s : ℕ × ℕ) → slice_get walk i ≡ Some s → length walk ≡ i + 1 → end_of g p walk ≡ (arc_at g s).next
  end_last p i [] s e count = absurd (cc)
  end_last p zero (t ∷ []) s e count = ap (λ (r : ℕ × ℕ). (arc_at g r).next) (same_Some t s e)
  end_last p zero (t ∷ (u ∷ walk)) s e count = absurd (omega (arith, count))
  end_last p (suc i) (t ∷ walk) s e count = end_last (arc_at g t).next i walk s e (omega (arith, count))

  pub last_is : (path : List Step) (i : ℕ) (s : Step) (w : Cost) → (g.start ≡ None → ⊥) → slice_get path i ≡ Some s → length path ≡ i + 1 → w ≡ g.final (arc_at g (s.state, s.place)).next → w ≡ (chain_of g (written path)).last
  last_is path i s w starts e count is = by_start g.start refl
    where
      by_start : (o : Option ℕ) → g.start ≡ o → w ≡ (chain_of g (written path)).last
      by_start None none = absurd (starts none)
      by_start (Some p) begins =
          is ∙ (ap g.final (sym (end_last p i (written path) (s.state, s.place) (at_mapped (λ (t : Step). (t.state, t.place)) path i s e) (length-map path (λ (t : Step). (t.state, t.place)) ∙ count)))
          ∙ ap (λ (o : Option ℕ). last_weight g o (written path)) (sym begins))

  -- the path without arcs ends in the start, if there is one
  pub last_start : (path : List Step) (start : ℕ) (w : Cost) → length path ≡ 0 → g.start ≡ Some start → w ≡ g.final start → w ≡ (chain_of g (written path)).last
  last_start [] start w e begins is = is ∙ ap (λ (o : Option ℕ). last_weight g o []) (sym begins)
  last_start (s ∷ path) start w e begins is = absurd (omega (arith, e))

  pub last_none : (path : List Step) (w : Cost) → g.start ≡ None → w ≡ infinite → w ≡ (chain_of g (written path)).last
  last_none path w none is = is ∙ ap (λ (o : Option ℕ). last_weight g o (written path)) (sym none)

  -- where a path succeeds there is a start
  pub walk_starts : (walk : List (ℕ × ℕ)) → IsSuccessfulWalk g walk → g.start ≡ None → ⊥
  walk_starts walk h none = let e : None ≡ Some h.first = sym none ∙ h.starts in cc

  has_some : {X : Type 0} (o : Option X) (P : X → Type 0) → HasSome o P → (x : X) × (o ≡ Some x) × P x
  has_some None P h = absurd h
  has_some (Some x) P h = (x, refl, h)

  -- the steps of paths that succeed are steps
  walk_steps : (p q : ℕ) (walk : List (ℕ × ℕ)) → IsWalk g p walk q → AreSteps g walk
  walk_steps p q [] leads s none = absurd none
  walk_steps p q (t ∷ walk) leads s (inl e) =
      let has = has_some (slice_get (g.arcs p) t.1) (λ a. IsWalk g a.next walk q) leads.1 in
      subst (IsStep g) e (subst (λ (n : ℕ). t.1 < length (g.arcs n)) (sym leads.0) (slice_get_within (g.arcs p) t.1 has.0 has.1))
  walk_steps p q (t ∷ walk) leads s (inr there) =
      let has = has_some (slice_get (g.arcs p) t.1) (λ a. IsWalk g a.next walk q) leads.1 in
      walk_steps has.0.next q walk has.2 s there

  pub successful_steps : (walk : List (ℕ × ℕ)) → IsSuccessfulWalk g walk → AreSteps g walk
  successful_steps walk h = walk_steps h.first h.last walk h.leads

  pub all_steps : (walks : List (List (ℕ × ℕ))) → AreSuccessfulWalks g walks → AreAllSteps g walks
  all_steps walks h walk there = successful_steps walk (h walk there)

  -- the chains have as many letters as the paths have arcs
  pub listed_written : (paths : List (List Step)) → arcs_listed (chains_of g paths) ≡ arcs_written paths
  listed_written [] = refl
  listed_written (path ∷ paths) =
      let one = arcs_listed-cons (chain_of g (written path)) (chains_of g paths) in
      let two = sum_by-cons (λ (p : List Step). length p) path paths in
      omega (arith, one, two, letters-count path, listed_written paths)

-- ---- their letters are those of a machine

-- the arc of a step of a machine is good
step_good : (m : Machine Cost) (s : ℕ × ℕ) → IsMachine (λ v. v) m → IsStep (graph_of m) s → IsArc (λ v. v) (length m.states) (arc_at (graph_of m) s)
step_good m s good low = by_order (cases_lt s.0 (length m.states))
  where
    by_order : (s.0 < length m.states) ⊎ (length m.states ≤ s.0) → IsArc (λ v. v) (length m.states) (arc_at (graph_of m) s)
    by_order (inl inside) = good.arcs s.0 no_state inside s.1 (no_arc s.0) low
    by_order (inr past) =
        let none : length (get_or m.states s.0 no_state).arcs ≡ 0 = ap (λ (t : State Cost). length t.arcs) (get_or_past m.states s.0 no_state past) in
        absurd (omega (arith, none, low))

module _ (m : Machine Cost) (good : IsMachine (λ v. v) m) where
  walk_letters : (walk : List (ℕ × ℕ)) → AreSteps (graph_of m) walk → AreLetters (map (λ (s : ℕ × ℕ). letter_of (arc_at (graph_of m) s)) walk)
  walk_letters [] h = tt
  walk_letters (s ∷ walk) h =
      let a = step_good m s good (h s (inl refl)) in
      (record { ilabel = a.ilabel; olabel = a.olabel; weight = a.weight }, walk_letters walk (λ r there. h r (inr there)))

  have_letters : (walks : List (List (ℕ × ℕ))) → AreAllSteps (graph_of m) walks → HaveLetters (map (chain_of (graph_of m)) walks)
  have_letters [] h = tt
  have_letters (walk ∷ walks) h = (walk_letters walk (h walk (inl refl)), have_letters walks (λ w there. h w (inr there)))

pub letters_there : {V : Type 0} (value : V → Cost) (m : Machine V) (paths : List (List Step)) → IsMachine value m → AreSuccessfulWalks (graph_of (valued value m)) (map written paths)
    → HaveLetters (chains_of (graph_of (valued value m)) paths)
letters_there value m paths good h = have_letters (valued value m) (IsMachine-valued value m good) (map written paths) (all_steps (graph_of (valued value m)) (map written paths) h)

-- the machine of these chains has their paths
pub chains_IsChained : (kind : ArcType) (g : Graph ℕ) (paths : List (List Step)) (m : Machine Cost) → m ≡ chained (chains_of g paths)
    → (listed : List (WeightedPath ℕ)) → IsWritten kind g listed (map written paths) → IsChained kind listed (graph_of m)
chains_IsChained kind g paths m is listed h = subst (λ (n : Machine Cost). IsChained kind listed (graph_of n)) (sym is) (written_IsChained kind g listed (map written paths) h)
