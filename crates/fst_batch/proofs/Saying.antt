-- What the first paths of a machine say, and the answer that is told of them.
use Rattle.std.proofs.Common.{◌≡◌, inl, inr, ℕ, ◌≤◌, List, [], ◌∷◌, ◌++◌, Some, map, slice_get, refl, sym, ap, ap₂, ◌∙◌, subst}
use Rattle.fst_semiring.specs.Cost.{Cost}
use Rattle.fst_semiring.specs.Semiring.{InRange, times}
use Rattle.fst_semiring.specs.declared.arc_type.ArcType.{ArcType}
use Rattle.fst_machine.specs.BreadthFirst.{Has, IsBreadthFirst}
use Rattle.fst_machine.specs.Cycles.{IsUseful}
use Rattle.fst_machine.specs.Graph.{Graph, graph_of}
use Rattle.fst_machine.specs.Letters.{Letter, output, product}
use Rattle.fst_machine.specs.Machine.{Machine, most_arcs}
use Rattle.fst_machine.specs.Numbering.{IsNumbered}
use Rattle.fst_machine.specs.PathOrder.{IsFirst, WeightedPath}
use Rattle.fst_machine.specs.Paths.{letters, places}
use Rattle.fst_machine.specs.Relation.{IsSuccessful}
use Rattle.fst_machine.proofs.PathParts.{walk_of_path}
use Rattle.fst_walk.specs.Making.{IsReached, arcs_of}
use Rattle.fst_machine.specs.declared.path.Step.{Step}
use Rattle.fst_search.specs.Distances.{NoneImproves}
use Rattle.fst_search.specs.Distances.{IsListed as IsCycle}
use Rattle.fst_delayed.specs.Graphs.{delayed_graph}
use Rattle.fst_delayed.specs.Handed.{Name}
use Rattle.fst_nbest.specs.Chains.{Chain, chain_of}
use Rattle.fst_nbest.specs.FirstPaths.{AreFirstPaths}
use Rattle.fst_nbest.specs.Listing.{AreAllSteps, AreSuccessfulWalks, IsSuccessfulWalk}
use Rattle.fst_nbest.proofs.Chained.{path_last, path_letters}
use Rattle.fst_nbest.proofs.PathChains.{all_steps}
use Rattle.fst_delayed.proofs.Keys.{Has-map}
use Rattle.fst_lattice.specs.Lattice.{HasNoZero, Point, lattice}
use Rattle.fst_batch.specs.BestPaths.{Improves, first_not_text, labels_of, told_of}
use Rattle.fst_batch.specs.Answers.{IsAnswer}
use Rattle.fst_batch.specs.Building.{AnswersWhole}
use Rattle.fst_batch.specs.Filling.{IsMadeOf}
use Rattle.fst_batch.specs.ToldChains.{AreInRange, Tells, chain_labels, chain_told, chain_weight}
use Rattle.fst_batch.specs.declared.fault.LineFault.TheVariants.{BadByte, ImprovingCycle, NotText, Overflow, StateLimit, TooManyArcs}
use Rattle.fst_batch.specs.declared.answer.LineAnswer.{LineAnswer}
use Rattle.fst_batch.specs.declared.answer.LineAnswer.TheVariants.{Listed, Refused}
use Rattle.fst_batch.proofs.Numbered.{mapped_Has, name_of, named_first, named_improves, numbered_improves, renamed_labels, renamed_path, renamed_told}
use Rattle.fst_batch.proofs.Settling.{cycle_answer, great_answer, listed_answer, text_answer}

module _ {N : Type 0} (kind : ArcType) (g : Graph N) where
  -- a successful path is said by its chain
  chain_says : (a : WeightedPath N) → IsSuccessful kind g a.path a.weight → ((chain_of g (places a.path)).letters ≡ letters a.path) × (chain_weight kind (chain_of g (places a.path)) ≡ a.weight)
  chain_says a h =
      let said = path_letters g a.path h.first h.last h.leads in
      (said, ap₂ (λ (ls : List Letter) (w : Cost). times kind (product kind ls) w) said (path_last kind g a.path a.weight h) ∙ sym h.weight)

  abbrev chains : List (WeightedPath N) → List Chain
  chains listed = map (chain_of g) (map (λ (a : WeightedPath N). places a.path) listed)

  abbrev AllSucceed : List (WeightedPath N) → Type 0
  AllSucceed listed = (a : WeightedPath N) → Has listed a → IsSuccessful kind g a.path a.weight

  chains_told : (listed : List (WeightedPath N)) → AllSucceed listed → map (chain_told kind) (chains listed) ≡ map told_of listed
  chains_told [] all = refl
  chains_told (a ∷ listed) all =
      let s = chain_says a (all a (inl refl)) in
      ap₂ (◌∷◌) (λ i. record { weight = s.1 i; text = output (s.0 i) }) (chains_told listed (λ b h. all b (inr h)))

  chains_labels : (listed : List (WeightedPath N)) → AllSucceed listed → chain_labels (chains listed) ≡ labels_of listed
  chains_labels [] all = refl
  chains_labels (a ∷ listed) all = ap₂ (λ (ls : List Letter) (rest : List ℕ). output ls ++ rest) (chain_says a (all a (inl refl))).0 (chains_labels listed (λ b h. all b (inr h)))

  chain_listed : (listed : List (WeightedPath N)) → AllSucceed listed → (c : Chain) → Has (chains listed) c → (a : WeightedPath N) × Has listed a × (chain_weight kind c ≡ a.weight)
  chain_listed listed all c h =
      let walk = mapped_Has (chain_of g) (map (λ (a : WeightedPath N). places a.path) listed) c h in
      let path = mapped_Has (λ (a : WeightedPath N). places a.path) listed walk.0 walk.1 in
      let same : chain_of g (places path.0.path) ≡ c = ap (chain_of g) path.2 ∙ walk.2 in
      (path.0, path.1, ap (chain_weight kind) (sym same) ∙ (chain_says path.0 (all path.0 path.1)).1)

  listed_range : (listed : List (WeightedPath N)) → AllSucceed listed → AreInRange kind (chains listed) → (a : WeightedPath N) → Has listed a → InRange a.weight
  listed_range listed all range a h =
      let there = Has-map (chain_of g) (map (λ (b : WeightedPath N). places b.path) listed) (places a.path) (Has-map (λ (b : WeightedPath N). places b.path) listed a h) in
      subst InRange (chain_says a (all a h)).1 (range (chain_of g (places a.path)) there)

-- the steps of the first paths are steps
pub first_steps : (kind : ArcType) (g : Graph ℕ) (n : ℕ) (walks : List (List (ℕ × ℕ))) → AreFirstPaths kind g n walks → AreAllSteps g walks
first_steps kind g n walks r = all_steps g walks succeed
  where
    walked : (a : WeightedPath ℕ) → IsSuccessful kind g a.path a.weight → IsSuccessfulWalk g (places a.path)
    walked a s = record { first = s.first; last = s.last; starts = s.starts; leads = walk_of_path g a.path s.first s.last s.leads; final = s.final }

    succeed : AreSuccessfulWalks g walks
    succeed walk h =
        let path = mapped_Has (λ (a : WeightedPath ℕ). places a.path) r.listed walk (subst (λ (ws : List (List (ℕ × ℕ))). Has ws walk) (sym r.written) h) in
        subst (IsSuccessfulWalk g) path.2 (walked path.0 (r.first.successful path.0 path.1))

module _ {N V : Type 0} (kind : ArcType) (value : V → Cost) (g : Graph N) (n limit : ℕ) (line : List ℕ) (clear : HasNoZero line) (names : List (Point N)) (reached : IsReached (lattice line g) limit names)
    (few : arcs_of (lattice line g) names ≤ most_arcs) (none : Improves kind (lattice line g) → ⊥) (m : Machine Cost) (numbered : IsNumbered (lattice line g) names m)
    (start : Point N) (begins : slice_get names 0 ≡ Some start) (walks : List (List (ℕ × ℕ))) (r : AreFirstPaths kind (graph_of m) n walks) where
  abbrev called : WeightedPath ℕ → WeightedPath (Point N)
  called = renamed_path (name_of kind (lattice line g) names m numbered start begins)

  first : IsFirst kind (lattice line g) n (map called r.listed)
  first = named_first kind (lattice line g) names m numbered start begins n r.listed r.first

  over : {X : Type 0} (F : List Chain → X) → F (map (chain_of (graph_of m)) walks) ≡ F (chains kind (graph_of m) r.listed)
  over F = ap (λ (ws : List (List (ℕ × ℕ))). F (map (chain_of (graph_of m)) ws)) (sym r.written)

  range_of : AreInRange kind (map (chain_of (graph_of m)) walks) → (b : WeightedPath (Point N)) → Has (map called r.listed) b → InRange b.weight
  range_of range b has =
      let a = mapped_Has called r.listed b has in
      let own : AreInRange kind (chains kind (graph_of m) r.listed) = subst (λ (ws : List (List (ℕ × ℕ))). AreInRange kind (map (chain_of (graph_of m)) ws)) (sym r.written) range in
      subst (λ (c : WeightedPath (Point N)). InRange c.weight) a.2 (listed_range kind (graph_of m) r.listed r.first.successful own a.0 a.1)

  labels_are : labels_of (map called r.listed) ≡ chain_labels (map (chain_of (graph_of m)) walks)
  labels_are = renamed_labels (name_of kind (lattice line g) names m numbered start begins) r.listed ∙ (sym (chains_labels kind (graph_of m) r.listed r.first.successful) ∙ sym (over chain_labels))

  told_are : map (chain_told kind) (map (chain_of (graph_of m)) walks) ≡ map told_of (map called r.listed)
  told_are = over (map (chain_told kind)) ∙ (chains_told kind (graph_of m) r.listed r.first.successful ∙ sym (renamed_told (name_of kind (lattice line g) names m numbered start begins) r.listed))

  -- what is told of the chains of the first paths of the machine is the answer
  pub told_answer : (a : LineAnswer V) → Tells kind value (map (chain_of (graph_of m)) walks) a → IsAnswer kind g n limit line value a
  told_answer (Listed told) h =
      listed_answer kind value g n limit line clear names reached few none (map called r.listed) first (range_of h.0) told (ap first_not_text labels_are ∙ h.1) (h.2 ∙ told_are)
  told_answer (Refused BadByte) h = absurd h
  told_answer (Refused (StateLimit most)) h = absurd h
  told_answer (Refused TooManyArcs) h = absurd h
  told_answer (Refused ImprovingCycle) h = absurd h
  told_answer (Refused Overflow) h =
      let own : Has (chains kind (graph_of m) r.listed) h.0 = subst (λ (ws : List (List (ℕ × ℕ))). Has (map (chain_of (graph_of m)) ws) h.0) (sym r.written) h.1 in
      let a = chain_listed kind (graph_of m) r.listed r.first.successful h.0 own in
      great_answer kind value g n limit line clear names reached few none (map called r.listed) first (called a.0) (Has-map called r.listed a.0 a.1) (λ range. h.2 (subst InRange (sym a.2) range))
  told_answer (Refused (NotText label)) h =
      text_answer kind value g n limit line clear names reached few none (map called r.listed) first (range_of h.0) label (ap first_not_text labels_are ∙ h.1)

-- ---- the machine of a whole lattice

module _ {V : Type 0} (kind : ArcType) (value : V → Cost) (d : Machine V × Machine V) (n : ℕ) (line : List ℕ) (points : List (Point (Name ℕ ℕ))) (start : Point (Name ℕ ℕ))
    (listed : IsBreadthFirst (lattice line (delayed_graph kind value d)) start points) (m : Machine Cost) (made : IsMadeOf (lattice line (delayed_graph kind value d)) points m) where
  abbrev G : Graph (Name ℕ ℕ)
  G = delayed_graph kind value d

  -- where it has an improving cycle, so has the lattice
  pub whole_cycle : (cycle : List Step) → IsCycle kind (graph_of m) (IsUseful (graph_of m)) cycle → AnswersWhole kind value d n line points (Refused ImprovingCycle)
  whole_cycle cycle h limit clear reached =
      cycle_answer kind value G n limit line clear points reached made.few (named_improves kind (lattice line G) points m made.numbered start listed.begins h.state h.cycle h.counts h.improves)

  -- where it has none, what is told of its first paths is the answer
  pub whole_told : (walks : List (List (ℕ × ℕ))) → AreFirstPaths kind (graph_of m) n walks → NoneImproves kind (graph_of m) (IsUseful (graph_of m)) → (a : LineAnswer V) → Tells kind value (map (chain_of (graph_of m)) walks) a → AnswersWhole kind value d n line points a
  whole_told walks r none a tells limit clear reached =
      told_answer kind value G n limit line clear points reached made.few no_cycle m made.numbered start listed.begins walks r a tells
    where
      no_cycle : Improves kind (lattice line G) → ⊥
      no_cycle improves =
          let found = numbered_improves kind (lattice line G) points m made.numbered start listed.begins listed.apart improves in
          none found.0 found.1 found.2 found.3
