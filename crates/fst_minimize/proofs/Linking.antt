-- From described states to their behaviour: the graph of the arcs by labels, in which rounds refine, behaves as the graph
-- of the machine.
use Rattle.std.proofs.Common.{◌≡◌, ◌⊎◌, inl, inr, ℕ, ◌<◌, ◌≤◌, suc, List, [], ◌∷◌, None, Some, length, get_or, slice_get, sym, refl, ap, ap₂, ◌∙◌, subst, arith}
use Rattle.std.proofs.lemmas.Bool.{cases_lt}
use Rattle.std.proofs.lemmas.List.{get_or_past, length-map}
use Rattle.std.proofs.lemmas.List.Sorted.{IsPermutation-sym}
use Rattle.std.proofs.lemmas.Option.{slice_get-get_or, slice_get_within, get_or_from_slice_get, same_Some}
use Rattle.fst_semiring.specs.Cost.{Cost}
use Rattle.fst_machine.specs.Machine.{Arc, Machine}
use Rattle.fst_machine.specs.Graph.{Graph, graph_of, nexts}
use Rattle.fst_machine.proofs.Arcs.{at_mapped, mapped_at}
use Rattle.fst_machine.proofs.Cycles.{state_below}
use Rattle.fst_machine.proofs.Elements.{Apart_at}
use Rattle.fst_trim.specs.WordWeights.{IsSingle}
use Rattle.fst_minimize.specs.Behaviour.{Alike, GoesOn, Follows}
use Rattle.fst_minimize.specs.Refining.{spelling, IsRefined}
use Rattle.fst_minimize.specs.Saying.{IsByLabel, SaysArcs, weight_key}
use Rattle.fst_minimize.specs.Numbered.{number_in, RowsBelow, AreRows, TellsBehaviour}
use Rattle.fst_minimize.specs.Described.{IsDescription, OncePlacedAll}
use Rattle.fst_minimize.proofs.Moved.{moved_to}
use Rattle.fst_minimize.proofs.Stable.{followed, stable_alike}
use Rattle.fst_minimize.proofs.Refining.{first_refined, EndsBelow}
use Rattle.fst_minimize.proofs.Said.{LabelsSame, says_spelling, spelling_says}
use Rattle.fst_minimize.proofs.WeightKeys.{key_once}

-- what is asked of each arc holds of each in turn
labels_same : (arcs : List (Arc Cost ℕ)) → ((k : ℕ) (a : Arc Cost ℕ) → slice_get arcs k ≡ Some a → a.olabel ≡ a.ilabel) → LabelsSame arcs
labels_same [] all = tt
labels_same (a ∷ arcs) all = (all 0 a refl, labels_same arcs (λ k b e. all (suc k) b e))

-- A described machine in which no label of a state stands twice, each state goes on, and labels of an arc are equal.
module _ (m : Machine Cost) (numbers least : List ℕ) (rows : List (List ℕ)) (d : IsDescription (graph_of m) (length m.states) numbers least rows)
    (once : OncePlacedAll (graph_of m)) (goes : GoesOn (graph_of m)) (next : (p k : ℕ) (a : Arc Cost ℕ) → slice_get ((graph_of m).arcs p) k ≡ Some a → a.next < length m.states)
    (acceptor : (p k : ℕ) (a : Arc Cost ℕ) → slice_get ((graph_of m).arcs p) k ≡ Some a → a.olabel ≡ a.ilabel) where
  -- the graph of the arcs by labels
  abbrev pub sorted_graph : Graph ℕ
  sorted_graph = record { start = m.start; arcs = λ p. get_or d.sorted p []; final = λ p. (graph_of m).final p }

  sorted_at : (p : ℕ) → p < length m.states → slice_get d.sorted p ≡ Some (sorted_graph.arcs p)
  sorted_at p low = let s = d.described.size in slice_get-get_or d.sorted p [] (omega arith)

  sorted_by : (p : ℕ) → p < length m.states → IsByLabel ((graph_of m).arcs p) (sorted_graph.arcs p)
  sorted_by p low = d.described.by_label p (sorted_graph.arcs p) (sorted_at p low)

  -- a number with an arc is that of a state
  sorted_below : (p k : ℕ) (a : Arc Cost ℕ) → slice_get (sorted_graph.arcs p) k ≡ Some a → p < length m.states
  sorted_below p k a has = by (cases_lt p (length m.states))
    where
      by : (p < length m.states) ⊎ (length m.states ≤ p) → p < length m.states
      by (inl low) = low
      by (inr past) = absurd (let s = d.described.size in let none : sorted_graph.arcs p ≡ [] = get_or_past d.sorted p [] (omega arith) in let e : None ≡ Some a = sym (ap (λ (xs : List (Arc Cost ℕ)). slice_get xs k) none) ∙ has in cc)

  -- each arc stands in both graphs
  there : (p k : ℕ) (a : Arc Cost ℕ) → slice_get ((graph_of m).arcs p) k ≡ Some a → (j : ℕ) × (slice_get (sorted_graph.arcs p) j ≡ Some a)
  there p k a has = moved_to ((graph_of m).arcs p) (sorted_graph.arcs p) k a (sorted_by p (state_below m p k a has)).same has

  back : (p k : ℕ) (a : Arc Cost ℕ) → slice_get (sorted_graph.arcs p) k ≡ Some a → (j : ℕ) × (slice_get ((graph_of m).arcs p) j ≡ Some a)
  back p k a has =
      let low = sorted_below p k a has in
      moved_to (sorted_graph.arcs p) ((graph_of m).arcs p) k a (IsPermutation-sym ((graph_of m).arcs p) (sorted_graph.arcs p) (sorted_by p low).same) has

  abbrev Same : ℕ → ℕ → Type 0
  Same p q = p ≡ q

  follows_there : (p q k : ℕ) (a : Arc Cost ℕ) → Same p q → slice_get ((graph_of m).arcs p) k ≡ Some a → Follows Same a (sorted_graph.arcs q)
  follows_there p q k a same has =
      let o = there p k a has in
      record { place = o.0; arc = a; has = subst (λ (r : ℕ). slice_get (sorted_graph.arcs r) o.0 ≡ Some a) same o.1; same = refl; tied = refl }

  follows_back : (p q k : ℕ) (b : Arc Cost ℕ) → Same p q → slice_get (sorted_graph.arcs q) k ≡ Some b → Follows (λ x y. Same y x) b ((graph_of m).arcs p)
  follows_back p q k b same has =
      let o = back q k b has in
      record { place = o.0; arc = b; has = subst (λ (r : ℕ). slice_get ((graph_of m).arcs r) o.0 ≡ Some b) (sym same) o.1; same = refl; tied = refl }

  -- a state behaves the same in both
  same_alike : (p : ℕ) → Alike (graph_of m) sorted_graph p p
  same_alike p = stable_alike (graph_of m) sorted_graph Same (record { final = (λ x y e. ap (graph_of m).final e); there = follows_there; back = follows_back }) p p refl

  pub alike_there : (p q : ℕ) → Alike (graph_of m) (graph_of m) p q → Alike sorted_graph sorted_graph p q
  alike_there p q alike ls w = ((λ b. (same_alike q ls w).0 ((alike ls w).0 ((same_alike p ls w).1 b))), (λ b. (same_alike p ls w).0 ((alike ls w).1 ((same_alike q ls w).1 b))))

  pub alike_back : (p q : ℕ) → Alike sorted_graph sorted_graph p q → Alike (graph_of m) (graph_of m) p q
  alike_back p q alike ls w = ((λ b. (same_alike q ls w).1 ((alike ls w).0 ((same_alike p ls w).0 b))), (λ b. (same_alike p ls w).1 ((alike ls w).1 ((same_alike q ls w).0 b))))

  sorted_single : IsSingle sorted_graph
  sorted_single p i j a b one two label =
      let x = back p i a one in
      let y = back p j b two in
      let place = once p x.0 y.0 a b x.1 y.1 label in
      same_Some a b (sym x.1 ∙ (ap (slice_get ((graph_of m).arcs p)) place ∙ y.1))

  sorted_goes : GoesOn sorted_graph
  sorted_goes p k a has =
      let o = back p k a has in
      let f = goes p o.0 a o.1 in
      let path = followed (graph_of m) sorted_graph Same follows_there a.next f.last a.next f.path refl f.leads in
      record { last = path.1; path = path.0; leads = path.2; final = (λ e. f.final (ap (graph_of m).final path.4 ∙ e)) }

  -- the rows are those of the graph
  pub sorted_rows : AreRows sorted_graph (length m.states) rows
  sorted_rows = record {
    size = ap length d.described.rows_are ∙ (length-map d.sorted nexts ∙ d.described.size);
    row = λ p low. ap (λ rs. slice_get rs p) d.described.rows_are ∙ at_mapped nexts d.sorted p (sorted_graph.arcs p) (sorted_at p low);
    single = sorted_single;
    goes = sorted_goes;
    ascend = λ p low. (sorted_by p low).ascend;
  }

  sorted_within : (p : ℕ) → p < length m.states → EndsBelow (length m.states) (sorted_graph.arcs p)
  sorted_within p low k a has = let o = back p k a has in next p o.0 a o.1

  pub rows_below : RowsBelow (length m.states) rows
  rows_below p r e i q low =
      let from = mapped_at nexts d.sorted p r (ap (λ rs. slice_get rs p) (sym d.described.rows_are) ∙ e) in
      let arcs : from.0 ≡ sorted_graph.arcs p = sym (get_or_from_slice_get d.sorted p from.0 [] from.1) in
      let s = d.described.size in
      let within : p < length m.states = let l = slice_get_within d.sorted p from.0 from.1 in omega arith in
      let row : nexts (sorted_graph.arcs p) ≡ r = ap nexts (sym arcs) ∙ from.2 in
      let here = slice_get-get_or r i q low in
      let arc = mapped_at (λ (a : Arc Cost ℕ). a.next) (sorted_graph.arcs p) i (get_or r i q) (ap (λ xs. slice_get xs i) row ∙ here) in
      subst (λ (x : ℕ). x < length m.states) arc.2 (sorted_within p within i arc.0 arc.1)

  -- what the first numbers tell
  number_at : (p : ℕ) → p < length m.states → slice_get numbers p ≡ Some (number_in numbers p)
  number_at p low = let a = d.tells.size in let b = d.described.sizes in slice_get-get_or numbers p 0 (omega arith)

  accepts : (p : ℕ) → LabelsSame (sorted_graph.arcs p)
  accepts p = labels_same (sorted_graph.arcs p) (λ k a has. let o = back p k a has in acceptor p o.0 a o.1)

  pub first_is_refined : IsRefined sorted_graph (length m.states) (number_in numbers)
  first_is_refined = first_refined sorted_graph (length m.states) sorted_single sorted_goes (λ p low. (sorted_by p low).ascend) sorted_within (number_in numbers) same other
    where
      same : (p q : ℕ) → p < length m.states → q < length m.states → number_in numbers p ≡ number_in numbers q → (sorted_graph.final p ≡ sorted_graph.final q) × (spelling (sorted_graph.arcs p) ≡ spelling (sorted_graph.arcs q))
      same p q low less e =
          let x = d.described.said p (sorted_graph.arcs p) (sorted_at p low) in
          let y = d.described.said q (sorted_graph.arcs q) (sorted_at q less) in
          let rows_same = d.tells.same p q (number_in numbers p) (number_at p low) (number_at q less ∙ ap Some (sym e)) in
          let pairs = same_Some (y.0, y.1) (x.0, x.1) (sym y.2 ∙ (sym rows_same ∙ x.2)) in
          let head : y.0 ≡ x.0 = ap (λ (z : ℕ × List ℕ). z.0) pairs in
          let said : y.1 ≡ x.1 = ap (λ (z : ℕ × List ℕ). z.1) pairs in
          let final = key_once (sorted_graph.final p) (sorted_graph.final q) (same_Some (weight_key (sorted_graph.final p)) (weight_key (sorted_graph.final q)) (sym x.3.0 ∙ (ap (slice_get d.keys) (sym head) ∙ y.3.0))) in
          (final, says_spelling d.keys (sorted_graph.arcs p) (sorted_graph.arcs q) x.1 (accepts p) (accepts q) x.3.1 (subst (SaysArcs d.keys (sorted_graph.arcs q)) said y.3.1))

      other : (p q : ℕ) → p < length m.states → q < length m.states → sorted_graph.final p ≡ sorted_graph.final q → spelling (sorted_graph.arcs p) ≡ spelling (sorted_graph.arcs q) → number_in numbers p ≡ number_in numbers q
      other p q low less final letters =
          let x = d.described.said p (sorted_graph.arcs p) (sorted_at p low) in
          let y = d.described.said q (sorted_graph.arcs q) (sorted_at q less) in
          let head = Apart_at d.keys x.0 y.0 (weight_key (sorted_graph.final q)) d.described.apart (x.3.0 ∙ ap (λ v. Some (weight_key v)) final) y.3.0 in
          let said = spelling_says d.keys (sorted_graph.arcs p) (sorted_graph.arcs q) x.1 y.1 d.described.apart letters x.3.1 y.3.1 in
          d.tells.other p q (number_in numbers p) (number_in numbers q) (number_at p low) (number_at q less) (x.2 ∙ (ap₂ (λ h s. Some (h, s)) head said ∙ sym y.2))

  -- numbers that tell the behaviour there tell it in the machine
  pub tells_back : (last : List ℕ) → TellsBehaviour sorted_graph (length m.states) last → TellsBehaviour (graph_of m) (length m.states) last
  tells_back last t = record {
    size = t.size;
    same = λ p q low less e. alike_back p q (t.same p q low less e);
    other = λ p q low less alike. t.other p q low less (alike_there p q alike);
  }
