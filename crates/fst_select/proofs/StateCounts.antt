-- The counts of arcs that are kept of states are counts of labels.
use Rattle.std.proofs.Common.{◌≡◌, ◌≢◌, ◌⊎◌, inl, inr, ℕ, ◌-◌, ◌<◌, ◌≤◌, Bool, true, cond, List, [], ◌∷◌, length, map, refl, sym, ap, subst, ◌∙◌, arith}
use Rattle.std.proofs.lemmas.Bool.{cases_lt, lt-ltb}
use Rattle.std.proofs.lemmas.List.{get_or_past, length-map}
use Rattle.fst_semiring.specs.Cost.{Cost, infinite, plus}
use Rattle.fst_semiring.specs.declared.arc_type.ArcType.{ArcType}
use Rattle.fst_semiring.specs.declared.arc_type.ArcType.TheVariants.{MinMax}
use Rattle.fst_semiring.specs.Semiring.{times}
use Rattle.fst_semiring.proofs.Order.{plus_comm, plus_infinite}
use Rattle.fst_machine.specs.Cycles.{IsAccessible}
use Rattle.fst_machine.specs.Distance.{Finishes, IsFinalDistance}
use Rattle.fst_machine.specs.Graph.{Graph, graph_of}
use Rattle.fst_machine.specs.Letters.{label_word, product}
use Rattle.fst_machine.specs.Machine.{IsMachine, Machine, valued}
use Rattle.fst_machine.specs.PathOrder.{arc_places}
use Rattle.fst_machine.specs.Paths.{IsPath, Transition, letters}
use Rattle.fst_trim.specs.WordWeights.{Weighs}
use Rattle.fst_determinize.proofs.Spelling.{word_length}
use Rattle.fst_nbest.specs.Classes.{IsClassLink, IsClassReady, IsClassStop, class_links, is_reached, state_at}
use Rattle.fst_nbest.specs.Counts.{Ends, Hops, count_of}
use Rattle.fst_nbest.specs.PathWords.{AreDistances, path_words}
use Rattle.fst_nbest.specs.Ready.{HasDistances, IsReady, count_in, dist_in}
use Rattle.fst_nbest.specs.Words.{Says}
use Rattle.fst_nbest.proofs.ClassWords.{ends_path, path_ends}
use Rattle.fst_nbest.proofs.PathWords.{best_path, path_says, says_path}
use Rattle.fst_nbest.proofs.Worst.{Meant}
use Rattle.fst_select.specs.Counting.{IsStateCount}

-- a path has as many labels as places
labels_places : {N : Type 0} (path : List (Transition N)) → length (label_word (letters path)) ≡ length (arc_places path)
labels_places path = word_length path ∙ sym (length-map path (λ (t : Transition _). t.place))

-- a weight that is no worse than one that is not Zero is not Zero
pub not_zero_below : (w total : Cost) → plus w total ≡ w → total ≢ infinite → w ≢ infinite
not_zero_below w total low solid none = solid (sym (plus_infinite total) ∙ (plus_comm total infinite ∙ (ap (λ (c : Cost). plus c total) (sym none) ∙ (low ∙ none))))

module _ {N : Type 0} (kind : ArcType) (g : Graph N) (dist : N → Cost) (exact : AreDistances kind g dist) where
  kept_on : (path : List (Transition N)) (p q : N) → IsPath g p path q → exact.kept p ≡ true → exact.kept q ≡ true
  kept_on [] p q here kept = subst (λ (n : N). exact.kept n ≡ true) here kept
  kept_on (t ∷ path) p q leads kept = kept_on path t.arc.next q leads.1 (exact.along p t.place t.arc kept leads.0.1)

  -- the distance of each name that the start reaches is exact
  pub far : (q : N) → IsAccessible g q → IsFinalDistance kind g q (dist q)
  far q a = exact.here q (kept_on a.path a.first q a.leads (exact.start a.first a.starts))

module _ {V D : Type 0} (kind : ArcType) (value : V → Cost) (wide : D → Cost) (known : V → Type 0) (m : Machine V) (dist : List D) where
  -- where factors cancel, the count of a state is that of the labels of a best way on
  pub ready_counts : (count : List ℕ) → IsReady kind value wide known m dist count → (q : ℕ) → (dist_in wide dist q ≢ infinite)
      → IsStateCount kind (graph_of (valued value m)) (λ u. u ≡ dist_in wide dist q) q (count_in count q)
  ready_counts count h q some =
      let g = graph_of (valued value m) in
      let d = dist_in wide dist in
      let counted = h.counts q some in
      let way = says_path kind g d q counted.word (d q) counted.says in
      record {
        rest = label_word (letters way.0);
        weight = d q;
        completes = record { path = way.0; last = way.1; leads = way.2; final = way.3; word = refl; weight = way.5 };
        counts = refl;
        long = labels_places way.0 ∙ (ap length way.4 ∙ counted.long);
        least = λ other u w is. no_longer counted.word counted.long other u w is counted.least;
      }
    where
      no_longer : {c : ℕ} (word : List ℕ) → length word ≡ c → (other : List ℕ) (u : Cost) → Weighs kind (graph_of (valued value m)) q other u → u ≡ dist_in wide dist q
          → ((x : List ℕ) → Says kind (path_words (graph_of (valued value m)) (dist_in wide dist)) q x (dist_in wide dist q) → c ≤ length x) → c ≤ length other
      no_longer word long other u w is least =
          let g = graph_of (valued value m) in
          let d = dist_in wide dist in
          let there = (best_path kind g d h.measured.exact h.measured.firm q some).0 in
          let says = path_says kind g d h.measured.exact h.measured.firm q w.last w.path there w.leads w.final in
          let few = least (arc_places w.path) (subst (λ (v : Cost). Says kind (path_words g d) q (arc_places w.path) v) (sym w.weight ∙ is) says) in
          let same : length other ≡ length (arc_places w.path) = ap length w.word ∙ labels_places w.path in
          omega (arith, few, same)

  -- a state at a distance that is not Zero is one of the machine
  pub distant_low : HasDistances kind value wide known m dist → (q : ℕ) → (dist_in wide dist q ≢ infinite) → q < length m.states
  distant_low h q some = by (cases_lt q (length m.states))
    where
      by : (q < length m.states) ⊎ (length m.states ≤ q) → q < length m.states
      by (inl low) = low
      by (inr past) = absurd (some (get_or_past (map wide dist) q infinite (let many = length-map dist wide in let size = h.dist_size in omega (arith, many, size, past))))

-- Where a product is the worse of two weights, the count of a state from which a way on is no worse than the total is that of
-- the labels of such a way.
module _ {V : Type 0} (value : V → Cost) (known : V → Type 0) (m : Machine V) (good : IsMachine value m) (total : Cost) (counts : List ℕ) (h : IsClassReady value known m total counts) where
  -- below the number of states a name is a state, with the total reached
  reached : (q : ℕ) → q < length m.states → is_reached (length m.states) q ≡ true
  reached q low = lt-ltb q (length m.states) low

  at_state : (q : ℕ) → q < length m.states → state_at (length m.states) q ≡ q
  at_state q low = ap (λ (b : Bool). cond b q (q - length m.states)) (reached q low)

  -- a way on that is no worse than the total is counted
  counted : (q : ℕ) → q < length m.states → (rest : List ℕ) (u : Cost) → Weighs MinMax (graph_of (valued value m)) q rest u → plus u total ≡ u
      → Ends (IsClassStop value m total) (Hops (class_links m) (IsClassLink value (length m.states) total)) q (length rest)
  counted q low rest u w under =
      let g = graph_of (valued value m) in
      let n = length m.states in
      let weight = times MinMax (product MinMax (letters w.path)) (g.final w.last) in
      let meant : Meant total (is_reached n q) weight = subst (λ (b : Bool). Meant total b weight) (sym (reached q low)) (subst (λ (v : Cost). plus v total ≡ v) w.weight under) in
      let leads : IsPath g (state_at n q) w.path w.last = subst (λ (p : ℕ). IsPath g p w.path w.last) (sym (at_state q low)) w.leads in
      let ends = path_ends value m good total h.class.solid w.path q w.last leads w.final (omega (arith, low)) meant in
      subst (λ (k : ℕ). Ends (IsClassStop value m total) (Hops (class_links m) (IsClassLink value (length m.states) total)) q k) (sym (word_length w.path) ∙ ap length (sym w.word)) ends

  pub class_state_count : (q : ℕ) → q < length m.states → (u : Cost) → Finishes MinMax (graph_of (valued value m)) q u → plus u total ≡ u
      → IsStateCount MinMax (graph_of (valued value m)) (λ v. plus v total ≡ v) q (count_of counts q)
  class_state_count q low u f under =
      let g = graph_of (valued value m) in
      let n = length m.states in
      let least = h.least q in
      let own : Weighs MinMax g q (label_word (letters f.path)) u = record { path = f.path; last = f.last; leads = f.leads; final = f.final; word = refl; weight = f.weight } in
      let some = (least.least (length (label_word (letters f.path))) (counted q low (label_word (letters f.path)) u own under)).0 in
      let way = ends_path value m good total h.class.solid (count_of counts q) q (least.ends some) in
      let p = way.1 in
      record {
        rest = label_word (letters p.path);
        weight = times MinMax (product MinMax (letters p.path)) (g.final p.last);
        completes = record { path = p.path; last = p.last; leads = subst (λ (s : ℕ). IsPath g s p.path p.last) (at_state q low) p.leads; final = p.final; word = refl; weight = refl };
        counts = subst (λ (b : Bool). Meant total b (times MinMax (product MinMax (letters p.path)) (g.final p.last))) (reached q low) p.meant;
        long = labels_places p.path ∙ (ap length p.same ∙ way.2);
        least = λ other v w is. (least.least (length other) (counted q low other v w is)).1;
      }
