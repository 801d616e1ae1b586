-- What the walk of the graph of subsets makes.
use Rattle.std.proofs.Common.{◌≡◌, ◌⊎◌, inl, inr, ℕ, ◌+◌, ◌*◌, ◌<◌, ◌≤◌, List, [], ◌∷◌, Option, None, Some, length, map, get_or, slice_get, sym, refl, ap, ◌∙◌, subst, arith}
use Rattle.std.specs.Prelude.{MatchOption}
use Rattle.std.proofs.lemmas.Bool.{cases_lt}
use Rattle.std.proofs.lemmas.List.{get_or_past}
use Rattle.std.proofs.lemmas.Option.{same_Some, slice_get-get_or}
use Rattle.fst_semiring.specs.Cost.{Cost}
use Rattle.fst_semiring.specs.Semiring.{Within}
use Rattle.fst_semiring.specs.declared.arc_type.ArcType.{ArcType}
use Rattle.fst_semiring.proofs.Ranges.{Within-more, Within-quotient}
use Rattle.fst_machine.specs.BreadthFirst.{Has, IsBreadthFirst}
use Rattle.fst_machine.specs.Graph.{Graph, graph_of, no_state, renamed}
use Rattle.fst_machine.specs.Letters.{label_word, product}
use Rattle.fst_machine.specs.Machine.{Arc, Machine, State, most_states}
use Rattle.fst_machine.specs.Numbering.{IsNumbered}
use Rattle.fst_machine.specs.Paths.{IsPath, letters}
use Rattle.fst_machine.proofs.BreadthFirst.{walked_of_breadth_first}
use Rattle.fst_machine.proofs.Elements.{Apart_at}
use Rattle.fst_machine.proofs.Numbering.{numbered-Rel}
use Rattle.fst_machine.proofs.Walks.{walked_from_start, walked_reached}
use Rattle.fst_machine.proofs.Weights.{same_weight}
use Rattle.fst_walk.specs.Answers.{ReachesMore}
use Rattle.fst_walk.specs.Names.{IsNear}
use Rattle.fst_determinize.specs.Subsets.{AscendsBy, HasSubset, IsSubset, Member}
use Rattle.fst_trim.specs.WordOrder.{IsSooner}
use Rattle.fst_determinize.specs.Theorem.{AreSubsets, HasMoreSubsets, IsDeterminized, IsLeastWord}
use Rattle.fst_trim.specs.Weighed.{IsWeighted}
use Rattle.fst_determinize.specs.Ways.{IsAcceptor, arc_by, subsets, ways}
use Rattle.fst_determinize.proofs.Elements.{Has_map}
use Rattle.fst_determinize.proofs.Following.{follow_start, reach_subset}
use Rattle.fst_determinize.proofs.Grouped.{grouped_ascends}
use Rattle.fst_determinize.proofs.Weights.{same_weights}
use Rattle.fst_determinize.proofs.Members.{member_stands, one_subset}
use Rattle.fst_determinize.proofs.Soonest.{Leads, Soonest, one_way, soonest}
use Rattle.fst_determinize.proofs.Spelling.{spells_within, word_length}
use Rattle.fst_trim.proofs.WordOrder.{sooner_once}

-- an ascending list was ascending before it was mapped
ascends_before : {X Y : Type 0} (f : X → Y) (key : X → ℕ) (tag : Y → ℕ) → ((x : X) → tag (f x) ≡ key x) → (xs : List X) → AscendsBy tag (map f xs) → AscendsBy key xs
ascends_before f key tag same [] up = tt
ascends_before {X} f key tag same (x ∷ xs) up = ((λ y h. less y h), ascends_before f key tag same xs up.1)
  where
    less : (y : X) → Has xs y → key x < key y
    less y h = let low = up.0 (f y) (Has_map f xs y h) in let one = same x in let two = same y in omega (arith, low, one, two)

module _ (kind : ArcType) (g : Graph ℕ) where
  pub arcs_ascend : (s : List Member) → AscendsBy (λ a. a.ilabel) ((subsets kind g).arcs s)
  arcs_ascend s = grouped_ascends (λ y. y.label) (arc_by kind) (λ (a : Arc Cost (List Member)). a.ilabel) (λ k zs. refl) (ways kind g s)

  module _ (weighted : IsWeighted kind g) where
    module _ (s₀ : List Member) (starts : (subsets kind g).start ≡ Some s₀) (names : List (List Member)) (list : IsBreadthFirst (subsets kind g) s₀ names) where
      has_word : (x : List ℕ) (t : List Member) → Leads (subsets kind g) arcs_ascend s₀ names list x t → HasSubset kind g x t
      has_word x t l =
          let f = follow_start kind g weighted s₀ t l.path starts l.leads in
          ((product kind (letters l.path), subst (λ (z : List ℕ). IsSubset kind g z (product kind (letters l.path)) t) l.reads f.0), f.1)

      word_leads : (x : List ℕ) (t : List Member) → HasSubset kind g x t → Leads (subsets kind g) arcs_ascend s₀ names list x t
      word_leads x t h =
          let r = reach_subset kind g weighted x t h in
          let same : r.0 ≡ s₀ = same_Some r.0 s₀ (sym r.2 ∙ starts) in
          record { path = r.1; leads = subst (λ (z : List Member). IsPath (subsets kind g) z r.1 t) same r.3; reads = r.4 }

      met_names : AreSubsets kind g names
      met_names = record {
        listed = λ t. (there t, back t);
        apart = list.apart;
        least = λ i s at. let x = soonest (subsets kind g) arcs_ascend s₀ names list i s at in (x.0, (has_word x.0 s x.1.leads, λ y h. x.1.first i s y (omega arith) at (word_leads y s h)));
        ordered = λ i j s t x y low at_s at_t one two. in_order i j s t x y low at_s at_t one two;
      }
        where
          there : (t : List Member) → Has names t → (word : List ℕ) × HasSubset kind g word t
          there t h =
              let r = walked_reached (subsets kind g) s₀ names (walked_of_breadth_first (subsets kind g) s₀ names list) t h in
              (label_word (letters r.0), has_word (label_word (letters r.0)) t (record { path = r.0; leads = r.1; reads = refl }))

          back : (t : List Member) → (word : List ℕ) × HasSubset kind g word t → Has names t
          back t h = let l = word_leads h.0 t h.1 in walked_from_start (subsets kind g) s₀ names (walked_of_breadth_first (subsets kind g) s₀ names list) l.path t l.leads

          by_least : (i j : ℕ) (s t : List Member) (x y z : List ℕ) → i < j → slice_get names i ≡ Some s → slice_get names j ≡ Some t → Soonest (subsets kind g) arcs_ascend s₀ names list i s z → x ≡ z → HasSubset kind g y t → IsSooner x y
          by_least i j s t x y z low at_s at_t soon same h = by_word (soon.first j t y (omega (arith, low)) at_t (word_leads y t h))
            where
              by_word : (z ≡ y) ⊎ IsSooner z y → IsSooner x y
              by_word (inl e) =
                  let own = has_word z s soon.leads in
                  let names_same : s ≡ t = (one_subset kind g y own.0.0 h.0.0 s t (subst (λ (w : List ℕ). IsSubset kind g w own.0.0 s) e own.0.1) h.0.1).1 in
                  let place : i ≡ j = Apart_at names i j t list.apart (at_s ∙ ap Some names_same) at_t in
                  absurd (omega (arith, low, place))
              by_word (inr sooner) = subst (λ (w : List ℕ). IsSooner w y) (sym same) sooner

          in_order : (i j : ℕ) (s t : List Member) (x y : List ℕ) → i < j → slice_get names i ≡ Some s → slice_get names j ≡ Some t → IsLeastWord kind g s x → IsLeastWord kind g t y → IsSooner x y
          in_order i j s t x y low at_s at_t one two =
              let z = soonest (subsets kind g) arcs_ascend s₀ names list i s at_s in
              by_least i j s t x y z.0 low at_s at_t z.1 (same_word z.0 (one.1 z.0 (has_word z.0 s z.1.leads)) (z.1.first i s x (omega arith) at_s (word_leads x s one.0))) two.0
            where
              same_word : (z : List ℕ) → (x ≡ z) ⊎ IsSooner x z → (z ≡ x) ⊎ IsSooner z x → x ≡ z
              same_word z (inl e) k = e
              same_word z (inr h) (inl e) = sym e
              same_word z (inr h) (inr k) = absurd (sooner_once x z h k)

    -- what the walk meets, also where nothing starts
    pub are_subsets : (names : List (List Member)) → MatchOption (subsets kind g).start (names ≡ []) (λ s. IsBreadthFirst (subsets kind g) s names) → AreSubsets kind g names
    are_subsets names h = by_start (subsets kind g).start refl h
      where
        by_start : (o : Option (List Member)) → (subsets kind g).start ≡ o → MatchOption o (names ≡ []) (λ s. IsBreadthFirst (subsets kind g) s names) → AreSubsets kind g names
        by_start None starts none = subst (λ (ns : List (List Member)). AreSubsets kind g ns) (sym none) (record {
          listed = λ t. ((λ h. absurd h), (λ h. let r = reach_subset kind g weighted h.0 t h.1 in absurd (let wrong : ◌≡◌ {A = Option (List Member)} None (Some r.0) = sym starts ∙ r.2 in cc)));
          apart = tt;
          least = λ i s at. absurd (cc);
          ordered = λ i j s t x y low at_s at_t one two. absurd (cc);
        })
        by_start (Some s) starts list = met_names s starts names list

    -- more names than the limit are more subsets
    pub more_there : (limit : ℕ) → ReachesMore (subsets kind g) limit → HasMoreSubsets kind g limit
    more_there limit h = record {
      names = h.names;
      apart = h.apart;
      listed = λ t has. let r = h.reached t has in let f = follow_start kind g weighted h.start t r.0 h.starts r.1 in (label_word (letters r.0), ((product kind (letters r.0), f.0), f.1));
      more = h.more;
    }

    pub more_back : (limit : ℕ) → HasMoreSubsets kind g limit → ReachesMore (subsets kind g) limit
    more_back limit h = by_names h.names refl
      where
        by_names : (ns : List (List Member)) → h.names ≡ ns → ReachesMore (subsets kind g) limit
        by_names [] e = absurd (let more = h.more in let long = ap length e in omega (arith, more, long))
        by_names (t ∷ ns) e =
            let one = h.listed t (subst (λ (us : List (List Member)). Has us t) (sym e) (inl refl)) in
            let first = reach_subset kind g weighted one.0 t one.1 in
            record {
              start = first.0;
              starts = first.2;
              names = h.names;
              apart = h.apart;
              reached = λ u has.
                  let word = h.listed u has in
                  let r = reach_subset kind g weighted word.0 u word.1 in
                  let same : r.0 ≡ first.0 = same_Some r.0 first.0 (sym r.2 ∙ first.2) in
                  (r.1, subst (λ (z : List Member). IsPath (subsets kind g) z r.1 u) same r.3);
              more = h.more;
            }

    -- numbers of residuals
    pub residual_within : (n : ℕ) → ((p k : ℕ) (a : Arc Cost ℕ) → slice_get (g.arcs p) k ≡ Some a → Within n a.weight) → (word : List ℕ) (b : Cost) (s : List Member) (m : Member) → IsSubset kind g word b s → Has s m
        → Within (2 * (length word * n)) m.residual
    residual_within n small word b s m sub h =
        let from = member_stands kind g weighted word b s sub m h in
        let own = spells_within kind g n small word m.state from.weight from.spells in
        let all = spells_within kind g n small word from.best_at b from.best_spells in
        subst (λ (v : Cost). Within (2 * (length word * n)) v) (sym from.residual)
        (Within-more (length word * n + length word * n) (2 * (length word * n)) _ (omega arith) (Within-quotient kind (length word * n) (length word * n) from.weight b own all))

    -- the numbering of the names has one successful path for a word, and the weights of the acceptor
    module _ (names : List (List Member)) (m : Machine Cost) (h : IsNumbered (subsets kind g) names m) where
      numbers_ascend : (p : ℕ) → AscendsBy (λ a. a.ilabel) ((graph_of m).arcs p)
      numbers_ascend p = by_place (cases_lt p (length names))
        where
          by_place : (p < length names) ⊎ (length names ≤ p) → AscendsBy (λ a. a.ilabel) ((graph_of m).arcs p)
          by_place (inl low) =
              let n : List Member = get_or names p [] in
              let at : slice_get names p ≡ Some n = slice_get-get_or names p [] low in
              ascends_before (renamed (λ j. get_or names j n)) (λ (a : Arc Cost ℕ). a.ilabel) (λ (a : Arc Cost (List Member)). a.ilabel) (λ a. refl) ((graph_of m).arcs p)
              (subst (λ (arcs : List (Arc Cost (List Member))). AscendsBy (λ a. a.ilabel) arcs) (h.arcs p n n at) (arcs_ascend n))
          by_place (inr high) = let states = h.states in subst (λ (s : State Cost). AscendsBy (λ a. a.ilabel) s.arcs) (sym (get_or_past m.states p no_state (omega (arith, high, states)))) tt

      pub determinized : IsAcceptor g → IsDeterminized kind g (graph_of m)
      determinized acceptor = record {
        one_path = λ one two v w s t e.
            let first : s.first ≡ t.first = same_Some s.first t.first (sym s.starts ∙ t.starts) in
            (one_way (graph_of m) numbers_ascend one two s.first s.last t.last s.leads (subst (λ (p : ℕ). IsPath (graph_of m) p two t.last) (sym first) t.leads) e).0;
        weights = λ x y w.
            let there = same_weights kind g weighted acceptor x y w in
            let back = same_weight kind (graph_of m) (subsets kind g) (numbered-Rel kind (subsets kind g) names m h) x y w in
            ((λ a. back.1 (there.0 a)), (λ a. there.1 (back.0 a)));
      }

    -- a name near the start is the subset of a word with few labels
    pub near_subset : (s : List Member) → IsNear (subsets kind g) s → (word : List ℕ) × (b : Cost) × IsSubset kind g word b s × (length word < most_states)
    near_subset s near =
        let f = follow_start kind g weighted near.start s near.path near.starts near.leads in
        let short = near.short in
        let long = word_length near.path in
        (label_word (letters near.path), product kind (letters near.path), f.0, omega (arith, short, long))
