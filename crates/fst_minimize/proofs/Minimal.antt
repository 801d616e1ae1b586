-- The machine of the classes of a normal machine has, under any total, the fewest states.
use Rattle.std.proofs.Common.{◌≡◌, ◌≢◌, ◌⊎◌, inl, inr, true, ℕ, ◌<◌, ◌≤◌, List, [], ◌∷◌, ◌++◌, None, Some, length, map, get_or, slice_get, sym, refl, ap, ap₂, ◌∙◌, subst, arith}
use Rattle.std.proofs.Math.ListN.{get_or-map}
use Rattle.std.proofs.lemmas.List.{length-map, get_or_past}
use Rattle.std.proofs.lemmas.Option.{slice_get-get_or, slice_get_within, slice_get_cases}
use Rattle.fst_semiring.specs.Cost.{Cost, infinite}
use Rattle.fst_semiring.specs.declared.arc_type.ArcType.{ArcType}
use Rattle.fst_semiring.specs.Semiring.{cancels, one_of, times, IsCost}
use Rattle.fst_semiring.proofs.Laws.{times_zero}
use Rattle.fst_machine.specs.Machine.{Arc, State, Machine}
use Rattle.fst_machine.specs.Graph.{Graph, graph_of, no_state}
use Rattle.fst_machine.specs.Letters.{label_word, product}
use Rattle.fst_machine.specs.Paths.{Transition, IsPath, letters}
use Rattle.fst_machine.proofs.Cycles.{state_below}
use Rattle.fst_distance.proofs.Potential.{times_not_zero}
use Rattle.fst_trim.specs.Weighed.{IsWeighted}
use Rattle.fst_trim.specs.WordWeights.{IsSingle, Weighs, WordWeighs, IsWordWeight, SameWords}
use Rattle.fst_minimize.specs.Behaviour.{Alike, GoesOn}
use Rattle.fst_minimize.specs.Classes.{HasClasses}
use Rattle.fst_minimize.specs.Laws.{IsNormal, totalled, totalled_state, MinimalLaw}
use Rattle.fst_minimize.proofs.Classes.{class_alike, start_there, start_back}
use Rattle.fst_minimize.proofs.Spelling.{Goes, starts_with, Weighs_kind, joins, swapped}
use Rattle.fst_minimize.proofs.Lower.{TotalTimes, IsPushedGraph, one_name, same_start}
use Rattle.fst_minimize.proofs.Few.{few}

-- names with equal behaviour give each word the same weights
pub alike_Weighs : {N M : Type 0} (kind : ArcType) (g : Graph N) (h : Graph M) (p : N) (q : M) → Alike g h p q → (x : List ℕ) (w : Cost) → Weighs kind g p x w → Weighs kind h q x w
alike_Weighs kind g h p q alike x w r =
    let b = (alike (letters r.path) (g.final r.last)).0 (record { path = r.path; last = r.last; leads = r.leads; final = r.final; spells = refl; ends = refl }) in
    record { path = b.path; last = b.last; leads = b.leads; final = b.final; word = r.word ∙ ap label_word b.spells; weight = r.weight ∙ ap₂ (times kind) (ap (product kind) b.spells) b.ends }

-- where names have the same arcs, paths are the same
same_path : {N : Type 0} (g h : Graph N) → ((p : N) → g.arcs p ≡ h.arcs p) → (path : List (Transition N)) (p q : N) → IsPath g p path q → IsPath h p path q
same_path g h same [] p q here = here
same_path {N} g h same (t ∷ path) p q leads = ((leads.0.0, subst (λ (arcs : List (Arc Cost N)). slice_get arcs t.place ≡ Some t.arc) (same p) leads.0.1), same_path g h same path t.arc.next q leads.1)

module _ (kind : ArcType) (total : Cost) (c : Machine Cost) where
  totalled_at : (p : ℕ) → get_or (map (totalled_state kind total) c.states) p no_state ≡ totalled_state kind total (get_or c.states p no_state)
  totalled_at p =
      let none : totalled_state kind total no_state ≡ no_state = ap (λ w. record no_state { final = w }) (times_zero kind total) in
      ap (get_or (map (totalled_state kind total) c.states) p) (sym none) ∙ get_or-map (totalled_state kind total) c.states p no_state

  -- the arcs are the same, and final weights have the total as a factor
  pub totalled_arcs : (p : ℕ) → (graph_of (totalled kind total c)).arcs p ≡ (graph_of c).arcs p
  totalled_arcs p = ap (λ (s : State Cost). s.arcs) (totalled_at p)

  pub totalled_final : (p : ℕ) → (graph_of (totalled kind total c)).final p ≡ times kind total ((graph_of c).final p)
  totalled_final p = ap (λ (s : State Cost). s.final) (totalled_at p)

  pub totalled_Weighs : total ≢ infinite → (p : ℕ) (x : List ℕ) (w : Cost) → Weighs kind (graph_of c) p x w → Weighs kind (graph_of (totalled kind total c)) p x (times kind total w)
  totalled_Weighs some p x w h = record {
    path = h.path;
    last = h.last;
    leads = same_path (graph_of c) (graph_of (totalled kind total c)) (λ q. sym (totalled_arcs q)) h.path p h.last h.leads;
    final = (λ e. times_not_zero kind total ((graph_of c).final h.last) some h.final (sym (totalled_final h.last) ∙ e));
    word = h.word;
    weight = ap (times kind total) h.weight ∙ (swapped kind (product kind (letters h.path)) total ((graph_of c).final h.last) ∙ ap (times kind (product kind (letters h.path))) (sym (totalled_final h.last)));
  }

  pub untotalled_Weighs : (p : ℕ) (x : List ℕ) (v : Cost) → Weighs kind (graph_of (totalled kind total c)) p x v → (w : Cost) × Weighs kind (graph_of c) p x w × (v ≡ times kind total w)
  untotalled_Weighs p x v h = (
    times kind (product kind (letters h.path)) ((graph_of c).final h.last),
    record {
      path = h.path;
      last = h.last;
      leads = same_path (graph_of (totalled kind total c)) (graph_of c) totalled_arcs h.path p h.last h.leads;
      final = (λ e. h.final (totalled_final h.last ∙ (ap (times kind total) e ∙ times_zero kind total)));
      word = h.word;
      weight = refl;
    },
    h.weight ∙ (ap (times kind (product kind (letters h.path))) (totalled_final h.last) ∙ swapped kind total (product kind (letters h.path)) ((graph_of c).final h.last)),
  )

-- a name from which a word goes on is the number of a state
weighs_below : (kind : ArcType) (m : Machine Cost) (p : ℕ) (x : List ℕ) (w : Cost) → Weighs kind (graph_of m) p x w → p < length m.states
weighs_below kind m p x w h = by_path h.path h.leads
  where
    by_path : (path : List (Transition ℕ)) → IsPath (graph_of m) p path h.last → p < length m.states
    by_path (t ∷ path) leads = state_below m p t.place t.arc leads.0.1
    by_path [] here = by_place (slice_get_cases m.states p).1
      where
        by_place : ((x : State Cost) × (p < length m.states) × (slice_get m.states p ≡ Some x) × (get_or m.states p x ≡ x)) ⊎ ((length m.states ≤ p) × (slice_get m.states p ≡ None)) → p < length m.states
        by_place (inl s) = s.1
        by_place (inr s) = absurd (h.final (ap (graph_of m).final (sym here) ∙ ap (λ (t : State Cost). t.final) (get_or_past m.states p no_state s.0)))

-- Where a word leads that goes on.
pub record Cut {N : Type 0} (kind : ArcType) (g : Graph N) (p : N) (x z : List ℕ) : Type 0 where
  pub name : N
  pub first : Cost
  pub goes : Goes kind g p x first name
  pub rest : Cost
  pub weighs : Weighs kind g name z rest

-- a word with a weight can be cut
pub cut : {N : Type 0} (kind : ArcType) (g : Graph N) (x : List ℕ) (p : N) (z : List ℕ) (w : Cost) → Weighs kind g p (x ++ z) w → Cut kind g p x z
cut kind g [] p z w h = record { name = p; first = one_of kind; goes = record { path = []; leads = refl; word = refl; weight = refl }; rest = w; weighs = h }
cut {N} kind g (l ∷ x) p z w h =
    let s = starts_with kind g p l (x ++ z) w h in
    let on = cut kind g x s.arc.next z s.rest s.weighs in
    let t : Transition N = record { state = p; place = s.place; arc = s.arc } in
    record {
      name = on.name;
      first = times kind s.arc.weight on.first;
      goes = record { path = t ∷ on.goes.path; leads = ((refl, s.has), on.goes.leads); word = ap₂ (◌∷◌) (sym s.label) on.goes.word; weight = ap (times kind s.arc.weight) on.goes.weight };
      rest = on.rest;
      weighs = on.weighs;
    }

-- a path is a word that leads to its end
path_Goes : {N : Type 0} (kind : ArcType) (g : Graph N) (p q : N) (path : List (Transition N)) → IsPath g p path q → Goes kind g p (label_word (letters path)) (product kind (letters path)) q
path_Goes kind g p q path leads = record { path = path; leads = leads; word = refl; weight = refl }

-- The machine of the classes of m, with a total, and another machine with the same word weights.
module _ (kind : ArcType) (total : Cost) (m c : Machine Cost) (h : HasClasses m c) (normal : IsNormal kind m) (some : total ≢ infinite) where
  pub normal_goes : GoesOn (graph_of m)
  normal_goes p k a has = (normal.trim a.next (normal.closed.next p k a has)).1

  -- each word has the total Times its weight
  pub totalled_words : TotalTimes kind total (graph_of m) (graph_of (totalled kind total c))
  totalled_words = record { there = there; back = back }
    where
      there : (x : List ℕ) (w : Cost) → WordWeighs kind (graph_of m) x w → WordWeighs kind (graph_of (totalled kind total c)) x (times kind total w)
      there x w r =
          let s = start_there m c h normal.closed normal.single normal_goes r.first r.starts in
          let i = get_or h.class r.first 0 in
          let in_c = alike_Weighs kind (graph_of m) (graph_of c) r.first i (class_alike m c h normal.closed normal.single normal_goes r.first i s.1) x w r.weighs in
          record { first = i; starts = s.0; weighs = totalled_Weighs kind total c some i x w in_c }

      back : (x : List ℕ) (v : Cost) → WordWeighs kind (graph_of (totalled kind total c)) x v → (w : Cost) × WordWeighs kind (graph_of m) x w × (v ≡ times kind total w)
      back x v r =
          let s = start_back m c h normal.closed normal.single normal_goes r.first r.starts in
          let w = untotalled_Weighs kind total c r.first x v r.weighs in
          let alike = class_alike m c h normal.closed normal.single normal_goes s.0 r.first s.2 in
          (w.0, record { first = s.0; starts = s.1; weighs = alike_Weighs kind (graph_of c) (graph_of m) r.first s.0 (λ ls u. ((alike ls u).1, (alike ls u).0)) x w.0 w.1 }, w.2)

  pub normal_pushed : IsPushedGraph kind (graph_of m) (λ p. p < length m.states)
  normal_pushed = record {
    single = normal.single;
    values = normal.values;
    within = λ p k a low has. normal.closed.next p k a has;
    one = normal.one;
    acceptor = normal.acceptor;
  }

  module _ (other : Machine Cost) (single : IsSingle (graph_of other)) (values : IsWeighted kind (graph_of other)) (words : SameWords kind (graph_of (totalled kind total c)) (graph_of other)) where
    not_infinite : (x : List ℕ) (w : Cost) → WordWeighs kind (graph_of m) x w → times kind total w ≢ infinite
    not_infinite x w r = times_not_zero kind total w some (Weighs_kind kind (graph_of m) normal.values r.first x w r.weighs).1

    -- the other machine has the words of m, with the total
    other_words : TotalTimes kind total (graph_of m) (graph_of other)
    other_words = record { there = there; back = back }
      where
        there : (x : List ℕ) (w : Cost) → WordWeighs kind (graph_of m) x w → WordWeighs kind (graph_of other) x (times kind total w)
        there x w r = by ((words x (times kind total w)).0 (inl (totalled_words.there x w r)))
          where
            by : IsWordWeight kind (graph_of other) x (times kind total w) → WordWeighs kind (graph_of other) x (times kind total w)
            by (inl o) = o
            by (inr none) = absurd (not_infinite x w r none.1)

        back : (x : List ℕ) (v : Cost) → WordWeighs kind (graph_of other) x v → (w : Cost) × WordWeighs kind (graph_of m) x w × (v ≡ times kind total w)
        back x v o = by ((words x v).1 (inl o))
          where
            by : IsWordWeight kind (graph_of (totalled kind total c)) x v → (w : Cost) × WordWeighs kind (graph_of m) x w × (v ≡ times kind total w)
            by (inl r) = totalled_words.back x v r
            by (inr none) = absurd ((Weighs_kind kind (graph_of other) values o.first x v o.weighs).1 none.1)

    -- One word leads from the start of m to the least member of the class, and from the start of the other machine to r.
    record Reached (i r : ℕ) : Type 0 where
      member : ℕ
      least : slice_get h.least i ≡ Some member
      low : member < length m.states
      first : ℕ
      starts : m.start ≡ Some first
      begin : ℕ
      begins : (graph_of other).start ≡ Some begin
      word : List ℕ
      here : Cost
      goes : Goes kind (graph_of m) first word here member
      there : Cost
      leads : Goes kind (graph_of other) begin word there r

    reached : (i : ℕ) → i < length h.least → (r : ℕ) × (r < length other.states) × Reached i r
    reached i low =
        let p = get_or h.least i 0 in
        let least = slice_get-get_or h.least i 0 low in
        let below : p < length m.states = let within = slice_get_within h.class p i (h.member i p least) in let same = h.classes in omega arith in
        let useful = normal.trim p below in
        let x = label_word (letters useful.0.path) in
        let a = product kind (letters useful.0.path) in
        let goes = path_Goes kind (graph_of m) useful.0.first p useful.0.path useful.0.leads in
        let z = label_word (letters useful.1.path) in
        let v = times kind (product kind (letters useful.1.path)) ((graph_of m).final useful.1.last) in
        let on : Weighs kind (graph_of m) p z v = record { path = useful.1.path; last = useful.1.last; leads = useful.1.leads; final = useful.1.final; word = refl; weight = refl } in
        let whole = joins kind (graph_of m) useful.0.first p x z a v goes on in
        let o = other_words.there (x ++ z) (times kind a v) (record { first = useful.0.first; starts = useful.0.starts; weighs = whole }) in
        let parts = cut kind (graph_of other) x o.first z (times kind total (times kind a v)) o.weighs in (
          parts.name,
          weighs_below kind other parts.name z parts.rest parts.weighs,
          record {
            member = p;
            least = least;
            low = below;
            first = useful.0.first;
            starts = useful.0.starts;
            begin = o.first;
            begins = o.starts;
            word = x;
            here = a;
            goes = goes;
            there = parts.first;
            leads = parts.goes;
          },
        )

    module _ (cancel : cancels kind ≡ true) (of_kind : IsCost kind total) where
      -- one state of the other machine stands for one class alone
      once : (i j r : ℕ) → i < length h.least → j < length h.least → Reached i r → Reached j r → i ≡ j
      once i j r low less one two =
          let first : two.first ≡ one.first = same_start m.start two.first one.first two.starts one.starts in
          let begin : two.begin ≡ one.begin = same_start (graph_of other).start two.begin one.begin two.begins one.begins in
          let goes = subst (λ (s : ℕ). Goes kind (graph_of m) s two.word two.here two.member) first two.goes in
          let leads = subst (λ (t : ℕ). Goes kind (graph_of other) t two.word two.there r) begin two.leads in
          let alike = one_name kind (graph_of m) (λ p. p < length m.states) cancel normal_pushed (graph_of other) total one.first one.begin one.starts one.begins single values other_words of_kind some
          one.word two.word one.here two.here one.there two.there one.member two.member r one.low two.low one.goes goes one.leads leads in
          (h.alike one.member two.member i j (h.member i one.member one.least) (h.member j two.member two.least)).1 alike

      pub fewest : length c.states ≤ length other.states
      fewest = subst (λ (n : ℕ). n ≤ length other.states) (sym h.states) (few (length h.least) (length other.states) Reached reached once)

-- the law
pub minimal_law : (kind : ArcType) (total : Cost) (m c : Machine Cost) → MinimalLaw kind total m c
minimal_law kind total m c cancel of_kind some normal h other single values words =
    let few = fewest kind total m c h normal some other single values words cancel of_kind in
    let same : length (map (totalled_state kind total) c.states) ≡ length c.states = length-map c.states (totalled_state kind total) in
    omega arith
