-- The machine of the marked states.
use Rattle.std.proofs.Common.{◌≡◌, ◌⊎◌, ◌↔◌, inl, inr, ℕ, ◌+◌, ◌<◌, ◌≤◌, zero, suc, Bool, true, false, cond, List, [], ◌∷◌, ◌++◌, Option, None, Some, length, map, get_or, take, drop, slice_get, refl, sym, ap, ◌∙◌, subst, append_assoc, arith}
use Rattle.std.specs.Bool.{Decides}
use Rattle.std.specs.List.{All, AllByRecursion}
use Rattle.std.specs.Option.{option_map, IfSome}
use Rattle.std.proofs.lemmas.List.{length-map}
use Rattle.std.proofs.lemmas.List.Elements.{recursion_from_All, All-from_recursion}
use Rattle.std.proofs.lemmas.List.Sums.{sum_by-cons, sum_by_more, sum_by_push, sum_by-take-le}
use Rattle.std.proofs.lemmas.Option.{slice_get_within, slice_get_cases, get_or_from_slice_get}
use Rattle.fst_semiring.specs.Cost.{Cost}
use Rattle.fst_machine.specs.Machine.{Arc, State, Machine, IsArc, IsMachine, arc_total, valued, valued_arc, valued_state}
use Rattle.fst_machine.specs.Graph.{graph_of}
use Rattle.fst_machine.specs.Cycles.{IsUseful}
use Rattle.fst_machine.specs.BreadthFirst.{Has}
use Rattle.fst_machine.specs.Connected.{Kept}
use Rattle.fst_machine.proofs.Arcs.{mapped_some}
use Rattle.fst_machine.proofs.Elements.{at_Has}
use Rattle.fst_machine.specs.Renumbered.{IsNumbering, marked_arcs, marked_machine, marked_states, marked, new_start, renumbered}
use Rattle.fst_trim.specs.KeptPaths.{IsConnectedOn}
use Rattle.fst_trim.proofs.Looking.{look}
use Rattle.fst_trim.proofs.Marking.{marked_is, marked-ascends, marked-few, marked-once, number_at}
use Rattle.fst_trim.proofs.Pairs.{drop_here}

-- the state with its arcs to marked states
abbrev pub kept_state : {V : Type 0} → List Bool → List ℕ → State V → State V
kept_state marks numbers s = record { final = s.final; arcs = marked_arcs marks numbers s.arcs }

-- marks from one place on
abbrev pub Agrees : List Bool → ℕ → List Bool → Type 0
Agrees marks at ms = (j : ℕ) → get_or marks (at + j) false ≡ get_or ms j false

agrees_here : (marks : List Bool) (at : ℕ) (m : Bool) (ms : List Bool) → Agrees marks at (m ∷ ms) → get_or marks at false ≡ m
agrees_here marks at m ms agree = let here : at ≡ at + 0 = omega arith in ap (λ (k : ℕ). get_or marks k false) here ∙ agree 0

agrees_next : (marks : List Bool) (at : ℕ) (m : Bool) (ms : List Bool) → Agrees marks at (m ∷ ms) → Agrees marks (at + 1) ms
agrees_next marks at m ms agree j = let next : at + 1 + j ≡ at + suc j = omega arith in ap (λ (k : ℕ). get_or marks k false) next ∙ agree (suc j)

module _ {V : Type 0} (marks : List Bool) (numbers : List ℕ) where
  pub marked_arcs-few : (arcs : List (Arc V ℕ)) → length (marked_arcs marks numbers arcs) ≤ length arcs
  marked_arcs-few [] = omega arith
  marked_arcs-few (a ∷ arcs) = by_mark (get_or marks a.next false) (marked_arcs-few arcs)
    where
      by_mark : (b : Bool) → length (marked_arcs marks numbers arcs) ≤ length arcs → length (cond b (renumbered numbers a ∷ marked_arcs marks numbers arcs) (marked_arcs marks numbers arcs)) ≤ suc (length arcs)
      by_mark true few = omega arith
      by_mark false few = omega arith

  pub marked_states-few : (at : ℕ) (states : List (State V)) → arc_total (marked_states marks numbers at states) ≤ arc_total states
  marked_states-few at [] = omega arith
  marked_states-few at (s ∷ states) = by_mark (get_or marks at false) (marked_states-few (at + 1) states)
    where
      whole : arc_total (s ∷ states) ≡ length s.arcs + arc_total states
      whole = sum_by-cons (λ (t : State V). length t.arcs) s states

      by_mark : (b : Bool) → arc_total (marked_states marks numbers (at + 1) states) ≤ arc_total states → arc_total (cond b (kept_state marks numbers s ∷ marked_states marks numbers (at + 1) states) (marked_states marks numbers (at + 1) states)) ≤ arc_total (s ∷ states)
      by_mark true few =
          let part = sum_by-cons (λ (t : State V). length t.arcs) (kept_state marks numbers s) (marked_states marks numbers (at + 1) states) in
          let here = marked_arcs-few s.arcs in
          omega (arith, whole)
      by_mark false few = omega (arith, whole)

  pub marked_states-length : (at : ℕ) (states : List (State V)) (ms : List Bool) → length ms ≡ length states → Agrees marks at ms → length (marked_states marks numbers at states) ≡ length (marked at ms)
  marked_states-length at [] [] size agree = refl
  marked_states-length at [] (m ∷ ms) size agree = absurd (omega arith)
  marked_states-length at (s ∷ states) [] size agree = absurd (omega arith)
  marked_states-length at (s ∷ states) (m ∷ ms) size agree = by_mark (get_or marks at false) m (agrees_here marks at m ms agree) (marked_states-length (at + 1) states ms (omega arith) (agrees_next marks at m ms agree))
    where
      by_mark : (b c : Bool) → b ≡ c → length (marked_states marks numbers (at + 1) states) ≡ length (marked (at + 1) ms) → length (cond b (kept_state marks numbers s ∷ marked_states marks numbers (at + 1) states) (marked_states marks numbers (at + 1) states)) ≡ length (cond c (at ∷ marked (at + 1) ms) (marked (at + 1) ms))
      by_mark true true e rest = ap suc rest
      by_mark false false e rest = rest
      by_mark true false e rest = absurd (cc)
      by_mark false true e rest = absurd (cc)

  -- a kept state is the state in its place, with its arcs to marked states
  pub kept_at : (at : ℕ) (states : List (State V)) (ms : List Bool) → length ms ≡ length states → Agrees marks at ms → (i p : ℕ) → slice_get (marked at ms) i ≡ Some p → (j : ℕ) × (s : State V) × (p ≡ at + j) × (slice_get states j ≡ Some s) × (slice_get (marked_states marks numbers at states) i ≡ Some (kept_state marks numbers s))
  kept_at at [] [] size agree i p there = absurd (cc)
  kept_at at [] (m ∷ ms) size agree i p there = absurd (omega arith)
  kept_at at (s ∷ states) [] size agree i p there = absurd (omega arith)
  kept_at at (s ∷ states) (m ∷ ms) size agree i p there = by_mark (get_or marks at false) m i (agrees_here marks at m ms agree) there (λ k more. kept_at (at + 1) states ms (omega arith) (agrees_next marks at m ms agree) k p more)
    where
      by_mark : (b c : Bool) (i : ℕ) → b ≡ c → slice_get (cond c (at ∷ marked (at + 1) ms) (marked (at + 1) ms)) i ≡ Some p → ((k : ℕ) → slice_get (marked (at + 1) ms) k ≡ Some p → (j : ℕ) × (t : State V) × (p ≡ at + 1 + j) × (slice_get states j ≡ Some t) × (slice_get (marked_states marks numbers (at + 1) states) k ≡ Some (kept_state marks numbers t))) → (j : ℕ) × (t : State V) × (p ≡ at + j) × (slice_get (s ∷ states) j ≡ Some t) × (slice_get (cond b (kept_state marks numbers s ∷ marked_states marks numbers (at + 1) states) (marked_states marks numbers (at + 1) states)) i ≡ Some (kept_state marks numbers t))
      by_mark true true zero e here rest = let same : at ≡ p = cc in (0, s, omega arith, refl, refl)
      by_mark true true (suc i) e here rest = let r = rest i here in (suc r.0, r.1, omega (arith, r.2), r.3, r.4)
      by_mark false false i e here rest = let r = rest i here in (suc r.0, r.1, omega (arith, r.2), r.3, r.4)
      by_mark true false i e here rest = absurd (cc)
      by_mark false true i e here rest = absurd (cc)

-- an arc that is left out
kept_skip : (kept : List ℕ) (a : Arc Cost ℕ) (arcs new : List (Arc Cost ℕ)) → (Has kept a.next → ⊥) → Kept kept arcs new → Kept kept (a ∷ arcs) new
kept_skip kept a arcs [] none k = (none, k)
kept_skip kept a arcs (b ∷ new) none k = inl (none, k)

module _ {V : Type 0} (value : V → Cost) (marks : List Bool) (numbers : List ℕ) (numbering : IsNumbering marks numbers) where
  -- the arcs to marked states are the kept ones
  pub kept_is : (arcs : List (Arc V ℕ)) → Kept (marked 0 marks) (map (valued_arc value) arcs) (map (valued_arc value) (marked_arcs marks numbers arcs))
  kept_is [] = tt
  kept_is (a ∷ arcs) = by_mark (get_or marks a.next false) refl (kept_is arcs)
    where
      by_mark : (b : Bool) → get_or marks a.next false ≡ b → Kept (marked 0 marks) (map (valued_arc value) arcs) (map (valued_arc value) (marked_arcs marks numbers arcs)) → Kept (marked 0 marks) (map (valued_arc value) (a ∷ arcs)) (map (valued_arc value) (cond b (renumbered numbers a ∷ marked_arcs marks numbers arcs) (marked_arcs marks numbers arcs)))
      by_mark true e rest = inr (number_at marks numbers a.next numbering e, refl, rest)
      by_mark false e rest = kept_skip (marked 0 marks) (valued_arc value a) (map (valued_arc value) arcs) (map (valued_arc value) (marked_arcs marks numbers arcs)) (λ has. let wrong : false ≡ true = sym e ∙ (marked_is marks a.next).0 has in absurd (cc)) rest

  -- and good
  pub kept_good : (n : ℕ) (arcs : List (Arc V ℕ)) → AllByRecursion (IsArc value n) arcs → AllByRecursion (IsArc value (length (marked 0 marks))) (marked_arcs marks numbers arcs)
  kept_good n [] good = tt
  kept_good n (a ∷ arcs) good = by_mark (get_or marks a.next false) refl (kept_good n arcs good.1)
    where
      by_mark : (b : Bool) → get_or marks a.next false ≡ b → AllByRecursion (IsArc value (length (marked 0 marks))) (marked_arcs marks numbers arcs) → AllByRecursion (IsArc value (length (marked 0 marks))) (cond b (renumbered numbers a ∷ marked_arcs marks numbers arcs) (marked_arcs marks numbers arcs))
      by_mark true e rest = (record { ilabel = (good.0).ilabel; olabel = (good.0).olabel; weight = (good.0).weight; next = slice_get_within (marked 0 marks) (get_or numbers a.next 0) a.next (number_at marks numbers a.next numbering e) }, rest)
      by_mark false e rest = rest

  kept_states_good : (n at : ℕ) (states : List (State V)) → AllByRecursion (λ s. All (IsArc value n) s.arcs) states → AllByRecursion (λ s. All (IsArc value (length (marked 0 marks))) s.arcs) (marked_states marks numbers at states)
  kept_states_good n at [] good = tt
  kept_states_good n at (s ∷ states) good = by_mark (get_or marks at false) (kept_states_good n (at + 1) states good.1)
    where
      by_mark : (b : Bool) → AllByRecursion (λ s. All (IsArc value (length (marked 0 marks))) s.arcs) (marked_states marks numbers (at + 1) states) → AllByRecursion (λ s. All (IsArc value (length (marked 0 marks))) s.arcs) (cond b (kept_state marks numbers s ∷ marked_states marks numbers (at + 1) states) (marked_states marks numbers (at + 1) states))
      by_mark true rest = (All-from_recursion (IsArc value (length (marked 0 marks))) (marked_arcs marks numbers s.arcs) (kept_good n s.arcs (recursion_from_All (IsArc value n) s.arcs good.0)), rest)
      by_mark false rest = rest

  -- the start
  start_is : (start : Option ℕ) (i : ℕ) → (new_start marks numbers start ≡ Some i) ↔ ((p : ℕ) × (start ≡ Some p) × (slice_get (marked 0 marks) i ≡ Some p))
  start_is None i = ((λ e. absurd (cc)), (λ h. absurd (let wrong : None ≡ Some h.0 = h.1 in cc)))
  start_is (Some s) i = by_mark (get_or marks s false) refl
    where
      by_mark : (b : Bool) → get_or marks s false ≡ b → (cond b (Some (get_or numbers s 0)) None ≡ Some i) ↔ ((p : ℕ) × (Some s ≡ Some p) × (slice_get (marked 0 marks) i ≡ Some p))
      by_mark true e = ((λ new. let same : get_or numbers s 0 ≡ i = cc in (s, refl, ap (slice_get (marked 0 marks)) (sym same) ∙ number_at marks numbers s numbering e)), (λ h. let start : Some s ≡ Some h.0 = h.1 in let same : s ≡ h.0 = cc in ap Some (marked-once marks (get_or numbers s 0) i s (number_at marks numbers s numbering e) (h.2 ∙ ap Some (sym same)))))
      by_mark false e = ((λ new. absurd (let wrong : None ≡ Some i = new in cc)), (λ h. absurd (let start : Some s ≡ Some h.0 = h.1 in let same : s ≡ h.0 = cc in let wrong : false ≡ true = sym e ∙ (marked_is marks s).0 (at_Has (marked 0 marks) i s (h.2 ∙ ap Some (sym same))) in cc)))

  module _ (m : Machine V) (size : length marks ≡ length m.states) where
    agree : Agrees marks 0 marks
    agree j = let here : 0 + j ≡ j = omega arith in ap (λ (k : ℕ). get_or marks k false) here

    -- what is kept is a machine
    pub kept_is_machine : IsMachine value m → IsMachine value (marked_machine marks numbers m)
    kept_is_machine h =
        let count : length (marked_states marks numbers 0 m.states) ≡ length (marked 0 marks) = marked_states-length marks numbers 0 m.states marks size agree in
        let few = marked-few 0 marks in
        let arcs = marked_states-few marks numbers 0 m.states in
        record {
          start = start_within (new_start marks numbers m.start) refl count;
          arcs = subst (λ (n : ℕ). All (λ (s : State V). All (IsArc value n) s.arcs) (marked_states marks numbers 0 m.states)) (sym count) (All-from_recursion (λ (s : State V). All (IsArc value (length (marked 0 marks))) s.arcs) (marked_states marks numbers 0 m.states) (kept_states_good (length m.states) 0 m.states (recursion_from_All (λ (s : State V). All (IsArc value (length m.states)) s.arcs) m.states h.arcs)));
          few_states = omega (arith, h.few_states, size);
          few_arcs = omega (arith, h.few_arcs);
        }
      where
        start_within : (new : Option ℕ) → new_start marks numbers m.start ≡ new → length (marked_states marks numbers 0 m.states) ≡ length (marked 0 marks) → IfSome new (λ s. s < length (marked_states marks numbers 0 m.states))
        start_within None e count = tt
        start_within (Some i) e count = let p = (start_is m.start i).0 e in omega (arith, slice_get_within (marked 0 marks) i p.0 p.2)

    -- and where the marks are those of the useful states, it is the connected machine
    pub kept_is_connected : ((p : ℕ) → Decides (get_or marks p false) (IsUseful (graph_of (valued value m)) p)) → IsConnectedOn (valued value m) (valued value (marked_machine marks numbers m)) (marked 0 marks)
    kept_is_connected useful = (
      record {
        kept = marked 0 marks;
        ascending = λ i j p q low there behind. marked-ascends 0 marks i j p q low there behind;
        useful = λ p. ((λ has. (useful p).0 ((marked_is marks p).0 has)), (λ u. (marked_is marks p).1 ((useful p).1 u)));
        states = length-map (marked_states marks numbers 0 m.states) (valued_state value) ∙ marked_states-length marks numbers 0 m.states marks size agree;
        start = λ i. start_is m.start i;
        final = λ i p there. (places i p there).1;
        arcs = λ i p there. (places i p there).0;
      },
      refl,
    )
      where
        places : (i p : ℕ) → slice_get (marked 0 marks) i ≡ Some p → Kept (marked 0 marks) ((graph_of (valued value m)).arcs p) ((graph_of (valued value (marked_machine marks numbers m))).arcs i) × ((graph_of (valued value (marked_machine marks numbers m))).final i ≡ (graph_of (valued value m)).final p)
        places i p there =
            let at = kept_at marks numbers 0 m.states marks size agree i p there in
            let same : at.0 ≡ p = omega (arith, at.2) in
            let old = look value m p at.1 (ap (slice_get m.states) (sym same) ∙ at.3) in
            let new = look value (marked_machine marks numbers m) i (kept_state marks numbers at.1) at.4 in
            (subst (λ (zs : List (Arc Cost ℕ)). Kept (marked 0 marks) zs ((graph_of (valued value (marked_machine marks numbers m))).arcs i)) (sym old.0) (subst (λ (zs : List (Arc Cost ℕ)). Kept (marked 0 marks) (map (valued_arc value) at.1.arcs) zs) (sym new.0) (kept_is at.1.arcs)), new.1 ∙ sym old.1)

-- the finished machine
pub record Finished {V : Type 0} (value : V → Cost) (m new : Machine V) (kept : List ℕ) : Type 0 where
  pub machine : IsMachine value new
  pub connected : IsConnectedOn (valued value m) (valued value new) kept

pub finished : {V : Type 0} (value : V → Cost) (m new : Machine V) (items marks : List Bool) (numbers one two : List ℕ) (start : Option ℕ) → IsMachine value m → marks ≡ items → length items ≡ length m.states → ((p : ℕ) → Decides (get_or items p false) (IsUseful (graph_of (valued value m)) p)) → IsNumbering marks numbers → one ≡ numbers → two ≡ numbers → start ≡ m.start → new.start ≡ new_start marks two start → new.states ≡ marked_states marks one 0 m.states → Finished value m new (marked 0 marks)
finished {V} value m new items marks numbers one two start h same size useful numbering first second starts begins states =
    let count : length marks ≡ length m.states = ap length same ∙ size in
    let decides : (p : ℕ) → Decides (get_or marks p false) (IsUseful (graph_of (valued value m)) p) = subst (λ (ms : List Bool). (p : ℕ) → Decides (get_or ms p false) (IsUseful (graph_of (valued value m)) p)) (sym same) useful in
    let whole : Finished value m (marked_machine marks numbers m) (marked 0 marks) = record { machine = kept_is_machine value marks numbers numbering m count h; connected = kept_is_connected value marks numbers numbering m count decides } in
    let start_same : new.start ≡ new_start marks numbers m.start = begins ∙ (ap (λ (ns : List ℕ). new_start marks ns start) second ∙ ap (new_start marks numbers) starts) in
    let states_same : new.states ≡ marked_states marks numbers 0 m.states = states ∙ ap (λ (ns : List ℕ). marked_states marks ns 0 m.states) first in
    let machine : ◌≡◌ {A = Machine V} new (marked_machine marks numbers m) = ap (λ (s : Option ℕ). record { start = s; states = new.states }) start_same ∙ ap (λ (ss : List (State V)). record { start = new_start marks numbers m.start; states = ss }) states_same in
    subst (λ (n : Machine V). Finished value m n (marked 0 marks)) (sym machine) whole

module _ {V : Type 0} (marks : List Bool) (numbers : List ℕ) (states old : List (State V)) (k : ℕ) (low : k < length states) where
  -- the states that are left, and the next of them
  next_state : (s : State V) × (slice_get states k ≡ Some s) × (drop k states ≡ s ∷ drop (k + 1) states)
  next_state = by_case (slice_get_cases states k).1
    where
      by_case : ((x : State V) × (k < length states) × (slice_get states k ≡ Some x) × (get_or states k x ≡ x)) ⊎ ((length states ≤ k) × (slice_get states k ≡ None)) → (s : State V) × (slice_get states k ≡ Some s) × (drop k states ≡ s ∷ drop (k + 1) states)
      by_case (inl x) = (x.0, x.2, drop_here states k x.0 x.2)
      by_case (inr past) = absurd (omega (arith, past.0))

  total_more : (s : State V) → slice_get states k ≡ Some s → arc_total (take (k + 1) states) ≡ arc_total (take k states) + length s.arcs
  total_more s there = sum_by_more (λ (t : State V). length t.arcs) states k s low ∙ ap (λ (t : State V). arc_total (take k states) + length t.arcs) (get_or_from_slice_get states k s s there)

  -- a state that is not marked
  pub skip_state : get_or marks k false ≡ false → old ++ marked_states marks numbers k (drop k states) ≡ marked_states marks numbers 0 states → arc_total old ≤ arc_total (take k states) → (old ++ marked_states marks numbers (k + 1) (drop (k + 1) states) ≡ marked_states marks numbers 0 states) × (arc_total old ≤ arc_total (take (k + 1) states))
  skip_state none built few =
      let s = next_state in
      let left : marked_states marks numbers k (drop k states) ≡ marked_states marks numbers (k + 1) (drop (k + 1) states) = ap (marked_states marks numbers k) s.2 ∙ ap (λ (b : Bool). cond b (kept_state marks numbers s.0 ∷ marked_states marks numbers (k + 1) (drop (k + 1) states)) (marked_states marks numbers (k + 1) (drop (k + 1) states))) none in
      (ap (λ (ss : List (State V)). old ++ ss) (sym left) ∙ built, omega (arith, total_more s.0 s.1))

  -- one that is
  pub keep_state : (w : V) (arcs new : List (Arc V ℕ)) (more : List (State V)) → get_or marks k false ≡ true → option_map (λ s. s.final) (slice_get states k) ≡ Some w → option_map (λ s. s.arcs) (slice_get states k) ≡ Some arcs → new ≡ marked_arcs marks numbers arcs → more ≡ old ++ record { final = w; arcs = new } ∷ [] → old ++ marked_states marks numbers k (drop k states) ≡ marked_states marks numbers 0 states → arc_total old ≤ arc_total (take k states) → (more ++ marked_states marks numbers (k + 1) (drop (k + 1) states) ≡ marked_states marks numbers 0 states) × (arc_total more ≤ arc_total (take (k + 1) states))
  keep_state w arcs new more mark final has is put built few =
      let s = next_state in
      let there : slice_get states k ≡ Some s.0 = s.1 in
      let last = mapped_some (λ (t : State V). t.final) (slice_get states k) w final in
      let own = mapped_some (λ (t : State V). t.arcs) (slice_get states k) arcs has in
      let one : Some last.0 ≡ Some s.0 = sym last.1 ∙ there in
      let two : Some own.0 ≡ Some s.0 = sym own.1 ∙ there in
      let same_last : last.0 ≡ s.0 = cc in
      let same_own : own.0 ≡ s.0 = cc in
      let weight : w ≡ s.0.final = sym last.2 ∙ ap (λ (t : State V). t.final) same_last in
      let listed : arcs ≡ s.0.arcs = sym own.2 ∙ ap (λ (t : State V). t.arcs) same_own in
      let behind = marked_states marks numbers (k + 1) (drop (k + 1) states) in
      let state : ◌≡◌ {A = State V} (record { final = w; arcs = new }) (kept_state marks numbers s.0) = ap (λ (v : V). record { final = v; arcs = new }) weight ∙ ap (λ (zs : List (Arc V ℕ)). record { final = s.0.final; arcs = zs }) (is ∙ ap (marked_arcs marks numbers) listed) in
      let left : marked_states marks numbers k (drop k states) ≡ kept_state marks numbers s.0 ∷ behind = ap (marked_states marks numbers k) s.2 ∙ ap (λ (b : Bool). cond b (kept_state marks numbers s.0 ∷ behind) behind) mark in
      let grown : more ≡ old ++ kept_state marks numbers s.0 ∷ [] = put ∙ ap (λ (t : State V). old ++ t ∷ []) state in
      let total : arc_total more ≡ arc_total old + length (marked_arcs marks numbers s.0.arcs) = ap arc_total grown ∙ sum_by_push (λ (t : State V). length t.arcs) old (kept_state marks numbers s.0) in
      let fewer = marked_arcs-few marks numbers s.0.arcs in
      (ap (λ (ss : List (State V)). ss ++ behind) grown ∙ (append_assoc old (kept_state marks numbers s.0 ∷ []) behind ∙ (ap (λ (ss : List (State V)). old ++ ss) (sym left) ∙ built)), omega (arith, total_more s.0 there))

  -- there is room for its arcs
  pub room_for : (arcs : List (Arc V ℕ)) (new : List (Arc V ℕ)) (n : ℕ) → option_map (λ s. s.arcs) (slice_get states k) ≡ Some arcs → new ≡ marked_arcs marks numbers arcs → arc_total old ≤ arc_total (take k states) → arc_total states ≤ n → arc_total old + length new ≤ n
  room_for arcs new n has is few most =
      let own = mapped_some (λ (t : State V). t.arcs) (slice_get states k) arcs has in
      let more = total_more own.0 own.1 in
      let cut = sum_by-take-le (λ (t : State V). length t.arcs) states (k + 1) in
      let fewer = marked_arcs-few marks numbers arcs in
      let size : length new ≡ length (marked_arcs marks numbers arcs) = ap length is in
      let count : length own.0.arcs ≡ length arcs = ap length own.2 in
      omega arith
