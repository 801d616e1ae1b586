-- Machines with other labels.
use Rattle.std.proofs.Common.{◌≡◌, ◌↔◌, ◌≤◌, ◌<◌, ◌==◌, ℕ, zero, suc, Bool, true, false, cond, List, [], ◌∷◌, ◌++◌, None, length, map, slice_get, sym, refl, ap, ap₂, ◌∙◌, subst, append-nil, arith}
use Rattle.std.specs.Prelude.{IfSome}
use Rattle.std.specs.List.{All}
use Rattle.std.proofs.Math.ListN.{get_or-map}
use Rattle.std.proofs.lemmas.Bool.Decides.{nat_tests}
use Rattle.std.proofs.lemmas.List.{length-map}
use Rattle.std.proofs.lemmas.List.Elements.{All-head, All-map, All-tail, All-weaker}
use Rattle.std.proofs.lemmas.List.Sums.{sum_by-cons}
use Rattle.fst_semiring.specs.Cost.{Cost, infinite}
use Rattle.fst_semiring.specs.declared.arc_type.ArcType.{ArcType}
use Rattle.fst_semiring.specs.Semiring.{times}
use Rattle.fst_machine.specs.Machine.{Arc, State, Machine, IsArc, IsMachine, arc_total, greatest_label, valued_state}
use Rattle.fst_machine.specs.Graph.{graph_of, no_state}
use Rattle.fst_machine.specs.Letters.{Letter, before, input, output, product}
use Rattle.fst_machine.specs.Paths.{Transition, IsPath, letters}
use Rattle.fst_machine.specs.Relation.{Rel}
use Rattle.fst_machine.proofs.Arcs.{mapped_at, at_mapped}
use Rattle.fst_rational.specs.Changing.{changed_state}
use Rattle.fst_rational.specs.Labels.{KeepsRange, Rule, Pair, labelled, labelled_state, labelled_machine, input_side, output_side, side, inverted, projected, relabelled, new_label, replaced}
use Rattle.fst_rational.specs.Relations.{Inverts, Projects, Relabels}

module _ (reads writes : Rule) where
  -- what a letter becomes
  abbrev pub said : Letter → Letter
  said l = record { ilabel = reads l.ilabel l.olabel; olabel = writes l.ilabel l.olabel; weight = l.weight }

  -- what a path becomes
  abbrev pub spoken : List (Transition ℕ) → List (Transition ℕ)
  spoken path = map (λ t. record { state = t.state; place = t.place; arc = labelled reads writes t.arc }) path

  letters-spoken : (path : List (Transition ℕ)) → letters (spoken path) ≡ map said (letters path)
  letters-spoken [] = refl
  letters-spoken (t ∷ path) = ap (λ ls. record { ilabel = reads t.arc.ilabel t.arc.olabel; olabel = writes t.arc.ilabel t.arc.olabel; weight = t.arc.weight } ∷ ls) (letters-spoken path)

  product-said : (kind : ArcType) (ls : List Letter) → product kind (map said ls) ≡ product kind ls
  product-said kind [] = refl
  product-said kind (l ∷ ls) = ap (times kind l.weight) (product-said kind ls)

  module _ (m : Machine Cost) where
    arcs-labelled : (p : ℕ) → (graph_of (labelled_machine reads writes m)).arcs p ≡ map (labelled reads writes) ((graph_of m).arcs p)
    arcs-labelled p = ap (λ (s : State Cost). s.arcs) (get_or-map (labelled_state reads writes) m.states p no_state)

    final-labelled : (p : ℕ) → (graph_of (labelled_machine reads writes m)).final p ≡ (graph_of m).final p
    final-labelled p = ap (λ (s : State Cost). s.final) (get_or-map (labelled_state reads writes) m.states p no_state)

    spoken_path : (p q : ℕ) (path : List (Transition ℕ)) → IsPath (graph_of m) p path q → IsPath (graph_of (labelled_machine reads writes m)) p (spoken path) q
    spoken_path p q [] here = here
    spoken_path p q (t ∷ path) leads = ((leads.0.0, ap (λ arcs. slice_get arcs t.place) (arcs-labelled p) ∙ at_mapped (labelled reads writes) ((graph_of m).arcs p) t.place t.arc leads.0.1), spoken_path t.arc.next q path leads.1)

    spoken_back : (p q : ℕ) (path : List (Transition ℕ)) → IsPath (graph_of (labelled_machine reads writes m)) p path q → (old : List (Transition ℕ)) × IsPath (graph_of m) p old q × (spoken old ≡ path)
    spoken_back p q [] here = ([], here, refl)
    spoken_back p q (t ∷ path) leads =
        let from = mapped_at (labelled reads writes) ((graph_of m).arcs p) t.place t.arc (ap (λ arcs. slice_get arcs t.place) (sym (arcs-labelled p)) ∙ leads.0.1) in
        let goes : IsPath (graph_of (labelled_machine reads writes m)) from.0.next path q = subst (λ (a : Arc Cost ℕ). IsPath (graph_of (labelled_machine reads writes m)) a.next path q) (sym from.2) leads.1 in
        let rest = spoken_back from.0.next q path goes in
        let same : ◌≡◌ {A = Transition ℕ} (record { state = t.state; place = t.place; arc = labelled reads writes from.0 }) t = λ i. record { state = t.state; place = t.place; arc = from.2 i } in
        (record { state = t.state; place = t.place; arc = from.0 } ∷ rest.0, ((leads.0.0, from.1), rest.1), ap₂ (◌∷◌) same rest.2)

    -- a triple of the machine gives one
    pub labelled_there : (kind : ArcType) (x y : List ℕ) (w : Cost) → (r : Rel kind (graph_of m) x y w) → Rel kind (graph_of (labelled_machine reads writes m)) (input (map said (letters r.says.path))) (output (map said (letters r.says.path))) w
    labelled_there kind x y w r =
        let same = letters-spoken r.says.path in
        let final = final-labelled r.says.last in
        record {
          first = r.first;
          starts = r.starts;
          says = record {
            path = spoken r.says.path;
            last = r.says.last;
            leads = spoken_path r.first r.says.last r.says.path r.says.leads;
            final = subst (λ (z : Cost). z ≡ infinite → ⊥) (sym final) r.says.final;
            reads = ap input (sym same);
            writes = ap output (sym same);
            weight = r.says.weight ∙ ap₂ (times kind) (sym (product-said kind (letters r.says.path)) ∙ ap (product kind) (sym same)) (sym final);
          };
        }

    -- and each triple comes of one
    pub labelled_back : (kind : ArcType) (x y : List ℕ) (w : Cost) → Rel kind (graph_of (labelled_machine reads writes m)) x y w → (ls : List Letter) × Rel kind (graph_of m) (input ls) (output ls) w × (x ≡ input (map said ls)) × (y ≡ output (map said ls))
    labelled_back kind x y w r =
        let old = spoken_back r.first r.says.last r.says.path r.says.leads in
        let same : letters r.says.path ≡ map said (letters old.0) = ap letters (sym old.2) ∙ letters-spoken old.0 in
        let final = final-labelled r.says.last in (
          letters old.0,
          record {
            first = r.first;
            starts = r.starts;
            says = record {
              path = old.0;
              last = r.says.last;
              leads = old.1;
              final = subst (λ (z : Cost). z ≡ infinite → ⊥) final r.says.final;
              reads = refl;
              writes = refl;
              weight = r.says.weight ∙ ap₂ (times kind) (ap (product kind) same ∙ product-said kind (letters old.0)) final;
            };
          },
          r.says.reads ∙ ap input same,
          r.says.writes ∙ ap output same,
        )

-- ---- the machine

module _ (reads writes : Rule) where
  -- the states, changed in nothing but labels
  pub changed_labelled : (states : List (State Cost)) → map (changed_state (labelled reads writes) (λ w. w) None) states ≡ map (labelled_state reads writes) states
  changed_labelled [] = refl
  changed_labelled (s ∷ states) = ap₂ (λ arcs ss. record { final = s.final; arcs = arcs } ∷ ss) (append-nil (map (labelled reads writes) s.arcs)) (changed_labelled states)

  -- these states alone were put
  pub only_labelled : {V : Type 0} (value : V → Cost) (states old new : List (State V)) → old ≡ [] → map (valued_state value) new ≡ map (valued_state value) old ++ map (changed_state (labelled reads writes) (λ w. w) None) (map (valued_state value) states) → map (valued_state value) new ≡ map (labelled_state reads writes) (map (valued_state value) states)
  only_labelled {V} value states old new none put = put ∙ (ap (λ (ss : List (State V)). map (valued_state value) ss ++ map (changed_state (labelled reads writes) (λ w. w) None) (map (valued_state value) states)) none ∙ changed_labelled (map (valued_state value) states))

  -- the arcs are as many
  pub arc_total-labelled : (states : List (State Cost)) → arc_total (map (labelled_state reads writes) states) ≡ arc_total states
  arc_total-labelled [] = refl
  arc_total-labelled (s ∷ states) =
      let all = sum_by-cons (λ (t : State Cost). length t.arcs) (labelled_state reads writes s) (map (labelled_state reads writes) states) in
      let own = sum_by-cons (λ (t : State Cost). length t.arcs) s states in
      let rest = arc_total-labelled states in
      let same = length-map s.arcs (labelled {V = Cost} {N = ℕ} reads writes) in
      omega (arith, all, own, rest, same)

  -- it is a machine where new labels are in range
  pub IsMachine-labelled : (m : Machine Cost) → KeepsRange reads writes → IsMachine (λ v. v) m → IsMachine (λ v. v) (labelled_machine reads writes m)
  IsMachine-labelled m small h =
      let n = length m.states in
      let same : length (map (labelled_state reads writes) m.states) ≡ n = length-map m.states (labelled_state reads writes) in
      record {
        start = subst (λ (k : ℕ). IfSome m.start (λ s. s < k)) (sym same) h.start;
        arcs = subst (λ (k : ℕ). All (λ s. All (IsArc (λ v. v) k) s.arcs) (map (labelled_state reads writes) m.states)) (sym same)
            (All-map (λ s. All (IsArc (λ v. v) n) s.arcs) (labelled_state reads writes) m.states
            (All-weaker (λ s. All (IsArc (λ v. v) n) s.arcs) (λ s. All (IsArc (λ v. v) n) (labelled_state reads writes s).arcs)
            (λ s good. All-map (IsArc (λ v. v) n) (labelled reads writes) s.arcs (All-weaker (IsArc (λ v. v) n) (λ a. IsArc (λ v. v) n (labelled reads writes a)) (λ a b. record { ilabel = (small a.ilabel a.olabel b.ilabel b.olabel).0; olabel = (small a.ilabel a.olabel b.ilabel b.olabel).1; weight = b.weight; next = b.next }) s.arcs good))
            m.states h.arcs));
        few_states = omega (arith, same, h.few_states);
        few_arcs = omega (arith, arc_total-labelled m.states, h.few_arcs);
      }

-- the label of a side is in range
pub side-range : (written : Bool) → KeepsRange (side written) (side written)
side-range true i o one two = (two, two)
side-range false i o one two = (one, one)

-- so is a new label
pub new_label-range : (pairs : List Pair) (n : ℕ) → All (λ p. (p.old ≤ greatest_label) × (p.new ≤ greatest_label)) pairs → n ≤ greatest_label → new_label pairs n ≤ greatest_label
new_label-range [] n h low = low
new_label-range (p ∷ pairs) n h low = by_test (n == p.old) (new_label-range pairs n (All-tail (λ q. (q.old ≤ greatest_label) × (q.new ≤ greatest_label)) p pairs h) low)
  where
    by_test : (b : Bool) → new_label pairs n ≤ greatest_label → cond b p.new (new_label pairs n) ≤ greatest_label
    by_test true more = (All-head (λ q. (q.old ≤ greatest_label) × (q.new ≤ greatest_label)) p pairs h).1
    by_test false more = more

-- epsilon is no old label
pub new_label-epsilon : (pairs : List Pair) → All (λ p. 0 < p.old) pairs → new_label pairs 0 ≡ 0
new_label-epsilon [] h = refl
new_label-epsilon (p ∷ pairs) h = by_label p.old (All-head (λ q. 0 < q.old) p pairs h) (new_label-epsilon pairs (All-tail (λ q. 0 < q.old) p pairs h))
  where
    by_label : (n : ℕ) → 0 < n → new_label pairs 0 ≡ 0 → cond (0 == n) p.new (new_label pairs 0) ≡ 0
    by_label zero low more = absurd (omega arith)
    by_label (suc n) low more = let other : (0 == suc n) ≡ false = grind (arith, nat_tests) in ap (λ b. cond b p.new (new_label pairs 0)) other ∙ more

-- ---- the relation

-- a relation at equal strings
at : (R : List ℕ → List ℕ → Type 0) (x u y v : List ℕ) → x ≡ u → y ≡ v → R x y → R u v
at R x u y v e f r = subst (λ z. R u z) f (subst (λ z. R z y) e r)

-- letters with labels swapped
input-swapped : (ls : List Letter) → input (map (said output_side input_side) ls) ≡ output ls
input-swapped [] = refl
input-swapped (l ∷ ls) = ap (before l.olabel) (input-swapped ls)

output-swapped : (ls : List Letter) → output (map (said output_side input_side) ls) ≡ input ls
output-swapped [] = refl
output-swapped (l ∷ ls) = ap (before l.ilabel) (output-swapped ls)

-- inversion swaps the strings
pub inverted-Inverts : (kind : ArcType) (a : Machine Cost) → Inverts kind a (inverted a)
inverted-Inverts kind a x y w = (back, there)
  where
    back : Rel kind (graph_of (inverted a)) x y w → Rel kind (graph_of a) y x w
    back r =
        let old = labelled_back output_side input_side a kind x y w r in
        at (λ u v. Rel kind (graph_of a) u v w) (input old.0) y (output old.0) x (sym (output-swapped old.0) ∙ sym old.3) (sym (input-swapped old.0) ∙ sym old.2) old.1

    there : Rel kind (graph_of a) y x w → Rel kind (graph_of (inverted a)) x y w
    there r =
        let new = labelled_there output_side input_side a kind y x w r in
        at (λ u v. Rel kind (graph_of (inverted a)) u v w) _ x _ y (input-swapped (letters r.says.path) ∙ sym r.says.writes) (output-swapped (letters r.says.path) ∙ sym r.says.reads) new

-- letters with one side's label on both sides
read_both : (ls : List Letter) → (input (map (said input_side input_side) ls) ≡ input ls) × (output (map (said input_side input_side) ls) ≡ input ls)
read_both [] = (refl, refl)
read_both (l ∷ ls) = (ap (before l.ilabel) (read_both ls).0, ap (before l.ilabel) (read_both ls).1)

written_both : (ls : List Letter) → (input (map (said output_side output_side) ls) ≡ output ls) × (output (map (said output_side output_side) ls) ≡ output ls)
written_both [] = (refl, refl)
written_both (l ∷ ls) = (ap (before l.olabel) (written_both ls).0, ap (before l.olabel) (written_both ls).1)

-- projection to the input side
projected_read : (kind : ArcType) (a : Machine Cost) (x y : List ℕ) (w : Cost) → Rel kind (graph_of (projected false a)) x y w ↔ ((z : List ℕ) × Rel kind (graph_of a) x z w × (y ≡ x))
projected_read kind a x y w = (back, there)
  where
    back : Rel kind (graph_of (projected false a)) x y w → (z : List ℕ) × Rel kind (graph_of a) x z w × (y ≡ x)
    back r =
        let old = labelled_back input_side input_side a kind x y w r in
        let same : x ≡ input old.0 = old.2 ∙ (read_both old.0).0 in
        (output old.0, subst (λ z. Rel kind (graph_of a) z (output old.0) w) (sym same) old.1, old.3 ∙ ((read_both old.0).1 ∙ sym same))

    there : (z : List ℕ) × Rel kind (graph_of a) x z w × (y ≡ x) → Rel kind (graph_of (projected false a)) x y w
    there h =
        let r = h.1 in
        let new = labelled_there input_side input_side a kind x h.0 w r in
        at (λ u v. Rel kind (graph_of (projected false a)) u v w) _ x _ y ((read_both (letters r.says.path)).0 ∙ sym r.says.reads) ((read_both (letters r.says.path)).1 ∙ (sym r.says.reads ∙ sym h.2)) new

-- projection to the output side
projected_written : (kind : ArcType) (a : Machine Cost) (x y : List ℕ) (w : Cost) → Rel kind (graph_of (projected true a)) x y w ↔ ((z : List ℕ) × Rel kind (graph_of a) z x w × (y ≡ x))
projected_written kind a x y w = (back, there)
  where
    back : Rel kind (graph_of (projected true a)) x y w → (z : List ℕ) × Rel kind (graph_of a) z x w × (y ≡ x)
    back r =
        let old = labelled_back output_side output_side a kind x y w r in
        let same : x ≡ output old.0 = old.2 ∙ (written_both old.0).0 in
        (input old.0, subst (λ z. Rel kind (graph_of a) (input old.0) z w) (sym same) old.1, old.3 ∙ ((written_both old.0).1 ∙ sym same))

    there : (z : List ℕ) × Rel kind (graph_of a) z x w × (y ≡ x) → Rel kind (graph_of (projected true a)) x y w
    there h =
        let r = h.1 in
        let new = labelled_there output_side output_side a kind h.0 x w r in
        at (λ u v. Rel kind (graph_of (projected true a)) u v w) _ x _ y ((written_both (letters r.says.path)).0 ∙ sym r.says.writes) ((written_both (letters r.says.path)).1 ∙ (sym r.says.writes ∙ sym h.2)) new

-- projection puts one string on both sides
pub projected-Projects : (kind : ArcType) (written : Bool) (a : Machine Cost) → Projects kind written a (projected written a)
projected-Projects kind false a = projected_read kind a
projected-Projects kind true a = projected_written kind a

-- ---- relabelling

-- a label before a string is replaced, where epsilon stays
replaced-before : (pairs : List Pair) → new_label pairs 0 ≡ 0 → (n : ℕ) (ns : List ℕ) → replaced pairs (before n ns) ≡ before (new_label pairs n) (replaced pairs ns)
replaced-before pairs stays zero ns = ap (λ (k : ℕ). before k (replaced pairs ns)) (sym stays)
replaced-before pairs stays (suc n) ns = refl

module _ (reads writes : List Pair) (read_stays : new_label reads 0 ≡ 0) (written_stays : new_label writes 0 ≡ 0) where
  input-relabelled : (ls : List Letter) → input (map (said (λ i o. new_label reads i) (λ i o. new_label writes o)) ls) ≡ replaced reads (input ls)
  input-relabelled [] = refl
  input-relabelled (l ∷ ls) = ap (before (new_label reads l.ilabel)) (input-relabelled ls) ∙ sym (replaced-before reads read_stays l.ilabel (input ls))

  output-relabelled : (ls : List Letter) → output (map (said (λ i o. new_label reads i) (λ i o. new_label writes o)) ls) ≡ replaced writes (output ls)
  output-relabelled [] = refl
  output-relabelled (l ∷ ls) = ap (before (new_label writes l.olabel)) (output-relabelled ls) ∙ sym (replaced-before writes written_stays l.olabel (output ls))

  -- relabelling replaces labels
  pub relabelled-Relabels : (kind : ArcType) (a : Machine Cost) → Relabels kind reads writes a (relabelled reads writes a)
  relabelled-Relabels kind a x y w = (back, there)
    where
      back : Rel kind (graph_of (relabelled reads writes a)) x y w → (u v : List ℕ) × Rel kind (graph_of a) u v w × (x ≡ replaced reads u) × (y ≡ replaced writes v)
      back r =
          let old = labelled_back (λ i o. new_label reads i) (λ i o. new_label writes o) a kind x y w r in
          (input old.0, output old.0, old.1, old.2 ∙ input-relabelled old.0, old.3 ∙ output-relabelled old.0)

      there : (u v : List ℕ) × Rel kind (graph_of a) u v w × (x ≡ replaced reads u) × (y ≡ replaced writes v) → Rel kind (graph_of (relabelled reads writes a)) x y w
      there h =
          let r = h.2 in
          let new = labelled_there (λ i o. new_label reads i) (λ i o. new_label writes o) a kind h.0 h.1 w r in
          at (λ u v. Rel kind (graph_of (relabelled reads writes a)) u v w) _ x _ y (input-relabelled (letters r.says.path) ∙ (ap (replaced reads) (sym r.says.reads) ∙ sym h.3)) (output-relabelled (letters r.says.path) ∙ (ap (replaced writes) (sym r.says.writes) ∙ sym h.4)) new
