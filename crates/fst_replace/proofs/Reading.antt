-- What a replacement relates: its paths are those of the machines of its rules, with each call read as a triple of
-- the rule that is called.
use Rattle.std.proofs.Common.{◌≡◌, ◌⊎◌, ◌↔◌, inl, inr, ℕ, ◌+◌, ◌<◌, zero, suc, false, List, [], ◌∷◌, ◌++◌, Option, None, Some, length, slice_get, refl, sym, ap, ◌∙◌, subst, append_assoc, arith}
use Rattle.std.specs.Prelude.{IfSome}
use Rattle.fst_semiring.specs.Cost.{Cost, infinite}
use Rattle.fst_semiring.specs.declared.arc_type.ArcType.{ArcType}
use Rattle.fst_semiring.specs.Semiring.{one_of, times}
use Rattle.fst_semiring.proofs.Laws.{times_assoc, one_times}
use Rattle.fst_machine.specs.Machine.{Arc, State, Machine, IsMachine}
use Rattle.fst_machine.specs.Continuing.{Continues, Stays, epsilon_arc}
use Rattle.fst_machine.specs.Graph.{graph_of}
use Rattle.fst_machine.specs.Letters.{before, input, output, product}
use Rattle.fst_machine.specs.Paths.{Transition, IsPath, letters}
use Rattle.fst_machine.specs.Relation.{RelFrom}
use Rattle.fst_machine.proofs.Futures.{RelFrom-arc, RelFrom-end}
use Rattle.fst_rational.specs.Relations.{Triple}
use Rattle.fst_rational.proofs.Blocks.{HasArcs, Inside, block_continues, block_final, next_inside}
use Rattle.fst_rational.proofs.Continued.{Splits, continue_says, continue_splits}
use Rattle.fst_replace.specs.Calls.{Calling, arcs_of, call_of, calling, calls_in}
use Rattle.fst_replace.specs.Expansion.{Shape, blocks_size, entered, entered_by, entry, expanded, expansion, replaced, shape_of}
use Rattle.fst_replace.specs.Relation.{IsRead, IsReadFrom, IsReplacedTriple, ReadsArc, ReadsPath, Replaces}
use Rattle.fst_replace.specs.Rules.{IsRules, Labelled, labels_of, machine_at, place_of, valued_rules}
use Rattle.fst_replace.proofs.Emitting.{size-append}
use Rattle.fst_replace.proofs.Goodness.{GoodMachine, expansion_good}
use Rattle.fst_replace.proofs.Totalling.{rule_machine}
use Rattle.fst_replace.proofs.Placing.{IsBlockAt, IsEntered, IsPlaced, block_stands, own_state, placed_has, placed_only, state_entered}

-- a label before a string, and before the string behind it
before-append : (l : ℕ) (xs : List ℕ) → before l [] ++ xs ≡ before l xs
before-append zero xs = refl
before-append (suc l) xs = refl

module _ (kind : ArcType) (labels : List ℕ) (m : ℕ → Machine Cost) (a : Machine Cost) (good : (r : ℕ) → GoodMachine (m r)) (fine : HasArcs a) where
  abbrev said : ℕ → List ℕ → List ℕ → Cost → Type 0
  said r = Triple kind (m r)

  abbrev e : Machine Cost
  e = expanded labels m a

  abbrev shape : ℕ → Shape
  shape r = shape_of (m r)

  -- ---- what stands in the expansion

  own_final : (p : ℕ) → p < length a.states → (graph_of e).final p ≡ (graph_of a).final p
  own_final p low = ap (λ (z : State Cost). z.final) (own_state labels m a p low ∙ (state_entered labels shape (length a.states) a.states p low).state)

  own_arcs : (p : ℕ) (low : p < length a.states) → (graph_of e).arcs p ≡ entered labels shape (length a.states + blocks_size labels shape (state_entered labels shape (length a.states) a.states p low).front) ((graph_of a).arcs p)
  own_arcs p low = ap (λ (z : State Cost). z.arcs) (own_state labels m a p low ∙ (state_entered labels shape (length a.states) a.states p low).state)

  -- The block of a call that the arc b makes stands at q.
  abbrev HasBlock : ℕ → Arc Cost ℕ → Option ℕ → Type 0
  HasBlock q b None = Unit {0}
  HasBlock q b (Some r) = IsBlockAt m e.states q r b.next

  block_of : (q : ℕ) (b : Arc Cost ℕ) (o : Option ℕ) (front back : List Calling) → calls_in labels (arcs_of a.states) ≡ front ++ (calling o b.next ++ back) → q ≡ length a.states + blocks_size labels shape front → HasBlock q b o
  block_of q b None front back calls at = tt
  block_of q b (Some r) front back calls at = subst (λ (n : ℕ). IsBlockAt m e.states n r b.next) (sym at) (block_stands labels m a front back (record { rule = r; next = b.next }) calls)

  -- what stands for an arc of the machine, from where its block stands
  pub record IsEnteredAt (p : ℕ) (b : Arc Cost ℕ) : Type 0 where
    pub q : ℕ
    pub block : HasBlock q b (place_of labels b.olabel)
    pub stands : (j : ℕ) (d : Arc Cost ℕ) → slice_get (entered_by shape q b (place_of labels b.olabel)) j ≡ Some d → (i : ℕ) × (slice_get ((graph_of e).arcs p) i ≡ Some d)

  calls_around : (p : ℕ) (low : p < length a.states) (b : Arc Cost ℕ) → (f : IsEntered labels shape (length a.states) a.states p) → (g : IsPlaced labels shape (length a.states + blocks_size labels shape f.front) ((graph_of a).arcs p) b) → calls_in labels (arcs_of a.states) ≡ (f.front ++ g.front) ++ (call_of labels b ++ (g.back ++ f.back))
  calls_around p low b f g =
      f.calls ∙ (ap (λ cs. f.front ++ (cs ++ f.back)) g.calls
      ∙ (ap (λ cs. f.front ++ cs) (append_assoc g.front (call_of labels b ++ g.back) f.back ∙ ap (λ cs. g.front ++ cs) (append_assoc (call_of labels b) g.back f.back))
      ∙ sym (append_assoc f.front g.front (call_of labels b ++ (g.back ++ f.back)))))

  place_around : (front more : List Calling) → length a.states + blocks_size labels shape front + blocks_size labels shape more ≡ length a.states + blocks_size labels shape (front ++ more)
  place_around front more = let both = size-append labels shape front more in omega (arith, both)

  arc_enters : (p : ℕ) → p < length a.states → (k : ℕ) (b : Arc Cost ℕ) → slice_get ((graph_of a).arcs p) k ≡ Some b → IsEnteredAt p b
  arc_enters p low k b has =
      let f = state_entered labels shape (length a.states) a.states p low in
      let at = length a.states + blocks_size labels shape f.front in
      let placed = placed_has labels shape at ((graph_of a).arcs p) k b has in
      record {
        q = at + blocks_size labels shape placed.0.front;
        block = block_of (at + blocks_size labels shape placed.0.front) b (place_of labels b.olabel) (f.front ++ placed.0.front) (placed.0.back ++ f.back) (calls_around p low b f placed.0) (place_around f.front placed.0.front);
        stands = λ j d there. let found = placed.1 j d there in (found.0, ap (λ arcs. slice_get arcs found.0) (own_arcs p low) ∙ found.1);
      }

  -- an arc of the expansion stands for an arc of the machine
  pub record StandsFor (p : ℕ) (d : Arc Cost ℕ) : Type 0 where
    pub place : ℕ
    pub arc : Arc Cost ℕ
    pub has : slice_get ((graph_of a).arcs p) place ≡ Some arc
    pub q : ℕ
    pub block : HasBlock q arc (place_of labels arc.olabel)
    pub at : ℕ
    pub stands : slice_get (entered_by shape q arc (place_of labels arc.olabel)) at ≡ Some d

  arc_stands : (p : ℕ) → p < length a.states → (i : ℕ) (d : Arc Cost ℕ) → slice_get ((graph_of e).arcs p) i ≡ Some d → StandsFor p d
  arc_stands p low i d has =
      let f = state_entered labels shape (length a.states) a.states p low in
      let from = length a.states + blocks_size labels shape f.front in
      let one = placed_only labels shape from ((graph_of a).arcs p) i d (ap (λ arcs. slice_get arcs i) (sym (own_arcs p low)) ∙ has) in
      record {
        place = one.0;
        arc = one.1;
        has = one.2;
        q = from + blocks_size labels shape one.3.front;
        block = block_of (from + blocks_size labels shape one.3.front) one.1 (place_of labels one.1.olabel) (f.front ++ one.3.front) (one.3.back ++ f.back) (calls_around p low one.1 f one.3) (place_around f.front one.3.front);
        at = one.4;
        stands = one.5;
      }

  -- ---- a block says what its machine says, and goes on

  block_goes : (q r c : ℕ) → IsBlockAt m e.states q r c → Continues (λ n. q + n) (graph_of (m r)) (graph_of e) (Inside (m r)) c
  block_goes q r c b = block_continues (m r) e (good r).arcs q false (Some c) b.front b.back b.whole b.before c refl

  block_mute : (q r c : ℕ) → IsBlockAt m e.states q r c → (n : ℕ) → n < length (m r).states → (graph_of e).final (q + n) ≡ infinite
  block_mute q r c b n low = block_final (m r) e (good r).arcs q false (Some c) b.front b.back b.whole b.before n low

  start_low : (r s : ℕ) → (m r).start ≡ Some s → s < length (m r).states
  start_low r s starts = subst (λ (o : Option ℕ). IfSome o (λ s. s < length (m r).states)) starts (good r).start

  -- ---- what is read is said

  -- an arc of the expansion, and what is said from its end on
  arc_says : (p i : ℕ) (d : Arc Cost ℕ) (x y : List ℕ) (w : Cost) → slice_get ((graph_of e).arcs p) i ≡ Some d → RelFrom kind (graph_of e) d.next x y w → RelFrom kind (graph_of e) p (before d.ilabel x) (before d.olabel y) (times kind d.weight w)
  arc_says p i d x y w has says = RelFrom-arc kind (graph_of e) p (before d.ilabel x) (before d.olabel y) (times kind d.weight w) (record { place = i; arc = d; has = has; input_rest = x; output_rest = y; weight_rest = w; says = says; reads = refl; writes = refl; weight = refl })

  arc_read : (p : ℕ) (b : Arc Cost ℕ) (o : Option ℕ) (q : ℕ) → HasBlock q b o → ((j : ℕ) (d : Arc Cost ℕ) → slice_get (entered_by shape q b o) j ≡ Some d → (i : ℕ) × (slice_get ((graph_of e).arcs p) i ≡ Some d)) → (x y u v : List ℕ) (w k : Cost) → ReadsArc kind labels said b o x y w → RelFrom kind (graph_of e) b.next u v k → RelFrom kind (graph_of e) p (x ++ u) (y ++ v) (times kind w k)
  arc_read p b None q block stands x y u v w k reads says =
      let there = stands 0 b refl in
      let here = arc_says p there.0 b u v k there.1 says in
      let one : before b.ilabel u ≡ x ++ u = sym (ap (λ zs. zs ++ u) reads.0 ∙ before-append b.ilabel u) in
      let two : before b.olabel v ≡ y ++ v = sym (ap (λ zs. zs ++ v) reads.1 ∙ before-append b.olabel v) in
      let three : times kind b.weight k ≡ times kind w k = ap (λ z. times kind z k) (sym reads.2) in
      subst (λ z. RelFrom kind (graph_of e) p (x ++ u) (y ++ v) z) three (subst (λ z. RelFrom kind (graph_of e) p (x ++ u) z (times kind b.weight k)) two (subst (λ z. RelFrom kind (graph_of e) p z (before b.olabel v) (times kind b.weight k)) one here))
  arc_read p b (Some r) q block stands x y u v w k reads says =
      let triple = reads.1 in
      let s = triple.first in
      let entry_is : entry b.weight q (m r).start ≡ epsilon_arc b.weight (q + s) ∷ [] = ap (entry b.weight q) triple.starts in
      let there = stands 0 (epsilon_arc b.weight (q + s)) (ap (λ (arcs : List (Arc Cost ℕ)). slice_get arcs 0) entry_is) in
      let inside = continue_says kind (λ n. q + n) (graph_of (m r)) (graph_of e) (Inside (m r)) b.next (block_goes q r b.next block) s x y u v reads.0 k (start_low r s triple.starts) triple.says says in
      let here = arc_says p there.0 (epsilon_arc b.weight (q + s)) (x ++ u) (y ++ v) (times kind reads.0 k) there.1 inside in
      let weight : times kind b.weight (times kind reads.0 k) ≡ times kind w k = sym (times_assoc kind b.weight reads.0 k) ∙ ap (λ z. times kind z k) (sym reads.2) in
      subst (λ z. RelFrom kind (graph_of e) p (x ++ u) (y ++ v) z) weight here

  path_read : (path : List (Transition ℕ)) (p last : ℕ) (x y : List ℕ) (w : Cost) → p < length a.states → IsPath (graph_of a) p path last → ((graph_of a).final last ≡ infinite → ⊥) → ReadsPath kind labels said path x y w → RelFrom kind (graph_of e) p x y (times kind w ((graph_of a).final last))
  path_read [] p last x y w low here final reads =
      let same : (graph_of e).final p ≡ (graph_of a).final last = own_final p low ∙ ap (graph_of a).final here in
      RelFrom-end kind (graph_of e) p x y (times kind w ((graph_of a).final last)) (record {
        final = subst (λ (z : Cost). z ≡ infinite → ⊥) (sym same) final;
        reads = reads.0;
        writes = reads.1;
        weight = ap (λ z. times kind z ((graph_of a).final last)) reads.2 ∙ (one_times kind ((graph_of a).final last) ∙ sym same);
      })
  path_read (t ∷ path) p last x y w low leads final reads =
      let next = next_inside a p t.place t.arc fine leads.0.1 in
      let rest = path_read path t.arc.next last reads.input_back reads.output_back reads.weight_back next leads.1 final reads.back in
      let enters = arc_enters p low t.place t.arc leads.0.1 in
      let all = arc_read p t.arc (place_of labels t.arc.olabel) enters.q enters.block enters.stands reads.input_front reads.output_front reads.input_back reads.output_back reads.weight_front (times kind reads.weight_back ((graph_of a).final last)) reads.front rest in
      let weight : times kind reads.weight_front (times kind reads.weight_back ((graph_of a).final last)) ≡ times kind w ((graph_of a).final last) = sym (times_assoc kind reads.weight_front reads.weight_back ((graph_of a).final last)) ∙ ap (λ z. times kind z ((graph_of a).final last)) (sym reads.weight) in
      subst (λ z. RelFrom kind (graph_of e) p x y z) weight (subst (λ z. RelFrom kind (graph_of e) p x z (times kind reads.weight_front (times kind reads.weight_back ((graph_of a).final last)))) (sym reads.writes) (subst (λ z. RelFrom kind (graph_of e) p z (reads.output_front ++ reads.output_back) (times kind reads.weight_front (times kind reads.weight_back ((graph_of a).final last)))) (sym reads.reads) all))

  -- ---- what is said is read

  abbrev Read : ℕ → List ℕ → List ℕ → Cost → Type 0
  Read = IsReadFrom kind labels said a

  -- the same strings and weight, written otherwise
  read_same : (p : ℕ) (x u y v : List ℕ) (w z : Cost) → x ≡ u → y ≡ v → w ≡ z → Read p x y w → Read p u v z
  read_same p x u y v w z one two three r = record { path = r.path; last = r.last; leads = r.leads; final = r.final; product = r.product; reads = subst (λ k. ReadsPath kind labels said r.path k v r.product) one (subst (λ k. ReadsPath kind labels said r.path x k r.product) two r.reads); weight = sym three ∙ r.weight }

  -- one arc more is read
  read_more : (p k : ℕ) (b : Arc Cost ℕ) (x y u v : List ℕ) (w z : Cost) → slice_get ((graph_of a).arcs p) k ≡ Some b → ReadsArc kind labels said b (place_of labels b.olabel) x y w → Read b.next u v z → Read p (x ++ u) (y ++ v) (times kind w z)
  read_more p k b x y u v w z has reads more = record {
    path = record { state = p; place = k; arc = b } ∷ more.path;
    last = more.last;
    leads = ((refl, has), more.leads);
    final = more.final;
    product = times kind w more.product;
    reads = record { input_front = x; input_back = u; output_front = y; output_back = v; weight_front = w; weight_back = more.product; front = reads; back = more.reads; reads = refl; writes = refl; weight = refl };
    weight = ap (times kind w) more.weight ∙ sym (times_assoc kind w more.product ((graph_of a).final more.last));
  }

  -- The names of the machine say what is read, where few arcs are said.
  abbrev ReadsWithin : ℕ → Type 0
  ReadsWithin n = (p : ℕ) (x y : List ℕ) (w : Cost) → p < length a.states → (r : RelFrom kind (graph_of e) p x y w) → length r.path < n → Read p x y w

  -- what an arc of the expansion and the rest say is read as the arc for which it stands
  arc_back : (n p k q : ℕ) (b : Arc Cost ℕ) (o : Option ℕ) → ReadsWithin n → o ≡ place_of labels b.olabel → slice_get ((graph_of a).arcs p) k ≡ Some b → HasBlock q b o → (at : ℕ) (d : Arc Cost ℕ) → slice_get (entered_by shape q b o) at ≡ Some d → (u v : List ℕ) (z : Cost) (r : RelFrom kind (graph_of e) d.next u v z) → length r.path < n → Read p (before d.ilabel u) (before d.olabel v) (times kind d.weight z)
  arc_back n p k q b None within called has block (suc at) d there u v z r short = absurd (cc)
  arc_back n p k q b None within called has block zero d there u v z r short =
      let same : b ≡ d = cc in
      subst (λ (g : Arc Cost ℕ). (r : RelFrom kind (graph_of e) g.next u v z) → length r.path < n → Read p (before g.ilabel u) (before g.olabel v) (times kind g.weight z)) same
      (λ r short.
      let more = within b.next u v z (next_inside a p k b fine has) r short in
      let reads : ReadsArc kind labels said b (place_of labels b.olabel) (before b.ilabel []) (before b.olabel []) b.weight = subst (λ o. ReadsArc kind labels said b o (before b.ilabel []) (before b.olabel []) b.weight) called (refl, refl, refl) in
      read_same p (before b.ilabel [] ++ u) (before b.ilabel u) (before b.olabel [] ++ v) (before b.olabel v) (times kind b.weight z) (times kind b.weight z) (before-append b.ilabel u) (before-append b.olabel v) refl
      (read_more p k b (before b.ilabel []) (before b.olabel []) u v b.weight z has reads more))
      r short
  arc_back n p k q b (Some rule) within called has block at d there u v z r short = by_start (m rule).start refl at there
    where
      from_start : (s : ℕ) → (m rule).start ≡ Some s → (r : RelFrom kind (graph_of e) (q + s) u v z) → length r.path < n → Read p u v (times kind b.weight z)
      from_start s starts r short = by_case (continue_splits kind (λ n. q + n) (graph_of (m rule)) (graph_of e) (Inside (m rule)) b.next (block_goes q rule b.next block) s (q + s) u v z refl (start_low rule s starts) r)
        where
          by_case : Stays (λ n. q + n) (graph_of (m rule)) (Inside (m rule)) s r.path r.last ⊎ Splits kind (graph_of (m rule)) (graph_of e) b.next s u v z (length r.path) → Read p u v (times kind b.weight z)
          by_case (inl stays) = absurd (r.final (ap (graph_of e).final (sym stays.ends) ∙ block_mute q rule b.next block stays.end stays.within))
          by_case (inr cut) =
              let fewer = cut.shorter in
              let more = within b.next cut.input_back cut.output_back cut.weight_back (next_inside a p k b fine has) cut.back (omega (arith, fewer, short)) in
              let triple : said rule cut.input_front cut.output_front cut.weight_front = record { first = s; starts = starts; says = cut.front } in
              let reads : ReadsArc kind labels said b (place_of labels b.olabel) cut.input_front cut.output_front (times kind b.weight cut.weight_front) = subst (λ o. ReadsArc kind labels said b o cut.input_front cut.output_front (times kind b.weight cut.weight_front)) called (cut.weight_front, triple, refl) in
              read_same p (cut.input_front ++ cut.input_back) u (cut.output_front ++ cut.output_back) v (times kind (times kind b.weight cut.weight_front) cut.weight_back) (times kind b.weight z) (sym cut.reads) (sym cut.writes) (times_assoc kind b.weight cut.weight_front cut.weight_back ∙ ap (times kind b.weight) (sym cut.weight))
              (read_more p k b cut.input_front cut.output_front cut.input_back cut.output_back (times kind b.weight cut.weight_front) cut.weight_back has reads more)

      by_start : (o : Option ℕ) → (m rule).start ≡ o → (at : ℕ) → slice_get (entry b.weight q (m rule).start) at ≡ Some d → Read p (before d.ilabel u) (before d.olabel v) (times kind d.weight z)
      by_start None none at there = absurd (let nothing : slice_get {X = Arc Cost ℕ} [] at ≡ Some d = ap (λ o. slice_get (entry b.weight q o) at) (sym none) ∙ there in cc)
      by_start (Some s) starts at there = by_place at (ap (λ o. slice_get (entry b.weight q o) at) (sym starts) ∙ there)
        where
          by_place : (at : ℕ) → slice_get (epsilon_arc b.weight (q + s) ∷ []) at ≡ Some d → Read p (before d.ilabel u) (before d.olabel v) (times kind d.weight z)
          by_place (suc at) there = absurd (cc)
          by_place zero there =
              let same : epsilon_arc b.weight (q + s) ≡ d = cc in
              subst (λ (g : Arc Cost ℕ). (r : RelFrom kind (graph_of e) g.next u v z) → length r.path < n → Read p (before g.ilabel u) (before g.olabel v) (times kind g.weight z)) same (from_start s starts) r short

  said_within : (n : ℕ) → ReadsWithin n
  said_within zero p x y w low r short = absurd (omega (arith, short))
  said_within (suc n) p x y w low r short = by_path (said_within n) r.path r.last r.leads r.final r.reads r.writes r.weight short
    where
      by_path : ReadsWithin n → (path : List (Transition ℕ)) (last : ℕ) → IsPath (graph_of e) p path last → ((graph_of e).final last ≡ infinite → ⊥) → x ≡ input (letters path) → y ≡ output (letters path) → w ≡ times kind (product kind (letters path)) ((graph_of e).final last) → length path < suc n → Read p x y w
      by_path within [] last here final reads writes weight short =
          let same : (graph_of e).final last ≡ (graph_of a).final p = ap (graph_of e).final (sym here) ∙ own_final p low in
          record { path = []; last = p; leads = refl; final = subst (λ (z : Cost). z ≡ infinite → ⊥) same final; product = one_of kind; reads = (reads, writes, refl); weight = weight ∙ ap (times kind (one_of kind)) same }
      by_path within (t ∷ path) last leads final reads writes weight short =
          let s = arc_stands p low t.place t.arc leads.0.1 in
          let rest : RelFrom kind (graph_of e) t.arc.next (input (letters path)) (output (letters path)) (times kind (product kind (letters path)) ((graph_of e).final last)) = record { path = path; last = last; leads = leads.1; final = final; reads = refl; writes = refl; weight = refl } in
          let all = arc_back n p s.place s.q s.arc (place_of labels s.arc.olabel) within refl s.has s.block s.at t.arc s.stands (input (letters path)) (output (letters path)) (times kind (product kind (letters path)) ((graph_of e).final last)) rest (omega (arith, short)) in
          read_same p (before t.arc.ilabel (input (letters path))) x (before t.arc.olabel (output (letters path))) y (times kind t.arc.weight (times kind (product kind (letters path)) ((graph_of e).final last))) w (sym reads) (sym writes) (sym (weight ∙ times_assoc kind t.arc.weight (product kind (letters path)) ((graph_of e).final last))) all

-- the triples of an expansion are those of its machine, with the calls read as triples of the machines called
expanded_says : (kind : ArcType) (labels : List ℕ) (m : ℕ → Machine Cost) (a : Machine Cost) (good : (r : ℕ) → GoodMachine (m r)) (fine : GoodMachine a) (x y : List ℕ) (w : Cost) → Triple kind (expanded labels m a) x y w ↔ IsRead kind labels (λ r. Triple kind (m r)) a x y w
expanded_says kind labels m a good fine x y w = (there, back)
  where
    low : (s : ℕ) → a.start ≡ Some s → s < length a.states
    low s starts = subst (λ (o : Option ℕ). IfSome o (λ s. s < length a.states)) starts fine.start

    there : Triple kind (expanded labels m a) x y w → IsRead kind labels (λ r. Triple kind (m r)) a x y w
    there r = record { first = r.first; starts = r.starts; says = said_within kind labels m a good fine.arcs (suc (length r.says.path)) r.first x y w (low r.first r.starts) r.says (omega arith) }

    back : IsRead kind labels (λ r. Triple kind (m r)) a x y w → Triple kind (expanded labels m a) x y w
    back r = record { first = r.first; starts = r.starts; says = subst (λ z. RelFrom kind (graph_of (expanded labels m a)) r.first x y z) (sym r.says.weight) (path_read kind labels m a good fine.arcs r.says.path r.first r.says.last x y r.says.product (low r.first r.starts) r.says.leads r.says.final r.says.reads) }

-- reading goes by the triples of the rules
module _ (kind : ArcType) (labels : List ℕ) (one two : ℕ → List ℕ → List ℕ → Cost → Type 0) (more : (r : ℕ) (x y : List ℕ) (w : Cost) → one r x y w → two r x y w) where
  arc_map : (b : Arc Cost ℕ) (o : Option ℕ) (x y : List ℕ) (w : Cost) → ReadsArc kind labels one b o x y w → ReadsArc kind labels two b o x y w
  arc_map b None x y w h = h
  arc_map b (Some r) x y w h = (h.0, more r x y h.0 h.1, h.2)

  path_map : (path : List (Transition ℕ)) (x y : List ℕ) (w : Cost) → ReadsPath kind labels one path x y w → ReadsPath kind labels two path x y w
  path_map [] x y w h = h
  path_map (t ∷ path) x y w h = record {
    input_front = h.input_front;
    input_back = h.input_back;
    output_front = h.output_front;
    output_back = h.output_back;
    weight_front = h.weight_front;
    weight_back = h.weight_back;
    front = arc_map t.arc (place_of labels t.arc.olabel) h.input_front h.output_front h.weight_front h.front;
    back = path_map path h.input_back h.output_back h.weight_back h.back;
    reads = h.reads;
    writes = h.writes;
    weight = h.weight;
  }

  read_map : (a : Machine Cost) (x y : List ℕ) (w : Cost) → IsRead kind labels one a x y w → IsRead kind labels two a x y w
  read_map a x y w h = record {
    first = h.first;
    starts = h.starts;
    says = record { path = h.says.path; last = h.says.last; leads = h.says.leads; final = h.says.final; product = h.says.product; reads = path_map h.says.path x y h.says.product h.says.reads; weight = h.says.weight };
  }

-- an expansion to a depth has the triples of that depth
pub expansion_says : (kind : ArcType) (rules : List (Labelled Cost)) → ((i : ℕ) → IsMachine (λ v. v) (machine_at rules i)) → (k i : ℕ) (x y : List ℕ) (w : Cost) → Triple kind (expansion rules k i) x y w ↔ IsReplacedTriple kind rules k i x y w
expansion_says kind rules machines zero i x y w = ((λ r. let none : None ≡ Some r.first = r.starts in absurd (cc)), (λ h. absurd h))
expansion_says kind rules machines (suc k) i x y w =
    let labels = labels_of rules in
    let a = machine_at rules i in
    let own = expanded_says kind labels (expansion rules k) a (expansion_good rules machines k) (record { arcs = (machines i).arcs; start = (machines i).start }) x y w in (
      (λ r. read_map kind labels (λ r. Triple kind (expansion rules k r)) (IsReplacedTriple kind rules k) (λ r u v z. (expansion_says kind rules machines k r u v z).0) a x y w (own.0 r)),
      (λ h. own.1 (read_map kind labels (IsReplacedTriple kind rules k) (λ r. Triple kind (expansion rules k r)) (λ r u v z. (expansion_says kind rules machines k r u v z).1) a x y w h)),
    )

-- so the machine of a list of rules has the triples of its root
pub replaced_says : {V : Type 0} (kind : ArcType) (value : V → Cost) (rules : List (Labelled V)) → IsRules value rules → (made : Machine Cost) → made ≡ replaced (valued_rules value rules) → Replaces kind (valued_rules value rules) made
replaced_says kind value rules h made e x y w =
    let vs = valued_rules value rules in
    subst (λ z. Triple kind z x y w ↔ IsReplacedTriple kind vs (length vs) 0 x y w) (sym e) (expansion_says kind vs (rule_machine value rules h) (length vs) 0 x y w)
