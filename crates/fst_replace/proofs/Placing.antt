-- Where the arcs and the blocks of an expansion stand.
use Rattle.std.proofs.Common.{◌≡◌, ◌⊎◌, inl, inr, ℕ, ◌+◌, ◌<◌, zero, suc, false, List, [], ◌∷◌, ◌++◌, Some, length, map, get_or, slice_get, refl, sym, ap, ◌∙◌, append_assoc, arith}
use Rattle.std.proofs.lemmas.List.{length-append, get_or_append_left}
use Rattle.fst_semiring.specs.Cost.{Cost}
use Rattle.fst_machine.specs.Graph.{no_state}
use Rattle.fst_machine.specs.Machine.{Arc, State, Machine}
use Rattle.fst_machine.proofs.Arcs.{append_at, at_append_left, at_append_right}
use Rattle.fst_rational.specs.Constructions.{carried}
use Rattle.fst_replace.specs.Calls.{Calling, arcs_of, call_of, calls_in}
use Rattle.fst_replace.specs.Expansion.{Shape, blocks, blocks_size, entered, entered_by, entered_states, expanded, shape_of}
use Rattle.fst_replace.specs.Rules.{place_of}
use Rattle.fst_replace.proofs.Calling.{calls_in-append}
use Rattle.fst_replace.proofs.Emitting.{size-append}
use Rattle.fst_replace.proofs.Expanding.{blocks_length, states_length}
use Rattle.fst_replace.proofs.Unfolding.{blocks-append}

module _ (labels : List ℕ) (s : ℕ → Shape) where
  -- The arc b is one of these, of which the first block stands at q: the calls before and behind that of b are
  -- these, and so its block stands there.
  pub record IsPlaced (q : ℕ) (arcs : List (Arc Cost ℕ)) (b : Arc Cost ℕ) : Type 0 where
    pub front : List Calling
    pub back : List Calling
    pub calls : calls_in labels arcs ≡ front ++ (call_of labels b ++ back)

  -- each arc is placed, and what stands for it is among the arcs with their calls replaced
  pub placed_has : (q : ℕ) (arcs : List (Arc Cost ℕ)) (k : ℕ) (b : Arc Cost ℕ) → slice_get arcs k ≡ Some b → (p : IsPlaced q arcs b) × ((j : ℕ) (d : Arc Cost ℕ) → slice_get (entered_by s (q + blocks_size labels s p.front) b (place_of labels b.olabel)) j ≡ Some d → (i : ℕ) × (slice_get (entered labels s q arcs) i ≡ Some d))
  placed_has q [] k b has = absurd (cc)
  placed_has q (a ∷ arcs) zero b has =
      let same : a ≡ b = cc in
      let none : q + blocks_size labels s [] ≡ q = omega arith in (
        record { front = []; back = calls_in labels arcs; calls = ap (λ (z : Arc Cost ℕ). call_of labels z ++ calls_in labels arcs) same },
        (λ j d there. (j, at_append_left (entered_by s q a (place_of labels a.olabel)) (entered labels s (q + blocks_size labels s (call_of labels a)) arcs) j d (ap (λ (z : Arc Cost ℕ). slice_get (entered_by s q z (place_of labels z.olabel)) j) same ∙ (ap (λ (n : ℕ). slice_get (entered_by s n b (place_of labels b.olabel)) j) (sym none) ∙ there)))),
      )
  placed_has q (a ∷ arcs) (suc k) b has =
      let here = blocks_size labels s (call_of labels a) in
      let rest = placed_has (q + here) arcs k b has in
      let size = size-append labels s (call_of labels a) rest.0.front in
      let at : q + here + blocks_size labels s rest.0.front ≡ q + blocks_size labels s (call_of labels a ++ rest.0.front) = omega (arith, size) in (
        record { front = call_of labels a ++ rest.0.front; back = rest.0.back; calls = ap (λ cs. call_of labels a ++ cs) rest.0.calls ∙ sym (append_assoc (call_of labels a) rest.0.front (call_of labels b ++ rest.0.back)) },
        (λ j d there. let more = rest.1 j d (ap (λ (n : ℕ). slice_get (entered_by s n b (place_of labels b.olabel)) j) at ∙ there) in
            (_, at_append_right (entered_by s q a (place_of labels a.olabel)) (entered labels s (q + here) arcs) more.0 d more.1)),
      )

  -- and each of those arcs stands for one that is placed
  pub placed_only : (q : ℕ) (arcs : List (Arc Cost ℕ)) (i : ℕ) (d : Arc Cost ℕ) → slice_get (entered labels s q arcs) i ≡ Some d → (k : ℕ) × (b : Arc Cost ℕ) × (slice_get arcs k ≡ Some b) × (p : IsPlaced q arcs b) × (j : ℕ) × (slice_get (entered_by s (q + blocks_size labels s p.front) b (place_of labels b.olabel)) j ≡ Some d)
  placed_only q [] i d has = absurd (cc)
  placed_only q (a ∷ arcs) i d has = by_part (append_at (entered_by s q a (place_of labels a.olabel)) (entered labels s (q + here) arcs) i d has) (λ j e. placed_only (q + here) arcs j d e)
    where
      here : ℕ
      here = blocks_size labels s (call_of labels a)

      by_part : (slice_get (entered_by s q a (place_of labels a.olabel)) i ≡ Some d) ⊎ ((j : ℕ) × (slice_get (entered labels s (q + here) arcs) j ≡ Some d) × (i ≡ length (entered_by s q a (place_of labels a.olabel)) + j)) → ((j : ℕ) → slice_get (entered labels s (q + here) arcs) j ≡ Some d → (k : ℕ) × (b : Arc Cost ℕ) × (slice_get arcs k ≡ Some b) × (p : IsPlaced (q + here) arcs b) × (j : ℕ) × (slice_get (entered_by s (q + here + blocks_size labels s p.front) b (place_of labels b.olabel)) j ≡ Some d)) → (k : ℕ) × (b : Arc Cost ℕ) × (slice_get (a ∷ arcs) k ≡ Some b) × (p : IsPlaced q (a ∷ arcs) b) × (j : ℕ) × (slice_get (entered_by s (q + blocks_size labels s p.front) b (place_of labels b.olabel)) j ≡ Some d)
      by_part (inl e) more =
          let none : q ≡ q + blocks_size labels s [] = omega arith in
          (0, a, refl, record { front = []; back = calls_in labels arcs; calls = refl }, i, ap (λ (n : ℕ). slice_get (entered_by s n a (place_of labels a.olabel)) i) (sym none) ∙ e)
      by_part (inr e) more =
          let rest = more e.0 e.1 in
          let size = size-append labels s (call_of labels a) rest.3.front in
          let at : q + blocks_size labels s (call_of labels a ++ rest.3.front) ≡ q + here + blocks_size labels s rest.3.front = omega (arith, size) in
          (suc rest.0, rest.1, rest.2, record { front = call_of labels a ++ rest.3.front; back = rest.3.back; calls = ap (λ cs. call_of labels a ++ cs) rest.3.calls ∙ sym (append_assoc (call_of labels a) rest.3.front (call_of labels rest.1 ++ rest.3.back)) }, rest.4, ap (λ (n : ℕ). slice_get (entered_by s n rest.1 (place_of labels rest.1.olabel)) rest.4) at ∙ rest.5)

  -- a state with its calls replaced, and the calls before and behind its own
  pub record IsEntered (q : ℕ) (states : List (State Cost)) (p : ℕ) : Type 0 where
    pub front : List Calling
    pub back : List Calling
    pub calls : calls_in labels (arcs_of states) ≡ front ++ (calls_in labels (get_or states p no_state).arcs ++ back)
    pub state : ◌≡◌ {A = State Cost} (get_or (entered_states labels s q states) p no_state) (record { final = (get_or states p no_state).final; arcs = entered labels s (q + blocks_size labels s front) (get_or states p no_state).arcs })

  pub state_entered : (q : ℕ) (states : List (State Cost)) (p : ℕ) → p < length states → IsEntered q states p
  state_entered q [] p low = absurd (omega (arith, low))
  state_entered q (z ∷ states) zero low =
      let none : q ≡ q + blocks_size labels s [] = omega arith in
      record {
        front = [];
        back = calls_in labels (arcs_of states);
        calls = calls_in-append labels z.arcs (arcs_of states);
        state = ap (λ (n : ℕ). record { final = z.final; arcs = entered labels s n z.arcs }) none;
      }
  state_entered q (z ∷ states) (suc p) low =
      let here = blocks_size labels s (calls_in labels z.arcs) in
      let rest = state_entered (q + here) states p (omega (arith, low)) in
      let size = size-append labels s (calls_in labels z.arcs) rest.front in
      let at : q + here + blocks_size labels s rest.front ≡ q + blocks_size labels s (calls_in labels z.arcs ++ rest.front) = omega (arith, size) in
      record {
        front = calls_in labels z.arcs ++ rest.front;
        back = rest.back;
        calls = calls_in-append labels z.arcs (arcs_of states) ∙ (ap (λ cs. calls_in labels z.arcs ++ cs) rest.calls ∙ sym (append_assoc (calls_in labels z.arcs) rest.front (calls_in labels (get_or states p no_state).arcs ++ rest.back)));
        state = rest.state ∙ ap (λ (n : ℕ). record { final = (get_or states p no_state).final; arcs = entered labels s n (get_or states p no_state).arcs }) at;
      }

-- The block of the rule r, which goes on to c, stands at q.
pub record IsBlockAt (machine : ℕ → Machine Cost) (states : List (State Cost)) (q r c : ℕ) : Type 0 where
  pub front : List (State Cost)
  pub back : List (State Cost)
  pub whole : states ≡ front ++ (map (carried q false (Some c)) (machine r).states ++ back)
  pub before : length front ≡ q

module _ (labels : List ℕ) (m : ℕ → Machine Cost) (a : Machine Cost) where
  -- the block of a call stands behind the states of the machine and the blocks of the calls before it
  pub block_stands : (front back : List Calling) (c : Calling) → calls_in labels (arcs_of a.states) ≡ front ++ (c ∷ back) → IsBlockAt m (expanded labels m a).states (length a.states + blocks_size labels (λ r. shape_of (m r)) front) c.rule c.next
  block_stands front back c calls =
      let s = λ (r : ℕ). shape_of (m r) in
      let n = length a.states in
      let own = entered_states labels s n a.states in
      let q = n + blocks_size labels s front in
      let block = map (carried q false (Some c.next)) (m c.rule).states in
      let rest = blocks m (q + length (m c.rule).states) back in
      record {
        front = own ++ blocks m n front;
        back = rest;
        whole = ap (λ cs. own ++ blocks m n cs) calls ∙ (ap (λ zs. own ++ zs) (blocks-append labels m n front (c ∷ back)) ∙ sym (append_assoc own (blocks m n front) (block ++ rest)));
        before = let o = states_length labels s n a.states in let b = blocks_length labels m n front in omega (arith, o, b, length-append own (blocks m n front));
      }

  -- a state of the machine, in its expansion
  pub own_state : (p : ℕ) → p < length a.states → get_or (expanded labels m a).states p no_state ≡ get_or (entered_states labels (λ r. shape_of (m r)) (length a.states) a.states) p no_state
  own_state p low =
      let s = λ (r : ℕ). shape_of (m r) in
      let o = states_length labels s (length a.states) a.states in
      get_or_append_left (entered_states labels s (length a.states) a.states) (blocks m (length a.states) (calls_in labels (arcs_of a.states))) no_state p (omega (arith, o, low))
