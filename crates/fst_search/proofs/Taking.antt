-- A search as a state is taken, as its links have been looked at, and as a round ends.
use Rattle.std.proofs.Common.{◌≡◌, ◌⊎◌, inl, inr, ℕ, ◌+◌, ◌*◌, ◌<◌, suc, List, [], Option, None, Some, length, set, get_or, sym, refl, ap, ◌∙◌, subst, arith}
use Rattle.std.proofs.lemmas.Bool.{cases_eq}
use Rattle.std.proofs.lemmas.List.{length-set}
use Rattle.fst_semiring.specs.Cost.{Cost, infinite}
use Rattle.fst_semiring.specs.declared.arc_type.ArcType.{ArcType}
use Rattle.fst_semiring.specs.Semiring.{IsCost, Within}
use Rattle.fst_semiring.proofs.Order.{plus_same}
use Rattle.fst_semiring.proofs.Ranges.{Within-more}
use Rattle.fst_machine.specs.BreadthFirst.{Has}
use Rattle.fst_machine.specs.declared.path.Step.{Step}
use Rattle.fst_queue.specs.Members.{Takes}
use Rattle.fst_search.specs.Hops.{Hop, Arrives}
use Rattle.fst_search.specs.Searching.{Looking, Marked, Node, Round, Searching, Tentative, blank_node, distance_at, link_at, most_number, turn_at}
use Rattle.fst_search.specs.Trying.{left}
use Rattle.fst_search.proofs.Nodes.{left_fewer, written_here, written_other}
use Rattle.fst_search.proofs.Rounds.{round_next, round_taken}

module _ (kind : ArcType) (Goes : Hop → Type 0) (source : ℕ → Cost) where
  -- more states may wait
  pub round_waits : (k : ℕ) (D : ℕ → Cost) (Waits More : ℕ → Type 0) (later : List ℕ) → ((q : ℕ) → Waits q → More q) → Round kind Goes source k D Waits later → Round kind Goes source k D More later
  round_waits k D Waits More later more r = record {
    short = r.short;
    relaxed = λ h p back goes free few leads. r.relaxed h p back goes (λ w. free (more h.from w)) few leads;
    closed = λ h goes free off. r.closed h goes (λ w. free (more h.from w)) off;
    strict = r.strict;
  }

  module _ (n bound k mark takes : ℕ) where
    -- the state that was taken is looked at
    pub looking_begins : (state : ℕ) (nodes : List (Node Cost)) (members later met : List ℕ) → turn_at nodes state ≡ mark
        → Searching kind Goes source n bound k mark takes (λ q. Has members q ⊎ (q ≡ state)) nodes members later met
        → Looking kind Goes source n bound k mark (takes + 1) state (distance_at nodes state) [] nodes members later met
    looking_begins state nodes members later met turn s = record {
      searching = record {
        tentative = s.tentative;
        round = s.round;
        marked = record {
          size = s.marked.size;
          members_low = s.marked.members_low;
          members_met = s.marked.members_met;
          later_marked = s.marked.later_marked;
          put_off = s.marked.put_off;
          turned_met = s.marked.turned_met;
          met_low = s.marked.met_low;
          met_only = s.marked.met_only;
          met_all = s.marked.met_all;
          met_apart = s.marked.met_apart;
          numbers = λ q. Within-more ((1 + takes) * most_number) ((1 + (takes + 1)) * most_number) (distance_at nodes q) (omega arith) (s.marked.numbers q);
          kinds = s.marked.kinds;
          begun = s.marked.begun;
          bounded = s.marked.bounded;
        };
      };
      looked = λ h none goes. absurd none;
      short = λ p back few leads. s.round.short state p back few leads;
      kept = plus_same (distance_at nodes state);
      arrives = reached (s.tentative.reached state);
      off = inr refl;
      turned = omega arith;
      number = Within-more ((1 + takes) * most_number) ((takes + 1) * most_number) (distance_at nodes state) (omega arith) (s.marked.numbers state);
    }
      where
        reached : ((distance_at nodes state ≡ infinite) × (link_at nodes state ≡ None)) ⊎ Arrives kind Goes source state (distance_at nodes state) → (distance_at nodes state ≡ infinite) ⊎ Arrives kind Goes source state (distance_at nodes state)
        reached (inl none) = inl none.0
        reached (inr a) = inr a

    pub looking_ends : (state : ℕ) (so_far : Cost) (done : List Hop) (nodes : List (Node Cost)) (members later met : List ℕ) → ((h : Hop) → Goes h → h.from ≡ state → Has done h)
        → Looking kind Goes source n bound k mark takes state so_far done nodes members later met → Searching kind Goes source n bound k mark takes (Has members) nodes members later met
    looking_ends state so_far done nodes members later met all l = record {
      tentative = l.searching.tentative;
      round = round_taken kind Goes source k (distance_at nodes) members later state so_far l.searching.round (λ h goes e. l.looked h (all h goes e) goes) l.short l.off;
      marked = l.searching.marked;
    }

    module _ (state : ℕ) (nodes after : List (Node Cost)) (members rest later met : List ℕ) (takes_it : Takes members (Some state) rest)
        (is : after ≡ set nodes state (record { distance = distance_at nodes state; link = link_at nodes state; turn = mark })) (m : Marked kind Goes source n bound mark takes nodes members later met) where
      below : state < length nodes
      below = let low = m.met_low state (m.members_met state takes_it.0) in let size = m.size in omega arith

      node_here : (q : ℕ) → q ≡ state → get_or after q blank_node ≡ record { distance = distance_at nodes state; link = link_at nodes state; turn = mark }
      node_here q e = ap (λ (zs : List (Node Cost)). get_or zs q blank_node) is ∙ written_here nodes state q _ below e

      node_other : (q : ℕ) → (q ≡ state → ⊥) → get_or after q blank_node ≡ get_or nodes q blank_node
      node_other q other = ap (λ (zs : List (Node Cost)). get_or zs q blank_node) is ∙ written_other nodes state q _ other

      same_distance : (q : ℕ) → (q ≡ state) ⊎ (q ≡ state → ⊥) → distance_at after q ≡ distance_at nodes q
      same_distance q (inl e) = ap (λ z. z.distance) (node_here q e) ∙ ap (distance_at nodes) (sym e)
      same_distance q (inr other) = ap (λ z. z.distance) (node_other q other)

      same_link : (q : ℕ) → (q ≡ state) ⊎ (q ≡ state → ⊥) → link_at after q ≡ link_at nodes q
      same_link q (inl e) = ap (λ z. z.link) (node_here q e) ∙ ap (link_at nodes) (sym e)
      same_link q (inr other) = ap (λ z. z.link) (node_other q other)

      distances : distance_at nodes ≡ distance_at after
      distances = λ i q. sym (same_distance q (cases_eq q state)) i

      links : link_at nodes ≡ link_at after
      links = λ i q. sym (same_link q (cases_eq q state)) i

      before : turn_at nodes state < mark
      before = m.members_low state takes_it.0

      later_marked : (q : ℕ) → (q ≡ state) ⊎ (q ≡ state → ⊥) → Has later q → turn_at after q ≡ mark + 1
      later_marked q (inl e) has = absurd (let late = m.later_marked q has in let same : turn_at nodes q ≡ turn_at nodes state = ap (turn_at nodes) e in let low = before in omega arith)
      later_marked q (inr other) has = ap (λ z. z.turn) (node_other q other) ∙ m.later_marked q has

      put_off : (q : ℕ) → (q ≡ state) ⊎ (q ≡ state → ⊥) → mark < turn_at after q → Has later q
      put_off q (inl e) late = absurd (let here : turn_at after q ≡ mark = ap (λ z. z.turn) (node_here q e) in omega arith)
      put_off q (inr other) late = m.put_off q (let same : turn_at after q ≡ turn_at nodes q = ap (λ z. z.turn) (node_other q other) in omega arith)

      turned_met : (q : ℕ) → (q ≡ state) ⊎ (q ≡ state → ⊥) → 0 < turn_at after q → Has met q
      turned_met q (inl e) some = m.members_met q (subst (λ (z : ℕ). Has members z) (sym e) takes_it.0)
      turned_met q (inr other) some = m.turned_met q (let same : turn_at after q ≡ turn_at nodes q = ap (λ z. z.turn) (node_other q other) in omega arith)

      still : (q : ℕ) → (q ≡ state) ⊎ (q ≡ state → ⊥) → Has members q → Has rest q ⊎ (q ≡ state)
      still q (inl e) has = inr e
      still q (inr other) has = inl ((takes_it.1 q).1 (has, other))

      -- a state is taken and gets its turn
      pub taking : Tentative kind Goes source (distance_at nodes) (link_at nodes) → Round kind Goes source k (distance_at nodes) (Has members) later
          → Searching kind Goes source n bound k mark takes (λ q. Has rest q ⊎ (q ≡ state)) after rest later met
      taking t r = record {
        tentative = subst (λ (L : ℕ → Option Step). Tentative kind Goes source (distance_at after) L) links (subst (λ (D : ℕ → Cost). Tentative kind Goes source D (link_at nodes)) distances t);
        round = subst (λ (D : ℕ → Cost). Round kind Goes source k D (λ q. Has rest q ⊎ (q ≡ state)) later) distances (round_waits k (distance_at nodes) (Has members) (λ q. Has rest q ⊎ (q ≡ state)) later (λ q has. still q (cases_eq q state) has) r);
        marked = record {
          size = ap length is ∙ (length-set nodes state _ ∙ m.size);
          members_low = λ q has. let old = (takes_it.1 q).0 has in let low = m.members_low q old.0 in let same : turn_at after q ≡ turn_at nodes q = ap (λ z. z.turn) (node_other q old.1) in omega arith;
          members_met = λ q has. m.members_met q ((takes_it.1 q).0 has).0;
          later_marked = λ q has. later_marked q (cases_eq q state) has;
          put_off = λ q late. put_off q (cases_eq q state) late;
          turned_met = λ q some. turned_met q (cases_eq q state) some;
          met_low = m.met_low;
          met_only = λ q has e. m.met_only q has (sym (same_distance q (cases_eq q state)) ∙ e);
          met_all = λ q some. m.met_all q (λ e. some (same_distance q (cases_eq q state) ∙ e));
          met_apart = m.met_apart;
          numbers = λ q. subst (Within ((1 + takes) * most_number)) (sym (same_distance q (cases_eq q state))) (m.numbers q);
          kinds = λ q. subst (IsCost kind) (sym (same_distance q (cases_eq q state))) (m.kinds q);
          begun = m.begun;
          bounded = λ q h linked. m.bounded q h (sym (same_link q (cases_eq q state)) ∙ linked.0, linked.1, linked.2);
        };
      }

      pub taking_turn : turn_at after state ≡ mark
      taking_turn = ap (λ z. z.turn) (node_here state refl)

      pub taking_left : left mark after + 1 ≡ left mark nodes
      taking_left = ap (λ (zs : List (Node Cost)). left mark zs + 1) is ∙ left_fewer mark state nodes _ below before (omega arith)

    -- a round ends
    pub searching_next : (nodes : List (Node Cost)) (now later met : List ℕ) → ((q : ℕ) → Has now q → Has later q) → ((q : ℕ) → Has later q → Has now q)
        → Searching kind Goes source n bound k mark takes (Has []) nodes [] later met → Searching kind Goes source n bound (suc k) (mark + 2) takes (Has now) nodes now [] met
    searching_next nodes now later met only all s = record {
      tentative = s.tentative;
      round = round_waits (suc k) (distance_at nodes) (Has later) (Has now) [] all (round_next kind Goes source k (distance_at nodes) (link_at nodes) (Has []) later s.tentative s.round (λ q none. none));
      marked = record {
        size = s.marked.size;
        members_low = λ q has. let late = s.marked.later_marked q (only q has) in omega arith;
        members_met = λ q has. s.marked.turned_met q (let late = s.marked.later_marked q (only q has) in omega arith);
        later_marked = λ q has. absurd has;
        put_off = λ q late. absurd (let was = s.marked.later_marked q (s.marked.put_off q (omega arith)) in omega arith);
        turned_met = s.marked.turned_met;
        met_low = s.marked.met_low;
        met_only = s.marked.met_only;
        met_all = s.marked.met_all;
        met_apart = s.marked.met_apart;
        numbers = s.marked.numbers;
        kinds = s.marked.kinds;
        begun = s.marked.begun;
        bounded = s.marked.bounded;
      };
    }
