-- How a search begins, and that a begun search is one on its way.
use Rattle.std.proofs.Common.{◌≡◌, ◌⊎◌, inl, inr, ℕ, ◌+◌, ◌*◌, ◌<◌, ◌≤◌, zero, suc, List, [], ◌∷◌, ◌++◌, None, Some, length, set, get_or, sym, refl, ap, ◌∙◌, subst, arith}
use Rattle.std.proofs.lemmas.Bool.{cases_eq}
use Rattle.std.proofs.lemmas.List.{length-append, length-set}
use Rattle.fst_semiring.specs.Cost.{Cost, infinite}
use Rattle.fst_semiring.specs.declared.arc_type.ArcType.{ArcType}
use Rattle.fst_semiring.specs.Semiring.{IsCost, Within}
use Rattle.fst_semiring.proofs.Ranges.{Within-more}
use Rattle.fst_machine.specs.BreadthFirst.{Has}
use Rattle.fst_machine.proofs.Elements.{Apart-push, Has-append_left, Has-append_right}
use Rattle.fst_queue.specs.Members.{Adds}
use Rattle.fst_search.specs.Beginning.{IsBegun, IsBlank, Sets}
use Rattle.fst_search.specs.Hops.{Hop}
use Rattle.fst_search.specs.Searching.{Node, Searching, blank_node, distance_at, link_at, most_number, step_of, turn_at}
use Rattle.fst_search.proofs.Nodes.{one_more, written_here, written_other}
use Rattle.fst_search.proofs.Rounds.{round_begins, tentative_begins}

-- one blank node more
pub blank-push : (n : ℕ) (nodes : List (Node Cost)) → IsBlank n nodes → IsBlank (n + 1) (nodes ++ blank_node ∷ [])
blank-push n nodes b = (length-append nodes (blank_node ∷ []) ∙ ap (λ (m : ℕ). m + 1) b.0, all nodes b.1)
  where
    all : (nodes : List (Node Cost)) → ((q : ℕ) → get_or nodes q blank_node ≡ blank_node) → (q : ℕ) → get_or (nodes ++ blank_node ∷ []) q blank_node ≡ blank_node
    all [] h zero = refl
    all [] h (suc q) = refl
    all (node ∷ nodes) h zero = h zero
    all (node ∷ nodes) h (suc q) = all nodes (λ (r : ℕ). h (suc r)) q

-- a value that was written
pub sets_written : (state : ℕ) (value : Cost) (nodes after : List (Node Cost)) (node : Node Cost) → state < length nodes → after ≡ set nodes state node → node.distance ≡ value → Sets state value nodes after
sets_written state value nodes after node low is d = record {
  here = ap (λ (zs : List (Node Cost)). distance_at zs state) is ∙ (ap (λ z. z.distance) (written_here nodes state state node low refl) ∙ d);
  others = λ q off. ap (λ (zs : List (Node Cost)). distance_at zs q) is ∙ ap (λ z. z.distance) (written_other nodes state q node off);
}

module _ (kind : ArcType) (n bound : ℕ) where
  pub blank_begun : (nodes : List (Node Cost)) → IsBlank n nodes → IsBegun kind n bound nodes [] []
  blank_begun nodes b = record {
    size = b.0;
    unlinked = λ q. ap (λ z. z.link) (b.1 q);
    unturned = λ q. ap (λ z. z.turn) (b.1 q);
    members_met = λ q none. none;
    waiting = λ q some. absurd (some (ap (λ z. z.distance) (b.1 q)));
    met_low = λ q none. absurd none;
    met_only = λ q none e. none;
    met_all = λ q some. absurd (some (ap (λ z. z.distance) (b.1 q)));
    met_apart = tt;
    numbers = λ q. subst (Within bound) (sym (ap (λ z. z.distance) (b.1 q))) tt;
    kinds = λ q. subst (IsCost kind) (sym (ap (λ z. z.distance) (b.1 q))) tt;
  }

  module _ (state : ℕ) (value : Cost) (nodes after : List (Node Cost)) (members now met : List ℕ) (b : IsBegun kind n bound nodes members met)
      (low : state < length nodes) (some : value ≡ infinite → ⊥) (number : Within bound value) (cost : IsCost kind value) (new : distance_at nodes state ≡ infinite)
      (adds : Adds members state now) (is : after ≡ set nodes state (record { distance = value; link = link_at nodes state; turn = turn_at nodes state })) where
    here : (q : ℕ) → q ≡ state → get_or after q blank_node ≡ record { distance = value; link = link_at nodes state; turn = turn_at nodes state }
    here q e = ap (λ (zs : List (Node Cost)). get_or zs q blank_node) is ∙ written_here nodes state q _ low e

    other : (q : ℕ) → (q ≡ state → ⊥) → get_or after q blank_node ≡ get_or nodes q blank_node
    other q off = ap (λ (zs : List (Node Cost)). get_or zs q blank_node) is ∙ written_other nodes state q _ off

    link_same : (q : ℕ) → (q ≡ state) ⊎ (q ≡ state → ⊥) → link_at after q ≡ None
    link_same q (inl e) = ap (λ z. z.link) (here q e) ∙ b.unlinked state
    link_same q (inr off) = ap (λ z. z.link) (other q off) ∙ b.unlinked q

    turn_same : (q : ℕ) → (q ≡ state) ⊎ (q ≡ state → ⊥) → turn_at after q ≡ 0
    turn_same q (inl e) = ap (λ z. z.turn) (here q e) ∙ b.unturned state
    turn_same q (inr off) = ap (λ z. z.turn) (other q off) ∙ b.unturned q

    is_met : (q : ℕ) → Has met q ⊎ (q ≡ state) → Has (met ++ state ∷ []) q
    is_met q (inl old) = Has-append_left met (state ∷ []) q old
    is_met q (inr e) = Has-append_right met (state ∷ []) q (inl (sym e))

    members_met : (q : ℕ) → Has members q ⊎ (q ≡ state) → Has (met ++ state ∷ []) q
    members_met q (inl old) = is_met q (inl (b.members_met q old))
    members_met q (inr e) = is_met q (inr e)

    has_value : (q : ℕ) → (q ≡ state) ⊎ (q ≡ state → ⊥) → (distance_at after q ≡ infinite → ⊥) → (q ≡ state) ⊎ (distance_at nodes q ≡ infinite → ⊥)
    has_value q (inl e) f = inl e
    has_value q (inr off) f = inr (λ e. f (ap (λ z. z.distance) (other q off) ∙ e))

    waiting : (q : ℕ) → (q ≡ state) ⊎ (distance_at nodes q ≡ infinite → ⊥) → Has now q
    waiting q (inl e) = (adds q).1 (inr e)
    waiting q (inr f) = (adds q).1 (inl (b.waiting q f))

    met_all : (q : ℕ) → (q ≡ state) ⊎ (distance_at nodes q ≡ infinite → ⊥) → Has (met ++ state ∷ []) q
    met_all q (inl e) = is_met q (inr e)
    met_all q (inr f) = is_met q (inl (b.met_all q f))

    met_low : (q : ℕ) → Has met q ⊎ (q ≡ state) → q < n
    met_low q (inl old) = b.met_low q old
    met_low q (inr e) = let size = b.size in omega arith

    met_only : (q : ℕ) → (q ≡ state) ⊎ (q ≡ state → ⊥) → Has met q ⊎ (q ≡ state) → distance_at after q ≡ infinite → ⊥
    met_only q (inl e) c zero_here = some (sym (ap (λ z. z.distance) (here q e)) ∙ zero_here)
    met_only q (inr off) (inl old) zero_here = b.met_only q old (sym (ap (λ z. z.distance) (other q off)) ∙ zero_here)
    met_only q (inr off) (inr e) zero_here = off e

    numbers : (q : ℕ) → (q ≡ state) ⊎ (q ≡ state → ⊥) → Within bound (distance_at after q)
    numbers q (inl e) = subst (Within bound) (sym (ap (λ z. z.distance) (here q e))) number
    numbers q (inr off) = subst (Within bound) (sym (ap (λ z. z.distance) (other q off))) (b.numbers q)

    kinds : (q : ℕ) → (q ≡ state) ⊎ (q ≡ state → ⊥) → IsCost kind (distance_at after q)
    kinds q (inl e) = subst (IsCost kind) (sym (ap (λ z. z.distance) (here q e))) cost
    kinds q (inr off) = subst (IsCost kind) (sym (ap (λ z. z.distance) (other q off))) (b.kinds q)

    -- one state more has a value
    pub begun_more : IsBegun kind n bound after now (met ++ state ∷ [])
    begun_more = record {
      size = ap length is ∙ (length-set nodes state _ ∙ b.size);
      unlinked = λ q. link_same q (cases_eq q state);
      unturned = λ q. turn_same q (cases_eq q state);
      members_met = λ q has. members_met q ((adds q).0 has);
      waiting = λ q f. waiting q (has_value q (cases_eq q state) f);
      met_low = λ q has. met_low q (one_more met state q has);
      met_only = λ q has e. met_only q (cases_eq q state) (one_more met state q has) e;
      met_all = λ q f. met_all q (has_value q (cases_eq q state) f);
      met_apart = Apart-push met state b.met_apart (λ has. b.met_only state has new);
      numbers = λ q. numbers q (cases_eq q state);
      kinds = λ q. kinds q (cases_eq q state);
    }

  -- the values are those with which hops begin
  pub searching_begins : (Goes : Hop → Type 0) (nodes : List (Node Cost)) (members met : List ℕ) → bound ≤ most_number → IsBegun kind n bound nodes members met
      → Searching kind Goes (distance_at nodes) n bound 0 1 0 (Has members) nodes members [] met
  searching_begins Goes nodes members met few b = record {
    tentative = tentative_begins kind Goes (distance_at nodes) (distance_at nodes) (link_at nodes) (λ q. refl) b.unlinked;
    round = round_begins kind Goes (distance_at nodes) (distance_at nodes) (Has members) (λ q. refl) b.waiting;
    marked = record {
      size = b.size;
      members_low = λ q has. let none = b.unturned q in omega arith;
      members_met = b.members_met;
      later_marked = λ q none. absurd none;
      put_off = λ q late. absurd (let none = b.unturned q in omega arith);
      turned_met = λ q late. absurd (let none = b.unturned q in omega arith);
      met_low = b.met_low;
      met_only = b.met_only;
      met_all = b.met_all;
      met_apart = b.met_apart;
      numbers = λ q. Within-more bound ((1 + 0) * most_number) (distance_at nodes q) (omega arith) (b.numbers q);
      kinds = b.kinds;
      begun = b.numbers;
      bounded = λ q h linked. absurd (let wrong : None ≡ Some (step_of h) = sym (b.unlinked q) ∙ linked.0 in cc);
    };
  }
