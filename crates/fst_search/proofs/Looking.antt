-- The links of a state as the hops that a search looks at.
use Rattle.std.proofs.Common.{◌≡◌, ◌⊎◌, inl, inr, ℕ, ◌+◌, ◌<◌, ◌≤◌, Bool, List, [], ◌∷◌, ◌++◌, length, map, take, get_or, nat_lt, sym, refl, ap, ◌∙◌, subst, arith}
use Rattle.std.proofs.lemmas.Bool.{cases_eq}
use Rattle.std.proofs.lemmas.Bool.Decides.{nat_tests}
use Rattle.std.proofs.lemmas.List.{map-append, take_all, take_more}
use Rattle.std.proofs.lemmas.Option.{slice_get_read}
use Rattle.fst_semiring.specs.Cost.{Cost}
use Rattle.fst_semiring.specs.declared.arc_type.ArcType.{ArcType}
use Rattle.fst_semiring.specs.Semiring.{times, IsCost, Within}
use Rattle.fst_machine.specs.BreadthFirst.{Has}
use Rattle.fst_machine.proofs.Elements.{at_Has}
use Rattle.fst_machine.specs.declared.path.Step.{Step}
use Rattle.fst_trim.specs.Links.{Link}
use Rattle.fst_search.specs.Hops.{Hop, IsHop, IsNet, IsOpen, link_hop}
use Rattle.fst_search.specs.Searching.{Looking, Node, Searching, most_number, turn_at}
use Rattle.fst_search.specs.Trying.{Tried, left}
use Rattle.fst_search.proofs.Nodes.{left_same}
use Rattle.fst_search.proofs.Taking.{looking_ends}
use Rattle.fst_search.proofs.Trying.{looking_stays, looking_tried}

pub Has-map : {X Y : Type 0} (f : X → Y) (xs : List X) (x : X) → Has xs x → Has (map f xs) (f x)
Has-map f [] x none = absurd none
Has-map f (y ∷ xs) x (inl e) = inl (ap f e)
Has-map f (y ∷ xs) x (inr h) = inr (Has-map f xs x h)

-- an element that was read is in the list
pub read_Has : {X : Type 0} (xs : List X) (i : ℕ) (x : X) → i < length xs → x ≡ get_or xs i x → Has xs x
read_Has xs i x low is = at_Has xs i x (slice_get_read xs (length xs) i x refl low is)

taken_more : {X Y : Type 0} (f : X → Y) (xs : List X) (i : ℕ) (x : X) → i < length xs → x ≡ get_or xs i x → map f (take (i + 1) xs) ≡ map f (take i xs) ++ f x ∷ []
taken_more f xs i x low is = ap (map f) (take_more xs i x low ∙ ap (λ y. take i xs ++ y ∷ []) (sym is)) ∙ map-append f (take i xs) (x ∷ [])

-- what is looked at when the hops of the first links have been
abbrev pub LooksAt : {V : Type 0} → ArcType → (V → Cost) → List Bool → List (List (Link V)) → (ℕ → Cost) → ℕ → ℕ → ℕ → ℕ → ℕ → Cost → List (Link V) → ℕ
    → List (Node Cost) → List ℕ → List ℕ → List ℕ → Type 0
LooksAt kind value marks links source bound k mark takes state so_far items i nodes members later met =
    Looking kind (IsHop value marks links) source (length links) bound k mark takes state so_far (map (link_hop value state) (take i items)) nodes members later met

module _ {V : Type 0} (kind : ArcType) (value : V → Cost) (marks : List Bool) (links : List (List (Link V))) (source : ℕ → Cost) (bound k mark takes state : ℕ) (so_far : Cost)
    (items : List (Link V)) (are : items ≡ get_or links state []) where
  module _ (i : ℕ) (l : Link V) (low : i < length items) (is : l ≡ get_or items i l) where
    pub link_goes : IsOpen marks l.next → IsHop value marks links (link_hop value state l)
    link_goes open_next = record { link = l; there = subst (λ (ls : List (Link V)). Has ls l) are (read_Has items i l low is); same = refl; leads = open_next }

    pub look_skips : (nodes : List (Node Cost)) (members later met : List ℕ) → (IsOpen marks l.next → ⊥) → LooksAt kind value marks links source bound k mark takes state so_far items i nodes members later met
        → LooksAt kind value marks links source bound k mark takes state so_far items (i + 1) nodes members later met
    look_skips nodes members later met shut looks =
        subst (λ (hops : List Hop). Looking kind (IsHop value marks links) source (length links) bound k mark takes state so_far hops nodes members later met) (sym (taken_more (link_hop value state) items i l low is))
        (looking_stays kind (IsHop value marks links) source (length links) bound k mark takes (link_hop value state l) so_far (map (link_hop value state) (take i items)) nodes members later met looks (λ g. absurd (shut g.leads)))

    pub look_tries : IsNet (IsHop value marks links) (length links) → (v : Cost) (nodes after : List (Node Cost)) (members now later more met seen : List ℕ) → IsOpen marks l.next
        → v ≡ times kind (value l.weight) so_far → Within most_number (value l.weight) → Within bound (value l.weight) → IsCost kind v
        → LooksAt kind value marks links source bound k mark takes state so_far items i nodes members later met
        → Tried mark l.next v (record { state = state; place = l.place }) nodes after members now later more met seen
        → LooksAt kind value marks links source bound k mark takes state so_far items (i + 1) after now more seen
    look_tries net v nodes after members now later more met seen open_next product range own cost looks tried =
        subst (λ (hops : List Hop). Looking kind (IsHop value marks links) source (length links) bound k mark takes state so_far hops after now more seen) (sym (taken_more (link_hop value state) items i l low is))
        (looking_tried kind (IsHop value marks links) source (length links) bound k mark takes (link_hop value state l) so_far (map (link_hop value state) (take i items)) net v nodes after members now later more met seen (link_goes open_next) product range own cost looks tried)

  hop_done : (h : Hop) → IsHop value marks links h → h.from ≡ state → Has (map (link_hop value state) items) h
  hop_done h goes e =
      let there : Has items goes.link = subst (λ (ls : List (Link V)). Has ls goes.link) (ap (λ (q : ℕ). get_or links q []) e ∙ sym are) goes.there in
      subst (Has (map (link_hop value state) items)) (ap (λ (q : ℕ). link_hop value q goes.link) (sym e) ∙ sym goes.same) (Has-map (link_hop value state) items goes.link there)

  pub look_ends : (i : ℕ) (nodes : List (Node Cost)) (members later met : List ℕ) → length items ≤ i → LooksAt kind value marks links source bound k mark takes state so_far items i nodes members later met
      → Searching kind (IsHop value marks links) source (length links) bound k mark takes (Has members) nodes members later met
  look_ends i nodes members later met all looks =
      looking_ends kind (IsHop value marks links) source (length links) bound k mark takes state so_far (map (link_hop value state) (take i items)) nodes members later met
      (λ h goes e. subst (λ (ls : List (Link V)). Has (map (link_hop value state) ls) h) (sym (take_all i items all)) (hop_done h goes e)) looks

-- a value that is tried leaves as many states to their turns
pub tried_left : (mark state : ℕ) (v : Cost) (step : Step) (nodes after : List (Node Cost)) (members now later more met seen : List ℕ) → state < length nodes
    → Tried mark state v step nodes after members now later more met seen → left mark after ≡ left mark nodes
tried_left mark state v step nodes after members now later more met seen low (inl s) = ap (left mark) s.nodes_same
tried_left mark state v step nodes after members now later more met seen low (inr b) = ap (left mark) b.node ∙ left_same mark state nodes _ low (same (cases_eq (turn_at nodes state) mark))
  where
    same : (turn_at nodes state ≡ mark) ⊎ (turn_at nodes state ≡ mark → ⊥) → nat_lt b.turn mark ≡ nat_lt (turn_at nodes state) mark
    same (inl e) = let put = b.placed.turn_put_off e in grind (arith, nat_tests)
    same (inr other) = ap (λ (t : ℕ). nat_lt t mark) (b.placed.turn_stays other)
