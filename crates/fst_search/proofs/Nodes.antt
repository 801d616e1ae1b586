-- What nodes say once they are read and written.
use Rattle.std.proofs.Common.{◌≡◌, ◌⊎◌, inl, inr, ℕ, ◌+◌, ◌<◌, ◌≤◌, List, [], ◌∷◌, ◌++◌, Some, Bool, true, false, cond, length, map, set, get_or, nat_lt, sym, refl, ap, ◌∙◌, arith}
use Rattle.std.proofs.lemmas.Bool.Decides.{nat_tests}
use Rattle.std.proofs.lemmas.List.{map-set, get_or-map, get_or-set_same, get_or-set_other}
use Rattle.std.proofs.lemmas.Option.{slice_get-get_or}
use Rattle.std.proofs.lemmas.List.Sums.{sum_by-set, sum_by-cons}
use Rattle.fst_semiring.specs.Cost.{Cost}
use Rattle.fst_machine.specs.BreadthFirst.{Has}
use Rattle.fst_machine.proofs.Elements.{at_Has, Has-append_cases}
use Rattle.fst_search.specs.Hops.{Hop, Better}
use Rattle.fst_search.specs.Searching.{Node, blank_node, distance_at, link_at, turn_at, step_of, valued_node}
use Rattle.fst_search.specs.Trying.{left, waits_turn}
use Rattle.fst_search.proofs.Rounds.{Improves}

-- one more number at the end of a list
pub one_more : (xs : List ℕ) (x q : ℕ) → Has (xs ++ x ∷ []) q → Has xs q ⊎ (q ≡ x)
one_more xs x q h = by_part (Has-append_cases xs (x ∷ []) q h)
  where
    by_part : Has xs q ⊎ Has (x ∷ []) q → Has xs q ⊎ (q ≡ x)
    by_part (inl old) = inl old
    by_part (inr (inl e)) = inr (sym e)
    by_part (inr (inr none)) = absurd none

-- a number that was read is in the list
pub read_number : (xs : List ℕ) (i : ℕ) → i < length xs → Has xs (get_or xs i 0)
read_number xs i low = at_Has xs i (get_or xs i 0) (slice_get-get_or xs i 0 low)

-- a node that was read
pub node_read : {D : Type 0} (value : D → Cost) (nodes : List (Node D)) (i : ℕ) (node : Node D) → i < length nodes → node ≡ get_or nodes i node
    → get_or (map (valued_node value) nodes) i blank_node ≡ valued_node value node
node_read value nodes i node low is = get_or-map (valued_node value) nodes i node blank_node low ∙ ap (valued_node value) (sym is)

-- a node that was written, and the others
pub written_here : (nodes : List (Node Cost)) (i q : ℕ) (node : Node Cost) → i < length nodes → q ≡ i → get_or (set nodes i node) q blank_node ≡ node
written_here nodes i q node low e = ap (λ (j : ℕ). get_or (set nodes i node) j blank_node) e ∙ get_or-set_same nodes i node blank_node low

pub written_other : (nodes : List (Node Cost)) (i q : ℕ) (node : Node Cost) → (q ≡ i → ⊥) → get_or (set nodes i node) q blank_node ≡ get_or nodes q blank_node
written_other nodes i q node other = get_or-set_other nodes i q node blank_node other

pub improves_written : (nodes after : List (Node Cost)) (h : Hop) (v : Cost) (turn : ℕ) → h.to < length nodes
    → after ≡ set nodes h.to (record { distance = v; link = Some (step_of h); turn = turn }) → Better v (distance_at nodes h.to)
    → Improves (distance_at nodes) (distance_at after) (link_at nodes) (link_at after) h v
improves_written nodes after h v turn low is better =
    let node : Node Cost = record { distance = v; link = Some (step_of h); turn = turn } in
    record {
      better = better;
      here = ap (λ (zs : List (Node Cost)). distance_at zs h.to) is ∙ ap (λ z. z.distance) (written_here nodes h.to h.to node low refl);
      linked = ap (λ (zs : List (Node Cost)). link_at zs h.to) is ∙ ap (λ z. z.link) (written_here nodes h.to h.to node low refl);
      others = λ q other. (
        ap (λ (zs : List (Node Cost)). distance_at zs q) is ∙ ap (λ z. z.distance) (written_other nodes h.to q node other),
        ap (λ (zs : List (Node Cost)). link_at zs q) is ∙ ap (λ z. z.link) (written_other nodes h.to q node other),
      );
    }

-- a turn that is before the mark as much as the old one
pub left_same : (mark i : ℕ) (nodes : List (Node Cost)) (node : Node Cost) → i < length nodes → nat_lt node.turn mark ≡ nat_lt (turn_at nodes i) mark → left mark (set nodes i node) ≡ left mark nodes
left_same mark i nodes node low same =
    let sums = sum_by-set (waits_turn mark) nodes i node blank_node low in
    let here : waits_turn mark node ≡ waits_turn mark (get_or nodes i blank_node) = ap (λ b. cond b 1 0) same in
    omega arith

-- a turn that was before the mark, and no more is
pub left_fewer : (mark i : ℕ) (nodes : List (Node Cost)) (node : Node Cost) → i < length nodes → turn_at nodes i < mark → mark ≤ node.turn → left mark (set nodes i node) + 1 ≡ left mark nodes
left_fewer mark i nodes node low before now =
    let sums = sum_by-set (waits_turn mark) nodes i node blank_node low in
    let was : waits_turn mark (get_or nodes i blank_node) ≡ 1 = grind (arith, nat_tests) in
    let is : waits_turn mark node ≡ 0 = grind (arith, nat_tests) in
    omega arith

pub left_few : (mark : ℕ) (nodes : List (Node Cost)) → left mark nodes ≤ length nodes
left_few mark [] = omega arith
left_few mark (node ∷ nodes) =
    let rest = left_few mark nodes in
    let one : waits_turn mark node ≤ 1 = at_most (nat_lt node.turn mark) in
    let all = sum_by-cons (waits_turn mark) node nodes in
    omega arith
  where
    at_most : (b : Bool) → cond b 1 0 ≤ 1
    at_most true = omega arith
    at_most false = omega arith

-- a node that got its turn
pub turn_written : {D : Type 0} (value : D → Cost) (nodes : List (Node D)) (i mark : ℕ) (node : Node D) → i < length nodes → node ≡ get_or nodes i node
    → map (valued_node value) (set nodes i (record { distance = node.distance; link = node.link; turn = mark }))
    ≡ set (map (valued_node value) nodes) i (record { distance = distance_at (map (valued_node value) nodes) i; link = link_at (map (valued_node value) nodes) i; turn = mark })
turn_written value nodes i mark node low is =
    let was = node_read value nodes i node low is in
    let distance : value node.distance ≡ distance_at (map (valued_node value) nodes) i = sym (ap (λ z. z.distance) was) in
    let link : node.link ≡ link_at (map (valued_node value) nodes) i = sym (ap (λ z. z.link) was) in
    let same : ◌≡◌ {A = Node Cost} (record { distance = value node.distance; link = node.link; turn = mark }) (record { distance = distance_at (map (valued_node value) nodes) i; link = link_at (map (valued_node value) nodes) i; turn = mark }) = λ j. record { distance = distance j; link = link j; turn = mark } in
    map-set (valued_node value) nodes i (record { distance = node.distance; link = node.link; turn = mark }) ∙ ap (λ (z : Node Cost). set (map (valued_node value) nodes) i z) same

-- a node that got a distance
pub distance_written : {D : Type 0} (value : D → Cost) (nodes : List (Node D)) (i : ℕ) (d : D) (node : Node D) → i < length nodes → node ≡ get_or nodes i node
    → map (valued_node value) (set nodes i (record { distance = d; link = node.link; turn = node.turn }))
    ≡ set (map (valued_node value) nodes) i (record { distance = value d; link = link_at (map (valued_node value) nodes) i; turn = turn_at (map (valued_node value) nodes) i })
distance_written value nodes i d node low is =
    let was = node_read value nodes i node low is in
    let link : node.link ≡ link_at (map (valued_node value) nodes) i = sym (ap (λ z. z.link) was) in
    let turn : node.turn ≡ turn_at (map (valued_node value) nodes) i = sym (ap (λ z. z.turn) was) in
    let same : ◌≡◌ {A = Node Cost} (record { distance = value d; link = node.link; turn = node.turn }) (record { distance = value d; link = link_at (map (valued_node value) nodes) i; turn = turn_at (map (valued_node value) nodes) i }) = λ j. record { distance = value d; link = link j; turn = turn j } in
    map-set (valued_node value) nodes i (record { distance = d; link = node.link; turn = node.turn }) ∙ ap (λ (z : Node Cost). set (map (valued_node value) nodes) i z) same
