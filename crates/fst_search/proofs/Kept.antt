-- The distances of nodes as a list of values.
use Rattle.std.proofs.Common.{◌≡◌, ◌*◌, ℕ, List, Some, length, map, slice_get, sym, ap, ◌∙◌, subst}
use Rattle.std.proofs.lemmas.List.{length-map}
use Rattle.std.proofs.lemmas.Option.{get_or_from_slice_get}
use Rattle.fst_semiring.specs.Cost.{Cost}
use Rattle.fst_semiring.specs.declared.arc_type.ArcType.{ArcType}
use Rattle.fst_semiring.specs.Semiring.{IsCost, Within}
use Rattle.fst_machine.specs.Distance.{IsLeast}
use Rattle.fst_machine.proofs.Arcs.{mapped_at, at_mapped}
use Rattle.fst_search.specs.Beginning.{AreLeast}
use Rattle.fst_search.specs.Hops.{Hop, Arrives}
use Rattle.fst_search.specs.Searching.{Ended, Node, blank_node, distance_at, valued_node}

-- a value of the list is the distance of the node in its place
value_kept : {D : Type 0} (value : D → Cost) (nodes : List (Node D)) (values : List D) → values ≡ map (λ node. node.distance) nodes → (q : ℕ) (d : Cost) → slice_get (map value values) q ≡ Some d → distance_at (map (valued_node value) nodes) q ≡ d
value_kept {D} value nodes values are q d there =
    let v = mapped_at value values q d there in
    let n = mapped_at (λ (node : Node D). node.distance) nodes q v.0 (ap (λ (xs : List D). slice_get xs q) (sym are) ∙ v.1) in
    ap (λ z. z.distance) (get_or_from_slice_get (map (valued_node value) nodes) q (valued_node value n.0) blank_node (at_mapped (valued_node value) nodes q n.0 n.1)) ∙ (ap value n.2 ∙ v.2)

pub kept_least : {D : Type 0} (kind : ArcType) (Goes : Hop → Type 0) (source : ℕ → Cost) (n bound : ℕ) (value : D → Cost) (nodes : List (Node D)) (values : List D) (met : List ℕ) → values ≡ map (λ node. node.distance) nodes
    → Ended kind Goes source n bound (map (valued_node value) nodes) met → AreLeast kind Goes source n bound (map value values)
kept_least {D} kind Goes source n bound value nodes values met are e = record {
  size = length-map values value ∙ (ap length are ∙ (length-map nodes (λ (node : Node D). node.distance) ∙ (sym (length-map nodes (valued_node value)) ∙ e.size)));
  least = λ q d there. subst (IsLeast (Arrives kind Goes source q)) (value_kept value nodes values are q d there) (e.least q);
  numbers = λ q d there. subst (Within (n * bound)) (value_kept value nodes values are q d there) (e.numbers q);
  kinds = λ q d there. subst (IsCost kind) (value_kept value nodes values are q d there) (e.kinds q);
}
