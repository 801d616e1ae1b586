-- The arcs of a name in parts.
use Rattle.std.proofs.Common.{◌≡◌, ◌≤◌, ℕ, List, [], ◌++◌, drop, map, sym, ap, ap₂, ◌∙◌, append-nil, append_assoc}
use Rattle.std.specs.List.{flat_map, slice_range}
use Rattle.std.proofs.lemmas.Grind.{flat_map-append}
use Rattle.std.proofs.lemmas.List.{drop-map, map-append}
use Rattle.std.proofs.lemmas.List.Folds.{drop_split}
use Rattle.fst_semiring.specs.Cost.{Cost}
use Rattle.fst_semiring.specs.declared.arc_type.ArcType.{ArcType}
use Rattle.fst_machine.specs.Graph.{graph_of}
use Rattle.fst_machine.specs.Machine.{Arc, Machine, valued, valued_arc}
use Rattle.fst_machine.proofs.Walking.{graph_arcs}
use Rattle.fst_compose.specs.Matching.{HasArcs, composition_rest, name_arcs}
use Rattle.fst_compose.specs.Names.{Name}
use Rattle.fst_compose.specs.declared.matching.Ordered.{Ordered}
use Rattle.fst_compose.specs.declared.matching.Ordered.TheVariants.{First, Second, Both}

module _ {X Y Z : Type 0} (f : Y → List Z) (v : X → Y) (xs : List X) (seconds : List Z) where
  -- all that are left are put
  pub all_left : (from : ℕ) (rest : List X) (old new : List Z) → rest ≡ drop from xs → new ≡ old ++ (flat_map f (map v rest) ++ seconds) → new ++ [] ≡ old ++ (flat_map f (drop from (map v xs)) ++ seconds)
  all_left from rest old new is put = append-nil new ∙ (put ∙ ap (λ zs. old ++ (flat_map f zs ++ seconds)) (ap (map v) is ∙ sym (drop-map v from xs)))

  -- some are put, and the others are left
  pub some_left : (from next : ℕ) (old new : List Z) → from ≤ next → new ≡ old ++ flat_map f (map v (slice_range xs from next)) → new ++ (flat_map f (drop next (map v xs)) ++ seconds) ≡ old ++ (flat_map f (drop from (map v xs)) ++ seconds)
  some_left from next old new order put =
      ap (λ zs. zs ++ (flat_map f (drop next (map v xs)) ++ seconds)) put
      ∙ (append_assoc old part (flat_map f (drop next (map v xs)) ++ seconds)
      ∙ ap (λ zs. old ++ zs) (sym (append_assoc part (flat_map f (drop next (map v xs))) seconds) ∙ ap (λ zs. zs ++ seconds) (sym whole)))
    where
      part : List Z
      part = flat_map f (map v (slice_range xs from next))

      whole : flat_map f (drop from (map v xs)) ≡ part ++ flat_map f (drop next (map v xs))
      whole =
          ap (flat_map f) (drop-map v from xs ∙ (ap (map v) (drop_split xs from next order) ∙ map-append v (slice_range xs from next) (drop next xs)))
          ∙ (flat_map-append f (map v (slice_range xs from next)) (map v (drop next xs)) ∙ ap (λ zs. part ++ flat_map f zs) (sym (drop-map v next xs)))

module _ {V : Type 0} (kind : ArcType) (value : V → Cost) (a b : Machine V) (n : Name ℕ ℕ) (xs ys : List (Arc V ℕ)) (first : HasArcs a n.first xs) (second : HasArcs b n.second ys) (ordered : Ordered) where
  firsts : (graph_of (valued value a)).arcs n.first ≡ map (valued_arc value) xs
  firsts = graph_arcs value a n.first xs first

  others : (graph_of (valued value b)).arcs n.second ≡ map (valued_arc value) ys
  others = graph_arcs value b n.second ys second

  -- what is left of the arcs of these two states
  pub rest_at_once : ordered ≡ First → (from : ℕ) → composition_rest ordered kind value a b n from ≡ name_arcs kind n (map (valued_arc value) xs) (map (valued_arc value) ys)
  rest_at_once is from = ap (λ (o : Ordered). composition_rest o kind value a b n from) is ∙ ap₂ (λ (us ws : List (Arc Cost ℕ)). name_arcs kind n us ws) firsts others

  pub rest_by_second : ordered ≡ Second → composition_rest ordered kind value a b n ≡ (λ (i : ℕ). name_arcs kind n (drop i (map (valued_arc value) xs)) (map (valued_arc value) ys))
  rest_by_second is =
      let left : List (Arc Cost ℕ) → List (Arc Cost ℕ) → ℕ → List (Arc Cost (Name ℕ ℕ)) = λ us ws i. name_arcs kind n (drop i us) ws in
      ap (λ (o : Ordered). composition_rest o kind value a b n) is ∙ ap₂ left firsts others

  pub rest_by_both : ordered ≡ Both → composition_rest ordered kind value a b n ≡ (λ (i : ℕ). name_arcs kind n (drop i (map (valued_arc value) xs)) (map (valued_arc value) ys))
  rest_by_both is =
      let left : List (Arc Cost ℕ) → List (Arc Cost ℕ) → ℕ → List (Arc Cost (Name ℕ ℕ)) = λ us ws i. name_arcs kind n (drop i us) ws in
      ap (λ (o : Ordered). composition_rest o kind value a b n) is ∙ ap₂ left firsts others
