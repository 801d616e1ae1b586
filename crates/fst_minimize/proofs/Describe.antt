-- One state more that is described, and arcs sorted by labels.
use Rattle.std.proofs.Common.{◌≡◌, ◌⊎◌, inl, inr, ℕ, ◌+◌, ◌<◌, List, [], ◌∷◌, ◌++◌, Some, length, get_or, map, slice_get, sym, refl, ap, ap₂, ◌∙◌, subst, arith}
use Rattle.std.specs.List.Sorted.{IsPermutation, IsNonDecreasingBy}
use Rattle.std.proofs.lemmas.List.{get_or-map, length-append, length-map, map-append}
use Rattle.std.proofs.lemmas.List.Sorted.{IsPermutation-map}
use Rattle.fst_semiring.specs.Cost.{Cost}
use Rattle.fst_machine.specs.Machine.{Arc, valued_arc}
use Rattle.fst_machine.specs.Graph.{Graph, nexts}
use Rattle.fst_machine.specs.BreadthFirst.{Apart}
use Rattle.fst_machine.proofs.Arcs.{at_append_left}
use Rattle.fst_minimize.specs.declared.weights.WeightKey.{WeightKey}
use Rattle.fst_minimize.specs.Saying.{Extends, IsByLabel, SaysState}
use Rattle.fst_minimize.specs.Described.{DescribedBy, OncePlaced}
use Rattle.fst_minimize.proofs.Ascending.{sorted_ascend}
use Rattle.fst_distance.proofs.Lists.{push_at, push_last}
use Rattle.fst_minimize.proofs.Said.{says_more}

-- the order by labels is that of the values
sorted_values : {V : Type 0} (value : V → Cost) (xs : List (Arc V ℕ)) → IsNonDecreasingBy (λ (a : Arc V ℕ). a.ilabel) xs → IsNonDecreasingBy (λ (a : Arc Cost ℕ). a.ilabel) (map (valued_arc value) xs)
sorted_values value [] sorted i j d order low = absurd (omega arith)
sorted_values {V} value (x ∷ xs) sorted i j d order low =
    let size : length (map (valued_arc value) (x ∷ xs)) ≡ length (x ∷ xs) = length-map (x ∷ xs) (valued_arc value) in
    let here : j < length (x ∷ xs) = omega arith in
    let one : (get_or (map (valued_arc value) (x ∷ xs)) i d).ilabel ≡ (get_or (x ∷ xs) i x).ilabel = ap (λ (a : Arc Cost ℕ). a.ilabel) (get_or-map (valued_arc value) (x ∷ xs) i x d (omega arith)) in
    let two : (get_or (map (valued_arc value) (x ∷ xs)) j d).ilabel ≡ (get_or (x ∷ xs) j x).ilabel = ap (λ (a : Arc Cost ℕ). a.ilabel) (get_or-map (valued_arc value) (x ∷ xs) j x d here) in
    let both = sorted i j x order here in
    omega arith

-- arcs of which no two have one label, sorted
pub by_label : {V : Type 0} (value : V → Cost) (arcs : List (Arc Cost ℕ)) (old new : List (Arc V ℕ)) → map (valued_arc value) old ≡ arcs → OncePlaced arcs → IsPermutation old new → IsNonDecreasingBy (λ (a : Arc V ℕ). a.ilabel) new → IsByLabel arcs (map (valued_arc value) new)
by_label value arcs old new same once moved sorted =
    let moves = subst (λ xs. IsPermutation xs (map (valued_arc value) new)) same (IsPermutation-map (valued_arc value) old new moved) in
    record { same = moves; ascend = sorted_ascend arcs (map (valued_arc value) new) once moves (sorted_values value new sorted) }

-- a list of no length has nothing in it
pub no_length : {X : Type 0} (xs : List X) → length xs ≡ 0 → xs ≡ []
no_length [] e = refl
no_length (x ∷ xs) e = absurd (omega arith)

-- nothing is described at first
pub described_none : (g : Graph ℕ) (keys : List WeightKey) (rows : List (List ℕ)) → length keys ≡ 0 → rows ≡ [] → DescribedBy g 0 keys [] [] rows
described_none g keys rows none empty = record { size = refl; sizes = refl; apart = subst Apart (sym (no_length keys none)) tt; rows_are = empty; by_label = (λ p arcs e. absurd (cc)); said = (λ p arcs e. absurd (cc)) }

-- one state more
pub described_push : (g : Graph ℕ) (done : ℕ) (keys more : List WeightKey) (sorted : List (List (Arc Cost ℕ))) (seen : List (ℕ × List ℕ)) (rows : List (List ℕ)) (arcs : List (Arc Cost ℕ)) (head : ℕ) (said ends : List ℕ)
    → DescribedBy g done keys sorted seen rows → Extends keys more → Apart more → IsByLabel (g.arcs done) arcs → SaysState more (g.final done) arcs head said → ends ≡ nexts arcs
    → DescribedBy g (done + 1) more (sorted ++ arcs ∷ []) (seen ++ (head, said) ∷ []) (rows ++ ends ∷ [])
described_push g done keys more sorted seen rows arcs head said ends d extends apart by says same = record {
  size = (let n = length-append sorted (arcs ∷ []) in let s = d.size in omega arith);
  sizes = (let n = length-append seen ((head, said) ∷ []) in let s = d.sizes in omega arith);
  apart = apart;
  rows_are = ap₂ (λ rs e. rs ++ e ∷ []) d.rows_are same ∙ sym (map-append nexts sorted (arcs ∷ []));
  by_label = by_each;
  said = said_each;
}
  where
    by_each : (p : ℕ) (xs : List (Arc Cost ℕ)) → slice_get (sorted ++ arcs ∷ []) p ≡ Some xs → IsByLabel (g.arcs p) xs
    by_each p xs e = by_place (push_at sorted arcs xs p e)
      where
        by_place : (slice_get sorted p ≡ Some xs) ⊎ ((p ≡ length sorted) × (arcs ≡ xs)) → IsByLabel (g.arcs p) xs
        by_place (inl old) = d.by_label p xs old
        by_place (inr new) =
            let here : done ≡ p = sym (new.0 ∙ d.size) in
            subst (λ (q : ℕ). IsByLabel (g.arcs q) xs) here (subst (IsByLabel (g.arcs done)) new.1 by)

    said_each : (p : ℕ) (xs : List (Arc Cost ℕ)) → slice_get (sorted ++ arcs ∷ []) p ≡ Some xs → (h : ℕ) × (s : List ℕ) × (slice_get (seen ++ (head, said) ∷ []) p ≡ Some (h, s)) × SaysState more (g.final p) xs h s
    said_each p xs e = by_place (push_at sorted arcs xs p e)
      where
        by_place : (slice_get sorted p ≡ Some xs) ⊎ ((p ≡ length sorted) × (arcs ≡ xs)) → (h : ℕ) × (s : List ℕ) × (slice_get (seen ++ (head, said) ∷ []) p ≡ Some (h, s)) × SaysState more (g.final p) xs h s
        by_place (inl old) =
            let o = d.said p xs old in
            (o.0, o.1, at_append_left seen ((head, said) ∷ []) p (o.0, o.1) o.2, (extends o.0 _ o.3.0, says_more keys more xs o.1 extends o.3.1))
        by_place (inr new) =
            let here : done ≡ p = sym (new.0 ∙ d.size) in
            let place : p ≡ length seen = (new.0 ∙ d.size) ∙ sym d.sizes in
            let there : slice_get (seen ++ (head, said) ∷ []) p ≡ Some (head, said) = ap (slice_get (seen ++ (head, said) ∷ [])) place ∙ push_last seen (head, said) in
            (head, said, there, subst (λ (q : ℕ). SaysState more (g.final q) xs head said) here (subst (λ ys. SaysState more (g.final done) ys head said) new.1 says))

-- the ends are those of the values
pub nexts_valued : {V : Type 0} (value : V → Cost) (arcs : List (Arc V ℕ)) → map (λ a. a.next) arcs ≡ nexts (map (valued_arc value) arcs)
nexts_valued value [] = refl
nexts_valued value (a ∷ arcs) = ap (λ xs. a.next ∷ xs) (nexts_valued value arcs)
