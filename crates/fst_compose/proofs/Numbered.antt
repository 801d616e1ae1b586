-- The successful paths of a machine that numbers the names of a graph are those of the graph, one to one.
use Rattle.std.proofs.Common.{◌≡◌, ℕ, List, [], ◌∷◌, Some, get_or, slice_get, sym, refl, ap, ◌∙◌, subst}
use Rattle.std.proofs.lemmas.Option.{slice_get-get_or, slice_get_within}
use Rattle.fst_semiring.specs.Cost.{Cost}
use Rattle.fst_semiring.specs.declared.arc_type.ArcType.{ArcType}
use Rattle.fst_machine.specs.Machine.{Arc, Machine}
use Rattle.fst_machine.specs.Graph.{Graph, graph_of, renamed}
use Rattle.fst_machine.specs.Letters.{letter_of}
use Rattle.fst_machine.specs.Numbering.{IsNumbered, start_of}
use Rattle.fst_machine.proofs.Arcs.{at_mapped, mapped_at}
use Rattle.fst_trim.specs.OneToOne.{IsOneToOne}
use Rattle.fst_trim.proofs.OneToOne.{TiesArcs, TiesOnce, tied_one_to_one}
use Rattle.fst_compose.specs.Reading.{GoesThrough}

-- names that begin have a first number
first_starts : {N : Type 0} (names : List N) (n : N) → slice_get names 0 ≡ Some n → start_of names ≡ Some 0
first_starts [] n e = absurd (cc)
first_starts (x ∷ names) n e = refl

-- and a machine that starts has a first name
starts_first : {N : Type 0} (names : List N) (i : ℕ) → start_of names ≡ Some i → (n : N) × (slice_get names 0 ≡ Some n) × (slice_get names i ≡ Some n)
starts_first [] i e = absurd (cc)
starts_first (n ∷ names) i e = (n, refl, (let first : 0 ≡ i = cc in subst (λ (j : ℕ). slice_get (n ∷ names) j ≡ Some n) first refl))

module _ {N : Type 0} (g : Graph N) (names : List N) (m : Machine Cost) (h : IsNumbered g names m) where
  names_tie : TiesArcs (λ (n : N) (i : ℕ). slice_get names i ≡ Some n) (λ (n : N) (i k j : ℕ). k ≡ j) g (graph_of m)
  names_tie = record {
    start = λ n starts reaches. (0, h.start ∙ first_starts names n (sym h.first ∙ starts), sym h.first ∙ starts);
    arcs = λ n i k a tied has reaches.
        let from = mapped_at (renamed (λ j. get_or names j n)) ((graph_of m).arcs i) k a (ap (λ arcs. slice_get arcs k) (sym (h.arcs i n n tied)) ∙ has) in
        let low = h.within i k from.0 (slice_get_within names i n tied) from.1 in
        (k, from.0, from.1, ap letter_of from.2, slice_get-get_or names from.0.next n low ∙ ap (λ (z : Arc Cost N). Some z.next) from.2, refl);
    final = λ n i tied. sym (h.final i n tied);
  }

  numbers_tie : TiesArcs (λ (i : ℕ) (n : N). slice_get names i ≡ Some n) (λ (i : ℕ) (n : N) (j k : ℕ). k ≡ j) (graph_of m) g
  numbers_tie = record {
    start = λ i starts reaches. let n = starts_first names i (sym h.start ∙ starts) in (n.0, h.first ∙ n.1, n.2);
    arcs = λ i n j b tied has reaches.
        let a : Arc Cost N = renamed (λ x. get_or names x n) b in
        let low = h.within i j b (slice_get_within names i n tied) has in
        (j, a, ap (λ arcs. slice_get arcs j) (h.arcs i n n tied) ∙ at_mapped (renamed (λ x. get_or names x n)) ((graph_of m).arcs i) j b has, refl, slice_get-get_or names b.next n low, refl);
    final = λ i n tied. h.final i n tied;
  }

  name_once : TiesOnce (λ (n : N) (i : ℕ). slice_get names i ≡ Some n) (λ (n : N) (i k j : ℕ). k ≡ j)
  name_once = record { place = λ n i l k j x one two at other. sym at ∙ other }

  number_once : TiesOnce (λ (i : ℕ) (n : N). slice_get names i ≡ Some n) (λ (i : ℕ) (n : N) (j k : ℕ). k ≡ j)
  number_once = record { place = λ i n p j k x one two at other. at ∙ sym other }

  pub numbered_one_to_one : (kind : ArcType) → IsOneToOne kind g (graph_of m) (GoesThrough names)
  numbered_one_to_one kind = tied_one_to_one (λ (n : N) (i : ℕ). slice_get names i ≡ Some n) (λ (n : N) (i k j : ℕ). k ≡ j) g (graph_of m) names_tie numbers_tie name_once number_once kind
