-- What moves say: the input of the first, the output of the second, the product of both.
use Rattle.std.proofs.Common.{◌≡◌, List, [], ◌∷◌, map, sym, refl, ap, ◌∙◌}
use Rattle.fst_semiring.specs.Cost.{Cost}
use Rattle.fst_semiring.specs.declared.arc_type.ArcType.{ArcType}
use Rattle.fst_semiring.specs.Semiring.{one_of, times}
use Rattle.fst_semiring.proofs.Laws.{times_assoc, times_comm, times_four, one_times}
use Rattle.fst_machine.specs.Letters.{Letter, letter_of, before, input, output, product}
use Rattle.fst_machine.specs.Paths.{Transition, letters}
use Rattle.fst_compose.specs.Names.{Name}
use Rattle.fst_compose.specs.Moves.{Move, both, first_only, second_only, firsts, seconds, arc_by}
use Rattle.fst_compose.proofs.Merge.{word}
use Rattle.fst_compose.proofs.Moves.{writes, reads}

-- the string of a path's labels is what it writes, and what it reads
pub word-writes : {N : Type 0} (path : List (Transition N)) → word writes path ≡ output (letters path)
word-writes [] = refl
word-writes (t ∷ path) = ap (before t.arc.olabel) (word-writes path)

pub word-reads : {N : Type 0} (path : List (Transition N)) → word reads path ≡ input (letters path)
word-reads [] = refl
word-reads (t ∷ path) = ap (before t.arc.ilabel) (word-reads path)

module _ {N M : Type 0} (kind : ArcType) where
  -- the letter of the arc that a move makes
  abbrev pub letter_by : Move (Transition N) (Transition M) → Letter
  letter_by (both s t) = record { ilabel = s.arc.ilabel; olabel = t.arc.olabel; weight = times kind s.arc.weight t.arc.weight }
  letter_by (first_only s) = record { ilabel = s.arc.ilabel; olabel = 0; weight = s.arc.weight }
  letter_by (second_only t) = record { ilabel = 0; olabel = t.arc.olabel; weight = t.arc.weight }

  pub arc_by-letter : (n : Name N M) (m : Move (Transition N) (Transition M)) → letter_of (arc_by kind n m) ≡ letter_by m
  arc_by-letter n (both s t) = refl
  arc_by-letter n (first_only s) = refl
  arc_by-letter n (second_only t) = refl

  -- moves read what their firsts read
  pub moves-input : (ms : List (Move (Transition N) (Transition M))) → input (map letter_by ms) ≡ input (letters (firsts ms))
  moves-input [] = refl
  moves-input (both s t ∷ ms) = ap (before s.arc.ilabel) (moves-input ms)
  moves-input (first_only s ∷ ms) = ap (before s.arc.ilabel) (moves-input ms)
  moves-input (second_only t ∷ ms) = moves-input ms

  -- they write what their seconds write
  pub moves-output : (ms : List (Move (Transition N) (Transition M))) → output (map letter_by ms) ≡ output (letters (seconds ms))
  moves-output [] = refl
  moves-output (both s t ∷ ms) = ap (before t.arc.olabel) (moves-output ms)
  moves-output (first_only s ∷ ms) = moves-output ms
  moves-output (second_only t ∷ ms) = ap (before t.arc.olabel) (moves-output ms)

  -- they weigh the product of both
  pub moves-product : (ms : List (Move (Transition N) (Transition M))) → product kind (map letter_by ms) ≡ times kind (product kind (letters (firsts ms))) (product kind (letters (seconds ms)))
  moves-product [] = sym (one_times kind (one_of kind))
  moves-product (both s t ∷ ms) = ap (times kind (times kind s.arc.weight t.arc.weight)) (moves-product ms) ∙ times_four kind s.arc.weight t.arc.weight (product kind (letters (firsts ms))) (product kind (letters (seconds ms)))
  moves-product (first_only s ∷ ms) = ap (times kind s.arc.weight) (moves-product ms) ∙ sym (times_assoc kind s.arc.weight (product kind (letters (firsts ms))) (product kind (letters (seconds ms))))
  moves-product (second_only t ∷ ms) =
      let u : Cost = t.arc.weight in
      let v : Cost = product kind (letters (firsts ms)) in
      let w : Cost = product kind (letters (seconds ms)) in
      let front : times kind u (times kind v w) ≡ times kind v (times kind u w) = sym (times_assoc kind u v w) ∙ (ap (λ z. times kind z w) (times_comm kind u v) ∙ times_assoc kind v u w) in
      ap (times kind u) (moves-product ms) ∙ front
