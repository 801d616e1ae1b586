-- Numbers at the end of a line: a negative one, and a weight that is a single number.
use Rattle.std.proofs.Common.{◌≡◌, ◌∷◌, ◌++◌, List, ℕ, length, drop, Some, ap, arith, append-nil, ℤ, pos, negsuc, false, int_le, unsigned_abs, true≢false, refl, sym, ◌∙◌}
use lib.Dec.{leb-zero}
use Rattle.std.specs.Fmt.{decimal, signed_decimal}
use Rattle.std.proofs.lemmas.List.{drop_all}
use Rattle.fst_semiring.specs.declared.arc_type.ArcType.{ArcType}
use Rattle.fst_semiring.specs.declared.arc_type.ArcType.TheVariants.{Boolean, Tropical, MinMax, Lexicographic}
use Rattle.fst_semiring.specs.Cost.{Cost, best, finite, infinite}
use Rattle.fst_semiring.specs.Semiring.{single_number}
use Rattle.fst_semiring.specs.WeightText.{text_of_cost}

-- nothing stands behind the end of the room of a line
pub line_end : (front line : List ℕ) → length line ≡ 65 → front ++ drop 65 line ≡ front
line_end front line full = ap (λ (rest : List ℕ). front ++ rest) (drop_all 65 line (omega arith)) ∙ append-nil front

pub minus_first : (z : ℤ) → int_le (pos 0) z ≡ false → 45 ∷ decimal (unsigned_abs z) ≡ signed_decimal z
minus_first (pos n) e = absurd (true≢false (sym (leb-zero n) ∙ e))
minus_first (negsuc n) e = refl

-- the text of a weight that is a single number
pub text_of_number : (kind : ArcType) (w : Cost) (n : ℤ) → single_number kind w ≡ Some n → text_of_cost kind w ≡ signed_decimal n
text_of_number Boolean infinite n e = absurd (cc)
text_of_number Boolean best n e = absurd (cc)
text_of_number Boolean (finite a b) n e = absurd (cc)
text_of_number Tropical infinite n e = absurd (cc)
text_of_number Tropical best n e = absurd (cc)
text_of_number Tropical (finite a b) n e = let same : a ≡ n = cc in ap signed_decimal same
text_of_number MinMax infinite n e = absurd (cc)
text_of_number MinMax best n e = absurd (cc)
text_of_number MinMax (finite a b) n e = let same : a ≡ n = cc in ap signed_decimal same
text_of_number Lexicographic infinite n e = absurd (cc)
text_of_number Lexicographic best n e = absurd (cc)
text_of_number Lexicographic (finite a b) n e = absurd (cc)
