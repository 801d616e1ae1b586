-- The text of a weight in the text form of a machine, by arc type.
use Rattle.std.specs.Prelude.{
  ◌≡◌,
  ℕ,
  ℤ,
  pos,
  neg_ℤ,
  List,
  [],
  ◌∷◌,
  Option,
  Some,
  None,
  Result,
  Ok,
  Err,
  option_and_then,
  nat_le,
  codes,
  ◌==◌,
  ◌++◌,
  if◌then◌else◌,
}
use Rattle.std.specs.Fmt.{signed_decimal}
use Rattle.std.specs.Option.{option_map}
use Rattle.std.specs.Str.{bytes_eq}
use Rattle.std.specs.List.{before_first, after_first}
use Rattle.fst_fields.specs.Decimal.{natural_of_text}
use Rattle.fst_semiring.specs.declared.arc_type.ArcType.{ArcType}
use Rattle.fst_semiring.specs.declared.arc_type.ArcType.TheVariants.{Boolean, Tropical, MinMax, Lexicographic}
use Rattle.fst_semiring.specs.Cost.{Cost, best, finite, infinite}

-- the number, where it is at most 10 to the 18
abbrev pub up_to_limit : ℕ → Option ℕ
up_to_limit n = if nat_le n 1000000000000000000 then Some n else None

-- one to nineteen decimal digits, for a number of at most 10 to the 18
abbrev pub magnitude_of_text : List ℕ → Option ℕ
magnitude_of_text digits = option_and_then up_to_limit (natural_of_text 19 digits)

-- an optional minus sign, and a magnitude
abbrev pub number_of_text : List ℕ → Option ℤ
number_of_text [] = None
number_of_text (c ∷ cs) = if c == 45 then option_map (λ n. neg_ℤ (pos n)) (magnitude_of_text cs) else option_map (λ n. pos n) (magnitude_of_text (c ∷ cs))

-- a number as the first of a pair
abbrev pub cost_of_number : Option ℤ → Option Cost
cost_of_number number = option_map (λ n. finite n (pos 0)) number

-- two numbers with one comma between them
abbrev pub cost_of_pair : List ℕ → Option Cost
cost_of_pair text = option_and_then
    (λ a. option_map (λ b. finite a b) (number_of_text (after_first (λ c. c == 44) text))) (number_of_text (before_first (λ c. c == 44) text))

-- the value that a weight text stands for, if it is one of the arc type
abbrev pub cost_of_text : ArcType → List ℕ → Option Cost
cost_of_text Boolean text = if bytes_eq text (codes "0") then Some infinite else (if bytes_eq text (codes "1") then Some (finite (pos 0) (pos 0)) else None)
cost_of_text Tropical text = if bytes_eq text (codes "Infinity") then Some infinite else cost_of_number (number_of_text text)
cost_of_text MinMax text = if bytes_eq text (codes "Infinity") then Some infinite
    else (if bytes_eq text (codes "-Infinity") then Some best else cost_of_number (number_of_text text))
cost_of_text Lexicographic text = if bytes_eq text (codes "Infinity,Infinity") then Some infinite else cost_of_pair text

-- what was read is this value, or nothing was, where there is none
abbrev pub ReadsAs : {W E : Type 0} → (W → Cost) → Result W E → Option Cost → Type 0
ReadsAs value (Ok w) found = found ≡ Some (value w)
ReadsAs value (Err e) found = found ≡ None

-- the printed form of a value: no leading zeros, and a sign on negative numbers alone
abbrev pub text_of_cost : ArcType → Cost → List ℕ
text_of_cost Boolean infinite = codes "0"
text_of_cost Boolean best = codes "1"
text_of_cost Boolean (finite a b) = codes "1"
text_of_cost Tropical infinite = codes "Infinity"
text_of_cost Tropical best = codes "-Infinity"
text_of_cost Tropical (finite a b) = signed_decimal a
text_of_cost MinMax infinite = codes "Infinity"
text_of_cost MinMax best = codes "-Infinity"
text_of_cost MinMax (finite a b) = signed_decimal a
text_of_cost Lexicographic infinite = codes "Infinity,Infinity"
text_of_cost Lexicographic best = codes "-Infinity,-Infinity"
text_of_cost Lexicographic (finite a b) = signed_decimal a ++ codes "," ++ signed_decimal b
